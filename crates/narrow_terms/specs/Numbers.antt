-- Terms and limits whose numbers 64 bits hold.
use Rattle.std.specs.Prelude.{ℤ, Bool, true, ◌&&◌, List, [], ◌∷◌, ◌++◌, Option, Some, None}
use Rattle.std.specs.List.{list_all}
use Rattle.core_language.specs.Names.{Ident}
use Rattle.core_language.specs.Terms.{Term, Relation, AtMost, Less, Same, Limit}
use Rattle.linear_forms.specs.Terms.{less, one}
use Rattle.linear_forms.specs.Normal.{fits}
use Rattle.linear_forms.specs.NormalTerms.{count_of, bare_of}

abbrev pub name_fits : (Ident → ℤ) → Option Ident → Bool
name_fits count None = true
name_fits count (Some x) = fits (count x)

-- 64 bits hold what the names of a term count
unfoldable pub are_narrow : (Ident → ℤ) → Term → Bool
are_narrow count term = list_all (λ part. name_fits count part.name) term

unfoldable pub is_narrow : Term → Bool
is_narrow term = are_narrow (λ x. count_of x term) term && fits (bare_of term)

-- ---- the rows of a limit

-- the terms that are at most 0 where the limit holds
abbrev pub rows_of : Relation → Term → Term → List Term
rows_of AtMost a b = less a b ∷ []
rows_of Less a b = (less a b ++ one ∷ []) ∷ []
rows_of Same a b = less a b ∷ less b a ∷ []

unfoldable pub is_narrow_limit : Limit → Bool
is_narrow_limit limit = list_all is_narrow (rows_of limit.relation limit.left limit.right)
