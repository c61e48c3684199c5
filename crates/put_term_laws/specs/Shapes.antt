-- Shapes whose binders are renamed s.0, s.1 and so on.
use Rattle.std.specs.Prelude.{◌≡◌, ℕ, ◌≤◌, ◌^◌, false, codes, List, [], ◌∷◌, Option, Some, None}
use Rattle.std.specs.List.{AllByRecursion}
use Rattle.core_language.specs.Names.{Ident, same}
use Rattle.core_language.specs.Terms as core
use Rattle.core_language.specs.Resources as resource
use Rattle.linear_forms.specs.Substitution.{IsShapeLike, AnyNames, IsPutTerm}
use Rattle.chan_base.specs.declared.spans.Span.{Span}
use Rattle.chan_syntax.specs.declared.resources.Shape.{Shape}
use Rattle.chan_syntax.specs.Reading.{term_of, shape_of}
use Rattle.session_lowering.specs.MadeNames.{numbered}
use Rattle.session_lowering.specs.declared.puts.Put.{Put}
use Rattle.session_lowering.specs.Helpers.{binders_of, renamed_shape}
use Rattle.put_term_laws.specs.PutTerms.{vars_of}

abbrev pub inside_name : ℕ → Ident
inside_name j = numbered (codes "s") j

-- no name s.j
abbrev pub IsOther : Option Ident → Type 0
IsOther None = Unit {0}
IsOther (Some x) = (j : ℕ) → same (inside_name j) x ≡ false

abbrev pub IsOtherTerm : core.Term → Type 0
IsOtherTerm [] = Unit {0}
IsOtherTerm (p ∷ ps) = IsOther p.name × IsOtherTerm ps

abbrev pub IsOtherLimit : core.Limit → Type 0
IsOtherLimit l = IsOtherTerm l.left × IsOtherTerm l.right

abbrev mutual
  pub IsOtherShape : resource.Shape → Type 0
  IsOtherShape resource.Unit = Unit {0}
  IsOtherShape (resource.Int t) = IsOtherTerm t
  IsOtherShape (resource.End r) = AllByRecursion IsOtherTerm r.args
  IsOtherShape (resource.Pair a b) = IsOtherRes a × IsOtherRes b
  IsOtherShape (resource.Sum rs) = AreOther rs

  pub IsOtherRes : resource.Res → Type 0
  IsOtherRes (resource.Binds b s) = AllByRecursion IsOtherLimit b.limits × IsOtherShape s

  pub AreOther : resource.Resources → Type 0
  AreOther resource.NoMore = Unit {0}
  AreOther (resource.More r rs) = IsOtherRes r × AreOther rs

abbrev pub ArePutOther : List Put → Type 0
ArePutOther ps = AllByRecursion (λ p. IsOtherTerm (term_of p.term)) ps

-- a shape that lowering renames is the shape with the terms put in, up to the names of binders
abbrev pub RenamedShapeIsPut : Type 0
RenamedShapeIsPut = (span : Span) (ps : List Put) (x : Shape) → binders_of x ≤ 2 ^ 64 → ArePutOther ps → IsOtherShape (shape_of x)
    → IsShapeLike AnyNames (IsPutTerm (vars_of ps)) [] [] (shape_of x) (shape_of (renamed_shape span 0 ps x))
