-- Binders that have new names, and terms put in besides.
use Rattle.std.proofs.Common.{◌≡◌, ℕ, suc, ◌+◌, ℤ, pos, ◌+ℤ◌, ◌*ℤ◌, Bool, true, false, if◌then◌else◌, List, [], ◌∷◌, ◌++◌, Option, Some, None, option_map, refl, ap, ◌∙◌, arith}
use Rattle.std.proofs.lemmas.Int.{ints}
use Rattle.core_language.specs.Names.{Ident, same}
use Rattle.core_language.specs.Terms as core
use Rattle.linear_forms.specs.Terms.{times_of, counted, sum_of, named}
use Rattle.linear_forms.specs.Substitution.{Var, Free, Inside, place_of, at_place, sum_under}
use Rattle.chan_base.specs.declared.spans.Span.{Span}
use Rattle.chan_syntax.specs.declared.linear.Term.{Term}
use Rattle.chan_syntax.specs.Reading.{term_of}
use Rattle.session_lowering.specs.declared.puts.Put.{Put}
use Rattle.session_lowering.specs.PutTerms.{puts, put_in_parts}
use Rattle.session_lowering.specs.Helpers.{names_as_terms}
use Rattle.put_term_laws.specs.PutTerms.{vars_of}
use Rattle.put_term_laws.specs.Under.{IsClear, IsClearTerm, AreClear, StandFrom, AsMany, RenamedIsPut}
use Rattle.put_term_laws.proofs.Counted.{normal_is_same}
use Rattle.put_term_laws.proofs.Puts.{put_in}

-- what a name is under the new names
abbrev under : (Var → ℤ) → List Ident → Ident → ℤ
under at after x = at_place at (at (Free x)) (place_of after x)

clear_is_free : (at : Var → ℤ) (after : List Ident) (x : Ident) → place_of after x ≡ None → under at after x ≡ at (Free x)
clear_is_free at after x is = ap (at_place at (at (Free x))) is

-- clear terms don't see them
sum_clear : (at : Var → ℤ) (after : List Ident) (t : core.Term) → IsClearTerm after t → sum_of (pos 1) (under at after) t ≡ sum_of (pos 1) (λ y. at (Free y)) t
sum_clear at after [] is = refl
sum_clear at after (p ∷ ps) (first, rest) =
    ap (λ z. (times_of p *ℤ z) +ℤ sum_of (pos 1) (under at after) ps) (by_name p.name first)
    ∙ ap (λ z. (times_of p *ℤ counted (pos 1) (λ y. at (Free y)) p.name) +ℤ z) (sum_clear at after ps rest)
  where
    by_name : (o : Option Ident) → IsClear after o → counted (pos 1) (under at after) o ≡ counted (pos 1) (λ y. at (Free y)) o
    by_name None is = refl
    by_name (Some x) is = clear_is_free at after x is

named_clear : (at : Var → ℤ) (after : List Ident) (ps : List Put) (x : Ident) → AreClear after ps → place_of after x ≡ None
    → named (vars_of ps) (pos 1) (under at after) x ≡ named (vars_of ps) (pos 1) (λ y. at (Free y)) x
named_clear at after [] x are is = clear_is_free at after x is
named_clear at after (p ∷ ps) x (first, rest) is = pick (same p.name x) (sum_clear at after (term_of p.term) first) (named_clear at after ps x rest is)
  where
    pick : (b : Bool) → sum_of (pos 1) (under at after) (term_of p.term) ≡ sum_of (pos 1) (λ y. at (Free y)) (term_of p.term)
        → named (vars_of ps) (pos 1) (under at after) x ≡ named (vars_of ps) (pos 1) (λ y. at (Free y)) x
        → (if b then sum_of (pos 1) (under at after) (term_of p.term) else named (vars_of ps) (pos 1) (under at after) x)
        ≡ (if b then sum_of (pos 1) (λ y. at (Free y)) (term_of p.term) else named (vars_of ps) (pos 1) (λ y. at (Free y)) x)
    pick true a b = a
    pick false a b = b

-- a binder, counted from a place on
abbrev inside_from : (Var → ℤ) → ℕ → ℤ → Option ℕ → ℤ
inside_from at k free None = free
inside_from at k free (Some i) = at (Inside (k + i))

one_more : (at : Var → ℤ) (k : ℕ) (free : ℤ) (o : Option ℕ) → inside_from at (suc k) free o ≡ inside_from at k free (option_map suc o)
one_more at k free None = refl
one_more at k free (Some i) = ap (λ n. at (Inside n)) (omega arith)

from_first : (at : Var → ℤ) (free : ℤ) (o : Option ℕ) → inside_from at 0 free o ≡ at_place at free o
from_first at free None = refl
from_first at free (Some i) = ap (λ n. at (Inside n)) (omega arith)

once : (z : ℤ) → (pos 1 *ℤ z) +ℤ pos 0 ≡ z
once z = omega (arith, ints)

renamed_name : (at : Var → ℤ) (span : Span) (after : List Ident) (ps : List Put) (x : Ident) (k : ℕ) (bs ns : List Ident)
    → AsMany bs ns → StandFrom after k ns → AreClear after ps → place_of after x ≡ None
    → named (vars_of (puts bs (names_as_terms span ns) ++ ps)) (pos 1) (under at after) x
    ≡ inside_from at k (named (vars_of ps) (pos 1) (λ y. at (Free y)) x) (place_of bs x)
renamed_name at span after ps x k [] [] many stand are is = named_clear at after ps x are is
renamed_name at span after ps x k [] (n ∷ ns) many stand are is = absurd many
renamed_name at span after ps x k (b ∷ bs) [] many stand are is = absurd many
renamed_name at span after ps x k (b ∷ bs) (n ∷ ns) many (here, stand) are is =
    pick (same b x) (renamed_name at span after ps x (suc k) bs ns many stand are is ∙ one_more at k (named (vars_of ps) (pos 1) (λ y. at (Free y)) x) (place_of bs x))
  where
    its_own : (pos 1 *ℤ under at after n) +ℤ pos 0 ≡ at (Inside (k + 0))
    its_own = once (under at after n) ∙ ap (at_place at (at (Free n))) here ∙ ap (λ m. at (Inside m)) (omega arith)

    pick : (c : Bool) → named (vars_of (puts bs (names_as_terms span ns) ++ ps)) (pos 1) (under at after) x ≡ inside_from at k (named (vars_of ps) (pos 1) (λ y. at (Free y)) x) (option_map suc (place_of bs x))
        → (if c then ((pos 1 *ℤ under at after n) +ℤ pos 0) else named (vars_of (puts bs (names_as_terms span ns) ++ ps)) (pos 1) (under at after) x)
        ≡ inside_from at k (named (vars_of ps) (pos 1) (λ y. at (Free y)) x) (if c then Some 0 else option_map suc (place_of bs x))
    pick true more = its_own
    pick false more = more

sum_renamed : (at : Var → ℤ) (span : Span) (before after : List Ident) (ps : List Put) (t : core.Term) → AsMany before after → StandFrom after 0 after → AreClear after ps → IsClearTerm after t
    → sum_of (pos 1) (named (vars_of (puts before (names_as_terms span after) ++ ps)) (pos 1) (under at after)) t ≡ sum_under before (vars_of ps) (pos 1) at t
sum_renamed at span before after ps [] many stand are is = refl
sum_renamed at span before after ps (p ∷ rest) many stand are (first, others) =
    ap (λ z. (times_of p *ℤ z) +ℤ sum_of (pos 1) (named (vars_of (puts before (names_as_terms span after) ++ ps)) (pos 1) (under at after)) rest) (by_name p.name first)
    ∙ ap (λ z. (times_of p *ℤ counted (pos 1) (λ x. at_place at (named (vars_of ps) (pos 1) (λ y. at (Free y)) x) (place_of before x)) p.name) +ℤ z) (sum_renamed at span before after ps rest many stand are others)
  where
    by_name : (o : Option Ident) → IsClear after o
        → counted (pos 1) (named (vars_of (puts before (names_as_terms span after) ++ ps)) (pos 1) (under at after)) o
        ≡ counted (pos 1) (λ x. at_place at (named (vars_of ps) (pos 1) (λ y. at (Free y)) x) (place_of before x)) o
    by_name None is = refl
    by_name (Some x) is = renamed_name at span after ps x 0 before after many stand are is ∙ from_first at (named (vars_of ps) (pos 1) (λ y. at (Free y)) x) (place_of before x)

pub renamed_is_put : RenamedIsPut
renamed_is_put span before after ps t many stand are is at =
    normal_is_same span (put_in_parts (puts before (names_as_terms span after) ++ ps) t.parts) (pos 1) (under at after)
    ∙ put_in (pos 1) (under at after) (puts before (names_as_terms span after) ++ ps) t.parts
    ∙ sum_renamed at span before after ps (term_of t) many stand are is
