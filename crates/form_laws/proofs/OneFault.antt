-- A program has one first fault of form.
use Rattle.std.proofs.Common.{◌≡◌, ℕ, Bool, true, false, ◌&&◌, ◌||◌, true≢false, List, [], ◌∷◌, ◌++◌, length, Option, Some, None, slice_get, refl, sym, ap, ◌∙◌, subst, arith, ◌⊎◌, inl, inr, ⊎_elim}
use Rattle.std.specs.List.{list_all, list_any}
use Rattle.std.proofs.lemmas.Bool.{cases_lt}
use Rattle.std.proofs.lemmas.Option.{same_Some}
use Rattle.chan_syntax.specs.declared.operands.Letter.{Letter}
use Rattle.chan_syntax.specs.declared.operands.Letter.TheVariants as letter
use Rattle.chan_syntax.specs.declared.resources.Proto.{Proto}
use Rattle.form_faults.specs.declared.faults.IllKind.TheVariants as kind
use Rattle.form_faults.specs.declared.faults.Ill.{Ill}
use Rattle.form_faults.specs.Faults.{is_sooner, IsFirst}
use Rattle.protocol_guard.specs.declared.graphs.Turns.{Turns}
use Rattle.protocol_guard.specs.Guards.{IsGuarded, IsFirstCycle, IsBefore, ThenFirst, graph_of, names_on}
use Rattle.core_programs.specs.declared.nodes.Parts.{Parts}
use Rattle.core_programs.specs.Passes.{twice_faults, name_faults, count_faults, main_faults}
use Rattle.core_programs.specs.Form.{IsUnguarded, Pass, Twice, Names, Counts, Guards, Mains, IsSilent, Finds, FoundFrom, Passes}

-- ---- the first of a list

both_left : (a b : Bool) → a && b ≡ true → a ≡ true
both_left true b is = refl
both_left false b is = is

both_right : (a b : Bool) → a && b ≡ true → b ≡ true
both_right true b is = is
both_right false b is = cc

neither_left : (a b : Bool) → a || b ≡ false → a ≡ false
neither_left true b is = is
neither_left false b is = refl

neither_right : (a b : Bool) → a || b ≡ false → b ≡ false
neither_right true b is = cc
neither_right false b is = is

none_at : (P : Ill → Bool) (c d : List Ill) (g : Ill) → list_any P (c ++ g ∷ d) ≡ false → P g ≡ false
none_at P [] d g is = neither_left (P g) (list_any P d) is
none_at P (x ∷ c) d g is = none_at P c d g (neither_right (P x) (list_any P (c ++ g ∷ d)) is)

-- a fault before another one isn't the first
behind : (f x g : Ill) (a c d : List Ill) → f ≡ x → a ≡ c ++ g ∷ d → list_any (λ h. is_sooner h f) a ≡ false → is_sooner g x && list_all (is_sooner g) c ≡ true → ⊥
behind f x g a c d same rest none all =
    let sooner : is_sooner g f ≡ true = ap (is_sooner g) same ∙ both_left (is_sooner g x) (list_all (is_sooner g) c) all in
    let not_sooner = none_at (λ h. is_sooner h f) c d g (ap (list_any (λ h. is_sooner h f)) (sym rest) ∙ none) in
    true≢false (sym sooner ∙ not_sooner)

same_place : (f g : Ill) (b c a d : List Ill) → b ++ f ∷ a ≡ c ++ g ∷ d → list_all (is_sooner f) b ≡ true → list_any (λ h. is_sooner h f) a ≡ false
    → list_all (is_sooner g) c ≡ true → list_any (λ h. is_sooner h g) d ≡ false → f ≡ g
same_place f g [] [] a d is all none all_too none_too = cc
same_place f g [] (x ∷ c) a d is all none all_too none_too =
    let head : f ≡ x = cc in
    let tail : a ≡ c ++ g ∷ d = cc in
    absurd (behind f x g a c d head tail none all_too)
same_place f g (x ∷ b) [] a d is all none all_too none_too =
    let head : g ≡ x = cc in
    let tail : d ≡ b ++ f ∷ a = cc in
    absurd (behind g x f d b a head tail none_too all)
same_place f g (x ∷ b) (y ∷ c) a d is all none all_too none_too =
    let tail : b ++ f ∷ a ≡ c ++ g ∷ d = cc in
    same_place f g b c a d tail (both_right (is_sooner f x) _ all) none (both_right (is_sooner g y) _ all_too) none_too

pub one_first : (faults : List Ill) (f g : Ill) → IsFirst faults f → IsFirst faults g → f ≡ g
one_first faults f g (b, a, is, all, none) (c, d, is_too, all_too, none_too) = same_place f g b c a d (sym is ∙ is_too) all none all_too none_too

no_first : (faults : List Ill) (f : Ill) → faults ≡ [] → IsFirst faults f → ⊥
no_first faults f none ([], a, is, all, last) = cc
no_first faults f none (x ∷ b, a, is, all, last) = cc

-- ---- the first cycle

ordered : (ts us : List Letter) → length ts ≡ length us → ThenFirst ts us ⊎ ((ts ≡ us) ⊎ ThenFirst us ts)
ordered [] [] is = inr (inl refl)
ordered [] (u ∷ us) is = cc
ordered (t ∷ ts) [] is = cc
ordered (letter.Left ∷ ts) (letter.Left ∷ us) is = ⊎_elim (λ less. inl less) (λ o. ⊎_elim (λ same. inr (inl (ap (λ xs. letter.Left ∷ xs) same))) (λ more. inr (inr more)) o) (ordered ts us (omega (arith, is)))
ordered (letter.Left ∷ ts) (letter.Right ∷ us) is = inl tt
ordered (letter.Right ∷ ts) (letter.Left ∷ us) is = inr (inr tt)
ordered (letter.Right ∷ ts) (letter.Right ∷ us) is = ⊎_elim (λ less. inl less) (λ o. ⊎_elim (λ same. inr (inl (ap (λ xs. letter.Right ∷ xs) same))) (λ more. inr (inr more)) o) (ordered ts us (omega (arith, is)))

neither_before : (ts us : List Letter) → (IsBefore ts us → ⊥) → (IsBefore us ts → ⊥) → ts ≡ us
neither_before ts us not_less not_more = ⊎_elim
    (λ lt. absurd (not_less (inl lt)))
    (λ le. ⊎_elim
    (λ gt. absurd (not_more (inl gt)))
    (λ ge.
    let same : length ts ≡ length us = omega (arith, le, ge) in
    ⊎_elim (λ less. absurd (not_less (inr (same, less)))) (λ o. ⊎_elim (λ one. one) (λ more. absurd (not_more (inr (sym same, more)))) o) (ordered ts us same))
    (cases_lt (length us) (length ts)))
    (cases_lt (length ts) (length us))

one_place : (graph : List Turns) (i j : ℕ) (way other : List Letter) → IsFirstCycle graph i way → IsFirstCycle graph j other → i ≡ j
one_place graph i j way other first second = ⊎_elim
    (λ lt. absurd (second.first i way lt first.returns.returns))
    (λ le. ⊎_elim (λ gt. absurd (first.first j other gt second.returns.returns)) (λ ge. omega (arith, le, ge)) (cases_lt j i))
    (cases_lt i j)

one_way : (graph : List Turns) (i : ℕ) (way other : List Letter) → IsFirstCycle graph i way → IsFirstCycle graph i other → way ≡ other
one_way graph i way other first second =
    neither_before way other (λ before. second.returns.shortest way first.returns.returns before) (λ before. first.returns.shortest other second.returns.returns before)

one_cycle : (protos : List Proto) (f g : Ill) → IsUnguarded protos f → IsUnguarded protos g → f ≡ g
one_cycle protos f g (i, way, p, first, at, is) (j, other, q, second, at_too, is_too) =
    let place : i ≡ j = one_place (graph_of protos) i j way other first second in
    let moved = subst (λ k. IsFirstCycle (graph_of protos) k other) (sym place) second in
    let ways = one_way (graph_of protos) i way other first moved in
    let protocol : p ≡ q = same_Some p q (sym at ∙ subst (λ k. slice_get protos k ≡ Some q) (sym place) at_too) in
    is
    ∙ ap (λ (k : ℕ). record { kind = kind.Unguarded; names = names_on protos (Some k) way; span = p.name_span }) place
    ∙ ap (λ (w : List Letter). record { kind = kind.Unguarded; names = names_on protos (Some j) w; span = p.name_span }) ways
    ∙ ap (λ (r : Proto). record { kind = kind.Unguarded; names = names_on protos (Some j) other; span = r.name_span }) protocol
    ∙ sym is_too

no_cycle : (protos : List Proto) (f : Ill) → IsGuarded protos → IsUnguarded protos f → ⊥
no_cycle protos f guarded (i, way, p, first, at, is) = guarded i way first.returns.returns

-- ---- pass by pass

one_found : (p : Parts) (pass : Pass) (f g : Ill) → Finds p pass f → Finds p pass g → f ≡ g
one_found p Twice f g a b = one_first (twice_faults p) f g a b
one_found p Names f g a b = one_first (name_faults p) f g a b
one_found p Counts f g a b = one_first (count_faults p) f g a b
one_found p Guards f g a b = one_cycle p.protos f g a b
one_found p Mains f g a b = one_first (main_faults p) f g a b

none_found : (p : Parts) (pass : Pass) (f : Ill) → IsSilent p pass → Finds p pass f → ⊥
none_found p Twice f silent found = no_first (twice_faults p) f silent found
none_found p Names f silent found = no_first (name_faults p) f silent found
none_found p Counts f silent found = no_first (count_faults p) f silent found
none_found p Guards f silent found = no_cycle p.protos f silent found
none_found p Mains f silent found = no_first (main_faults p) f silent found

one_from : (p : Parts) (pass : Pass) (later : List Pass) (r s : Option Ill) → FoundFrom p pass later r → FoundFrom p pass later s → r ≡ s
one_from p pass [] None None a b = refl
one_from p pass [] None (Some g) silent found = absurd (none_found p pass g silent found)
one_from p pass [] (Some f) None found silent = absurd (none_found p pass f silent found)
one_from p pass [] (Some f) (Some g) a b = ap Some (one_found p pass f g a b)
one_from p pass (next ∷ later) None None a b = refl
one_from p pass (next ∷ later) None (Some g) (silent, more) (inl found) = absurd (none_found p pass g silent found)
one_from p pass (next ∷ later) None (Some g) (silent, more) (inr (silent_too, more_too)) = one_from p next later None (Some g) more more_too
one_from p pass (next ∷ later) (Some f) None (inl found) (silent, more) = absurd (none_found p pass f silent found)
one_from p pass (next ∷ later) (Some f) None (inr (silent, more)) (silent_too, more_too) = one_from p next later (Some f) None more more_too
one_from p pass (next ∷ later) (Some f) (Some g) (inl found) (inl found_too) = ap Some (one_found p pass f g found found_too)
one_from p pass (next ∷ later) (Some f) (Some g) (inl found) (inr (silent, more)) = absurd (none_found p pass f silent found)
one_from p pass (next ∷ later) (Some f) (Some g) (inr (silent, more)) (inl found) = absurd (none_found p pass g silent found)
one_from p pass (next ∷ later) (Some f) (Some g) (inr (silent, more)) (inr (silent_too, more_too)) = one_from p next later (Some f) (Some g) more more_too

-- what the passes find is one
pub one_outcome : (p : Parts) (r s : Option Ill) → Passes p r → Passes p s → r ≡ s
one_outcome p r s a b = one_from p Twice (Names ∷ Counts ∷ Guards ∷ Mains ∷ []) r s a b
