-- One more start of a body.
use Rattle.std.proofs.Common.{◌≡◌, ℕ, zero, suc, ◌+◌, ◌<◌, List, [], ◌∷◌, ◌++◌, length, Some, slice_get, ⊎_elim, refl, sym, ap, ◌∙◌, subst, arith}
use Rattle.std.proofs.lemmas.Bool.{cases_lt}
use Rattle.core_programs.specs.declared.nodes.Node.{Node}
use Rattle.core_programs.specs.Formed.{nexts}
use Rattle.core_programs.specs.Uses.{StandBefore, BeginsAt}

get_front : (xs ys : List ℕ) (n s : ℕ) → slice_get xs n ≡ Some s → slice_get (xs ++ ys) n ≡ Some s
get_front [] ys n s is = cc
get_front (x ∷ xs) ys zero s is = is
get_front (x ∷ xs) ys (suc n) s is = get_front xs ys n s is

get_last : (xs : List ℕ) (s : ℕ) → slice_get (xs ++ s ∷ []) (length xs) ≡ Some s
get_last [] s = refl
get_last (x ∷ xs) s = get_last xs s

still : (starts ys ns : List ℕ) (end s : ℕ) → StandBefore starts ns end s → StandBefore (starts ++ ys) ns end s
still starts ys [] end s is = is
still starts ys (n ∷ ns) end s (behind, at) = (still starts ys ns end (n + 1) behind, get_front starts ys n s at)

-- the nodes before a number begin as the starts say
abbrev pub BeginBelow : List Node → List ℕ → ℕ → Type 0
BeginBelow nodes starts k = (n : ℕ) (x : Node) → n < k → slice_get nodes n ≡ Some x → BeginsAt starts n x

pub begins_more : (nodes : List Node) (starts : List ℕ) (k s : ℕ) (y : Node) → length starts ≡ k → slice_get nodes k ≡ Some y → StandBefore starts (nexts y) k s
    → BeginBelow nodes starts k → BeginBelow nodes (starts ++ s ∷ []) (k + 1)
begins_more nodes starts k s y long here stands all n x lt is = ⊎_elim
    (λ before. let (t, has, behind) = all n x before is in (t, get_front starts (s ∷ []) n t has, still starts (s ∷ []) (nexts x) n t behind))
    (λ past.
    let last : n ≡ k = omega (arith, past, lt) in
    let found : slice_get nodes k ≡ Some x = ap (slice_get nodes) (sym last) ∙ is in
    let same : y ≡ x = cc in
    subst (λ m. BeginsAt (starts ++ s ∷ []) m x) (sym last) (
      s,
      ap (slice_get (starts ++ s ∷ [])) (sym long) ∙ get_last starts s,
      still starts (s ∷ []) (nexts x) k s (subst (λ z. StandBefore starts (nexts z) k s) same stands),
    ))
    (cases_lt n k)
