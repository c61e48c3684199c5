-- The order of names, by the first part that differs.
use Rattle.std.proofs.Common.{◌≡◌, ℕ, ◌<◌, List, [], ◌∷◌, ◌++◌, refl, ap, ◌∙◌, arith}
use Rattle.std.proofs.lemmas.Bool.Decides.{nat_tests}
use Rattle.std.specs.Ordering.{nat_cmp, ordering_then}
use Rattle.std.specs.declared.cmp.Ordering.{Ordering}
use Rattle.std.specs.declared.cmp.Ordering.TheVariants.{Less, Equal, Greater}
use Rattle.chan_base.specs.Names.{order}

nat_cmp-self : (k : ℕ) → nat_cmp k k ≡ Equal
nat_cmp-self k = grind (arith, nat_tests)

nat_cmp-less : (j k : ℕ) → j < k → nat_cmp j k ≡ Less
nat_cmp-less j k lt = grind (arith, nat_tests)

nat_cmp-equal : (j k : ℕ) → nat_cmp j k ≡ Equal → j ≡ k
nat_cmp-equal j k e = grind (arith, nat_tests)

then-equal : (r s : Ordering) → ordering_then r s ≡ Equal → (r ≡ Equal) × (s ≡ Equal)
then-equal Equal s e = (refl, e)
then-equal Less s e = cc
then-equal Greater s e = cc

pub order-self : (p : List ℕ) → order p p ≡ Equal
order-self [] = refl
order-self (k ∷ p) = ap (λ r. ordering_then r (order p p)) (nat_cmp-self k) ∙ order-self p

pub order-equal : (p q : List ℕ) → order p q ≡ Equal → p ≡ q
order-equal [] [] e = refl
order-equal [] (k ∷ q) e = cc
order-equal (j ∷ p) [] e = cc
order-equal (j ∷ p) (k ∷ q) e =
    let (first, rest) = then-equal (nat_cmp j k) (order p q) e in
    ap (λ i. i ∷ p) (nat_cmp-equal j k first) ∙ ap (λ r. k ∷ r) (order-equal p q rest)

pub order-front : (p rest : List ℕ) (k : ℕ) → order p (p ++ k ∷ rest) ≡ Less
order-front [] rest k = refl
order-front (j ∷ p) rest k = ap (λ r. ordering_then r (order p (p ++ k ∷ rest))) (nat_cmp-self j) ∙ order-front p rest k

pub order-parts : (front p q : List ℕ) (j k : ℕ) → j < k → order (front ++ j ∷ p) (front ++ k ∷ q) ≡ Less
order-parts [] p q j k lt = ap (λ r. ordering_then r (order p q)) (nat_cmp-less j k lt)
order-parts (i ∷ front) p q j k lt =
    ap (λ r. ordering_then r (order (front ++ j ∷ p) (front ++ k ∷ q))) (nat_cmp-self i) ∙ order-parts front p q j k lt
