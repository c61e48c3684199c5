-- Both bodies of an `if` have their contexts.
use Rattle.std.proofs.Common.{◌≡◌, ℕ, zero, suc, true, false, nat_eq, Result, Ok, refl, ◌∙◌, arith}
use Rattle.core_language.specs.Terms.{Term}
use Rattle.outline_language.specs.LinearForms.{LinearForm, minus, plus_one}
use Rattle.outline_language.specs.Contexts.{Why, Context, and_then, meaning, add_hyp}
use Rattle.outline_language.specs.Rules.{rule_if}
use Rattle.outline_obligations.proofs.Reasons.{then_ok}
use Rattle.outline_walk.proofs.Arms.{not_first}

module _ (ctx : Context) (left right : Term) (a b : LinearForm) where
  abbrev then_other : Context → Result (Context × Context) Why
  then_other this = and_then (add_hyp ctx (plus_one (minus b a))) (λ other. Ok (this, other))

  abbrev then_both : LinearForm → LinearForm → Result (Context × Context) Why
  then_both f g =
      and_then (add_hyp ctx (minus f g)) (λ this. and_then (add_hyp ctx (plus_one (minus g f))) (λ other. Ok (this, other)))

  pub both_sides : (this other : Context) → meaning ctx left ≡ Ok a → meaning ctx right ≡ Ok b
      → add_hyp ctx (minus a b) ≡ Ok this → add_hyp ctx (plus_one (minus b a)) ≡ Ok other → rule_if ctx left right ≡ Ok (this, other)
  both_sides this other l r first second =
      then_ok (meaning ctx left) a (λ f. and_then (meaning ctx right) (then_both f)) l
      ∙ then_ok (meaning ctx right) b (then_both a) r
      ∙ then_ok (add_hyp ctx (minus a b)) this then_other first
      ∙ then_ok (add_hyp ctx (plus_one (minus b a))) other (λ o. Ok (this, o)) second

pub is_first : (n : ℕ) → n ≡ 0 → nat_eq n 0 ≡ true
is_first zero is = refl
is_first (suc k) is = absurd (omega (arith, is))

pub is_other : (n : ℕ) → (n ≡ 0 → ⊥) → nat_eq n 0 ≡ false
is_other zero not_is = absurd (not_is refl)
is_other (suc k) not_is = not_first k
