-- Patterns are bound step by step.
use Rattle.std.proofs.Common.{◌≡◌, ℕ, ◌+◌, Bool, true, false, nat_eq, nat_lt, List, [], ◌∷◌, ◌++◌, flat_map, length, sym, ap, ◌∙◌, Result, Ok, Err, arith}
use Rattle.std.proofs.lemmas.Bool.Decides.{nat_tests}
use Rattle.std.proofs.lemmas.List.{length_push}
use Rattle.core_language.specs.Names.{Ident}
use Rattle.core_language.specs.Operands.{Pat}
use Rattle.outline_language.specs.LinearForms.{LinearForm}
use Rattle.outline_language.specs.Nameless.{Limit, Shape, Binds}
use Rattle.outline_language.specs.Contexts.{Why, InstanceCount, TooLarge, Context, and_then, provided, nothing, most, add_ints, add_hyps, variables_from, put_in_shape, hold, bind}
use Rattle.outline_obligations.proofs.Reasons.{then_ok, then_err}
use Rattle.outline_obligations.proofs.Rows.{same_ok}
use Rattle.outline_contexts.specs.Growing.{limit_forms}

pub nat_same : (m n : ℕ) → m ≡ n → nat_eq m n ≡ true
nat_same m n is = grind (arith, nat_tests)

-- so many integer variables come
pub ints_added : (ctx after : Context) (xs : List Ident) → add_ints ctx xs ≡ Ok after → length after.ints ≡ length ctx.ints + length xs
ints_added ctx after [] is = ap (λ (c : Context). length c.ints) (sym (same_ok ctx after is)) ∙ omega arith
ints_added ctx after (x ∷ xs) is = pick (nat_lt (length ctx.ints) most) (ints_added (record ctx { ints = ctx.ints ++ x ∷ [] }) after xs) is
  where
    pick : (b : Bool) → (add_ints (record ctx { ints = ctx.ints ++ x ∷ [] }) xs ≡ Ok after → length after.ints ≡ length (ctx.ints ++ x ∷ []) + length xs)
        → and_then (provided b TooLarge (record ctx { ints = ctx.ints ++ x ∷ [] })) (λ more. add_ints more xs) ≡ Ok after → length after.ints ≡ length ctx.ints + length (x ∷ xs)
    pick true rest made = let long = rest made in omega (arith, long, length_push ctx.ints x)
    pick false rest made = absurd cc

module _ (ctx : Context) (pat : Pat) (n : ℕ) (limits : List Limit) (shape : Shape) where
  -- what comes after the integer variables
  abbrev then_limits : List LinearForm → List LinearForm → Context → Result Context Why
  then_limits fs gs ints =
      and_then (add_hyps ints (flat_map (limit_forms fs) limits)) (λ hyps. and_then (put_in_shape gs shape) (λ here. Ok (hold hyps pat.name here)))

  module _ (ints : Context) (fs gs : List LinearForm) (many : nat_eq (length pat.names) n ≡ true) (added : add_ints ctx pat.names ≡ Ok ints)
      (first : fs ≡ variables_from (length ctx.ints) n) (second : gs ≡ variables_from (length ctx.ints) n) where
    after_ints : bind ctx pat (Binds n limits shape) ≡ then_limits fs gs ints
    after_ints =
        ap (λ b. and_then (provided b InstanceCount nothing) (λ _. and_then (add_ints ctx pat.names) (then_limits (variables_from (length ctx.ints) n) (variables_from (length ctx.ints) n)))) many
        ∙ ap (λ r. and_then r (then_limits (variables_from (length ctx.ints) n) (variables_from (length ctx.ints) n))) added
        ∙ ap (λ hs. then_limits hs (variables_from (length ctx.ints) n) ints) (sym first)
        ∙ ap (λ hs. then_limits fs hs ints) (sym second)

    pub limits_fail : (w : Why) → add_hyps ints (flat_map (limit_forms fs) limits) ≡ Err w → bind ctx pat (Binds n limits shape) ≡ Err w
    limits_fail w err = after_ints ∙ then_err _ w (λ hyps. and_then (put_in_shape gs shape) (λ here. Ok (hold hyps pat.name here))) err

    module _ (hyps : Context) (assumed : add_hyps ints (flat_map (limit_forms fs) limits) ≡ Ok hyps) where
      after_limits : bind ctx pat (Binds n limits shape) ≡ and_then (put_in_shape gs shape) (λ here. Ok (hold hyps pat.name here))
      after_limits = after_ints ∙ then_ok _ hyps (λ hs. and_then (put_in_shape gs shape) (λ here. Ok (hold hs pat.name here))) assumed

      pub shape_fails : (w : Why) → put_in_shape gs shape ≡ Err w → bind ctx pat (Binds n limits shape) ≡ Err w
      shape_fails w err = after_limits ∙ then_err _ w (λ here. Ok (hold hyps pat.name here)) err

      pub bound : (here : Shape) (after : Context) → put_in_shape gs shape ≡ Ok here → after ≡ hold hyps pat.name here → bind ctx pat (Binds n limits shape) ≡ Ok after
      bound here after ok is = after_limits ∙ then_ok _ here (λ s. Ok (hold hyps pat.name s)) ok ∙ ap Ok (sym is)
