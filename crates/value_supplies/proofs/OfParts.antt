-- Values of parts at the shapes of these parts.
use Rattle.std.proofs.Common.{◌≡◌, ℕ, zero, suc, ◌-◌, ◌<◌, ◌≤◌, false, if◌then◌else◌, nat_eq, nat_lt, List, [], ◌∷◌, length, get_or, Option, Some, None, is_some, IfSome, slice_get, Bor, refl, sym, ap, ◌∙◌, Result, Ok, Err, arith}
use Rattle.std.specs.Option.{option_copied}
use Rattle.std.proofs.lemmas.Bool.Decides.{nat_tests}
use Rattle.std.proofs.lemmas.Option.{slice_get_past, slice_get_read}
use Rattle.core_language.specs.Operands.{Supply}
use Rattle.core_language.specs.Operands as supply
use Rattle.chan_syntax.specs.declared.operands.Supply.{Supply as Written}
use Rattle.chan_syntax.specs.declared.operands.Supply.TheVariants as written
use Rattle.chan_syntax.specs.Reading.{supply_of}
use Rattle.chan_syntax.proofs.Rows.{supply_pair, supply_arm}
use Rattle.outline_language.specs.Nameless.{Shape, Res, Resources, Sum, resource_at}
use Rattle.outline_language.specs.Contexts.{Why, WrongForm, and_then, or_why}
use Rattle.outline_language.specs.Giving.{Given, pair_of, sum_of, give_shape, give}
use Rattle.nameless_shapes.specs.Reading.{resources_from}
use Rattle.outline_obligations.proofs.Reasons.{then_ok, then_err}
use Rattle.value_supplies.specs.Asking.{arm_in, arm_of}

module _ (value : Supply) (shape : Shape) (given : Given) where
  module _ (s t : Supply) (is : value ≡ supply.Pair s t) where
    abbrev of_parts : Res × Res → Result Given Why
    of_parts parts = and_then (give s parts.0 given) (give t parts.1)

    with_parts : (found : Option (Res × Res)) → pair_of shape ≡ found → give_shape value shape given ≡ and_then (or_why found WrongForm) of_parts
    with_parts found parts = ap (λ v. give_shape v shape given) is ∙ ap (λ p. and_then (or_why p WrongForm) of_parts) parts

    pub no_pair : pair_of shape ≡ None → give_shape value shape given ≡ Err WrongForm
    no_pair parts = with_parts None parts

    module _ (r u : Res) (parts : pair_of shape ≡ Some (r, u)) where
      pub first_fails : (why : Why) → give s r given ≡ Err why → give_shape value shape given ≡ Err why
      first_fails why err = with_parts (Some (r, u)) parts ∙ then_err _ why (give t u) err

      pub second_gives : (next : Given) → give s r given ≡ Ok next → give_shape value shape given ≡ give t u next
      second_gives next ok = with_parts (Some (r, u)) parts ∙ then_ok _ next (give t u) ok

  module _ (number : ℕ) (v : Supply) (is : value ≡ supply.Arm number v) where
    with_arm : (found : Option Res) → arm_of shape number ≡ found → give_shape value shape given ≡ and_then (or_why found WrongForm) (λ res. give v res given)
    with_arm found res = ap (λ x. give_shape x shape given) is ∙ pick (sum_of shape) ∙ ap (λ a. and_then (or_why a WrongForm) (λ r. give v r given)) res
      where
        pick : (sum : Option Resources)
            → and_then (or_why sum WrongForm) (λ rs. and_then (or_why (resource_at rs number) WrongForm) (λ r. give v r given)) ≡ and_then (or_why (arm_in sum number) WrongForm) (λ r. give v r given)
        pick None = refl
        pick (Some rs) = refl

    pub no_arm : arm_of shape number ≡ None → give_shape value shape given ≡ Err WrongForm
    no_arm none = with_arm None none

    pub arm_gives : (res : Res) → arm_of shape number ≡ Some res → give_shape value shape given ≡ give v res given
    arm_gives res some = with_arm (Some res) some

-- ---- sums

arm_at : (rs : List Res) (number : ℕ) → slice_get rs number ≡ resource_at (resources_from rs) number
arm_at [] number = refl
arm_at (r ∷ rs) zero = refl
arm_at (r ∷ rs) (suc number) =
    let later : nat_eq (suc number) 0 ≡ false = grind (arith, nat_tests) in
    let one_less : suc number - 1 ≡ number = omega arith in
    arm_at rs number
    ∙ sym (ap (λ b. if b then Some r else resource_at (resources_from rs) (suc number - 1)) later ∙ ap (resource_at (resources_from rs)) one_less)

pub got : {X : Type 0} (found : Option (Bor X)) (xs : List X) (number : ℕ) → is_some found ≡ nat_lt number (length xs) → IfSome found (λ x. x.now ≡ get_or xs number x.now)
    → option_copied found ≡ slice_get xs number
got None xs number within is = let past : length xs ≤ number = grind (arith, nat_tests) in sym (slice_get_past xs number past)
got (Some x) xs number within is = let here : number < length xs = grind (arith, nat_tests) in sym (slice_get_read xs (length xs) number x.now refl here is)

pub arm_is : (shape : Shape) (rs : List Res) (number : ℕ) → shape ≡ Sum (resources_from rs) → slice_get rs number ≡ arm_of shape number
arm_is shape rs number is = arm_at rs number ∙ sym (ap (λ s. arm_of s number) is)

-- ---- boxes

pub read_pair : (value first second left right : Written) → value ≡ written.Pair left right → first ≡ left → second ≡ right
    → supply_of value ≡ supply.Pair (supply_of first) (supply_of second)
read_pair value first second left right is one other =
    ap supply_of is ∙ supply_pair left right
    ∙ ap (λ (s : Written). supply.Pair (supply_of s) (supply_of right)) (sym one) ∙ ap (λ (s : Written). supply.Pair (supply_of first) (supply_of s)) (sym other)

pub read_arm : (value : Written) (number : ℕ) (part inner : Written) → value ≡ written.Arm number inner → part ≡ inner → supply_of value ≡ supply.Arm number (supply_of part)
read_arm value number part inner is one = ap supply_of is ∙ supply_arm number inner ∙ ap (λ (s : Written). supply.Arm number (supply_of s)) (sym one)
