-- The steps to the first context of a function end in it.
use Rattle.std.proofs.Common.{◌≡◌, ℕ, ◌+◌, ◌<◌, ◌≤◌, Bool, true, false, ◌&&◌, nat_lt, List, [], ◌∷◌, ◌++◌, map, flat_map, length, refl, sym, ap, ◌∙◌, subst, true≢false, Result, Ok, Err, arith, append_assoc, append-nil}
use Rattle.std.specs.List.{list_all}
use Rattle.std.proofs.lemmas.Bool.Decides.{nat_tests}
use Rattle.std.proofs.lemmas.List.{length_push}
use Rattle.core_language.specs.Names.{Ident}
use Rattle.core_language.specs.Programs.{Function, Param}
use Rattle.linear_forms.specs.Normal.{row_fits}
use Rattle.farkas_check.specs.declared.cert.Row.{Row}
use Rattle.outline_language.specs.LinearForms.{LinearForm, row_of}
use Rattle.outline_language.specs.Nameless.{shape_fits, limit_fits, forms_of_limit, nameless_limit}
use Rattle.outline_language.specs.Contexts.{Why, TooLarge, Entry, Context, provided, most, add_ints, add_hyps, hold, start}
use Rattle.outline_obligations.specs.declared.faults.Why.{Why as Reason}
use Rattle.outline_obligations.specs.declared.faults.ContextFault.{ContextFault}
use Rattle.outline_obligations.specs.declared.faults.ContextFault.TheVariants as fault
use Rattle.outline_obligations.specs.Reasons.{IsReason}
use Rattle.outline_obligations.proofs.Reasons.{then_ok}
use Rattle.outline_contexts.specs.Starting.{header_limits, header_forms, param_shape, IsHeader, with_params, begun}

both : (a b : Bool) → (a && b) ≡ true → (a ≡ true) × (b ≡ true)
both true b is = (refl, is)
both false b is = absurd cc

abbrev at : List Ident → List Row → List Entry → Context
at ints hyps entries = record { ints = ints; hyps = hyps; entries = entries }

-- a test that holds
holds : {A : Type 0} (test : Bool) (why : Why) (a : A) → test ≡ true → provided test why a ≡ Ok a
holds test why a is = ap (λ b. provided b why a) is

room : (n m : ℕ) → n < m → nat_lt n m ≡ true
room n m less = grind (arith, nat_tests)

all_ints : (before xs : List Ident) (hyps : List Row) (entries : List Entry) → length before + length xs ≤ most
    → add_ints (at before hyps entries) xs ≡ Ok (at (before ++ xs) hyps entries)
all_ints before [] hyps entries few = ap (λ (ys : List Ident). Ok (at ys hyps entries)) (sym (append-nil before))
all_ints before (x ∷ xs) hyps entries few =
    then_ok _ (at (before ++ x ∷ []) hyps entries) (λ more. add_ints more xs)
    (holds (nat_lt (length before) most) TooLarge (at (before ++ x ∷ []) hyps entries) (room (length before) most (omega (arith, few))))
    ∙ all_ints (before ++ x ∷ []) xs hyps entries (omega (arith, few, length_push before x))
    ∙ ap (λ (ys : List Ident). Ok (at ys hyps entries)) (append_assoc before (x ∷ []) xs)

all_hyps : (ints : List Ident) (before : List Row) (gs : List LinearForm) (entries : List Entry) → length before + length gs ≤ most
    → list_all (λ g. row_fits (row_of (length ints) g)) gs ≡ true
    → add_hyps (at ints before entries) gs ≡ Ok (at ints (before ++ map (row_of (length ints)) gs) entries)
all_hyps ints before [] entries few fit = ap (λ (rows : List Row). Ok (at ints rows entries)) (sym (append-nil before))
all_hyps ints before (g ∷ gs) entries few fit =
    let two = both (row_fits (row_of (length ints) g)) (list_all (λ h. row_fits (row_of (length ints) h)) gs) fit in
    then_ok _ (at ints (before ++ row_of (length ints) g ∷ []) entries) (λ more. add_hyps more gs)
    (then_ok _ (row_of (length ints) g) (λ row. provided (nat_lt (length before) most) TooLarge (at ints (before ++ row ∷ []) entries))
    (holds (row_fits (row_of (length ints) g)) TooLarge (row_of (length ints) g) two.0)
    ∙ holds (nat_lt (length before) most) TooLarge (at ints (before ++ row_of (length ints) g ∷ []) entries) (room (length before) most (omega (arith, few))))
    ∙ all_hyps ints (before ++ row_of (length ints) g ∷ []) gs entries (omega (arith, few, length_push before (row_of (length ints) g))) two.1
    ∙ ap (λ (rows : List Row). Ok (at ints rows entries)) (append_assoc before (row_of (length ints) g ∷ []) (map (row_of (length ints)) gs))

abbrev param_entry : List Ident → Param → Entry
param_entry ints p = record { name = p.name; shape = param_shape ints p; held = true }

all_params : (names ints : List Ident) (hyps : List Row) (before : List Entry) (ps : List Param) → list_all (λ p. shape_fits (param_shape names p)) ps ≡ true
    → with_params names ps (at ints hyps before) ≡ Ok (at ints hyps (before ++ map (param_entry names) ps))
all_params names ints hyps before [] fit = ap (λ (es : List Entry). Ok (at ints hyps es)) (sym (append-nil before))
all_params names ints hyps before (p ∷ ps) fit =
    let two = both (shape_fits (param_shape names p)) (list_all (λ q. shape_fits (param_shape names q)) ps) fit in
    then_ok _ (param_shape names p) (λ shape. with_params names ps (hold (at ints hyps before) p.name shape))
    (holds (shape_fits (param_shape names p)) TooLarge (param_shape names p) two.0)
    ∙ all_params names ints hyps (before ++ param_entry names p ∷ []) ps two.1
    ∙ ap (λ (es : List Entry). Ok (at ints hyps es)) (append_assoc before (param_entry names p ∷ []) (map (param_entry names) ps))

said : {A B : Type 0} (g : A → B) (says : B → List LinearForm) (xs : List A) → flat_map says (map g xs) ≡ flat_map (λ x. says (g x)) xs
said g says [] = refl
said g says (x ∷ xs) = ap (λ gs. says (g x) ++ gs) (said g says xs)

pub begins : (f : Function) → IsHeader f → begun f ≡ Ok (start f)
begins f header =
    then_ok _ (at f.bound.names [] []) _ (all_ints [] f.bound.names [] [] (omega (arith, header.few_ints)))
    ∙ then_ok _ (header_limits f) _ (holds (list_all limit_fits (header_limits f)) TooLarge (header_limits f) header.limits)
    ∙ then_ok _ (at f.bound.names (map (row_of (length f.bound.names)) (header_forms f)) []) _ (all_hyps f.bound.names [] (header_forms f) [] (omega (arith, header.few_hyps)) header.rows)
    ∙ all_params f.bound.names f.bound.names (map (row_of (length f.bound.names)) (header_forms f)) [] f.params header.shapes
    ∙ ap (λ (gs : List LinearForm). Ok (at f.bound.names (map (row_of (length f.bound.names)) gs) (map (param_entry f.bound.names) f.params)))
    (said (nameless_limit f.bound.names []) forms_of_limit f.bound.limits)

abbrev is_answer : {A E : Type 0} → Result A E → Bool
is_answer (Ok a) = true
is_answer (Err e) = false

-- no step of a header of form fails
pub never_fails : (f : Function) → IsHeader f → (given : ContextFault) (why : Reason) → given ≡ fault.Why why → IsReason (begun f) given → ⊥
never_fails f header given why is reason = true≢false (ap is_answer (sym (begins f header) ∙ subst (IsReason (begun f)) is reason))
