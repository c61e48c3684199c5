-- The arms of a match, one by one.
use Rattle.std.proofs.Common.{◌≡◌, ℕ, zero, suc, ◌+◌, ◌-◌, List, [], ◌∷◌, ◌++◌, map, Option, Some, None, slice_get, Result, Ok, Bool, true, false, not, if◌then◌else◌, refl, sym, ap, ◌∙◌, arith}
use Rattle.std.specs.Option.{option_and_then}
use Rattle.std.specs.Prelude.{nat_eq}
use Rattle.std.proofs.lemmas.Bool.Decides.{nat_tests}
use Rattle.core_language.specs.Names.{Ident, same}
use Rattle.core_language.specs.Operands.{Pat}
use Rattle.core_language.specs.Programs.{Span, Body, Arms, NoArm, Arm, Match, arm_list, arm_at}
use Rattle.core_programs.specs.Bodies.{program_of}
use Rattle.outline_language.specs.Nameless.{Shape, Res, Resources, NoMore, More, resource_at, has_end}
use Rattle.outline_language.specs.Contexts.{Why, WrongForm, NotHeld, and_then, or_why, provided, nothing, Context, Entry, Taken, entry_named, held_shape, take, without, bind}
use Rattle.outline_language.specs.Giving.{sum_of}
use Rattle.outline_language.specs.Rules.{as_many, bind_arms, rule_match}
use Rattle.outline_language.specs.Outlined.{faults_of_arms}
use Rattle.outline_walk.specs.Forms.{Setting, picked}
use Rattle.outline_walk.specs.Walking.{faults_of, faults_in, faults_from}
use Rattle.outline_walk.proofs.Chains.{first_ok, there, holds, same_ok}

abbrev pub arm_bodies : Arms → List Body
arm_bodies arms = map (λ arm. arm.1) (arm_list arms)

-- ---- an entry that is taken keeps its shape

abbrev sum_named : List Entry → Ident → Option Resources
sum_named es x = option_and_then (λ e. sum_of e.shape) (entry_named es x)

without_same : (x : Ident) (es : List Entry) → sum_named (without x es) x ≡ sum_named es x
without_same x [] = refl
without_same x (e ∷ es) = by_cases (same e.name x) refl (without_same x es)
  where
    by_cases : (t : Bool) → same e.name x ≡ t → sum_named (without x es) x ≡ sum_named es x
        → sum_named (if t then (record e { held = not (has_end e.shape) } ∷ es) else (e ∷ without x es)) x ≡ option_and_then (λ k. sum_of k.shape) (if t then Some e else entry_named es x)
    by_cases true is more = ap (λ t. option_and_then (λ k. sum_of k.shape) (if t then Some (record e { held = not (has_end e.shape) }) else entry_named es x)) is
    by_cases false is more = ap (λ t. option_and_then (λ k. sum_of k.shape) (if t then Some e else entry_named (without x es) x)) is ∙ more

held_sum : (o : Option Entry) (shape : Shape) → held_shape o ≡ Some shape → option_and_then (λ e. sum_of e.shape) o ≡ sum_of shape
held_sum None shape is = cc
held_sum (Some e) shape is = by_cases e.held is
  where
    by_cases : (t : Bool) → (if t then Some e.shape else None) ≡ Some shape → sum_of e.shape ≡ sum_of shape
    by_cases true here = let equal : e.shape ≡ shape = cc in ap sum_of equal
    by_cases false here = cc

-- a name that was taken still has its sum
taken_sum : (ctx new : Context) (x : Ident) (shape : Shape) → take ctx x ≡ Ok (record { shape = shape; context = new }) → sum_named new.entries x ≡ sum_of shape
taken_sum ctx new x shape is =
    let (had, found, all) = first_ok (or_why (held_shape (entry_named ctx.entries x)) (NotHeld x)) _ (record { shape = shape; context = new }) is in
    let one = same_ok _ _ all in
    ap (λ (t : Taken). sum_named t.context.entries x) (sym one)
    ∙ without_same x ctx.entries
    ∙ held_sum (entry_named ctx.entries x) had (there _ (NotHeld x) had found)
    ∙ ap (λ (t : Taken). sum_of t.shape) one

-- ---- arm by arm

abbrev pub picked_arm : Context → Resources → Arms → ℕ → Result Context Why
picked_arm ctx resources arms number =
    and_then (or_why (resource_at resources number) WrongForm) (λ res. and_then (or_why (arm_at arms number) WrongForm) (λ arm. bind ctx arm.0 res))

pub not_first : (k : ℕ) → nat_eq (suc k) 0 ≡ false
not_first k = grind (arith, nat_tests)

more_arm : (ctx : Context) (res : Res) (resources : Resources) (pat : Pat) (next : Body) (arms : Arms) (k : ℕ)
    → picked_arm ctx (More res resources) (Arm pat next arms) (suc k) ≡ picked_arm ctx resources arms k
more_arm ctx res resources pat next arms k =
    let less : suc k - 1 ≡ k = omega arith in
    ap (λ t. and_then (or_why (if t then Some res else resource_at resources (suc k - 1)) WrongForm) (λ r. and_then (or_why (arm_at arms k) WrongForm) (λ arm. bind ctx arm.0 r))) (not_first k)
    ∙ ap (λ i. and_then (or_why (resource_at resources i) WrongForm) (λ r. and_then (or_why (arm_at arms k) WrongForm) (λ arm. bind ctx arm.0 r))) less

module _ (s : Setting) (ctx : Context) where
  arms_faults : (resources : Resources) (arms : Arms) (each : List Context) (number : ℕ) (pick : ℕ → Result Context Why)
      → ((k j : ℕ) → j ≡ k + number → pick j ≡ picked_arm ctx resources arms k) → as_many resources arms ≡ true → bind_arms ctx resources arms ≡ Ok each
      → faults_of_arms (program_of s.parts) s.own each arms ≡ faults_from s pick number (arm_bodies arms)
  arms_faults NoMore NoArm each number pick picks many is =
      ap (λ cs. faults_of_arms (program_of s.parts) s.own cs NoArm) (sym (same_ok [] each is))
  arms_faults NoMore (Arm pat next more) each number pick picks many is = cc
  arms_faults (More res resources) NoArm each number pick picks many is = cc
  arms_faults (More res resources) (Arm pat next more) each number pick picks many is =
      let (here, first, after_first) = first_ok (bind ctx pat res) _ each is in
      let (others, later, all) = first_ok (bind_arms ctx resources more) _ each after_first in
      ap (λ cs. faults_of_arms (program_of s.parts) s.own cs (Arm pat next more)) (sym (same_ok (here ∷ others) each all))
      ∙ ap (λ fs. faults_of s here next ++ fs)
      (arms_faults resources more others (suc number) pick (λ k j is. picks (suc k) j (omega (arith, is)) ∙ more_arm ctx res resources pat next more k) many later)
      ∙ ap (λ r. faults_in s r next ++ faults_from s pick (suc number) (arm_bodies more)) (sym (picks 0 number (omega arith) ∙ first))

  arms_open : (resources : Resources) (arms : Arms) (each : List Context) (k : ℕ) (b : Body) → as_many resources arms ≡ true → bind_arms ctx resources arms ≡ Ok each
      → slice_get (arm_bodies arms) k ≡ Some b → (after : Context) × (picked_arm ctx resources arms k ≡ Ok after)
  arms_open NoMore NoArm each k b many is at = cc
  arms_open NoMore (Arm pat next more) each k b many is at = cc
  arms_open (More res resources) NoArm each k b many is at = cc
  arms_open (More res resources) (Arm pat next more) each zero b many is at =
      let (here, first, after_first) = first_ok (bind ctx pat res) _ each is in
      (here, first)
  arms_open (More res resources) (Arm pat next more) each (suc k) b many is at =
      let (here, first, after_first) = first_ok (bind ctx pat res) _ each is in
      let (others, later, all) = first_ok (bind_arms ctx resources more) _ each after_first in
      let (after, there_too) = arms_open resources more others k b many later at in
      (after, more_arm ctx res resources pat next more k ∙ there_too)

-- ---- the rule

-- what a match that is met has taken apart
record Parted (old new : Context) (x : Ident) (arms : Arms) (each : List Context) : Type 0 where
  resources : Resources
  sum : sum_named new.entries x ≡ Some resources
  many : as_many resources arms ≡ true
  bound : bind_arms new resources arms ≡ Ok each

parted : (old new : Context) (x : Ident) (arms : Arms) (shape : Shape) (each : List Context) → take old x ≡ Ok (record { shape = shape; context = new }) → rule_match old x arms ≡ Ok each → Parted old new x arms each
parted old new x arms shape each takes is =
    let after = ap (λ r. and_then r (λ (taken : Taken). and_then (or_why (sum_of taken.shape) WrongForm) (λ resources. and_then (provided (as_many resources arms) WrongForm nothing) (λ _. bind_arms taken.context resources arms)))) (sym takes) ∙ is in
    let (resources, sums, after_sum) = first_ok (or_why (sum_of shape) WrongForm) _ each after in
    let (yes_many, many, bound) = first_ok (provided (as_many resources arms) WrongForm nothing) _ each after_sum in
    record {
      resources = resources;
      sum = taken_sum old new x shape takes ∙ there (sum_of shape) WrongForm resources sums;
      many = holds (as_many resources arms) WrongForm nothing yes_many many;
      bound = bound;
    }

arm_picked : (new : Context) (span : Span) (x : Ident) (arms : Arms) (resources : Resources) → sum_named new.entries x ≡ Some resources → (k : ℕ) → picked new (Match span x arms) k ≡ picked_arm new resources arms k
arm_picked new span x arms resources is k =
    ap (λ o. and_then (or_why (option_and_then (λ rs. resource_at rs k) o) WrongForm) (λ res. and_then (or_why (arm_at arms k) WrongForm) (λ arm. bind new arm.0 res))) is

module _ (s : Setting) (old new : Context) (span : Span) (x : Ident) (arms : Arms) (shape : Shape) (each : List Context)
    (takes : take old x ≡ Ok (record { shape = shape; context = new })) (is : rule_match old x arms ≡ Ok each) where
  pub match_faults : faults_of_arms (program_of s.parts) s.own each arms ≡ faults_from s (picked new (Match span x arms)) 0 (arm_bodies arms)
  match_faults =
      let p = parted old new x arms shape each takes is in
      arms_faults s new p.resources arms each 0 (picked new (Match span x arms))
      (λ k j same. ap (picked new (Match span x arms)) (let equal : j ≡ k = omega (arith, same) in equal) ∙ arm_picked new span x arms p.resources p.sum k) p.many p.bound

  pub match_open : (k : ℕ) (b : Body) → slice_get (arm_bodies arms) k ≡ Some b → (after : Context) × (picked new (Match span x arms) k ≡ Ok after)
  match_open k b at =
      let p = parted old new x arms shape each takes is in
      let (after, here) = arms_open s new p.resources arms each k b p.many p.bound at in
      (after, arm_picked new span x arms p.resources p.sum k ∙ here)
