-- The arm that a match goes into.
use Rattle.std.proofs.Common.{◌≡◌, ℕ, zero, suc, ◌<◌, ◌≤◌, List, [], ◌∷◌, map, length, Some, slice_get, refl, ap, ◌∙◌, arith}
use Rattle.std.proofs.lemmas.Option.{slice_get-map}
use Rattle.std.specs.Option.{option_map}
use Rattle.core_language.specs.Programs.{Body, arm_at}
use Rattle.core_language.specs.Values.{Value}
use Rattle.core_language.specs.Configurations.{Caller, Running}
use Rattle.core_language.specs.Acts.{Silent, chosen}
use Rattle.core_programs.specs.declared.nodes.Arm.{Arm}
use Rattle.core_programs.specs.declared.nodes.Node.{Node}
use Rattle.core_programs.specs.Bodies.{arms_opened, rest}
use Rattle.core_language.specs.Computing.{Env, NotSum}
use Rattle.core_language.specs.Acts.{IsStuck}
use Rattle.machine_tasks.specs.Kinds.{Silent as SilentKind, kind_of, kind_chosen}
use Rattle.machine_tasks.specs.Moving.{at_node, bound_in}

pub arm_kind : (arms : List Arm) (i : ℕ) (at : ℕ → Body) (env : Env) (callers : List Caller) (v : Value) → kind_of (chosen (arm_at (arms_opened arms at) i) env callers v) ≡ kind_chosen (slice_get arms i)
arm_kind [] i at env callers v = refl
arm_kind (arm ∷ arms) zero at env callers v = refl
arm_kind (arm ∷ arms) (suc i) at env callers v = arm_kind arms i at env callers v

pub arm_chosen : (nodes : List Node) (arms : List Arm) (i : ℕ) (here : Body) (env : Env) (callers : List Caller) (v : Value) (arm : Arm) → slice_get arms i ≡ Some arm
    → chosen (arm_at (arms_opened arms (rest nodes)) i) env callers v ≡ Silent (at_node nodes arm.next (bound_in arm.pat.name v (Running here env callers)))
arm_chosen nodes [] i here env callers v arm is = cc
arm_chosen nodes (one ∷ arms) zero here env callers v arm is = let same : one ≡ arm = cc in ap (λ (a : Arm). Silent (at_node nodes a.next (bound_in a.pat.name v (Running here env callers)))) same
arm_chosen nodes (one ∷ arms) (suc i) here env callers v arm is = arm_chosen nodes arms i here env callers v arm is

pub arm_next : (arms : List Arm) (i : ℕ) (arm : Arm) → slice_get arms i ≡ Some arm → slice_get (map (λ a. a.next) arms) i ≡ Some arm.next
arm_next [] i arm is = cc
arm_next (one ∷ arms) zero arm is = let same : one ≡ arm = cc in ap (λ (a : Arm). Some a.next) same
arm_next (one ∷ arms) (suc i) arm is = arm_next arms i arm is

pub kind_within : {X : Type 0} (xs : List X) (i : ℕ) → i < length xs → kind_chosen (slice_get xs i) ≡ SilentKind
kind_within [] i lt = absurd (omega (arith, lt))
kind_within (x ∷ xs) zero lt = refl
kind_within (x ∷ xs) (suc i) lt = kind_within xs i (omega (arith, lt))

pub kind_past : {X : Type 0} (xs : List X) (i : ℕ) → length xs ≤ i → kind_chosen (slice_get xs i) ≡ kind_of (IsStuck NotSum)
kind_past [] i le = refl
kind_past (x ∷ xs) zero le = absurd (omega (arith, le))
kind_past (x ∷ xs) (suc i) le = kind_past xs i (omega (arith, le))

pub ruleset arm_kinds = (kind_within, kind_past)
