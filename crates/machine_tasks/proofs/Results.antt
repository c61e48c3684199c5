-- The acts of a task at its forms, over the results of their operands.
use Rattle.std.proofs.Common.{◌≡◌, ℕ, zero, suc, ℤ, int_le, Bool, true, false, if◌then◌else◌, List, [], ◌∷◌, Option, Some, None, slice_get, refl, sym, ap, ◌∙◌}
use Rattle.core_language.specs.Names.{Ident, Name}
use Rattle.core_language.specs.Values as core
use Rattle.core_language.specs.Programs.{Body, arm_at}
use Rattle.core_language.specs.Computing.{Computed, Done, Sticks, Halts, Depth, Env, machine}
use Rattle.core_language.specs.Configurations.{Caller, Place, Running}
use Rattle.core_language.specs.Acts.{Act, act_at, at, bound, chosen, on_end, on_pair, on_sum, returned, with_result}
use Rattle.core_language.specs.Acts as act
use Rattle.core_programs.specs.declared.nodes.Arm.{Arm}
use Rattle.core_programs.specs.declared.nodes.Node.{Node}
use Rattle.core_programs.specs.declared.nodes.Parts.{Parts}
use Rattle.core_programs.specs.Bodies.{arms_opened, opened, program_of, rest}
use Rattle.machine_values.specs.declared.values.Value.{Value}
use Rattle.machine_values.specs.Reading.{env_of, value_as}
use Rattle.machine_tasks.specs.declared.tasks.Frame.{Frame}
use Rattle.machine_tasks.specs.declared.tasks.Task.{Task}
use Rattle.machine_tasks.specs.Attempts.{Attempts, assigns, chooses, compared, on_arm, on_parts, picks, picks_arm, splits}
use Rattle.machine_tasks.specs.Fits.{EndsIn}
use Rattle.machine_tasks.specs.Moving.{IsPrint, at_node, bound_in, place_after, place_by, place_with}
use Rattle.machine_tasks.specs.Reading.{act_in}
use Rattle.machine_tasks.specs.Steps.{FitsTask, callers_of, place_in}
use Rattle.machine_tasks.proofs.Forms.{act_there, of_end, of_forked, of_result}
use Rattle.machine_tasks.proofs.Places.{place_last}

-- a comparison before the act, or in it
compares : (m u : Computed ℤ) (go : Bool → Act) → with_result m (λ a. with_result u (λ b. go (int_le a b))) ≡ with_result (compared m u) go
compares (Done a) (Done b) go = refl
compares (Done a) (Sticks why) go = refl
compares (Done a) (Halts why) go = refl
compares (Sticks why) u go = refl
compares (Halts why) u go = refl

either_node : (nodes : List Node) (env : Env) (callers : List Caller) (this other : ℕ) (b : Bool) → at (if b then rest nodes this else rest nodes other) env callers ≡ at (rest nodes (if b then this else other)) env callers
either_node nodes env callers this other true = refl
either_node nodes env callers this other false = refl

by_test : (m : Computed Bool) (go went : Bool → Place) → ((b : Bool) → go b ≡ went b) → with_result m (λ b. act.Silent (go b)) ≡ with_result m (λ b. act.Silent (went b))
by_test (Done b) go went same = ap act.Silent (same b)
by_test (Sticks why) go went same = refl
by_test (Halts why) go went same = refl

-- the arm that a match goes into
picks_one : (nodes : List Node) (arms : List Arm) (i : ℕ) (here : Body) (env : Env) (callers : List Caller) (program : Parts) (task : Task) (v : core.Value) → program.nodes ≡ nodes → place_in program task ≡ Running here env callers
    → chosen (arm_at (arms_opened arms (rest nodes)) i) env callers v ≡ picks_arm program task v (slice_get arms i)
picks_one nodes [] i here env callers program task v nodes_are stands = refl
picks_one nodes (arm ∷ arms) zero here env callers program task v nodes_are stands =
    ap (λ (ns : List Node). act.Silent (place_with ns arm.pat.name v arm.next (Running here env callers))) (sym nodes_are)
    ∙ ap (λ (place : Place). act.Silent (place_with program.nodes arm.pat.name v arm.next place)) (sym stands)
picks_one nodes (arm ∷ arms) (suc i) here env callers program task v nodes_are stands = picks_one nodes arms i here env callers program task v nodes_are stands

picks_any : (o : Option (ℕ × Value)) (go went : ℕ → core.Value → Act) → ((i : ℕ) (v : core.Value) → go i v ≡ went i v) → on_arm o go ≡ on_arm o went
picks_any None go went same = refl
picks_any (Some found) go went same = same found.0 (value_as found.1)

module _ (program : Parts) (task : Task) (f : Frame) (top : EndsIn task.frames.items f) where
  abbrev env : Env
  env = env_of f.binds.items

  abbrev callers : List Caller
  callers = callers_of program.nodes top.0

  stands : place_in program task ≡ Running (rest program.nodes f.node) env callers
  stands = place_last program.nodes task.frames.items top.0 f top.1

  pub assigned : (x : Ident) (next : ℕ) (m n : Computed ℤ) → act_in program task ≡ with_result n (λ z. act.Silent (at (rest program.nodes next) (bound env x (core.Int z)) callers)) → m ≡ n
      → act_in program task ≡ assigns program task x next m
  assigned x next m n acts same =
      acts ∙ ap (λ k. with_result k (λ z. act.Silent (at (rest program.nodes next) (bound env x (core.Int z)) callers))) (sym same)
      ∙ ap (λ (place : Place). with_result m (λ z. act.Silent (place_with program.nodes x (core.Int z) next place))) (sym stands)

  pub chosen_one : (this other : ℕ) (less : Computed Bool) (m u : Computed ℤ)
      → act_in program task ≡ with_result m (λ a. with_result u (λ b. act.Silent (at (if int_le a b then rest program.nodes this else rest program.nodes other) env callers))) → less ≡ compared m u
      → act_in program task ≡ chooses program task this other less
  chosen_one this other less m u acts same =
      acts ∙ compares m u (λ b. act.Silent (at (if b then rest program.nodes this else rest program.nodes other) env callers))
      ∙ ap (λ k. with_result k (λ b. act.Silent (at (if b then rest program.nodes this else rest program.nodes other) env callers))) (sym same)
      ∙ by_test less _ _ (either_node program.nodes env callers this other)
      ∙ ap (λ (place : Place). with_result less (λ b. act.Silent (at_node program.nodes (if b then this else other) place))) (sym stands)

  pub parted : (x y : Ident) (next : ℕ) (parts : Option (Value × Value)) (o : Option core.Value)
      → act_in program task ≡ on_pair o (λ a b. act.Silent (at (rest program.nodes next) (bound (bound env x a) y b) callers))
      → ((go : core.Value → core.Value → Act) → on_pair o go ≡ on_parts parts go)
      → act_in program task ≡ splits program task x y next parts
  parted x y next parts o acts same =
      acts ∙ same (λ a b. act.Silent (at (rest program.nodes next) (bound (bound env x a) y b) callers))
      ∙ ap (λ (place : Place). on_parts parts (λ a b. act.Silent (at_node program.nodes next (bound_in y b (bound_in x a place))))) (sym stands)

  pub picked : (arms : List Arm) (found : Option (ℕ × Value)) (o : Option core.Value)
      → act_in program task ≡ on_sum o (λ i v. chosen (arm_at (arms_opened arms (rest program.nodes)) i) env callers v)
      → ((go : ℕ → core.Value → Act) → on_sum o go ≡ on_arm found go)
      → act_in program task ≡ picks program task arms found
  picked arms found o acts same =
      acts ∙ same (λ i v. chosen (arm_at (arms_opened arms (rest program.nodes)) i) env callers v)
      ∙ picks_any found _ _ (λ i v. picks_one program.nodes arms i (rest program.nodes f.node) env callers program task v refl stands)

-- a print that is made
pub printed : (m : Computed ℤ) (place : Place) → IsPrint (with_result m (λ z. act.Print z place)) → place_after (with_result m (λ z. act.Print z place)) ≡ place
printed (Done z) place p = refl
printed (Sticks why) place p = absurd p
printed (Halts why) place p = absurd p

-- a return is an end or a silent act
pub gives_back : (callers : List Caller) (v : core.Value) (old : Place) → place_by (returned callers v) old ≡ place_after (returned callers v)
gives_back [] v old = refl
gives_back (caller ∷ callers) v old = refl

-- an act that is neither silent nor an end leaves the task where it was
module _ (here : Place) where
  pub stays_result : {A : Type 0} (m : Computed A) (go : A → Act) → ((a : A) → place_by (go a) here ≡ here) → place_by (with_result m go) here ≡ here
  stays_result = of_result (λ a. place_by a here ≡ here) (λ why. refl) (λ why. refl)

  pub stays_end : (o : Option core.Value) (go : Name → Act) → ((c : Name) → place_by (go c) here ≡ here) → place_by (on_end o go) here ≡ here
  stays_end = of_end (λ a. place_by a here ≡ here) (λ why. refl) (λ why. refl)

  pub stays_forked : (b : Bool) (c : Name) (mine its : Place) → place_by (if b then act.Fork c mine its else act.IsHalted Depth) here ≡ here
  stays_forked b c mine its = of_forked (λ a. place_by a here ≡ here) (λ why. refl) (λ why. refl) b c mine its refl
