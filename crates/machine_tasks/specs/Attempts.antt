-- The acts of the forms over the results of their operands, and what a task makes of an act.
use Rattle.std.specs.Prelude.{◌≡◌, ◌<◌, ℕ, ℤ, int_le, Bool, if◌then◌else◌, List, Option, Some, None, slice_get}
use Rattle.core_language.specs.Names.{Ident}
use Rattle.core_language.specs.Values as core
use Rattle.core_language.specs.Programs.{function_named}
use Rattle.core_language.specs.Computing.{Computed, Done, NotPair, NotSum, and_then}
use Rattle.core_language.specs.Configurations.{Caller}
use Rattle.core_language.specs.Acts.{Act, entered, with_result}
use Rattle.core_language.specs.Acts as act
use Rattle.core_programs.specs.declared.nodes.Arm.{Arm}
use Rattle.core_programs.specs.declared.nodes.Parts.{Parts}
use Rattle.core_programs.specs.Bodies.{program_of}
use Rattle.machine_values.specs.declared.values.Value.{Value}
use Rattle.machine_values.specs.Reading.{value_as}
use Rattle.machine_tasks.specs.declared.tasks.Task.{Task}
use Rattle.machine_tasks.specs.Moving.{at_node, bound_in, place_by, place_with}
use Rattle.machine_tasks.specs.Steps.{GoesTo, place_in}

-- the task made this act where it is Silent or End, and stands where it stood where it isn't
abbrev pub Attempts : Parts → Task → Task → Act → Type 0
Attempts program old new a = GoesTo program old new (place_by a (place_in program old))

-- an integer is bound before the node
abbrev pub assigns : Parts → Task → Ident → ℕ → Computed ℤ → Act
assigns program task x next m = with_result m (λ z. act.Silent (place_with program.nodes x (core.Int z) next (place_in program task)))

-- whether the one integer is at most the other
abbrev pub compared : Computed ℤ → Computed ℤ → Computed Bool
compared left right = and_then left (λ a. and_then right (λ b. Done (int_le a b)))

-- this leads to one of two nodes
abbrev pub chooses : Parts → Task → (this other : ℕ) → Computed Bool → Act
chooses program task this other less = with_result less (λ b. act.Silent (at_node program.nodes (if b then this else other) (place_in program task)))

-- the act over the parts of a pair, where it was one
abbrev pub on_parts : Option (Value × Value) → (core.Value → core.Value → Act) → Act
on_parts None go = act.IsStuck NotPair
on_parts (Some parts) go = go (value_as parts.0) (value_as parts.1)

-- the parts of a pair are bound before the node
abbrev pub splits : Parts → Task → Ident → Ident → ℕ → Option (Value × Value) → Act
splits program task x y next parts = on_parts parts (λ a b. act.Silent (at_node program.nodes next (bound_in y b (bound_in x a (place_in program task)))))

-- the act over the number and the value of an arm, where it was one
abbrev pub on_arm : Option (ℕ × Value) → (ℕ → core.Value → Act) → Act
on_arm None go = act.IsStuck NotSum
on_arm (Some found) go = go found.0 (value_as found.1)

-- a value is bound before the arm
abbrev pub picks_arm : Parts → Task → core.Value → Option Arm → Act
picks_arm program task v None = act.IsStuck NotSum
picks_arm program task v (Some arm) = act.Silent (place_with program.nodes arm.pat.name v arm.next (place_in program task))

-- each arm leads to one of so many nodes
abbrev pub LeadWithin : List Arm → ℕ → Type 0
LeadWithin arms count = (number : ℕ) (arm : Arm) → slice_get arms number ≡ Some arm → arm.next < count

-- the value of an arm is bound before the arm with its number
abbrev pub picks : Parts → Task → List Arm → Option (ℕ × Value) → Act
picks program task arms found = on_arm found (λ number v. picks_arm program task v (slice_get arms number))

-- the function begins at these values, above the callers
abbrev pub begins : Parts → Ident → List Caller → Computed (List core.Value) → Act
begins program func callers values = with_result values (λ vs. act.Silent (entered (function_named func (program_of program).funcs) vs callers))
