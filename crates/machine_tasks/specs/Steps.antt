-- What a step keeps of a task, and what it makes of it.
use Rattle.std.specs.Prelude.{◌≡◌, ℕ, List, [], ◌∷◌, ◌++◌, map, reverse}
use Rattle.core_language.specs.Names.{Ident}
use Rattle.core_language.specs.Programs.{function_named}
use Rattle.core_language.specs.Configurations.{Place, Caller, kept}
use Rattle.core_language.specs.Acts.{entered}
use Rattle.core_programs.specs.declared.nodes.Node.{Node}
use Rattle.core_programs.specs.Bodies.{program_of, rest}
use Rattle.core_programs.specs.declared.nodes.Parts.{Parts}
use Rattle.machine_values.specs.declared.binds.Bind.{Bind}
use Rattle.machine_values.specs.declared.values.Value.{Value}
use Rattle.machine_values.specs.Reading.{env_of, value_as}
use Rattle.machine_tasks.specs.declared.tasks.Frame.{Frame}
use Rattle.machine_tasks.specs.declared.tasks.Task.{Task}
use Rattle.machine_tasks.specs.Fits.{FramesFit}
use Rattle.machine_tasks.specs.Moving.{place_after}
use Rattle.machine_tasks.specs.Reading.{act_in, caller_at, caller_of, place_of, IsTask}

-- the program fits the task
abbrev pub FitsTask : Parts → Task → Type 0
FitsTask program task = FramesFit program.nodes task.frames.items

abbrev pub place_in : Parts → Task → Place
place_in program task = place_of program.nodes task.frames.items

-- the node and the variables of a frame
abbrev pub frame_read : Frame → ℕ × List Bind
frame_read frame = (frame.node, frame.binds.items)

-- the same task: its name, its count of forks, its nodes and their variables
pub record IsUnmoved (old new : Task) : Type 0 where
  pub name_is : new.name ≡ old.name
  pub forks_are : new.forks ≡ old.forks
  pub frames_are : map frame_read new.frames.items ≡ map frame_read old.frames.items

-- the task stands at this place now, and has its name and its count of forks still
abbrev pub GoesTo : Parts → Task → Task → Place → Type 0
GoesTo program old new place = IsTask program new old.name old.forks place

-- the task made its step by itself
abbrev pub Advances : Parts → Task → Task → Type 0
Advances program old new = GoesTo program old new (place_after (act_in program old))

-- ---- calls

-- the top frame, and those below it
abbrev pub HasTop : Task → List Frame → Frame → Type 0
HasTop task front f = task.frames.items ≡ front ++ f ∷ []

-- the frames below the top one as callers
abbrev pub callers_of : List Node → List Frame → List Caller
callers_of nodes front = map (caller_of nodes) (reverse front)

-- the frame as a caller that goes on at the node
abbrev pub waiting : List Node → Frame → ℕ → Caller
waiting nodes f n = caller_at (rest nodes f.node) (kept (rest nodes n) (env_of f.binds.items))

-- the function at these values
abbrev pub called : Parts → Ident → List Value → List Caller → Place
called program func values callers = entered (function_named func (program_of program).funcs) (map value_as values) callers
