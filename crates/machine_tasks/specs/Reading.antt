-- Frames and tasks as the core language has them: numbers of nodes and the order of frames aside.
use Rattle.std.specs.Prelude.{◌≡◌, ℕ, List, [], ◌∷◌, map, reverse}
use Rattle.core_language.specs.Names.{Name}
use Rattle.core_language.specs.Computing as computing
use Rattle.core_language.specs.Programs.{Body}
use Rattle.core_language.specs.Programs as body
use Rattle.core_language.specs.Configurations as configuration
use Rattle.core_language.specs.Acts.{Act, act_of}
use Rattle.core_programs.specs.declared.nodes.Node.{Node}
use Rattle.core_programs.specs.declared.nodes.Parts.{Parts}
use Rattle.core_programs.specs.Bodies.{rest, program_of}
use Rattle.machine_values.specs.Reading.{env_of}
use Rattle.machine_tasks.specs.declared.tasks.Frame.{Frame}
use Rattle.machine_tasks.specs.declared.tasks.Task.{Task}
use Rattle.machine_tasks.specs.Fits.{FramesFit}

-- a caller at a Call, which goes on after it with the result
abbrev pub caller_at : Body → computing.Env → configuration.Caller
caller_at (body.Call span pat func values proof next) env = record { name = pat.name; rest = next; env = env }
caller_at other env = record { name = []; rest = other; env = env }

abbrev pub caller_of : List Node → Frame → configuration.Caller
caller_of nodes frame = caller_at (rest nodes frame.node) (env_of frame.binds.items)

-- the frames, from the top one to the bottom one, as a place
abbrev pub place_from : List Node → List Frame → configuration.Place
place_from nodes [] = configuration.Ended
place_from nodes (top ∷ callers) = configuration.Running (rest nodes top.node) (env_of top.binds.items) (map (caller_of nodes) callers)

abbrev pub place_of : List Node → List Frame → configuration.Place
place_of nodes frames = place_from nodes (reverse frames)

abbrev pub task_of : List Node → Task → configuration.Task
task_of nodes task = record { place = place_of nodes task.frames.items; forks = task.forks }

-- what the task does next in the program
abbrev pub act_in : Parts → Task → Act
act_in program task = act_of computing.machine (program_of program) task.name task.forks (place_of program.nodes task.frames.items)

-- a task that fits, with this name, so many forks and this place
pub record IsTask (program : Parts) (task : Task) (name : Name) (forks : ℕ) (place : configuration.Place) : Type 0 where
  pub name_is : task.name ≡ name
  pub forks_are : task.forks ≡ forks
  pub place_is : place_of program.nodes task.frames.items ≡ place
  pub fits : FramesFit program.nodes task.frames.items
