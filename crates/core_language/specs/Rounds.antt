-- The round run: each task that moves at the start of a round steps once in it.
use Rattle.std.specs.Prelude.{ℕ, ℤ, zero, suc, Bool, true, false, List, [], ◌∷◌, ◌++◌, filter, length}
use Rattle.std.specs.List.{flat_map}
use Rattle.std.specs.FinMap.{keys}
use Rattle.core_language.specs.Names.{Name}
use Rattle.core_language.specs.Programs.{Program}
use Rattle.core_language.specs.Configurations.{Config, start}
use Rattle.core_language.specs.Steps.{Event, Silent, Fork, Send, Recv, Print, End, Step, Moves, Waits, IsEnded, IsAbsent, IsHalted, IsStuck, machine_step, after_step}

abbrev pub is_move : Step → Bool
is_move (Moves D event) = true
is_move (Waits c) = false
is_move IsEnded = false
is_move IsAbsent = false
is_move (IsHalted why) = false
is_move (IsStuck why) = false

-- the task moves and doesn't halt
abbrev pub moves : Program → Config → Name → Bool
moves program C p = is_move (machine_step program C p)

-- the tasks that move, in the order of their names
abbrev pub movers : Program → Config → List Name
movers program C = filter (moves program C) (keys C.tasks)

-- a step at a time, that isn't silent
pub record Entry : Type 0 where
  pub time : ℕ
  pub name : Name
  pub event : Event

abbrev pub event_entries : ℕ → Name → Event → List Entry
event_entries t p Silent = []
event_entries t p (Fork c) = record { time = t; name = p; event = Fork c } ∷ []
event_entries t p (Send c) = record { time = t; name = p; event = Send c } ∷ []
event_entries t p (Recv c) = record { time = t; name = p; event = Recv c } ∷ []
event_entries t p (Print z) = record { time = t; name = p; event = Print z } ∷ []
event_entries t p End = record { time = t; name = p; event = End } ∷ []

-- what a step adds to the entries
abbrev pub step_entries : ℕ → Name → Step → List Entry
step_entries t p (Moves D event) = event_entries t p event
step_entries t p (Waits c) = []
step_entries t p IsEnded = []
step_entries t p IsAbsent = []
step_entries t p (IsHalted why) = []
step_entries t p (IsStuck why) = []

-- a configuration, and the entries up to it
pub record Run : Type 0 where
  pub config : Config
  pub entries : List Entry

-- a task's turn in the round t: where it no longer moves, nothing changes
abbrev pub turn : Program → ℕ → Run → Name → Run
turn program t run p = record {
  config = after_step run.config (machine_step program run.config p);
  entries = run.entries ++ step_entries t p (machine_step program run.config p);
}

abbrev pub turns : Program → ℕ → Run → List Name → Run
turns program t run [] = run
turns program t run (p ∷ ps) = turns program t (turn program t run p) ps

-- the round t: those that move at its start, once each
abbrev pub round : Program → ℕ → Run → Run
round program t run = turns program t run (movers program run.config)

-- the run after so many rounds
unfoldable pub run_of : Program → ℕ → Run
run_of program zero = record { config = start program; entries = [] }
run_of program (suc t) = round program (suc t) (run_of program t)

abbrev pub printed : Event → List ℤ
printed (Print z) = z ∷ []
printed Silent = []
printed (Fork c) = []
printed (Send c) = []
printed (Recv c) = []
printed End = []

-- the numbers that were printed
abbrev pub prints_of : List Entry → List ℤ
prints_of entries = flat_map (λ e. printed e.event) entries

abbrev pub is_fork : Event → Bool
is_fork (Fork c) = true
is_fork Silent = false
is_fork (Send c) = false
is_fork (Recv c) = false
is_fork (Print z) = false
is_fork End = false

-- how many forks there were
abbrev pub forks_of : List Entry → ℕ
forks_of entries = length (filter (λ e. is_fork e.event) entries)
