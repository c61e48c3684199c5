-- One task and one channel in the round run.
use Rattle.std.specs.Prelude.{◌≡◌, ℕ, List, filter, Option, Some}
use Rattle.std.specs.FinMap.{get}
use Rattle.core_language.specs.Names.{Name, same_name}
use Rattle.core_language.specs.Values.{Value}
use Rattle.core_language.specs.Programs.{Program}
use Rattle.core_language.specs.Configurations.{Place, Task}
use Rattle.core_language.specs.Steps.{Send}
use Rattle.core_language.specs.Rounds.{Entry, run_of}
use Rattle.task_rounds.specs.Members.{In}

-- a task at a place, which has made so many forks
abbrev pub placed : Place → ℕ → Task
placed place forks = record { place = place; forks = forks }

-- the entries of the task p among these
abbrev pub own : Name → List Entry → List Entry
own p entries = filter (λ e. same_name e.name p) entries

module _ (program : Program) where
  -- the state of the task p after t rounds, where there is such a task
  abbrev pub task_after : ℕ → Name → Option Task
  task_after t p = get (run_of program t).config.tasks p

  -- what stands on the channel c after t rounds, where there is such a channel
  abbrev pub channel_after : ℕ → Name → Option (Option Value)
  channel_after t c = get (run_of program t).config.channels c

  -- the entries of the task p in the rounds 1 to t
  abbrev pub entries_after : ℕ → Name → List Entry
  entries_after t p = own p (run_of program t).entries

  -- in the round r the value was put on the channel
  pub record IsPut (r : ℕ) (c : Name) (v : Value) : Type 0 where
    pub entry : Entry
    pub noted : In entry (run_of program r).entries
    pub sends : entry.event ≡ Send c
    pub on_time : entry.time ≡ r
    pub there : channel_after r c ≡ Some (Some v)
