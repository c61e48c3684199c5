-- What a round does, where no task is ever stuck.
use Rattle.std.specs.Prelude.{◌≡◌, ◌⊎◌, ℕ, suc, ◌+◌, true, false, ◌++◌, Some}
use Rattle.std.specs.FinMap.{get}
use Rattle.core_language.specs.Names.{Name}
use Rattle.core_language.specs.Values.{Value}
use Rattle.core_language.specs.Programs.{Program}
use Rattle.core_language.specs.Configurations.{Config, Task}
use Rattle.core_language.specs.Steps.{Event, Moves, machine_step}
use Rattle.core_language.specs.Rounds.{is_move, event_entries, run_of}
use Rattle.machine_rounds.specs.Local.{act_in, alters, uses}
use Rattle.task_rounds.specs.Reaching.{IsReached, NeverSticks}
use Rattle.task_rounds.specs.Telling.{was_received, Tells}
use Rattle.task_rounds.specs.Tasks.{task_after, channel_after, entries_after, IsPut}

-- some schedule comes to the configuration after t rounds, and the entries tell what it is made of
abbrev pub RunsAreTold : Type 0
RunsAreTold = (program : Program) (t : ℕ) → IsReached program (run_of program t).config × Tells (run_of program t).entries (run_of program t).config

-- after the next round what the task p alters is as after its step alone
pub record StepsAlone (program : Program) (t : ℕ) (p : Name) (next : Config) (event : Event) : Type 0 where
  pub tasks : (x : Name) → alters p (act_in program (run_of program t).config p) x ≡ true → task_after program (suc t) x ≡ get next.tasks x
  pub channels : (c : Name) → uses (act_in program (run_of program t).config p) c ≡ true → channel_after program (suc t) c ≡ get next.channels c
  pub entries : entries_after program (suc t) p ≡ entries_after program t p ++ event_entries (suc t) p event

-- a task that moves at the start of a round makes that very step in it
abbrev pub MoversStep : Type 0
MoversStep = (program : Program) (t : ℕ) (p : Name) (next : Config) (event : Event) → NeverSticks program → machine_step program (run_of program t).config p ≡ Moves next event → StepsAlone program t p next event

-- a task that doesn't move then stays as it is
abbrev pub OthersStay : Type 0
OthersStay = (program : Program) (t : ℕ) (p : Name) (s : Task) → NeverSticks program → task_after program t p ≡ Some s → is_move (machine_step program (run_of program t).config p) ≡ false
    → (task_after program (suc t) p ≡ Some s) × (entries_after program (suc t) p ≡ entries_after program t p)

-- what was put on a channel stays there until it is received
abbrev pub ValuesStay : Type 0
ValuesStay = (program : Program) (r d : ℕ) (c : Name) (v : Value) → NeverSticks program → IsPut program r c v
    → (channel_after program (d + r) c ≡ Some (Some v)) ⊎ (was_received c (run_of program (d + r)).entries ≡ true)
