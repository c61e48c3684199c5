-- Steps of configurations: what a task does by itself, and what that changes.
use Rattle.std.specs.Prelude.{ℕ, ℤ, suc, [], ◌∷◌, ◌++◌, Option, Some, None}
use Rattle.std.specs.FinMap.{get, insert, remove}
use Rattle.core_language.specs.Names.{Name}
use Rattle.core_language.specs.Programs.{Program}
use Rattle.core_language.specs.Values.{Value}
use Rattle.core_language.specs.Computing.{Limits, unbounded, machine, StuckWhy, FullChannel, NoChannel, Halt}
use Rattle.core_language.specs.Configurations.{Place, Ended, Task, Config}
use Rattle.core_language.specs.Acts.{Act, act_of}
use Rattle.core_language.specs.Acts as act

-- what a step shows
pub data Event : Type 0 where
  Silent : Event
  Fork : Name → Event
  Send : Name → Event
  Recv : Name → Event
  Print : ℤ → Event
  End : Event

-- what a step comes to; only a move changes the configuration
pub data Step : Type 0 where
  Moves : Config → Event → Step
  Waits : Name → Step
  IsEnded : Step
  IsAbsent : Step
  IsHalted : Halt → Step
  IsStuck : StuckWhy → Step

-- the task at another place
abbrev pub with_task : Config → Name → Place → ℕ → Config
with_task C p place forks = record C { tasks = insert C.tasks p (record { place = place; forks = forks }) }

-- a send finds its channel Empty, a receive finds it Full
abbrev pub sent : Config → Name → ℕ → Name → Value → Place → Option (Option Value) → Step
sent C p forks c v place (Some None) = Moves (record (with_task C p place forks) { channels = insert C.channels c (Some v) }) (Send c)
sent C p forks c v place (Some (Some u)) = IsStuck FullChannel
sent C p forks c v place None = IsStuck NoChannel

abbrev pub received : Config → Name → ℕ → Name → (Value → Place) → Option (Option Value) → Step
received C p forks c place (Some (Some v)) = Moves (record (with_task C p (place v) forks) { channels = remove C.channels c }) (Recv c)
received C p forks c place (Some None) = Waits c
received C p forks c place None = IsStuck NoChannel

abbrev pub forked : Config → Name → ℕ → Name → Place → Place → Step
forked C p forks c parent its =
    Moves (record C {
      tasks = insert (insert C.tasks p (record { place = parent; forks = suc forks })) c (record { place = its; forks = 0 });
      channels = insert C.channels c None;
    }) (Fork c)

-- what the act of the task p changes
abbrev pub effect : Config → Name → ℕ → Act → Step
effect C p forks (act.Silent place) = Moves (with_task C p place forks) Silent
effect C p forks (act.Print z place) = Moves (record (with_task C p place forks) { prints = C.prints ++ (p, z) ∷ [] }) (Print z)
effect C p forks (act.Fork c parent its) = forked C p forks c parent its
effect C p forks (act.Send c v place) = sent C p forks c v place (get C.channels c)
effect C p forks (act.Recv c place) = received C p forks c place (get C.channels c)
effect C p forks act.End = Moves (with_task C p Ended forks) End
effect C p forks act.IsEnded = IsEnded
effect C p forks (act.IsHalted why) = IsHalted why
effect C p forks (act.IsStuck why) = IsStuck why

abbrev pub step_at : Limits → Program → Config → Name → Option Task → Step
step_at limits program C p None = IsAbsent
step_at limits program C p (Some t) = effect C p t.forks (act_of limits program p t.forks t.place)

-- the next step of the task p within the limits
abbrev pub step_within : Limits → Program → Config → Name → Step
step_within limits program C p = step_at limits program C p (get C.tasks p)

-- with integers and names of any size
abbrev pub step : Program → Config → Name → Step
step = step_within unbounded

-- of the machine, which halts at its limits
abbrev pub machine_step : Program → Config → Name → Step
machine_step = step_within machine

-- the configuration after the step
abbrev pub after_step : Config → Step → Config
after_step C (Moves D event) = D
after_step C (Waits c) = C
after_step C IsEnded = C
after_step C IsAbsent = C
after_step C (IsHalted why) = C
after_step C (IsStuck why) = C
