-- What holds of the runs of an outlined program, where its form is sound: each law has that as its premise (`IsFormed`).
use Rattle.std.specs.Prelude.{◌≡◌, ◌≢◌, ℕ, List, []}
use Rattle.core_language.specs.Names.{Name, same_name}
use Rattle.core_language.specs.Programs.{Program}
use Rattle.core_language.specs.Configurations.{Config, start}
use Rattle.core_language.specs.Steps.{Event, Moves, step, after_step}
use Rattle.core_language.specs.Schedules.{after, IsSafe, IsLive, IsStuckStep}
use Rattle.core_language.specs.Rounds.{run_of}
use Rattle.core_language.specs.Endings.{Finished, unended, ending_of}
use Rattle.graphs.specs.Graph.{IsForest, edges, same_node}
use Rattle.outline_language.specs.Outlined.{IsOutlined}
use Rattle.good_configurations.specs.Good.{Good}
use Rattle.outline_values.specs.Formed.{IsFormed}
use Rattle.standing_contexts.specs.Places.{PlaceAt}
use Rattle.one_answer.specs.Following.{NoneHalts, moves_along, prints_by, prints_in, EndsWell}

-- a configuration is good where its tasks stand at places that are outlined with their uses
abbrev pub IsGood : Program → Config → Type 0
IsGood P C = Good P.protos (PlaceAt P) C

-- the laws speak of some program: it forks, sends, receives and prints
abbrev pub SomeProgramHolds : Type 0
SomeProgramHolds = (P : Program) × IsOutlined P × IsFormed P

abbrev pub FormedStartIsGood : Type 0
FormedStartIsGood = (P : Program) → IsOutlined P → IsFormed P → IsGood P (start P)

-- a step keeps what is good, and no task of a good configuration is stuck
abbrev pub FormedStepsKeepGood : Type 0
FormedStepsKeepGood = (P : Program) → IsOutlined P → IsFormed P → (C : Config) → IsGood P C → (p : Name) → IsGood P (after_step C (step P C p)) × (¬ (IsStuckStep (step P C p)))

-- whatever the schedule, no task is ever stuck
abbrev pub FormedNeverStuck : Type 0
FormedNeverStuck = (P : Program) → IsOutlined P → IsFormed P → (schedule : List Name) → IsSafe P (after P schedule)

-- whatever the schedule, what is reached is good, and its ends form a forest
abbrev pub FormedReachedIsForest : Type 0
FormedReachedIsForest = (P : Program) → IsOutlined P → IsFormed P → (schedule : List Name) → (good : IsGood P (after P schedule)) × IsForest (same_node same_name) (edges (good.uses))

-- in a good configuration some task moves, or all have ended and no channel is left
abbrev pub FormedGoodIsLive : Type 0
FormedGoodIsLive = (P : Program) → IsOutlined P → IsFormed P → (C : Config) → IsGood P C → IsLive P C

-- so it is in whatever a schedule reaches
abbrev pub FormedAlwaysLive : Type 0
FormedAlwaysLive = (P : Program) → IsOutlined P → IsFormed P → (schedule : List Name) → IsLive P (after P schedule)

-- in a good configuration two tasks that move can step in either order with the same result, the order of prints aside
abbrev pub FormedStepsCommute : Type 0
FormedStepsCommute =
    (P : Program) → IsOutlined P → IsFormed P → (C : Config) → IsGood P C → (p q : Name) (D E : Config) (a b : Event) → p ≢ q → step P C p ≡ Moves D a → step P C q ≡ Moves E b
    → (X Y : Config) × (step P D q ≡ Moves X b) × (step P E p ≡ Moves Y a) × (X.tasks ≡ Y.tasks) × (X.channels ≡ Y.channels)

-- where a schedule without a halt ends after some moves, the round run of as many rounds is finished, and each task has printed the same in it
abbrev pub FormedOneAnswer : Type 0
FormedOneAnswer =
    (P : Program) → IsOutlined P → IsFormed P → (schedule : List Name) → NoneHalts P (start P) schedule → unended (after P schedule) ≡ []
    → (ending_of P (run_of P (moves_along P (start P) schedule)).config ≡ Finished)
    × ((p : Name) → prints_by p (after P schedule).prints ≡ prints_in p (run_of P (moves_along P (start P) schedule)).entries)

-- a round run ends finished, at the rounds limit, or where a task halts: never stuck, deadlocked or leaked
abbrev pub FormedRoundsEndWell : Type 0
FormedRoundsEndWell = (P : Program) → IsOutlined P → IsFormed P → (t : ℕ) → EndsWell (ending_of P (run_of P t).config)
