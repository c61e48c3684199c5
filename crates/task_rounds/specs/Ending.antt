-- How runs of well-behaved programs end.
use Rattle.std.specs.Prelude.{ℕ, List}
use Rattle.core_language.specs.Names.{Name}
use Rattle.core_language.specs.Programs.{Program}
use Rattle.core_language.specs.Schedules.{IsLive, after}
use Rattle.core_language.specs.Rounds.{run_of}
use Rattle.core_language.specs.Endings.{Ending, Finished, Stuck, OutOfRange, TooDeep, Rounds, Deadlocked, Leaked, ending_of}
use Rattle.task_rounds.specs.Reaching.{NeverSticks}

-- what is asked besides: whatever the schedule, some task moves after it, or all have ended and no channel is left
pub record NeverStalls (program : Program) : Type 0 where
  pub live : (schedule : List Name) → IsLive program (after program schedule)

-- no task is stuck
abbrev pub IsUnstuck : Ending → Type 0
IsUnstuck (Stuck p why) = ⊥
IsUnstuck other = Unit {0}

-- all is finished, or a limit stopped it
abbrev pub IsGood : Ending → Type 0
IsGood Finished = Unit {0}
IsGood Rounds = Unit {0}
IsGood (OutOfRange p) = Unit {0}
IsGood (TooDeep p) = Unit {0}
IsGood (Stuck p why) = ⊥
IsGood (Deadlocked ps) = ⊥
IsGood (Leaked cs) = ⊥

abbrev pub EndsUnstuck : Type 0
EndsUnstuck = (program : Program) (t : ℕ) → NeverSticks program → IsUnstuck (ending_of program (run_of program t).config)

abbrev pub EndsWell : Type 0
EndsWell = (program : Program) (t : ℕ) → NeverSticks program → NeverStalls program → IsGood (ending_of program (run_of program t).config)
