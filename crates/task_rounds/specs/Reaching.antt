-- Configurations that schedules reach, and programs of which no task is ever stuck.
use Rattle.std.specs.Prelude.{◌≡◌, List}
use Rattle.core_language.specs.Names.{Name}
use Rattle.core_language.specs.Programs.{Program}
use Rattle.core_language.specs.Configurations.{Config}
use Rattle.core_language.specs.Schedules.{IsSafe, after}

-- some schedule comes to the configuration
pub record IsReached (program : Program) (C : Config) : Type 0 where
  pub schedule : List Name
  pub is : after program schedule ≡ C

-- what is asked of a program: whatever the schedule, no task is stuck after it
pub record NeverSticks (program : Program) : Type 0 where
  pub safe : (schedule : List Name) → IsSafe program (after program schedule)
