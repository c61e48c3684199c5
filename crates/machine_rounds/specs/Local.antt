-- What a turn of a task alters: the tasks, and the channels.
use Rattle.std.specs.Prelude.{Bool, false, ◌||◌, Option, Some, None}
use Rattle.std.specs.FinMap.{get}
use Rattle.core_language.specs.Names.{Name, same_name}
use Rattle.core_language.specs.Programs.{Program}
use Rattle.core_language.specs.Computing.{machine}
use Rattle.core_language.specs.Configurations.{Config, Task}
use Rattle.core_language.specs.Acts.{Act, act_of, channel_in}
use Rattle.core_language.specs.Acts as act
use Rattle.core_language.specs.Rounds.{Run, moves}

-- what the task does next; nothing where no such task was made
abbrev pub act_at : Program → Name → Option Task → Act
act_at program p None = act.IsEnded
act_at program p (Some t) = act_of machine program p t.forks t.place

abbrev pub act_in : Program → Config → Name → Act
act_in program C p = act_at program p (get C.tasks p)

-- an act of p alters the task q
abbrev pub alters : Name → Act → Name → Bool
alters p (act.Fork c parent its) q = same_name q c || same_name q p
alters p other q = same_name q p

-- an act alters the channel
abbrev pub uses : Act → Name → Bool
uses (act.Fork d parent its) c = same_name c d
uses (act.Send d v place) c = same_name c d
uses (act.Recv d place) c = same_name c d
uses other c = false

module _ (program : Program) where
  abbrev pub moves_in : Run → Name → Bool
  moves_in run p = moves program run.config p

  abbrev pub looks_at : Run → Name → Option Name
  looks_at run p = channel_in (act_in program run.config p)

  abbrev pub changes : Run → Name → Name → Bool
  changes run p q = alters p (act_in program run.config p) q

  abbrev pub touches : Run → Name → Name → Bool
  touches run p c = uses (act_in program run.config p) c
