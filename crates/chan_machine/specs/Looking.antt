-- What steps and looks answer.
use Rattle.std.specs.Prelude.{◌≡◌, ℕ, Option, Some}
use Rattle.std.specs.Option.{option_map}
use Rattle.std.specs.BTreeMap.{BTreeMap}
use Rattle.std.specs.FinMap.{get}
use Rattle.core_language.specs.Names.{Name}
use Rattle.core_language.specs.Acts.{Act, channel_in}
use Rattle.core_language.specs.Configurations as core
use Rattle.core_language.specs.Steps.{Step, effect}
use Rattle.core_programs.specs.declared.nodes.Parts.{Parts}
use Rattle.machine_values.specs.declared.values.Value.{Value}
use Rattle.machine_values.specs.Reading.{value_as}
use Rattle.machine_tasks.specs.declared.tasks.Task.{Task}
use Rattle.machine_tasks.specs.Kinds.{Kind, kind_of}
use Rattle.machine_tasks.specs.Reading.{act_in}
use Rattle.chan_machine.specs.declared.configurations.Config.{Config}
use Rattle.chan_machine.specs.declared.events.Stepped.{Stepped}
use Rattle.chan_machine.specs.Reading.{config_of, map_of, step_of}

-- the answer is that of the step, whatever configuration it would come to
abbrev pub Answers : Step → Stepped → Type 0
Answers step answer = (after : core.Config) × (step ≡ step_of after answer)

-- an act of this kind at the channel c is answered so, whoever makes it, where these are the channels
abbrev pub AnswersAlone : Kind → BTreeMap Name (Option Value) → Name → Stepped → Type 0
AnswersAlone kind channels c answer = (C : core.Config) (p : Name) (k : ℕ) (a : Act)
    → C.channels ≡ map_of (option_map value_as) channels → kind ≡ kind_of a → Some c ≡ channel_in a → Answers (effect C p k a) answer

-- the act of the task p, which is of this kind, took the configuration to the other one, and is answered so
abbrev pub AnswersAt : Kind → Parts → Config → Config → Name → Stepped → Type 0
AnswersAt kind program before after p answer = (t : Task) → get before.tasks p ≡ Some t → kind ≡ kind_of (act_in program t)
    → effect (config_of program before) p t.forks (act_in program t) ≡ step_of (config_of program after) answer

-- the same of an act at the channel c
abbrev pub AnswersOn : Kind → Parts → Config → Config → Name → Name → Stepped → Type 0
AnswersOn kind program before after p c answer = (t : Task) → get before.tasks p ≡ Some t → kind ≡ kind_of (act_in program t) → Some c ≡ channel_in (act_in program t)
    → effect (config_of program before) p t.forks (act_in program t) ≡ step_of (config_of program after) answer
