-- What holds of the runs of a program of form that is outlined.
use Rattle.std.specs.Prelude.{◌≡◌, List, []}
use Rattle.core_language.specs.Names.{Name, same_name}
use Rattle.core_language.specs.Configurations.{start}
use Rattle.core_language.specs.Schedules.{after, IsSafe, IsLive}
use Rattle.core_language.specs.Rounds.{run_of}
use Rattle.core_language.specs.Endings.{Finished, unended, ending_of}
use Rattle.core_programs.specs.declared.nodes.Parts.{Parts}
use Rattle.core_programs.specs.Bodies.{program_of}
use Rattle.core_programs.specs.Form.{HasForm}
use Rattle.graphs.specs.Graph.{IsForest, edges, same_node}
use Rattle.outline_language.specs.Outlined.{IsOutlined}
use Rattle.good_configurations.specs.Good.{Good}
use Rattle.standing_contexts.specs.Places.{PlaceAt}
use Rattle.one_answer.specs.Following.{NoneHalts, moves_along, prints_by, prints_in}

-- whatever the schedule, no task is ever stuck
abbrev pub FormIsSafe : Type 0
FormIsSafe = (parts : Parts) → HasForm parts → IsOutlined (program_of parts) → (schedule : List Name) → IsSafe (program_of parts) (after (program_of parts) schedule)

-- whatever the schedule, some task can go on, or all have ended and no channel is left
abbrev pub FormIsLive : Type 0
FormIsLive = (parts : Parts) → HasForm parts → IsOutlined (program_of parts) → (schedule : List Name) → IsLive (program_of parts) (after (program_of parts) schedule)

-- whatever the schedule, the ends of what is reached form a forest
abbrev pub FormIsForest : Type 0
FormIsForest =
    (parts : Parts) → HasForm parts → IsOutlined (program_of parts) → (schedule : List Name)
    → (good : Good (program_of parts).protos (PlaceAt (program_of parts)) (after (program_of parts) schedule)) × IsForest (same_node same_name) (edges (good.uses))

-- where a schedule without a halt ends after some moves, the round run of as many rounds is finished, and each task has printed the same in it
abbrev pub FormHasOneAnswer : Type 0
FormHasOneAnswer =
    (parts : Parts) → HasForm parts → IsOutlined (program_of parts) → (schedule : List Name) → NoneHalts (program_of parts) (start (program_of parts)) schedule
    → unended (after (program_of parts) schedule) ≡ []
    → (ending_of (program_of parts) (run_of (program_of parts) (moves_along (program_of parts) (start (program_of parts)) schedule)).config ≡ Finished)
    × ((p : Name) → prints_by p (after (program_of parts) schedule).prints ≡ prints_in p (run_of (program_of parts) (moves_along (program_of parts) (start (program_of parts)) schedule)).entries)
