-- What becomes of a task's place when its frames change.
use Rattle.std.specs.Prelude.{ℕ, ◌+◌, ◌≤◌, List, [], ◌∷◌, reverse, Option, Some, None, vec_len, vec_capacity}
use Rattle.core_language.specs.Names.{Ident}
use Rattle.core_language.specs.Values.{Value}
use Rattle.core_language.specs.Values as value
use Rattle.core_language.specs.Configurations.{Place, Running, Ended, Caller}
use Rattle.core_language.specs.Acts.{Act, at, bound, returned}
use Rattle.core_language.specs.Acts as act
use Rattle.core_programs.specs.declared.nodes.Node.{Node}
use Rattle.core_programs.specs.Bodies.{rest}
use Rattle.machine_values.specs.Reading.{env_of}
use Rattle.machine_tasks.specs.declared.tasks.Frame.{Frame}

-- the top frame at the node
abbrev pub at_node : List Node → ℕ → Place → Place
at_node nodes n Ended = Ended
at_node nodes n (Running here env callers) = at (rest nodes n) env callers

-- the top frame with one more variable
abbrev pub bound_in : Ident → Value → Place → Place
bound_in x v Ended = Ended
bound_in x v (Running here env callers) = Running here (bound env x v) callers

-- the top frame at the node, with one more variable
abbrev pub place_with : List Node → Ident → Value → ℕ → Place → Place
place_with nodes x v n place = at_node nodes n (bound_in x v place)

-- the frame on top of the callers, where there is one
abbrev pub above : List Node → Option Frame → List Caller → Place
above nodes None callers = Ended
above nodes (Some f) callers = Running (rest nodes f.node) (env_of f.binds.items) callers

-- where its own act leaves a task
abbrev pub place_after : Act → Place
place_after (act.Silent place) = place
place_after (act.Print z place) = place
place_after (act.Fork child parent its) = parent
place_after (act.Send channel v place) = place
place_after other = Ended

-- where a task stands once it made its act, where that is Silent or End; another one leaves it where it was
abbrev pub place_by : Act → Place → Place
place_by (act.Silent place) old = place
place_by act.End old = Ended
place_by other old = old

-- the act is one that concerns no other task and no channel
abbrev pub IsQuiet : Act → Type 0
IsQuiet (act.Silent place) = Unit {0}
IsQuiet (act.Print z place) = Unit {0}
IsQuiet act.End = Unit {0}
IsQuiet other = ⊥

abbrev pub IsPrint : Act → Type 0
IsPrint (act.Print z place) = Unit {0}
IsPrint other = ⊥

-- the top one of the frames, which are given from it on, has room for so many more variables
abbrev pub RoomFrom : List Frame → ℕ → Type 0
RoomFrom [] n = Unit {0}
RoomFrom (top ∷ callers) n = vec_len top.binds + n ≤ vec_capacity top.binds

abbrev pub HasRoom : List Frame → ℕ → Type 0
HasRoom frames n = RoomFrom (reverse frames) n
