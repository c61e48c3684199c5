-- Faults of the statements that send and go on, and of `again`.
use Rattle.std.specs.Prelude.{codes, Bool, true, ◌&&◌, ◌||◌, if◌then◌else◌, nat_eq, nat_le, List, [], ◌∷◌, ◌++◌, flat_map, length, Option, Some, None}
use Rattle.std.specs.List.{list_all}
use Rattle.form_faults.specs.declared.faults.IllKind.TheVariants as kind
use Rattle.form_faults.specs.declared.faults.Ill.{Ill}
use Rattle.form_faults.specs.Faults.{of_name, unless, least}
use Rattle.session_lowering.specs.declared.events.Event.{Event}
use Rattle.session_lowering.specs.declared.events.Event.TheVariants.{Sends, Strays}
use Rattle.session_lowering.specs.declared.sources.Source.{Source}
use Rattle.session_lowering.specs.declared.events.Sending.{Sending}
use Rattle.session_lowering.specs.Sends.{Message, Stop, first_stop, stops_of, end_of, message_of, goes_on_as}
use Rattle.session_lowering.specs.Helpers.{are_narrow, helper_fits}

-- ---- names and counts

-- a count of arguments, unless it is right
abbrev pub count_faults : Sending → Stop → Source → List Ill
count_faults s stop source =
    if nat_eq (length stop.ref.args) (length source.proto.params) then [] else of_name kind.Arity s.proto.name s.proto.span

-- a name that isn't declared stands at its reference
abbrev pub name_faults : Sending → Stop → Option Source → List Ill
name_faults s stop None = of_name kind.UnknownName stop.ref.name stop.ref.span
name_faults s stop (Some source) = count_faults s stop source

abbrev pub stop_faults : Sending → Stop → List Ill
stop_faults s stop = name_faults s stop stop.source

-- those of the references on the way, the statement's own first
abbrev pub way_faults : List Source → Sending → List Ill
way_faults sources s = stop_faults s (first_stop sources s) ++ flat_map (stop_faults s) (stops_of sources s)

-- ---- where they end

-- the binders of the message have instances; a choice has one
abbrev pub instance_faults : Sending → Message → List Ill
instance_faults s m =
    if s.chooses || nat_le (length m.res.bound.names) (length s.proof.instances) then [] else of_name kind.Arity s.proto.name s.proto.span

abbrev pub message_faults : Sending → Option Message → List Ill
message_faults s None = of_name kind.WrongSession s.proto.name s.proto.span
message_faults s (Some m) = instance_faults s m

-- a path that leads to no declared protocol has its fault already
abbrev pub end_faults : List Source → Sending → Option Source → List Ill
end_faults sources s None = []
end_faults sources s (Some source) = message_faults s (message_of sources s)

-- ---- numbers

abbrev pub message_fits : List Source → Sending → Option Message → Bool
message_fits sources s None = true
message_fits sources s (Some m) = are_narrow (goes_on_as sources s m).args && helper_fits sources s m

-- 64 bits hold each number on the way, of the end that the statement gives, and of the helper
abbrev pub sending_fits : List Source → Sending → Bool
sending_fits sources s = list_all (λ stop. are_narrow stop.ref.args) (stops_of sources s) && message_fits sources s (message_of sources s)

-- ---- all of them

abbrev pub sending_faults : List Source → Sending → List Ill
sending_faults sources s =
    way_faults sources s ++ (end_faults sources s (end_of sources s).source ++ unless (sending_fits sources s) s.proto.span)

abbrev pub event_faults : List Source → Event → List Ill
event_faults sources (Sends s) = sending_faults sources s
event_faults sources (Strays span) = of_name kind.Unscoped (codes "again") span

abbrev pub or_else : Option Ill → Option Ill → Option Ill
or_else None later = later
or_else (Some fault) later = Some fault

-- of the first statement that has a fault the one that stands first
abbrev pub first_pass : List Source → List Event → Option Ill
first_pass sources [] = None
first_pass sources (e ∷ es) = or_else (least None (event_faults sources e)) (first_pass sources es)
