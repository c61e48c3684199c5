-- The run so far, who may move, and who waits.
use Rattle.std.specs.Prelude.{◌≡◌, Bool, true, false, ◌||◌, map, List, Option, Some, None}
use Rattle.std.specs.Ordering.{nat_cmp}
use Rattle.std.specs.Cmp.Lexicographic.{slice_cmp}
use Rattle.std.specs.Global.{Vec}
use Rattle.std.specs.List.Sorted.{IsStrictlySortedBy}
use Rattle.std.specs.BTreeMap.{BTreeMap}
use Rattle.core_language.specs.Names.{Name}
use Rattle.core_language.specs.Steps.{Event}
use Rattle.core_language.specs.Rounds as rounds
use Rattle.core_programs.specs.declared.nodes.Parts.{Parts}
use Rattle.core_programs.specs.Bodies.{program_of}
use Rattle.machine_rounds.specs.Ready.{IsParked}
use Rattle.machine_rounds.specs.Local.{moves_in, looks_at}
use Rattle.machine_rounds.specs.Sets.{has}
use Rattle.machine_rounds.specs.Showing.{Spreads}
use Rattle.machine_tasks.specs.Kinds.{Kind}
use Rattle.machine_tasks.specs.Kinds as kind
use Rattle.chan_machine.specs.declared.events.Event.{Event as Shown}
use Rattle.chan_machine.specs.declared.events.Event.TheVariants as shown
use Rattle.chan_machine.specs.declared.events.Stepped.{Stepped}
use Rattle.chan_machine.specs.declared.events.Stepped.TheVariants as stepped
use Rattle.chan_machine.specs.declared.runs.Run.{Run}
use Rattle.chan_machine.specs.declared.runs.Queue.{Queue}
use Rattle.chan_machine.specs.declared.runs.Joining.{Joining}
use Rattle.chan_machine.specs.declared.runs.Seat.{Seat}
use Rattle.chan_machine.specs.Reading.{config_of, entry_of}
use Rattle.chan_machine.specs.Parking.{is_joined, names_of, seats, waits}

abbrev pub run_as : Parts → Run → rounds.Run
run_as program run = record { config = config_of program run.config; entries = map entry_of run.entries }

-- whether a task moves whose next act is of this kind, and which finds this on its channel
abbrev pub moves_with : {V : Type 0} → Kind → Option (Option V) → Bool
moves_with kind.Silent found = true
moves_with (kind.Print z) found = true
moves_with kind.Fork found = true
moves_with kind.End found = true
moves_with kind.Send (Some None) = true
moves_with kind.Send (Some (Some v)) = false
moves_with kind.Send None = false
moves_with kind.Recv (Some (Some v)) = true
moves_with kind.Recv (Some None) = false
moves_with kind.Recv None = false
moves_with kind.IsEnded found = false
moves_with (kind.IsHalted why) found = false
moves_with (kind.IsStuck why) found = false

-- what a step shows that was made
abbrev pub event_in : Stepped → Option Shown
event_in (stepped.Moved event) = Some event
event_in other = None

abbrev pub shows_nothing : Shown → Bool
shows_nothing shown.Silent = true
shows_nothing other = false

-- the task is one of the movers, or has joined
abbrev pub stands_in : List Name → Joining → Name → Bool
stands_in movers queue q = has (slice_cmp nat_cmp) movers q || is_joined queue.joined q

-- what the step of a mover that shows the event may have set free stands in the queue afterwards
abbrev pub SpreadsTo : Event → Joining → Joining → Type 0
SpreadsTo event before after = (p : Name) (movers : List Name) → has (slice_cmp nat_cmp) movers p ≡ true
    → Spreads p event (stands_in movers before) (stands_in movers after) (waits before.waiting) (waits after.waiting)

-- who isn't live doesn't move, and waits at the channel at which it looks
abbrev pub Parked : Parts → Run → (Name → Bool) → BTreeMap Name (Vec Seat) → Type 0
Parked program run live waiting = IsParked (moves_in (program_of program)) (looks_at (program_of program)) (run_as program run) live (waits waiting)

-- who is no mover of the round and has not joined in it is parked
abbrev pub ParkedBut : Parts → Run → List Name → Joining → Type 0
ParkedBut program run movers queue = Parked program run (stands_in movers queue) queue.waiting

-- the names of the ready tasks ascend, and who isn't ready is parked
abbrev pub IsQueue : Parts → Run → Queue → Type 0
IsQueue program run queue = IsStrictlySortedBy (slice_cmp nat_cmp) (names_of queue.ready.items) × Parked program run (seats queue.ready.items) queue.waiting
