-- All loads and parcels of a run's cells, as known tasks and parcels.
use Rattle.std.specs.Prelude.{ℕ, List, map}
use Rattle.core_language.specs.Names.{Name, main}
use Rattle.core_programs.specs.declared.nodes.Parts.{Parts}
use Rattle.core_programs.specs.Bodies.{program_of}
use Rattle.cell_rules.specs.Lists.{In}
use Rattle.hand_states.specs.Hands.{AreAll}
use Rattle.gathered_runs.specs.Complete.{AreComplete}
use Rattle.known_loads.specs.declared.states.State.{State}
use Rattle.known_loads.specs.declared.letters.Letter.{Letter}
use Rattle.known_loads.specs.Holding.{Holds}
use Rattle.known_loads.specs.Meaning.{meanings}
use Rattle.known_loads.specs.Reading.{known_of, parcel_as}

-- all of one program, with main among what was made, make complete lists
abbrev pub ClosesIn : Type 0
ClosesIn = (program : Parts) (limit : ℕ) (made : List (ℕ × Name)) (root : ℕ) (loads : List (Parts × State)) (parcels : List (Parts × Letter))
    → AreAll meanings (program, limit) made loads parcels → In (root, main) made → ((k : Parts × State) → In k loads → Holds k)
    → AreComplete (program_of program) limit (map known_of loads) (map parcel_as parcels)
