-- What lowering leaves of the forms of a tree.
use Rattle.std.specs.Prelude.{◌≡◌, true, List, None, Ok}
use Rattle.std.specs.List.{list_all}
use Rattle.chan_syntax.specs.declared.surface_tree.Surface.{Surface}
use Rattle.core_trees.specs.Core.{is_core}
use Rattle.session_lowering.specs.declared.sources.Source.{Source}
use Rattle.session_lowering.specs.declared.events.Event.{Event}
use Rattle.session_lowering.specs.FirstPass.{sending_fits, first_pass}
use Rattle.session_lowering.specs.Lowered.{sendings, desugared}

-- A tree whose sends have no fault stands for a tree without sessions.
abbrev pub DesugarsToCore : Type 0
DesugarsToCore = (tree core : Surface) → desugared tree ≡ Ok core → is_core core ≡ true

-- Where the first pass finds no fault, 64 bits hold the numbers of each statement that sends, and of its helper.
abbrev pub PassedFit : Type 0
PassedFit = (sources : List Source) (events : List Event) → first_pass sources events ≡ None → list_all (sending_fits sources) (sendings events) ≡ true
