-- What the passes find, one after another.
use Rattle.std.proofs.Common.{◌≡◌, [], ◌∷◌, List, Option, Some, None, sym, inr}
use Rattle.form_faults.specs.declared.faults.Ill.{Ill}
use Rattle.form_faults.specs.Faults.{least}
use Rattle.form_faults.proofs.First.{least_is_first, least_is_none}
use Rattle.core_programs.specs.declared.nodes.Parts.{Parts}
use Rattle.core_programs.specs.Passes.{main_faults}
use Rattle.core_programs.specs.Form.{Pass, Mains, IsSilent, FoundFrom}

-- a pass that finds nothing leaves it to the next one
pub behind : (parts : Parts) (pass next : Pass) (later : List Pass) (found : Option Ill) → IsSilent parts pass → FoundFrom parts next later found → FoundFrom parts pass (next ∷ later) found
behind parts pass next later None none more = (none, more)
behind parts pass next later (Some ill) none more = inr (none, more)

pub last_pass : (parts : Parts) (found : Option Ill) → found ≡ least None (main_faults parts) → FoundFrom parts Mains [] found
last_pass parts None is = least_is_none (main_faults parts) (sym is)
last_pass parts (Some ill) is = least_is_first (main_faults parts) ill (sym is)
