-- At the start no task has forked.
use Rattle.std.proofs.Common.{◌≡◌, ◌<◌, [], ◌∷◌, arith}
use Rattle.core_language.specs.Names.{Name}
use Rattle.core_language.specs.Configurations.{start}
use Rattle.core_programs.specs.declared.nodes.Parts.{Parts}
use Rattle.core_programs.specs.Bodies.{program_of}
use Rattle.machine_rounds.proofs.Rounded.{forks_before, start_forks}
use Rattle.chan_machine.specs.declared.configurations.Config.{Config}
use Rattle.chan_machine.specs.Fits.{ForksAt}
use Rattle.chan_machine.specs.Reading.{config_of}
use Rattle.chan_machine.proofs.Turned.{forks_at}

pub forks_at_start : (program : Parts) (config : Config) (p : Name) → config_of program config ≡ start (program_of program) → ForksAt config.tasks p
forks_at_start program config p is =
    let less : 0 < 4294967295 = omega arith in
    let C = config_of program config in
    forks_at program config 0 p [] less (forks_before 0 C.tasks (p ∷ []) (start_forks (program_of program) C is))
