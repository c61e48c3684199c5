use Rattle.std.proofs.Common.{ap, sym, ◌∙◌}
use Rattle.core_programs.specs.Bodies.{program_of}
use Rattle.chan_machine.specs.declared.endings.Fault.TheVariants as fault
use Rattle.chan_machine.specs.Faulting.{first_fault, or_else}
use Rattle.chan_machine.specs.Reading.{config_of}
use Rattle.chan_machine.proofs.Ended.{faulted_is}
use Rattle.chan_machine.proofs.endings.faulted.Goals as goal

pub returns-in-Some : goal.returns-in-Some
returns-in-Some c = λ other.
    let program = program_of c.args.program.now in
    let C = config_of c.args.program.now c.args.config.now in
    let depth = first_fault fault.Depth program C c.args.names.now other in
    let range = first_fault fault.Range program C c.args.names.now depth in
    sym (faulted_is program C c.args.names.now other) ∙ c.in_ok-ending.ensures range ∙ ap (λ o. or_else o range) c.in-Some.is

pub returns-in-Some-2 : goal.returns-in-Some-2
returns-in-Some-2 c = λ other.
    let program = program_of c.args.program.now in
    let C = config_of c.args.program.now c.args.config.now in
    let depth = first_fault fault.Depth program C c.args.names.now other in
    let range = first_fault fault.Range program C c.args.names.now depth in
    sym (faulted_is program C c.args.names.now other) ∙ c.in_ok-ending.ensures range ∙ ap (λ o. or_else o range) c.in_default.is
    ∙ c.in_ok-ending-2.ensures depth ∙ ap (λ o. or_else o depth) c.in-Some-2.is

pub returns : goal.returns
returns c = λ other.
    let program = program_of c.args.program.now in
    let C = config_of c.args.program.now c.args.config.now in
    let depth = first_fault fault.Depth program C c.args.names.now other in
    let range = first_fault fault.Range program C c.args.names.now depth in
    sym (faulted_is program C c.args.names.now other) ∙ c.in_ok-ending.ensures range ∙ ap (λ o. or_else o range) c.in_default.is
    ∙ c.in_ok-ending-2.ensures depth ∙ ap (λ o. or_else o depth) c.in_default-2.is ∙ c.in_ok-ending-3.ensures other
