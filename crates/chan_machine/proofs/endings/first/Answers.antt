use Rattle.std.proofs.Common.{◌≡◌, ◌∷◌, ◌+◌, ◌≤◌, [], List, drop, length, rules, ap, sym, ◌∙◌}
use Rattle.std.proofs.lemmas.List.{drop_all, drop_more}
use Rattle.core_language.specs.Names.{Name}
use Rattle.core_programs.specs.Bodies.{program_of}
use Rattle.chan_machine.specs.Faulting.{fault_or, first_fault}
use Rattle.chan_machine.specs.Reading.{config_of, step_of}
use Rattle.chan_machine.proofs.endings.first.Goals as goal

pub returns-in-Some : goal.returns-in-Some
returns-in-Some c = λ other.
    let program = program_of c.args.program.now in
    let C = config_of c.args.program.now c.args.config.now in
    let p = c.name-item.result in
    let names = c.as_slice-name-items.result.now in
    let same : names ≡ c.args.names.now = search rules in
    let i = c.loop-name.name-index in
    let later = drop (i + 1) names in
    let steps : drop i names ≡ p ∷ later = drop_more names i p c.loop-name-test.true ∙ ap (λ q. q ∷ later) (sym c.name-item.is) in
    let rest = first_fault c.args.fault program C later other in
    sym (c.loop-name.invariant other) ∙ ap (λ (ns : List Name). first_fault c.args.fault program C (drop i ns) other) (sym same)
    ∙ ap (λ (ns : List Name). first_fault c.args.fault program C ns other) steps
    ∙ ap (λ s. fault_or c.args.fault p s rest) c.in_ok-stepped.ensures.1
    ∙ ap (λ (q : Name). fault_or c.args.fault q (step_of c.in_ok-stepped.ensures.0 c.in_ok-stepped.stepped) rest) (sym c.in_ok-copy.ensures)
    ∙ c.in-Some.ensures c.in_ok-stepped.ensures.0 rest

pub returns : goal.returns
returns c = λ other.
    let names = c.as_slice-name-items.result.now in
    let same : names ≡ c.args.names.now = search rules in
    let over : length names ≤ c.loop-name.name-index = search rules in
    let none : drop c.loop-name.name-index names ≡ [] = drop_all c.loop-name.name-index names over in
    let result = λ (ns : List Name). first_fault c.args.fault (program_of c.args.program.now) (config_of c.args.program.now c.args.config.now) ns other in
    sym (c.loop-name.invariant other) ∙ ap (λ (ns : List Name). result (drop c.loop-name.name-index ns)) (sym same) ∙ ap result none
