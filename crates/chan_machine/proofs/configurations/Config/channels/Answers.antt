use Rattle.std.proofs.Common.{◌≡◌, ◌++◌, [], append-nil, rules, ap, sym, ◌∙◌}
use Rattle.std.specs.Option.{option_map}
use Rattle.machine_values.specs.Reading.{value_as}
use Rattle.chan_machine.proofs.Listed.{keys_read, names_in}
use Rattle.chan_machine.proofs.configurations.Config.channels.Goals as goal

pub returns : goal.returns
returns c = λ program.
    let none : c.channels.name-iterator ≡ [] = search rules in
    sym (append-nil c.channels.names) ∙ ap (λ es. c.channels.names ++ names_in es) (sym none) ∙ c.channels.invariant
    ∙ keys_read (option_map value_as) c.args.self.now.channels c.iter-name-items.ensures.ordered
