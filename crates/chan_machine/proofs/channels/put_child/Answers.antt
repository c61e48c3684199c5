use Rattle.std.proofs.Common.{Option, None, sym, subst, ◌∙◌}
use Rattle.std.specs.Option.{option_map}
use Rattle.std.specs.Ordering.{nat_cmp}
use Rattle.std.specs.Cmp.Lexicographic.{slice_cmp}
use Rattle.std.specs.BTreeMap.{Updates, get as looked_up}
use Rattle.core_language.specs.Names.{Name}
use Rattle.machine_values.specs.declared.values.Value.{Value}
use Rattle.machine_values.specs.Reading.{value_as}
use Rattle.chan_machine.proofs.Maps.{undone}
use Rattle.chan_machine.proofs.channels.put_child.Goals as goal

pub returns-in-Err-clause-err_channels : goal.returns-in-Err-clause-err_channels
returns-in-Err-clause-err_channels c =
    let n = c.insert.new.self in
    let o = c.restore.new.channels in
    let back = subst (λ (w : Option (Option Value)). Updates (slice_cmp nat_cmp) n o c.args.names.1 w) c.in_ok-old.ensures.old c.restore.ensures in
    undone (option_map value_as) c.args.channels.now n o c.args.names.0 None c.in_ok-old.ensures.updates
    (subst (λ (k : Name). Updates (slice_cmp nat_cmp) n o k (looked_up (slice_cmp nat_cmp) c.args.channels.now c.args.names.0)) (c.requires.second ∙ sym c.requires.first) back)
