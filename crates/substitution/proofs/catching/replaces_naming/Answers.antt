use Rattle.std.proofs.Common.{option_copied, sym, ◌∙◌, ap}
use Rattle.substitution.proofs.Lookups.{names_found, names_absent}
use Rattle.substitution.proofs.catching.replaces_naming.Goals as goal

pub returns-in-Some : goal.returns-in-Some
returns-in-Some c =
    let names = rw c.as_slice.ensures at c.parts_name.ensures in
    names ∙ sym (names_found c.args.put.now c.args.name.now c.args.other.now c.in-Some.put.now (sym c.put_named.ensures ∙ ap option_copied c.in-Some.is))

pub returns-in-None : goal.returns-in-None
returns-in-None c = sym (names_absent c.args.put.now c.args.name.now c.args.other.now (sym c.put_named.ensures ∙ ap option_copied c.in-None.is))
