use Rattle.std.proofs.Common.{sym, ap, ◌∙◌}
use Rattle.std.specs.Option.{option_and_then}
use Rattle.outline_language.specs.Nameless.{Resources, resource_at}
use Rattle.value_rules.proofs.Tried.{got, at_number}
use Rattle.value_rules.proofs.arms.nth_resource.Goals as goal

pub returns-in-Some : goal.returns-in-Some
returns-in-Some c =
    got c.in-Some.resources.now c.args.number c.get.result c.get.ensures.lookup.3
    ∙ sym (at_number c.in-Some.resources.now c.args.number)
    ∙ ap (option_and_then (λ (rs : Resources). resource_at rs c.args.number)) c.in-Some.ensures
