use Rattle.std.proofs.Common.{ap, map, sym, ◌∙◌}
use Rattle.core_language.specs.Resources.{Ref}
use Rattle.chan_syntax.specs.Reading.{term_of}
use Rattle.protocol_tests.proofs.Formed.{from_arity}
use Rattle.protocol_tests.proofs.examples.from.Goals as goal

pub returns : goal.returns
returns c =
    let from : Ref = record { dual = c.args.dual; name = c.in_ok-from.from.name; args = map term_of c.in_ok-from.from.args } in
    from_arity c.args.name.now from _ (ap (λ (r : Ref). r.name) c.in_ok-from.ensures) (ap (λ (r : Ref). r.args) c.in_ok-from.ensures) (sym c.is_stop.ensures ∙ c.if-is_stop.false)
