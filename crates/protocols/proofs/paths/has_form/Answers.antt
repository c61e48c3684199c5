use Rattle.std.proofs.Common.{map, ap, sym, ◌∙◌}
use Rattle.std.specs.Option.{option_map, option_copied}
use Rattle.chan_syntax.specs.Reading.{ref_of, proto_of}
use Rattle.protocols.proofs.Letters.{no_form}
use Rattle.protocols.proofs.paths.has_form.Goals as goal

pub returns-in-None : goal.returns-in-None
returns-in-None c =
    let none = sym c.picked_at.ensures ∙ ap (λ o. option_map ref_of (option_copied o)) c.in-None.is in
    sym (no_form (map proto_of c.args.protos.now) c.args.path.now c.loop-letter.letter-index _ c.loop-letter.name.now c.loop-letter-test.true none) ∙ c.loop-letter.invariant
