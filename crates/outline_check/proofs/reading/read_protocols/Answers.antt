use Rattle.std.proofs.Common.{◌≡◌, true, List, map, sym, subst}
use Rattle.std.specs.List.{list_all}
use Rattle.chan_syntax.specs.declared.resources.Proto.{Proto}
use Rattle.chan_syntax.specs.Reading.{proto_of}
use Rattle.protocol_tables.specs.Protocols.{protocol_read, protocol_fits}
use Rattle.form_tables.proofs.Tables.{protocols_fit}
use Rattle.outline_check.proofs.Ruled.{misfits}
use Rattle.outline_check.proofs.reading.read_protocols.Goals as goal

pub unreachable-requires : goal.unreachable-requires
unreachable-requires c =
    misfits _ c.in-Err-TooLarge.field-0 c.in-Err-TooLarge.field-0-is c.in-Err-TooLarge.ensures.err
    (subst (λ (ps : List Proto). list_all protocol_fits (map protocol_read (map proto_of ps)) ≡ true) (sym c.as_slice.ensures) (protocols_fit c.args.parts.now c.requires.form))
