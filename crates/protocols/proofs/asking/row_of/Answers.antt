use Rattle.std.proofs.Common.{subst}
use Rattle.chan_syntax.specs.Reading.{term_of}
use Rattle.outline_rules.specs.Naming.{int_names_of, IsFaultOf}
use Rattle.protocols.proofs.Asked.{never_unknown}
use Rattle.protocols.proofs.asking.row_of.Goals as goal

pub unreachable-requires : goal.unreachable-requires
unreachable-requires c =
    never_unknown (int_names_of c.args.names.now) (term_of c.args.term.now) _ c.requires (subst (IsFaultOf _) c.in-Err-NotInt.field-0-is c.in-Err-NotInt.ensures.err)
