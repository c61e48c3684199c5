use Rattle.std.proofs.Common.{List, sym, subst}
use Rattle.core_language.specs.Resources.{Proto}
use Rattle.chan_syntax.specs.Reading.{ref_of}
use Rattle.protocols.specs.Unfolding.{HasArity, AreFormed}
use Rattle.protocol_tests.proofs.Formed.{formed}
use Rattle.protocol_tests.proofs.paths.followed.Goals as goal

pub unfold-requires-clause-protos : goal.unfold-requires-clause-protos
unfold-requires-clause-protos c = subst AreFormed (sym c.in_ok-protos.ensures) formed

pub unfold-requires-clause-arity : goal.unfold-requires-clause-arity
unfold-requires-clause-arity c = subst (λ (ps : List Proto). HasArity ps (ref_of c.args.from.now)) (sym c.in_ok-protos.ensures) c.requires.arity
