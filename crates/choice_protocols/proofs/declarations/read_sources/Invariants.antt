use Rattle.std.proofs.Common.{◌≡◌, ◌++◌, flat_map, drop}
use Rattle.session_lowering.specs.Choices.{declared}
use Rattle.choice_protocols.proofs.declarations.read_sources.Given as goal

abbrev pub invariant-loop-decl : goal.invariant-loop-decl
invariant-loop-decl l = l.sources ++ flat_map declared (drop l.decl-index l.decls) ≡ flat_map declared l.decls
