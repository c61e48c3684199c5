use Rattle.std.proofs.Common.{[], ◌∷◌, refl}
use Rattle.part_tests.specs.Examples as spec
use Rattle.part_tests.proofs.Numbered.{numbered}
use Rattle.part_tests.proofs.parts.chain.Goals as goal

pub returns : goal.returns
returns c = numbered _ spec.chain (0 ∷ []) c.in_ok-nodes.ensures c.in_ok-funcs.ensures refl
