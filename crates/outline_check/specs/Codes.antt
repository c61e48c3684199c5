-- Stacks as tuples, by which a proof tells them apart.
use Rattle.std.specs.Prelude.{List}
use Rattle.std.proofs.Common.{refl}
use Rattle.std.specs.Coded.{Coded, code_by, coded_list, coded×}
use Rattle.outline_contexts.specs.Trails.{Trail}
use Rattle.outline_contexts.specs.Codes.{trail_code}
use Rattle.outline_check.specs.Stacks.{Stacked}

abbrev pub stacked_code : Coded Stacked
stacked_code = code_by (Trail × List Trail) (coded× trail_code (coded_list trail_code))
    (λ s. (s.current, s.kept)) (λ p. record { current = p.0; kept = p.1 }) (λ s. refl)
