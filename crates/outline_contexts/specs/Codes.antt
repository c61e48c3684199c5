-- Trails as tuples, by which a proof tells them apart.
use Rattle.std.specs.Prelude.{ℕ, ℤ, List}
use Rattle.std.proofs.Common.{refl}
use Rattle.std.specs.Coded.{Coded, code_by, coded_ℤ, coded_ℕ, coded_list, coded×}
use Rattle.core_language.specs.Names.{Ident}
use Rattle.farkas_check.specs.declared.cert.Row.{Row}
use Rattle.outline_language.specs.Nameless.{Shape}
use Rattle.nameless_shapes.specs.ShapeCode.{shape_code}
use Rattle.outline_contexts.specs.Trails.{Trail}

abbrev pub row_code : Coded Row
row_code = code_by (List ℤ × ℤ) (coded× (coded_list coded_ℤ) coded_ℤ)
    (λ r. (r.coefficients, r.constant)) (λ p. record { coefficients = p.0; constant = p.1 }) (λ r. refl)

abbrev pub names_code : Coded (List Ident)
names_code = coded_list (coded_list coded_ℕ)

abbrev pub TrailParts : Type 0
TrailParts = List Ident × (List Row × (List Ident × (List Shape × List ℕ)))

abbrev pub trail_code : Coded Trail
trail_code = code_by TrailParts (coded× names_code (coded× (coded_list row_code) (coded× names_code (coded× (coded_list shape_code) (coded_list coded_ℕ)))))
    (λ t. (t.ints, (t.hyps, (t.names, (t.shapes, t.taken)))))
    (λ p. record { ints = p.0; hyps = p.1.0; names = p.1.1.0; shapes = p.1.1.1.0; taken = p.1.1.1.1 })
    (λ t. refl)
