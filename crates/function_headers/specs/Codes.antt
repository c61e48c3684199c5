-- Headers as tuples, by which a proof tells them apart.
use Rattle.std.specs.Prelude.{ℕ, Bool, List}
use Rattle.std.proofs.Common.{refl}
use Rattle.std.specs.Coded.{Coded, code_by, coded_ℕ, coded_bool, coded_list, coded×}
use Rattle.outline_language.specs.Nameless.{Limit, Shape, Res}
use Rattle.nameless_shapes.specs.ShapeCode.{limit_code, shape_code, res_code}
use Rattle.function_headers.specs.Headers.{Header}

abbrev pub HeaderParts : Type 0
HeaderParts = List ℕ × (ℕ × (List Limit × (List Shape × (Res × Bool))))

abbrev pub header_code : Coded Header
header_code = code_by HeaderParts (coded× (coded_list coded_ℕ) (coded× coded_ℕ (coded× (coded_list limit_code) (coded× (coded_list shape_code) (coded× res_code coded_bool)))))
    (λ h. (h.name, (h.binders, (h.limits, (h.shapes, (h.result, h.gives_unit))))))
    (λ p. record { name = p.0; binders = p.1.0; limits = p.1.1.0; shapes = p.1.1.1.0; result = p.1.1.1.1.0; gives_unit = p.1.1.1.1.1 })
    (λ h. refl)

abbrev pub headers_code : Coded (List Header)
headers_code = coded_list header_code
