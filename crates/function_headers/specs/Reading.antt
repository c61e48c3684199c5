-- Headers of the code as the definitions have them.
use Rattle.std.specs.Prelude.{map}
use Rattle.nameless_forms.specs.Limits.{limit_of}
use Rattle.function_headers.specs.declared.headers.Header.{Header}
use Rattle.function_headers.specs.Headers as spec

abbrev pub header_of : Header → spec.Header
header_of h = record {
  name = h.name;
  binders = h.binders;
  limits = map limit_of h.limits;
  shapes = h.shapes;
  result = h.result;
  gives_unit = h.gives_unit;
}
