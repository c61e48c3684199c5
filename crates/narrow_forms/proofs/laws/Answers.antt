use Rattle.narrow_forms.proofs.Narrow.{narrow_terms_fit, narrow_limits_fit}
use Rattle.narrow_forms.proofs.laws.Goals as goal

pub returns : goal.returns
returns c = record { terms = narrow_terms_fit; limits = narrow_limits_fit }
