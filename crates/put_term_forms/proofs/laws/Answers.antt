use Rattle.put_term_forms.proofs.Forms.{put_term_is_form}
use Rattle.put_term_forms.proofs.laws.Goals as goal

pub returns : goal.returns
returns c = put_term_is_form
