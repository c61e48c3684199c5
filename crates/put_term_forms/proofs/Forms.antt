-- One law after the other.
use Rattle.std.proofs.Common.{◌++◌}
use Rattle.chan_syntax.specs.Reading.{term_of}
use Rattle.nameless_ties.proofs.Instances.{put_term_is_instance}
use Rattle.session_lowering.specs.PutTerms.{puts, put_term}
use Rattle.session_lowering.specs.Helpers.{names_as_terms}
use Rattle.put_term_laws.specs.PutTerms.{vars_of}
use Rattle.put_term_laws.proofs.Renamed.{renamed_is_put}
use Rattle.put_term_forms.specs.Forms.{PutTermIsForm}

pub put_term_is_form : PutTermIsForm
put_term_is_form span ints before after ps t many stand are is =
    put_term_is_instance ints before after (vars_of ps) (term_of t) (term_of (put_term span (puts before (names_as_terms span after) ++ ps) t)) (renamed_is_put span before after ps t many stand are is)
