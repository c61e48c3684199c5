-- Where the first pass finds no fault, each statement that sends fits.
use Rattle.std.proofs.Common.{◌≡◌, Bool, true, false, None, List, [], ◌∷◌, ◌++◌, refl}
use Rattle.std.specs.List.{list_all}
use Rattle.chan_base.specs.declared.spans.Span.{Span}
use Rattle.form_faults.specs.declared.faults.Ill.{Ill}
use Rattle.form_faults.specs.Faults.{least, unless}
use Rattle.form_faults.proofs.First.{least_is_none}
use Rattle.session_lowering.specs.declared.sources.Source.{Source}
use Rattle.session_lowering.specs.declared.events.Event.{Event}
use Rattle.session_lowering.specs.declared.events.Event.TheVariants.{Sends, Strays}
use Rattle.session_lowering.specs.declared.events.Sending.{Sending}
use Rattle.session_lowering.specs.Sends.{end_of}
use Rattle.session_lowering.specs.FirstPass.{way_faults, end_faults, sending_fits, sending_faults, event_faults, first_pass}
use Rattle.session_lowering.specs.Lowered.{sendings}
use Rattle.lowered_forms.specs.Laws.{PassedFit}
use Rattle.lowered_forms.proofs.Cores.{both, no_first, no_later}

none_behind : {X : Type 0} (xs ys : List X) → xs ++ ys ≡ [] → ys ≡ []
none_behind [] ys is = is
none_behind (x ∷ xs) ys is = cc

fits : (t : Bool) (span : Span) → unless t span ≡ [] → t ≡ true
unfolding unless
fits true span is = refl
fits false span is = cc

sending_passes : (ss : List Source) (s : Sending) → sending_faults ss s ≡ [] → sending_fits ss s ≡ true
sending_passes ss s is =
    fits (sending_fits ss s) s.proto.span
    (none_behind (end_faults ss s (end_of ss s).source) (unless (sending_fits ss s) s.proto.span) (none_behind (way_faults ss s) (end_faults ss s (end_of ss s).source ++ unless (sending_fits ss s) s.proto.span) is))

pub passed_fit : PassedFit
passed_fit ss [] is = refl
passed_fit ss (Sends s ∷ es) is =
    both (sending_fits ss s) (list_all (sending_fits ss) (sendings es))
    (sending_passes ss s (least_is_none (event_faults ss (Sends s)) (no_first (least None (event_faults ss (Sends s))) (first_pass ss es) is)))
    (passed_fit ss es (no_later (least None (event_faults ss (Sends s))) (first_pass ss es) is))
passed_fit ss (Strays span ∷ es) is = passed_fit ss es (no_later (least None (event_faults ss (Strays span))) (first_pass ss es) is)
