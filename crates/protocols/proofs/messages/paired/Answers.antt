use Rattle.std.proofs.Common.{◌≡◌, ◌++◌, ◌∷◌, [], ◌∙◌, ap}
use Rattle.substitution.specs.Places.{Binders, pieces_of_ref, pieces_of_shape, pieces_of_res}
use Rattle.substitution.proofs.Pieces.{pieces_pair}
use Rattle.protocols.proofs.messages.paired.Goals as goal

pub returns-clause-places : goal.returns-clause-places
returns-clause-places c = λ binders.
    let first : pieces_of_res binders c.in_ok-first.first ≡ Binders [] ∷ pieces_of_shape binders c.args.shape = ap (pieces_of_res binders) c.in_ok-first.ensures ∙ c.bare.ensures.places binders in
    let second : pieces_of_res binders c.in_ok-second.second ≡ Binders [] ∷ pieces_of_ref binders c.args.next = ap (pieces_of_res binders) c.in_ok-second.ensures ∙ c.bare-2.ensures.places binders in
    pieces_pair binders c.in_ok-first.first c.in_ok-second.second ∙ ap (λ l. l ++ pieces_of_res binders c.in_ok-second.second) first ∙ ap (λ l. (Binders [] ∷ pieces_of_shape binders c.args.shape) ++ l) second
