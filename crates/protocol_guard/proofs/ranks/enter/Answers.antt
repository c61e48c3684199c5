use Rattle.std.proofs.Common.{◌≡◌, ◌+◌, ◌<◌, List, Bool, [], ◌∷◌, ◌++◌, length, get_or, set, false, true, sym, ap, subst, ◌∙◌, arith}
use Rattle.chan_syntax.specs.declared.operands.Letter.TheVariants as letter
use Rattle.protocol_guard.specs.declared.ranks.Visit.{Visit}
use Rattle.protocol_guard.specs.declared.ranks.Visit.TheVariants as visit
use Rattle.protocol_guard.specs.Ranks.{weights}
use Rattle.protocol_guard.specs.Searches.{unseen}
use Rattle.protocol_guard.proofs.Falling.{weights_more}
use Rattle.protocol_guard.proofs.Searching.{unseen_less}
use Rattle.protocol_guard.proofs.ranks.enter.Goals as goal

pub returns : goal.returns
returns c =
    let walk = c.args.walk.now in
    let place = c.args.place in
    let (within, new) = c.is_new.ensures c.if-not-is_new.false in
    let same : c.as_slice.result.now ≡ walk.found.items = c.as_slice.ensures.value in
    let less : unseen (set walk.found.items place true) + 1 ≡ unseen walk.found.items =
    unseen_less walk.found.items place (subst (λ (bs : List Bool). place < length bs) same within) (ap (λ (bs : List Bool). get_or bs place false) (sym same) ∙ new) in
    let items : c.push-5.new.self.items ≡ ((walk.visits.items ++ visit.Leave place ∷ []) ++ visit.Take place letter.Right ∷ []) ++ visit.Take place letter.Left ∷ [] =
    c.in_ok-push-5.ensures.items ∙ ap (λ (vs : List Visit). vs ++ visit.Take place letter.Left ∷ [])
    (c.in_ok-push-4.ensures.items ∙ ap (λ (vs : List Visit). vs ++ visit.Take place letter.Right ∷ []) c.in_ok-push-3.ensures.items) in
    let more : weights c.push-5.new.self.items ≡ weights walk.visits.items + 1 + 2 + 2 =
    ap weights items ∙ weights_more ((walk.visits.items ++ visit.Leave place ∷ []) ++ visit.Take place letter.Right ∷ []) (visit.Take place letter.Left)
    ∙ ap (λ n. n + 2) (weights_more (walk.visits.items ++ visit.Leave place ∷ []) (visit.Take place letter.Right)
    ∙ ap (λ n. n + 2) (weights_more walk.visits.items (visit.Leave place))) in
    omega (arith, less, more)
