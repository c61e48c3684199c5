-- One hand more at the end.
use Rattle.std.proofs.Common.{◌≡◌, List, [], ◌∷◌, ◌++◌, refl, sym, ap, ◌∙◌, append_assoc, append-nil}
use Rattle.worker_waves.specs.Moves.{AreIdle}

pub one_more : {H L : Type 0} (idle : H → List L → Type 0) (hs : List H) (kept : List L) (h : H) (mine : List L) → AreIdle idle hs kept → idle h mine → AreIdle idle (hs ++ h ∷ []) (kept ++ mine)
one_more idle [] kept h mine all is = (mine, [], is, ap (λ l. l ++ mine) all ∙ sym (append-nil mine), refl)
one_more idle (g ∷ hs) kept h mine (its, others, has, whole, rest) is =
    (its, others ++ mine, has, ap (λ l. l ++ mine) whole ∙ append_assoc its others mine, one_more idle hs others h mine rest is)
