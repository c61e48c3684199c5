-- What a call asks of a load or a parcel rests on what the view knows alone.
use Rattle.std.proofs.Common.{◌≡◌, ℕ, List, ◌∷◌, sym, subst, ap, ◌∙◌, inl, inr, ⊎_elim, Some}
use Rattle.cell_rules.specs.declared.view.View.{View}
use Rattle.cell_rules.specs.Lists.{In}
use Rattle.cell_rules.specs.declared.item.Item.TheVariants.{Parcel}
use Rattle.cell_rules.specs.Rule.{Means, Held}
use Rattle.cell_rules.specs.Asks.{Knows, IsNew, KnowsParcel}

module _ {L P A : Type 0} (x : Means L P A) (v w : View L A) (names : w.names ≡ v.names) (about : w.about ≡ v.about) where
  pub knows_same : (load : L) → w.sends ≡ v.sends → Knows x v load → Knows x w load
  knows_same load sends k = record {
    mentions = λ e i. subst (λ l. In e l) (sym names) (k.mentions e i);
    forked = λ m i. let t = k.forked m i in (t.0, subst (λ l. In (m, t.0) l) (sym names) t.1);
    sent = λ m i. subst (λ l. In m l) (sym sends) (k.sent m i);
    received = λ m i. let t = k.received m i in (t.0, subst (λ l. In (m, t.0) l) (sym names) t.1);
    program = about ∙ k.program;
  }

  pub new_same : (load : L) → IsNew x v load → IsNew x w load
  new_same load k = record {
    mentions = λ e i. ⊎_elim (λ q. inl q) (λ q. inr (subst (λ l. In e l) (sym names) q)) (k.mentions e i);
    forked = k.forked;
    sent = k.sent;
    received = k.received;
    program = about ∙ k.program;
  }

  pub parcel_same : (parcel : P) → KnowsParcel x v parcel → KnowsParcel x w parcel
  parcel_same parcel k = record { mentions = λ e i. subst (λ l. In e l) (sym names) (k.mentions e i); program = about ∙ k.program }

-- what two slots with one parcel hold
pub first_parcel : {L P : Type 0} (a b : ℕ) (p p' : P) (xs ys : List (ℕ × Held L P)) → (a, Some (Parcel p)) ∷ xs ≡ (b, Some (Parcel p')) ∷ ys → p ≡ p'
first_parcel {L = L} {P = P} a b p p' xs ys e =
    let held : P → Held L P = λ q. Some (Parcel q) in
    let heads : (a, held p) ≡ (b, held p') = cc in
    let seconds : held p ≡ held p' = ap (λ (q : ℕ × Held L P). q.1) heads in cc
