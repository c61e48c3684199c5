-- What each call makes of a hand.
use Rattle.std.proofs.Common.{◌≡◌, ◌⊎◌, ℕ, ◌<◌, ◌≤◌, List, [], ◌∷◌, sym, refl, ap, subst, ◌∙◌, inl, inr, ⊎_elim, arith}
use mathlib.Core.Logic.{dite}
use native.Mathlib.Decide.{ℕ_discrete}
use Rattle.cell_rules.specs.declared.view.View.{View}
use Rattle.cell_rules.specs.Lists.{count, without, one, In}
use Rattle.cell_rules.specs.Marks.{mark, InHand, Claimed, Right, Free, Kept}
use Rattle.cell_rules.specs.Rule.{Means}
use Rattle.cell_rules.specs.Asks.{Knows}
use Rattle.cell_rules.specs.Plays.{receipts_of}
use Rattle.cell_rules.proofs.Totals.{In-append, In-left, In-right, besides-In, one_same, one_other}
use Rattle.cell_rules.proofs.Fetches.{of_receipts}
use Rattle.hand_states.proofs.Marks.{apart, came_and_went, taken, gone_home, sent_to, stowed, begun, ended}
use Rattle.hand_states.specs.Hands.{Store, Has, HasInHand, Holds, IsOf}
use Rattle.hand_states.specs.Laws.{TakesIn, GoesHomeIn, ContinuesIn, SendsIn, SendsToIn, CollectsIn, KeepsIn, BeginsIn}

module _ {L P A : Type 0} (x : Means L P A) (about : A) (s : Store L) where
  -- what the worker has stays where the view keeps its loads, its free cells and its rights
  pub has_still : (v w : View L A) → w.about ≡ v.about → w.kept ≡ v.kept → ((e : ℕ × List ℕ) → In e.0 v.made × In e v.names → In e.0 w.made × In e w.names) → ((m : ℕ) → count (Free m) v.marks ≤ count (Free m) w.marks) → ((m : ℕ) → count (Right m) v.marks ≤ count (Right m) w.marks) → ((q m : ℕ) → 10 < q → q < 13 → count (mark q m) w.marks ≤ count (mark q m) v.marks) → Has x about s v → Has x about s w
  has_still v w about' kept made free rights clear has = record {
    program = about' ∙ has.program;
    made = λ e h. made e (has.made e h);
    keeps = λ m load h. has.keeps m load (subst (λ l. In (m, load) l) kept h);
    kept = λ load h. subst (λ l. In (x.number load, load) l) (sym kept) (has.kept load h);
    free = λ m. omega (arith, has.free m, free m);
    rights = λ m. omega (arith, has.rights m, rights m);
    clear = λ q m lo hi. omega (arith, has.clear q m lo hi, clear q m lo hi);
  }

  pub takes : TakesIn x about s
  takes v load w a r a' r' idle none of_program mentioned received =
      let n : ℕ = x.number load in record {
        has = has_still v _ refl refl (λ e h. (h.0, In-right e (x.mentions load) v.names h.1)) (λ m. omega (arith, taken (Free m) n v.marks)) (λ m. omega (arith, taken (Right m) n v.marks)) (λ q m lo hi. omega (arith, taken (mark q m) n v.marks, apart q m 2 n (omega arith) (omega arith) (λ e. omega arith))) idle.has;
        one = λ q m lt. omega (arith, taken (mark q m) n v.marks, idle.nothing q m lt);
        receipts = λ by m h. ⊎_elim (λ t. inl (inl (of_receipts n by m (x.received load) t).0)) (λ t. ⊎_elim (λ e. absurd e) (λ k. inr (omega (arith, k, taken (Kept by) n v.marks))) (idle.receipts by m t)) (In-append (by, m) (receipts_of n (x.received load)) v.receipts h);
        knows = record {
          mentions = λ e h. In-left e (x.mentions load) v.names h;
          forked = λ m h. let t = mentioned m h in (t.0, In-left (m, t.0) (x.mentions load) v.names t.1);
          sent = λ m h. In-left m (x.sent load) v.sends h;
          received = λ m h. let t = received m h in (t.0, In-left (m, t.0) (x.mentions load) v.names t.1);
          program = idle.has.program ∙ ap (λ z. z ∷ []) (sym of_program);
        };
        tells = λ m h. ⊎_elim (λ t. (of_receipts n n m (x.received load) t).1) (λ t. ⊎_elim (λ e. absurd e) (λ k. absurd (omega (arith, k, none))) (idle.receipts n m t)) (In-append (n, m) (receipts_of n (x.received load)) v.receipts h);
      }

  -- the load in hand is there
  pub there : (load : L) (v : View L A) → HasInHand x about (InHand (x.number load) ∷ []) v → 0 < count (InHand (x.number load)) v.marks
  there load v one = omega (arith, one 2 (x.number load) (omega arith), one_same (InHand (x.number load)))

  pub goes_home : GoesHomeIn x about s
  goes_home v load w a b b' a' holds =
      let n : ℕ = x.number load in
      let here : 0 < count (InHand n) v.marks = there load v holds.one in record {
        has = has_still v _ refl refl (λ e h. h) (λ m. omega (arith, gone_home (Free m) n v.marks here, apart 10 m 2 n (omega arith) (omega arith) (λ e. omega arith))) (λ m. omega (arith, gone_home (Right m) n v.marks here, apart 9 m 2 n (omega arith) (omega arith) (λ e. omega arith))) (λ q m lo hi. omega (arith, gone_home (mark q m) n v.marks here)) holds.has;
        nothing = λ q m lt. omega (arith, gone_home (mark q m) n v.marks here, holds.one q m lt);
        receipts = λ by m h. let t = besides-In n (by, m) v.receipts h in ⊎_elim (λ i. ⊎_elim (λ e. absurd (t.0 e)) (λ e. absurd e) i) (λ k. inr (omega (arith, k, gone_home (Kept by) n v.marks here, apart 13 by 2 n (omega arith) (omega arith) (λ e. omega arith)))) (holds.receipts by m t.1);
      }

  -- a load that is one like it stays in hand, in a view with no less, and the same marks
  holds_still : (v w : View L A) (load next : L) → Holds x about s load v → IsOf x about load next → w.about ≡ v.about → w.kept ≡ v.kept → w.receipts ≡ v.receipts → ((e : ℕ × List ℕ) → In e.0 v.made × In e v.names → In e.0 w.made × In e w.names) → ((q : ℕ) → count q w.marks ≡ count q v.marks) → Knows x w next → Holds x about s next w
  holds_still v w load next holds of about' kept receipts made marks knows = record {
    has = has_still v w about' kept made (λ m. omega (arith, marks (Free m))) (λ m. omega (arith, marks (Right m))) (λ q m lo hi. omega (arith, marks (mark q m))) holds.has;
    one = λ q m lt. marks (mark q m) ∙ holds.one q m lt ∙ ap (λ n. count (mark q m) (InHand n ∷ [])) (sym of.number);
    receipts = λ by m h. ⊎_elim (λ i. inl (subst (λ n. In by (n ∷ [])) (sym of.number) i)) (λ k. inr (omega (arith, k, marks (Kept by)))) (holds.receipts by m (subst (λ l. In (by, m) l) receipts h));
    knows = knows;
    tells = λ m h. of.received m (holds.tells m (subst (λ l. In (x.number load, m) l) receipts (subst (λ n. In (n, m) w.receipts) of.number h)));
  }

  pub continues : ContinuesIn x about s
  continues v load next holds of knows = holds_still v v load next holds of refl refl refl (λ e h. h) (λ q. refl) knows

  -- what is known of a load that tells no more than the load before, but for one number that was sent on
  knows_sent : (v w : View L A) (load next : L) (m : ℕ) → Knows x v load → IsOf x about load next → w.about ≡ v.about → w.names ≡ v.names → w.sends ≡ m ∷ v.sends
      → ((e : ℕ × List ℕ) → In e (x.mentions next) → In e (x.mentions load)) → ((k : ℕ) → In k (x.forked next) → In k (x.forked load)) → ((k : ℕ) → In k (x.sent next) → (k ≡ m) ⊎ In k (x.sent load)) → ((k : ℕ) → In k (x.received next) → In k (x.received load)) → Knows x w next
  knows_sent v w load next m knows of about' names sends mentions forked sent received = record {
    mentions = λ e h. subst (λ l. In e l) (sym names) (knows.mentions e (mentions e h));
    forked = λ k h. let t = knows.forked k (forked k h) in (t.0, subst (λ l. In (k, t.0) l) (sym names) t.1);
    sent = λ k h. subst (λ l. In k l) (sym sends) (⊎_elim (λ e. inl e) (λ t. inr (knows.sent k t)) (sent k h));
    received = λ k h. let t = knows.received k (received k h) in (t.0, subst (λ l. In (k, t.0) l) (sym names) t.1);
    program = about' ∙ knows.program ∙ ap (λ z. z ∷ []) (sym of.program);
  }

  pub sends : SendsIn x about s
  sends v load next m u a w b b' a' holds of mentions forked sent received =
      holds_still v _ load next holds of refl refl refl (λ e h. h) (λ q. came_and_went q (Claimed m) v.marks) (knows_sent v _ load next m holds.knows of refl refl refl mentions forked sent received)

  pub sends_to : SendsToIn x about s
  sends_to v load next m j t u w a b c c' b' a' holds of mentions forked sent received =
      holds_still v _ load next holds of refl refl refl (λ e h. h) (λ q. sent_to q m j v.marks) (knows_sent v _ load next m holds.knows of refl refl refl mentions forked sent received)

  pub begins : BeginsIn x about s
  begins v load next m title w r a b b' a' r' holds of mentions forked sent received =
      holds_still v _ load next holds of refl refl refl (λ e h. (inr h.0, inr h.1)) (λ q. begun q m v.marks) record {
        mentions = λ e h. ⊎_elim (λ i. inl i) (λ t. inr (holds.knows.mentions e t)) (mentions e h);
        forked = λ k h. ⊎_elim (λ i. (title, inl (ap (λ z. (z, title)) i))) (λ t. let y = holds.knows.forked k t in (y.0, inr y.1)) (forked k h);
        sent = λ k h. holds.knows.sent k (sent k h);
        received = λ k h. let y = holds.knows.received k (received k h) in (y.0, inr y.1);
        program = holds.knows.program ∙ ap (λ z. z ∷ []) (sym of.program);
      }

  pub collects : CollectsIn x about s
  collects v load m w a b b' a' names holds =
      let n : ℕ = x.number load in record {
        has = record {
          program = holds.has.program;
          made = λ e h. let t = holds.has.made e h in (t.0, In-right e names v.names t.1);
          keeps = holds.has.keeps;
          kept = holds.has.kept;
          free = λ k. omega (arith, holds.has.free k, stowed (Free k) m v.marks);
          rights = λ k. dite (ℕ_discrete m k)
              (λ e. omega (arith, holds.has.rights k, stowed (Right k) m v.marks, ap (one k) e, one_same k, ap (λ z. one (Right k) (Right z)) e, one_same (Right k)))
              (λ ne. omega (arith, holds.has.rights k, stowed (Right k) m v.marks, one_other k m ne));
          clear = λ q k lo hi. omega (arith, holds.has.clear q k lo hi, stowed (mark q k) m v.marks, apart q k 9 m (omega arith) (omega arith) (λ e. omega arith));
        };
        one = λ q k lt. omega (arith, stowed (mark q k) m v.marks, holds.one q k lt, apart q k 9 m (omega arith) (omega arith) (λ e. omega arith));
        receipts = λ by k h. ⊎_elim (λ e. inl (inl (ap (λ p. p.0) e))) (λ t. ⊎_elim (λ i. inl i) (λ y. inr (omega (arith, y, stowed (Kept by) m v.marks))) (holds.receipts by k t)) h;
        knows = record {
          mentions = λ e h. In-right e names v.names (holds.knows.mentions e h);
          forked = λ k h. let t = holds.knows.forked k h in (t.0, In-right (k, t.0) names v.names t.1);
          sent = holds.knows.sent;
          received = λ k h. let t = holds.knows.received k h in (t.0, In-right (k, t.0) names v.names t.1);
          program = holds.knows.program;
        };
        tells = λ k h. ⊎_elim (λ e. inl (ap (λ p. p.1) e)) (λ t. inr (holds.tells k t)) h;
      }

  pub keeps : KeepsIn x about s
  keeps v load w a a' holds =
      let n : ℕ = x.number load in
      let here : 0 < count (InHand n) v.marks = there load v holds.one in
      let cleared : (q m : ℕ) → q < 9 → count (mark q m) (without (InHand n) v.marks) ≡ 0 = λ q m lt. omega (arith, ended (mark q m) n v.marks here, holds.one q m lt) in
      let kept' : (m : ℕ) (item : L) → In (m, item) ((n, load) ∷ v.kept) → In item (load ∷ s.kept) = λ m item h. ⊎_elim (λ e. inl (ap (λ p. p.1) e)) (λ t. inr (holds.has.keeps m item t)) h in
      let keeps' : (item : L) → In item (load ∷ s.kept) → In (x.number item, item) ((n, load) ∷ v.kept) = λ item h. ⊎_elim (λ e. inl (ap (λ z. (x.number z, z)) e)) (λ t. inr (holds.has.kept item t)) h in
      let kept_on : (by : ℕ) → 0 < count (Kept by) v.marks → 0 < count (Kept by) (without (InHand n) v.marks) = λ by y. omega (arith, y, ended (Kept by) n v.marks here, apart 13 by 2 n (omega arith) (omega arith) (λ e. omega arith)) in (
        record {
          has = record {
            program = holds.has.program;
            made = holds.has.made;
            keeps = kept';
            kept = keeps';
            free = λ m. omega (arith, holds.has.free m, ended (Free m) n v.marks here, apart 10 m 2 n (omega arith) (omega arith) (λ e. omega arith));
            rights = λ m. omega (arith, holds.has.rights m, ended (Right m) n v.marks here, apart 9 m 2 n (omega arith) (omega arith) (λ e. omega arith));
            clear = λ q m lo hi. omega (arith, holds.has.clear q m lo hi, ended (mark q m) n v.marks here, apart q m 13 n (omega arith) (omega arith) (λ e. omega arith));
          };
          nothing = λ q m lt. omega (arith, cleared q m lt, apart q m 13 n (omega arith) (omega arith) (λ e. omega arith));
          receipts = λ by m h. ⊎_elim (λ i. ⊎_elim (λ e. inr (omega (arith, ap (λ z. one (Kept by) (Kept z)) e, one_same (Kept by)))) (λ e. absurd e) i) (λ y. inr (omega (arith, kept_on by y))) (holds.receipts by m h);
        },
        record {
          has = record {
            program = holds.has.program;
            made = holds.has.made;
            keeps = kept';
            kept = keeps';
            free = λ m. dite (ℕ_discrete n m)
                (λ e. omega (arith, holds.has.free m, ended (Free m) n v.marks here, apart 10 m 2 n (omega arith) (omega arith) (λ q. omega arith), ap (one m) e, one_same m, ap (λ z. one (Free m) (Free z)) e, one_same (Free m)))
                (λ ne. omega (arith, holds.has.free m, ended (Free m) n v.marks here, apart 10 m 2 n (omega arith) (omega arith) (λ q. omega arith), one_other m n ne));
            rights = λ m. omega (arith, holds.has.rights m, ended (Right m) n v.marks here, apart 9 m 2 n (omega arith) (omega arith) (λ e. omega arith));
            clear = λ q m lo hi. omega (arith, holds.has.clear q m lo hi, ended (mark q m) n v.marks here, apart q m 13 n (omega arith) (omega arith) (λ e. omega arith), apart q m 10 n (omega arith) (omega arith) (λ e. omega arith));
          };
          nothing = λ q m lt. omega (arith, cleared q m lt, apart q m 13 n (omega arith) (omega arith) (λ e. omega arith), apart q m 10 n (omega arith) (omega arith) (λ e. omega arith));
          receipts = λ by m h. ⊎_elim (λ i. ⊎_elim (λ e. inr (omega (arith, ap (λ z. one (Kept by) (Kept z)) e, one_same (Kept by)))) (λ e. absurd e) i) (λ y. inr (omega (arith, kept_on by y))) (holds.receipts by m h);
        },
      )
