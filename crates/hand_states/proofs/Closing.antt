-- Parking, retiring, giving cells again, joining and closing, by what they make of a hand.
use Rattle.std.proofs.Common.{◌≡◌, ℕ, ◌+◌, ◌<◌, ◌≤◌, [], ◌∷◌, ◌++◌, sym, refl, ap, subst, ◌∙◌, inl, inr, ⊎_elim, arith}
use mathlib.Core.Logic.{dite}
use native.Mathlib.Decide.{ℕ_discrete}
use Rattle.cell_rules.specs.declared.view.View.{View}
use Rattle.cell_rules.specs.Lists.{count, without, one, In, besides}
use Rattle.cell_rules.specs.Marks.{mark, InHand, Right, Free, Kept}
use Rattle.cell_rules.specs.Rule.{Means}
use Rattle.cell_rules.specs.Closing.{Among}
use Rattle.cell_rules.specs.Plays.{receipts_of, noted}
use Rattle.cell_rules.proofs.Totals.{In-append, In-left, In-right, besides-In, one_same, one_other, count-without, total-append}
use Rattle.cell_rules.proofs.Fetches.{of_receipts}
use Rattle.hand_states.proofs.Marks.{apart, parked, come_back, reopened, begun}
use Rattle.hand_states.proofs.Having.{has_still, there}
use Rattle.hand_states.specs.Hands.{Store, Has}
use Rattle.hand_states.specs.Laws.{ReceivesIn, ParksIn, ComesBackIn, SeesIn, RetiresIn, ReopensIn, StartsIn, JoinsIn, ClosesIn, NotesIn}

module _ {L P A : Type 0} (x : Means L P A) (about : A) (s : Store L) where
  pub receives : ReceivesIn x about s
  receives v load next m owes of told knows = record {
    has = owes.has;
    one = λ q k lt. owes.one q k lt ∙ ap (λ n. count (mark q k) (InHand n ∷ [])) (sym of.number);
    receipts = λ by k h. ⊎_elim (λ i. inl (subst (λ n. In by (n ∷ [])) (sym of.number) i)) (λ y. inr y) (owes.receipts by k h);
    knows = knows;
    tells = λ k h. ⊎_elim (λ e. subst (λ z. In z (x.received next)) (sym e) told) (λ t. of.received k t) (owes.tells k (subst (λ n. In (n, k) v.receipts) of.number h));
  }

  pub parks : ParksIn x about s
  parks v load t c a b d e d' b' a' e' holds =
      let n : ℕ = x.number load in
      let here : 0 < count (InHand n) v.marks = there x about s load v holds.one in record {
        has = has_still x about s v _ refl refl (λ e h. h) (λ m. omega (arith, parked (Free m) n v.marks here, apart 10 m 2 n (omega arith) (omega arith) (λ e. omega arith))) (λ m. omega (arith, parked (Right m) n v.marks here, apart 9 m 2 n (omega arith) (omega arith) (λ e. omega arith))) (λ q m lo hi. omega (arith, parked (mark q m) n v.marks here)) holds.has;
        nothing = λ q m lt. omega (arith, parked (mark q m) n v.marks here, holds.one q m lt);
        receipts = λ by m h. let t = besides-In n (by, m) v.receipts h in ⊎_elim (λ i. ⊎_elim (λ e. absurd (t.0 e)) (λ e. absurd e) i) (λ k. inr (omega (arith, k, parked (Kept by) n v.marks here, apart 13 by 2 n (omega arith) (omega arith) (λ e. omega arith)))) (holds.receipts by m t.1);
      }

  pub comes_back : ComesBackIn x about s
  comes_back v load t c a b d e f g g' f' d' b' a' e' holds =
      let n : ℕ = x.number load in
      let here : 0 < count (InHand n) v.marks = there x about s load v holds.one in record {
        has = has_still x about s v _ refl refl (λ e h. h) (λ m. omega (arith, come_back (Free m) n v.marks here)) (λ m. omega (arith, come_back (Right m) n v.marks here)) (λ q m lo hi. omega (arith, come_back (mark q m) n v.marks here)) holds.has;
        one = λ q m lt. come_back (mark q m) n v.marks here ∙ holds.one q m lt;
        receipts = λ by m h. ⊎_elim (λ t. inl (inl (of_receipts n by m (x.received load) t).0))
            (λ t. let u = besides-In n (by, m) v.receipts t in ⊎_elim (λ i. inl i) (λ k. inr (omega (arith, k, come_back (Kept by) n v.marks here))) (holds.receipts by m u.1)) (In-append (by, m) (receipts_of n (x.received load)) (besides n v.receipts) h);
        knows = record { mentions = holds.knows.mentions; forked = holds.knows.forked; sent = holds.knows.sent; received = holds.knows.received; program = holds.knows.program };
        tells = λ m h. ⊎_elim (λ t. (of_receipts n n m (x.received load) t).1) (λ t. absurd ((besides-In n (n, m) v.receipts t).0 refl)) (In-append (n, m) (receipts_of n (x.received load)) (besides n v.receipts) h);
      }

  pub sees : SeesIn x about s
  sees v load m holds = record {
    has = record { program = holds.has.program; made = holds.has.made; keeps = holds.has.keeps; kept = holds.has.kept; free = holds.has.free; rights = holds.has.rights; clear = holds.has.clear };
    one = holds.one;
    receipts = holds.receipts;
    knows = record { mentions = holds.knows.mentions; forked = holds.knows.forked; sent = λ k h. inr (holds.knows.sent k h); received = holds.knows.received; program = holds.knows.program };
    tells = holds.tells;
  }

  pub retires : RetiresIn x about s
  retires v load m w a a' holds =
      let has : 0 < count (Right m) v.marks = omega (arith, holds.has.rights m, one_same m) in
      let lost : (q : ℕ) → count q (without (Right m) v.marks) + one q (Right m) ≡ count q v.marks = λ q. count-without q (Right m) v.marks has in
      let rights : (k : ℕ) → count k s.rights ≤ count (Right k) (without (Right m) v.marks) = λ k. dite (ℕ_discrete m k)
      (λ e. omega (arith, holds.has.rights k, lost (Right k), ap (one k) e, one_same k, ap (λ z. one (Right k) (Right z)) e, one_same (Right k)))
      (λ ne. omega (arith, holds.has.rights k, lost (Right k), one_other (Right k) (Right m) (λ e. ne (omega (arith, e))))) in (
        record {
          has = record {
            program = holds.has.program;
            made = holds.has.made;
            keeps = holds.has.keeps;
            kept = holds.has.kept;
            free = λ k. omega (arith, holds.has.free k, lost (Free k), apart 10 k 9 m (omega arith) (omega arith) (λ e. omega arith));
            rights = rights;
            clear = λ q k lo hi. omega (arith, holds.has.clear q k lo hi, lost (mark q k));
          };
          one = λ q k lt. omega (arith, holds.one q k lt, lost (mark q k), apart q k 9 m (omega arith) (omega arith) (λ e. omega arith));
          receipts = λ by k h. ⊎_elim (λ i. inl i) (λ y. inr (omega (arith, y, lost (Kept by), apart 13 by 9 m (omega arith) (omega arith) (λ e. omega arith)))) (holds.receipts by k h);
          knows = record { mentions = holds.knows.mentions; forked = holds.knows.forked; sent = holds.knows.sent; received = holds.knows.received; program = holds.knows.program };
          tells = holds.tells;
        },
        record {
          has = record {
            program = holds.has.program;
            made = holds.has.made;
            keeps = holds.has.keeps;
            kept = holds.has.kept;
            free = λ k. dite (ℕ_discrete m k)
                (λ e. omega (arith, holds.has.free k, lost (Free k), apart 10 k 9 m (omega arith) (omega arith) (λ q. omega arith), ap (one k) e, one_same k, ap (λ z. one (Free k) (Free z)) e, one_same (Free k)))
                (λ ne. omega (arith, holds.has.free k, lost (Free k), apart 10 k 9 m (omega arith) (omega arith) (λ q. omega arith), one_other k m ne));
            rights = λ k. omega (arith, rights k);
            clear = λ q k lo hi. omega (arith, holds.has.clear q k lo hi, lost (mark q k), apart q k 10 m (omega arith) (omega arith) (λ e. omega arith));
          };
          one = λ q k lt. omega (arith, holds.one q k lt, lost (mark q k), apart q k 9 m (omega arith) (omega arith) (λ e. omega arith), apart q k 10 m (omega arith) (omega arith) (λ e. omega arith));
          receipts = λ by k h. ⊎_elim (λ i. inl i) (λ y. inr (omega (arith, y, lost (Kept by), apart 13 by 9 m (omega arith) (omega arith) (λ e. omega arith)))) (holds.receipts by k h);
          knows = record { mentions = holds.knows.mentions; forked = holds.knows.forked; sent = holds.knows.sent; received = holds.knows.received; program = holds.knows.program };
          tells = holds.tells;
        },
      )

  pub reopens : ReopensIn x about s
  reopens v load next n m title p q t a b c d d' c' b' a' holds of mentions forked sent received =
      let has : 0 < count (Free m) v.marks = omega (arith, holds.has.free m, one_same m) in record {
        has = record {
          program = holds.has.program;
          made = λ e h. let y = holds.has.made e h in (inr y.0, inr y.1);
          keeps = holds.has.keeps;
          kept = holds.has.kept;
          free = λ k. dite (ℕ_discrete m k)
              (λ e. omega (arith, holds.has.free k, reopened (Free k) m v.marks has, ap (one k) e, one_same k, ap (λ z. one (Free k) (Free z)) e, one_same (Free k)))
              (λ ne. omega (arith, holds.has.free k, reopened (Free k) m v.marks has, one_other (Free k) (Free m) (λ e. ne (omega (arith, e)))));
          rights = λ k. omega (arith, holds.has.rights k, reopened (Right k) m v.marks has, apart 9 k 10 m (omega arith) (omega arith) (λ e. omega arith));
          clear = λ r k lo hi. omega (arith, holds.has.clear r k lo hi, reopened (mark r k) m v.marks has);
        };
        one = λ q k lt. omega (arith, holds.one q k lt, reopened (mark q k) m v.marks has, apart q k 10 m (omega arith) (omega arith) (λ e. omega arith)) ∙ ap (λ n. count (mark q k) (InHand n ∷ [])) (sym of.number);
        receipts = λ by k h. ⊎_elim (λ i. inl (subst (λ n. In by (n ∷ [])) (sym of.number) i)) (λ y. inr (omega (arith, y, reopened (Kept by) m v.marks has, apart 13 by 10 m (omega arith) (omega arith) (λ e. omega arith)))) (holds.receipts by k h);
        knows = record {
          mentions = λ e h. ⊎_elim (λ i. inl i) (λ t. inr (holds.knows.mentions e t)) (mentions e h);
          forked = λ k h. ⊎_elim (λ i. (title, inl (ap (λ z. (z, title)) i))) (λ t. let y = holds.knows.forked k t in (y.0, inr y.1)) (forked k h);
          sent = λ k h. holds.knows.sent k (sent k h);
          received = λ k h. let y = holds.knows.received k (received k h) in (y.0, inr y.1);
          program = holds.knows.program ∙ ap (λ z. z ∷ []) (sym of.program);
        };
        tells = λ k h. of.received k (holds.tells k (subst (λ n. In (n, k) v.receipts) of.number h));
      }

  pub starts : StartsIn x about s
  starts v m title w r a b b' a' r' idle = record {
    has = record {
      program = idle.has.program;
      made = λ e h. ⊎_elim (λ i. (inl (ap (λ p. p.0) i), inl i)) (λ t. let y = idle.has.made e t in (inr y.0, inr y.1)) h;
      keeps = idle.has.keeps;
      kept = idle.has.kept;
      free = λ k. omega (arith, idle.has.free k, begun (Free k) m v.marks);
      rights = λ k. omega (arith, idle.has.rights k, begun (Right k) m v.marks);
      clear = λ q k lo hi. begun (mark q k) m v.marks ∙ idle.has.clear q k lo hi;
    };
    nothing = λ q k lt. begun (mark q k) m v.marks ∙ idle.nothing q k lt;
    receipts = λ by k h. ⊎_elim (λ e. absurd e) (λ y. inr (omega (arith, y, begun (Kept by) m v.marks))) (idle.receipts by k h);
  }

  pub joins : JoinsIn x about s
  joins t v w mine other =
      let both : (q : ℕ) → count q (v.marks ++ w.marks) ≡ count q v.marks + count q w.marks = λ q. total-append (one q) v.marks w.marks in record {
        has = record {
          program = mine.has.program;
          made = λ e h. ⊎_elim (λ i. let y = mine.has.made e i in (In-left e.0 v.made w.made y.0, In-left e v.names w.names y.1)) (λ i. let y = other.has.made e i in (In-right e.0 v.made w.made y.0, In-right e v.names w.names y.1)) (In-append e s.made t.made h);
          keeps = λ m load h. ⊎_elim (λ i. In-left load s.kept t.kept (mine.has.keeps m load i)) (λ i. In-right load s.kept t.kept (other.has.keeps m load i)) (In-append (m, load) v.kept w.kept h);
          kept = λ load h. ⊎_elim (λ i. In-left (x.number load, load) v.kept w.kept (mine.has.kept load i)) (λ i. In-right (x.number load, load) v.kept w.kept (other.has.kept load i)) (In-append load s.kept t.kept h);
          free = λ m. omega (arith, both (Free m), total-append (one m) s.free t.free, mine.has.free m, other.has.free m);
          rights = λ m. omega (arith, both (Right m), total-append (one m) s.rights t.rights, mine.has.rights m, other.has.rights m);
          clear = λ q m lo hi. omega (arith, both (mark q m), mine.has.clear q m lo hi, other.has.clear q m lo hi);
        };
        nothing = λ q m lt. omega (arith, both (mark q m), mine.nothing q m lt, other.nothing q m lt);
        receipts = λ by m h. ⊎_elim (λ i. ⊎_elim (λ e. absurd e) (λ y. inr (omega (arith, y, both (Kept by)))) (mine.receipts by m i)) (λ i. ⊎_elim (λ e. absurd e) (λ y. inr (omega (arith, y, both (Kept by)))) (other.receipts by m i)) (In-append (by, m) v.receipts w.receipts h);
      }

  pub closes : ClosesIn x about s
  closes v loads parcels idle =
      let out : (load : L) → In load (loads ++ s.kept) → Among loads v load = λ load h. ⊎_elim (λ i. inl i) (λ i. inr (x.number load, idle.has.kept load i)) (In-append load loads s.kept h) in
      let into : (load : L) → Among loads v load → In load (loads ++ s.kept) = λ load h. ⊎_elim (λ i. In-left load loads s.kept i) (λ y. In-right load loads s.kept (idle.has.keeps y.0 load y.1)) h in (
        (λ q m lt. idle.nothing q m lt),
        λ rest. record {
          name = rest.name;
          named = λ load h. rest.mentions load (out load h);
          told = rest.tells;
          program = λ load h. rest.program load (out load h);
          origin = rest.origin;
          begun = λ e h. let y = idle.has.made e h in let t = rest.made e.0 y.0 in (rest.names e y.1, (t.0, into t.0 t.1, t.2));
          forked = λ load h m i. let t = rest.forked load (out load h) m i in (t.0, into t.0 t.1, t.2);
          received = λ load h m i. let t = rest.received load (out load h) m i in (t.0, into t.0 t.1, t.2);
          sent = λ load h m i. ⊎_elim (λ t. inl t) (λ t. inr (t.0, into t.0 t.1, t.2)) (rest.sent load (out load h) m i);
        },
      )

  has_noted : (v : View L A) (w a b : ℕ) → Has x about s v → Has x about s (noted w a b v)
  has_noted v w a b has = record { program = has.program; made = has.made; keeps = has.keeps; kept = has.kept; free = has.free; rights = has.rights; clear = has.clear }

  pub notes : NotesIn x about s
  notes v w a b = (
    (λ idle. record { has = has_noted v w a b idle.has; nothing = idle.nothing; receipts = idle.receipts }),
    λ load holds. record {
      has = has_noted v w a b holds.has;
      one = holds.one;
      receipts = holds.receipts;
      knows = record { mentions = holds.knows.mentions; forked = holds.knows.forked; sent = holds.knows.sent; received = holds.knows.received; program = holds.knows.program };
      tells = holds.tells;
    },
  )
