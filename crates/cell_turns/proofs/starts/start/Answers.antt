use Rattle.std.proofs.Common.{rules, ℕ, ◌≡◌, ◌+◌, ◌*◌, ◌<◌, ◌≤◌, ◌^◌, sym, subst, refl, ap, ◌∙◌, List, [], ◌∷◌, arith, inl, inr, ⊎_elim}
use Rattle.cell_rules.specs.Lists.{In, count}
use Rattle.cell_rules.specs.declared.view.View.{View}
use Rattle.cell_rules.specs.Words.{cell, task_at, READY}
use Rattle.cell_rules.specs.Marks.{Drawn}
use Rattle.cell_rules.specs.Plays.{Sat, noted, drawing, opened, beginning}
use Rattle.cell_rules.proofs.Totals.{more_here}
use Rattle.hand_states.specs.Hands.{Store, Idle}
use Rattle.hand_states.proofs.Closing as closing
use Rattle.one_shot_word.specs.Seats.{told}
use Rattle.cell_turns.specs.declared.job.Job.{Job}
use Rattle.cell_turns.specs.declared.job.Note.{Note}
use Rattle.cell_turns.specs.Meanings.{meanings, numbers, named}
use Rattle.cell_turns.proofs.Telling.{idle_spent}
use Rattle.cell_turns.proofs.starts.start.Goals as goal

pub begin-requires-clause-hand : goal.begin-requires-clause-hand
begin-requires-clause-hand c =
    let d = c.in-Ok.ensures.drawn in
    (c.draw.ensures.table ∙ c.requires.idle.0.0.0, ap (λ (s : Sat Job Note (ℕ × ℕ)). s.1) d.1, subst (λ (s : Sat Job Note (ℕ × ℕ)). 0 < s.0.parts) (sym d.1) c.requires.idle.0.0.2)

pub begin-requires-clause-drawn : goal.begin-requires-clause-drawn
begin-requires-clause-drawn c =
    let d = c.in-Ok.ensures.drawn in
    let m : ℕ = c.in-Ok.drawn.number.0 in
    (omega (arith, d.0, c.requires.idle.0.2), subst (λ (s : Sat Job Note (ℕ × ℕ)). 0 < count (Drawn m) s.0.marks) (sym d.1) (omega (arith, more_here (Drawn m) c.args.hand.now.seat.me.0.marks)))

pub begin-requires-clause-load : goal.begin-requires-clause-load
begin-requires-clause-load c =
    let d = c.in-Ok.ensures.drawn in (
      ap (λ z. z.0) (c.first.ensures.0 ∙ c.number-number.ensures),
      record {
        mentions = λ e i. ⊎_elim (λ q. inl q) (λ t. absurd (subst (λ z. In e (named z)) c.first.ensures.1 t)) i;
        forked = refl;
        sent = refl;
        received = ap numbers c.first.ensures.1;
        program = ap (λ (s : Sat Job Note (ℕ × ℕ)). s.0.about) d.1 ∙ (c.requires.idle.1.1.has.program ∙ ap (λ z. z ∷ []) c.requires.idle.0.1);
      },
    )

pub returns : goal.returns
returns c =
    let d = c.in-Ok.ensures.drawn in
    let m : ℕ = c.in-Ok.drawn.number.0 in
    let v : View Job (ℕ × ℕ) = c.args.hand.now.seat.me.0 in
    let w : ℕ = task_at (cell c.args.cells.now.table.shared.key.cells m) in
    let t = c.begin.ensures.view in
    let whole : c.begin.new.hand.seat.me ≡ (noted w t.1 (READY m) (beginning m [] (noted w t.0 t.0 (opened m (noted 0 m (m + 1) (drawing m v))))), []) =
    t.2 ∙ ap (λ (s : Sat Job Note (ℕ × ℕ)). (noted w t.1 (READY m) (beginning m [] (noted w t.0 t.0 (opened m s.0))), [])) d.1 in
    let crew = c.requires.idle.0 in
    let s = c.requires.idle.1.0 in
    let number : c.number-number.result.0 ≡ m = ap (λ z. z.0) c.number-number.ensures in
    record {
      idle = (
        (((c.begin.ensures.table ∙ (c.draw.ensures.table ∙ crew.0.0)), ap (λ (z : Sat Job Note (ℕ × ℕ)). z.1) whole, subst (λ (z : Sat Job Note (ℕ × ℕ)). 0 < z.0.parts) (sym whole) crew.0.2), crew.1, crew.2, ap (λ (z : Sat Job Note (ℕ × ℕ)). z.0.parts) whole ∙ crew.3),
        (record s { made = (m, []) ∷ s.made }, subst (λ (z : Sat Job Note (ℕ × ℕ)). Idle meanings (told c.args.cells.now) (record s { made = (m, []) ∷ s.made }) z.0) (sym whole) (closing.starts meanings (told c.args.cells.now) s v m [] w m t.0 t.1 (READY m) t.0 (m + 1) c.requires.idle.1.1)),
      );
      some = (subst (λ z. z ≤ 2 ^ 60) (sym number) (omega (arith, d.0, crew.2)), subst (λ (z : Sat Job Note (ℕ × ℕ)). In (c.number-number.result.0, []) z.0.names) (sym whole) (inl (λ q. (number q, []))));
      may = subst (λ (z : Sat Job Note (ℕ × ℕ)). z.0.spent < z.0.parts) (sym whole) c.requires.may;
      more = λ e i. subst (λ (z : Sat Job Note (ℕ × ℕ)). In e z.0.names) (sym whole) (inr i);
    }

pub returns-in-Err-clause-idle : goal.returns-in-Err-clause-idle
returns-in-Err-clause-idle c =
    let d = c.in-Err.ensures.full in
    let crew = c.requires.idle.0 in
    let v : View Job (ℕ × ℕ) = c.args.hand.now.seat.me.0 in (
      (((c.in-Err.ensures.table ∙ crew.0.0), ap (λ (z : Sat Job Note (ℕ × ℕ)). z.1) d.1, subst (λ (z : Sat Job Note (ℕ × ℕ)). 0 < z.0.parts) (sym d.1) crew.0.2), crew.1, crew.2, ap (λ (z : Sat Job Note (ℕ × ℕ)). z.0.parts) d.1 ∙ crew.3),
      (c.requires.idle.1.0, subst (λ (z : Sat Job Note (ℕ × ℕ)). Idle meanings (told c.args.cells.now) c.requires.idle.1.0 z.0) (sym d.1) (idle_spent (told c.args.cells.now) c.requires.idle.1.0 v _ _ c.requires.idle.1.1)),
    )
