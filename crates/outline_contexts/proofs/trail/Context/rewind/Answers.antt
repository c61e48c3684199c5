use Rattle.std.proofs.Common.{◌≡◌, ℕ, List, Bool, length, take, drop, sym, ap, ◌∙◌, subst}
use Rattle.std.proofs.lemmas.List.{take_rest}
use Rattle.outline_contexts.specs.Trails.{Trail, Lengths, IsAfter}
use Rattle.outline_contexts.specs.Kept.{released, IsKept}
use Rattle.outline_contexts.proofs.Trails.{trail, made, cut_at}
use Rattle.outline_contexts.proofs.Keeping.{kept_back}
use Rattle.outline_contexts.proofs.trail.Context.rewind.Goals as goal

pub invariant_of-self : goal.invariant_of-self
invariant_of-self c =
    let (older, below, is, since) = c.requires in
    let t = trail c.self.inside.ints c.self.inside.hyps c.self.inside.names c.self.inside.shapes.items c.self.inside.taken.items in
    let after : IsAfter older t = subst (IsAfter older) (sym c.self.view_is) since in
    let same : trail c.cut.new.self c.cut_rows.new.rows c.cut-2.new.self c.truncate.new.self.items c.truncate-3.new.self.items ≡ older = made
    (c.cut.ensures ∙ cut_at older.ints t.ints c.args.mark.ints (ap (λ (l : Lengths). l.ints) is) after.ints)
    (c.cut_rows.ensures ∙ cut_at older.hyps t.hyps c.args.mark.hyps (ap (λ (l : Lengths). l.hyps) is) after.hyps)
    (c.cut-2.ensures ∙ cut_at older.names t.names c.args.mark.entries (ap (λ (l : Lengths). l.names) is) after.names)
    (c.truncate.ensures.items ∙ cut_at older.shapes t.shapes c.args.mark.entries (ap (λ (l : Lengths). l.shapes) is) after.shapes)
    (c.truncate-3.ensures.items ∙ cut_at older.taken t.taken c.args.mark.taken (ap (λ (l : Lengths). l.taken) is) after.taken) in
    subst (λ (u : Trail). IsKept u c.hold_again.new.held.items) (sym same)
    (kept_back t c.self.inside.held.items c.self.invariant older c.hold_again.new.held.items below
    (sym (ap (λ (l : Lengths). l.names) is) ∙ ap (λ (l : Lengths). l.shapes) is) after
    (c.hold_again.ensures
    ∙ ap (λ (ks : List ℕ). released ks c.truncate-2.new.self.items) (take_rest c.deref.result.now c.args.mark.taken)
    ∙ ap (λ (hs : List Bool). released (drop c.args.mark.taken c.deref.result.now) hs) c.truncate-2.ensures.items
    ∙ ap (λ (ks : List ℕ). released (drop c.args.mark.taken ks) (take c.args.mark.entries c.self.inside.held.items)) c.deref.ensures.value
    ∙ ap (λ (k : ℕ). released (drop k t.taken) (take c.args.mark.entries c.self.inside.held.items)) (ap (λ (l : Lengths). l.taken) is)
    ∙ ap (λ (k : ℕ). released (drop (length older.taken) t.taken) (take k c.self.inside.held.items)) (ap (λ (l : Lengths). l.shapes) is)))
