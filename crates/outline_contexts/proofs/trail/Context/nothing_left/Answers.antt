use Rattle.std.proofs.Common.{◌≡◌, List, Bool, length, Ok, OnOk, IfErr, sym, ap, ◌∙◌, subst}
use Rattle.core_language.specs.Names.{Ident}
use Rattle.outline_language.specs.Nameless.{Shape}
use Rattle.outline_language.specs.Contexts.{Entry, nothing, nothing_left}
use Rattle.outline_obligations.specs.Reasons.{IsReason}
use Rattle.outline_contexts.specs.Trails.{Trail, context_in}
use Rattle.outline_contexts.specs.Kept.{entries_by}
use Rattle.outline_contexts.proofs.Trails.{trail}
use Rattle.outline_contexts.proofs.Entries.{by_kept}
use Rattle.outline_contexts.proofs.Keeping.{held_long}
use Rattle.outline_contexts.proofs.trail.Context.nothing_left.Goals as goal

pub check_left-requires-clause-held : goal.check_left-requires-clause-held
check_left-requires-clause-held c =
    let t = trail c.self.inside.ints c.self.inside.hyps c.self.inside.names c.self.inside.shapes.items c.self.inside.taken.items in
    ap (λ (bs : List Bool). length bs) c.as_slice.ensures.value
    ∙ held_long t c.self.inside.held.items c.self.invariant
    ∙ ap (λ (ss : List Shape). length ss) (sym c.as_slice-3.ensures.value)

pub returns-clause-ok : goal.returns-clause-ok
returns-clause-ok c =
    let t = trail c.self.inside.ints c.self.inside.hyps c.self.inside.names c.self.inside.shapes.items c.self.inside.taken.items in
    let same : entries_by c.as_slice.result.now c.as_slice-2.result.now c.as_slice-3.result.now ≡ (context_in c.args.self.now).entries =
    ap (λ (bs : List Bool). entries_by bs c.as_slice-2.result.now c.as_slice-3.result.now) c.as_slice.ensures.value
    ∙ ap (λ (xs : List Ident). entries_by c.self.inside.held.items xs c.as_slice-3.result.now) c.as_slice-2.ensures
    ∙ ap (λ (ss : List Shape). entries_by c.self.inside.held.items t.names ss) c.as_slice-3.ensures.value
    ∙ by_kept t.taken 0 t.names t.shapes c.self.inside.held.items c.self.invariant.held
    ∙ ap (λ (u : Trail). (context_in u).entries) c.self.view_is in
    subst (λ (es : List Entry). OnOk c.check_left.result (nothing_left es ≡ Ok nothing)) same c.check_left.ensures.ok

pub returns-clause-err : goal.returns-clause-err
returns-clause-err c =
    let t = trail c.self.inside.ints c.self.inside.hyps c.self.inside.names c.self.inside.shapes.items c.self.inside.taken.items in
    let same : entries_by c.as_slice.result.now c.as_slice-2.result.now c.as_slice-3.result.now ≡ (context_in c.args.self.now).entries =
    ap (λ (bs : List Bool). entries_by bs c.as_slice-2.result.now c.as_slice-3.result.now) c.as_slice.ensures.value
    ∙ ap (λ (xs : List Ident). entries_by c.self.inside.held.items xs c.as_slice-3.result.now) c.as_slice-2.ensures
    ∙ ap (λ (ss : List Shape). entries_by c.self.inside.held.items t.names ss) c.as_slice-3.ensures.value
    ∙ by_kept t.taken 0 t.names t.shapes c.self.inside.held.items c.self.invariant.held
    ∙ ap (λ (u : Trail). (context_in u).entries) c.self.view_is in
    subst (λ (es : List Entry). IfErr c.check_left.result (IsReason (nothing_left es))) same c.check_left.ensures.err
