use Rattle.std.proofs.Common.{◌≡◌, List, reverse, sym, ap, subst, ◌∙◌}
use Rattle.std.proofs.lemmas.List.{reverse-reverse}
use Rattle.std.proofs.lemmas.List.Sorted.{answers_always}
use Rattle.std.specs.List.Sorted.{IsPermutation, IsStable}
use Rattle.std.specs.Ordering.{is_lt}
use Rattle.chan_machine.specs.declared.events.Entry.{Entry}
use Rattle.history.specs.Merging.{AreMerged, by_time, entries_of}
use Rattle.history.proofs.Ordered.{ranks}
use Rattle.history.proofs.merging.merge.Goals as goal

pub returns : goal.returns
returns c =
    let all : c.reverse.new.self.items ≡ entries_of c.args.logs =
    c.reverse.ensures.items ∙ ap reverse c.in_ok-entries.ensures ∙ reverse-reverse (entries_of c.args.logs) in
    let made = c.sort_by.new.self.items in
    subst (AreMerged c.args.logs) (sym c.from_vec.ensures) (record {
      same = subst (λ (xs : List Entry). IsPermutation xs made) all c.sort_by.ensures.permutation;
      ordered = c.in_ok-sort_by.ensures.sorted _ ranks (answers_always _ _ _ (λ f a r g k. ap is_lt k.met));
      stable = subst (λ (xs : List Entry). IsStable by_time xs made) all (c.sort_by.ensures.stable _ ranks (answers_always _ _ _ (λ f a r g k. ap is_lt k.met)));
    })
