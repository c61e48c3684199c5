-- Entries are ranked by time and name.
use Rattle.std.proofs.Common.{ℕ, List}
use Rattle.std.specs.Cmp.{IsStrictWeakOrder, IsTotalOrder}
use Rattle.std.specs.declared.cmp.Ordering.{Ordering}
use Rattle.std.specs.Ordering.{is_lt, nat_cmp, ordering_then}
use Rattle.std.specs.Cmp.Lexicographic.{slice_cmp, nat_list_cmp_total}
use Rattle.std.proofs.lemmas.Cmp.{nat_cmp_total, on_total, then_total}
use Rattle.std.proofs.lemmas.List.Sorted.{ranks_by}
use Rattle.chan_machine.specs.declared.events.Entry.{Entry}
use Rattle.history.specs.Merging.{by_time}

abbrev Key : Type 0
Key = ℕ × List ℕ

abbrev key_order : Key → Key → Ordering
key_order a b = ordering_then (nat_cmp a.0 b.0) (slice_cmp nat_cmp a.1 b.1)

keys_total : IsTotalOrder key_order
keys_total = then_total (on_total (λ (k : Key). k.0) nat_cmp_total) (on_total (λ (k : Key). k.1) nat_list_cmp_total)

pub ranks : IsStrictWeakOrder (λ a b. is_lt (by_time a b))
ranks = ranks_by keys_total (λ (e : Entry). (e.time, e.name))
