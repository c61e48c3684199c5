-- The entries of several logs in one list, by time and name.
use Rattle.std.specs.Prelude.{List, flat_map}
use Rattle.std.specs.declared.cmp.Ordering.{Ordering}
use Rattle.std.specs.List.Sorted.{IsPermutation, IsSorted, IsStable}
use Rattle.std.specs.Ordering.{nat_cmp, ordering_then}
use Rattle.std.specs.Cmp.Lexicographic.{slice_cmp}
use Rattle.chan_machine.specs.declared.events.Entry.{Entry}

-- the earlier time first, and at one time the lesser name
abbrev pub by_time : Entry → Entry → Ordering
by_time a b = ordering_then (nat_cmp a.time b.time) (slice_cmp nat_cmp a.name b.name)

-- log after log
abbrev pub entries_of : List (List Entry) → List Entry
entries_of logs = flat_map (λ log. log) logs

-- the entries are those of the logs, in order; those of one time and one name stay in the order in which they come
pub record AreMerged (logs : List (List Entry)) (entries : List Entry) : Type 0 where
  pub same : IsPermutation (entries_of logs) entries
  pub ordered : IsSorted by_time entries
  pub stable : IsStable by_time (entries_of logs) entries
