-- Each call keeps what is known.
use Rattle.std.specs.Prelude.{◌≡◌, ℕ, false, Some}
use Rattle.core_language.specs.Names.{Name}
use Rattle.core_language.specs.Programs.{Program}
use Rattle.task_rounds.specs.Reaching.{NeverSticks}
use Rattle.known_tasks.specs.Known.{KnownTask, KnownParcel, IsKnown, IsKnownParcel}
use Rattle.known_tasks.specs.Nexts.{Next, Silent, Fork, Send, End, next, has_ended}
use Rattle.known_tasks.specs.Calls.{main_task, after_silent, parent_after, child_after, after_send, parcel_of, IsFor, after_receive, after_finish}

-- at the start `main` is known
abbrev pub KnowsMain : Type 0
KnowsMain = (program : Program) (limit : ℕ) → IsKnown (main_task program limit)

-- a known task that has not ended has a next step, and so it isn't stuck
abbrev pub GoesOn : Type 0
GoesOn = (k : KnownTask) → NeverSticks k.program → IsKnown k → has_ended k ≡ false → (n : Next) × (next k ≡ Some n)

abbrev pub KnowsSilent : Type 0
KnowsSilent = (k : KnownTask) → NeverSticks k.program → IsKnown k → next k ≡ Some Silent → IsKnown (after_silent k)

abbrev pub KnowsForked : Type 0
KnowsForked = (k : KnownTask) → NeverSticks k.program → IsKnown k → next k ≡ Some Fork → IsKnown (parent_after k) × IsKnown (child_after k)

abbrev pub KnowsSent : Type 0
KnowsSent = (k : KnownTask) (c : Name) → NeverSticks k.program → IsKnown k → next k ≡ Some (Send c) → IsKnown (after_send k) × (q : KnownParcel) × (parcel_of k ≡ Some q) × (q.channel ≡ c) × IsKnownParcel q

abbrev pub KnowsReceived : Type 0
KnowsReceived = (k : KnownTask) (q : KnownParcel) → NeverSticks k.program → IsKnown k → IsKnownParcel q → IsFor q k → IsKnown (after_receive k q)

abbrev pub KnowsFinished : Type 0
KnowsFinished = (k : KnownTask) → NeverSticks k.program → IsKnown k → next k ≡ Some End → IsKnown (after_finish k)
