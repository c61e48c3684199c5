-- What the types ask holds of what the calls make.
use Rattle.std.proofs.Common.{◌≡◌, ◌⊎◌, ℕ, ◌^◌, ◌+◌, ◌≤◌, map, List, [], ◌∷◌, ◌++◌, Some, None, inl, inr, ⊎_elim, refl, sym, ap, subst, ◌∙◌, arith}
use Rattle.core_language.specs.Names.{Name, child}
use Rattle.core_language.specs.Configurations.{started}
use Rattle.core_language.specs.Programs.{main_function}
use Rattle.core_programs.specs.declared.nodes.Parts.{Parts}
use Rattle.core_programs.specs.Bodies.{program_of}
use Rattle.cell_rules.specs.Lists.{In}
use Rattle.cell_rules.proofs.Totals.{In-append, In-left, In-right}
use Rattle.machine_values.specs.Cells.{EndTest}
use Rattle.machine_tasks.specs.declared.tasks.Task.{Task}
use Rattle.machine_tasks.specs.declared.sharing.Offspring.{Offspring}
use Rattle.machine_tasks.specs.Ends.{TaskPasses}
use Rattle.machine_tasks.specs.Reading.{IsTask}
use Rattle.machine_tasks.specs.Sharing.{Branches}
use Rattle.chan_base.specs.declared.Number.{Number}
use Rattle.machine_values.specs.declared.values.Channel.{Channel}
use Rattle.machine_tasks.specs.Steps.{FitsTask, place_in}
use Rattle.task_rounds.specs.Reaching.{NeverSticks}
use Rattle.known_tasks.specs.Known.{KnownTask, IsKnown, IsKnownParcel}
use Rattle.known_tasks.specs.Known as known
use Rattle.known_tasks.specs.Nexts.{Silent, Fork, Send, Recv, End, next}
use Rattle.known_tasks.specs.Calls.{IsFor, main_task, after_silent, after_finish, after_receive, after_send, parent_after, child_after, child_by, parcel_of}
use Rattle.known_tasks.proofs.Calls.{knows_main, knows_silent, knows_finished, knows_forked, knows_sent, knows_received}
use Rattle.known_loads.specs.declared.states.State.{State}
use Rattle.known_loads.specs.declared.letters.Letter.{Letter}
use Rattle.known_loads.specs.Ends.{task_ends, value_ends}
use Rattle.known_loads.specs.Following.{IsFirst, IsMade, IsUnchanged, MakesFork, MakesSend, no_news, forked, sent, received}
use Rattle.known_loads.specs.Holding.{AreSmall, Holds, HoldsParcel}
use Rattle.known_loads.specs.Meaning.{forks, sends, receives, mentions, names_in, numbered, noted, forked_by, sent_by, received_by, late_channel}
use Rattle.known_loads.specs.Reading.{entry_of, known_of, late_value, parcel_as}
use Rattle.known_loads.proofs.Ends.{among, task_keeps, task_within, unmoved_ends}
use Rattle.known_loads.proofs.Made.{made_through, more_mentions, same_known, same_task, still_holds, unchanged_follows, unchanged_made}

-- ---- first states

pub first_of : (s : State) (mentioned : List (ℕ × Name)) → s.notes.items ≡ [] → s.late ≡ None → ((e : ℕ × Name) → In e (task_ends s.task) → (e ≡ (s.cell.0, s.task.name)) ⊎ In e mentioned) → IsFirst mentioned s
first_of s mentioned notes late ends = record {
  mentions = λ e h. ⊎_elim (λ own. inl own)
      (λ t. ⊎_elim (ends e) (λ b. absurd (subst (λ l. In e l) nothing b)) (In-append e (task_ends s.task) (forks s ++ (sends s ++ receives s)) t)) h;
  forks = ap (noted forked_by) notes;
  sends = ap (noted sent_by) notes;
  receives = both;
}
  where
    both : receives s ≡ []
    both = ap (λ ns. noted received_by ns ++ late_channel s.late) notes ∙ ap late_channel late

    nothing : forks s ++ (sends s ++ receives s) ≡ []
    nothing = ap (λ ns. noted forked_by ns ++ (sends s ++ receives s)) notes ∙ ap (λ ns. noted sent_by ns ++ receives s) notes ∙ both

pub child_made : (program : Parts) (old s : State) (cell : ℕ) (made : Offspring) → Branches program old.task cell made → s.limit ≡ old.limit → s.cell.0 ≡ cell → s.time ≡ old.time + 1 → s.task ≡ made.child
    → s.notes.items ≡ [] → s.late ≡ None → (known_of (program, s) ≡ child_after (known_of (program, old))) × IsFirst (mentions old) s
child_made program old s cell made branches limit cell_is time task notes late = (
  same_known _ _ refl limit own (time ∙ omega arith) (same_task _ _ (ap (place_in program) task) (ap (λ (t : Task). t.forks) task ∙ branches.child_is.forks_are)) (ap (map (entry_of s.task.name)) notes) (ap (λ o. late_value o) late)
      ∙ sym (ap (child_by (known_of (program, old))) branches.act_is),
  first_of s (mentions old) notes late (λ e h. ⊎_elim (λ x. ⊎_elim (λ is. inl (is ∙ λ i. (sym cell_is i, sym own i))) (λ b. absurd b) x) (λ y. inr (inr (In-left e (task_ends old.task) (forks old ++ (sends old ++ receives old)) y)))
      (In-append e ((cell, child old.task.name old.task.forks) ∷ []) (task_ends old.task)
      (task_keeps old.task made.child ((cell, child old.task.name old.task.forks) ∷ []) (λ test more passes. branches.child_ends test (more (cell, child old.task.name old.task.forks) (inl refl)) passes) e
      (subst (λ (t : Task). In e (task_ends t)) task h)))),
)
  where
    own : s.task.name ≡ child old.task.name old.task.forks
    own = ap (λ (t : Task). t.name) task ∙ branches.child_is.name_is

pub main_made : (program : Parts) (s : State) (limit : ℕ) → NeverSticks (program_of program) → limit ≤ 1000000000 → s.cell.0 ≤ 2 ^ 60 → s.limit ≡ limit → s.time ≡ 0 → IsTask program s.task [] 0 (started (main_function (program_of program)))
    → ((test : EndTest) → TaskPasses test s.task) → s.notes.items ≡ [] → s.late ≡ None → (known_of (program, s) ≡ main_task (program_of program) limit) × IsFirst [] s × Holds (program, s)
main_made program s limit never few small limit_is time is ends notes late = (
  is_main,
  first,
  record {
    never = never;
    known = subst IsKnown (sym is_main) (knows_main (program_of program) limit);
    fits = is.fits;
    forks = let count = is.forks_are in omega (arith, count);
    limit = subst (λ n. n ≤ 1000000000) (sym limit_is) few;
    late = λ l some. let both = sym late ∙ some in let bad : ⊥ = cc in absurd bad;
    small = λ e h. ⊎_elim (λ own. subst (λ (x : ℕ × Name). x.0 ≤ 2 ^ 60) (sym own) small) (λ b. absurd b) (first.mentions e h);
  },
)
  where
    is_main : known_of (program, s) ≡ main_task (program_of program) limit
    is_main = same_known _ _ refl limit_is is.name_is time (same_task _ _ is.place_is is.forks_are) (ap (map (entry_of s.task.name)) notes) (ap (λ o. late_value o) late)

    first : IsFirst [] s
    first = first_of s [] notes late (λ e h. absurd (task_within s.task [] (ends (among [])) e h))

-- ---- steps

module _ (program : Parts) (old new : State) (holds : Holds (program, old)) where
  abbrev K : KnownTask
  K = known_of (program, old)

  pub silent_holds : next K ≡ Some Silent → IsMade program old new (after_silent K) no_news → Holds (program, new)
  silent_holds n is = still_holds program old new _ no_news holds is (knows_silent K holds.never holds.known n) (λ e h. absurd h)

  pub end_holds : next K ≡ Some End → IsMade program old new (after_finish K) no_news → Holds (program, new)
  end_holds n is = still_holds program old new _ no_news holds is (knows_finished K holds.never holds.known n) (λ e h. absurd h)

  pub parent_holds : (cell : ℕ) (s : State) → next K ≡ Some Fork → cell ≤ 2 ^ 60 → MakesFork program old new cell s → Holds (program, new)
  parent_holds cell s n small makes = still_holds program old new _ (forked cell s.task.name) holds makes.parent (knows_forked K holds.never holds.known n).0
      (λ e h. ⊎_elim (λ is. subst (λ (x : ℕ × Name). x.0 ≤ 2 ^ 60) (sym is) small) (λ t. ⊎_elim (λ is. subst (λ (x : ℕ × Name). x.0 ≤ 2 ^ 60) (sym is) small) (λ b. absurd b) t) h)

  pub child_holds : (cell : ℕ) (s : State) → next K ≡ Some Fork → cell ≤ 2 ^ 60 → MakesFork program old new cell s → Holds (program, s)
  child_holds cell s n small makes = record {
    never = holds.never;
    known = subst IsKnown (sym makes.is) (knows_forked K holds.never holds.known n).1;
    fits = makes.fits;
    forks = makes.forks;
    limit = subst (λ m. m ≤ 1000000000) (sym makes.limit) holds.limit;
    late = λ l some. let both = sym makes.late ∙ some in let bad : ⊥ = cc in absurd bad;
    small = λ e h. ⊎_elim (λ own. subst (λ (x : ℕ × Name). x.0 ≤ 2 ^ 60) (sym own) (subst (λ m. m ≤ 2 ^ 60) (sym makes.cell_is) small)) (holds.small e) (makes.first.mentions e h);
  }

  ends_small : (e : ℕ × Name) → In e (task_ends old.task) → e.0 ≤ 2 ^ 60
  ends_small e h = holds.small e (inr (In-left e (task_ends old.task) (forks old ++ (sends old ++ receives old)) h))

  pub sender_holds : (c : Name) (letter : Letter) → next K ≡ Some (Send c) → MakesSend program old new letter → Holds (program, new)
  sender_holds c letter n makes = still_holds program old new _ (sent letter) holds makes.sender (knows_sent K c holds.never holds.known n).0
      (λ e h. ⊎_elim (λ is. subst (λ (x : ℕ × Name). x.0 ≤ 2 ^ 60) (sym is) (ends_small (numbered letter.channel) makes.channel)) (λ b. absurd b) h)

  pub letter_holds : (c : Name) (letter : Letter) → next K ≡ Some (Send c) → MakesSend program old new letter → HoldsParcel (program, letter)
  letter_holds c letter n makes =
      let (after, q, is, channel, known) = knows_sent K c holds.never holds.known n in
      let same : q ≡ parcel_as (program, letter) = on_some (sym is ∙ makes.parcel) in
      record {
        known = subst IsKnownParcel same known;
        limit = subst (λ m. m ≤ 1000000000) (sym makes.limit) holds.limit;
        small = λ e h. ⊎_elim (λ is. subst (λ (x : ℕ × Name). x.0 ≤ 2 ^ 60) (sym is) (ends_small (numbered letter.channel) makes.channel)) (λ t. ends_small e (makes.ends e t)) h;
      }
    where
      on_some : {a b : known.KnownParcel} → Some a ≡ Some b → a ≡ b
      on_some e = cc

  pub receiver_holds : (letter : Letter) → IsFor (parcel_as (program, letter)) K → HoldsParcel (program, letter) → IsMade program old new (after_receive K (parcel_as (program, letter))) (received letter) → Holds (program, new)
  receiver_holds letter is_for parcel is = still_holds program old new _ (received letter) holds is (knows_received K (parcel_as (program, letter)) holds.never holds.known parcel.known is_for)
      (λ e h. ⊎_elim (λ a. parcel.small e (inr a)) (λ b. ⊎_elim (λ a. parcel.small e (inl a)) (λ x. absurd x) b) (In-append e (value_ends letter.value) (numbered letter.channel ∷ []) h))

  -- ---- where the state was unchanged before

  pub for_still : (mid : State) (q : known.KnownParcel) → IsUnchanged old mid → IsFor q K → IsFor q (known_of (program, mid))
  for_still mid q u is_for = subst (IsFor q) (sym (unchanged_made program old mid holds u).is) is_for

-- the parent and the child
pub fork_made : (program : Parts) (old new s : State) (made : Offspring) (channel : Channel) → IsMade program old new (parent_after (known_of (program, old))) (forked channel.cell.0 made.child.name) → Branches program old.task channel.cell.0 made
    → s.limit ≡ old.limit → s.cell ≡ channel.cell → s.time ≡ old.time + 1 → s.task ≡ made.child → s.notes.items ≡ [] → s.late ≡ None → MakesFork program old new channel.cell.0 s
fork_made program old new s made channel parent branches limit cell time task notes late =
    let child = child_made program old s channel.cell.0 made branches limit (ap (λ (n : Number). n.0) cell) time task notes late in
    let count = branches.child_is.forks_are in
    record {
      parent = subst (λ (t : Task). IsMade program old new (parent_after (known_of (program, old))) (forked channel.cell.0 t.name)) (sym task) parent;
      is = child.0;
      fits = subst (λ (t : Task). FitsTask program t) (sym task) branches.child_is.fits;
      forks = let its = ap (λ (t : Task). t.forks) task in omega (arith, its, count);
      cell_is = ap (λ (n : Number). n.0) cell;
      limit = limit;
      late = late;
      first = child.1;
    }

-- what follows an unchanged state follows the state
pub fork_through : (program : Parts) (old mid new : State) (cell : ℕ) (s : State) → Holds (program, old) → IsUnchanged old mid → MakesFork program mid new cell s → MakesFork program old new cell s
fork_through program old mid new cell s holds u makes = record {
  parent = made_through program old mid new parent_after (forked cell s.task.name) holds u makes.parent;
  is = makes.is ∙ ap child_after (unchanged_made program old mid holds u).is;
  fits = makes.fits;
  forks = makes.forks;
  cell_is = makes.cell_is;
  limit = makes.limit ∙ u.limit;
  late = makes.late;
  first = record {
    mentions = λ e h. ⊎_elim (λ own. inl own) (λ t. inr (⊎_elim (λ b. absurd b) (λ m. m) (more_mentions old mid no_news (unchanged_follows old mid u) e t))) (makes.first.mentions e h);
    forks = makes.first.forks;
    sends = makes.first.sends;
    receives = makes.first.receives;
  };
}

pub send_through : (program : Parts) (old mid new : State) (letter : Letter) → Holds (program, old) → IsUnchanged old mid → MakesSend program mid new letter → MakesSend program old new letter
send_through program old mid new letter holds u makes = record {
  sender = made_through program old mid new after_send (sent letter) holds u makes.sender;
  parcel = sym (ap parcel_of (unchanged_made program old mid holds u).is) ∙ makes.parcel;
  limit = makes.limit ∙ u.limit;
  channel = unmoved_ends old.task mid.task u.task (numbered letter.channel) makes.channel;
  ends = λ e h. unmoved_ends old.task mid.task u.task e (makes.ends e h);
}
