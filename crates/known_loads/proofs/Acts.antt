-- What each step makes of a state.
use Rattle.std.proofs.Common.{◌≡◌, ℕ, ℤ, suc, ◌+◌, ◌≤◌, ◌<◌, max, nat_lt, if◌then◌else◌, List, [], ◌∷◌, ◌++◌, map, Option, Some, None, inl, inr, ⊎_elim, refl, sym, ap, subst, ◌∙◌, arith, true, false, append-nil, ◌⊎◌}
use Rattle.core_language.specs.Names.{Name, child}
use Rattle.core_language.specs.Values as core
use Rattle.core_language.specs.Configurations.{Place, Ended}
use Rattle.core_language.specs.Acts.{Act, channel_in}
use Rattle.core_language.specs.Acts as act
use Rattle.core_language.specs.Steps as event
use Rattle.core_programs.specs.declared.nodes.Parts.{Parts}
use Rattle.std.specs.Global.{Vec}
use Rattle.cell_rules.specs.Lists.{In}
use Rattle.cell_rules.proofs.Totals.{In-append, In-left, In-right}
use Rattle.machine_values.specs.Cells.{EndTest, Passes}
use Rattle.machine_values.specs.Cells as cells
use Rattle.machine_values.specs.Ends.{ValuePasses}
use Rattle.machine_values.specs.Reading.{celled_of, value_as}
use Rattle.machine_values.specs.declared.values.Channel.{Channel}
use Rattle.machine_values.specs.declared.values.Value.{Value}
use Rattle.machine_tasks.specs.declared.tasks.Task.{Task}
use Rattle.machine_tasks.specs.declared.sharing.Offspring.{Offspring}
use Rattle.machine_tasks.specs.declared.sharing.Parcel.{Parcel}
use Rattle.machine_tasks.specs.declared.sharing.Slot.{Slot}
use Rattle.machine_tasks.specs.Attempts.{Attempts}
use Rattle.machine_tasks.specs.Ends.{NoNewEnds, TaskPasses}
use Rattle.machine_tasks.specs.Kinds.{kind_of}
use Rattle.machine_tasks.specs.Moving.{IsPrint, IsQuiet, at_node, place_by, place_after, place_with}
use Rattle.machine_tasks.specs.Reading.{IsTask, act_in, task_of}
use Rattle.machine_tasks.specs.Sharing.{Branches, Receives, IsFork, IsSend, IsRecv}
use Rattle.machine_tasks.specs.Sharing as sharing
use Rattle.machine_tasks.specs.Steps.{Advances, FitsTask, GoesTo, place_in}
use Rattle.known_tasks.specs.Known.{KnownTask}
use Rattle.known_tasks.specs.Nexts.{Next, Silent, Fork, Send, Recv, End, next, next_by}
use Rattle.known_tasks.specs.Calls.{IsFor, moved, silent_by, parent_by, child_by, sender_by, parcel_by, receiver_by, after_silent, after_finish, after_receive, after_send, parent_after, child_after, parcel_of}
use Rattle.known_loads.specs.declared.notes.Deed.TheVariants as deed
use Rattle.known_loads.specs.declared.notes.Note.{Note}
use Rattle.known_loads.specs.declared.states.Late.{Late}
use Rattle.known_loads.specs.declared.states.State.{State}
use Rattle.known_loads.specs.declared.letters.Letter.{Letter}
use Rattle.known_loads.specs.Ends.{task_ends, value_ends}
use Rattle.known_loads.specs.Following.{Adds, Follows, IsFirst, IsMade, MakesFork, MakesSend, no_news, forked, sent, received, print_in}
use Rattle.known_loads.specs.Holding.{Holds}
use Rattle.known_loads.specs.Meaning.{forked_by, late_channel, mentions, numbered, noted, received_by, sent_by}
use Rattle.known_loads.specs.Reading.{entry_of, known_of, late_value, parcel_as}
use Rattle.known_loads.proofs.Ends.{among, task_keeps, value_keeps, all_value}
use Rattle.known_loads.proofs.Made.{before, lt_is, not_lt_is, made, made_as, nothing_late, same_act, same_known, same_task}

-- ---- acts by the step that comes next

pub quiet_end : (a : Act) → next_by a ≡ Some End → IsQuiet a
quiet_end act.End n = tt
quiet_end (act.Silent place) n = tt
quiet_end (act.Print z place) n = tt
quiet_end (act.Fork c parent its) n = let bad : ⊥ = cc in absurd bad
quiet_end (act.Send c v place) n = let bad : ⊥ = cc in absurd bad
quiet_end (act.Recv c place) n = let bad : ⊥ = cc in absurd bad
quiet_end act.IsEnded n = let bad : ⊥ = cc in absurd bad
quiet_end (act.IsHalted why) n = let bad : ⊥ = cc in absurd bad
quiet_end (act.IsStuck why) n = let bad : ⊥ = cc in absurd bad

pub fork_act : (a : Act) → next_by a ≡ Some Fork → IsFork a
fork_act (act.Fork c parent its) n = tt
fork_act act.End n = let bad : ⊥ = cc in absurd bad
fork_act (act.Silent place) n = let bad : ⊥ = cc in absurd bad
fork_act (act.Print z place) n = let bad : ⊥ = cc in absurd bad
fork_act (act.Send c v place) n = let bad : ⊥ = cc in absurd bad
fork_act (act.Recv c place) n = let bad : ⊥ = cc in absurd bad
fork_act act.IsEnded n = let bad : ⊥ = cc in absurd bad
fork_act (act.IsHalted why) n = let bad : ⊥ = cc in absurd bad
fork_act (act.IsStuck why) n = let bad : ⊥ = cc in absurd bad

pub send_act : (a : Act) (c : Name) → next_by a ≡ Some (Send c) → IsSend a × (channel_in a ≡ Some c)
send_act (act.Send d v place) c n = let same : d ≡ c = cc in (tt, ap Some same)
send_act act.End c n = let bad : ⊥ = cc in absurd bad
send_act (act.Silent place) c n = let bad : ⊥ = cc in absurd bad
send_act (act.Print z place) c n = let bad : ⊥ = cc in absurd bad
send_act (act.Fork d parent its) c n = let bad : ⊥ = cc in absurd bad
send_act (act.Recv d place) c n = let bad : ⊥ = cc in absurd bad
send_act act.IsEnded c n = let bad : ⊥ = cc in absurd bad
send_act (act.IsHalted why) c n = let bad : ⊥ = cc in absurd bad
send_act (act.IsStuck why) c n = let bad : ⊥ = cc in absurd bad

pub recv_act : (a : Act) (c : Name) → next_by a ≡ Some (Recv c) → IsRecv a × (channel_in a ≡ Some c)
recv_act (act.Recv d place) c n = let same : d ≡ c = cc in (tt, ap Some same)
recv_act act.End c n = let bad : ⊥ = cc in absurd bad
recv_act (act.Silent place) c n = let bad : ⊥ = cc in absurd bad
recv_act (act.Print z place) c n = let bad : ⊥ = cc in absurd bad
recv_act (act.Fork d parent its) c n = let bad : ⊥ = cc in absurd bad
recv_act (act.Send d v place) c n = let bad : ⊥ = cc in absurd bad
recv_act act.IsEnded c n = let bad : ⊥ = cc in absurd bad
recv_act (act.IsHalted why) c n = let bad : ⊥ = cc in absurd bad
recv_act (act.IsStuck why) c n = let bad : ⊥ = cc in absurd bad

pub print_act : (a : Act) (z : ℤ) → print_in (kind_of a) ≡ Some z → IsPrint a
print_act (act.Print y place) z e = tt
print_act act.End z e = let bad : ⊥ = cc in absurd bad
print_act (act.Silent place) z e = let bad : ⊥ = cc in absurd bad
print_act (act.Fork c parent its) z e = let bad : ⊥ = cc in absurd bad
print_act (act.Send c v place) z e = let bad : ⊥ = cc in absurd bad
print_act (act.Recv c place) z e = let bad : ⊥ = cc in absurd bad
print_act act.IsEnded z e = let bad : ⊥ = cc in absurd bad
print_act (act.IsHalted why) z e = let bad : ⊥ = cc in absurd bad
print_act (act.IsStuck why) z e = let bad : ⊥ = cc in absurd bad

-- a print that was told and not made stands where it stood
pub print_waits : (program : Parts) (old mid : Task) → Attempts program old mid (act_in program old) → IsPrint (act_in program old) → GoesTo program old mid (place_in program old)
print_waits program old mid goes is = by (act_in program old) is goes
  where
    by : (a : Act) → IsPrint a → Attempts program old mid a → GoesTo program old mid (place_in program old)
    by (act.Print z place) is goes = goes
    by (act.Silent place) is goes = absurd is
    by (act.Fork c parent its) is goes = absurd is
    by (act.Send c v place) is goes = absurd is
    by (act.Recv c place) is goes = absurd is
    by act.End is goes = absurd is
    by act.IsEnded is goes = absurd is
    by (act.IsHalted why) is goes = absurd is
    by (act.IsStuck why) is goes = absurd is

pub act_waits : (program : Parts) (old mid : Task) → GoesTo program old mid (place_in program old) → act_in program mid ≡ act_in program old
act_waits program old mid g = same_act program old mid g.name_is g.forks_are g.place_is

-- ---- steps

module _ (program : Parts) (old new : State) (holds : Holds (program, old)) (limit : new.limit ≡ old.limit) (cell : new.cell ≡ old.cell) where
  abbrev K : KnownTask
  K = known_of (program, old)

  -- ends that are no new ones
  same_ends : NoNewEnds old.task new.task → Adds (task_ends old.task) [] (task_ends new.task)
  same_ends none e h = inr (task_keeps old.task new.task [] (λ test more. none test) e h)

  module _ (late : new.late ≡ old.late) where
    pub silent_made : next K ≡ Some Silent → Attempts program old.task new.task (act_in program old.task) → NoNewEnds old.task new.task → print_in (kind_of (act_in program old.task)) ≡ None
        → new.notes.items ≡ old.notes.items → new.time ≡ old.time + 1 → IsMade program old new (after_silent K) no_news
    silent_made n goes ends none notes time =
        let (early, by_act) = before program old Silent holds n (λ e. cc) in
        by early (act_in program old.task) refl by_act none goes
      where
        by : old.time < old.limit → (a : Act) → act_in program old.task ≡ a → next_by a ≡ Some Silent → print_in (kind_of a) ≡ None → Attempts program old.task new.task a → IsMade program old new (after_silent K) no_news
        by early (act.Silent place) is n none goes =
            let few = holds.forks in
            made_as program old new _ _ no_news (sym (ap (silent_by K) is))
            (made program old new place old.task.forks (suc old.time) event.Silent [] [] limit cell (omega (arith, time)) goes (notes ∙ sym (append-nil old.notes.items)) refl late (same_ends ends) (omega (arith, few)) (nothing_late program old holds early))
        by early (act.Print z place) is n none goes = let bad : ⊥ = cc in absurd bad
        by early (act.Fork c parent its) is n none goes = let bad : ⊥ = cc in absurd bad
        by early (act.Send c v place) is n none goes = let bad : ⊥ = cc in absurd bad
        by early (act.Recv c place) is n none goes = let bad : ⊥ = cc in absurd bad
        by early act.End is n none goes = let bad : ⊥ = cc in absurd bad
        by early act.IsEnded is n none goes = let bad : ⊥ = cc in absurd bad
        by early (act.IsHalted why) is n none goes = let bad : ⊥ = cc in absurd bad
        by early (act.IsStuck why) is n none goes = let bad : ⊥ = cc in absurd bad

    pub print_made : (mid : Task) (z : ℤ) → next K ≡ Some Silent → Attempts program old.task mid (act_in program old.task) → NoNewEnds old.task mid → print_in (kind_of (act_in program old.task)) ≡ Some z
        → Advances program mid new.task → NoNewEnds mid new.task → new.notes.items ≡ old.notes.items ++ record { time = old.time + 1; deed = deed.Print z } ∷ [] → new.time ≡ old.time + 1
        → IsMade program old new (after_silent K) no_news
    print_made mid z n goes ends some advances more notes time =
        let (early, by_act) = before program old Silent holds n (λ e. cc) in
        let stood = print_waits program old.task mid goes (print_act (act_in program old.task) z some) in
        by early stood (act_in program old.task) refl some
      where
        by : old.time < old.limit → GoesTo program old.task mid (place_in program old.task) → (a : Act) → act_in program old.task ≡ a → print_in (kind_of a) ≡ Some z → IsMade program old new (after_silent K) no_news
        by early stood (act.Print y place) is some =
            let few = holds.forks in
            let same : y ≡ z = cc in
            let later : old.time + 1 ≡ suc old.time = omega arith in
            made_as program old new _ _ no_news (sym (ap (silent_by K) is))
            (made program old new place old.task.forks (suc old.time) (event.Print y) [] (record { time = old.time + 1; deed = deed.Print z } ∷ []) limit cell (time ∙ later)
            (record {
              name_is = advances.name_is ∙ stood.name_is;
              forks_are = advances.forks_are ∙ stood.forks_are;
              place_is = advances.place_is ∙ ap place_after (act_waits program old.task mid stood ∙ is);
              fits = advances.fits;
            })
            notes (λ i. record { time = later i; name = old.task.name; event = event.Print (sym same i) } ∷ []) late (same_ends (λ test p. more test (ends test p))) (omega (arith, few)) (nothing_late program old holds early))
        by early stood (act.Silent place) is some = let bad : ⊥ = cc in absurd bad
        by early stood (act.Fork c parent its) is some = let bad : ⊥ = cc in absurd bad
        by early stood (act.Send c v place) is some = let bad : ⊥ = cc in absurd bad
        by early stood (act.Recv c place) is some = let bad : ⊥ = cc in absurd bad
        by early stood act.End is some = let bad : ⊥ = cc in absurd bad
        by early stood act.IsEnded is some = let bad : ⊥ = cc in absurd bad
        by early stood (act.IsHalted why) is some = let bad : ⊥ = cc in absurd bad
        by early stood (act.IsStuck why) is some = let bad : ⊥ = cc in absurd bad

    pub end_made : next K ≡ Some End → Advances program old.task new.task → NoNewEnds old.task new.task → new.notes.items ≡ old.notes.items ++ record { time = old.time + 1; deed = deed.End } ∷ []
        → new.time ≡ old.time + 1 → IsMade program old new (after_finish K) no_news
    end_made n advances ends notes time =
        let (early, by_act) = before program old End holds n (λ e. cc) in
        let few = holds.forks in
        let later : old.time + 1 ≡ suc old.time = omega arith in
        made program old new Ended old.task.forks (suc old.time) event.End [] (record { time = old.time + 1; deed = deed.End } ∷ []) limit cell (time ∙ later)
        (record { name_is = advances.name_is; forks_are = advances.forks_are; place_is = advances.place_is ∙ ended (act_in program old.task) by_act; fits = advances.fits })
        notes (λ i. record { time = later i; name = old.task.name; event = event.End } ∷ []) late (same_ends ends) (omega (arith, few)) (nothing_late program old holds early)
      where
        ended : (a : Act) → next_by a ≡ Some End → place_after a ≡ Ended
        ended act.End n = refl
        ended (act.Silent place) n = let bad : ⊥ = cc in absurd bad
        ended (act.Print z place) n = let bad : ⊥ = cc in absurd bad
        ended (act.Fork c parent its) n = let bad : ⊥ = cc in absurd bad
        ended (act.Send c v place) n = let bad : ⊥ = cc in absurd bad
        ended (act.Recv c place) n = let bad : ⊥ = cc in absurd bad
        ended act.IsEnded n = let bad : ⊥ = cc in absurd bad
        ended (act.IsHalted why) n = let bad : ⊥ = cc in absurd bad
        ended (act.IsStuck why) n = let bad : ⊥ = cc in absurd bad

    pub parent_made : (offspring : Offspring) (channel : Channel) → next K ≡ Some Fork → Branches program old.task channel.cell.0 offspring → channel.name ≡ offspring.child.name
        → IsTask program new.task old.task.name (suc old.task.forks) (place_with program.nodes offspring.end.name (value_as offspring.end.value) offspring.next (place_in program old.task))
        → ((test : EndTest) → ValuePasses test offspring.end.value → TaskPasses test old.task → TaskPasses test new.task)
        → new.notes.items ≡ old.notes.items ++ record { time = old.time + 1; deed = deed.Fork channel } ∷ [] → new.time ≡ old.time + 1
        → IsMade program old new (parent_after K) (forked channel.cell.0 offspring.child.name)
    parent_made offspring channel n branches named is ends notes time =
        let (early, by_act) = before program old Fork holds n (λ e. cc) in
        let few = holds.forks in
        let later : old.time + 1 ≡ suc old.time = omega arith in
        let own = named ∙ branches.child_is.name_is in
        let place : Place = place_with program.nodes offspring.end.name (value_as offspring.end.value) offspring.next (place_in program old.task) in
        made_as program old new _ _ _ (sym (ap (parent_by K) branches.act_is))
        (subst (λ (name : Name). IsMade program old new (moved K (suc old.time) place (suc old.task.forks) (event.Fork (child old.task.name old.task.forks))) (forked channel.cell.0 name)) named
        (made program old new place (suc old.task.forks) (suc old.time) (event.Fork (child old.task.name old.task.forks)) (numbered channel ∷ []) (record { time = old.time + 1; deed = deed.Fork channel } ∷ []) limit cell (time ∙ later) is
        notes (λ i. record { time = later i; name = old.task.name; event = event.Fork (own i) } ∷ []) late
        (λ e h. in_two e (task_keeps old.task new.task (numbered channel ∷ []) (λ test more old_passes. ends test (passes test own branches (more (numbered channel) (inl refl))) old_passes) e h))
        (omega (arith, few)) (nothing_late program old holds early)))
      where
        in_two : (e : ℕ × Name) → In e (numbered channel ∷ task_ends old.task) → In e (numbered channel ∷ []) ⊎ In e (task_ends old.task)
        in_two e h = ⊎_elim (λ is. inl (inl is)) (λ t. inr t) h

        passes : (test : EndTest) → channel.name ≡ child old.task.name old.task.forks → Branches program old.task channel.cell.0 offspring → test channel.name channel.cell.0 ≡ true → ValuePasses test offspring.end.value
        passes test own branches p = subst (Passes test) (sym branches.end_is) (subst (λ (name : Name). test name channel.cell.0 ≡ true) own p)

    pub sender_made : (channel noted : Channel) (parcel : Parcel) (c : Name) → next K ≡ Some (Send c) → sharing.Sends program old.task parcel → channel ≡ noted → channel_in (act_in program old.task) ≡ Some channel.name
        → GoesTo program old.task new.task (at_node program.nodes parcel.next (place_in program old.task)) → NoNewEnds old.task new.task
        → new.notes.items ≡ old.notes.items ++ record { time = old.time + 1; deed = deed.Send noted } ∷ [] → new.time ≡ old.time + 1 → (letter : Letter) → letter.channel ≡ channel → letter.value ≡ parcel.value → letter.limit ≡ old.limit → letter.round ≡ old.time + 1
        → In (numbered channel) (task_ends old.task) → MakesSend program old new letter
    sender_made channel noted parcel c n sends copies there goes ends notes time letter its_channel its_value its_limit its_round here =
        let (early, by_act) = before program old (Send c) holds n (λ e. cc) in
        let few = holds.forks in
        let later : old.time + 1 ≡ suc old.time = omega arith in
        let named : sends.channel ≡ channel.name = on_channel (sym (ap channel_in sends.act_is) ∙ there) in
        let place : Place = at_node program.nodes parcel.next (place_in program old.task) in
        let same_name : noted.name ≡ sends.channel = ap (λ (x : Channel). x.name) (sym copies) ∙ sym named in
        record {
          sender = made_as program old new _ _ _ (sym (ap (sender_by K) sends.act_is))
              (subst (λ (x : Channel). IsMade program old new (moved K (suc old.time) place old.task.forks (event.Send sends.channel)) (record { ends = []; forked = []; sent = numbered x ∷ []; received = [] })) (sym copies ∙ sym its_channel)
              (made program old new place old.task.forks (suc old.time) (event.Send sends.channel) [] (record { time = old.time + 1; deed = deed.Send noted } ∷ []) limit cell (time ∙ later) goes
              notes (λ i. record { time = later i; name = old.task.name; event = event.Send (same_name i) } ∷ []) late (same_ends ends) (omega (arith, few)) (nothing_late program old holds early)));
          parcel = ap (parcel_by K) sends.act_is ∙ ap Some (λ i. record {
            program = K.program;
            limit = sym its_limit i;
            channel = (named ∙ ap (λ (x : Channel). x.name) (sym its_channel)) i;
            value = value_as (sym its_value i);
            round = (sym later ∙ sym its_round) i;
          });
          limit = its_limit;
          channel = subst (λ (x : Channel). In (numbered x) (task_ends old.task)) (sym its_channel) here;
          ends = subst (λ (v : Value). (e : ℕ × Name) → In e (value_ends v) → In e (task_ends old.task)) (sym its_value) (value_keeps old.task parcel.value sends.ends);
        }
      where
        on_channel : {a b : Name} → Some a ≡ Some b → a ≡ b
        on_channel e = cc

    pub receiver_made : (letter : Letter) (slot : Slot) → IsFor (parcel_as (program, letter)) K → Receives program old.task slot → letter.round < old.limit
        → GoesTo program old.task new.task (place_with program.nodes slot.name (value_as letter.value) slot.next (place_in program old.task))
        → ((test : EndTest) → ValuePasses test letter.value → TaskPasses test old.task → TaskPasses test new.task)
        → new.notes.items ≡ old.notes.items ++ record { time = max old.time letter.round + 1; deed = deed.Recv letter.channel } ∷ [] → new.time ≡ max old.time letter.round + 1
        → IsMade program old new (after_receive K (parcel_as (program, letter))) (received letter)
    receiver_made letter slot is_for receives before_limit goes ends notes time =
        let (early, by_act) = before program old (Recv letter.channel.name) holds is_for.waits (λ e. cc) in
        let few = holds.forks in
        let q = parcel_as (program, letter) in
        let round = max old.time letter.round in
        let later : round + 1 ≡ suc round = omega arith in
        let named : receives.channel ≡ letter.channel.name = on_channel (sym (ap channel_in receives.act_is) ∙ (recv_act (act_in program old.task) letter.channel.name by_act).1) in
        let first : after_receive K q ≡ moved K (suc round) (place_with program.nodes slot.name (value_as letter.value) slot.next (place_in program old.task)) old.task.forks (event.Recv receives.channel) =
        ap (receiver_by K q) receives.act_is
        ∙ ap (λ b. if b then moved K (suc round) (place_with program.nodes slot.name (value_as letter.value) slot.next (place_in program old.task)) old.task.forks (event.Recv receives.channel) else record K { time = K.limit; late = Some q.value }) (lt_is letter.round old.limit before_limit) in
        made_as program old new _ _ _ (sym first)
        (made program old new _ old.task.forks (suc round) (event.Recv receives.channel) (value_ends letter.value) (record { time = round + 1; deed = deed.Recv letter.channel } ∷ []) limit cell (time ∙ later) goes
        notes (λ i. record { time = later i; name = old.task.name; event = event.Recv (sym named i) } ∷ []) late
        (λ e h. In-append e (value_ends letter.value) (task_ends old.task) (task_keeps old.task new.task (value_ends letter.value) (λ test more old_passes. ends test (all_value test letter.value more) old_passes) e h))
        (omega (arith, few)) (nothing_late program old holds early))
      where
        on_channel : {a b : Name} → Some a ≡ Some b → a ≡ b
        on_channel e = cc

  -- a value of the last round is kept
  pub late_made : (letter : Letter) → IsFor (parcel_as (program, letter)) K → old.limit ≤ letter.round → new.task ≡ old.task → new.notes ≡ old.notes → new.time ≡ old.limit
      → new.late ≡ Some (record { channel = letter.channel; value = letter.value }) → IsMade program old new (after_receive K (parcel_as (program, letter))) (received letter)
  late_made letter is_for past task notes time late =
      let (early, by_act) = before program old (Recv letter.channel.name) holds is_for.waits (λ e. cc) in
      let few = holds.forks in
      by early few (act_in program old.task) refl by_act
    where
      kept : (o : Option Late) → o ≡ Some (record { channel = letter.channel; value = letter.value }) → (l : Late) → o ≡ Some l → l ≡ record { channel = letter.channel; value = letter.value }
      kept o is l same = let both = sym same ∙ is in cc

      before_it : old.late ≡ None → (e : ℕ × Name) → In e (noted received_by old.notes.items ++ late_channel old.late) → In e (noted received_by old.notes.items)
      before_it none e h = ⊎_elim (λ a. a) (λ b. absurd (subst (λ o. In e (late_channel o)) none b)) (In-append e (noted received_by old.notes.items) (late_channel old.late) h)

      by : old.time < old.limit → old.task.forks ≤ old.time → (a : Act) → act_in program old.task ≡ a → next_by a ≡ Some (Recv letter.channel.name) → IsMade program old new (after_receive K (parcel_as (program, letter))) (received letter)
      by early few (act.Recv d place) is n =
          let none = nothing_late program old holds early in
          let q = parcel_as (program, letter) in
          let channel : d ≡ letter.channel.name = cc in
          let notes_items = ap (λ (v : Vec Note). v.items) notes in
          let first : after_receive K q ≡ record K { time = K.limit; late = Some q.value } =
          ap (receiver_by K q) is ∙ ap (λ b. if b then moved K (suc (max K.time q.round)) (place q.value) K.state.forks (event.Recv d) else record K { time = K.limit; late = Some q.value }) (not_lt_is letter.round old.limit past) in
          record {
            is = same_known _ _ refl limit (ap (λ (t : Task). t.name) task) time (ap (λ (t : Task). task_of program.nodes t) task)
                (ap (λ (t : Task). map (entry_of t.name) new.notes.items) task ∙ ap (map (entry_of old.task.name)) notes_items) (ap (λ o. late_value o) late) ∙ sym first;
            fits = subst (λ (t : Task). FitsTask program t) (sym task) holds.fits;
            forks = let count = ap (λ (t : Task). t.forks) task in omega (arith, few, count, time, early);
            late = λ l same. let one = kept new.late late l same in (place, ap (act_in program) task ∙ is ∙ ap (λ b. act.Recv b place) (channel ∙ ap (λ (x : Late). x.channel.name) (sym one)));
            follows = record {
              cell = cell;
              name = ap (λ (t : Task). t.name) task;
              limit = limit;
              ends = λ e h. inr (subst (λ (t : Task). In e (task_ends t)) task h);
              forked = λ e h. inr (subst (λ ns. In e (noted forked_by ns)) notes_items h);
              sent = λ e h. inr (subst (λ ns. In e (noted sent_by ns)) notes_items h);
              received = λ e h. ⊎_elim (λ a. inr (In-left e (noted received_by old.notes.items) (late_channel old.late) (subst (λ ns. In e (noted received_by ns)) notes_items a)))
                  (λ b. inl (subst (λ o. In e (late_channel o)) late b)) (In-append e (noted received_by new.notes.items) (late_channel new.late) h);
              keeps = λ e h. In-left e (noted received_by new.notes.items) (late_channel new.late) (subst (λ ns. In e (noted received_by ns)) (sym notes_items) (before_it none e h));
              tells = λ e h. In-right e (noted received_by new.notes.items) (late_channel new.late) (subst (λ o. In e (late_channel o)) (sym late) h);
            };
          }
      by early few act.End is n = let bad : ⊥ = cc in absurd bad
      by early few (act.Silent place) is n = let bad : ⊥ = cc in absurd bad
      by early few (act.Print z place) is n = let bad : ⊥ = cc in absurd bad
      by early few (act.Fork d parent its) is n = let bad : ⊥ = cc in absurd bad
      by early few (act.Send d v place) is n = let bad : ⊥ = cc in absurd bad
      by early few act.IsEnded is n = let bad : ⊥ = cc in absurd bad
      by early few (act.IsHalted why) is n = let bad : ⊥ = cc in absurd bad
      by early few (act.IsStuck why) is n = let bad : ⊥ = cc in absurd bad

-- a print that was told is the act still
pub print_ready : (program : Parts) (old mid : Task) (z : ℤ) → Attempts program old mid (act_in program old) → print_in (kind_of (act_in program old)) ≡ Some z → IsPrint (act_in program mid)
print_ready program old mid z goes some =
    let is = print_act (act_in program old) z some in
    subst IsPrint (sym (act_waits program old mid (print_waits program old mid goes is))) is
