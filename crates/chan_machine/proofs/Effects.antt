-- What the effect of an act is, by its kind.
use Rattle.std.proofs.Common.{◌≡◌, ℕ, suc, false, ℤ, List, [], ◌∷◌, ◌++◌, Option, Some, None, refl, sym, ap, subst, ◌∙◌}
use Rattle.std.specs.Option.{option_map}
use Rattle.std.specs.Ordering.{nat_cmp, eq_by_cmp}
use Rattle.std.specs.Cmp.Lexicographic.{slice_cmp}
use Rattle.std.specs.FinMap.{get, insert, remove}
use Rattle.std.specs.BTreeMap.{BTreeMap, get as looked_up}
use Rattle.core_language.specs.Names.{Name, NameMap}
use Rattle.core_language.specs.Values.{Value}
use Rattle.core_language.specs.Computing.{Halt, StuckWhy, FullChannel, NoChannel, machine}
use Rattle.core_language.specs.Configurations.{Config, Place}
use Rattle.core_language.specs.Configurations as core
use Rattle.core_language.specs.Acts.{Act, act_of, channel_in}
use Rattle.core_language.specs.Acts as act
use Rattle.core_language.specs.Steps.{Step, Moves, Waits, IsEnded, IsAbsent, IsHalted, IsStuck, Silent, Print, End, with_task, sent, received, effect, step_at, machine_step}
use Rattle.core_language.specs.Steps as step
use Rattle.core_programs.specs.declared.nodes.Parts.{Parts}
use Rattle.core_programs.specs.Bodies.{program_of}
use Rattle.machine_values.specs.declared.values.Value.{Value as Stored}
use Rattle.machine_values.specs.Reading.{value_as}
use Rattle.machine_tasks.specs.declared.tasks.Task.{Task}
use Rattle.machine_tasks.specs.Kinds.{kind_of}
use Rattle.machine_tasks.specs.Kinds as kind
use Rattle.machine_tasks.specs.Moving.{place_after}
use Rattle.machine_tasks.specs.Reading.{act_in, place_of, task_of}
use Rattle.chan_machine.specs.declared.events.Stepped.{Stepped}
use Rattle.chan_machine.specs.Reading.{map_of, step_of}
use Rattle.task_tables.specs.Tables.{tasks_of}
use Rattle.task_tables.proofs.Reading.{get-tasks_of}
use Rattle.task_tables.proofs.Putting.{one_task}
use Rattle.chan_machine.proofs.Maps.{get-map_of}
use Rattle.chan_machine.proofs.Keeping.{put_swapped}

module _ (C : Config) (p : Name) (k : ℕ) where
  pub silent_effect : (a : Act) → kind.Silent ≡ kind_of a → effect C p k a ≡ Moves (with_task C p (place_after a) k) Silent
  silent_effect (act.Silent place) is = refl
  silent_effect (act.Print z place) is = cc
  silent_effect (act.Fork c parent its) is = cc
  silent_effect (act.Send c v place) is = cc
  silent_effect (act.Recv c place) is = cc
  silent_effect act.End is = cc
  silent_effect act.IsEnded is = cc
  silent_effect (act.IsHalted why) is = cc
  silent_effect (act.IsStuck why) is = cc

  pub print_effect : (a : Act) (z : ℤ) → kind.Print z ≡ kind_of a → effect C p k a ≡ Moves (record (with_task C p (place_after a) k) { prints = C.prints ++ (p, z) ∷ [] }) (Print z)
  print_effect (act.Print y place) z is =
      let same : y ≡ z = cc in
      ap (λ x. Moves (record (with_task C p place k) { prints = C.prints ++ (p, x) ∷ [] }) (Print x)) same
  print_effect (act.Silent place) z is = cc
  print_effect (act.Fork c parent its) z is = cc
  print_effect (act.Send c v place) z is = cc
  print_effect (act.Recv c place) z is = cc
  print_effect act.End z is = cc
  print_effect act.IsEnded z is = cc
  print_effect (act.IsHalted why) z is = cc
  print_effect (act.IsStuck why) z is = cc

  pub end_effect : (a : Act) → kind.End ≡ kind_of a → effect C p k a ≡ Moves (with_task C p (place_after a) k) End
  end_effect act.End is = refl
  end_effect (act.Silent place) is = cc
  end_effect (act.Print z place) is = cc
  end_effect (act.Fork c parent its) is = cc
  end_effect (act.Send c v place) is = cc
  end_effect (act.Recv c place) is = cc
  end_effect act.IsEnded is = cc
  end_effect (act.IsHalted why) is = cc
  end_effect (act.IsStuck why) is = cc

  pub ended_effect : (a : Act) → kind.IsEnded ≡ kind_of a → effect C p k a ≡ IsEnded
  ended_effect act.IsEnded is = refl
  ended_effect act.End is = cc
  ended_effect (act.Silent place) is = cc
  ended_effect (act.Print z place) is = cc
  ended_effect (act.Fork c parent its) is = cc
  ended_effect (act.Send c v place) is = cc
  ended_effect (act.Recv c place) is = cc
  ended_effect (act.IsHalted why) is = cc
  ended_effect (act.IsStuck why) is = cc

  pub halted_effect : (a : Act) (h : Halt) → kind.IsHalted h ≡ kind_of a → effect C p k a ≡ IsHalted h
  halted_effect (act.IsHalted why) h is = let same : why ≡ h = cc in ap IsHalted same
  halted_effect act.IsEnded h is = cc
  halted_effect act.End h is = cc
  halted_effect (act.Silent place) h is = cc
  halted_effect (act.Print z place) h is = cc
  halted_effect (act.Fork c parent its) h is = cc
  halted_effect (act.Send c v place) h is = cc
  halted_effect (act.Recv c place) h is = cc
  halted_effect (act.IsStuck why) h is = cc

  pub stuck_effect : (a : Act) (w : StuckWhy) → kind.IsStuck w ≡ kind_of a → effect C p k a ≡ IsStuck w
  stuck_effect (act.IsStuck why) w is = let same : why ≡ w = cc in ap IsStuck same
  stuck_effect (act.IsHalted why) w is = cc
  stuck_effect act.IsEnded w is = cc
  stuck_effect act.End w is = cc
  stuck_effect (act.Silent place) w is = cc
  stuck_effect (act.Print z place) w is = cc
  stuck_effect (act.Fork c parent its) w is = cc
  stuck_effect (act.Send c v place) w is = cc
  stuck_effect (act.Recv c place) w is = cc

  pub send_effect : (a : Act) (c : Name) (o : Option (Option Value)) → kind.Send ≡ kind_of a → Some c ≡ channel_in a → get C.channels c ≡ o
      → (v : Value) × (place : Place) × (effect C p k a ≡ sent C p k c v place o)
  send_effect (act.Send d v place) c o is at got =
      let same : d ≡ c = cc in (v, place, ap (λ e. sent C p k e v place (get C.channels e)) same ∙ ap (sent C p k c v place) got)
  send_effect (act.Silent place) c o is at got = cc
  send_effect (act.Print z place) c o is at got = cc
  send_effect (act.Fork d parent its) c o is at got = cc
  send_effect (act.Recv d place) c o is at got = cc
  send_effect act.End c o is at got = cc
  send_effect act.IsEnded c o is at got = cc
  send_effect (act.IsHalted why) c o is at got = cc
  send_effect (act.IsStuck why) c o is at got = cc

  pub recv_effect : (a : Act) (c : Name) (o : Option (Option Value)) → kind.Recv ≡ kind_of a → Some c ≡ channel_in a → get C.channels c ≡ o
      → (place : Value → Place) × (effect C p k a ≡ received C p k c place o)
  recv_effect (act.Recv d place) c o is at got =
      let same : d ≡ c = cc in (place, ap (λ e. received C p k e place (get C.channels e)) same ∙ ap (received C p k c place) got)
  recv_effect (act.Silent place) c o is at got = cc
  recv_effect (act.Print z place) c o is at got = cc
  recv_effect (act.Fork d parent its) c o is at got = cc
  recv_effect (act.Send d v place) c o is at got = cc
  recv_effect act.End c o is at got = cc
  recv_effect act.IsEnded c o is at got = cc
  recv_effect (act.IsHalted why) c o is at got = cc
  recv_effect (act.IsStuck why) c o is at got = cc

module _ (program : Parts) (tasks : NameMap Task) (channels : NameMap (Option Value)) (prints : List (Name × ℤ)) (p : Name) where
  abbrev C : Config
  C = record { tasks = tasks_of program tasks; channels = channels; prints = prints }

  -- the step of a task that is there
  pub steps_here : (t : Task) → get tasks p ≡ Some t → t.name ≡ p → machine_step (program_of program) C p ≡ effect C p t.forks (act_in program t)
  steps_here t found named =
      ap (step_at machine (program_of program) C p) (get-tasks_of program tasks p ∙ ap (option_map (task_of program.nodes)) found)
      ∙ ap (λ q. effect C p t.forks (act_of machine (program_of program) q t.forks (place_of program.nodes t.frames.items))) (sym named)

  pub steps_absent : get tasks p ≡ None → machine_step (program_of program) C p ≡ IsAbsent
  steps_absent none = ap (step_at machine (program_of program) C p) (get-tasks_of program tasks p ∙ ap (option_map (task_of program.nodes)) none)

module _ (C : Config) (p : Name) (k : ℕ) (a : Act) where
  pub sends_to : (c n : Name) → kind.Send ≡ kind_of a → Some c ≡ channel_in a → get C.channels c ≡ Some None → n ≡ c → (after : Config) × (effect C p k a ≡ Moves after (step.Send n))
  sends_to c n is at got same =
      let (v, place, e) = send_effect C p k a c (Some None) is at got in
      let after : Config = record (with_task C p place k) { channels = insert C.channels c (Some v) } in
      (after, e ∙ ap (λ x. Moves after (step.Send x)) (sym same))

  pub receives_from : (c n : Name) (v : Value) → kind.Recv ≡ kind_of a → Some c ≡ channel_in a → get C.channels c ≡ Some (Some v) → n ≡ c → (after : Config) × (effect C p k a ≡ Moves after (step.Recv n))
  receives_from c n v is at got same =
      let (place, e) = recv_effect C p k a c (Some (Some v)) is at got in
      let after : Config = record (with_task C p (place v) k) { channels = remove C.channels c } in
      (after, e ∙ ap (λ x. Moves after (step.Recv x)) (sym same))

  pub waits_at : (c n : Name) → kind.Recv ≡ kind_of a → Some c ≡ channel_in a → get C.channels c ≡ Some None → n ≡ c → effect C p k a ≡ Waits n
  waits_at c n is at got same = let (place, e) = recv_effect C p k a c (Some None) is at got in e ∙ ap Waits (sym same)

  pub forks_child : (c n : Name) (parent its : Place) → a ≡ act.Fork c parent its → n ≡ c → (after : Config) × (effect C p k a ≡ Moves after (step.Fork n))
  forks_child c n parent its is same =
      let after : Config = record C {
        tasks = insert (insert C.tasks p (record { place = parent; forks = suc k })) c (record { place = its; forks = 0 });
        channels = insert C.channels c None;
      } in
      (after, ap (effect C p k) is ∙ ap (λ x. Moves after (step.Fork x)) (sym same))

  pub stuck_send : (c : Name) (v : Value) → kind.Send ≡ kind_of a → Some c ≡ channel_in a → get C.channels c ≡ Some (Some v) → effect C p k a ≡ IsStuck FullChannel
  stuck_send c u is at got = let (v, place, e) = send_effect C p k a c (Some (Some u)) is at got in e

  pub no_send : (c : Name) → kind.Send ≡ kind_of a → Some c ≡ channel_in a → get C.channels c ≡ None → effect C p k a ≡ IsStuck NoChannel
  no_send c is at got = let (v, place, e) = send_effect C p k a c None is at got in e

  pub no_receive : (c : Name) → kind.Recv ≡ kind_of a → Some c ≡ channel_in a → get C.channels c ≡ None → effect C p k a ≡ IsStuck NoChannel
  no_receive c is at got = let (place, e) = recv_effect C p k a c None is at got in e

-- what a channel has, where its map is read
pub channel_has : (C : Config) (m : BTreeMap Name (Option Stored)) (c : Name) (o : Option (Option Stored)) → C.channels ≡ map_of (option_map value_as) m → looked_up (slice_cmp nat_cmp) m c ≡ o
    → get C.channels c ≡ option_map (option_map value_as) o
channel_has C m c o read found = ap (λ x. get x c) read ∙ get-map_of (option_map value_as) m c ∙ ap (option_map (option_map value_as)) found

-- the answer of a step that prints the number
pub print_answer : (C : Config) (p : Name) (k : ℕ) (a : Act) (z y : ℤ) (s : Stepped) → kind.Print z ≡ kind_of a → ((D : Config) → step_of D s ≡ Moves D (Print y)) → z ≡ y → (after : Config) × (effect C p k a ≡ step_of after s)
print_answer C p k a z y s is shows same =
    let after : Config = record (with_task C p (place_after a) k) { prints = C.prints ++ (p, z) ∷ [] } in
    (after, print_effect C p k a z is ∙ ap (λ x. Moves after (Print x)) same ∙ sym (shows after))

module _ (C : Config) (p : Name) (k : ℕ) (a : Act) (tasks : NameMap core.Task) (channels : NameMap (Option Value)) where
  pub sends_now : (c d : Name) (v : Value) (place : Place) → a ≡ act.Send d v place → Some c ≡ channel_in a → get C.channels c ≡ Some None → tasks ≡ insert C.tasks p (record { place = place; forks = k })
      → channels ≡ insert C.channels c (Some v) → effect C p k a ≡ Moves (record { tasks = tasks; channels = channels; prints = C.prints }) (step.Send c)
  sends_now c d v place is at got ts cs =
      let ends : Some c ≡ Some d = at ∙ ap channel_in is in
      let same : d ≡ c = cc in
      ap (effect C p k) is ∙ ap (λ e. sent C p k e v place (get C.channels e)) same ∙ ap (sent C p k c v place) got
      ∙ ap (λ x. Moves (record { tasks = x; channels = insert C.channels c (Some v); prints = C.prints }) (step.Send c)) (sym ts)
      ∙ ap (λ x. Moves (record { tasks = tasks; channels = x; prints = C.prints }) (step.Send c)) (sym cs)

  pub receives_now : (c d : Name) (v : Value) (place : Value → Place) → a ≡ act.Recv d place → Some c ≡ channel_in a → get C.channels c ≡ Some (Some v)
      → tasks ≡ insert C.tasks p (record { place = place v; forks = k }) → channels ≡ remove C.channels c → effect C p k a ≡ Moves (record { tasks = tasks; channels = channels; prints = C.prints }) (step.Recv c)
  receives_now c d v place is at got ts cs =
      let ends : Some c ≡ Some d = at ∙ ap channel_in is in
      let same : d ≡ c = cc in
      ap (effect C p k) is ∙ ap (λ e. received C p k e place (get C.channels e)) same ∙ ap (received C p k c place) got
      ∙ ap (λ x. Moves (record { tasks = x; channels = remove C.channels c; prints = C.prints }) (step.Recv c)) (sym ts)
      ∙ ap (λ x. Moves (record { tasks = tasks; channels = x; prints = C.prints }) (step.Recv c)) (sym cs)

  pub forks_now : (c e : Name) (parent its : Place) → a ≡ act.Fork c parent its → eq_by_cmp (slice_cmp nat_cmp) c p ≡ false
      → tasks ≡ insert (insert C.tasks c (record { place = its; forks = 0 })) p (record { place = parent; forks = suc k })
      → channels ≡ insert C.channels c None → e ≡ c → effect C p k a ≡ Moves (record { tasks = tasks; channels = channels; prints = C.prints }) (step.Fork e)
  forks_now c e parent its is off ts cs same =
      ap (effect C p k) is
      ∙ ap (λ x. Moves (record { tasks = x; channels = insert C.channels c None; prints = C.prints }) (step.Fork c))
      (put_swapped C.tasks p c (record { place = parent; forks = suc k }) (record { place = its; forks = 0 }) off ∙ sym ts)
      ∙ ap (λ x. Moves (record { tasks = tasks; channels = x; prints = C.prints }) (step.Fork c)) (sym cs)
      ∙ ap (λ x. Moves (record { tasks = tasks; channels = channels; prints = C.prints }) (step.Fork x)) (sym same)

-- the effect of an act that prints the number, as it was made
pub prints_now : (C : Config) (p : Name) (k : ℕ) (a : Act) (tasks : NameMap core.Task) (puts : List (Name × ℤ)) (z w y : ℤ) (s : Stepped) → kind.Print z ≡ kind_of a
    → tasks ≡ insert C.tasks p (record { place = place_after a; forks = k }) → puts ≡ C.prints ++ (p, w) ∷ [] → ((D : Config) → step_of D s ≡ Moves D (Print y)) → z ≡ w → z ≡ y
    → effect C p k a ≡ step_of (record { tasks = tasks; channels = C.channels; prints = puts }) s
prints_now C p k a tasks puts z w y s is ts ps shows same other =
    let made : NameMap core.Task → List (Name × ℤ) → ℤ → Step = λ x ys v. Moves (record { tasks = x; channels = C.channels; prints = ys }) (Print v) in
    print_effect C p k a z is ∙ ap (λ v. made (insert C.tasks p (record { place = place_after a; forks = k })) (C.prints ++ (p, v) ∷ []) z) same
    ∙ ap (λ x. made x (C.prints ++ (p, w) ∷ []) z) (sym ts) ∙ ap (λ ys. made tasks ys z) (sym ps) ∙ ap (made tasks puts) other ∙ sym (shows (record { tasks = tasks; channels = C.channels; prints = puts }))

-- a send and a receive look at a channel
pub sends_somewhere : (a : Act) → kind.Send ≡ kind_of a → None ≡ channel_in a → ⊥
sends_somewhere (act.Send c v place) is none = cc
sends_somewhere (act.Recv c place) is none = cc
sends_somewhere (act.Silent place) is none = cc
sends_somewhere (act.Print z place) is none = cc
sends_somewhere (act.Fork c parent its) is none = cc
sends_somewhere act.End is none = cc
sends_somewhere act.IsEnded is none = cc
sends_somewhere (act.IsHalted why) is none = cc
sends_somewhere (act.IsStuck why) is none = cc

pub receives_somewhere : (a : Act) → kind.Recv ≡ kind_of a → None ≡ channel_in a → ⊥
receives_somewhere (act.Recv c place) is none = cc
receives_somewhere (act.Send c v place) is none = cc
receives_somewhere (act.Silent place) is none = cc
receives_somewhere (act.Print z place) is none = cc
receives_somewhere (act.Fork c parent its) is none = cc
receives_somewhere act.End is none = cc
receives_somewhere act.IsEnded is none = cc
receives_somewhere (act.IsHalted why) is none = cc
receives_somewhere (act.IsStuck why) is none = cc

-- of one task what is said of its next act holds under its name
pub acts_here : (P : Act → Type 0) (program : Parts) (m : NameMap Task) (p : Name) (t : Task) → get m p ≡ Some t → P (act_in program t)
    → (u : Task) → get m p ≡ Some u → P (act_in program u)
acts_here P program m p t found holds u there = subst (λ x. P (act_in program x)) (one_task m p t u found there) holds
