-- Which tasks move, and those that don't wait where they look.
use Rattle.std.proofs.Common.{◌≡◌, ◌⊎◌, inl, inr, ℕ, Bool, true, false, ◌&&◌, ◌||◌, List, [], ◌∷◌, ◌++◌, Option, Some, None, refl, sym, ap, ◌∙◌}
use Rattle.std.specs.Option.{option_map}
use Rattle.std.specs.Ordering.{nat_cmp}
use Rattle.std.specs.Cmp.Lexicographic.{slice_cmp}
use Rattle.std.specs.FinMap.{get}
use Rattle.std.specs.Global.{Vec}
use Rattle.std.specs.BTreeMap.{BTreeMap, get as looked_up}
use Rattle.core_language.specs.Names.{Name, same_name}
use Rattle.core_language.specs.Computing.{machine}
use Rattle.core_language.specs.Configurations.{Config}
use Rattle.core_language.specs.Acts.{Act, act_of, channel_in}
use Rattle.core_language.specs.Acts as act
use Rattle.core_language.specs.Steps.{effect, sent, received}
use Rattle.core_language.specs.Rounds.{is_move}
use Rattle.core_programs.specs.declared.nodes.Parts.{Parts}
use Rattle.core_programs.specs.Bodies.{program_of}
use Rattle.machine_rounds.specs.Local.{act_at, moves_in, looks_at}
use Rattle.machine_rounds.specs.Local as local
use Rattle.machine_rounds.specs.Sets.{has}
use Rattle.machine_rounds.proofs.Ready.{parked_more}
use Rattle.machine_values.specs.declared.values.Value.{Value}
use Rattle.machine_values.specs.Reading.{value_as}
use Rattle.machine_tasks.specs.declared.tasks.Task.{Task}
use Rattle.machine_tasks.specs.Kinds.{kind_of}
use Rattle.machine_tasks.specs.Reading.{act_in, place_of, task_of}
use Rattle.chan_machine.specs.declared.configurations.Config.{Config as Machine}
use Rattle.chan_machine.specs.declared.runs.Run.{Run}
use Rattle.chan_machine.specs.declared.runs.Seat.{Seat}
use Rattle.chan_machine.specs.Reading.{config_of, map_of, prints_of}
use Rattle.chan_machine.specs.Parking.{waits}
use Rattle.chan_machine.specs.Turning.{moves_with, run_as, Parked}
use Rattle.chan_machine.proofs.Effects.{steps_here, steps_absent, channel_has}
use Rattle.task_tables.proofs.Reading.{get-tasks_of}
use Rattle.chan_machine.proofs.Parked.{any-push, same-is, same-self}

moves_by : (C : Config) (p : Name) (k : ℕ) (a : Act) (found : Option (Option Value)) → ((c : Name) → channel_in a ≡ Some c → get C.channels c ≡ option_map (option_map value_as) found)
    → moves_with (kind_of a) found ≡ is_move (effect C p k a)
moves_by C p k (act.Silent place) found h = refl
moves_by C p k (act.Print z place) found h = refl
moves_by C p k (act.Fork c parent its) found h = refl
moves_by C p k (act.Send c v place) found h = by found ∙ ap (λ o. is_move (sent C p k c v place o)) (sym (h c refl))
  where
    by : (o : Option (Option Value)) → moves_with (kind_of (act.Send c v place)) o ≡ is_move (sent C p k c v place (option_map (option_map value_as) o))
    by (Some None) = refl
    by (Some (Some u)) = refl
    by None = refl
moves_by C p k (act.Recv c place) found h = by found ∙ ap (λ o. is_move (received C p k c place o)) (sym (h c refl))
  where
    by : (o : Option (Option Value)) → moves_with (kind_of (act.Recv c place)) o ≡ is_move (received C p k c place (option_map (option_map value_as) o))
    by (Some None) = refl
    by (Some (Some u)) = refl
    by None = refl
moves_by C p k act.End found h = refl
moves_by C p k act.IsEnded found h = refl
moves_by C p k (act.IsHalted why) found h = refl
moves_by C p k (act.IsStuck why) found h = refl

module _ (program : Parts) (config : Machine) (p : Name) where
  abbrev C : Config
  C = config_of program config

  pub moves_here : (t : Task) (found : Option (Option Value)) → get config.tasks p ≡ Some t → t.name ≡ p
      → ((c : Name) → channel_in (act_in program t) ≡ Some c → found ≡ looked_up (slice_cmp nat_cmp) config.channels c) → moves_with (kind_of (act_in program t)) found ≡ moves_in (program_of program) (record { config = C; entries = [] }) p
  moves_here t found there named has_it = moves_by C p t.forks (act_in program t) found (λ c e. channel_has C config.channels c found refl (sym (has_it c e)))
      ∙ ap is_move (sym (steps_here program config.tasks (map_of (option_map value_as) config.channels) (prints_of config.prints) p t there named))

  pub moves_absent : get config.tasks p ≡ None → false ≡ moves_in (program_of program) (record { config = C; entries = [] }) p
  moves_absent none = ap is_move (sym (steps_absent program config.tasks (map_of (option_map value_as) config.channels) (prints_of config.prints) p none))

  pub looks_here : (t : Task) → get config.tasks p ≡ Some t → t.name ≡ p → channel_in (act_in program t) ≡ channel_in (local.act_in (program_of program) C p)
  looks_here t there named = ap (λ q. channel_in (act_of machine (program_of program) q t.forks (place_of program.nodes t.frames.items))) named
      ∙ ap (λ o. channel_in (act_at (program_of program) p o)) (sym (get-tasks_of program config.tasks p ∙ ap (option_map (task_of program.nodes)) there))

  pub looks_absent : get config.tasks p ≡ None → None ≡ channel_in (local.act_in (program_of program) C p)
  looks_absent none = ap (λ o. channel_in (act_at (program_of program) p o)) (sym (get-tasks_of program config.tasks p ∙ ap (option_map (task_of program.nodes)) none))

module _ (program : Parts) (run : Run) (name : Name) (rest movers : List Name) where
  abbrev Before : BTreeMap Name (Vec Seat) → Type 0
  Before waiting = Parked program run (λ q. has (slice_cmp nat_cmp) (name ∷ rest) q || has (slice_cmp nat_cmp) movers q) waiting

  pub sorted_mover : (next : List Name) (waiting : BTreeMap Name (Vec Seat)) → next ≡ movers ++ name ∷ [] → Before waiting → Parked program run (λ q. has (slice_cmp nat_cmp) rest q || has (slice_cmp nat_cmp) next q) waiting
  sorted_mover next waiting pushed parked q dead = parked q (by (has (slice_cmp nat_cmp) rest q) (has (slice_cmp nat_cmp) movers q) (same_name q name)
      (ap (λ b. has (slice_cmp nat_cmp) rest q || b) (sym (ap (λ xs. has (slice_cmp nat_cmp) xs q) pushed ∙ any-push q name movers)) ∙ dead))
    where
      by : (a b s : Bool) → (a || (b || s)) ≡ false → ((s || a) || b) ≡ false
      by true b s e = cc
      by false true s e = cc
      by false false s e = by_last s e
        where
          by_last : (s : Bool) → s ≡ false → ((s || false) || false) ≡ false
          by_last true e = e
          by_last false e = e

  abbrev After : BTreeMap Name (Vec Seat) → Type 0
  After waiting = Parked program run (λ q. has (slice_cmp nat_cmp) rest q || has (slice_cmp nat_cmp) movers q) waiting

  out : (q : Name) → (has (slice_cmp nat_cmp) rest q || has (slice_cmp nat_cmp) movers q) ≡ false
      → ((has (slice_cmp nat_cmp) (name ∷ rest) q || has (slice_cmp nat_cmp) movers q) ≡ false) ⊎ (q ≡ name)
  out q dead = by (same_name q name) refl
    where
      by : (b : Bool) → same_name q name ≡ b → (((b || has (slice_cmp nat_cmp) rest q) || has (slice_cmp nat_cmp) movers q) ≡ false) ⊎ (q ≡ name)
      by true e = inr (same-is q name e)
      by false e = inl dead

  abbrev Still : Type 0
  Still = moves_in (program_of program) (run_as program run) name ≡ false

  pub sorted_out : (waiting : BTreeMap Name (Vec Seat)) → Still → looks_at (program_of program) (run_as program run) name ≡ None → Before waiting → After waiting
  sorted_out waiting still nowhere parked = parked_more (moves_in (program_of program)) (looks_at (program_of program)) (run_as program run) name _ _ (waits waiting) (waits waiting) still (λ c e. no c e) out (λ c q w. w) parked
    where
      no : (c : Name) → looks_at (program_of program) (run_as program run) name ≡ Some c → waits waiting c name ≡ true
      no c e = let both = sym nowhere ∙ e in cc

  pub sorted_waiting : (waiting later : BTreeMap Name (Vec Seat)) (channel : Name) → Still → looks_at (program_of program) (run_as program run) name ≡ Some channel
      → ((c q : Name) → waits later c q ≡ (waits waiting c q || (same_name c channel && same_name q name))) → Before waiting → After later
  sorted_waiting waiting later channel still at put parked =
      parked_more (moves_in (program_of program)) (looks_at (program_of program)) (run_as program run) name _ _ (waits waiting) (waits later) still here out (λ c q w. put c q ∙ early (waits waiting c q) _ w) parked
    where
      early : (a b : Bool) → a ≡ true → (a || b) ≡ true
      early true b e = refl
      early false b e = cc

      last : (a b c : Bool) → b ≡ true → c ≡ true → (a || (b && c)) ≡ true
      last true b c e f = refl
      last false true c e f = f
      last false false c e f = e

      here : (c : Name) → looks_at (program_of program) (run_as program run) name ≡ Some c → waits later c name ≡ true
      here c e =
          let both = sym at ∙ e in
          let is : channel ≡ c = cc in
          put c name ∙ last (waits waiting c name) (same_name c channel) (same_name name name) (ap (same_name c) is ∙ same-self c) (same-self name)
