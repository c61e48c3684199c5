-- Where a schedule ends, the round run of as many rounds has ended there, with the same prints of each task.
use Rattle.std.proofs.Common.{◌≡◌, ◌≢◌, ℕ, zero, suc, ◌+◌, ◌≤◌, ℤ, Bool, true, false, cond, if◌then◌else◌, not, ◌&&◌, List, [], ◌∷◌, ◌++◌, length, append-nil, filter, map, Option, Some, None, is_some, refl, ap, sym, subst, ◌∙◌, ◌⊎◌, inl, inr, arith}
use Rattle.std.specs.Ordering.{nat_cmp, eq_by_cmp}
use Rattle.std.specs.Cmp.Lexicographic.{slice_cmp}
use Rattle.std.specs.List.{flat_map}
use Rattle.std.specs.FinMap.{get, keys, entries, get-entries, find}
use Rattle.core_language.specs.Names.{Name, same_name}
use Rattle.core_language.specs.Programs.{Program}
use Rattle.core_language.specs.Computing.{machine, unbounded, Halt}
use Rattle.core_language.specs.Configurations.{Config, Place, Task, start}
use Rattle.core_language.specs.Configurations as place
use Rattle.core_language.specs.Steps.{Event, Step, Moves, Waits, IsEnded, IsAbsent, IsHalted, IsStuck, step, step_at, machine_step, after_step}
use Rattle.core_language.specs.Schedules.{after, steps_from, IsMove, IsLive}
use Rattle.core_language.specs.Rounds.{Run, is_move, run_of, printed}
use Rattle.core_language.specs.Endings.{Finished, is_ended, unended, is_nil, ending_of}
use Rattle.core_language.proofs.Halting.{halts_or_steps}
use Rattle.orders.specs.Paths.{Path, Final, own}
use Rattle.orders.proofs.Paths.{any_run, Rest}
use Rattle.graphs.proofs.Live.{has}
use Rattle.moved_uses.proofs.Bags.{name-is, name-self}
use Rattle.good_configurations.specs.Acts.{Typing}
use Rattle.good_configurations.specs.Good.{Good}
use Rattle.good_steps.proofs.Keeping.{with_prints}
use Rattle.good_steps.proofs.Kept.{ActsFit, step_fine, steps_good}
use Rattle.good_orders.specs.Changes.{State, state_of, config_of, moved_to, step_state}
use Rattle.good_orders.proofs.Changing.{none_some}
use Rattle.good_orders.proofs.Commuting.{commute, machine_fits}
use Rattle.good_progress.proofs.Keys.{has-keys}
use Rattle.good_progress.proofs.Progress.{good_live}
use Rattle.one_answer.specs.Following.{NoneHalts, moves_along, prints_by, prints_in}
use Rattle.one_answer.proofs.Paths.{printed_by, Followed, followed, Turned, rounds-turned, unmoved-of}

-- ---- who has ended

ended-entry : (es : List (Name × Task)) → map (λ e. e.0) (filter (λ e. not (is_ended e.1.place)) es) ≡ [] → (q : Name) (t : Task) → find (slice_cmp nat_cmp) q es ≡ Some t → is_ended (t.place) ≡ true
ended-entry [] none q t e = none_some e
ended-entry (d ∷ es) none q t e = go (is_ended (d.1.place)) refl none (eq_by_cmp (slice_cmp nat_cmp) q d.0) e (ended-entry es)
  where
    one : {a b : Task} → Some a ≡ Some b → a ≡ b
    one e = cc

    go : (b : Bool) → is_ended (d.1.place) ≡ b → map (λ e. e.0) (cond (not b) (d ∷ filter (λ e. not (is_ended e.1.place)) es) (filter (λ e. not (is_ended e.1.place)) es)) ≡ [] → (f : Bool) → cond f (Some d.1) (find (slice_cmp nat_cmp) q es) ≡ Some t
        → (map (λ e. e.0) (filter (λ e. not (is_ended e.1.place)) es) ≡ [] → (q : Name) (t : Task) → find (slice_cmp nat_cmp) q es ≡ Some t → is_ended (t.place) ≡ true) → is_ended (t.place) ≡ true
    go false h none f e ih = cc
    go true h none true e ih = ap (λ z. is_ended (z.place)) (sym (one e)) ∙ h
    go true h none false e ih = ih none q t e

-- a task that has ended doesn't move
ended-still : (P : Program) (C : Config) → unended C ≡ [] → (p : Name) → (is_move (machine_step P C p) ≡ false) × (IsMove (step P C p) → ⊥)
ended-still P C none p = go (get (C.tasks) p) refl
  where
    by_place : (t : Task) (pl : Place) → t.place ≡ pl → is_ended pl ≡ true → (is_move (step_at machine P C p (Some t)) ≡ false) × (IsMove (step_at unbounded P C p (Some t)) → ⊥)
    by_place t place.Ended is h = (rw is refl, rw is (λ m. m))
    by_place t (place.Running rest env callers) is h = cc

    go : (o : Option Task) → get (C.tasks) p ≡ o → (is_move (step_at machine P C p o) ≡ false) × (IsMove (step_at unbounded P C p o) → ⊥)
    go None e = (refl, λ m. m)
    go (Some t) e = by_place t (t.place) refl (ended-entry (entries (C.tasks)) none p t (sym (get-entries (C.tasks) p) ∙ e))

pub no-keys : (C : Config) → ((c : Name) → get (C.channels) c ≡ None) → keys (C.channels) ≡ []
no-keys C none = go (keys (C.channels)) refl
  where
    go : (xs : List Name) → keys (C.channels) ≡ xs → xs ≡ []
    go [] e = refl
    go (x ∷ xs) e = absurd (apart (sym (has-keys (C.channels) x) ∙ ap (λ z. has same_name z x) e ∙ rw (name-self x) refl) (ap is_some (none x)))
      where
        apart : is_some (get (C.channels) x) ≡ true → is_some (get (C.channels) x) ≡ false → ⊥
        apart e f = cc

module _ (P : Program) (Typed : Typing) (fits : ActsFit P Typed) (ended : Typed place.Ended []) (start_good : Good (P.protos) Typed (start P)) where
  abbrev GoodState : State → Type 0
  GoodState s = Good (P.protos) Typed (config_of s)

  pub keeps : (s : State) (p : Name) (t : State) (e : Event) → GoodState s → step_state machine P s p ≡ Some (t, e) → GoodState t
  keeps s p t e good h = by (halts_or_steps P (config_of s) p)
    where
      pair_same : {x y : State × Event} → Some x ≡ Some y → x ≡ y
      pair_same e = cc

      from_step : (o : Step) → Good (P.protos) Typed (after_step (config_of s) o) → moved_to o ≡ Some (t, e) → GoodState t
      from_step (Moves D f) good h = subst GoodState (ap (λ z. z.0) (pair_same h)) (with_prints (P.protos) Typed D [] good)
      from_step (Waits c) good h = none_some h
      from_step IsEnded good h = none_some h
      from_step IsAbsent good h = none_some h
      from_step (IsHalted why) good h = none_some h
      from_step (IsStuck why) good h = none_some h

      by : ((why : Halt) × (machine_step P (config_of s) p ≡ IsHalted why)) ⊎ (machine_step P (config_of s) p ≡ step P (config_of s) p) → GoodState t
      by (inl (why, halted)) = none_some (sym (ap moved_to halted) ∙ h)
      by (inr same) = from_step (step P (config_of s) p) ((step_fine P Typed fits ended (config_of s) good p).0) (ap moved_to (sym same) ∙ h)

  diamond : (s : State) (p q : Name) (t u : State) (e f : Event) → GoodState s → (p ≡ q → ⊥) → step_state machine P s p ≡ Some (t, e) → step_state machine P s q ≡ Some (u, f) → (v : State) × (step_state machine P t q ≡ Some (v, f)) × (step_state machine P u p ≡ Some (v, e))
  diamond s p q t u e f good apart h h' = commute machine P Typed (machine_fits P Typed fits) s good p q t u e f apart h h'

  -- the round run has come to the end of the schedule, with the same prints
  same-end : (schedule : List Name) → NoneHalts P (start P) schedule → unended (after P schedule) ≡ []
      → (state_of (run_of P (moves_along P (start P) schedule)).config ≡ state_of (after P schedule))
      × ((q : Name) → prints_by q ((after P schedule).prints) ≡ prints_in q ((run_of P (moves_along P (start P) schedule)).entries))
  unfolding run_of
  same-end schedule halts none = go (followed P (start P) schedule halts)
    where
      final : Final (step_state machine P) (state_of (after P schedule))
      final p = unmoved-of P (after P schedule) p ((ended-still P (after P schedule) none p).0)

      go : Followed P (start P) schedule → (state_of (run_of P (moves_along P (start P) schedule)).config ≡ state_of (after P schedule)) × ((q : Name) → prints_by q ((after P schedule).prints) ≡ prints_in q ((run_of P (moves_along P (start P) schedule)).entries))
      go f = by (rounds-turned P (moves_along P (start P) schedule))
        where
          by : (x : Turned P (run_of P 0) (run_of P (moves_along P (start P) schedule))) × ((moves_along P (start P) schedule ≤ length (x.names)) ⊎ Final (step_state machine P) (state_of (run_of P (moves_along P (start P) schedule)).config)) → (state_of (run_of P (moves_along P (start P) schedule)).config ≡ state_of (after P schedule)) × ((q : Name) → prints_by q ((after P schedule).prints) ≡ prints_in q ((run_of P (moves_along P (start P) schedule)).entries))
          by (x, either) = last (any_run (step_state machine P) same_name name-is name-self GoodState keeps diamond (x.names) (f.names) (state_of (start P)) (state_of (after P schedule)) (state_of (run_of P (moves_along P (start P) schedule)).config) (f.events) (x.events) (with_prints (P.protos) Typed (start P) [] start_good) (f.path) final (x.path))
            where
              done : (rest : List Name) (gs : List (Name × Event)) → rest ≡ [] → Path (step_state machine P) (state_of (run_of P (moves_along P (start P) schedule)).config) rest (state_of (after P schedule)) gs → ((r : Name) → own same_name r (f.events) ≡ own same_name r (x.events) ++ own same_name r gs)
                  → (state_of (run_of P (moves_along P (start P) schedule)).config ≡ state_of (after P schedule)) × ((q : Name) → prints_by q ((after P schedule).prints) ≡ prints_in q ((run_of P (moves_along P (start P) schedule)).entries))
              done [] gs empty (same, no_events) owns = (sym same, λ q. f.prints q ∙ ap (flat_map (λ e. printed e.1)) (owns q ∙ ap (λ z. own same_name q (x.events) ++ own same_name q z) no_events ∙ append-nil (own same_name q (x.events))) ∙ sym (x.prints q))
              done (r ∷ rest) gs empty path owns = cc

              none_left : (rest : List Name) (gs : List (Name × Event)) → Path (step_state machine P) (state_of (run_of P (moves_along P (start P) schedule)).config) rest (state_of (after P schedule)) gs → length (f.names) ≡ length (x.names) + length rest → (moves_along P (start P) schedule ≤ length (x.names)) ⊎ Final (step_state machine P) (state_of (run_of P (moves_along P (start P) schedule)).config) → rest ≡ []
              none_left [] gs path count either = refl
              none_left (r ∷ rest) gs path count (inl le) = absurd (omega (arith, f.many, count, le))
              none_left (r ∷ rest) gs (u, e, hs, h, more, is) count (inr stop) = none_some (sym (stop r) ∙ h)

              last : Rest (step_state machine P) same_name name-is name-self GoodState keeps diamond (state_of (run_of P (moves_along P (start P) schedule)).config) (length (f.names)) (length (x.names)) (state_of (after P schedule)) (f.events) (x.events) → (state_of (run_of P (moves_along P (start P) schedule)).config ≡ state_of (after P schedule)) × ((q : Name) → prints_by q ((after P schedule).prints) ≡ prints_in q ((run_of P (moves_along P (start P) schedule)).entries))
              last (rest, gs, path, count, owns) = done rest gs (none_left rest gs path count either) path owns

  -- one answer for all schedules
  pub one_answer : (schedule : List Name) → NoneHalts P (start P) schedule → unended (after P schedule) ≡ []
      → (ending_of P (run_of P (moves_along P (start P) schedule)).config ≡ Finished)
      × ((q : Name) → prints_by q ((after P schedule).prints) ≡ prints_in q ((run_of P (moves_along P (start P) schedule)).entries))
  one_answer schedule halts none = (finished, x.1)
    where
      x : (state_of (run_of P (moves_along P (start P) schedule)).config ≡ state_of (after P schedule)) × ((q : Name) → prints_by q ((after P schedule).prints) ≡ prints_in q ((run_of P (moves_along P (start P) schedule)).entries))
      x = same-end schedule halts none

      no_task : unended ((run_of P (moves_along P (start P) schedule)).config) ≡ []
      no_task = ap (λ z. unended (config_of z)) (x.0) ∙ none

      good : Good (P.protos) Typed (after P schedule)
      good = steps_good P Typed fits ended (start P) schedule start_good

      nothing_there : IsLive P (after P schedule) → (c : Name) → get ((after P schedule).channels) c ≡ None
      nothing_there (inl (p, moves)) = absurd ((ended-still P (after P schedule) none p).1 moves)
      nothing_there (inr (all, channels)) = channels

      no_channel : keys ((run_of P (moves_along P (start P) schedule)).config.channels) ≡ []
      no_channel = ap (λ z. keys (z.channels)) (x.0) ∙ no-keys (after P schedule) (nothing_there (good_live P Typed fits (after P schedule) good (λ p. (step_fine P Typed fits ended (after P schedule) good p).1)))

      finished : ending_of P (run_of P (moves_along P (start P) schedule)).config ≡ Finished
      finished = rw (no_task, no_channel) refl
