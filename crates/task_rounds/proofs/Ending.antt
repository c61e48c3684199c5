-- Runs of well-behaved programs end well.
use Rattle.std.proofs.Common.{◌≡◌, ◌⊎◌, inl, inr, ℕ, Bool, true, false, cond, not, ◌&&◌, if◌then◌else◌, List, [], ◌∷◌, map, filter, Option, Some, None, is_some, refl, sym, ap, subst, ◌∙◌}
use Rattle.std.specs.List.{list_any}
use Rattle.std.specs.List.Sorted.{IsStrictlySortedBy}
use Rattle.std.specs.Ordering.{nat_cmp}
use Rattle.std.specs.Cmp.Lexicographic.{slice_cmp}
use Rattle.std.specs.FinMap.{find, get, entries, entries_sorted, keys, get-entries, contains_key-keys}
use Rattle.std.proofs.lemmas.Bool.{or_left, and_from}
use Rattle.core_language.specs.Names.{Name, same_name}
use Rattle.core_language.specs.Values.{Value}
use Rattle.core_language.specs.Programs.{Program}
use Rattle.core_language.specs.Computing.{Halt, Range, Depth, StuckWhy, unbounded}
use Rattle.core_language.specs.Configurations.{Config, Task}
use Rattle.core_language.specs.Acts.{Act, act_of}
use Rattle.core_language.specs.Acts as act
use Rattle.core_language.specs.Steps.{Step, Moves, Waits, IsEnded, IsAbsent, IsHalted, IsStuck, effect, sent, received, step, step_at, machine_step}
use Rattle.core_language.specs.Schedules.{IsMove, IsLive}
use Rattle.core_language.specs.Rounds.{is_move, moves, movers, run_of}
use Rattle.core_language.specs.Endings.{Ending, Finished, OutOfRange, TooDeep, is_ended, unended, stuck_why, is_range, is_depth, blocked, moving, too_deep, out_of_range, stuck_or, stuck, is_nil, ending_of}
use Rattle.core_language.proofs.Halting.{halts_or_steps}
use Rattle.machine_rounds.proofs.Rounded.{same-self, same-is, keys_ascend, first_is_least, rest_ascends}
use Rattle.task_rounds.specs.Members.{In}
use Rattle.task_rounds.specs.Reaching.{NeverSticks}
use Rattle.task_rounds.specs.Ending.{IsUnstuck, IsGood, EndsUnstuck, EndsWell}
use Rattle.task_rounds.proofs.Members.{any_member, member_any, in_filter}
use Rattle.task_rounds.proofs.Reaching.{not_stuck}
use Rattle.task_rounds.proofs.Forking.{ends_only_ended}
use Rattle.task_rounds.proofs.Runs.{is_run}

-- ---- entries of maps

in_map : {X : Type 0} (e : Name × X) (es : List (Name × X)) → In e es → In e.0 (map (λ x. x.0) es)
in_map e (f ∷ es) (inl is) = inl (ap (λ x. x.0) is)
in_map e (f ∷ es) (inr h) = inr (in_map e es h)
in_map e [] h = absurd h

entry_found : {X : Type 0} (e : Name × X) (es : List (Name × X)) → IsStrictlySortedBy (slice_cmp nat_cmp) (map (λ x. x.0) es) → In e es → find (slice_cmp nat_cmp) e.0 es ≡ Some e.1
entry_found e [] sorted h = absurd h
entry_found e (f ∷ es) sorted (inl is) = ap (λ b. cond b (Some f.1) (find (slice_cmp nat_cmp) e.0 es)) (ap (λ x. same_name e.0 x.0) (sym is) ∙ same-self e.0) ∙ ap (λ x. Some x.1) (sym is)
entry_found e (f ∷ es) sorted (inr h) = by (same_name e.0 f.0) refl (entry_found e es (rest_ascends f.0 (map (λ x. x.0) es) sorted) h)
  where
    by : (b : Bool) → same_name e.0 f.0 ≡ b → find (slice_cmp nat_cmp) e.0 es ≡ Some e.1 → cond b (Some f.1) (find (slice_cmp nat_cmp) e.0 es) ≡ Some e.1
    by false g rest = rest
    by true g rest =
        let there : list_any (same_name f.0) (map (λ x. x.0) es) ≡ true = member_any (same_name f.0) e.0 (map (λ x. x.0) es) (in_map e es h) (ap (λ n. same_name n e.0) (sym (same-is e.0 f.0 g)) ∙ same-self e.0) in
        let both = sym there ∙ first_is_least f.0 (map (λ x. x.0) es) sorted in
        let bad : ⊥ = cc in
        absurd bad

none_left : (es : List (Name × Task)) → ((e : Name × Task) → In e es → is_ended e.1.place ≡ true) → is_nil (map (λ e. e.0) (filter (λ e. not (is_ended e.1.place)) es)) ≡ true
none_left [] all = refl
none_left (e ∷ es) all = by (is_ended e.1.place) (all e (inl refl)) (none_left es (λ f h. all f (inr h)))
  where
    by : (b : Bool) → b ≡ true → is_nil (map (λ e. e.0) (filter (λ e. not (is_ended e.1.place)) es)) ≡ true
        → is_nil (map (λ e. e.0) (cond (not b) (e ∷ filter (λ e. not (is_ended e.1.place)) es) (filter (λ e. not (is_ended e.1.place)) es))) ≡ true
    by true g rest = rest
    by false g rest = let bad : ⊥ = cc in absurd bad

-- ---- the cases of the ending

module _ (program : Program) (C : Config) where
  -- no name that isn't stuck changes the ending
  skips_stuck : ((p : Name) (why : StuckWhy) → machine_step program C p ≡ IsStuck why → ⊥) → (ps : List Name) (other : Ending) → stuck program C ps other ≡ other
  skips_stuck never [] other = refl
  skips_stuck never (p ∷ ps) other = by (machine_step program C p) refl (skips_stuck never ps other)
    where
      by : (s : Step) → machine_step program C p ≡ s → stuck program C ps other ≡ other → stuck_or p (stuck_why s) (stuck program C ps other) ≡ other
      by (IsStuck why) e rest = absurd (never p why e)
      by (Moves D event) e rest = rest
      by (Waits c) e rest = rest
      by IsEnded e rest = rest
      by IsAbsent e rest = rest
      by (IsHalted why) e rest = rest

  more : (test : Step → Bool) (p : Name) (ps : List Name) → test (machine_step program C p) ≡ false → ((q : Name) → In q ps → test (machine_step program C q) ≡ false) → (q : Name) → In q (p ∷ ps) → test (machine_step program C q) ≡ false
  more test p ps first rest q (inl is) = ap (λ r. test (machine_step program C r)) is ∙ first
  more test p ps first rest q (inr h) = rest q h

  by_range : (Good : Ending → Type 0) → ((p : Name) → Good (OutOfRange p)) → (ps : List Name) (other : Ending) → (((q : Name) → In q ps → is_range (machine_step program C q) ≡ false) → Good other) → Good (out_of_range program C ps other)
  by_range Good good [] other onwards = onwards (λ q h. absurd h)
  by_range Good good (p ∷ ps) other onwards = by (is_range (machine_step program C p)) refl (by_range Good good ps other)
    where
      by : (b : Bool) → is_range (machine_step program C p) ≡ b → ((((q : Name) → In q ps → is_range (machine_step program C q) ≡ false) → Good other) → Good (out_of_range program C ps other)) → Good (if b then OutOfRange p else out_of_range program C ps other)
      by true e rest = good p
      by false e rest = rest (λ none. onwards (more is_range p ps e none))

  by_depth : (Good : Ending → Type 0) → ((p : Name) → Good (TooDeep p)) → (ps : List Name) (other : Ending) → (((q : Name) → In q ps → is_depth (machine_step program C q) ≡ false) → Good other) → Good (too_deep program C ps other)
  by_depth Good good [] other onwards = onwards (λ q h. absurd h)
  by_depth Good good (p ∷ ps) other onwards = by (is_depth (machine_step program C p)) refl (by_depth Good good ps other)
    where
      by : (b : Bool) → is_depth (machine_step program C p) ≡ b → ((((q : Name) → In q ps → is_depth (machine_step program C q) ≡ false) → Good other) → Good (too_deep program C ps other)) → Good (if b then TooDeep p else too_deep program C ps other)
      by true e rest = good p
      by false e rest = rest (λ none. onwards (more is_depth p ps e none))

  unstuck_moving : (ps : List Name) → IsUnstuck (moving C ps)
  unstuck_moving (p ∷ ps) = tt
  unstuck_moving [] = by (unended C)
    where
      by : (us : List Name) → IsUnstuck (blocked us (keys C.channels))
      by [] = tt
      by (u ∷ us) = tt

  module _ (never : (p : Name) (why : StuckWhy) → machine_step program C p ≡ IsStuck why → ⊥) where
    pub unstuck : IsUnstuck (ending_of program C)
    unstuck = by (is_nil (unended C) && is_nil (keys C.channels))
      where
        by : (b : Bool) → IsUnstuck (if b then Finished else stuck program C (keys C.tasks) (out_of_range program C (keys C.tasks) (too_deep program C (keys C.tasks) (moving C (movers program C)))))
        by true = tt
        by false = subst IsUnstuck (sym (skips_stuck never (keys C.tasks) _)) (by_range IsUnstuck (λ p. tt) (keys C.tasks) _ (λ no_range. by_depth IsUnstuck (λ p. tt) (keys C.tasks) _ (λ no_depth. unstuck_moving (movers program C))))

    -- ---- a configuration that is live

    in_keys : (p : Name) (t : Task) → get C.tasks p ≡ Some t → In p (keys C.tasks)
    in_keys p t there =
        let (r, h, same_name) = any_member (same_name p) (keys C.tasks) (sym (contains_key-keys C.tasks p) ∙ ap is_some there) in
        subst (λ s. In s (keys C.tasks)) (sym (same-is p r same_name)) h

    module _ (no_range : (q : Name) → In q (keys C.tasks) → is_range (machine_step program C q) ≡ false) (no_depth : (q : Name) → In q (keys C.tasks) → is_depth (machine_step program C q) ≡ false) where
      -- no task halts
      not_halted : (p : Name) (t : Task) (why : Halt) → get C.tasks p ≡ Some t → machine_step program C p ≡ IsHalted why → ⊥
      not_halted p t Range there e = let both = sym (ap is_range e) ∙ no_range p (in_keys p t there) in cc
      not_halted p t Depth there e = let both = sym (ap is_depth e) ∙ no_depth p (in_keys p t there) in cc

      moves_if : (p : Name) → IsMove (step program C p) → In p (movers program C)
      moves_if p move = by (get C.tasks p) refl
        where
          by : (o : Option Task) → get C.tasks p ≡ o → In p (movers program C)
          by None e = absurd (subst IsMove (ap (step_at unbounded program C p) e) move)
          by (Some t) e = in_filter (moves program C) p (keys C.tasks) (in_keys p t e) (of_step (halts_or_steps program C p))
            where
              moving_step : (s : Step) → IsMove s → is_move s ≡ true
              moving_step (Moves D event) m = refl
              moving_step (Waits c) m = absurd m
              moving_step IsEnded m = absurd m
              moving_step IsAbsent m = absurd m
              moving_step (IsHalted why) m = absurd m
              moving_step (IsStuck why) m = absurd m

              of_step : ((why : Halt) × (machine_step program C p ≡ IsHalted why)) ⊎ (machine_step program C p ≡ step program C p) → moves program C p ≡ true
              of_step (inl (why, halts)) = absurd (not_halted p t why e halts)
              of_step (inr steps) = ap is_move steps ∙ moving_step (step program C p) move

      -- the effect of an act is that of an ended task only where the act is
      ended_effect : (p : Name) (k : ℕ) (a : Act) → effect C p k a ≡ IsEnded → a ≡ act.IsEnded
      ended_effect p k (act.Silent place) e = let bad : ⊥ = cc in absurd bad
      ended_effect p k (act.Print z place) e = let bad : ⊥ = cc in absurd bad
      ended_effect p k (act.Fork c parent its) e = let bad : ⊥ = cc in absurd bad
      ended_effect p k (act.Send c v place) e = by (get C.channels c) e
        where
          by : (o : Option (Option Value)) → sent C p k c v place o ≡ IsEnded → act.Send c v place ≡ act.IsEnded
          by (Some None) e = let bad : ⊥ = cc in absurd bad
          by (Some (Some u)) e = let bad : ⊥ = cc in absurd bad
          by None e = let bad : ⊥ = cc in absurd bad
      ended_effect p k (act.Recv c place) e = by (get C.channels c) e
        where
          by : (o : Option (Option Value)) → received C p k c place o ≡ IsEnded → act.Recv c place ≡ act.IsEnded
          by (Some None) e = let bad : ⊥ = cc in absurd bad
          by (Some (Some u)) e = let bad : ⊥ = cc in absurd bad
          by None e = let bad : ⊥ = cc in absurd bad
      ended_effect p k act.End e = let bad : ⊥ = cc in absurd bad
      ended_effect p k act.IsEnded e = refl
      ended_effect p k (act.IsHalted why) e = let bad : ⊥ = cc in absurd bad
      ended_effect p k (act.IsStuck why) e = let bad : ⊥ = cc in absurd bad

      all_ended : ((p : Name) → (step program C p ≡ IsEnded) ⊎ (step program C p ≡ IsAbsent)) → is_nil (unended C) ≡ true
      all_ended ended = of_entries (entries C.tasks) each
        where
          of_task : (e : Name × Task) → get C.tasks e.0 ≡ Some e.1 → is_ended e.1.place ≡ true
          of_task e there = by (ended e.0)
            where
              step_is : step program C e.0 ≡ effect C e.0 e.1.forks (act_of unbounded program e.0 e.1.forks e.1.place)
              step_is = ap (step_at unbounded program C e.0) there

              not_absent : (a : Act) → effect C e.0 e.1.forks a ≡ IsAbsent → ⊥
              not_absent (act.Silent place) g = cc
              not_absent (act.Print z place) g = cc
              not_absent (act.Fork c parent its) g = cc
              not_absent (act.Send c v place) g = of_channel (get C.channels c) g
                where
                  of_channel : (o : Option (Option Value)) → sent C e.0 e.1.forks c v place o ≡ IsAbsent → ⊥
                  of_channel (Some None) g = cc
                  of_channel (Some (Some u)) g = cc
                  of_channel None g = cc
              not_absent (act.Recv c place) g = of_channel (get C.channels c) g
                where
                  of_channel : (o : Option (Option Value)) → received C e.0 e.1.forks c place o ≡ IsAbsent → ⊥
                  of_channel (Some None) g = cc
                  of_channel (Some (Some u)) g = cc
                  of_channel None g = cc
              not_absent act.End g = cc
              not_absent act.IsEnded g = cc
              not_absent (act.IsHalted why) g = cc
              not_absent (act.IsStuck why) g = cc

              by : (step program C e.0 ≡ IsEnded) ⊎ (step program C e.0 ≡ IsAbsent) → is_ended e.1.place ≡ true
              by (inl is) = ends_only_ended unbounded program e.0 e.1.forks e.1.place (ended_effect e.0 e.1.forks _ (sym step_is ∙ is))
              by (inr is) = absurd (not_absent _ (sym step_is ∙ is))

          each : (e : Name × Task) → In e (entries C.tasks) → is_ended e.1.place ≡ true
          each e h = of_task e (get-entries C.tasks e.0 ∙ entry_found e (entries C.tasks) (keys_ascend (entries C.tasks) (entries_sorted C.tasks)) h)

          of_entries : (es : List (Name × Task)) → ((e : Name × Task) → In e es → is_ended e.1.place ≡ true) → is_nil (map (λ e. e.0) (filter (λ e. not (is_ended e.1.place)) es)) ≡ true
          of_entries es all = none_left es all

      no_channels : ((c : Name) → get C.channels c ≡ None) → is_nil (keys C.channels) ≡ true
      no_channels none = by (keys C.channels) refl
        where
          by : (cs : List Name) → keys C.channels ≡ cs → is_nil cs ≡ true
          by [] e = refl
          by (c ∷ cs) e =
              let there : list_any (same_name c) (keys C.channels) ≡ true = ap (list_any (same_name c)) e ∙ or_left (same_name c c) (list_any (same_name c) cs) (same-self c) in
              let both = sym there ∙ sym (contains_key-keys C.channels c) ∙ ap is_some (none c) in
              let bad : ⊥ = cc in
              absurd bad

      good_moving : IsLive program C → is_nil (unended C) && is_nil (keys C.channels) ≡ false → IsGood (moving C (movers program C))
      good_moving live left = of_live live
        where
          rounds : (ps : List Name) (p : Name) → In p ps → IsGood (moving C ps)
          rounds [] p h = absurd h
          rounds (q ∷ ps) p h = tt

          of_live : IsLive program C → IsGood (moving C (movers program C))
          of_live (inl (p, move)) = rounds (movers program C) p (moves_if p move)
          of_live (inr (ended, none)) =
              let both = sym left ∙ and_from (is_nil (unended C)) (is_nil (keys C.channels)) (all_ended ended) (no_channels none) in
              let bad : ⊥ = cc in
              absurd bad

    pub well : IsLive program C → IsGood (ending_of program C)
    well live = by (is_nil (unended C) && is_nil (keys C.channels)) refl
      where
        by : (b : Bool) → is_nil (unended C) && is_nil (keys C.channels) ≡ b → IsGood (if b then Finished else stuck program C (keys C.tasks) (out_of_range program C (keys C.tasks) (too_deep program C (keys C.tasks) (moving C (movers program C)))))
        by true e = tt
        by false e = subst IsGood (sym (skips_stuck never (keys C.tasks) _)) (by_range IsGood (λ p. tt) (keys C.tasks) _ (λ no_range. by_depth IsGood (λ p. tt) (keys C.tasks) _ (λ no_depth. good_moving no_range no_depth live e)))

never_at : (program : Program) (t : ℕ) → NeverSticks program → (p : Name) (why : StuckWhy) → machine_step program (run_of program t).config p ≡ IsStuck why → ⊥
never_at program t never p why e = not_stuck program never (run_of program t).config p why (is_run program t).reached e

pub ends_unstuck : EndsUnstuck
ends_unstuck program t never = unstuck program (run_of program t).config (never_at program t never)

pub ends_well : EndsWell
ends_well program t never goes_on = well program (run_of program t).config (never_at program t never)
    (subst (IsLive program) (is_run program t).reached.is (goes_on.live (is_run program t).reached.schedule))
