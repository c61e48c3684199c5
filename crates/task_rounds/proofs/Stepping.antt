-- One round of the round run, for one task and for one channel.
use Rattle.std.proofs.Common.{◌≡◌, ◌⊎◌, inl, inr, ℕ, suc, Bool, true, false, ◌||◌, [], ◌++◌, Some, None, is_some, refl, sym, ap, subst, ◌∙◌}
use Rattle.std.specs.List.{list_any}
use Rattle.std.specs.FinMap.{get}
use Rattle.std.proofs.lemmas.Bool.{false_from_ne_true}
use Rattle.core_language.specs.Names.{Name, child, same_name}
use Rattle.core_language.specs.Values.{Value}
use Rattle.core_language.specs.Programs.{Program}
use Rattle.core_language.specs.Computing.{machine}
use Rattle.core_language.specs.Configurations.{Config, Place, Task}
use Rattle.core_language.specs.Acts.{Act, act_of}
use Rattle.core_language.specs.Acts as act
use Rattle.core_language.specs.Steps.{Event, Recv, machine_step, after_step}
use Rattle.core_language.specs.Rounds.{Entry, Run, is_move, movers, event_entries, step_entries, round, run_of}
use Rattle.machine_rounds.specs.Local.{act_at, act_in, alters, uses}
use Rattle.machine_rounds.proofs.Rounded.{same-self, same-is}
use Rattle.task_rounds.specs.Members.{In}
use Rattle.task_rounds.specs.Reaching.{NeverSticks}
use Rattle.task_rounds.specs.Telling.{is_receive_on, was_received}
use Rattle.task_rounds.specs.Tasks.{placed, own, task_after, channel_after, entries_after}
use Rattle.task_rounds.proofs.Members.{any_member, member_any, in_right}
use Rattle.task_rounds.proofs.Names.{put_here}
use Rattle.task_rounds.proofs.Own.{own_none, from_own}
use Rattle.task_rounds.proofs.Forking.{names_its_child}
use Rattle.task_rounds.proofs.Moving.{Moved, ByItself, Prints, Forks, Sends, Receives, Ends, mover}
use Rattle.task_rounds.proofs.Runs.{IsRun, is_run}
use Rattle.task_rounds.proofs.Apart.{IsMover, altered, free_name, free_channel}
use Rattle.task_rounds.proofs.Turning as of_round

module _ (program : Program) (never : NeverSticks program) (t : ℕ) where
  abbrev pub before : Run
  before = run_of program t

  one_round : run_of program (suc t) ≡ round program (suc t) (run_of program t)
  unfolding run_of
  one_round = refl

  good : IsRun program (run_of program t)
  good = is_run program t

  abbrev pub Mover : Name → Type 0
  Mover q = IsMover program (run_of program t).config q

  -- some mover passes the test, or none does
  some_mover : (test : Name → Bool) → ((q : Name) × Mover q × (test q ≡ true)) ⊎ ((q : Name) → Mover q → test q ≡ false)
  some_mover test = by (list_any test (movers program (run_of program t).config)) refl
    where
      by : (b : Bool) → list_any test (movers program (run_of program t).config) ≡ b → ((q : Name) × Mover q × (test q ≡ true)) ⊎ ((q : Name) → Mover q → test q ≡ false)
      by true found =
          let (q, h, passes) = any_member test (movers program (run_of program t).config) found in
          inl (q, of_round.are_movers program (suc t) (run_of program t) (is_run program t) never q h, passes)
      by false none = inr (λ q m. false_from_ne_true (test q) (λ e. let both = sym (member_any test q _ (of_round.is_listed program (suc t) (run_of program t) (is_run program t) never q m) e) ∙ none in cc))

  -- ---- a task that moves

  module _ (p : Name) (m : IsMover program (run_of program t).config p) where
    moved_config : after_step (run_of program t).config (machine_step program (run_of program t).config p) ≡ m.next
    moved_config = ap (after_step (run_of program t).config) m.is

    pub moved_task : (x : Name) → alters p (act_in program (run_of program t).config p) x ≡ true → task_after program (suc t) x ≡ get m.next.tasks x
    moved_task x h =
        ap (λ (r : Run). get r.config.tasks x) one_round
        ∙ of_round.round_alters_task program (suc t) (run_of program t) (is_run program t) never x p m h
        ∙ ap (λ (D : Config). get D.tasks x) moved_config

    pub moved_channel : (d : Name) → uses (act_in program (run_of program t).config p) d ≡ true → channel_after program (suc t) d ≡ get m.next.channels d
    moved_channel d h =
        ap (λ (r : Run). get r.config.channels d) one_round
        ∙ of_round.round_uses_channel program (suc t) (run_of program t) (is_run program t) never d p m h
        ∙ ap (λ (D : Config). get D.channels d) moved_config

    pub moved_entries : entries_after program (suc t) p ≡ entries_after program t p ++ event_entries (suc t) p m.event
    moved_entries =
        ap (λ (r : Run). own p r.entries) one_round
        ∙ of_round.round_adds_entries program (suc t) (run_of program t) (is_run program t) never p p m (same-self p)
        ∙ ap (λ s. own p (run_of program t).entries ++ step_entries (suc t) p s) m.is

  -- ---- a task that doesn't

  module _ (p : Name) (s : Task) (there : task_after program t p ≡ Some s) (still : is_move (machine_step program (run_of program t).config p) ≡ false) where
    nobody_alters : (q : Name) → Mover q → alters q (act_in program (run_of program t).config q) p ≡ false
    nobody_alters q m = false_from_ne_true _ bad
      where
        bad : alters q (act_in program (run_of program t).config q) p ≡ true → ⊥
        bad h =
            let (u, here, move) = mover program (run_of program t).config q m.next m.event m.is in
            by u here (altered program (run_of program t) (is_run program t) q u here _ p (ap (act_at program q) here) h)
          where
            by : (u : Task) → get (run_of program t).config.tasks q ≡ Some u → (p ≡ q) ⊎ (p ≡ child q u.forks) → ⊥
            by u here (inl e) = let both = sym still ∙ ap (λ r. is_move (machine_step program (run_of program t).config r)) e ∙ ap is_move m.is in cc
            by u here (inr e) = free_name program (run_of program t) (is_run program t) q u here (ap (λ r. is_some (get (run_of program t).config.tasks r)) (sym e) ∙ ap is_some there)

    pub still_task : task_after program (suc t) p ≡ Some s
    still_task = ap (λ (r : Run). get r.config.tasks p) one_round ∙ of_round.round_spares_task program (suc t) (run_of program t) (is_run program t) never p nobody_alters ∙ there

    pub still_entries : entries_after program (suc t) p ≡ entries_after program t p
    still_entries = ap (λ (r : Run). own p r.entries) one_round ∙ of_round.round_spares_entries program (suc t) (run_of program t) (is_run program t) never p other
      where
        other : (q : Name) → Mover q → same_name q p ≡ false
        other q m = false_from_ne_true (same_name q p) (λ e. let both = sym still ∙ ap (λ r. is_move (machine_step program (run_of program t).config r)) (sym (same-is q p e)) ∙ ap is_move m.is in cc)

  -- ---- a task that isn't there

  module _ (p : Name) (absent : task_after program t p ≡ None) where
    -- it was forked, if it is there then
    pub record Born (s : Task) : Type 0 where
      pub by : Name
      pub parent : Task
      pub there : task_after program t by ≡ Some parent
      pub after : Place
      pub its : Place
      pub forks : act_of machine program by parent.forks parent.place ≡ act.Fork p after its
      pub is : s ≡ placed its 0

    no_mover : (q : Name) → Mover q → q ≡ p → ⊥
    no_mover q m e =
        let (u, here, move) = mover program (run_of program t).config q m.next m.event m.is in
        let both = sym here ∙ ap (get (run_of program t).config.tasks) e ∙ absent in
        cc

    pub absent_entries : entries_after program (suc t) p ≡ entries_after program t p
    absent_entries = ap (λ (r : Run). own p r.entries) one_round ∙ of_round.round_spares_entries program (suc t) (run_of program t) (is_run program t) never p (λ q m. false_from_ne_true (same_name q p) (λ e. no_mover q m (same-is q p e)))

    -- and has no entries yet
    pub none_yet : entries_after program t p ≡ []
    none_yet = own_none p (run_of program t).entries (λ e h is. let both = sym ((is_run program t).tells.owners e h) ∙ ap (λ r. is_some (get (run_of program t).config.tasks r)) is ∙ ap is_some absent in cc)

    born_by : (q : Name) (m : Mover q) (u : Task) → task_after program t q ≡ Some u → (a : Act) (D : Config) (e : Event) → Moved (run_of program t).config q u.forks a D e → act_of machine program q u.forks u.place ≡ a
        → alters q a p ≡ true → (s : Task) → get D.tasks p ≡ Some s → Born s
    born_by q m u here a D e (ByItself place) is h s got = absurd (no_mover q m (sym (same-is p q h)))
    born_by q m u here a D e (Prints z place) is h s got = absurd (no_mover q m (sym (same-is p q h)))
    born_by q m u here a D e (Sends c v place empty) is h s got = absurd (no_mover q m (sym (same-is p q h)))
    born_by q m u here a D e (Receives c v place full) is h s got = absurd (no_mover q m (sym (same-is p q h)))
    born_by q m u here a D e Ends is h s got = absurd (no_mover q m (sym (same-is p q h)))
    born_by q m u here a D e (Forks c parent its) is h s got = by (same_name p c) refl h
      where
        by : (b : Bool) → same_name p c ≡ b → (b || same_name p q) ≡ true → Born s
        by false f h = absurd (no_mover q m (sym (same-is p q h)))
        by true f h = record {
          by = q;
          parent = u;
          there = here;
          after = parent;
          its = its;
          forks = is ∙ ap (λ r. act.Fork r parent its) (sym (same-is p c f));
          is = let both : Some s ≡ Some (placed its 0) = sym got ∙ put_here _ c (placed its 0) p f in cc;
        }

    pub born : (s : Task) → task_after program (suc t) p ≡ Some s → Born s
    born s got = by (some_mover (λ q. alters q (act_in program (run_of program t).config q) p))
      where
        by : ((q : Name) × Mover q × (alters q (act_in program (run_of program t).config q) p ≡ true)) ⊎ ((q : Name) → Mover q → alters q (act_in program (run_of program t).config q) p ≡ false) → Born s
        by (inr none) =
            let both = sym got ∙ ap (λ (r : Run). get r.config.tasks p) one_round ∙ of_round.round_spares_task program (suc t) (run_of program t) (is_run program t) never p none ∙ absent in
            let bad : ⊥ = cc in
            absurd bad
        by (inl (q, m, h)) =
            let (u, here, move) = mover program (run_of program t).config q m.next m.event m.is in
            born_by q m u here _ m.next m.event move refl (subst (λ a. alters q a p ≡ true) (ap (act_at program q) here) h) s (sym (moved_task q m p h) ∙ got)

  -- ---- a channel

  -- a channel that no mover uses stays as it is
  pub spared_channel : (c : Name) → ((q : Name) → Mover q → uses (act_in program (run_of program t).config q) c ≡ false) → channel_after program (suc t) c ≡ channel_after program t c
  spared_channel c none = ap (λ (r : Run). get r.config.channels c) one_round ∙ of_round.round_spares_channel program (suc t) (run_of program t) (is_run program t) never c none

  received_by : (c : Name) (q : Name) (m : Mover q) → m.event ≡ Recv c → was_received c (run_of program (suc t)).entries ≡ true
  received_by c q m is = member_any (λ e. is_receive_on c e.event) noted (run_of program (suc t)).entries there (same-self c)
    where
      noted : Entry
      noted = record { time = suc t; name = q; event = Recv c }

      there : In noted (run_of program (suc t)).entries
      there = (from_own q noted _ (subst (In noted) (sym (moved_entries q m ∙ ap (λ e. entries_after program t q ++ event_entries (suc t) q e) is)) (in_right noted (entries_after program t q) _ (inl refl)))).0

  -- a Full channel stays so, or is received
  pub full_stays : (c : Name) (v : Value) → channel_after program t c ≡ Some (Some v) → (channel_after program (suc t) c ≡ Some (Some v)) ⊎ (was_received c (run_of program (suc t)).entries ≡ true)
  full_stays c v full = by (some_mover (λ q. uses (act_in program (run_of program t).config q) c))
    where
      at_move : (q : Name) (m : Mover q) (u : Task) → task_after program t q ≡ Some u → (a : Act) (D : Config) (e : Event) → Moved (run_of program t).config q u.forks a D e → act_of machine program q u.forks u.place ≡ a → uses a c ≡ true
          → m.event ≡ e → was_received c (run_of program (suc t)).entries ≡ true
      at_move q m u here a D e (ByItself place) is h shown = let bad : ⊥ = cc in absurd bad
      at_move q m u here a D e (Prints z place) is h shown = let bad : ⊥ = cc in absurd bad
      at_move q m u here a D e (Forks d parent its) is h shown =
          absurd (free_channel program (run_of program t) (is_run program t) q u here
          (ap (λ r. is_some (channel_after program t r)) (sym (same-is c d h ∙ names_its_child machine program q u.forks u.place d parent its is)) ∙ ap is_some full))
      at_move q m u here a D e (Sends d w place empty) is h shown = let both = sym full ∙ ap (channel_after program t) (same-is c d h) ∙ empty in let bad : ⊥ = cc in absurd bad
      at_move q m u here a D e (Receives d w place there) is h shown = received_by c q m (shown ∙ ap Recv (sym (same-is c d h)))
      at_move q m u here a D e Ends is h shown = let bad : ⊥ = cc in absurd bad

      by : ((q : Name) × Mover q × (uses (act_in program (run_of program t).config q) c ≡ true)) ⊎ ((q : Name) → Mover q → uses (act_in program (run_of program t).config q) c ≡ false)
          → (channel_after program (suc t) c ≡ Some (Some v)) ⊎ (was_received c (run_of program (suc t)).entries ≡ true)
      by (inr none) = inl (spared_channel c none ∙ full)
      by (inl (q, m, h)) =
          let (u, here, move) = mover program (run_of program t).config q m.next m.event m.is in
          inr (at_move q m u here _ m.next m.event move refl (subst (λ a. uses a c ≡ true) (ap (act_at program q) here) h) refl)
