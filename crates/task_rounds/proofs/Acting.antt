-- What each act of a task comes to in the next round.
use Rattle.std.proofs.Common.{◌≡◌, inl, ℕ, ℤ, suc, true, false, [], ◌++◌, Option, Some, None, is_some, refl, sym, ap, subst, ◌∙◌}
use Rattle.std.specs.FinMap.{get, insert}
use Rattle.std.proofs.lemmas.Bool.{or_left, or_right}
use Rattle.core_language.specs.Names.{Name, child, same_name}
use Rattle.core_language.specs.Values.{Value}
use Rattle.core_language.specs.Programs.{Program}
use Rattle.core_language.specs.Computing.{Halt, StuckWhy, machine, NoChannel, FullChannel}
use Rattle.core_language.specs.Configurations.{Config, Place, Ended, Task}
use Rattle.core_language.specs.Acts.{Act, act_of}
use Rattle.core_language.specs.Acts as act
use Rattle.core_language.specs.Steps.{Event, Silent, Fork, Send, Recv, Print, End, IsStuck, effect, sent, received, step_at, machine_step}
use Rattle.core_language.specs.Rounds.{is_move, event_entries, run_of}
use Rattle.machine_rounds.specs.Local.{act_at, act_in, alters, uses}
use Rattle.machine_rounds.proofs.Rounded.{same-self}
use Rattle.task_rounds.specs.Members.{In}
use Rattle.task_rounds.specs.Reaching.{NeverSticks}
use Rattle.task_rounds.specs.Tasks.{placed, task_after, channel_after, entries_after, IsPut}
use Rattle.task_rounds.proofs.Members.{in_right}
use Rattle.task_rounds.proofs.Names.{put_here, put_elsewhere, differ}
use Rattle.task_rounds.proofs.Own.{from_own}
use Rattle.task_rounds.proofs.Reaching.{not_stuck}
use Rattle.task_rounds.proofs.Forking.{names_its_child}
use Rattle.task_rounds.proofs.Moving.{Moved, ByItself, Prints, Forks, Sends, Receives, Ends, makes}
use Rattle.task_rounds.proofs.Runs.{is_run}
use Rattle.task_rounds.proofs.Apart.{IsMover, free_name}
use Rattle.task_rounds.proofs.Stepping.{moved_task, moved_channel, moved_entries, still_task, still_entries, absent_entries, none_yet}

module _ (program : Program) (never : NeverSticks program) (t : ℕ) (p : Name) (s : Task) (there : task_after program t p ≡ Some s) where
  -- the round takes the task to the place, and the event is noted
  pub record Goes (place : Place) (forks : ℕ) (event : Event) : Type 0 where
    pub state : task_after program (suc t) p ≡ Some (placed place forks)
    pub noted : entries_after program (suc t) p ≡ entries_after program t p ++ event_entries (suc t) p event

  -- the round leaves the task as it is
  pub record Stays : Type 0 where
    pub state : task_after program (suc t) p ≡ Some s
    pub noted : entries_after program (suc t) p ≡ entries_after program t p

  abbrev does : Act
  does = act_of machine program p s.forks s.place

  act_is : act_in program (run_of program t).config p ≡ act_of machine program p s.forks s.place
  act_is = ap (act_at program p) there

  step_is : (a : Act) → act_of machine program p s.forks s.place ≡ a → machine_step program (run_of program t).config p ≡ effect (run_of program t).config p s.forks a
  step_is a is = ap (step_at machine program (run_of program t).config p) there ∙ ap (effect (run_of program t).config p s.forks) is

  abbrev mover_by : (a : Act) (D : Config) (e : Event) → act_of machine program p s.forks s.place ≡ a → Moved (run_of program t).config p s.forks a D e → IsMover program (run_of program t).config p
  mover_by a D e is m = record { next = D; event = e; is = step_is a is ∙ makes (run_of program t).config p s.forks a D e m }

  -- where the move puts the task p alone
  goes : (a : Act) (D : Config) (e : Event) (place : Place) (forks : ℕ) (is : act_of machine program p s.forks s.place ≡ a) (m : Moved (run_of program t).config p s.forks a D e)
      → alters p a p ≡ true → get D.tasks p ≡ Some (placed place forks) → Goes place forks e
  goes a D e place forks is m own put = record {
    state = moved_task program never t p (mover_by a D e is m) p (ap (λ b. alters p b p) (act_is ∙ is) ∙ own) ∙ put;
    noted = moved_entries program never t p (mover_by a D e is m);
  }

  puts : (place : Place) (forks : ℕ) → get (insert (run_of program t).config.tasks p (placed place forks)) p ≡ Some (placed place forks)
  puts place forks = put_here (run_of program t).config.tasks p (placed place forks) p (same-self p)

  pub silent : (place : Place) → act_of machine program p s.forks s.place ≡ act.Silent place → Goes place s.forks Silent
  silent place is = goes (act.Silent place) _ Silent place s.forks is (ByItself place) (same-self p) (puts place s.forks)

  pub print : (z : ℤ) (place : Place) → act_of machine program p s.forks s.place ≡ act.Print z place → Goes place s.forks (Print z)
  print z place is = goes (act.Print z place) _ (Print z) place s.forks is (Prints z place) (same-self p) (puts place s.forks)

  pub end : act_of machine program p s.forks s.place ≡ act.End → Goes Ended s.forks End
  end is = goes act.End _ End Ended s.forks is Ends (same-self p) (puts Ended s.forks)

  -- ---- forks

  module _ (c : Name) (parent its : Place) (is : act_of machine program p s.forks s.place ≡ act.Fork c parent its) where
    named : c ≡ child p s.forks
    named = names_its_child machine program p s.forks s.place c parent its is

    unborn : task_after program t c ≡ None
    unborn = by (task_after program t c) refl
      where
        by : (o : Option Task) → task_after program t c ≡ o → task_after program t c ≡ None
        by None e = e
        by (Some u) e = absurd (free_name program (run_of program t) (is_run program t) p s there (ap (λ r. is_some (task_after program t r)) (sym named) ∙ ap is_some e))

    not_itself : same_name p c ≡ false
    not_itself = differ p c (λ e. let both = sym there ∙ ap (task_after program t) e ∙ unborn in cc)

    pub fork : Goes parent (suc s.forks) (Fork c)
    fork = goes (act.Fork c parent its) _ (Fork c) parent (suc s.forks) is (Forks c parent its) (or_right (same_name p c) (same_name p p) (same-self p))
        (put_elsewhere (insert (run_of program t).config.tasks p (placed parent (suc s.forks))) c (placed its 0) p not_itself ∙ puts parent (suc s.forks))

    pub forked : task_after program (suc t) c ≡ Some (placed its 0)
    forked = moved_task program never t p (mover_by _ _ (Fork c) is (Forks c parent its)) c (ap (λ b. alters p b c) (act_is ∙ is) ∙ or_left (same_name c c) (same_name c p) (same-self c))
        ∙ put_here (insert (run_of program t).config.tasks p (placed parent (suc s.forks))) c (placed its 0) c (same-self c)

    pub forked_none : entries_after program (suc t) c ≡ []
    forked_none = absent_entries program never t c unborn ∙ none_yet program never t c unborn

  -- ---- sends

  never_stuck : (a : Act) (why : StuckWhy) → act_of machine program p s.forks s.place ≡ a → effect (run_of program t).config p s.forks a ≡ IsStuck why → ⊥
  never_stuck a why is stuck = not_stuck program never (run_of program t).config p why (is_run program t).reached (step_is a is ∙ stuck)

  pub not_stuck_act : (why : StuckWhy) → act_of machine program p s.forks s.place ≡ act.IsStuck why → ⊥
  not_stuck_act why is = never_stuck (act.IsStuck why) why is refl

  module _ (c : Name) (v : Value) (place : Place) (is : act_of machine program p s.forks s.place ≡ act.Send c v place) where
    pub finds_empty : channel_after program t c ≡ Some None
    finds_empty = by (channel_after program t c) refl
      where
        by : (o : Option (Option Value)) → channel_after program t c ≡ o → channel_after program t c ≡ Some None
        by (Some None) e = e
        by (Some (Some u)) e = absurd (never_stuck _ FullChannel is (ap (sent (run_of program t).config p s.forks c v place) e))
        by None e = absurd (never_stuck _ NoChannel is (ap (sent (run_of program t).config p s.forks c v place) e))

    pub send : Goes place s.forks (Send c)
    send = goes (act.Send c v place) _ (Send c) place s.forks is (Sends c v place finds_empty) (same-self p) (puts place s.forks)

    pub put : IsPut program (suc t) c v
    put = record {
      entry = record { time = suc t; name = p; event = Send c };
      noted = (from_own p _ _ (subst (In (record { time = suc t; name = p; event = Send c })) (sym send.noted) (in_right _ (entries_after program t p) _ (inl refl)))).0;
      sends = refl;
      on_time = refl;
      there = moved_channel program never t p (mover_by _ _ (Send c) is (Sends c v place finds_empty)) c (ap (λ b. uses b c) (act_is ∙ is) ∙ same-self c)
          ∙ put_here (run_of program t).config.channels c (Some v) c (same-self c);
    }

  -- ---- receives

  module _ (c : Name) (place : Value → Place) (is : act_of machine program p s.forks s.place ≡ act.Recv c place) where
    -- the channel is there
    pub finds_it : channel_after program t c ≡ None → ⊥
    finds_it e = never_stuck _ NoChannel is (ap (received (run_of program t).config p s.forks c place) e)

    pub receive : (v : Value) → channel_after program t c ≡ Some (Some v) → Goes (place v) s.forks (Recv c)
    receive v full = goes (act.Recv c place) _ (Recv c) (place v) s.forks is (Receives c v place full) (same-self p) (puts (place v) s.forks)

    pub wait : channel_after program t c ≡ Some None → Stays
    wait empty = record {
      state = still_task program never t p s there still;
      noted = still_entries program never t p s there still;
    }
      where
        still : is_move (machine_step program (run_of program t).config p) ≡ false
        still = ap is_move (step_is _ is ∙ ap (received (run_of program t).config p s.forks c place) empty)

  -- ---- the others

  pub halt : (why : Halt) → act_of machine program p s.forks s.place ≡ act.IsHalted why → Stays
  halt why is = record { state = still_task program never t p s there (ap is_move (step_is _ is)); noted = still_entries program never t p s there (ap is_move (step_is _ is)) }

  pub ended : act_of machine program p s.forks s.place ≡ act.IsEnded → Stays
  ended is = record { state = still_task program never t p s there (ap is_move (step_is _ is)); noted = still_entries program never t p s there (ap is_move (step_is _ is)) }
