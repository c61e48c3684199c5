-- Two tasks that move at once alter different tasks and use different channels.
use Rattle.std.proofs.Common.{◌≡◌, ◌⊎◌, inl, inr, ◌<◌, Bool, true, false, ◌||◌, Option, Some, None, is_some, refl, sym, ap, subst, ◌∙◌}
use Rattle.std.specs.FinMap.{get}
use Rattle.core_language.specs.Names.{Name, child, same_name}
use Rattle.core_language.specs.Values.{Value}
use Rattle.core_language.specs.Programs.{Program}
use Rattle.core_language.specs.Computing.{machine, FullChannel, NoChannel}
use Rattle.core_language.specs.Configurations.{Config, Place, Task}
use Rattle.core_language.specs.Acts.{Act, act_of}
use Rattle.core_language.specs.Acts as act
use Rattle.core_language.specs.Steps.{Event, Send, Recv, Moves, IsStuck, effect, sent, received, step_at, machine_step, after_step}
use Rattle.machine_rounds.specs.Local.{act_at, act_in, alters, uses}
use Rattle.machine_rounds.proofs.Rounded.{same-self, same-is}
use Rattle.task_rounds.specs.Reaching.{IsReached, NeverSticks}
use Rattle.task_rounds.specs.Telling.{forks_made}
use Rattle.core_language.specs.Rounds.{Run}
use Rattle.task_rounds.proofs.Names.{child-is, differ, put_here, put_elsewhere, drop_here}
use Rattle.task_rounds.proofs.Reaching.{turn_reached, not_stuck}
use Rattle.task_rounds.specs.Tasks.{placed}
use Rattle.task_rounds.proofs.Moving.{Moved, ByItself, Prints, Forks, Sends, Receives, Ends, mover}
use Rattle.task_rounds.proofs.Forking.{names_its_child}
use Rattle.task_rounds.proofs.Runs.{IsRun}
use Rattle.task_rounds.proofs.Told.{less_itself}

-- the task moves at the configuration
pub record IsMover (program : Program) (C : Config) (p : Name) : Type 0 where
  pub next : Config
  pub event : Event
  pub is : machine_step program C p ≡ Moves next event

module _ (program : Program) (run : Run) (good : IsRun program run) where
  module _ (p : Name) (t : Task) (there : get run.config.tasks p ≡ Some t) where
    act_is : act_in program run.config p ≡ act_of machine program p t.forks t.place
    act_is = ap (act_at program p) there

    pub free_name : is_some (get run.config.tasks (child p t.forks)) ≡ true → ⊥
    free_name h = less_itself t.forks (subst (λ n. t.forks < n) (ap forks_made there) (good.tells.tasks p t.forks h))

    pub free_channel : is_some (get run.config.channels (child p t.forks)) ≡ true → ⊥
    free_channel h = less_itself t.forks (subst (λ n. t.forks < n) (ap forks_made there) (good.tells.channels p t.forks h))

    -- a task that the act alters is its own or the child
    pub altered : (a : Act) (x : Name) → a ≡ act_of machine program p t.forks t.place → alters p a x ≡ true → (x ≡ p) ⊎ (x ≡ child p t.forks)
    altered (act.Fork c parent its) x is h = by (same_name x c) refl h
      where
        by : (b : Bool) → same_name x c ≡ b → (b || same_name x p) ≡ true → (x ≡ p) ⊎ (x ≡ child p t.forks)
        by true e h = inr (same-is x c e ∙ names_its_child machine program p t.forks t.place c parent its (sym is))
        by false e h = inl (same-is x p h)
    altered (act.Silent place) x is h = inl (same-is x p h)
    altered (act.Print z place) x is h = inl (same-is x p h)
    altered (act.Send c v place) x is h = inl (same-is x p h)
    altered (act.Recv c place) x is h = inl (same-is x p h)
    altered act.End x is h = inl (same-is x p h)
    altered act.IsEnded x is h = inl (same-is x p h)
    altered (act.IsHalted why) x is h = inl (same-is x p h)
    altered (act.IsStuck why) x is h = inl (same-is x p h)

  -- a channel that a mover uses is its child's, Empty before a send, or Full before a receive
  data Use (p : Name) (t : Task) (d : Name) : Type 0 where
    New : d ≡ child p t.forks → Use p t d
    Fills : (v : Value) (place : Place) → act_of machine program p t.forks t.place ≡ act.Send d v place → get run.config.channels d ≡ Some None → Use p t d
    Empties : (v : Value) (place : Value → Place) → act_of machine program p t.forks t.place ≡ act.Recv d place → get run.config.channels d ≡ Some (Some v) → Use p t d

  used : (p : Name) (t : Task) (a : Act) (D : Config) (e : Event) (d : Name) → Moved run.config p t.forks a D e → act_of machine program p t.forks t.place ≡ a → uses a d ≡ true → Use p t d
  used p t a D e d (ByItself place) is h = let bad : ⊥ = cc in absurd bad
  used p t a D e d (Prints z place) is h = let bad : ⊥ = cc in absurd bad
  used p t a D e d (Forks c parent its) is h = New (same-is d c h ∙ names_its_child machine program p t.forks t.place c parent its is)
  used p t a D e d (Sends c v place empty) is h = Fills v place (is ∙ ap (λ b. act.Send b v place) (sym (same-is d c h))) (ap (get run.config.channels) (same-is d c h) ∙ empty)
  used p t a D e d (Receives c v place full) is h = Empties v place (is ∙ ap (λ b. act.Recv b place) (sym (same-is d c h))) (ap (get run.config.channels) (same-is d c h) ∙ full)
  used p t a D e d Ends is h = let bad : ⊥ = cc in absurd bad

  module _ (never : NeverSticks program) (p q : Name) (apart : p ≡ q → ⊥) (t u : Task) (there : get run.config.tasks p ≡ Some t) (also : get run.config.tasks q ≡ Some u) where
    -- after the step of p the other task is where it was
    step_is : machine_step program run.config p ≡ effect run.config p t.forks (act_of machine program p t.forks t.place)
    step_is = ap (step_at machine program run.config p) there

    stuck_next : (D : Config) (e : Event) (why : _) → machine_step program run.config p ≡ Moves D e → get D.tasks q ≡ Some u → effect D q u.forks (act_of machine program q u.forks u.place) ≡ IsStuck why → ⊥
    stuck_next D e why moves task stuck =
        not_stuck program never D q why (subst (IsReached program) (ap (after_step run.config) moves) (turn_reached program run.config p good.reached)) (ap (step_at machine program D q) task ∙ stuck)

    -- two sends on one channel
    both_fill : (d : Name) (v w : Value) (place there_after : Place) → act_of machine program p t.forks t.place ≡ act.Send d v place → act_of machine program q u.forks u.place ≡ act.Send d w there_after
        → get run.config.channels d ≡ Some None → ⊥
    both_fill d v w place there_after sends sends_too empty =
        stuck_next _ (Send d) FullChannel (step_is ∙ ap (effect run.config p t.forks) sends ∙ ap (sent run.config p t.forks d v place) empty)
        (put_elsewhere run.config.tasks p (placed place t.forks) q (differ q p (λ e. apart (sym e))) ∙ also)
        (ap (effect _ q u.forks) sends_too ∙ ap (sent _ q u.forks d w there_after) (put_here run.config.channels d (Some v) d (same-self d)))

    -- two receives on one channel
    both_empty : (d : Name) (v : Value) (place there_after : Value → Place) → act_of machine program p t.forks t.place ≡ act.Recv d place → act_of machine program q u.forks u.place ≡ act.Recv d there_after
        → get run.config.channels d ≡ Some (Some v) → ⊥
    both_empty d v place there_after gets gets_too full =
        stuck_next _ (Recv d) NoChannel (step_is ∙ ap (effect run.config p t.forks) gets ∙ ap (received run.config p t.forks d place) full)
        (put_elsewhere run.config.tasks p (placed (place v) t.forks) q (differ q p (λ e. apart (sym e))) ∙ also)
        (ap (effect _ q u.forks) gets_too ∙ ap (received _ q u.forks d there_after) (drop_here run.config.channels d d (same-self d)))

    full_free : (d : Name) (o : Option Value) → get run.config.channels d ≡ Some o → (r : Name) (v : Task) → get run.config.tasks r ≡ Some v → d ≡ child r v.forks → ⊥
    full_free d o is r v has_it e = free_channel r v has_it (ap (λ b. is_some (get run.config.channels b)) (sym e) ∙ ap is_some is)

    apart_uses : (d : Name) → Use p t d → Use q u d → ⊥
    apart_uses d (New e) (New f) = apart ((child-is p q t.forks u.forks (sym e ∙ f)).0)
    apart_uses d (New e) (Fills w place is empty) = full_free d None empty p t there e
    apart_uses d (New e) (Empties w place is full) = full_free d (Some w) full p t there e
    apart_uses d (Fills v place is empty) (New f) = full_free d None empty q u also f
    apart_uses d (Fills v place is empty) (Fills w place' is' empty') = both_fill d v w place place' is is' empty
    apart_uses d (Fills v place is empty) (Empties w place' is' full) = let both = sym empty ∙ full in cc
    apart_uses d (Empties v place is full) (New f) = full_free d (Some v) full q u also f
    apart_uses d (Empties v place is full) (Fills w place' is' empty) = let both = sym empty ∙ full in cc
    apart_uses d (Empties v place is full) (Empties w place' is' full') = both_empty d v place place' is is' full

    apart_tasks : (x : Name) → (x ≡ p) ⊎ (x ≡ child p t.forks) → (x ≡ q) ⊎ (x ≡ child q u.forks) → ⊥
    apart_tasks x (inl e) (inl f) = apart (sym e ∙ f)
    apart_tasks x (inl e) (inr f) = free_name q u also (ap (λ r. is_some (get run.config.tasks r)) (sym f ∙ e) ∙ ap is_some there)
    apart_tasks x (inr e) (inl f) = free_name p t there (ap (λ r. is_some (get run.config.tasks r)) (sym e ∙ f) ∙ ap is_some also)
    apart_tasks x (inr e) (inr f) = apart ((child-is p q t.forks u.forks (sym e ∙ f)).0)

  -- two movers alter no task both, and use no channel both
  pub tasks_apart : NeverSticks program → (p q : Name) → IsMover program run.config p → IsMover program run.config q → (x : Name) → alters p (act_in program run.config p) x ≡ true → alters q (act_in program run.config q) x ≡ true → (p ≡ q → ⊥) → ⊥
  tasks_apart never p q mp mq x h g apart =
      let (t, there, move) = mover program run.config p mp.next mp.event mp.is in
      let (u, also, move') = mover program run.config q mq.next mq.event mq.is in
      apart_tasks never p q apart t u there also x (altered p t there _ x (act_is p t there) h) (altered q u also _ x (act_is q u also) g)

  pub channels_apart : NeverSticks program → (p q : Name) → IsMover program run.config p → IsMover program run.config q → (d : Name) → uses (act_in program run.config p) d ≡ true → uses (act_in program run.config q) d ≡ true → (p ≡ q → ⊥) → ⊥
  channels_apart never p q mp mq d h g apart =
      let (t, there, move) = mover program run.config p mp.next mp.event mp.is in
      let (u, also, move') = mover program run.config q mq.next mq.event mq.is in
      apart_uses never p q apart t u there also d
      (used p t _ mp.next mp.event d move refl (subst (λ a. uses a d ≡ true) (act_is p t there) h))
      (used q u _ mq.next mq.event d move' refl (subst (λ a. uses a d ≡ true) (act_is q u also) g))
