-- A turn of a task alters no other task but the one that it forks, and no channel but that at which it looks.
use Rattle.std.proofs.Common.{◌≡◌, ℕ, Bool, true, false, cond, ◌||◌, Option, Some, None, refl, ap, sym, ◌∙◌}
use Rattle.std.specs.FinMap.{get, insert, remove, get-insert, get-remove}
use Rattle.std.specs.Cmp.Lexicographic.{nat_list_cmp_total}
use Rattle.core_language.specs.Names.{Name, NameMap, same_name}
use Rattle.core_language.specs.Values.{Value}
use Rattle.core_language.specs.Programs.{Program}
use Rattle.core_language.specs.Computing.{machine}
use Rattle.core_language.specs.Configurations.{Config, Place, Task}
use Rattle.core_language.specs.Acts.{Act, channel_in}
use Rattle.core_language.specs.Acts as act
use Rattle.core_language.specs.Steps.{Step, Event, Moves, Waits, IsEnded, IsAbsent, IsHalted, IsStuck, effect, sent, received, step_at, machine_step, after_step}
use Rattle.core_language.specs.Rounds.{Run, is_move, turn}
use Rattle.machine_rounds.specs.Ready.{IsLocal}
use Rattle.machine_rounds.specs.Local.{act_at, act_in, alters, uses, moves_in, looks_at, changes, touches}

put_elsewhere : {X : Type 0} (m : NameMap X) (k : Name) (v : X) (q : Name) → same_name q k ≡ false → get (insert m k v) q ≡ get m q
put_elsewhere m k v q e = get-insert nat_list_cmp_total m k v q ∙ ap (λ b. cond b (Some v) (get m q)) e

drop_elsewhere : {X : Type 0} (m : NameMap X) (k q : Name) → same_name q k ≡ false → get (remove m k) q ≡ get m q
drop_elsewhere m k q e = get-remove nat_list_cmp_total m k q ∙ ap (λ b. cond b None (get m q)) e

left_false : (a b : Bool) → (a || b) ≡ false → a ≡ false
left_false false b e = refl
left_false true b e = e

right_false : (a b : Bool) → (a || b) ≡ false → b ≡ false
right_false false b e = e
right_false true b e = cc

-- whether an act can be done depends on its channel alone
able : (C D : Config) (p : Name) (k : ℕ) (a : Act) → ((c : Name) → channel_in a ≡ Some c → get D.channels c ≡ get C.channels c) → is_move (effect D p k a) ≡ is_move (effect C p k a)
able C D p k (act.Silent place) h = refl
able C D p k (act.Print z place) h = refl
able C D p k (act.Fork c parent its) h = refl
able C D p k (act.Send c v place) h = ap (λ o. is_move (sent D p k c v place o)) (h c refl) ∙ go (get C.channels c)
  where
    go : (o : Option (Option Value)) → is_move (sent D p k c v place o) ≡ is_move (sent C p k c v place o)
    go (Some None) = refl
    go (Some (Some w)) = refl
    go None = refl
able C D p k (act.Recv c place) h = ap (λ o. is_move (received D p k c place o)) (h c refl) ∙ go (get C.channels c)
  where
    go : (o : Option (Option Value)) → is_move (received D p k c place o) ≡ is_move (received C p k c place o)
    go (Some None) = refl
    go (Some (Some w)) = refl
    go None = refl
able C D p k act.End h = refl
able C D p k act.IsEnded h = refl
able C D p k (act.IsHalted why) h = refl
able C D p k (act.IsStuck why) h = refl

other_task : (C : Config) (p q : Name) (k : ℕ) (a : Act) → alters p a q ≡ false → get (after_step C (effect C p k a)).tasks q ≡ get C.tasks q
other_task C p q k (act.Silent place) e = put_elsewhere C.tasks p _ q e
other_task C p q k (act.Print z place) e = put_elsewhere C.tasks p _ q e
other_task C p q k (act.Fork c parent its) e = put_elsewhere (insert C.tasks p _) c _ q (left_false (same_name q c) (same_name q p) e) ∙ put_elsewhere C.tasks p _ q (right_false (same_name q c) (same_name q p) e)
other_task C p q k (act.Send c v place) e = go (get C.channels c)
  where
    go : (o : Option (Option Value)) → get (after_step C (sent C p k c v place o)).tasks q ≡ get C.tasks q
    go (Some None) = put_elsewhere C.tasks p _ q e
    go (Some (Some w)) = refl
    go None = refl
other_task C p q k (act.Recv c place) e = go (get C.channels c)
  where
    go : (o : Option (Option Value)) → get (after_step C (received C p k c place o)).tasks q ≡ get C.tasks q
    go (Some (Some v)) = put_elsewhere C.tasks p _ q e
    go (Some None) = refl
    go None = refl
other_task C p q k act.End e = put_elsewhere C.tasks p _ q e
other_task C p q k act.IsEnded e = refl
other_task C p q k (act.IsHalted why) e = refl
other_task C p q k (act.IsStuck why) e = refl

other_channel : (C : Config) (p d : Name) (k : ℕ) (a : Act) → uses a d ≡ false → get (after_step C (effect C p k a)).channels d ≡ get C.channels d
other_channel C p d k (act.Silent place) e = refl
other_channel C p d k (act.Print z place) e = refl
other_channel C p d k (act.Fork c parent its) e = put_elsewhere C.channels c None d e
other_channel C p d k (act.Send c v place) e = go (get C.channels c)
  where
    go : (o : Option (Option Value)) → get (after_step C (sent C p k c v place o)).channels d ≡ get C.channels d
    go (Some None) = put_elsewhere C.channels c (Some v) d e
    go (Some (Some w)) = refl
    go None = refl
other_channel C p d k (act.Recv c place) e = go (get C.channels c)
  where
    go : (o : Option (Option Value)) → get (after_step C (received C p k c place o)).channels d ≡ get C.channels d
    go (Some (Some v)) = drop_elsewhere C.channels c d e
    go (Some None) = refl
    go None = refl
other_channel C p d k act.End e = refl
other_channel C p d k act.IsEnded e = refl
other_channel C p d k (act.IsHalted why) e = refl
other_channel C p d k (act.IsStuck why) e = refl

module _ (program : Program) where
  abbrev pub after : Config → Name → Config
  after C p = after_step C (machine_step program C p)

  pub task_kept : (C : Config) (p q : Name) → alters p (act_in program C p) q ≡ false → get (after C p).tasks q ≡ get C.tasks q
  task_kept C p q e = by (get C.tasks p) e
    where
      by : (o : Option Task) → alters p (act_at program p o) q ≡ false → get (after_step C (step_at machine program C p o)).tasks q ≡ get C.tasks q
      by None e = refl
      by (Some t) e = other_task C p q t.forks (act_at program p (Some t)) e

  pub channel_kept : (C : Config) (p d : Name) → uses (act_in program C p) d ≡ false → get (after C p).channels d ≡ get C.channels d
  channel_kept C p d e = by (get C.tasks p) e
    where
      by : (o : Option Task) → uses (act_at program p o) d ≡ false → get (after_step C (step_at machine program C p o)).channels d ≡ get C.channels d
      by None e = refl
      by (Some t) e = other_channel C p d t.forks (act_at program p (Some t)) e

  able_at : (C D : Config) (q : Name) (o : Option Task) → ((c : Name) → channel_in (act_at program q o) ≡ Some c → get D.channels c ≡ get C.channels c)
      → is_move (step_at machine program D q o) ≡ is_move (step_at machine program C q o)
  able_at C D q None h = refl
  able_at C D q (Some t) h = able C D q t.forks (act_at program q (Some t)) h

  -- turns are local, at each time
  pub local_turns : (time : ℕ) → IsLocal (moves_in program) (turn program time) (looks_at program) (changes program) (touches program)
  local_turns time run p q e = (
    ap (λ o. channel_in (act_at program q o)) kept,
    λ untouched. ap (λ o. is_move (step_at machine program D q o)) kept
        ∙ able_at C D q (get C.tasks q) (λ c f. channel_kept C p c (untouched c f)),
  )
    where
      C : Config
      C = run.config

      D : Config
      D = after run.config p

      kept : get D.tasks q ≡ get C.tasks q
      kept = task_kept run.config p q e
