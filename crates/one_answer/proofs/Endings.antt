-- A round run of an outlined program ends finished, at the rounds limit, or where a task halts.
use Rattle.std.proofs.Common.{◌≡◌, ◌≢◌, ℕ, ◌+◌, ◌≤◌, ℤ, Bool, true, false, cond, not, int_le, if◌then◌else◌, ◌&&◌, ◌||◌, List, [], ◌∷◌, map, filter, Option, Some, None, is_some, refl, ap, sym, subst, ◌∙◌, ◌⊎◌, inl, inr, arith}
use Rattle.std.specs.Ordering.{nat_cmp, eq_by_cmp}
use Rattle.std.specs.Cmp.Lexicographic.{slice_cmp}
use Rattle.std.specs.FinMap.{get, keys, entries, get-entries, find}
use Rattle.core_language.specs.Names.{Name, Ident, same_name}
use Rattle.core_language.specs.Operands.{Pat}
use Rattle.core_language.specs.Programs.{Body, Program}
use Rattle.core_language.specs.Programs as body
use Rattle.core_language.specs.Values.{Value}
use Rattle.core_language.specs.Values as value
use Rattle.core_language.specs.Computing.{Limits, Computed, Done, Sticks, Halts, Halt, Range, Depth, unbounded, machine, Env, value_of, sum_of, supplied, all_supplied, multiplied, divided, left_over}
use Rattle.core_language.specs.Configurations.{Config, Caller, Task, start}
use Rattle.core_language.specs.Configurations as place
use Rattle.core_language.specs.Acts.{Act, act_at, act_of, with_result, on_end, on_pair, on_sum, returned, chosen}
use Rattle.core_language.specs.Acts as act
use Rattle.core_language.specs.Steps.{Event, Step, Moves, Waits, IsEnded, IsAbsent, IsHalted, IsStuck, effect, sent, received, step, step_at, machine_step}
use Rattle.core_language.specs.Schedules.{IsMove, IsLive}
use Rattle.core_language.specs.Rounds.{is_move, moves, run_of, movers}
use Rattle.core_language.specs.Endings.{Ending, Finished, Stuck, OutOfRange, TooDeep, Rounds, Deadlocked, Leaked, is_ended, is_range, is_depth, out_of_range, too_deep, stuck_or, stuck, moving, unended, is_nil, ending_of}
use Rattle.core_language.proofs.Halting.{halts_or_steps}
use Rattle.graphs.specs.Graph.{count}
use Rattle.graphs.proofs.Live.{Distinct, has}
use Rattle.moved_uses.proofs.Bags.{name-is, name-self}
use Rattle.good_configurations.specs.Acts.{Typing}
use Rattle.good_configurations.specs.Good.{Good}
use Rattle.good_steps.proofs.Kept.{ActsFit, step_fine}
use Rattle.good_progress.proofs.Keys.{distinct_keys, has-keys}
use Rattle.good_progress.proofs.Progress.{good_live}
use Rattle.one_answer.specs.Following.{EndsWell}
use Rattle.one_answer.proofs.Paths.{filter-none}
use Rattle.one_answer.proofs.Answer.{no-keys}
use Rattle.one_answer.proofs.Unstuck.{rounds_good, none-stuck}

-- ---- a task that runs has not ended

abbrev Goes : Act → Type 0
Goes act.IsEnded = ⊥
Goes other = Unit {0}

result-goes : {A : Type 0} (c : Computed A) (f : A → Act) → ((a : A) → Goes (f a)) → Goes (with_result c f)
result-goes (Done a) f h = h a
result-goes (Sticks why) f h = tt
result-goes (Halts why) f h = tt

end-goes : (o : Option Value) (f : Name → Act) → ((c : Name) → Goes (f c)) → Goes (on_end o f)
end-goes None f h = tt
end-goes (Some (value.End c)) f h = h c
end-goes (Some (value.Int z)) f h = tt
end-goes (Some value.Unit) f h = tt
end-goes (Some (value.Pair a b)) f h = tt
end-goes (Some (value.Arm i a)) f h = tt

pair-goes : (o : Option Value) (f : Value → Value → Act) → ((a b : Value) → Goes (f a b)) → Goes (on_pair o f)
pair-goes None f h = tt
pair-goes (Some (value.End c)) f h = tt
pair-goes (Some (value.Int z)) f h = tt
pair-goes (Some value.Unit) f h = tt
pair-goes (Some (value.Pair a b)) f h = h a b
pair-goes (Some (value.Arm i a)) f h = tt

sum-goes : (o : Option Value) (f : ℕ → Value → Act) → ((i : ℕ) (a : Value) → Goes (f i a)) → Goes (on_sum o f)
sum-goes None f h = tt
sum-goes (Some (value.End c)) f h = tt
sum-goes (Some (value.Int z)) f h = tt
sum-goes (Some value.Unit) f h = tt
sum-goes (Some (value.Pair a b)) f h = tt
sum-goes (Some (value.Arm i a)) f h = h i a

chosen-goes : (o : Option (Pat × Body)) (env : Env) (callers : List Caller) (v : Value) → Goes (chosen o env callers v)
chosen-goes None env callers v = tt
chosen-goes (Some arm) env callers v = tt

returned-goes : (callers : List Caller) (v : Value) → Goes (returned callers v)
returned-goes [] v = tt
returned-goes (c ∷ callers) v = tt

runs-goes : (P : Program) (p : Name) (k : ℕ) (rest : Body) (env : Env) (callers : List Caller) → Goes (act_at unbounded P p k rest env callers)
runs-goes P p k (body.Let span x term next) env callers = result-goes (sum_of unbounded env term) (λ z. act.Silent (act.at next (act.bound env x (value.Int z)) callers)) (λ z. tt)
runs-goes P p k (body.Mul span x left right next) env callers = result-goes (multiplied unbounded env left right) (λ z. act.Silent (act.at next (act.bound env x (value.Int z)) callers)) (λ z. tt)
runs-goes P p k (body.Div span x term divisor next) env callers = result-goes (divided unbounded env term divisor) (λ z. act.Silent (act.at next (act.bound env x (value.Int z)) callers)) (λ z. tt)
runs-goes P p k (body.Rem span x term divisor next) env callers = result-goes (left_over unbounded env term divisor) (λ z. act.Silent (act.at next (act.bound env x (value.Int z)) callers)) (λ z. tt)
runs-goes P p k (body.Call span pat func values proof next) env callers = result-goes (all_supplied unbounded env values) (λ vs. act.Silent (act.entered (body.function_named func P.funcs) vs (record { name = pat.name; rest = next; env = place.kept next env } ∷ callers))) (λ vs. tt)
runs-goes P p k (body.Tail span func values proof) env callers = result-goes (all_supplied unbounded env values) (λ vs. act.Silent (act.entered (body.function_named func P.funcs) vs callers)) (λ vs. tt)
runs-goes P p k (body.Fork span x proto func values proof next) env callers = result-goes (all_supplied unbounded env values) (act.forked unbounded P p k x func next env callers) (λ vs. tt)
runs-goes P p k (body.Send1 span channel path v proof next) env callers = result-goes (supplied unbounded env v) (λ v. on_end (value_of env channel) (λ c. act.Send c v (act.at next env callers))) (λ v. end-goes (value_of env channel) (λ c. act.Send c v (act.at next env callers)) (λ c. tt))
runs-goes P p k (body.Recv1 span pat channel path proof next) env callers = end-goes (value_of env channel) (λ c. act.Recv c (λ v. act.at next (act.bound env pat.name v) callers)) (λ c. tt)
runs-goes P p k (body.Print span term next) env callers = result-goes (sum_of unbounded env term) (λ z. act.Print z (act.at next env callers)) (λ z. tt)
runs-goes P p k (body.If span left right this other) env callers = result-goes (sum_of unbounded env left) (λ a. with_result (sum_of unbounded env right) (λ b. act.Silent (act.at (if int_le a b then this else other) env callers))) (λ a. result-goes (sum_of unbounded env right) (λ b. act.Silent (act.at (if int_le a b then this else other) env callers)) (λ b. tt))
runs-goes P p k (body.Split span first second x next) env callers = pair-goes (value_of env x) (λ a b. act.Silent (act.at next (act.bound (act.bound env first.name a) second.name b) callers)) (λ a b. tt)
runs-goes P p k (body.Match span x arms) env callers = sum-goes (value_of env x) (λ i v. chosen (body.arm_at arms i) env callers v) (λ i v. chosen-goes (body.arm_at arms i) env callers v)
runs-goes P p k (body.Absurd span proof) env callers = tt
runs-goes P p k (body.Ret span v proof) env callers = result-goes (supplied unbounded env v) (returned callers) (λ v. returned-goes callers v)

goes-on : (C : Config) (p : Name) (k : ℕ) (a : Act) → Goes a → (effect C p k a ≡ IsEnded) ⊎ (effect C p k a ≡ IsAbsent) → ⊥
goes-on C p k (act.Silent place) g (inl e) = cc
goes-on C p k (act.Silent place) g (inr e) = cc
goes-on C p k (act.Print z place) g (inl e) = cc
goes-on C p k (act.Print z place) g (inr e) = cc
goes-on C p k (act.Fork c parent its) g (inl e) = cc
goes-on C p k (act.Fork c parent its) g (inr e) = cc
goes-on C p k (act.Send c v place) g h = by (get (C.channels) c) h
  where
    by : (o : Option (Option Value)) → (sent C p k c v place o ≡ IsEnded) ⊎ (sent C p k c v place o ≡ IsAbsent) → ⊥
    by None (inl e) = cc
    by None (inr e) = cc
    by (Some None) (inl e) = cc
    by (Some None) (inr e) = cc
    by (Some (Some u)) (inl e) = cc
    by (Some (Some u)) (inr e) = cc
goes-on C p k (act.Recv c place) g h = by (get (C.channels) c) h
  where
    by : (o : Option (Option Value)) → (received C p k c place o ≡ IsEnded) ⊎ (received C p k c place o ≡ IsAbsent) → ⊥
    by None (inl e) = cc
    by None (inr e) = cc
    by (Some None) (inl e) = cc
    by (Some None) (inr e) = cc
    by (Some (Some u)) (inl e) = cc
    by (Some (Some u)) (inr e) = cc
goes-on C p k act.End g (inl e) = cc
goes-on C p k act.End g (inr e) = cc
goes-on C p k act.IsEnded g h = g
goes-on C p k (act.IsHalted why) g (inl e) = cc
goes-on C p k (act.IsHalted why) g (inr e) = cc
goes-on C p k (act.IsStuck why) g (inl e) = cc
goes-on C p k (act.IsStuck why) g (inr e) = cc

ended-place : (P : Program) (C : Config) (p : Name) (t : Task) → get (C.tasks) p ≡ Some t → (step P C p ≡ IsEnded) ⊎ (step P C p ≡ IsAbsent) → is_ended (t.place) ≡ true
ended-place P C p t e h = by (t.place) (subst (λ z. (step_at unbounded P C p z ≡ IsEnded) ⊎ (step_at unbounded P C p z ≡ IsAbsent)) e h)
  where
    by : (pl : place.Place) → (effect C p (t.forks) (act_of unbounded P p (t.forks) pl) ≡ IsEnded) ⊎ (effect C p (t.forks) (act_of unbounded P p (t.forks) pl) ≡ IsAbsent) → is_ended pl ≡ true
    by place.Ended h = refl
    by (place.Running rest env callers) h = absurd (goes-on C p (t.forks) (act_at unbounded P p (t.forks) rest env callers) (runs-goes P p (t.forks) rest env callers) h)

-- ---- nobody is left

find-counts : (es : List (Name × Task)) (q : Name) (t : Task) → find (slice_cmp nat_cmp) q es ≡ Some t → 1 ≤ count (same_name q) (map (λ e. e.0) es)
find-counts [] q t e = cc
find-counts (d ∷ es) q t e = go (same_name q d.0) e (find-counts es q t)
  where
    go : (b : Bool) → cond b (Some d.1) (find (slice_cmp nat_cmp) q es) ≡ Some t → (find (slice_cmp nat_cmp) q es ≡ Some t → 1 ≤ count (same_name q) (map (λ e. e.0) es)) → 1 ≤ cond b 1 0 + count (same_name q) (map (λ e. e.0) es)
    go true e ih = omega arith
    go false e ih = omega (arith, ih e)

none-unended : (es : List (Name × Task)) → Distinct same_name (map (λ e. e.0) es) → ((q : Name) (t : Task) → find (slice_cmp nat_cmp) q es ≡ Some t → is_ended (t.place) ≡ true) → map (λ e. e.0) (filter (λ e. not (is_ended e.1.place)) es) ≡ []
none-unended [] d h = refl
none-unended (e ∷ es) d h = go (is_ended (e.1.place)) (h e.0 e.1 here) (none-unended es (d.1) rest)
  where
    here : cond (same_name e.0 e.0) (Some e.1) (find (slice_cmp nat_cmp) e.0 es) ≡ Some e.1
    here = ap (λ b. cond b (Some e.1) (find (slice_cmp nat_cmp) e.0 es)) (name-self e.0)

    rest : (q : Name) (t : Task) → find (slice_cmp nat_cmp) q es ≡ Some t → is_ended (t.place) ≡ true
    rest q t f = h q t (by (same_name q e.0) refl)
      where
        by : (b : Bool) → same_name q e.0 ≡ b → cond b (Some e.1) (find (slice_cmp nat_cmp) q es) ≡ Some t
        by false g = f
        by true g = let same : q ≡ e.0 = name-is q e.0 g in absurd (omega (arith, d.0, subst (λ z. 1 ≤ count (same_name z) (map (λ e. e.0) es)) same (find-counts es q t f)))

    go : (b : Bool) → b ≡ true → map (λ e. e.0) (filter (λ e. not (is_ended e.1.place)) es) ≡ [] → map (λ e. e.0) (cond (not b) (e ∷ filter (λ e. not (is_ended e.1.place)) es) (filter (λ e. not (is_ended e.1.place)) es)) ≡ []
    go true g ih = ih
    go false g ih = cc

nobody-left : (P : Program) (C : Config) → ((p : Name) → (step P C p ≡ IsEnded) ⊎ (step P C p ≡ IsAbsent)) → unended C ≡ []
nobody-left P C all = none-unended (entries (C.tasks)) (distinct_keys (C.tasks)) (λ q t f. ended-place P C q t (get-entries (C.tasks) q ∙ f) (all q))

-- ---- the ending

deep-or : (P : Program) (C : Config) (ps : List Name) (other : Ending) → EndsWell (too_deep P C ps other) ⊎ (((p : Name) → has same_name ps p ≡ true → is_depth (machine_step P C p) ≡ false) × (too_deep P C ps other ≡ other))
deep-or P C [] other = inr (λ p h. cc, refl)
deep-or P C (p ∷ ps) other = go (is_depth (machine_step P C p)) refl (deep-or P C ps other)
  where
    go : (b : Bool) → is_depth (machine_step P C p) ≡ b → EndsWell (too_deep P C ps other) ⊎ (((q : Name) → has same_name ps q ≡ true → is_depth (machine_step P C q) ≡ false) × (too_deep P C ps other ≡ other))
        → EndsWell (if b then TooDeep p else too_deep P C ps other) ⊎ (((q : Name) → (same_name p q || has same_name ps q) ≡ true → is_depth (machine_step P C q) ≡ false) × ((if b then TooDeep p else too_deep P C ps other) ≡ other))
    go true e ih = inl tt
    go false e (inl well) = inl well
    go false e (inr (none, same)) = inr (λ q h. by q (same_name p q) refl h, same)
      where
        by : (q : Name) (b : Bool) → same_name p q ≡ b → (b || has same_name ps q) ≡ true → is_depth (machine_step P C q) ≡ false
        by q true f h = ap (λ z. is_depth (machine_step P C z)) (sym (name-is p q f)) ∙ e
        by q false f h = none q h

range-or : (P : Program) (C : Config) (ps : List Name) (other : Ending) → EndsWell (out_of_range P C ps other) ⊎ (((p : Name) → has same_name ps p ≡ true → is_range (machine_step P C p) ≡ false) × (out_of_range P C ps other ≡ other))
range-or P C [] other = inr (λ p h. cc, refl)
range-or P C (p ∷ ps) other = go (is_range (machine_step P C p)) refl (range-or P C ps other)
  where
    go : (b : Bool) → is_range (machine_step P C p) ≡ b → EndsWell (out_of_range P C ps other) ⊎ (((q : Name) → has same_name ps q ≡ true → is_range (machine_step P C q) ≡ false) × (out_of_range P C ps other ≡ other))
        → EndsWell (if b then OutOfRange p else out_of_range P C ps other) ⊎ (((q : Name) → (same_name p q || has same_name ps q) ≡ true → is_range (machine_step P C q) ≡ false) × ((if b then OutOfRange p else out_of_range P C ps other) ≡ other))
    go true e ih = inl tt
    go false e (inl well) = inl well
    go false e (inr (none, same)) = inr (λ q h. by q (same_name p q) refl h, same)
      where
        by : (q : Name) (b : Bool) → same_name p q ≡ b → (b || has same_name ps q) ≡ true → is_range (machine_step P C q) ≡ false
        by q true f h = ap (λ z. is_range (machine_step P C z)) (sym (name-is p q f)) ∙ e
        by q false f h = none q h

module _ (P : Program) (Typed : Typing) (fits : ActsFit P Typed) (ended : Typed place.Ended []) (start_good : Good (P.protos) Typed (start P)) where
  stuck-none : (C : Config) → Good (P.protos) Typed C → (ps : List Name) (other : Ending) → stuck P C ps other ≡ other
  stuck-none C good [] other = refl
  stuck-none C good (p ∷ ps) other = ap (λ z. stuck_or p z (stuck P C ps other)) (none-stuck P Typed fits ended start_good C good p) ∙ stuck-none C good ps other

  -- where nobody halts and nobody moves, all have ended and no channel is left
  all-over : (C : Config) → Good (P.protos) Typed C → ((p : Name) → has same_name (keys (C.tasks)) p ≡ true → is_range (machine_step P C p) ≡ false) → ((p : Name) → has same_name (keys (C.tasks)) p ≡ true → is_depth (machine_step P C p) ≡ false) → movers P C ≡ [] → (unended C ≡ []) × (keys (C.channels) ≡ [])
  all-over C good no_range no_depth none = go (good_live P Typed fits C good (λ p. (step_fine P Typed fits ended C good p).1))
    where
      same_step : (p : Name) → has same_name (keys (C.tasks)) p ≡ true → machine_step P C p ≡ step P C p
      same_step p h = by (halts_or_steps P C p)
        where
          halted : (why : Halt) → machine_step P C p ≡ IsHalted why → machine_step P C p ≡ step P C p
          halted Range e = let x : is_range (machine_step P C p) ≡ true = ap is_range e in let y : is_range (machine_step P C p) ≡ false = no_range p h in cc
          halted Depth e = let x : is_depth (machine_step P C p) ≡ true = ap is_depth e in let y : is_depth (machine_step P C p) ≡ false = no_depth p h in cc

          by : ((why : Halt) × (machine_step P C p ≡ IsHalted why)) ⊎ (machine_step P C p ≡ step P C p) → machine_step P C p ≡ step P C p
          by (inl (why, e)) = halted why e
          by (inr same) = same

      still : (o : Step) → is_move o ≡ false → IsMove o → ⊥
      still (Moves D e) f m = cc
      still (Waits c) f m = m
      still IsEnded f m = m
      still IsAbsent f m = m
      still (IsHalted why) f m = m
      still (IsStuck why) f m = m

      nobody : (p : Name) → IsMove (step P C p) → ⊥
      nobody p m = by (get (C.tasks) p) refl m
        where
          by : (o : Option Task) → get (C.tasks) p ≡ o → IsMove (step_at unbounded P C p o) → ⊥
          by None e m = m
          by (Some t) e m' = let there : has same_name (keys (C.tasks)) p ≡ true = has-keys (C.tasks) p ∙ ap is_some e in still (step P C p) (ap is_move (sym (same_step p there)) ∙ filter-none (moves P C) (keys (C.tasks)) p none there) m

      go : IsLive P C → (unended C ≡ []) × (keys (C.channels) ≡ [])
      go (inl (p, m)) = absurd (nobody p m)
      go (inr (all, channels)) = (nobody-left P C all, no-keys C channels)

  pub ends_well : (t : ℕ) → EndsWell (ending_of P (run_of P t).config)
  ends_well t = for (run_of P t).config (rounds_good P Typed fits ended start_good t)
    where
      for : (C : Config) → Good (P.protos) Typed C → EndsWell (ending_of P C)
      for C good = go (is_nil (unended C) && is_nil (keys (C.channels))) refl
        where
          over : (unended C ≡ []) × (keys (C.channels) ≡ []) → (is_nil (unended C) && is_nil (keys (C.channels))) ≡ true
          over (a, b) = rw (a, b) refl

          with_movers : (ps : List Name) → movers P C ≡ ps → (is_nil (unended C) && is_nil (keys (C.channels))) ≡ false → ((p : Name) → has same_name (keys (C.tasks)) p ≡ true → is_range (machine_step P C p) ≡ false) → ((p : Name) → has same_name (keys (C.tasks)) p ≡ true → is_depth (machine_step P C p) ≡ false) → EndsWell (moving C ps)
          with_movers (p ∷ ps) e f r d = tt
          with_movers [] e f r d = let x : (is_nil (unended C) && is_nil (keys (C.channels))) ≡ true = over (all-over C good r d e) in absurd (clash x f)
            where
              clash : {b : Bool} → b ≡ true → b ≡ false → ⊥
              clash e f = cc

          later : (is_nil (unended C) && is_nil (keys (C.channels))) ≡ false → EndsWell (out_of_range P C (keys (C.tasks)) (too_deep P C (keys (C.tasks)) (moving C (movers P C))))
          later f = by (range-or P C (keys (C.tasks)) (too_deep P C (keys (C.tasks)) (moving C (movers P C)))) (deep-or P C (keys (C.tasks)) (moving C (movers P C)))
            where
              by : EndsWell (out_of_range P C (keys (C.tasks)) (too_deep P C (keys (C.tasks)) (moving C (movers P C)))) ⊎ (((p : Name) → has same_name (keys (C.tasks)) p ≡ true → is_range (machine_step P C p) ≡ false) × (out_of_range P C (keys (C.tasks)) (too_deep P C (keys (C.tasks)) (moving C (movers P C))) ≡ too_deep P C (keys (C.tasks)) (moving C (movers P C))))
                  → EndsWell (too_deep P C (keys (C.tasks)) (moving C (movers P C))) ⊎ (((p : Name) → has same_name (keys (C.tasks)) p ≡ true → is_depth (machine_step P C p) ≡ false) × (too_deep P C (keys (C.tasks)) (moving C (movers P C)) ≡ moving C (movers P C)))
                  → EndsWell (out_of_range P C (keys (C.tasks)) (too_deep P C (keys (C.tasks)) (moving C (movers P C))))
              by (inl well) d = well
              by (inr (no_range, same)) (inl well) = subst EndsWell (sym same) well
              by (inr (no_range, same)) (inr (no_depth, same')) = subst EndsWell (sym (same ∙ same')) (with_movers (movers P C) refl f no_range no_depth)

          go : (b : Bool) → (is_nil (unended C) && is_nil (keys (C.channels))) ≡ b → EndsWell (if b then Finished else stuck P C (keys (C.tasks)) (out_of_range P C (keys (C.tasks)) (too_deep P C (keys (C.tasks)) (moving C (movers P C)))))
          go true e = tt
          go false e = subst EndsWell (sym (stuck-none C good (keys (C.tasks)) (out_of_range P C (keys (C.tasks)) (too_deep P C (keys (C.tasks)) (moving C (movers P C)))))) (later e)
