-- What a turn of the machine does to those that are ready and to those that wait.
use Rattle.std.proofs.Common.{◌≡◌, ℕ, Bool, true, false, cond, ◌||◌, List, [], ◌∷◌, ◌++◌, append-nil, Option, Some, None, refl, sym, ap, subst, ◌∙◌}
use Rattle.std.specs.Ordering.{nat_cmp}
use Rattle.std.specs.Cmp.Lexicographic.{slice_cmp, nat_list_cmp_total}
use Rattle.std.specs.FinMap.{get, keys}
use Rattle.std.proofs.lemmas.Map.Lookups.{exact_bytes}
use Rattle.core_language.specs.Names.{Name, same_name}
use Rattle.core_language.specs.Values.{Value}
use Rattle.core_language.specs.Programs.{Program}
use Rattle.core_language.specs.Computing.{machine}
use Rattle.core_language.specs.Configurations.{Config, Task}
use Rattle.core_language.specs.Acts.{Act}
use Rattle.core_language.specs.Acts as act
use Rattle.core_language.specs.Steps.{Event, Silent, Fork, Send, Recv, Print, End, Step, Moves, Waits, IsEnded, IsAbsent, IsHalted, IsStuck, effect, sent, received, step_at, machine_step, after_step}
use Rattle.core_language.specs.Rounds.{Run, Entry, is_move, turn, event_entries, step_entries}
use Rattle.machine_rounds.specs.Ready.{IsParked}
use Rattle.machine_rounds.specs.Local.{act_at, act_in, alters, uses, moves_in, looks_at}
use Rattle.machine_rounds.specs.Local as local
use Rattle.machine_rounds.specs.Sets.{has}
use Rattle.machine_rounds.proofs.Local.{local_turns}
use Rattle.machine_rounds.proofs.Round.{turned}
use Rattle.machine_rounds.specs.Showing.{alters_by, uses_by, Spreads}
use Rattle.machine_rounds.proofs.Rounded.{same-self}
use Rattle.std.proofs.lemmas.Cmp.{eq_by_cmp_equiv}

abbrev Shown : Name → Event → Act → Type 0
Shown p e a = ((q : Name) → alters p a q ≡ alters_by p e q) × ((c : Name) → uses a c ≡ uses_by e c)

shown : (p : Name) (e f : Event) (a : Act) → e ≡ f → Shown p e a → Shown p f a
shown p e f a is s = subst (λ x. Shown p x a) is s

-- an act whose step shows the event alters what the event tells
shows : (C : Config) (p : Name) (k : ℕ) (D : Config) (e : Event) (a : Act) → effect C p k a ≡ Moves D e → Shown p e a
shows C p k D e (act.Silent place) is = let same_event : Silent ≡ e = cc in shown p Silent e (act.Silent place) same_event (λ q. refl, λ c. refl)
shows C p k D e (act.Print z place) is = let same_event : Print z ≡ e = cc in shown p (Print z) e (act.Print z place) same_event (λ q. refl, λ c. refl)
shows C p k D e (act.Fork c parent its) is = let same_event : Fork c ≡ e = cc in shown p (Fork c) e (act.Fork c parent its) same_event (λ q. refl, λ d. refl)
shows C p k D e (act.Send c v place) is = by (get C.channels c) is
  where
    by : (o : Option (Option Value)) → sent C p k c v place o ≡ Moves D e → Shown p e (act.Send c v place)
    by (Some None) is = let same_event : Send c ≡ e = cc in shown p (Send c) e (act.Send c v place) same_event (λ q. refl, λ d. refl)
    by (Some (Some u)) is = let bad : ⊥ = cc in absurd bad
    by None is = let bad : ⊥ = cc in absurd bad
shows C p k D e (act.Recv c place) is = by (get C.channels c) is
  where
    by : (o : Option (Option Value)) → received C p k c place o ≡ Moves D e → Shown p e (act.Recv c place)
    by (Some (Some v)) is = let same_event : Recv c ≡ e = cc in shown p (Recv c) e (act.Recv c place) same_event (λ q. refl, λ d. refl)
    by (Some None) is = let bad : ⊥ = cc in absurd bad
    by None is = let bad : ⊥ = cc in absurd bad
shows C p k D e act.End is = let same_event : End ≡ e = cc in shown p End e act.End same_event (λ q. refl, λ c. refl)
shows C p k D e act.IsEnded is = let bad : ⊥ = cc in absurd bad
shows C p k D e (act.IsHalted why) is = let bad : ⊥ = cc in absurd bad
shows C p k D e (act.IsStuck why) is = let bad : ⊥ = cc in absurd bad

late : (a b : Bool) → b ≡ true → (a || b) ≡ true
late true b e = refl
late false b e = e

alters_itself : (p : Name) (e : Event) → alters_by p e p ≡ true
alters_itself p (Fork c) = late (same_name p c) (same_name p p) (same-self p)
alters_itself p Silent = same-self p
alters_itself p (Send c) = same-self p
alters_itself p (Recv c) = same-self p
alters_itself p (Print z) = same-self p
alters_itself p End = same-self p

module _ (program : Program) (time : ℕ) where
  event_acts : (C : Config) (p : Name) (D : Config) (e : Event) → machine_step program C p ≡ Moves D e → Shown p e (act_in program C p)
  event_acts C p D e is = by (get C.tasks p) is
    where
      by : (o : Option Task) → step_at machine program C p o ≡ Moves D e → Shown p e (act_at program p o)
      by None is = let bad : ⊥ = cc in absurd bad
      by (Some t) is = shows C p t.forks D e (act_at program p (Some t)) is

  abbrev made : Config → List Entry → Run
  made D es = record { config = D; entries = es }

  pub turn_moved : (run : Run) (p : Name) (D : Config) (e : Event) (es : List Entry) → machine_step program run.config p ≡ Moves D e → es ≡ run.entries ++ event_entries time p e → made D es ≡ turn program time run p
  turn_moved run p D e es is noted = ap (made D) noted ∙ ap (λ s. made (after_step run.config s) (run.entries ++ step_entries time p s)) (sym is)

  -- a step that is no move changes nothing
  pub turn_still : (run : Run) (p : Name) (s : Step) → machine_step program run.config p ≡ s → is_move s ≡ false → run ≡ turn program time run p
  turn_still run p s is not = sym (ap (λ x. made (after_step run.config x) (run.entries ++ step_entries time p x)) is ∙ by s not)
    where
      by : (s : Step) → is_move s ≡ false → made (after_step run.config s) (run.entries ++ step_entries time p s) ≡ run
      by (Moves D event) e = cc
      by (Waits c) e = ap (made run.config) (append-nil run.entries)
      by IsEnded e = ap (made run.config) (append-nil run.entries)
      by IsAbsent e = ap (made run.config) (append-nil run.entries)
      by (IsHalted why) e = ap (made run.config) (append-nil run.entries)
      by (IsStuck why) e = ap (made run.config) (append-nil run.entries)

  -- who isn't to come and isn't ready doesn't move in this round any more
  abbrev Parked : Run → List Name → (Name → Bool) → (Name → Name → Bool) → Type 0
  Parked run rest ready waits = IsParked (moves_in program) (looks_at program) run (λ q. has (slice_cmp nat_cmp) rest q || ready q) waits

  pub parked_moved : (run next : Run) (p : Name) (rest : List Name) (D : Config) (e : Event) (ready later : Name → Bool) (waits waits_later : Name → Name → Bool) → machine_step program run.config p ≡ Moves D e
      → next ≡ turn program time run p → Spreads p e ready later waits waits_later → Parked run (p ∷ rest) ready waits → Parked next rest later waits_later
  parked_moved run next p rest D e ready later waits waits_later is turn_is spreads parked =
      let (altered, used) = event_acts run.config p D e is in
      subst (λ r. Parked r rest later waits_later) (sym turn_is)
      (turned (slice_cmp nat_cmp) nat_list_cmp_total exact_bytes (moves_in program) (turn program time) (λ r. keys r.config.tasks) (looks_at program) (local.changes program) (local.touches program)
      (local_turns program time) (λ o c. true) (λ c. refl) run p rest ready later waits waits_later
      spreads.more (λ q h. spreads.altered q (sym (altered q) ∙ h)) (altered p ∙ alters_itself p e) (λ c q t w. spreads.woken c q (sym (used c) ∙ t) w)
      (λ c q t w. spreads.kept c q (sym (used c) ∙ t) w) parked)

  pub parked_still : (run next : Run) (p : Name) (rest : List Name) (ready later : Name → Bool) (waits waits_later : Name → Name → Bool) → next ≡ run → ((q : Name) → later q ≡ cond (same_name p q) true (ready q))
      → ((c q : Name) → waits c q ≡ true → waits_later c q ≡ true) → Parked run (p ∷ rest) ready waits → Parked next rest later waits_later
  parked_still run next p rest ready later waits waits_later same_run put waiting parked = subst (λ r. Parked r rest later waits_later) (sym same_run)
      (λ q dead. let (still, waits_now) = parked q (by (same_name p q) (same_name q p) ((eq_by_cmp_equiv nat_list_cmp_total).symm p q) (has (slice_cmp nat_cmp) rest q) (ready q) (ap (λ b. has (slice_cmp nat_cmp) rest q || b) (sym (put q)) ∙ dead)) in
      (still, λ c e. waiting c q (waits_now c e)))
    where
      by : (a b : Bool) → a ≡ b → (h r : Bool) → (h || cond a true r) ≡ false → ((b || h) || r) ≡ false
      by true true e true r d = d
      by true true e false r d = d
      by false false e true r d = d
      by false false e false r d = d
      by true false e h r d = cc
      by false true e h r d = cc
