-- The entries tell what the configuration is made of, after each turn.
use Rattle.std.proofs.Common.{◌≡◌, ◌⊎◌, inl, inr, ℕ, Bool, true, false, ◌||◌, List, [], ◌∷◌, ◌++◌, append_assoc, Some, None, refl, sym, ap, subst, ◌∙◌}
use Rattle.std.specs.List.{list_any}
use Rattle.std.specs.FinMap.{get}
use Rattle.core_language.specs.Names.{Name}
use Rattle.core_language.specs.Values.{Value}
use Rattle.core_language.specs.Configurations.{Config}
use Rattle.core_language.specs.Acts.{Act}
use Rattle.core_language.specs.Steps.{Event, Silent, Fork, Send, Recv, Print, End}
use Rattle.core_language.specs.Rounds.{Entry, event_entries}
use Rattle.task_rounds.specs.Members.{In}
use Rattle.task_rounds.specs.Telling.{HasOnce, printed_by, named_prints}
use Rattle.task_rounds.proofs.Members.{any-append, in_either}
use Rattle.task_rounds.proofs.Moving.{Moved, ByItself, Prints, Forks, Sends, Receives, Ends}

-- ---- new entries

pub or_false : (b : Bool) → (b || false) ≡ b
or_false true = refl
or_false false = refl

pub or_true : (b : Bool) → (b || true) ≡ true
or_true true = refl
or_true false = refl

-- what the one new entry tells is what its event tells
told_new : (test : Event → Bool) → test Silent ≡ false → (t : ℕ) (p : Name) (e : Event) → list_any (λ x. test x.event) (event_entries t p e) ≡ test e
told_new test none t p Silent = sym none
told_new test none t p (Fork c) = or_false (test (Fork c))
told_new test none t p (Send c) = or_false (test (Send c))
told_new test none t p (Recv c) = or_false (test (Recv c))
told_new test none t p (Print z) = or_false (test (Print z))
told_new test none t p End = or_false (test End)

pub told_after : (test : Event → Bool) → test Silent ≡ false → (t : ℕ) (p : Name) (e : Event) (es : List Entry) → list_any (λ x. test x.event) (es ++ event_entries t p e) ≡ (list_any (λ x. test x.event) es || test e)
told_after test none t p e es = any-append (λ x. test x.event) es (event_entries t p e) ∙ ap (λ b. list_any (λ x. test x.event) es || b) (told_new test none t p e)

pub new_entry : (t : ℕ) (p : Name) (e : Event) (x : Entry) → In x (event_entries t p e) → (x.event ≡ e) × (x.name ≡ p) × (x.time ≡ t)
new_entry t p Silent x h = absurd h
new_entry t p (Fork c) x (inl is) = (ap (λ (y : Entry). y.event) is, ap (λ (y : Entry). y.name) is, ap (λ (y : Entry). y.time) is)
new_entry t p (Fork c) x (inr h) = absurd h
new_entry t p (Send c) x (inl is) = (ap (λ (y : Entry). y.event) is, ap (λ (y : Entry). y.name) is, ap (λ (y : Entry). y.time) is)
new_entry t p (Send c) x (inr h) = absurd h
new_entry t p (Recv c) x (inl is) = (ap (λ (y : Entry). y.event) is, ap (λ (y : Entry). y.name) is, ap (λ (y : Entry). y.time) is)
new_entry t p (Recv c) x (inr h) = absurd h
new_entry t p (Print z) x (inl is) = (ap (λ (y : Entry). y.event) is, ap (λ (y : Entry). y.name) is, ap (λ (y : Entry). y.time) is)
new_entry t p (Print z) x (inr h) = absurd h
new_entry t p End x (inl is) = (ap (λ (y : Entry). y.event) is, ap (λ (y : Entry). y.name) is, ap (λ (y : Entry). y.time) is)
new_entry t p End x (inr h) = absurd h

one_new : (t : ℕ) (p : Name) (e : Event) (x y : Entry) → In x (event_entries t p e) → In y (event_entries t p e) → x ≡ y
one_new t p e x y h g =
    let (event, name, time) = new_entry t p e x h in
    let (event', name', time') = new_entry t p e y g in
    same_entry x y (event ∙ sym event') (name ∙ sym name') (time ∙ sym time')
  where
    same_entry : (x y : Entry) → x.event ≡ y.event → x.name ≡ y.name → x.time ≡ y.time → x ≡ y
    same_entry x y e f g = λ i. record { time = g i; name = f i; event = e i }

pub once_after : (event : Event) (t : ℕ) (p : Name) (e : Event) (es : List Entry) → HasOnce event es → ((x : Entry) → In x es → x.event ≡ event → e ≡ event → ⊥) → HasOnce event (es ++ event_entries t p e)
once_after event t p e es once clash x y h g is is' = by (in_either x es _ h) (in_either y es _ g)
  where
    by : In x es ⊎ In x (event_entries t p e) → In y es ⊎ In y (event_entries t p e) → x ≡ y
    by (inl a) (inl b) = once x y a b is is'
    by (inl a) (inr b) = absurd (clash x a is (sym (new_entry t p e y b).0 ∙ is'))
    by (inr a) (inl b) = absurd (clash y b is' (sym (new_entry t p e x a).0 ∙ is))
    by (inr a) (inr b) = one_new t p e x y a b

pub prints-append : (es fs : List Entry) → named_prints (es ++ fs) ≡ named_prints es ++ named_prints fs
prints-append [] fs = refl
prints-append (e ∷ es) fs = ap (λ l. printed_by e.name e.event ++ l) (prints-append es fs) ∙ sym (append_assoc (printed_by e.name e.event) (named_prints es) (named_prints fs))

pub prints_new : (t : ℕ) (p : Name) (e : Event) → named_prints (event_entries t p e) ≡ printed_by p e
prints_new t p Silent = refl
prints_new t p (Fork c) = refl
prints_new t p (Send c) = refl
prints_new t p (Recv c) = refl
prints_new t p (Print z) = refl
prints_new t p End = refl

-- ---- who moves

module _ {C : Config} {p : Name} {k : ℕ} where
  pub sends_on_empty : (a : Act) (D : Config) (e : Event) → Moved C p k a D e → (c : Name) → e ≡ Send c → get C.channels c ≡ Some None
  sends_on_empty a D e (ByItself place) c is = let bad : ⊥ = cc in absurd bad
  sends_on_empty a D e (Prints z place) c is = let bad : ⊥ = cc in absurd bad
  sends_on_empty a D e (Forks d parent its) c is = let bad : ⊥ = cc in absurd bad
  sends_on_empty a D e (Sends d v place empty) c is = let same_channel : d ≡ c = cc in subst (λ b. get C.channels b ≡ Some None) same_channel empty
  sends_on_empty a D e (Receives d v place full) c is = let bad : ⊥ = cc in absurd bad
  sends_on_empty a D e Ends c is = let bad : ⊥ = cc in absurd bad

  pub receives_full : (a : Act) (D : Config) (e : Event) → Moved C p k a D e → (c : Name) → e ≡ Recv c → (v : Value) × (get C.channels c ≡ Some (Some v))
  receives_full a D e (ByItself place) c is = let bad : ⊥ = cc in absurd bad
  receives_full a D e (Prints z place) c is = let bad : ⊥ = cc in absurd bad
  receives_full a D e (Forks d parent its) c is = let bad : ⊥ = cc in absurd bad
  receives_full a D e (Sends d v place empty) c is = let bad : ⊥ = cc in absurd bad
  receives_full a D e (Receives d v place full) c is = let same_channel : d ≡ c = cc in (v, subst (λ b. get C.channels b ≡ Some (Some v)) same_channel full)
  receives_full a D e Ends c is = let bad : ⊥ = cc in absurd bad
