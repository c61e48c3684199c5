-- The forms of what the calls make, where the next step is known.
use Rattle.std.proofs.Common.{◌≡◌, suc, max, nat_lt, if◌then◌else◌, [], Some, None, refl, ap, ◌∙◌}
use Rattle.core_language.specs.Names.{Name}
use Rattle.core_language.specs.Values.{Value}
use Rattle.core_language.specs.Configurations.{Place}
use Rattle.core_language.specs.Acts.{Act}
use Rattle.core_language.specs.Acts as act
use Rattle.core_language.specs.Steps.{Event}
use Rattle.core_language.specs.Steps as event
use Rattle.task_rounds.specs.Tasks.{placed}
use Rattle.known_tasks.specs.Known.{KnownTask, KnownParcel, does}
use Rattle.known_tasks.specs.Nexts.{Silent, Fork, Send, Recv, next_by, next}
use Rattle.known_tasks.specs.Calls.{moved, silent_by, after_silent, parent_by, parent_after, child_by, child_after, sender_by, after_send, parcel_by, parcel_of, IsFor, receiver_by, after_receive}
use Rattle.known_tasks.proofs.Calls.{unspent}

-- an event that speaks of no channel
abbrev pub IsQuiet : Event → Type 0
IsQuiet event.Silent = Unit {0}
IsQuiet (event.Print z) = Unit {0}
IsQuiet event.End = Unit {0}
IsQuiet (event.Fork c) = ⊥
IsQuiet (event.Send c) = ⊥
IsQuiet (event.Recv c) = ⊥

module _ (k : KnownTask) where
  pub record SilentForm : Type 0 where
    pub place : Place
    pub event : Event
    pub quiet : IsQuiet event
    pub is : after_silent k ≡ moved k (suc k.time) place k.state.forks event

  pub silent_form : next k ≡ Some Silent → SilentForm
  silent_form n = by (does k) refl (unspent k Silent n (λ e. cc)).1
    where
      form : (a : Act) → does k ≡ a → (place : Place) (e : Event) → IsQuiet e → silent_by k a ≡ moved k (suc k.time) place k.state.forks e → SilentForm
      form a is place e quiet f = record { place = place; event = e; quiet = quiet; is = ap (silent_by k) is ∙ f }

      by : (a : Act) → does k ≡ a → next_by a ≡ Some Silent → SilentForm
      by (act.Silent place) is n = form _ is place event.Silent tt refl
      by (act.Print z place) is n = form _ is place (event.Print z) tt refl
      by (act.Fork c parent its) is n = let bad : ⊥ = cc in absurd bad
      by (act.Send c v place) is n = let bad : ⊥ = cc in absurd bad
      by (act.Recv c place) is n = let bad : ⊥ = cc in absurd bad
      by act.End is n = let bad : ⊥ = cc in absurd bad
      by act.IsEnded is n = let bad : ⊥ = cc in absurd bad
      by (act.IsHalted why) is n = let bad : ⊥ = cc in absurd bad
      by (act.IsStuck why) is n = let bad : ⊥ = cc in absurd bad

  pub record ForkForm : Type 0 where
    pub channel : Name
    pub parent : Place
    pub its : Place
    pub parent_is : parent_after k ≡ moved k (suc k.time) parent (suc k.state.forks) (event.Fork channel)
    pub child_is : child_after k ≡ record k { name = channel; time = suc k.time; state = placed its 0; entries = []; late = None }

  pub fork_form : next k ≡ Some Fork → ForkForm
  fork_form n = by (does k) refl (unspent k Fork n (λ e. cc)).1
    where
      by : (a : Act) → does k ≡ a → next_by a ≡ Some Fork → ForkForm
      by (act.Fork c parent its) is n = record { channel = c; parent = parent; its = its; parent_is = ap (parent_by k) is; child_is = ap (child_by k) is }
      by (act.Silent place) is n = let bad : ⊥ = cc in absurd bad
      by (act.Print z place) is n = let bad : ⊥ = cc in absurd bad
      by (act.Send c v place) is n = let bad : ⊥ = cc in absurd bad
      by (act.Recv c place) is n = let bad : ⊥ = cc in absurd bad
      by act.End is n = let bad : ⊥ = cc in absurd bad
      by act.IsEnded is n = let bad : ⊥ = cc in absurd bad
      by (act.IsHalted why) is n = let bad : ⊥ = cc in absurd bad
      by (act.IsStuck why) is n = let bad : ⊥ = cc in absurd bad

  pub record SendForm (c : Name) : Type 0 where
    pub place : Place
    pub value : Value
    pub is : after_send k ≡ moved k (suc k.time) place k.state.forks (event.Send c)
    pub parcel : parcel_of k ≡ Some (record { program = k.program; limit = k.limit; channel = c; value = value; round = suc k.time })

  pub send_form : (c : Name) → next k ≡ Some (Send c) → SendForm c
  send_form c n = by (does k) refl (unspent k (Send c) n (λ e. cc)).1
    where
      by : (a : Act) → does k ≡ a → next_by a ≡ Some (Send c) → SendForm c
      by (act.Send d v place) is n =
          let channel : d ≡ c = cc in
          record {
            place = place;
            value = v;
            is = ap (sender_by k) (is ∙ ap (λ b. act.Send b v place) channel);
            parcel = ap (parcel_by k) (is ∙ ap (λ b. act.Send b v place) channel);
          }
      by (act.Silent place) is n = let bad : ⊥ = cc in absurd bad
      by (act.Print z place) is n = let bad : ⊥ = cc in absurd bad
      by (act.Fork d parent its) is n = let bad : ⊥ = cc in absurd bad
      by (act.Recv d place) is n = let bad : ⊥ = cc in absurd bad
      by act.End is n = let bad : ⊥ = cc in absurd bad
      by act.IsEnded is n = let bad : ⊥ = cc in absurd bad
      by (act.IsHalted why) is n = let bad : ⊥ = cc in absurd bad
      by (act.IsStuck why) is n = let bad : ⊥ = cc in absurd bad

  pub record ReceiveForm (q : KnownParcel) : Type 0 where
    pub place : Value → Place
    pub does_it : does k ≡ act.Recv q.channel place
    pub is : after_receive k q ≡ (if nat_lt q.round k.limit then moved k (suc (max k.time q.round)) (place q.value) k.state.forks (event.Recv q.channel) else record k { time = k.limit; late = Some q.value })

  pub receive_form : (q : KnownParcel) → IsFor q k → ReceiveForm q
  receive_form q is_for = by (does k) refl (unspent k (Recv q.channel) is_for.waits (λ e. cc)).1
    where
      by : (a : Act) → does k ≡ a → next_by a ≡ Some (Recv q.channel) → ReceiveForm q
      by (act.Recv d place) is n =
          let channel : d ≡ q.channel = cc in
          record { place = place; does_it = is ∙ ap (λ b. act.Recv b place) channel; is = ap (receiver_by k q) (is ∙ ap (λ b. act.Recv b place) channel) }
      by (act.Silent place) is n = let bad : ⊥ = cc in absurd bad
      by (act.Print z place) is n = let bad : ⊥ = cc in absurd bad
      by (act.Fork d parent its) is n = let bad : ⊥ = cc in absurd bad
      by (act.Send d v place) is n = let bad : ⊥ = cc in absurd bad
      by act.End is n = let bad : ⊥ = cc in absurd bad
      by act.IsEnded is n = let bad : ⊥ = cc in absurd bad
      by (act.IsHalted why) is n = let bad : ⊥ = cc in absurd bad
      by (act.IsStuck why) is n = let bad : ⊥ = cc in absurd bad
