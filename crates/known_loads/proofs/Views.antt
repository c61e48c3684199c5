-- What the calls give, of the values of which a program and a state are the view.
use Rattle.std.proofs.Common.{◌≡◌, refl, sym, ap, subst, ◌∙◌}
use Rattle.core_programs.specs.declared.nodes.Parts.{Parts}
use Rattle.core_programs.specs.Bodies.{program_of}
use Rattle.known_tasks.specs.Known as known
use Rattle.known_tasks.specs.Known.{IsKnownParcel}
use Rattle.known_tasks.specs.Calls.{IsFor, after_receive}
use Rattle.known_loads.specs.declared.states.State.{State}
use Rattle.known_loads.specs.declared.letters.Letter.{Letter}
use Rattle.known_loads.specs.Following.{Follows, IsMade, IsUnchanged, MakesSend, received}
use Rattle.known_loads.specs.Holding.{Holds, HoldsParcel}
use Rattle.known_loads.specs.Reading.{known_of, parcel_as}
use Rattle.known_loads.specs.Steps.{Sends, Steps}
use Rattle.known_loads.proofs.Held.{for_still, receiver_holds}
use Rattle.known_loads.proofs.Made.{made_through, unchanged_holds}

pub sends_as : (program : Parts) (old new : State) (k : Parts × State) → ◌≡◌ {A = Parts × State} (program, old) k → (letter : Letter) → MakesSend program old new letter → Sends k (program, new) (program, letter)
sends_as program old new k view_is letter makes = subst (λ (z : Parts × State). Sends z (program, new) (program, letter)) view_is
    (record { steps = (refl, makes.sender.is, makes.sender.follows); program = refl; is = makes.parcel; channel = makes.channel; ends = makes.ends })

-- a receive, where the state had room made for it before
module _ (program origin : Parts) (old mid new : State) (letter : Letter) (k : Parts × State) (q : Parts × Letter) (view_is : ◌≡◌ {A = Parts × State} (program, old) k) (parcel_is : ◌≡◌ {A = Parts × Letter} (origin, letter) q)
    (holds : Holds (program, old)) (is_for : IsFor (parcel_as q) (known_of k)) (same : IsUnchanged old mid) where
  inside : IsFor (parcel_as (origin, letter)) (known_of (program, old))
  inside = subst (λ (z : Parts × State). IsFor (parcel_as (origin, letter)) (known_of z)) (sym view_is) (subst (λ (z : Parts × Letter). IsFor (parcel_as z) (known_of k)) (sym parcel_is) is_for)

  own : IsFor (parcel_as (program, letter)) (known_of (program, old))
  own = record { program = refl; limit = inside.limit; waits = inside.waits }

  one_parcel : parcel_as (program, letter) ≡ parcel_as (origin, letter)
  one_parcel = λ i. record (parcel_as (program, letter)) { program = sym inside.program i }

  pub for_mid : IsFor (parcel_as (program, letter)) (known_of (program, mid))
  for_mid = for_still program old mid holds mid (parcel_as (program, letter)) same own

  pub receive_holds : HoldsParcel (origin, letter) → IsMade program mid new (after_receive (known_of (program, mid)) (parcel_as (program, letter))) (received letter) → Holds (program, new)
  receive_holds parcel is = receiver_holds program mid new (unchanged_holds program old mid holds same) letter for_mid
      (record { known = subst IsKnownParcel (sym one_parcel) parcel.known; limit = parcel.limit; small = parcel.small }) is

  pub receives_as : IsMade program mid new (after_receive (known_of (program, mid)) (parcel_as (program, letter))) (received letter) → Steps k (program, new) (after_receive (known_of k) (parcel_as q)) (received q.1)
  receives_as is =
      let made = made_through program old mid new (λ z. after_receive z (parcel_as (program, letter))) (received letter) holds same is in
      subst (λ (z : Parts × State). Steps z (program, new) (after_receive (known_of z) (parcel_as q)) (received q.1)) view_is
      (subst (λ (z : Parts × Letter). Steps (program, old) (program, new) (after_receive (known_of (program, old)) (parcel_as z)) (received z.1)) parcel_is
      (refl, made.is ∙ ap (after_receive (known_of (program, old))) one_parcel, made.follows))
