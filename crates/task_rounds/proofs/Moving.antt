-- The ways in which a task moves.
use Rattle.std.proofs.Common.{◌≡◌, ℕ, ℤ, suc, [], ◌∷◌, ◌++◌, Option, Some, None, refl, ap, subst}
use Rattle.std.specs.FinMap.{get, insert, remove}
use Rattle.core_language.specs.Names.{Name}
use Rattle.core_language.specs.Values.{Value}
use Rattle.core_language.specs.Programs.{Program}
use Rattle.core_language.specs.Computing.{machine}
use Rattle.core_language.specs.Configurations.{Config, Place, Ended, Task}
use Rattle.core_language.specs.Acts.{Act, act_of}
use Rattle.core_language.specs.Acts as act
use Rattle.core_language.specs.Steps.{Event, Silent, Fork, Send, Recv, Print, End, Moves, with_task, effect, sent, received, step_at, machine_step}
use Rattle.task_rounds.specs.Tasks.{placed}

-- the configuration that the act comes to, and what it shows
pub data Moved (C : Config) (p : Name) (k : ℕ) : Act → Config → Event → Type 0 where
  ByItself : (place : Place) → Moved C p k (act.Silent place) (with_task C p place k) Silent
  Prints : (z : ℤ) (place : Place) → Moved C p k (act.Print z place) (record (with_task C p place k) { prints = C.prints ++ (p, z) ∷ [] }) (Print z)
  Forks : (c : Name) (parent its : Place) → Moved C p k (act.Fork c parent its) (record C {
    tasks = insert (insert C.tasks p (placed parent (suc k))) c (placed its 0);
    channels = insert C.channels c None;
  }) (Fork c)
  Sends : (c : Name) (v : Value) (place : Place) → get C.channels c ≡ Some None → Moved C p k (act.Send c v place) (record (with_task C p place k) { channels = insert C.channels c (Some v) }) (Send c)
  Receives : (c : Name) (v : Value) (place : Value → Place) → get C.channels c ≡ Some (Some v) → Moved C p k (act.Recv c place) (record (with_task C p (place v) k) { channels = remove C.channels c }) (Recv c)
  Ends : Moved C p k act.End (with_task C p Ended k) End

module _ (C : Config) (p : Name) (k : ℕ) where
  same_move : (a : Act) (D E : Config) (e f : Event) → Moves D e ≡ Moves E f → Moved C p k a D e → Moved C p k a E f
  same_move a D E e f is m =
      let configs : D ≡ E = cc in
      let events : e ≡ f = cc in
      subst (λ F. Moved C p k a F f) configs (subst (λ g. Moved C p k a D g) events m)

  pub moved : (a : Act) (E : Config) (f : Event) → effect C p k a ≡ Moves E f → Moved C p k a E f
  moved (act.Silent place) E f is = same_move _ _ E _ f is (ByItself place)
  moved (act.Print z place) E f is = same_move _ _ E _ f is (Prints z place)
  moved (act.Fork c parent its) E f is = same_move _ _ E _ f is (Forks c parent its)
  moved (act.Send c v place) E f is = by (get C.channels c) refl is
    where
      by : (o : Option (Option Value)) → get C.channels c ≡ o → sent C p k c v place o ≡ Moves E f → Moved C p k (act.Send c v place) E f
      by (Some None) e is = same_move _ _ E _ f is (Sends c v place e)
      by (Some (Some u)) e is = let bad : ⊥ = cc in absurd bad
      by None e is = let bad : ⊥ = cc in absurd bad
  moved (act.Recv c place) E f is = by (get C.channels c) refl is
    where
      by : (o : Option (Option Value)) → get C.channels c ≡ o → received C p k c place o ≡ Moves E f → Moved C p k (act.Recv c place) E f
      by (Some (Some v)) e is = same_move _ _ E _ f is (Receives c v place e)
      by (Some None) e is = let bad : ⊥ = cc in absurd bad
      by None e is = let bad : ⊥ = cc in absurd bad
  moved act.End E f is = same_move _ _ E _ f is Ends
  moved act.IsEnded E f is = let bad : ⊥ = cc in absurd bad
  moved (act.IsHalted why) E f is = let bad : ⊥ = cc in absurd bad
  moved (act.IsStuck why) E f is = let bad : ⊥ = cc in absurd bad

  -- and each such move is made
  pub makes : (a : Act) (E : Config) (f : Event) → Moved C p k a E f → effect C p k a ≡ Moves E f
  makes a E f (ByItself place) = refl
  makes a E f (Prints z place) = refl
  makes a E f (Forks c parent its) = refl
  makes a E f (Sends c v place e) = ap (sent C p k c v place) e
  makes a E f (Receives c v place e) = ap (received C p k c place) e
  makes a E f Ends = refl

-- who moves is there
pub mover : (program : Program) (C : Config) (p : Name) (D : Config) (e : Event) → machine_step program C p ≡ Moves D e
    → (t : Task) × (get C.tasks p ≡ Some t) × Moved C p t.forks (act_of machine program p t.forks t.place) D e
mover program C p D e is = by (get C.tasks p) refl is
  where
    by : (o : Option Task) → get C.tasks p ≡ o → step_at machine program C p o ≡ Moves D e → (t : Task) × (get C.tasks p ≡ Some t) × Moved C p t.forks (act_of machine program p t.forks t.place) D e
    by None g is = let bad : ⊥ = cc in absurd bad
    by (Some t) g is = (t, g, moved C p t.forks _ D e is)
