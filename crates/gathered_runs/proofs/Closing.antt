-- What closed cells hold is complete.
use Rattle.std.proofs.Common.{◌≡◌, ◌⊎◌, inl, inr, ℕ, List, [], ◌∷◌, map, refl, sym, ap, subst, ◌∙◌}
use Rattle.core_language.specs.Names.{Name, main}
use Rattle.core_language.specs.Values.{Value}
use Rattle.core_language.specs.Programs.{Program}
use Rattle.core_language.specs.Steps.{Event, Fork, Send, Recv}
use Rattle.task_rounds.specs.Members.{In}
use Rattle.known_tasks.specs.Known.{KnownTask, KnownParcel}
use Rattle.gathered_runs.specs.Complete.{HasTask, Shows, IsOnHand, AreComplete}
use Rattle.gathered_runs.specs.Closing.{Load, Parcel, HasShown, HasTaken, AreClosed, ClosedAreComplete}

module _ {A B : Type 0} (f : A → B) where
  in_map : (x : A) (xs : List A) → In x xs → In (f x) (map f xs)
  in_map x [] h = absurd h
  in_map x (y ∷ xs) (inl is) = inl (ap f is)
  in_map x (y ∷ xs) (inr h) = inr (in_map x xs h)

  from_map : (y : B) (xs : List A) → In y (map f xs) → (x : A) × In x xs × (y ≡ f x)
  from_map y [] h = absurd h
  from_map y (x ∷ xs) (inl is) = (x, inl refl, is)
  from_map y (x ∷ xs) (inr h) = let (z, there, is) = from_map y xs h in (z, inr there, is)

module _ (program : Program) (limit : ℕ) (name : ℕ → Name) (loads : List Load) (parcels : List Parcel) (closed : AreClosed program limit name loads parcels) where
  abbrev tasks : List KnownTask
  tasks = map (λ (l : Load). l.task) loads

  abbrev values : List KnownParcel
  values = map (λ (q : Parcel). q.parcel) parcels

  has_task : (l : Load) (c : Name) → In l loads → l.task.name ≡ c → HasTask tasks c
  has_task l c h named = (l.task, in_map (λ (x : Load). x.task) l loads h, named)

  -- the load that shows what the tasks show
  shower : (event : Event) → Shows tasks event → (l : Load) × In l loads × HasShown l.task event
  shower event (k, e, h, g, shows) =
      let (l, there, is) = from_map (λ (x : Load). x.task) k loads h in
      (l, there, (e, subst (λ (x : KnownTask). In e x.entries) is g, shows))

  forked : (c : Name) → Shows tasks (Fork c) → HasTask tasks c
  forked c shows =
      let (l, there, shown) = shower (Fork c) shows in
      let (m, h, is) = (closed.numbered l there).forks c shown in
      let (made, found, number) = closed.has_forked l there m h in
      has_task made c found (sym (closed.numbered made found).own ∙ ap name number ∙ is)

  taken : (r : Load) (c : Name) → In r loads → HasTaken r.task c → ((v : Value) × IsOnHand tasks values c v) ⊎ Shows tasks (Recv c)
  taken r c h (inl (e, g, shows)) = inr (r.task, e, in_map (λ (x : Load). x.task) r loads h, g, shows)
  taken r c h (inr (v, place, waits, late)) = inl (v, inr (r.task, place, in_map (λ (x : Load). x.task) r loads h, waits, late))

  sent : (c : Name) → Shows tasks (Send c) → ((v : Value) × IsOnHand tasks values c v) ⊎ Shows tasks (Recv c)
  sent c shows =
      let (l, there, shown) = shower (Send c) shows in
      let (m, h, is) = (closed.numbered l there).sends c shown in
      by m is (closed.has_sent l there m h)
    where
      by : (m : ℕ) → name m ≡ c → ((q : Parcel) × In q parcels × (q.number ≡ m)) ⊎ ((r : Load) × In r loads × In m r.received) → ((v : Value) × IsOnHand tasks values c v) ⊎ Shows tasks (Recv c)
      by m is (inl (q, g, number)) = inl (q.parcel.value, inl (q.parcel, in_map (λ (x : Parcel). x.parcel) q parcels g, sym (closed.named q g) ∙ ap name number ∙ is, refl))
      by m is (inr (r, g, has)) = taken r c g (subst (HasTaken r.task) is ((closed.numbered r g).receives m has))

  complete : AreComplete program limit tasks values
  complete = record {
    tasks_of_run = λ k h. let (l, there, is) = from_map (λ (x : Load). x.task) k loads h in subst (λ (x : KnownTask). (x.program ≡ program) × (x.limit ≡ limit)) (sym is) (closed.loads_of_run l there);
    parcels_of_run = λ q h. let (p, there, is) = from_map (λ (x : Parcel). x.parcel) q parcels h in subst (λ (x : KnownParcel). (x.program ≡ program) × (x.limit ≡ limit)) (sym is) (closed.parcels_of_run p there);
    has_main = let (l, there, named) = closed.has_main in has_task l main there named;
    has_forked = forked;
    has_sent = sent;
  }

pub closed_are_complete : ClosedAreComplete
closed_are_complete program limit name loads parcels closed = complete program limit name loads parcels closed
