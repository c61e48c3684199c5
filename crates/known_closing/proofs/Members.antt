-- Members of lists and of what is made of them.
use Rattle.std.proofs.Common.{◌≡◌, ◌⊎◌, inl, inr, ⊎_elim, List, [], ◌∷◌, map, refl, ap}
use Rattle.cell_rules.specs.Lists.{In}
use Rattle.task_rounds.specs.Members as member

module _ {A : Type 0} where
  pub across : (y : A) (xs : List A) → In y xs → member.In y xs
  across y [] h = absurd h
  across y (z ∷ zs) h = ⊎_elim (λ e. inl e) (λ t. inr (across y zs t)) h

  pub back : (y : A) (xs : List A) → member.In y xs → In y xs
  back y [] h = absurd h
  back y (z ∷ zs) h = ⊎_elim (λ e. inl e) (λ t. inr (back y zs t)) h

module _ {A B : Type 0} (f : A → B) where
  pub in_map : (y : A) (xs : List A) → In y xs → member.In (f y) (map f xs)
  in_map y [] h = absurd h
  in_map y (z ∷ zs) h = ⊎_elim (λ e. inl (ap f e)) (λ t. inr (in_map y zs t)) h

  pub from_map : (y : B) (xs : List A) → member.In y (map f xs) → (z : A) × In z xs × (y ≡ f z)
  from_map y [] h = absurd h
  from_map y (z ∷ zs) h = ⊎_elim (λ e. (z, inl refl, e)) (λ t. let r = from_map y zs t in (r.0, inr r.1, r.2)) h

  pub map_map : {C : Type 0} (g : B → C) (xs : List A) → map g (map f xs) ≡ map (λ a. g (f a)) xs
  map_map g [] = refl
  map_map g (z ∷ zs) = ap (λ l. g (f z) ∷ l) (map_map g zs)
