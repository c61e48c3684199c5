-- Members of lists that were put together.
use Rattle.std.proofs.Common.{◌≡◌, ◌⊎◌, inl, inr, Bool, true, false, cond, ◌||◌, List, [], ◌∷◌, ◌++◌, refl, sym, ap, subst, ◌∙◌, filter}
use Rattle.std.specs.List.{list_any}
use Rattle.task_rounds.specs.Members.{In}

module _ {A : Type 0} where
  pub in_left : (x : A) (xs ys : List A) → In x xs → In x (xs ++ ys)
  in_left x [] ys h = absurd h
  in_left x (y ∷ xs) ys (inl e) = inl e
  in_left x (y ∷ xs) ys (inr h) = inr (in_left x xs ys h)

  pub in_right : (x : A) (xs ys : List A) → In x ys → In x (xs ++ ys)
  in_right x [] ys h = h
  in_right x (y ∷ xs) ys h = inr (in_right x xs ys h)

  pub in_either : (x : A) (xs ys : List A) → In x (xs ++ ys) → In x xs ⊎ In x ys
  in_either x [] ys h = inr h
  in_either x (y ∷ xs) ys (inl e) = inl (inl e)
  in_either x (y ∷ xs) ys (inr h) = more (in_either x xs ys h)
    where
      more : In x xs ⊎ In x ys → In x (y ∷ xs) ⊎ In x ys
      more (inl l) = inl (inr l)
      more (inr r) = inr r

  pub in_filter : (test : A → Bool) (x : A) (xs : List A) → In x xs → test x ≡ true → In x (filter test xs)
  in_filter test x [] h t = absurd h
  in_filter test x (y ∷ xs) (inl is) t = subst (λ b. In x (cond b (y ∷ filter test xs) (filter test xs))) (sym (ap test (sym is) ∙ t)) (inl is)
  in_filter test x (y ∷ xs) (inr h) t = by (test y) (in_filter test x xs h t)
    where
      by : (b : Bool) → In x (filter test xs) → In x (cond b (y ∷ filter test xs) (filter test xs))
      by true rest = inr rest
      by false rest = rest

  pub from_filter : (test : A → Bool) (x : A) (xs : List A) → In x (filter test xs) → In x xs × (test x ≡ true)
  from_filter test x [] h = absurd h
  from_filter test x (y ∷ xs) h = by (test y) refl h (from_filter test x xs)
    where
      by : (b : Bool) → test y ≡ b → In x (cond b (y ∷ filter test xs) (filter test xs)) → (In x (filter test xs) → In x xs × (test x ≡ true)) → In x (y ∷ xs) × (test x ≡ true)
      by true e (inl is) rest = (inl is, ap test is ∙ e)
      by true e (inr h) rest = let found = rest h in (inr found.0, found.1)
      by false e h rest = let found = rest h in (inr found.0, found.1)

  pub any-append : (test : A → Bool) (xs ys : List A) → list_any test (xs ++ ys) ≡ (list_any test xs || list_any test ys)
  any-append test [] ys = refl
  any-append test (x ∷ xs) ys = by (test x) (any-append test xs ys)
    where
      by : (b : Bool) → list_any test (xs ++ ys) ≡ (list_any test xs || list_any test ys) → (b || list_any test (xs ++ ys)) ≡ ((b || list_any test xs) || list_any test ys)
      by true rest = refl
      by false rest = rest

  -- a member that passes, of a list of which some passes
  pub any_member : (test : A → Bool) (xs : List A) → list_any test xs ≡ true → (x : A) × In x xs × (test x ≡ true)
  any_member test [] h = let bad : ⊥ = cc in absurd bad
  any_member test (x ∷ xs) h = by (test x) refl h (any_member test xs)
    where
      by : (b : Bool) → test x ≡ b → (b || list_any test xs) ≡ true → (list_any test xs ≡ true → (y : A) × In y xs × (test y ≡ true)) → (y : A) × In y (x ∷ xs) × (test y ≡ true)
      by true e h rest = (x, inl refl, e)
      by false e h rest = let found = rest h in (found.0, inr found.1, found.2)

  pub member_any : (test : A → Bool) (x : A) (xs : List A) → In x xs → test x ≡ true → list_any test xs ≡ true
  member_any test x [] h t = absurd h
  member_any test x (y ∷ xs) (inl is) t = ap (λ b. b || list_any test xs) (sym (ap test is) ∙ t)
  member_any test x (y ∷ xs) (inr h) t = late (test y) (member_any test x xs h t)
    where
      late : (b : Bool) → list_any test xs ≡ true → (b || list_any test xs) ≡ true
      late true e = refl
      late false e = e
