-- Turns of tasks that are apart: what is seen of the run changes only at the turn that concerns it.
use Rattle.std.proofs.Common.{◌≡◌, inl, inr, Bool, true, false, List, [], ◌∷◌, refl, sym, ap, ◌∙◌}
use Rattle.task_rounds.specs.Members.{In}

-- S are runs, K names; `ready s q` says that in s the turn of q is still as it was at the start
module _ {S K X : Type 0} (turn : S → K → S) (Ready : S → K → Type 0) (IsMover : K → Type 0) (seen : S → X) (concerns : K → Bool) (change : K → X → X) where
  abbrev pub turns : S → List K → S
  turns s [] = s
  turns s (p ∷ ps) = turns (turn s p) ps

  -- each name is another than those after it
  abbrev pub AreApart : List K → Type 0
  AreApart [] = Unit {0}
  AreApart (p ∷ ps) = ((q : K) → In q ps → p ≡ q → ⊥) × AreApart ps

  module _ (stays : (s : S) (p q : K) → IsMover p → IsMover q → (p ≡ q → ⊥) → Ready s p → Ready s q → Ready (turn s p) q)
      (keeps : (s : S) (p : K) → IsMover p → Ready s p → concerns p ≡ false → seen (turn s p) ≡ seen s)
      (sets : (s : S) (p : K) → IsMover p → Ready s p → concerns p ≡ true → seen (turn s p) ≡ change p (seen s))
      (alone : (p q : K) → IsMover p → IsMover q → concerns p ≡ true → concerns q ≡ true → (p ≡ q → ⊥) → ⊥) where
    next_ready : (s : S) (p : K) (ps : List K) → AreApart (p ∷ ps) → ((q : K) → In q (p ∷ ps) → IsMover q) → ((q : K) → In q (p ∷ ps) → Ready s q) → (q : K) → In q ps → Ready (turn s p) q
    next_ready s p ps apart move ready q h = stays s p q (move p (inl refl)) (move q (inr h)) (apart.0 q h) (ready p (inl refl)) (ready q (inr h))

    pub untouched : (ps : List K) (s : S) → AreApart ps → ((q : K) → In q ps → IsMover q) → ((q : K) → In q ps → Ready s q) → ((q : K) → In q ps → concerns q ≡ false) → seen (turns s ps) ≡ seen s
    untouched [] s apart move ready none = refl
    untouched (p ∷ ps) s apart move ready none =
        untouched ps (turn s p) apart.1 (λ q h. move q (inr h)) (next_ready s p ps apart move ready) (λ q h. none q (inr h))
        ∙ keeps s p (move p (inl refl)) (ready p (inl refl)) (none p (inl refl))

    pub touched : (ps : List K) (s : S) → AreApart ps → ((q : K) → In q ps → IsMover q) → ((q : K) → In q ps → Ready s q) → (r : K) → In r ps → concerns r ≡ true → seen (turns s ps) ≡ change r (seen s)
    touched [] s apart move ready r h c = absurd h
    touched (p ∷ ps) s apart move ready r (inl is) c =
        untouched ps (turn s p) apart.1 (λ q h. move q (inr h)) (next_ready s p ps apart move ready) others
        ∙ sets s p (move p (inl refl)) (ready p (inl refl)) mine
        ∙ ap (λ q. change q (seen s)) (sym is)
      where
        mine : concerns p ≡ true
        mine = ap concerns (sym is) ∙ c

        others : (q : K) → In q ps → concerns q ≡ false
        others q h = by (concerns q) refl
          where
            by : (b : Bool) → concerns q ≡ b → concerns q ≡ false
            by false e = e
            by true e = absurd (alone p q (move p (inl refl)) (move q (inr h)) mine e (apart.0 q h))
    touched (p ∷ ps) s apart move ready r (inr h) c =
        touched ps (turn s p) apart.1 (λ q g. move q (inr g)) (next_ready s p ps apart move ready) r h c
        ∙ ap (change r) (keeps s p (move p (inl refl)) (ready p (inl refl)) other)
      where
        other : concerns p ≡ false
        other = by (concerns p) refl
          where
            by : (b : Bool) → concerns p ≡ b → concerns p ≡ false
            by false e = e
            by true e = absurd (alone p r (move p (inl refl)) (move r (inr h)) e c (apart.0 r h))
