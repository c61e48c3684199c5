-- Entries in order: there is one ascending list of the same entries.
use Rattle.std.proofs.Common.{◌≡◌, ◌⊎◌, inl, inr, List, [], ◌∷◌, ◌++◌, Less, refl, sym, ap, subst, ◌∙◌, arith}
use Rattle.std.specs.Ordering.{nat_cmp, ordering_reverse}
use Rattle.std.specs.Cmp.Lexicographic.{slice_cmp, nat_list_cmp_total}
use Rattle.core_language.specs.Names.{Name}
use Rattle.core_language.specs.Rounds.{Entry}
use Rattle.task_rounds.specs.Members.{In}
use Rattle.task_rounds.proofs.Members.{in_either}
use Rattle.gathered_runs.specs.Gathered.{IsBefore, Ascends}

-- no name comes before another and after it, nor before itself
names_apart : (p q : Name) → slice_cmp nat_cmp p q ≡ Less → slice_cmp nat_cmp q p ≡ Less → ⊥
names_apart p q h g = let both = sym h ∙ nat_list_cmp_total.antisymm p q ∙ ap ordering_reverse g in cc

not_both : (e f : Entry) → IsBefore e f → IsBefore f e → ⊥
not_both e f (inl h) (inl g) = omega arith
not_both e f (inl h) (inr (same_time, g)) = omega arith
not_both e f (inr (same_time, h)) (inl g) = omega arith
not_both e f (inr (same_time, h)) (inr (also, g)) = names_apart e.name f.name h g

module _ (e f : Entry) (es fs : List Entry) (ascends : Ascends (e ∷ es)) (also : Ascends (f ∷ fs)) (left : (x : Entry) → In x (e ∷ es) → In x (f ∷ fs)) (right : (x : Entry) → In x (f ∷ fs) → In x (e ∷ es)) where
  same_first : e ≡ f
  same_first = by (left e (inl refl)) (right f (inl refl))
    where
      by : In e (f ∷ fs) → In f (e ∷ es) → e ≡ f
      by (inl is) other = is
      by (inr h) (inl is) = sym is
      by (inr h) (inr g) = absurd (not_both f e (also.0 e h) (ascends.0 f g))

  rest_left : (x : Entry) → In x es → In x fs
  rest_left x h = by (left x (inr h))
    where
      by : In x (f ∷ fs) → In x fs
      by (inl is) = let before = subst (λ y. IsBefore e y) (is ∙ sym same_first) (ascends.0 x h) in absurd (not_both e e before before)
      by (inr g) = g

  rest_right : (x : Entry) → In x fs → In x es
  rest_right x h = by (right x (inr h))
    where
      by : In x (e ∷ es) → In x es
      by (inl is) = let before = subst (λ y. IsBefore f y) (is ∙ same_first) (also.0 x h) in absurd (not_both f f before before)
      by (inr g) = g

pub one_order : (es fs : List Entry) → Ascends es → Ascends fs → ((x : Entry) → In x es → In x fs) → ((x : Entry) → In x fs → In x es) → es ≡ fs
one_order [] [] a b left right = refl
one_order [] (f ∷ fs) a b left right = absurd (right f (inl refl))
one_order (e ∷ es) [] a b left right = absurd (left e (inl refl))
one_order (e ∷ es) (f ∷ fs) a b left right =
    let first = same_first e f es fs a b left right in
    let rest = one_order es fs a.1 b.1 (rest_left e f es fs a b left right) (rest_right e f es fs a b left right) in
    cc

-- two ascending lists, the first before the second
pub ascends-append : (es fs : List Entry) → Ascends es → Ascends fs → ((e f : Entry) → In e es → In f fs → IsBefore e f) → Ascends (es ++ fs)
ascends-append [] fs a b before = b
ascends-append (e ∷ es) fs a b before = (λ x h. by x (in_either x es fs h), ascends-append es fs a.1 b (λ x y h g. before x y (inr h) g))
  where
    by : (x : Entry) → In x es ⊎ In x fs → IsBefore e x
    by x (inl h) = a.0 x h
    by x (inr h) = before e x (inl refl) h
