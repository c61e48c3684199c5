-- Sums of parts are linear in what names and bare numbers count, and so normal forms have the values of terms.
use Rattle.std.proofs.Common.{◌≡◌, ℕ, zero, suc, ◌+◌, ℤ, pos, ◌+ℤ◌, ◌*ℤ◌, Bool, true, false, if◌then◌else◌, List, [], ◌∷◌, map, length, Option, Some, None, refl, sym, ◌∙◌, arith, add-zero}
use Rattle.std.proofs.lemmas.Int.{ints}
use Rattle.std.proofs.Math.IntN as Z
use Rattle.std.proofs.lemmas.List.FromFn.{length-map-range_with_len}
use Rattle.std.specs.List.{range_with_len}
use Rattle.core_language.specs.Names.{Ident, same}
use Rattle.core_language.specs.Terms.{Term}
use Rattle.farkas_check.specs.declared.cert.Row.{Row}
use Rattle.farkas_check.specs.Rows.{linear_part, value_at}
use Rattle.farkas_check.proofs.Products.{distribute, distribute_right, times_times}
use Rattle.linear_forms.specs.Terms.{IntVar, IntNames, times_of, counted, sum_of, named, meaning_at, by_place, term_value, unit_at, coefficient_of, constant_of, normal_form}

-- sums of parts are linear in what names and bare numbers count
pub sum_of-cong : (u : ℤ) (a b : Ident → ℤ) (t : Term) → ((x : Ident) → a x ≡ b x) → sum_of u a t ≡ sum_of u b t
sum_of-cong u a b [] h = refl
sum_of-cong u a b (p ∷ ps) h = rw (one p.name, sum_of-cong u a b ps h)
  where
    one : (n : Option Ident) → counted u a n ≡ counted u b n
    one None = refl
    one (Some x) = h x

sum_of-add : (u v : ℤ) (a b : Ident → ℤ) (t : Term) → sum_of (u +ℤ v) (λ x. a x +ℤ b x) t ≡ sum_of u a t +ℤ sum_of v b t
sum_of-add u v a b [] = refl
sum_of-add u v a b (p ∷ ps) = rw (one p.name) (omega (arith, ints, distribute (times_of p) (counted u a p.name) (counted v b p.name), sum_of-add u v a b ps))
  where
    one : (n : Option Ident) → counted (u +ℤ v) (λ x. a x +ℤ b x) n ≡ counted u a n +ℤ counted v b n
    one None = refl
    one (Some x) = refl

sum_of-scale : (u k : ℤ) (a : Ident → ℤ) (t : Term) → sum_of (u *ℤ k) (λ x. a x *ℤ k) t ≡ sum_of u a t *ℤ k
sum_of-scale u k a [] = sym (Z.zero-*ℤ k)
sum_of-scale u k a (p ∷ ps) = rw (one p.name) (omega (arith, ints, times_times (times_of p) (counted u a p.name) k, distribute_right (times_of p *ℤ counted u a p.name) (sum_of u a ps) k, sum_of-scale u k a ps))
  where
    one : (n : Option Ident) → counted (u *ℤ k) (λ x. a x *ℤ k) n ≡ counted u a n *ℤ k
    one None = refl
    one (Some x) = refl

named-cong : (vs : List IntVar) (u : ℤ) (a b : Ident → ℤ) (x : Ident) → ((y : Ident) → a y ≡ b y) → named vs u a x ≡ named vs u b x
named-cong [] u a b x h = h x
named-cong (v ∷ vs) u a b x h = rw (sum_of-cong u a b v.term h, named-cong vs u a b x h)

named-add : (vs : List IntVar) (u v : ℤ) (a b : Ident → ℤ) (x : Ident) → named vs (u +ℤ v) (λ y. a y +ℤ b y) x ≡ named vs u a x +ℤ named vs v b x
named-add [] u v a b x = refl
named-add (w ∷ ws) u v a b x = pick (same w.name x) _ _ _ _ _ _ (sum_of-add u v a b w.term) (named-add ws u v a b x)
  where
    pick : (t : Bool) (p q r p' q' r' : ℤ) → p ≡ q +ℤ r → p' ≡ q' +ℤ r' → (if t then p else p') ≡ (if t then q else q') +ℤ (if t then r else r')
    pick true p q r p' q' r' e e' = e
    pick false p q r p' q' r' e e' = e'

named-scale : (vs : List IntVar) (u k : ℤ) (a : Ident → ℤ) (x : Ident) → named vs (u *ℤ k) (λ y. a y *ℤ k) x ≡ named vs u a x *ℤ k
named-scale [] u k a x = refl
named-scale (w ∷ ws) u k a x = pick (same w.name x) _ _ _ _ (sum_of-scale u k a w.term) (named-scale ws u k a x)
  where
    pick : (t : Bool) (p q p' q' : ℤ) → p ≡ q *ℤ k → p' ≡ q' *ℤ k → (if t then p else p') ≡ (if t then q else q') *ℤ k
    pick true p q p' q' e e' = e
    pick false p q p' q' e e' = e'

meaning-cong : (names : IntNames) (u : ℤ) (a b : Ident → ℤ) (t : Term) → ((x : Ident) → a x ≡ b x) → meaning_at names u a t ≡ meaning_at names u b t
meaning-cong names u a b t h = sum_of-cong u (named names.vars u a) (named names.vars u b) t (λ x. named-cong names.vars u a b x h)

meaning-add : (names : IntNames) (u v : ℤ) (a b : Ident → ℤ) (t : Term) → meaning_at names (u +ℤ v) (λ x. a x +ℤ b x) t ≡ meaning_at names u a t +ℤ meaning_at names v b t
meaning-add names u v a b t =
    sum_of-cong (u +ℤ v) (named names.vars (u +ℤ v) (λ x. a x +ℤ b x)) (λ x. named names.vars u a x +ℤ named names.vars v b x) t (named-add names.vars u v a b)
    ∙ sum_of-add u v (named names.vars u a) (named names.vars v b) t

meaning-scale : (names : IntNames) (u k : ℤ) (a : Ident → ℤ) (t : Term) → meaning_at names (u *ℤ k) (λ x. a x *ℤ k) t ≡ meaning_at names u a t *ℤ k
meaning-scale names u k a t =
    sum_of-cong (u *ℤ k) (named names.vars (u *ℤ k) (λ x. a x *ℤ k)) (λ x. named names.vars u a x *ℤ k) t (named-scale names.vars u k a)
    ∙ sum_of-scale u k (named names.vars u a) t

-- sums over the first n places
abbrev sum_to : ℕ → (ℕ → ℤ) → ℤ
sum_to zero g = pos 0
sum_to (suc n) g = g 0 +ℤ sum_to n (λ i. g (suc i))

sum_to-cong : (n : ℕ) (f g : ℕ → ℤ) → ((i : ℕ) → f i ≡ g i) → sum_to n f ≡ sum_to n g
sum_to-cong zero f g h = refl
sum_to-cong (suc n) f g h = rw (h 0, sum_to-cong n (λ i. f (suc i)) (λ i. g (suc i)) (λ i. h (suc i)))

sum_to-zero : (n : ℕ) (w : ℕ → ℤ) → sum_to n (λ i. pos 0 *ℤ w i) ≡ pos 0
sum_to-zero zero w = refl
sum_to-zero (suc n) w = omega (arith, ints, Z.zero-*ℤ (w 0), sum_to-zero n (λ i. w (suc i)))

meaning-zero : (names : IntNames) (t : Term) → meaning_at names (pos 0) (λ x. pos 0) t ≡ pos 0
meaning-zero names t = meaning-scale names (pos 0) (pos 0) (λ x. pos 0) t ∙ Z.*ℤ-zero (meaning_at names (pos 0) (λ x. pos 0) t)

meaning-sum : (names : IntNames) (n : ℕ) (a : ℕ → Ident → ℤ) (w : ℕ → ℤ) (t : Term) → meaning_at names (pos 0) (λ x. sum_to n (λ i. a i x *ℤ w i)) t ≡ sum_to n (λ i. meaning_at names (pos 0) (a i) t *ℤ w i)
meaning-sum names zero a w t = meaning-zero names t
meaning-sum names (suc n) a w t =
    meaning-add names (pos 0) (pos 0) (λ x. a 0 x *ℤ w 0) (λ x. sum_to n (λ i. a (suc i) x *ℤ w (suc i))) t
    ∙ omega (arith, ints, first, meaning-sum names n (λ i. a (suc i)) (λ i. w (suc i)) t)
  where
    first : meaning_at names (pos 0) (λ x. a 0 x *ℤ w 0) t ≡ meaning_at names (pos 0) (a 0) t *ℤ w 0
    first = rw (Z.zero-*ℤ (w 0)) at (meaning-scale names (pos 0) (w 0) (a 0) t)

-- a place is a sum of its units
by_place-cong : (ys : List Ident) (f g : ℕ → ℤ) (x : Ident) → ((i : ℕ) → f i ≡ g i) → by_place ys f x ≡ by_place ys g x
by_place-cong [] f g x h = refl
by_place-cong (y ∷ ys) f g x h = rw (h 0, by_place-cong ys (λ i. f (suc i)) (λ i. g (suc i)) x (λ i. h (suc i)))

by_place-zero : (ys : List Ident) (x : Ident) → by_place ys (λ i. pos 0) x ≡ pos 0
by_place-zero [] x = refl
by_place-zero (y ∷ ys) x = rw (by_place-zero ys x) (pick (same y x))
  where
    pick : (t : Bool) → (if t then pos 0 else pos 0) ≡ pos 0
    pick true = refl
    pick false = refl

by_place-sum : (ys : List Ident) (w : ℕ → ℤ) (x : Ident) → by_place ys w x ≡ sum_to (length ys) (λ i. by_place ys (unit_at i) x *ℤ w i)
by_place-sum [] w x = refl
by_place-sum (y ∷ ys) w x = pick (same y x) (by_place-zero ys x) (by_place-sum ys (λ i. w (suc i)) x)
  where
    pick : (t : Bool) → by_place ys (λ i. pos 0) x ≡ pos 0 → by_place ys (λ i. w (suc i)) x ≡ sum_to (length ys) (λ i. by_place ys (unit_at i) x *ℤ w (suc i)) → (if t then w 0 else by_place ys (λ i. w (suc i)) x) ≡ ((if t then pos 1 else by_place ys (λ i. pos 0) x) *ℤ w 0) +ℤ sum_to (length ys) (λ i. (if t then pos 0 else by_place ys (unit_at i) x) *ℤ w (suc i))
    pick true none rest = omega (arith, ints, sum_to-zero (length ys) (λ i. w (suc i)))
    pick false none rest = rw none (omega (arith, ints, Z.zero-*ℤ (w 0), rest))

linear_range : (f w h : ℕ → ℤ) (a n : ℕ) → ((i : ℕ) → f (a + i) ≡ h i) → linear_part w (map f (range_with_len a n)) ≡ sum_to n (λ i. h i *ℤ w i)
linear_range f w h a zero e = refl
linear_range f w h a (suc n) e = rw (head, linear_range f (λ i. w (suc i)) (λ i. h (suc i)) (a + 1) n rest)
  where
    head : f a ≡ h 0
    head = rw (add-zero a) at (e 0)

    rest : (i : ℕ) → f ((a + 1) + i) ≡ h (suc i)
    rest i = let same : (a + 1) + i ≡ a + suc i = omega arith in rw same (e (suc i))

pub normal_value : (names : IntNames) (term : Term) (values : ℕ → ℤ) → value_at values (normal_form names term) ≡ term_value names values term
normal_value names term values =
    omega (arith, ints, ranged, sym summed, split)
  where
    ranged : linear_part values (map (coefficient_of names term) (range_with_len 0 (length names.ints))) ≡ sum_to (length names.ints) (λ i. coefficient_of names term i *ℤ values i)
    ranged = linear_range (coefficient_of names term) values (coefficient_of names term) 0 (length names.ints) (λ i. let e : 0 + i ≡ i = omega arith in rw e)

    summed : meaning_at names (pos 0) (by_place names.ints values) term ≡ sum_to (length names.ints) (λ i. coefficient_of names term i *ℤ values i)
    summed = meaning-cong names (pos 0) (by_place names.ints values) (λ x. sum_to (length names.ints) (λ i. by_place names.ints (unit_at i) x *ℤ values i)) term (by_place-sum names.ints values)
        ∙ meaning-sum names (length names.ints) (λ i. by_place names.ints (unit_at i)) values term

    split : term_value names values term ≡ constant_of names term +ℤ meaning_at names (pos 0) (by_place names.ints values) term
    split = meaning-cong names (pos 1) (by_place names.ints values) (λ x. pos 0 +ℤ by_place names.ints values x) term (λ x. omega (arith, ints))
        ∙ meaning-add names (pos 1) (pos 0) (λ x. pos 0) (by_place names.ints values) term

-- rows with one value everywhere are one row
linear-zero : (cs : List ℤ) → linear_part (λ i. pos 0) cs ≡ pos 0
linear-zero [] = refl
linear-zero (c ∷ cs) = omega (arith, ints, Z.*ℤ-zero c, linear-zero cs)

abbrev shifted : (ℕ → ℤ) → ℕ → ℤ
shifted w zero = pos 0
shifted w (suc i) = w i

same_parts : (cs ds : List ℤ) → length cs ≡ length ds → ((w : ℕ → ℤ) → linear_part w cs ≡ linear_part w ds) → cs ≡ ds
same_parts [] [] l h = refl
same_parts [] (d ∷ ds) l h = absurd (omega arith)
same_parts (c ∷ cs) [] l h = absurd (omega arith)
same_parts (c ∷ cs) (d ∷ ds) l h =
    let head : c ≡ d = omega (arith, ints, h (unit_at 0), linear-zero cs, linear-zero ds) in
    rw (head, same_parts cs ds (omega arith) (λ w. omega (arith, ints, h (shifted w), Z.*ℤ-zero c, Z.*ℤ-zero d)))

same_row : (r s : Row) → length r.coefficients ≡ length s.coefficients → ((w : ℕ → ℤ) → value_at w r ≡ value_at w s) → r ≡ s
same_row r s l h =
    let constant : r.constant ≡ s.constant = omega (arith, ints, h (λ i. pos 0), linear-zero r.coefficients, linear-zero s.coefficients) in
    let coefficients : r.coefficients ≡ s.coefficients = same_parts r.coefficients s.coefficients l (λ w. omega (arith, ints, h w)) in
    made r.coefficients s.coefficients r.constant s.constant coefficients constant
  where
    made : (cs ds : List ℤ) (c d : ℤ) → cs ≡ ds → c ≡ d → ◌≡◌ {A = Row} (record { coefficients = cs; constant = c }) (record { coefficients = ds; constant = d })
    made cs ds c d e k = rw (e, k)

pub only_row : (names : IntNames) (term : Term) (row : Row) → length row.coefficients ≡ length names.ints → ((values : ℕ → ℤ) → value_at values row ≡ term_value names values term) → row ≡ normal_form names term
only_row names term row l h = same_row row (normal_form names term) (l ∙ sym (length-map-range_with_len (coefficient_of names term) 0 (length names.ints))) (λ w. h w ∙ sym (normal_value names term w))
