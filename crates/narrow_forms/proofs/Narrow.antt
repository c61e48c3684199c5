-- The form of a narrow term, and the rows of a narrow limit.
use Rattle.std.proofs.Common.{◌≡◌, ℕ, zero, suc, ◌+◌, ℤ, pos, negsuc, ◌+ℤ◌, ◌*ℤ◌, Bool, true, false, ◌&&◌, if◌then◌else◌, nat_eq, List, [], ◌∷◌, ◌++◌, map, length, Option, Some, None, ◌⊎◌, inl, inr, refl, sym, ap, ◌∙◌, arith}
use Rattle.std.specs.Option.{option_map}
use Rattle.std.proofs.lemmas.Int.{ints}
use Rattle.std.proofs.lemmas.Bool.Decides.{nat_tests}
use Rattle.std.proofs.Math.IntN as Z
use Rattle.std.specs.List.{list_all, AllByRecursion, range_with_len}
use Rattle.std.specs.Cmp.{unsigned_ties}
use Rattle.std.specs.Ordering.{is_eq}
use Rattle.std.specs.declared.cmp.Ordering.TheVariants.{Less}
use Rattle.core_language.specs.Names.{Ident, same}
use Rattle.core_language.specs.Terms.{Term, Limit, Relation}
use Rattle.core_language.specs.Terms as written
use Rattle.linear_forms.specs.Terms.{times_of, sum_of, unit_at, less, one}
use Rattle.linear_forms.specs.Normal.{fits, row_fits}
use Rattle.linear_forms.specs.NormalTerms.{bare_of}
use Rattle.linear_forms.specs.Substitution.{place_of}
use Rattle.linear_forms.proofs.SameNames.{same_is}
use Rattle.linear_forms.proofs.Counts.{sum-append, sum-less}
use Rattle.narrow_terms.specs.Numbers.{is_narrow, is_narrow_limit, rows_of}
use Rattle.outline_language.specs.LinearForms.{Var, Free, Inside, Multiple, LinearForm, variable_order, same_var, constant_form, minus, plus_one, of_name, multiples_at, form_fits, free_values, row_of}
use Rattle.outline_language.specs.Canonical.{AreCanonical, IsCanonical}
use Rattle.outline_language.specs.Nameless.{at_place, named_form, nameless_term, at_most_zero}
use Rattle.outline_language.proofs.Sums.{sums_canonical}
use Rattle.narrow_forms.specs.Laws.{NarrowTermsFit, NarrowLimitsFit}
use Rattle.narrow_forms.proofs.Counts.{multiples-add, multiples_of_term, constant_of_term, narrow_sum, narrow_bare}

-- ---- one variable

-- 1 at one variable, and 0 elsewhere
abbrev at_one : Var → Var → ℤ
at_one v w = if same_var v w then pos 1 else pos 0

nat-self : (i : ℕ) → nat_eq i i ≡ true
nat-self i = grind (arith, nat_tests)

nat-is : (i j : ℕ) → nat_eq i j ≡ true → i ≡ j
nat-is i j is = grind (arith, nat_tests)

var-self : (v : Var) → same_var v v ≡ true
var-self (Free i) = nat-self i
var-self (Inside i) = nat-self i

var-is : (v w : Var) → same_var v w ≡ true → v ≡ w
var-is (Free i) (Free j) is = ap Free (nat-is i j is)
var-is (Inside i) (Inside j) is = ap Inside (nat-is i j is)
var-is (Free i) (Inside j) is = cc
var-is (Inside i) (Free j) is = cc

-- ---- canonical multiples

other_var : (v w : Var) → variable_order v w ≡ Less → same_var v w ≡ false
other_var (Free i) (Free j) is = unsigned_ties i j ∙ ap is_eq is
other_var (Inside i) (Inside j) is = unsigned_ties i j ∙ ap is_eq is
other_var (Inside i) (Free j) is = refl
other_var (Free i) (Inside j) is = cc

-- what the variable before all of them counts
none_before : (v : Var) (ms : List Multiple) → AllByRecursion (λ n. variable_order v n.0 ≡ Less) ms → multiples_at (at_one v) ms ≡ pos 0
none_before v [] before = refl
none_before v (m ∷ ms) (here, more) =
    let zero_here : m.1 *ℤ at_one v m.0 ≡ pos 0 = ap (λ b. m.1 *ℤ (if b then pos 1 else pos 0)) (other_var v m.0 here) ∙ Z.*ℤ-zero m.1 in
    omega (arith, ints, zero_here, none_before v ms more)

and_true : (a b : Bool) → a ≡ true → b ≡ true → (a && b) ≡ true
and_true a b p q = ap (λ x. x && b) p ∙ q

-- where 64 bits hold what each variable counts, they hold each multiple
fits_all : (ms : List Multiple) → AreCanonical ms → ((v : Var) → fits (multiples_at (at_one v) ms) ≡ true) → list_all (λ m. fits m.1) ms ≡ true
fits_all [] canonical fit = refl
fits_all (m ∷ ms) (before, some, rest) fit = and_true (fits m.1) _ (sym (ap fits first) ∙ fit m.0) (fits_all ms rest others)
  where
    one_here : m.1 *ℤ at_one m.0 m.0 ≡ m.1
    one_here = ap (λ b. m.1 *ℤ (if b then pos 1 else pos 0)) (var-self m.0) ∙ omega (arith, ints)

    first : multiples_at (at_one m.0) (m ∷ ms) ≡ m.1
    first = omega (arith, ints, one_here, none_before m.0 ms before)

    others : (v : Var) → fits (multiples_at (at_one v) ms) ≡ true
    others v = by (same_var v m.0) refl
      where
        by : (t : Bool) → same_var v m.0 ≡ t → fits (multiples_at (at_one v) ms) ≡ true
        by true is = ap (λ w. fits (multiples_at (at_one w) ms)) (var-is v m.0 is) ∙ ap fits (none_before m.0 ms before)
        by false is =
            let zero_here : m.1 *ℤ at_one v m.0 ≡ pos 0 = ap (λ b. m.1 *ℤ (if b then pos 1 else pos 0)) is ∙ Z.*ℤ-zero m.1 in
            let equal : multiples_at (at_one v) (m ∷ ms) ≡ multiples_at (at_one v) ms = omega (arith, ints, zero_here) in
            sym (ap fits equal) ∙ fit v

-- ---- names and their places

place_one : (xs : List Ident) (x y : Ident) (i : ℕ) → place_of xs x ≡ Some i → place_of xs y ≡ Some i → x ≡ y
place_one [] x y i p q = cc
place_one (z ∷ zs) x y i p q = by (same z x) (same z y) refl refl p q (place_one zs x y)
  where
    later : (a b : Option ℕ) → place_of zs x ≡ a → place_of zs y ≡ b → option_map suc a ≡ Some i → option_map suc b ≡ Some i
        → ((j : ℕ) → place_of zs x ≡ Some j → place_of zs y ≡ Some j → x ≡ y) → x ≡ y
    later None b at_x at_y first second again = cc
    later (Some j) None at_x at_y first second again = cc
    later (Some j) (Some k) at_x at_y first second again =
        let equal : suc j ≡ suc k = cc in
        again j at_x (at_y ∙ ap Some (let less : k ≡ j = omega (arith, equal) in less))

    not_first : (b : Option ℕ) → Some 0 ≡ Some i → option_map suc b ≡ Some i → x ≡ y
    not_first None first second = cc
    not_first (Some k) first second = let equal : 0 ≡ suc k = cc in absurd (omega (arith, equal))

    by : (s t : Bool) → same z x ≡ s → same z y ≡ t → (if s then Some 0 else option_map suc (place_of zs x)) ≡ Some i → (if t then Some 0 else option_map suc (place_of zs y)) ≡ Some i
        → ((j : ℕ) → place_of zs x ≡ Some j → place_of zs y ≡ Some j → x ≡ y) → x ≡ y
    by true true is_x is_y first second again = sym (same_is z x is_x) ∙ same_is z y is_y
    by true false is_x is_y first second again = not_first (place_of zs y) first second
    by false true is_x is_y first second again = not_first (place_of zs x) second first
    by false false is_x is_y first second again = later (place_of zs x) (place_of zs y) refl refl first second again

-- the variable of a name that stands at these places
abbrev var_of : Option ℕ → Option ℕ → Option Var
var_of (Some i) q = Some (Inside i)
var_of None (Some j) = Some (Free j)
var_of None None = None

module _ (names around : List Ident) where
  abbrev var_named : Ident → Option Var
  var_named x = var_of (place_of around x) (place_of names x)

  var_one : (x y : Ident) (w : Var) → var_named x ≡ Some w → var_named y ≡ Some w → x ≡ y
  var_one x y w p q = by (place_of around x) (place_of names x) (place_of around y) (place_of names y) refl refl refl refl p q
    where
      inside : (i j : ℕ) → Some (Inside i) ≡ Some w → Some (Inside j) ≡ Some w → i ≡ j
      inside i j first second = cc

      free : (i j : ℕ) → Some (Free i) ≡ Some w → Some (Free j) ≡ Some w → i ≡ j
      free i j first second = cc

      by : (a b c d : Option ℕ) → place_of around x ≡ a → place_of names x ≡ b → place_of around y ≡ c → place_of names y ≡ d → var_of a b ≡ Some w → var_of c d ≡ Some w → x ≡ y
      by (Some i) b (Some j) d ax bx ay by_ first second = place_one around x y j (ax ∙ ap Some (inside i j first second)) ay
      by (Some i) b None (Some j) ax bx ay by_ first second = cc
      by (Some i) b None None ax bx ay by_ first second = cc
      by None (Some i) (Some j) d ax bx ay by_ first second = cc
      by None (Some i) None (Some j) ax bx ay by_ first second = place_one names x y j (bx ∙ ap Some (free i j first second)) by_
      by None (Some i) None None ax bx ay by_ first second = cc
      by None None c d ax bx ay by_ first second = cc

  -- ---- a valuation that is 1 at one variable at most, and 0 elsewhere

  module _ (f : Var → ℤ) (bit : (w : Var) → (f w ≡ pos 0) ⊎ (f w ≡ pos 1)) (single : (v w : Var) → f v ≡ pos 1 → f w ≡ pos 1 → v ≡ w) where
    abbrev count : Ident → ℤ
    count x = multiples_at f (named_form names around x).multiples

    abbrev worth : Option Var → ℤ
    worth None = pos 0
    worth (Some w) = f w

    count_is : (x : Ident) → count x ≡ worth (var_named x)
    count_is x = by (place_of around x) (place_of names x)
      where
        once : (w : Var) → (pos 1 *ℤ f w) +ℤ pos 0 ≡ f w
        once w = omega (arith, ints)

        by : (a b : Option ℕ) → multiples_at f (at_place a (at_place b (constant_form (pos 0)) Free) Inside).multiples ≡ worth (var_of a b)
        by (Some i) b = once (Inside i)
        by None (Some j) = once (Free j)
        by None None = refl

    either : (x : Ident) → (count x ≡ pos 0) ⊎ (count x ≡ pos 1)
    either x = by (var_named x) (count_is x)
      where
        by : (o : Option Var) → count x ≡ worth o → (count x ≡ pos 0) ⊎ (count x ≡ pos 1)
        by None is = inl is
        by (Some w) is = pick (bit w)
          where
            pick : (f w ≡ pos 0) ⊎ (f w ≡ pos 1) → (count x ≡ pos 0) ⊎ (count x ≡ pos 1)
            pick (inl none) = inl (is ∙ none)
            pick (inr here) = inr (is ∙ here)

    one_name : (x y : Ident) → count x ≡ pos 1 → count y ≡ pos 1 → x ≡ y
    one_name x y p q = by (var_named x) (var_named y) refl refl (sym (count_is x) ∙ p) (sym (count_is y) ∙ q)
      where
        by : (a b : Option Var) → var_named x ≡ a → var_named y ≡ b → worth a ≡ pos 1 → worth b ≡ pos 1 → x ≡ y
        by (Some v) (Some w) ax bx first second = var_one x y w (ax ∙ ap Some (single v w first second)) bx
        by None b ax bx first second = cc
        by (Some v) None ax bx first second = cc

    -- what the variable counts of a narrow term
    pub sum_fits : (t : Term) → is_narrow t ≡ true → fits (sum_of (pos 0) count t) ≡ true
    sum_fits t narrow = narrow_sum count either one_name t narrow

  no_constant : (x : Ident) → (named_form names around x).constant ≡ pos 0
  no_constant x = by (place_of around x) (place_of names x)
    where
      by : (a b : Option ℕ) → (at_place a (at_place b (constant_form (pos 0)) Free) Inside).constant ≡ pos 0
      by (Some i) b = refl
      by None (Some j) = refl
      by None None = refl

  bit_at : (v w : Var) → (at_one v w ≡ pos 0) ⊎ (at_one v w ≡ pos 1)
  bit_at v w = by (same_var v w)
    where
      by : (t : Bool) → ((if t then pos 1 else pos 0) ≡ pos 0) ⊎ ((if t then pos 1 else pos 0) ≡ pos 1)
      by true = inr refl
      by false = inl refl

  one_at : (v w : Var) → at_one v w ≡ pos 1 → v ≡ w
  one_at v w is = by (same_var v w) refl is
    where
      by : (t : Bool) → same_var v w ≡ t → (if t then pos 1 else pos 0) ≡ pos 1 → v ≡ w
      by true same one_here = var-is v w same
      by false same one_here = cc

  canonical_term : (t : Term) → IsCanonical (nameless_term names around t)
  canonical_term [] = tt
  canonical_term (p ∷ ps) = sums_canonical (times_of p) (of_name (named_form names around) p.name) (nameless_term names around ps) (canonical_term ps)

  pub term_fits : (t : Term) → is_narrow t ≡ true → form_fits (nameless_term names around t) ≡ true
  term_fits t narrow =
      and_true (list_all (λ m. fits m.1) (nameless_term names around t).multiples) _
      (fits_all (nameless_term names around t).multiples (canonical_term t)
      (λ v. ap fits (multiples_of_term (named_form names around) (at_one v) t)
      ∙ sum_fits (at_one v) (bit_at v) (λ u w first second. sym (one_at v u first) ∙ one_at v w second) t narrow))
      (ap fits (constant_of_term (named_form names around) no_constant t) ∙ narrow_bare t narrow)

pub narrow_terms_fit : NarrowTermsFit
narrow_terms_fit ints around t narrow = term_fits ints around t narrow

-- ---- rows

bit_unit : (i j : ℕ) → (unit_at i j ≡ pos 0) ⊎ (unit_at i j ≡ pos 1)
bit_unit zero zero = inr refl
bit_unit zero (suc j) = inl refl
bit_unit (suc i) zero = inl refl
bit_unit (suc i) (suc j) = bit_unit i j

unit_is : (i j : ℕ) → unit_at i j ≡ pos 1 → i ≡ j
unit_is zero zero is = refl
unit_is zero (suc j) is = cc
unit_is (suc i) zero is = cc
unit_is (suc i) (suc j) is = ap suc (unit_is i j is)

module _ (i : ℕ) where
  abbrev at_place_i : Var → ℤ
  at_place_i = free_values (unit_at i)

  bit_place : (w : Var) → (at_place_i w ≡ pos 0) ⊎ (at_place_i w ≡ pos 1)
  bit_place (Free j) = bit_unit i j
  bit_place (Inside j) = inl refl

  is_place : (w : Var) → at_place_i w ≡ pos 1 → w ≡ Free i
  is_place (Free j) is = ap Free (sym (unit_is i j is))
  is_place (Inside j) is = cc

  one_place : (v w : Var) → at_place_i v ≡ pos 1 → at_place_i w ≡ pos 1 → v ≡ w
  one_place v w first second = is_place v first ∙ sym (is_place w second)

all_of_range : (g : ℕ → ℤ) → ((i : ℕ) → fits (g i) ≡ true) → (a n : ℕ) → list_all fits (map g (range_with_len a n)) ≡ true
all_of_range g fit a zero = refl
all_of_range g fit a (suc n) = and_true (fits (g a)) _ (fit a) (all_of_range g fit (a + 1) n)

module _ (names : List Ident) where
  abbrev form_of : Term → LinearForm
  form_of t = nameless_term names [] t

  -- the row of a form that counts what a narrow term counts
  row_narrow : (g : LinearForm) (t : Term) → is_narrow t ≡ true
      → ((f : Var → ℤ) → multiples_at f g.multiples ≡ sum_of (pos 0) (λ x. multiples_at f (named_form names [] x).multiples) t) → g.constant ≡ bare_of t
      → row_fits (row_of (length names) g) ≡ true
  row_narrow g t narrow counts constant =
      and_true (list_all fits (map (λ i. multiples_at (free_values (unit_at i)) g.multiples) (range_with_len 0 (length names)))) _
      (all_of_range (λ i. multiples_at (free_values (unit_at i)) g.multiples)
      (λ i. ap fits (counts (free_values (unit_at i))) ∙ sum_fits names [] (free_values (unit_at i)) (bit_place i) (one_place i) t narrow) 0 (length names))
      (ap fits constant ∙ narrow_bare t narrow)

  difference_counts : (a b : Term) (f : Var → ℤ) → multiples_at f (minus (form_of a) (form_of b)).multiples ≡ sum_of (pos 0) (λ x. multiples_at f (named_form names [] x).multiples) (less a b)
  difference_counts a b f =
      omega (
        arith,
        ints,
        multiples-add f (negsuc 0) (form_of b).multiples (form_of a).multiples,
        multiples_of_term (named_form names []) f a,
        multiples_of_term (named_form names []) f b,
        sum-less (pos 0) (λ x. multiples_at f (named_form names [] x).multiples) a b,
      )

  difference_constant : (a b : Term) → (minus (form_of a) (form_of b)).constant ≡ bare_of (less a b)
  difference_constant a b =
      omega (arith, ints, constant_of_term (named_form names []) (no_constant names []) a, constant_of_term (named_form names []) (no_constant names []) b, sum-less (pos 1) (λ x. pos 0) a b)

  difference_row : (a b : Term) → is_narrow (less a b) ≡ true → row_fits (row_of (length names) (minus (form_of a) (form_of b))) ≡ true
  difference_row a b narrow = row_narrow (minus (form_of a) (form_of b)) (less a b) narrow (difference_counts a b) (difference_constant a b)

  less_row : (a b : Term) → is_narrow (less a b ++ one ∷ []) ≡ true → row_fits (row_of (length names) (plus_one (minus (form_of a) (form_of b)))) ≡ true
  less_row a b narrow =
      row_narrow (plus_one (minus (form_of a) (form_of b))) (less a b ++ one ∷ []) narrow
      (λ f. omega (arith, ints, difference_counts a b f, sum-append (pos 0) (λ x. multiples_at f (named_form names [] x).multiples) (less a b) (one ∷ [])))
      (omega (arith, ints, difference_constant a b, sum-append (pos 1) (λ x. pos 0) (less a b) (one ∷ [])))

pub narrow_limits_fit : NarrowLimitsFit
unfolding is_narrow_limit
narrow_limits_fit ints limit narrow = by limit.relation narrow
  where
    first : (a b : Bool) → (a && b) ≡ true → a ≡ true
    first true b is = refl
    first false b is = cc

    second : (a b : Bool) → (a && b) ≡ true → b ≡ true
    second true b is = is
    second false b is = cc

    by : (r : Relation) → list_all is_narrow (rows_of r limit.left limit.right) ≡ true
        → list_all (λ g. row_fits (row_of (length ints) g)) (at_most_zero r (nameless_term ints [] limit.left) (nameless_term ints [] limit.right)) ≡ true
    by written.AtMost all = and_true _ true (difference_row ints limit.left limit.right (first _ true all)) refl
    by written.Less all = and_true _ true (less_row ints limit.left limit.right (first _ true all)) refl
    by written.Same all =
        and_true _ _ (difference_row ints limit.left limit.right (first _ _ all))
        (and_true _ true (difference_row ints limit.right limit.left (first _ true (second (is_narrow (less limit.left limit.right)) _ all))) refl)
