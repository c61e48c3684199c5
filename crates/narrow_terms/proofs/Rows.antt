-- The numbers of the rows of limits.
use Rattle.std.proofs.Common.{◌≡◌, if◌then◌else◌, ℕ, zero, suc, ◌+◌, ◌≤◌, length, drop, ℤ, pos, neg_ℤ, ◌+ℤ◌, ◌-ℤ◌, Bool, true, false, not, ◌&&◌, Option, Some, None, List, [], ◌∷◌, ◌++◌, map, refl, sym, ap, ◌∙◌, arith}
use Rattle.std.proofs.lemmas.Int.{ints}
use Rattle.std.proofs.lemmas.List.Folds.{list_all-append}
use Rattle.std.proofs.Math.IntN as Z
use Rattle.std.specs.List.{list_all}
use Rattle.linear_forms.specs.NormalTerms.{one_named, count_of, bare_of}
use Rattle.core_language.specs.Names.{Ident, same}
use Rattle.core_language.specs.Terms.{Part, Term}
use Rattle.farkas_check.proofs.Products.{neg_times}
use Rattle.linear_forms.specs.Terms.{times_of, counted, sum_of, negated, less, one}
use Rattle.linear_forms.specs.Normal.{fits}
use Rattle.linear_forms.proofs.Counts.{sum-append, sum-less}
use Rattle.chan_syntax.specs.declared.linear.Part.{Part as Written}
use Rattle.chan_syntax.specs.declared.linear.Limit.{Limit}
use Rattle.chan_syntax.specs.declared.linear.Relation.TheVariants as relation
use Rattle.chan_syntax.specs.Reading.{part_of, term_of, relation_of, limit_of}
use Rattle.narrow_terms.specs.declared.narrowness.Sums.{Sums}
use Rattle.narrow_terms.specs.Numbers.{name_fits, are_narrow, is_narrow, is_narrow_limit, rows_of}
use Rattle.narrow_terms.specs.Sums.{count_in, difference_in, IsSumOf}

pub narrow-nil : (count : Ident → ℤ) → are_narrow count [] ≡ true
unfolding are_narrow
narrow-nil count = refl

pub narrow-one : (count : Ident → ℤ) (p : Part) (ps : Term) → are_narrow count (p ∷ ps) ≡ (name_fits count p.name && are_narrow count ps)
unfolding are_narrow
narrow-one count p ps = refl

pub ruleset narrow_rules = (narrow-nil, narrow-one)

pub narrow_step : (count : Ident → ℤ) (ps : List Written) (i : ℕ) (part : Written) (b : Bool) → drop i ps ≡ part ∷ drop (i + 1) ps → b ≡ name_fits count part.name
    → are_narrow count (map part_of (drop i ps)) ≡ (b && are_narrow count (map part_of (drop (i + 1) ps)))
narrow_step count ps i part b opened fits_is =
    ap (λ (qs : List Written). are_narrow count (map part_of qs)) opened
    ∙ narrow-one count (part_of part) (map part_of (drop (i + 1) ps))
    ∙ ap (λ c. c && are_narrow count (map part_of (drop (i + 1) ps))) (sym fits_is)

pub narrow_end : (count : Ident → ℤ) (ps : List Written) (i : ℕ) → length ps ≤ i → are_narrow count (map part_of (drop i ps)) ≡ true
narrow_end count ps i le = ap (λ (qs : List Written). are_narrow count (map part_of qs)) (nothing_left ps i le) ∙ narrow-nil count
  where
    nothing_left : (qs : List Written) (k : ℕ) → length qs ≤ k → drop k qs ≡ []
    nothing_left [] zero h = refl
    nothing_left [] (suc k) h = refl
    nothing_left (q ∷ qs) zero h = absurd (omega (arith, h))
    nothing_left (q ∷ qs) (suc k) h = nothing_left qs k (omega (arith, h))

all-same : (f g : Ident → ℤ) → ((x : Ident) → f x ≡ g x) → (t : Term) → are_narrow f t ≡ are_narrow g t
unfolding are_narrow
all-same f g same [] = refl
all-same f g same (p ∷ ps) = ap (λ b. b && are_narrow f ps) (one_same p.name) ∙ ap (λ b. name_fits g p.name && b) (all-same f g same ps)
  where
    one_same : (n : Option Ident) → name_fits f n ≡ name_fits g n
    one_same None = refl
    one_same (Some x) = ap fits (same x)

narrow-append : (f : Ident → ℤ) (a b : Term) → are_narrow f (a ++ b) ≡ (are_narrow f a && are_narrow f b)
unfolding are_narrow
narrow-append f a b = list_all-append (λ part. name_fits f part.name) a b

narrow-negated : (f : Ident → ℤ) (b : Term) → are_narrow f (map negated b) ≡ are_narrow f b
unfolding are_narrow
narrow-negated f [] = refl
narrow-negated f (p ∷ ps) = ap (λ b. name_fits f p.name && b) (narrow-negated f ps)

pub narrow_sum : (t : Term) (sums : Sums) → IsSumOf t sums → (are_narrow (count_in sums) t && fits sums.constant) ≡ is_narrow t
unfolding is_narrow
narrow_sum t sums is =
    ap (λ b. b && fits sums.constant) (all-same (count_in sums) (λ x. count_of x t) is.counts t)
    ∙ ap (λ z. are_narrow (λ x. count_of x t) t && fits z) is.constant

less_narrow : (f g : Ident → ℤ) (a b : Term) → ((x : Ident) → f x ≡ g x) → are_narrow f (less a b) ≡ (are_narrow g a && are_narrow g b)
less_narrow f g a b same = all-same f g same (less a b) ∙ narrow-append g a (map negated b) ∙ ap (λ c. are_narrow g a && c) (narrow-negated g b)

-- the row of two terms of which these are the sums
pub row : (a b : Term) (left right : Sums) → IsSumOf a left → IsSumOf b right
    → ((are_narrow (difference_in left right) a && are_narrow (difference_in left right) b) && fits (left.constant -ℤ right.constant)) ≡ is_narrow (less a b)
unfolding is_narrow difference_in
row a b left right l r =
    ap (λ c. c && fits (left.constant -ℤ right.constant)) (sym (less_narrow (λ x. count_of x (less a b)) (difference_in left right) a b counts))
    ∙ ap (λ z. are_narrow (λ x. count_of x (less a b)) (less a b) && fits z) constants
  where
    counts : (x : Ident) → count_of x (less a b) ≡ count_in left x -ℤ count_in right x
    counts x = rw (l.counts x, r.counts x) (sum-less (pos 0) (one_named x) a b)

    constants : left.constant -ℤ right.constant ≡ bare_of (less a b)
    constants = rw (l.constant, r.constant) (sym (sum-less (pos 1) (λ y. pos 0) a b))

and_true : (b : Bool) → (b && true) ≡ b
and_true true = refl
and_true false = refl

one_narrow : (f : Ident → ℤ) → are_narrow f (one ∷ []) ≡ true
unfolding are_narrow
one_narrow f = refl

pub strict_row : (a b : Term) (left right : Sums) → IsSumOf a left → IsSumOf b right
    → ((are_narrow (difference_in left right) a && are_narrow (difference_in left right) b) && fits ((left.constant +ℤ pos 1) -ℤ right.constant)) ≡ is_narrow (less a b ++ one ∷ [])
unfolding is_narrow difference_in
strict_row a b left right l r =
    ap (λ c. c && fits ((left.constant +ℤ pos 1) -ℤ right.constant)) (sym names)
    ∙ ap (λ z. are_narrow (λ x. count_of x (less a b ++ one ∷ [])) (less a b ++ one ∷ []) && fits z) constants
  where
    counts : (x : Ident) → count_of x (less a b ++ one ∷ []) ≡ count_in left x -ℤ count_in right x
    counts x = rw (l.counts x, r.counts x) (omega (arith, ints, sum-append (pos 0) (one_named x) (less a b) (one ∷ []), sum-less (pos 0) (one_named x) a b))

    names : are_narrow (λ x. count_of x (less a b ++ one ∷ [])) (less a b ++ one ∷ []) ≡ (are_narrow (difference_in left right) a && are_narrow (difference_in left right) b)
    names = narrow-append (λ x. count_of x (less a b ++ one ∷ [])) (less a b) (one ∷ []) ∙ ap (λ c. are_narrow (λ x. count_of x (less a b ++ one ∷ [])) (less a b) && c) (one_narrow (λ x. count_of x (less a b ++ one ∷ []))) ∙ and_true (are_narrow (λ x. count_of x (less a b ++ one ∷ [])) (less a b)) ∙ less_narrow (λ x. count_of x (less a b ++ one ∷ [])) (difference_in left right) a b counts

    constants : (left.constant +ℤ pos 1) -ℤ right.constant ≡ bare_of (less a b ++ one ∷ [])
    constants = rw (l.constant, r.constant) (omega (arith, ints, sum-append (pos 1) (λ y. pos 0) (less a b) (one ∷ []), sum-less (pos 1) (λ y. pos 0) a b))

-- ---- limits by their relations

pub at_most : (l : Limit) → l.relation ≡ relation.AtMost → is_narrow (less (term_of l.left) (term_of l.right)) ≡ is_narrow_limit (limit_of l)
unfolding is_narrow_limit
at_most l is = sym (ap (λ r. list_all is_narrow (rows_of (relation_of r) (term_of l.left) (term_of l.right))) is ∙ and_true (is_narrow (less (term_of l.left) (term_of l.right))))

pub below : (l : Limit) → l.relation ≡ relation.Less → is_narrow (less (term_of l.left) (term_of l.right) ++ one ∷ []) ≡ is_narrow_limit (limit_of l)
unfolding is_narrow_limit
below l is = sym (ap (λ r. list_all is_narrow (rows_of (relation_of r) (term_of l.left) (term_of l.right))) is ∙ and_true (is_narrow (less (term_of l.left) (term_of l.right) ++ one ∷ [])))

pub equal : (l : Limit) → l.relation ≡ relation.Same
    → (is_narrow (less (term_of l.left) (term_of l.right)) && is_narrow (less (term_of l.right) (term_of l.left))) ≡ is_narrow_limit (limit_of l)
unfolding is_narrow_limit
equal l is =
    sym (ap (λ r. list_all is_narrow (rows_of (relation_of r) (term_of l.left) (term_of l.right))) is
    ∙ ap (λ b. is_narrow (less (term_of l.left) (term_of l.right)) && b) (and_true (is_narrow (less (term_of l.right) (term_of l.left)))))
