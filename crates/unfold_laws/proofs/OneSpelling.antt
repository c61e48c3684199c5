-- A term in normal form is the only one of its value.
use Rattle.std.proofs.Common.{◌≡◌, ◌≢◌, true≢false, ℕ, ℤ, pos, ◌+ℤ◌, ◌*ℤ◌, Bool, true, false, List, [], ◌∷◌, All, map, Option, Some, None, refl, sym, ap, ◌∙◌, subst, arith}
use Rattle.std.specs.Ordering.{nat_cmp, is_eq}
use Rattle.std.specs.Cmp.{IsTotalOrder}
use Rattle.std.specs.Cmp.Lexicographic.{slice_cmp, texts_ties, nat_list_cmp_total}
use Rattle.std.specs.declared.cmp.Ordering.TheVariants.{Less}
use Rattle.std.specs.List.{AllByRecursion}
use Rattle.std.specs.List.Sorted.{IsStrictlySortedBy}
use Rattle.std.proofs.lemmas.Map.Keys.{sorted_head, sorted_tail}
use Rattle.std.proofs.lemmas.List.Elements.{All-head, All-tail}
use Rattle.std.proofs.lemmas.Int.{ints}
use Rattle.std.proofs.Math.IntN as Z
use Rattle.core_language.specs.Names.{Ident, same}
use Rattle.core_language.specs.Terms.{Term}
use Rattle.linear_forms.specs.Terms.{times_of, counted, sum_of}
use Rattle.linear_forms.specs.NormalTerms.{Counted, signed, named_parts, spelled, IsNormal, one_named, count_of, bare_of}
use Rattle.linear_forms.specs.Substitution.{Var, Free, Inside, place_of, at_place, sum_under}
use Rattle.linear_forms.proofs.Linear.{sum_of-cong}
use Rattle.linear_forms.proofs.SameNames.{same_is, same-self, same-turned}
use Rattle.linear_forms.proofs.Counts.{sum-append}
use Rattle.linear_forms.proofs.SpelledSums.{sum-signed, count-spelled, bare-spelled}
use Rattle.linear_forms.proofs.Places.{name_at, name_at-place}

abbrev counts_of : List Counted → Ident → ℤ
counts_of cs x = count_of x (named_parts cs)

abbrev names_in : List Counted → List Ident
names_in cs = map (λ c. c.0) cs

abbrev IsBelow : Ident → List Ident → Type 0
IsBelow x ys = AllByRecursion (λ y. slice_cmp nat_cmp x y ≡ Less) ys

abbrev IsOrdered : List Ident → Type 0
IsOrdered = IsStrictlySortedBy (slice_cmp nat_cmp)

-- ---- lists of counts

times_one : (z : ℤ) → z *ℤ pos 1 ≡ z
unfolding Z.one
times_one z = Z.*ℤ-one z

counts-cons : (c : Counted) (cs : List Counted) (x : Ident) → counts_of (c ∷ cs) x ≡ (c.1 *ℤ one_named x c.0) +ℤ counts_of cs x
counts-cons c cs x = omega (arith, ints, sum-append (pos 0) (one_named x) (signed (Some c.0) c.1 ∷ []) (named_parts cs), sum-signed (pos 0) (one_named x) (Some c.0) c.1)

counts-here : (c : Counted) (cs : List Counted) → counts_of cs c.0 ≡ pos 0 → counts_of (c ∷ cs) c.0 ≡ c.1
counts-here c cs none =
    let one : one_named c.0 c.0 ≡ pos 1 = rw (same-self c.0) refl in
    counts-cons c cs c.0 ∙ ap (λ z. (c.1 *ℤ z) +ℤ counts_of cs c.0) one ∙ omega (arith, ints, times_one c.1, none)

counts-later : (c : Counted) (cs : List Counted) (x : Ident) → same x c.0 ≡ false → counts_of (c ∷ cs) x ≡ counts_of cs x
counts-later c cs x other =
    let nothing : one_named x c.0 ≡ pos 0 = rw other refl in
    counts-cons c cs x ∙ ap (λ z. (c.1 *ℤ z) +ℤ counts_of cs x) nothing ∙ omega (arith, ints, Z.*ℤ-zero c.1)

not_itself : (x y : Ident) → slice_cmp nat_cmp x y ≡ Less → same x y ≡ false
not_itself x y less = texts_ties x y ∙ ap is_eq less

-- a name below all others isn't counted
absent : (x : Ident) (cs : List Counted) → IsBelow x (names_in cs) → counts_of cs x ≡ pos 0
absent x [] below = refl
absent x (c ∷ cs) below = counts-later c cs x (not_itself x c.0 below.0) ∙ absent x cs below.1

-- a name that is counted is one of them
counted_below : (y x : Ident) (cs : List Counted) → IsBelow y (names_in cs) → counts_of cs x ≢ pos 0 → slice_cmp nat_cmp y x ≡ Less
counted_below y x [] below some = absurd (some refl)
counted_below y x (c ∷ cs) below some = pick (same x c.0) refl (counted_below y x cs below.1)
  where
    pick : (b : Bool) → same x c.0 ≡ b → (counts_of cs x ≢ pos 0 → slice_cmp nat_cmp y x ≡ Less) → slice_cmp nat_cmp y x ≡ Less
    pick true q later = subst (λ z. slice_cmp nat_cmp y z ≡ Less) (sym (same_is x c.0 q)) below.0
    pick false q later = later (λ e. some (counts-later c cs x q ∙ e))

not_both : (x y : Ident) → slice_cmp nat_cmp x y ≡ Less → slice_cmp nat_cmp y x ≡ Less → ⊥
not_both x y less more =
    let order : IsTotalOrder (slice_cmp nat_cmp) = nat_list_cmp_total in
    let itself : slice_cmp nat_cmp x x ≡ Less = order.trans x y x less more in
    true≢false (sym (same-self x) ∙ not_itself x x itself)

-- lists in order that count the same are the same
one_list : (cs ds : List Counted) → IsOrdered (names_in cs) → IsOrdered (names_in ds) → All (λ (c : Counted). c.1 ≢ pos 0) cs → All (λ (c : Counted). c.1 ≢ pos 0) ds
    → ((x : Ident) → counts_of cs x ≡ counts_of ds x) → cs ≡ ds
one_list [] [] ordered ordered_too counts counts_too is = refl
one_list [] (d ∷ ds) ordered ordered_too counts counts_too is =
    absurd (All-head (λ (c : Counted). c.1 ≢ pos 0) d ds counts_too
    (sym (counts-here d ds (absent d.0 ds (sorted_head (slice_cmp nat_cmp) d.0 (names_in ds) ordered_too))) ∙ sym (is d.0)))
one_list (c ∷ cs) [] ordered ordered_too counts counts_too is =
    absurd (All-head (λ (c : Counted). c.1 ≢ pos 0) c cs counts
    (sym (counts-here c cs (absent c.0 cs (sorted_head (slice_cmp nat_cmp) c.0 (names_in cs) ordered))) ∙ is c.0))
one_list (c ∷ cs) (d ∷ ds) ordered ordered_too counts counts_too is =
    pick (same c.0 d.0) refl
    (one_list cs ds (sorted_tail (slice_cmp nat_cmp) c.0 (names_in cs) ordered) (sorted_tail (slice_cmp nat_cmp) d.0 (names_in ds) ordered_too)
    (All-tail (λ (e : Counted). e.1 ≢ pos 0) c cs counts) (All-tail (λ (e : Counted). e.1 ≢ pos 0) d ds counts_too))
  where
    below : IsBelow c.0 (names_in cs)
    below = sorted_head (slice_cmp nat_cmp) c.0 (names_in cs) ordered

    below_too : IsBelow d.0 (names_in ds)
    below_too = sorted_head (slice_cmp nat_cmp) d.0 (names_in ds) ordered_too

    here : counts_of (c ∷ cs) c.0 ≡ c.1
    here = counts-here c cs (absent c.0 cs below)

    here_too : counts_of (d ∷ ds) d.0 ≡ d.1
    here_too = counts-here d ds (absent d.0 ds below_too)

    made : (a b : Counted) → a.0 ≡ b.0 → a.1 ≡ b.1 → a ≡ b
    made (x, z) (y, w) names times = rw (names, times) refl

    pick : (b : Bool) → same c.0 d.0 ≡ b → (((x : Ident) → counts_of cs x ≡ counts_of ds x) → cs ≡ ds) → c ∷ cs ≡ d ∷ ds
    pick true q rest = rw (first, rest later) refl
      where
        name : c.0 ≡ d.0
        name = same_is c.0 d.0 q

        first : c ≡ d
        first = made c d name (sym here ∙ is c.0 ∙ ap (counts_of (d ∷ ds)) name ∙ here_too)

        later : (x : Ident) → counts_of cs x ≡ counts_of ds x
        later x = omega (arith, ints, sym (counts-cons c cs x) ∙ is x ∙ counts-cons d ds x, ap (λ (e : Counted). e.1 *ℤ one_named x e.0) first)
    pick false q rest =
        let first_there : counts_of ds c.0 ≡ c.1 = sym (counts-later d ds c.0 q) ∙ sym (is c.0) ∙ here in
        let other : same d.0 c.0 ≡ false = same-turned d.0 c.0 ∙ q in
        let second_there : counts_of cs d.0 ≡ d.1 = sym (counts-later c cs d.0 other) ∙ is d.0 ∙ here_too in
        absurd (not_both c.0 d.0
        (counted_below c.0 d.0 cs below (λ e. All-head (λ (e : Counted). e.1 ≢ pos 0) d ds counts_too (sym second_there ∙ e)))
        (counted_below d.0 c.0 ds below_too (λ e. All-head (λ (e : Counted). e.1 ≢ pos 0) c cs counts (sym first_there ∙ e))))

-- ---- terms

-- what the names count, and the rest
sum-apart : (at : Ident → ℤ) (t : Term) → sum_of (pos 1) at t ≡ sum_of (pos 0) at t +ℤ bare_of t
sum-apart at [] = omega (arith, ints)
sum-apart at (p ∷ ps) = one p.name (sum-apart at ps)
  where
    one : (n : Option Ident) → sum_of (pos 1) at ps ≡ sum_of (pos 0) at ps +ℤ bare_of ps → (times_of p *ℤ counted (pos 1) at n) +ℤ sum_of (pos 1) at ps
        ≡ ((times_of p *ℤ counted (pos 0) at n) +ℤ sum_of (pos 0) at ps) +ℤ ((times_of p *ℤ counted (pos 1) (λ x. pos 0) n) +ℤ bare_of ps)
    one None rest = omega (arith, ints, rest, Z.*ℤ-zero (times_of p))
    one (Some x) rest = omega (arith, ints, rest, Z.*ℤ-zero (times_of p))

pub one_term : (t u : Term) → IsNormal t → IsNormal u → ((at : Ident → ℤ) → sum_of (pos 1) at t ≡ sum_of (pos 1) at u) → t ≡ u
one_term t u first second is =
    first.spelled ∙ ap (λ cs. spelled cs first.constant) lists ∙ ap (spelled second.counts) constants ∙ sym second.spelled
  where
    bare : bare_of t ≡ bare_of u
    bare = is (λ x. pos 0)

    constants : first.constant ≡ second.constant
    constants = sym (bare-spelled first.counts first.constant) ∙ ap bare_of (sym first.spelled) ∙ bare ∙ ap bare_of second.spelled ∙ bare-spelled second.counts second.constant

    counts : (x : Ident) → count_of x t ≡ count_of x u
    counts x = omega (arith, ints, sum-apart (one_named x) t, sum-apart (one_named x) u, is (one_named x), bare)

    each : (x : Ident) → counts_of first.counts x ≡ counts_of second.counts x
    each x = sym (count-spelled x first.counts first.constant) ∙ ap (count_of x) (sym first.spelled) ∙ counts x ∙ ap (count_of x) second.spelled ∙ count-spelled x second.counts second.constant

    lists : first.counts ≡ second.counts
    lists = one_list first.counts second.counts first.ordered second.ordered first.counted second.counted each

-- ---- terms under binders

abbrev value_at : (Ident → ℤ) → Option Ident → ℤ
value_at at None = pos 0
value_at at (Some x) = at x

-- values of variables that give each name, free or a binder's, the value asked for
abbrev var_values : (Ident → ℤ) → List Ident → Var → ℤ
var_values at binders (Free x) = at x
var_values at binders (Inside i) = value_at at (name_at binders i)

seen : (at : Ident → ℤ) (binders : List Ident) (x : Ident) → at_place (var_values at binders) (at x) (place_of binders x) ≡ at x
seen at binders x = pick (place_of binders x) refl
  where
    pick : (o : Option ℕ) → place_of binders x ≡ o → at_place (var_values at binders) (at x) o ≡ at x
    pick None q = refl
    pick (Some i) q = ap (value_at at) (name_at-place binders x i q)

under-names : (at : Ident → ℤ) (binders : List Ident) (t : Term) → sum_under binders [] (pos 1) (var_values at binders) t ≡ sum_of (pos 1) at t
under-names at binders t = sum_of-cong (pos 1) (λ x. at_place (var_values at binders) (at x) (place_of binders x)) at t (seen at binders)

pub one_term_under : (binders : List Ident) (t u : Term) → IsNormal t → IsNormal u → ((at : Var → ℤ) → sum_under binders [] (pos 1) at t ≡ sum_under binders [] (pos 1) at u) → t ≡ u
one_term_under binders t u first second is =
    one_term t u first second (λ at. sym (under-names at binders t) ∙ is (var_values at binders) ∙ under-names at binders u)
