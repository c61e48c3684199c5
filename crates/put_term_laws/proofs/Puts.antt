-- What stands in a term with terms put in has their values.
use Rattle.std.proofs.Common.{◌≡◌, ℤ, pos, ◌+ℤ◌, ◌*ℤ◌, Bool, true, false, if◌then◌else◌, List, [], ◌∷◌, ◌++◌, map, Option, Some, None, refl, sym, ap, ◌∙◌, arith}
use Rattle.std.proofs.lemmas.Int.{ints}
use Rattle.std.proofs.Math.IntN as Z
use Rattle.core_language.specs.Names.{Ident, same}
use Rattle.farkas_check.proofs.Products.{distribute, times_times}
use Rattle.linear_forms.specs.Terms.{times_of, counted, sum_of, named}
use Rattle.linear_forms.specs.Substitution.{Free}
use Rattle.linear_forms.proofs.Counts.{sum-append}
use Rattle.chan_syntax.specs.declared.linear.Part.{Part}
use Rattle.chan_syntax.specs.Reading.{part_of, term_of}
use Rattle.session_lowering.specs.declared.puts.Put.{Put}
use Rattle.session_lowering.specs.PutTerms.{put_for, so_often, in_place_of, term_for, put_in_parts}
use Rattle.put_term_laws.specs.PutTerms.{vars_of, PutTermIsPut}
use Rattle.put_term_laws.proofs.Counted.{normal_is_same}

map_append : (xs ys : List Part) → map part_of (xs ++ ys) ≡ map part_of xs ++ map part_of ys
map_append [] ys = refl
map_append (x ∷ xs) ys = ap (λ zs. part_of x ∷ zs) (map_append xs ys)

once : (z w : ℤ) → ((pos 1 *ℤ z) *ℤ w) +ℤ pos 0 ≡ z *ℤ w
once z w = omega (arith, ints, times_times (pos 1) z w)

some_times : (k z w s r : ℤ) → r ≡ k *ℤ s → ((k *ℤ z) *ℤ w) +ℤ r ≡ k *ℤ ((z *ℤ w) +ℤ s)
some_times k z w s r is = omega (arith, ints, is, times_times k z w, distribute k (z *ℤ w) s)

-- parts some times
sum_so_often : (u : ℤ) (a : Ident → ℤ) (k : ℤ) (ps : List Part) → sum_of u a (map part_of (map (so_often k) ps)) ≡ k *ℤ sum_of u a (map part_of ps)
sum_so_often u a k [] = sym (Z.*ℤ-zero k)
sum_so_often u a k (p ∷ ps) =
    some_times k (times_of (part_of p)) (counted u a p.name) (sum_of u a (map part_of ps)) (sum_of u a (map part_of (map (so_often k) ps))) (sum_so_often u a k ps)

-- what stands for a name
stands : (u : ℤ) (a : Ident → ℤ) (ps : List Put) (x : Ident) (p : Part) → p.name ≡ Some x
    → sum_of u a (map part_of (in_place_of p (put_for ps x))) ≡ times_of (part_of p) *ℤ named (vars_of ps) u a x
stands u a [] x p is = once (times_of (part_of p)) (counted u a p.name) ∙ ap (λ n. times_of (part_of p) *ℤ counted u a n) is
stands u a (q ∷ qs) x p is = pick (same q.name x) (stands u a qs x p is)
  where
    pick : (b : Bool) → sum_of u a (map part_of (in_place_of p (put_for qs x))) ≡ times_of (part_of p) *ℤ named (vars_of qs) u a x
        → sum_of u a (map part_of (in_place_of p (if b then Some q.term else put_for qs x))) ≡ times_of (part_of p) *ℤ (if b then sum_of u a (term_of q.term) else named (vars_of qs) u a x)
    pick true more = sum_so_often u a (times_of (part_of p)) q.term.parts
    pick false more = more

-- one part
one_part : (u : ℤ) (a : Ident → ℤ) (ps : List Put) (p : Part) → sum_of u a (map part_of (in_place_of p (term_for ps p.name))) ≡ times_of (part_of p) *ℤ counted u (named (vars_of ps) u a) p.name
one_part u a ps p = pick p.name refl
  where
    pick : (o : Option Ident) → p.name ≡ o → sum_of u a (map part_of (in_place_of p (term_for ps o))) ≡ times_of (part_of p) *ℤ counted u (named (vars_of ps) u a) o
    pick None is = once (times_of (part_of p)) (counted u a p.name) ∙ ap (λ n. times_of (part_of p) *ℤ counted u a n) is
    pick (Some x) is = stands u a ps x p is

pub put_in : (u : ℤ) (a : Ident → ℤ) (ps : List Put) (parts : List Part) → sum_of u a (map part_of (put_in_parts ps parts)) ≡ sum_of u (named (vars_of ps) u a) (map part_of parts)
put_in u a ps [] = refl
put_in u a ps (p ∷ parts) =
    ap (sum_of u a) (map_append (in_place_of p (term_for ps p.name)) (put_in_parts ps parts))
    ∙ sum-append u a (map part_of (in_place_of p (term_for ps p.name))) (map part_of (put_in_parts ps parts))
    ∙ ap (λ z. z +ℤ sum_of u a (map part_of (put_in_parts ps parts))) (one_part u a ps p)
    ∙ ap (λ z. (times_of (part_of p) *ℤ counted u (named (vars_of ps) u a) p.name) +ℤ z) (put_in u a ps parts)

pub put_term_is_put : PutTermIsPut
put_term_is_put span ps t at =
    normal_is_same span (put_in_parts ps t.parts) (pos 1) (λ y. at (Free y)) ∙ put_in (pos 1) (λ y. at (Free y)) ps t.parts
