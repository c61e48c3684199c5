-- What terms add, part by part.
use Rattle.std.proofs.Common.{◌≡◌, Bool, true, false, Some, None, find, ℕ, zero, suc, ◌+◌, ◌<◌, ◌≤◌, ℤ, pos, ◌+ℤ◌, ◌*ℤ◌, List, [], ◌∷◌, map, take, length, get_or, refl, sym, ◌∙◌, ap, arith}
use Rattle.std.proofs.lemmas.Int.{ints}
use Rattle.core_language.specs.Names.{Ident, same}
use Rattle.core_language.specs.Terms.{Part, Term}
use Rattle.farkas_check.proofs.Products.{distribute}
use Rattle.linear_forms.specs.Terms.{times_of, counted, sum_of, by_place, unit_at, IntVar, named}
use Rattle.linear_forms.specs.Terms.{IntNames, normal_form, coefficient_of}
use Rattle.farkas_check.specs.declared.cert.Row.{Row}
use Rattle.chan_syntax.specs.Reading.{term_of}
use Rattle.std.specs.List.{range_with_len}
use Rattle.outline_rules.specs.declared.naming.IntVar.{IntVar as DeclaredVar}
use Rattle.outline_rules.specs.Naming.{int_var_of}
use Rattle.outline_rules.specs.declared.sums.Sums.{Sums}
use Rattle.outline_rules.specs.Sums.{Adds, AddsPart, AddsTerm, AddsMeaning, IsWithin, row_in}
use Rattle.std.proofs.lemmas.List.FromFn.{length-map-range_with_len}
use Rattle.outline_rules.proofs.Ranges.{range_cong, zeros_small}

pub sum_more : (u : ℤ) (a : Ident → ℤ) (ps : Term) (k : ℕ) (d : Part) → k < length ps → sum_of u a (take (suc k) ps) ≡ sum_of u a (take k ps) +ℤ (times_of (get_or ps k d) *ℤ counted u a (get_or ps k d).name)
sum_more u a [] k d h = absurd (omega arith)
sum_more u a (p ∷ ps) zero d h = omega (arith, ints)
sum_more u a (p ∷ ps) (suc k) d h = omega (arith, ints, sum_more u a ps k d (omega arith))

-- one after the other
pub adds_both : (n : ℕ) (m m' m'' : ℕ → ℤ) (u u' u'' : ℤ) (s0 s1 s2 : Sums) → Adds n m u s0 s1 → Adds n m' u' s1 s2 → ((i : ℕ) → m'' i ≡ m i +ℤ m' i) → u'' ≡ u +ℤ u' → Adds n m'' u'' s0 s2
adds_both n m m' m'' u u' u'' s0 s1 s2 h k e q = record {
  coefficients = λ f c. k.coefficients (λ i. f i +ℤ m i) (h.coefficients f c) ∙ range_cong (λ i. (f i +ℤ m i) +ℤ m' i) (λ i. f i +ℤ m'' i) 0 n (λ j _. let both = e j in omega (arith, ints));
  constant = omega (arith, ints, h.constant, k.constant);
}

pub term_more : (ints : List Ident) (w : ℤ) (ps : Term) (k : ℕ) (p : Part) (s0 s1 s2 : Sums) → k < length ps → get_or ps k p ≡ p → AddsTerm ints w (take k ps) s0 s1 → AddsPart ints w p s1 s2 → AddsTerm ints w (take (k + 1) ps) s0 s2
term_more ys w ps k p s0 s1 s2 h e a b =
    rw (next k) (adds_both (length ys) _ _ _ _ _ _ s0 s1 s2 a b (λ i. each (pos 0) (by_place ys (unit_at i))) (each (pos 1) (λ x. pos 0)))
  where
    next : (i : ℕ) → i + 1 ≡ suc i
    next i = omega arith

    each : (u : ℤ) (at : Ident → ℤ) → w *ℤ sum_of u at (take (suc k) ps) ≡ (w *ℤ sum_of u at (take k ps)) +ℤ (w *ℤ (times_of p *ℤ counted u at p.name))
    each u at =
        let more : sum_of u at (take (suc k) ps) ≡ sum_of u at (take k ps) +ℤ (times_of p *ℤ counted u at p.name) = rw e at (sum_more u at ps k p h) in
        rw more (distribute w (sum_of u at (take k ps)) (times_of p *ℤ counted u at p.name))

pub looser : (n : ℕ) (a b : ℕ) (s : Sums) → a ≤ b → IsWithin n a s → IsWithin n b s
looser n a b s h w = record {
  count = w.count;
  coefficients = λ k d m. let old = w.coefficients k d m in omega arith;
  constant = omega (arith, w.constant);
}

-- a name of no program variable, and that of one
pub named_none : (vs : List DeclaredVar) (u : ℤ) (a : Ident → ℤ) (x : Ident) → find (λ v. same v.name x) vs ≡ None → named (map int_var_of vs) u a x ≡ a x
named_none [] u a x e = refl
named_none (v ∷ vs) u a x e = pick (same v.name x) refl (named_none vs u a x)
  where
    pick : (b : Bool) → same v.name x ≡ b → (find (λ w. same w.name x) vs ≡ None → named (map int_var_of vs) u a x ≡ a x) → named (map int_var_of (v ∷ vs)) u a x ≡ a x
    pick true q rest = let found : Some v ≡ None = rw q at e in absurd cc
    pick false q rest = let none : find (λ w. same w.name x) vs ≡ None = rw q at e in rw q (rest none)

pub named_some : (vs : List DeclaredVar) (u : ℤ) (a : Ident → ℤ) (x : Ident) (var : DeclaredVar) → find (λ v. same v.name x) vs ≡ Some var → named (map int_var_of vs) u a x ≡ sum_of u a (term_of var.term)
named_some [] u a x var e = absurd cc
named_some (v ∷ vs) u a x var e = pick (same v.name x) refl (named_some vs u a x var)
  where
    pick : (b : Bool) → same v.name x ≡ b → (find (λ w. same w.name x) vs ≡ Some var → named (map int_var_of vs) u a x ≡ sum_of u a (term_of var.term)) → named (map int_var_of (v ∷ vs)) u a x ≡ sum_of u a (term_of var.term)
    pick true q rest = let found : Some v ≡ Some var = rw q at e in let it : v ≡ var = cc in rw (q, it)
    pick false q rest = let more : find (λ w. same w.name x) vs ≡ Some var = rw q at e in rw q (rest more)

adds_same : (n : ℕ) (m m' : ℕ → ℤ) (u u' : ℤ) (s0 s1 : Sums) → Adds n m u s0 s1 → ((i : ℕ) → m' i ≡ m i) → u' ≡ u → Adds n m' u' s0 s1
adds_same n m m' u u' s0 s1 h e q = record {
  coefficients = λ f c. h.coefficients f c ∙ range_cong (λ i. f i +ℤ m i) (λ i. f i +ℤ m' i) 0 n (λ j _. let both = e j in omega (arith, ints));
  constant = omega (arith, ints, h.constant);
}

pub meaning_from_part : (ints : List Ident) (vars : List IntVar) (p : Part) (s0 s1 : Sums) → ((u : ℤ) (a : Ident → ℤ) → counted u (named vars u a) p.name ≡ counted u a p.name) → AddsPart ints (pos 1) p s0 s1 → AddsMeaning ints vars p s0 s1
meaning_from_part ys vars p s0 s1 e h =
    adds_same (length ys) _ _ _ _ s0 s1 h (λ i. once (pos 0) (by_place ys (unit_at i))) (once (pos 1) (λ x. pos 0))
  where
    once : (u : ℤ) (a : Ident → ℤ) → times_of p *ℤ counted u (named vars u a) p.name ≡ pos 1 *ℤ (times_of p *ℤ counted u a p.name)
    once u a = rw (e u a) (omega (arith, ints))

pub meaning_from_term : (ints : List Ident) (vars : List IntVar) (p : Part) (t : Term) (s0 s1 : Sums) → ((u : ℤ) (a : Ident → ℤ) → counted u (named vars u a) p.name ≡ sum_of u a t) → AddsTerm ints (times_of p) t s0 s1 → AddsMeaning ints vars p s0 s1
meaning_from_term ys vars p t s0 s1 e h =
    adds_same (length ys) _ _ _ _ s0 s1 h (λ i. rw (e (pos 0) (by_place ys (unit_at i)))) (rw (e (pos 1) (λ x. pos 0)))

made : (cs ds : List ℤ) (c d : ℤ) → cs ≡ ds → c ≡ d → ◌≡◌ {A = Row} (record { coefficients = cs; constant = c }) (record { coefficients = ds; constant = d })
made cs ds c d e k = rw (e, k)

-- the normal form of one part more
pub form_more : (names : IntNames) (ps : Term) (k : ℕ) (p : Part) (s0 s1 : Sums) → k < length ps → get_or ps k p ≡ p → row_in s0 ≡ normal_form names (take k ps) → AddsMeaning names.ints names.vars p s0 s1 → row_in s1 ≡ normal_form names (take (k + 1) ps)
form_more names ps k p s0 s1 h e form adds =
    rw (next k) (made s1.coefficients.items _ s1.constant _ (adds.coefficients (coefficient_of names (take k ps)) (ap (λ (r : Row). r.coefficients) form) ∙ range_cong (λ i. coefficient_of names (take k ps) i +ℤ (times_of p *ℤ counted (pos 0) (named names.vars (pos 0) (by_place names.ints (unit_at i))) p.name)) (coefficient_of names (take (suc k) ps)) 0 (length names.ints) (λ j _. sym (more (pos 0) (by_place names.ints (unit_at j))))) (adds.constant ∙ ap (λ (z : ℤ). z +ℤ (times_of p *ℤ counted (pos 1) (named names.vars (pos 1) (λ x. pos 0)) p.name)) (ap (λ (r : Row). r.constant) form) ∙ sym (more (pos 1) (λ x. pos 0))))
  where
    next : (i : ℕ) → i + 1 ≡ suc i
    next i = omega arith

    more : (u : ℤ) (a : Ident → ℤ) → sum_of u (named names.vars u a) (take (suc k) ps) ≡ sum_of u (named names.vars u a) (take k ps) +ℤ (times_of p *ℤ counted u (named names.vars u a) p.name)
    more u a = rw e at (sum_more u (named names.vars u a) ps k p h)

-- sums that are all 0
pub start_form : (names : IntNames) (s : Sums) → s.coefficients.items ≡ map {B = ℤ} (λ i. pos 0) (range_with_len 0 (length names.ints)) → s.constant ≡ pos 0 → row_in s ≡ normal_form names []
start_form names s e k = made s.coefficients.items _ s.constant (pos 0) e k

pub start_within : (n : ℕ) (s : Sums) → s.coefficients.items ≡ map {B = ℤ} (λ i. pos 0) (range_with_len 0 n) → s.constant ≡ pos 0 → IsWithin n 0 s
start_within n s e k = record {
  count = rw e (length-map-range_with_len (λ i. pos 0) 0 n);
  coefficients = rw e (zeros_small n 0);
  constant = rw k (omega arith);
}
