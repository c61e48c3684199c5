-- Parts whose numbers pass the test are numbered.
use Rattle.std.proofs.Common.{◌≡◌, ℕ, zero, suc, ◌+◌, ◌<◌, ◌^◌, true, leb, List, [], ◌∷◌, length, map, Some, slice_get, refl, sym, ap, ◌∙◌, subst, arith}
use Rattle.std.specs.List.{list_all}
use Rattle.std.proofs.lemmas.Bool.{leb-true}
use Rattle.std.proofs.lemmas.List.{length-map}
use Rattle.core_programs.specs.declared.nodes.Node.{Node}
use Rattle.core_programs.specs.declared.nodes.Func.{Func}
use Rattle.core_programs.specs.declared.nodes.Parts.{Parts}
use Rattle.core_programs.specs.Formed.{nexts, Leads, LeadBelow, Reaches, IsReachedOnce, IsNumbered}
use Rattle.part_tests.specs.Shapes.{Walk, begun, through, walks, climbs, ends, are_apart, reach, are_below, are_within, is_numbered}
use Rattle.part_tests.proofs.Walked.{both, all_at, In, in_through, out_through, Walks, in_walks, out_walks, one_walk, reached}

-- ---- places of lists

at_mapped : {X Y : Type 0} (f : X → Y) (xs : List X) (i : ℕ) (y : Y) → slice_get (map f xs) i ≡ Some y → (x : X) × (slice_get xs i ≡ Some x) × (f x ≡ y)
at_mapped f [] i y is = cc
at_mapped f (x ∷ xs) zero y is = let same : f x ≡ y = cc in (x, refl, same)
at_mapped f (x ∷ xs) (suc i) y is = at_mapped f xs i y is

map_at : {X Y : Type 0} (f : X → Y) (xs : List X) (i : ℕ) (x : X) → slice_get xs i ≡ Some x → slice_get (map f xs) i ≡ Some (f x)
map_at f [] i x is = cc
map_at f (y ∷ xs) zero x is = let same : y ≡ x = cc in ap (λ z. Some (f z)) same
map_at f (y ∷ xs) (suc i) x is = map_at f xs i x is

below_at : (count : ℕ) (ns : List ℕ) (k n : ℕ) → slice_get ns k ≡ Some n → are_below count ns ≡ true → n < count
below_at count ns k n is e = let le = leb-true (suc n) count (all_at (λ m. leb (suc m) count) ns k n is e) in omega (arith, le)

-- ---- walks over nodes

walked : (nodes : List Node) (n m : ℕ) (turns : List ℕ) → Leads nodes n turns m → Walks (map nexts nodes) n turns m
walked nodes n m [] leads = leads
walked nodes n m (turn ∷ turns) (x, next, here, at, leads) = (nexts x, next, map_at nexts nodes n x here, at, walked nodes next m turns leads)

led : (nodes : List Node) (n m : ℕ) (turns : List ℕ) → Walks (map nexts nodes) n turns m → Leads nodes n turns m
led nodes n m [] walk = walk
led nodes n m (turn ∷ turns) (ns, next, here, at, walk) =
    let (x, has, is) = at_mapped nexts nodes n ns here in
    (x, next, has, subst (λ ys. slice_get ys turn ≡ Some next) (sym is) at, led nodes next m turns walk)

module _ (parts : Parts) where
  abbrev shape : List (List ℕ)
  shape = map nexts parts.nodes

  abbrev firsts : List ℕ
  firsts = map (λ (f : Func). f.first) parts.funcs

  count : length shape ≡ length parts.nodes
  count = length-map parts.nodes nexts

  module _ (test : is_numbered shape firsts ≡ true) where
    four : (are_within shape firsts ≡ true) × (list_all (ends (length shape) shape) firsts ≡ true) × (are_apart (climbs shape firsts) ≡ true) × (reach (climbs shape firsts) (length shape) ≡ true)
    four =
        let one = both (are_within shape firsts) _ test in
        let two = both (list_all (ends (length shape) shape) firsts) _ one.1 in
        let three = both (are_apart (climbs shape firsts)) (reach (climbs shape firsts) (length shape)) two.1 in
        (one.0, two.0, three.0, three.1)

    inside : (leb (length shape) 99 ≡ true) × (are_below (length shape) firsts ≡ true) × (list_all (are_below (length shape)) shape ≡ true)
    inside =
        let one = both (leb (length shape) 99) _ four.0 in
        let two = both (are_below (length shape) firsts) (list_all (are_below (length shape)) shape) one.1 in
        (one.0, two.0, two.1)

    -- a way from a function is one of the climbs
    climbed : (g : ℕ) (turns : List ℕ) (n : ℕ) → Reaches parts g turns n → In (g ∷ turns, n) (climbs shape firsts)
    climbed g turns n (func, has, leads) =
        let first = map_at (λ (f : Func). f.first) parts.funcs g func has in
        let ended = all_at (ends (length shape) shape) firsts g func.first first four.1 in
        let walk = in_walks (length shape) shape func.first turns n ended (walked parts.nodes func.first n turns leads) in
        let at : 0 + g ≡ g = omega arith in
        subst (λ t. In (t ∷ turns, n) (climbs shape firsts)) at (in_through (walks (length shape) shape) 0 firsts g func.first (turns, n) first walk)

    once : (n : ℕ) → n < length parts.nodes → IsReachedOnce parts n
    once n lt =
        let less : n < length shape = omega (arith, lt, count) in
        let (w, has, leads) = reached (climbs shape firsts) (length shape) n four.3 less in
        let (k, next, v, at, among, is) = out_through (walks (length shape) shape) 0 firsts w has in
        let (func, here, first) = at_mapped (λ (f : Func). f.first) parts.funcs k next at in
        let to : v.1 ≡ n = sym (ap (λ (u : Walk). u.1) is) ∙ leads in
        let turn : 0 + k ≡ k = omega arith in
        let whole : w ≡ (k ∷ v.0, n) = is ∙ (ap (λ t. begun t v) turn ∙ ap (λ m. (k ∷ v.0, m)) to) in (
          k,
          v.0,
          (func, here, subst (λ r. Leads parts.nodes r v.0 n) (sym first) (subst (λ m. Leads parts.nodes next v.0 m) to (led parts.nodes next v.1 v.0 (out_walks (length shape) shape next v among)))),
          λ g others way.
              let same : (g ∷ others, n) ≡ w = one_walk (climbs shape firsts) (g ∷ others, n) w four.2 (climbed g others n way) has (sym leads) in
              let all = ap (λ (u : Walk). u.0) (same ∙ whole) in
              (split_heads g k others v.0 all),
        )
      where
        split_heads : (g k : ℕ) (gs ks : List ℕ) → g ∷ gs ≡ k ∷ ks → (g ≡ k) × (gs ≡ ks)
        split_heads g k gs ks e = let a : g ≡ k = cc in let b : gs ≡ ks = cc in (a, b)

    passed : IsNumbered parts
    passed = record {
      few = let le = leb-true (length shape) 99 inside.0 in omega (arith, le, count);
      firsts = λ f func is.
          let lt = below_at (length shape) firsts f func.first (map_at (λ (g : Func). g.first) parts.funcs f func is) inside.1 in
          omega (arith, lt, count);
      follow = λ n x is k m at.
          let lt = below_at (length shape) (nexts x) k m at (all_at (are_below (length shape)) shape n (nexts x) (map_at nexts parts.nodes n x is) inside.2) in
          omega (arith, lt, count);
      once = once;
    }

pub numbered : (parts : Parts) (shape : List (List ℕ)) (firsts : List ℕ) → map nexts parts.nodes ≡ shape → map (λ (f : Func). f.first) parts.funcs ≡ firsts → is_numbered shape firsts ≡ true → IsNumbered parts
numbered parts shape firsts named begin test = passed parts (ap (λ s. is_numbered s (map (λ (f : Func). f.first) parts.funcs)) named ∙ (ap (is_numbered shape) begin ∙ test))
