-- Nodes that are added one by one, each above the roots of the bodies that it names.
use Rattle.std.proofs.Common.{◌≡◌, ℕ, ◌+◌, ◌<◌, ◌≤◌, ◌^◌, List, [], ◌∷◌, ◌++◌, length, map, Some, slice_get, refl, sym, ap, ◌∙◌, subst, arith, ◌⊎◌, inl, inr, ⊎_elim}
use Rattle.std.proofs.lemmas.Bool.{cases_lt}
use Rattle.std.proofs.lemmas.List.{length_push}
use Rattle.core_programs.specs.declared.nodes.Node.{Node}
use Rattle.core_programs.specs.declared.nodes.Func.{Func}
use Rattle.core_programs.specs.declared.nodes.Parts.{Parts}
use Rattle.core_programs.specs.Formed.{nexts, Leads, IsNumbered}
use Rattle.core_numbering.specs.Rooted.{Climbs, IsClimbedOnce, Falls, IsRooted}
use Rattle.core_numbering.proofs.Places.{place_below, at_left, at_right, at_end, among_both, among_pushed, at_mapped, map_at}

-- ---- walks go down

down : (nodes : List Node) (r n : ℕ) (turns : List ℕ) → Falls nodes → Leads nodes r turns n → n ≤ r
down nodes r n [] falls leads = omega (arith, leads)
down nodes r n (turn ∷ turns) falls (x, next, here, at, leads) =
    let lt = falls r x here turn next at in
    let le = down nodes next n turns falls leads in
    omega (arith, lt, le)

keep : (nodes : List Node) (x : Node) (r n : ℕ) (turns : List ℕ) → Leads nodes r turns n → Leads (nodes ++ x ∷ []) r turns n
keep nodes x r n [] leads = leads
keep nodes x r n (turn ∷ turns) (y, next, here, at, leads) =
    (y, next, at_left nodes (x ∷ []) r (place_below nodes r y here) ∙ here, at, keep nodes x next n turns leads)

back : (nodes : List Node) (x : Node) (r n : ℕ) (turns : List ℕ) → Falls nodes → r < length nodes → Leads (nodes ++ x ∷ []) r turns n → Leads nodes r turns n
back nodes x r n [] falls lt leads = leads
back nodes x r n (turn ∷ turns) falls lt (y, next, here, at, leads) =
    let there = sym (at_left nodes (x ∷ []) r lt) ∙ here in
    let less = falls r y there turn next at in
    (y, next, there, at, back nodes x next n turns falls (omega (arith, lt, less)) leads)

-- ---- one node more

module _ (nodes : List Node) (front : List ℕ) (x : Node) (rooted : IsRooted nodes (front ++ nexts x)) where
  -- a root of the front is one of those before
  before : (j r : ℕ) → j < length front → slice_get front j ≡ Some r → slice_get (front ++ nexts x) j ≡ Some r
  before j r lt is = at_left front (nexts x) j lt ∙ is

  -- what the node names is one of the roots before
  named : (k next : ℕ) → slice_get (nexts x) k ≡ Some next → slice_get (front ++ nexts x) (length front + k) ≡ Some next
  named k next is = at_right front (nexts x) (length front + k) k refl ∙ is

  -- what the node names at its own number
  own : (y : Node) (k next : ℕ) → slice_get (nodes ++ x ∷ []) (length nodes) ≡ Some y → slice_get (nexts y) k ≡ Some next → slice_get (nexts x) k ≡ Some next
  own y k next is at = let here = at_end nodes x in let same : y ≡ x = cc in subst (λ z. slice_get (nexts z) k ≡ Some next) same at

  -- a climb by the new node begins with a turn, and is a climb of a root before
  abbrev Through : ℕ → List ℕ → ℕ → Type 0
  Through j others n = (k : ℕ) × (rest : List ℕ) × (j ≡ length front) × (others ≡ k ∷ rest) × Climbs nodes (front ++ nexts x) (length front + k) rest n

  through : (j : ℕ) (others : List ℕ) (n : ℕ) → n < length nodes → j ≡ length front → Leads (nodes ++ x ∷ []) (length nodes) others n → Through j others n
  through j [] n lt e leads = absurd (omega (arith, lt, leads))
  through j (k ∷ rest) n lt e (y, next, is, at, leads) =
      let old = named k next (own y k next is at) in
      (k, rest, e, refl, (next, old, back nodes x next n rest rooted.falls (rooted.within (length front + k) next old) leads))

  -- where a climb of the new roots comes from
  descend : (j : ℕ) (others : List ℕ) (n : ℕ) → n < length nodes → Climbs (nodes ++ x ∷ []) (front ++ length nodes ∷ []) j others n
      → ((j < length front) × Climbs nodes (front ++ nexts x) j others n) ⊎ Through j others n
  descend j others n lt (r, at, leads) = ⊎_elim
      (λ p.
      let old = before j r p.0 p.1 in
      inl (p.0, (r, old, back nodes x r n others rooted.falls (rooted.within j r old) leads)))
      (λ p. inr (through j others n lt p.0 (subst (λ q. Leads (nodes ++ x ∷ []) q others n) (sym p.1) leads)))
      (among_pushed front (length nodes) j r at)

  -- where a climb of the roots before goes
  ascend : (i : ℕ) (turns : List ℕ) (n : ℕ) → Climbs nodes (front ++ nexts x) i turns n
      → ((i < length front) × Climbs (nodes ++ x ∷ []) (front ++ length nodes ∷ []) i turns n)
      ⊎ ((k : ℕ) × (i ≡ length front + k) × Climbs (nodes ++ x ∷ []) (front ++ length nodes ∷ []) (length front) (k ∷ turns) n)
  ascend i turns n (r, at, leads) = ⊎_elim
      (λ p. inl (p.0, (r, at_left front (length nodes ∷ []) i p.0 ∙ p.1, keep nodes x r n turns leads)))
      (λ p. inr (p.0, p.1, (length nodes, at_end front (length nodes), (x, r, at_end nodes x, p.2, keep nodes x r n turns leads))))
      (among_both front (nexts x) i r at)

  old_once : (n : ℕ) → n < length nodes → IsClimbedOnce (nodes ++ x ∷ []) (front ++ length nodes ∷ []) n
  old_once n lt =
      let (i, turns, climb, unique) = rooted.once n lt in ⊎_elim
      (λ p. (
        i,
        turns,
        p.1,
        λ j others c. ⊎_elim
            (λ q. unique j others q.1)
            (λ q. let same = (unique (length front + q.0) q.1 q.4).0 in absurd (omega (arith, same, p.0)))
            (descend j others n lt c),
      ))
      (λ p. (
        length front,
        p.0 ∷ turns,
        p.2,
        λ j others c. ⊎_elim
            (λ q. let same = (unique j others q.1).0 in absurd (omega (arith, same, q.0, p.1)))
            (λ q.
            let one = unique (length front + q.0) q.1 q.4 in
            let turn : q.0 ≡ p.0 = omega (arith, one.0, p.1) in
            (q.2, q.3 ∙ ap (λ k. k ∷ q.1) turn ∙ ap (λ ts. p.0 ∷ ts) one.1))
            (descend j others n lt c),
      ))
      (ascend i turns n climb)

  top : (j : ℕ) (others : List ℕ) → j ≡ length front → Leads (nodes ++ x ∷ []) (length nodes) others (length nodes) → (j ≡ length front) × (others ≡ [])
  top j [] e leads = (e, refl)
  top j (k ∷ rest) e (y, next, is, at, leads) =
      let old = named k next (own y k next is at) in
      let lt = rooted.within (length front + k) next old in
      let le = down nodes next (length nodes) rest rooted.falls (back nodes x next (length nodes) rest rooted.falls lt leads) in
      absurd (omega (arith, lt, le))

  new_once : IsClimbedOnce (nodes ++ x ∷ []) (front ++ length nodes ∷ []) (length nodes)
  new_once = (
    length front,
    [],
    (length nodes, at_end front (length nodes), refl),
    λ j others c. ⊎_elim
        (λ p.
        let old = before j c.0 p.0 p.1 in
        let lt = rooted.within j c.0 old in
        let le = down nodes c.0 (length nodes) others rooted.falls (back nodes x c.0 (length nodes) others rooted.falls lt c.2) in
        absurd (omega (arith, lt, le)))
        (λ p. top j others p.0 (subst (λ q. Leads (nodes ++ x ∷ []) q others (length nodes)) (sym p.1) c.2))
        (among_pushed front (length nodes) j c.0 c.1),
  )

  within_more : (i root : ℕ) → slice_get (front ++ length nodes ∷ []) i ≡ Some root → root < length (nodes ++ x ∷ [])
  within_more i root is =
      let more = length_push nodes x in ⊎_elim
      (λ p. let lt = rooted.within i root (before i root p.0 p.1) in omega (arith, lt, more))
      (λ p. omega (arith, p.1, more))
      (among_pushed front (length nodes) i root is)

  falls_more : Falls (nodes ++ x ∷ [])
  falls_more n y is k m at = ⊎_elim
      (λ p. rooted.falls n y p.1 k m at)
      (λ p.
      let lt = rooted.within (length front + k) m (named k m (subst (λ z. slice_get (nexts z) k ≡ Some m) (sym p.1) at)) in
      omega (arith, lt, p.0))
      (among_pushed nodes x n y is)

  once_more : (n : ℕ) → n < length (nodes ++ x ∷ []) → IsClimbedOnce (nodes ++ x ∷ []) (front ++ length nodes ∷ []) n
  once_more n lt =
      let more = length_push nodes x in ⊎_elim
      (λ less. old_once n less)
      (λ most.
      let same : length nodes ≡ n = omega (arith, most, lt, more) in
      subst (IsClimbedOnce (nodes ++ x ∷ []) (front ++ length nodes ∷ [])) same new_once)
      (cases_lt n (length nodes))

  -- the node stands above the roots that it names
  pub grow : length (nodes ++ x ∷ []) < 2 ^ 32 → IsRooted (nodes ++ x ∷ []) (front ++ length nodes ∷ [])
  grow few = record { few = few; within = within_more; falls = falls_more; once = once_more }

pub nothing_rooted : IsRooted [] []
nothing_rooted = record {
  few = omega arith;
  within = λ i root is. cc;
  falls = λ n x is. cc;
  once = λ n lt. absurd (omega (arith, lt));
}

-- ---- whole parts

pub numbered : (parts : Parts) → IsRooted parts.nodes (map (λ f. f.first) parts.funcs) → IsNumbered parts
numbered parts rooted = record {
  few = rooted.few;
  firsts = λ f func is. rooted.within f func.first (map_at (λ (g : Func). g.first) parts.funcs f func is);
  follow = λ n x is k m at.
      let lt = rooted.falls n x is k m at in
      let below = place_below parts.nodes n x is in
      omega (arith, lt, below);
  once = λ n lt.
      let (i, turns, climb, unique) = rooted.once n lt in
      let (func, has, first) = at_mapped (λ (g : Func). g.first) parts.funcs i climb.0 climb.1 in (
        i,
        turns,
        (func, has, subst (λ r. Leads parts.nodes r turns n) (sym first) climb.2),
        λ g others way. unique g others (way.0.first, map_at (λ (h : Func). h.first) parts.funcs g way.0 way.1, way.2),
      );
}
