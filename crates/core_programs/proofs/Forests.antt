-- Where each number is reached in one way, the body at a number is made of those at the numbers that follow.
use Rattle.std.proofs.Common.{◌≡◌, ℕ, zero, suc, ◌+◌, eqb, ◌<◌, ◌≤◌, List, [], ◌∷◌, ◌++◌, length, Some, slice_get, get_or, map, true, false, ⊎_elim, refl, sym, ap, ◌∙◌, subst, arith}
use Rattle.std.proofs.lemmas.Option.{slice_get_cases, slice_get_read}
use Rattle.std.proofs.lemmas.List.{length_push}
use Rattle.std.proofs.lemmas.Bool.{eqb-true, ne_eqb, or_cases}
use Rattle.std.proofs.lemmas.Map.Steps.{length-le_from_distinct_below}
use Rattle.std.specs.List.{AllByRecursion, IsDistinct, list_any}
use Rattle.core_language.specs.Programs as core
use Rattle.core_programs.specs.declared.nodes.Node.{Node}
use Rattle.core_programs.specs.declared.nodes.Node.TheVariants as node
use Rattle.core_programs.specs.declared.nodes.Arm.{Arm}
use Rattle.core_programs.specs.declared.nodes.Parts.{Parts}
use Rattle.chan_syntax.specs.Reading.{term_of, ref_of, supply_of, pat_of, letter_of, proof_of}
use Rattle.core_programs.specs.Bodies.{span_of, arms_opened, opened, opened_at, rest_within, rest}
use Rattle.core_programs.specs.Formed.{nexts, Leads, Reaches, IsNumbered}

-- every walk from the number ends within the depth
abbrev pub Ends : ℕ → List Node → ℕ → Type 0
Ends zero nodes n = ⊥
Ends (suc d) nodes n = (x : Node) × (slice_get nodes n ≡ Some x) × ((k m : ℕ) → slice_get (nexts x) k ≡ Some m → Ends d nodes m)

arms_same : (arms : List Arm) (f g : ℕ → core.Body) → ((k m : ℕ) → slice_get (map (λ arm. arm.next) arms) k ≡ Some m → f m ≡ g m) → arms_opened arms f ≡ arms_opened arms g
arms_same [] f g same = refl
arms_same (arm ∷ arms) f g same =
    ap (λ b. core.Arm (pat_of arm.pat) b (arms_opened arms f)) (same 0 arm.next refl)
    ∙ ap (core.Arm (pat_of arm.pat) (g arm.next)) (arms_same arms f g (λ k m at. same (suc k) m at))

opened_same : (x : Node) (f g : ℕ → core.Body) → ((k m : ℕ) → slice_get (nexts x) k ≡ Some m → f m ≡ g m) → opened x f ≡ opened x g
opened_same (node.Let name name_at term next span) f g same = ap (core.Let (span_of span) name (term_of term)) (same 0 next refl)
opened_same (node.Mul name name_at left right next span) f g same = ap (core.Mul (span_of span) name (term_of left) (term_of right)) (same 0 next refl)
opened_same (node.Div name name_at term divisor divisor_at next span) f g same = ap (core.Div (span_of span) name (term_of term) divisor) (same 0 next refl)
opened_same (node.Rem name name_at term divisor divisor_at next span) f g same = ap (core.Rem (span_of span) name (term_of term) divisor) (same 0 next refl)
opened_same (node.Call pat func func_at values proof next span) f g same = ap (core.Call (span_of span) (pat_of pat) func (map supply_of values) (proof_of proof)) (same 0 next refl)
opened_same (node.Tail func func_at values proof span) f g same = refl
opened_same (node.Fork name name_at proto func func_at values proof next span) f g same = ap (core.Fork (span_of span) name (ref_of proto) func (map supply_of values) (proof_of proof)) (same 0 next refl)
opened_same (node.Send1 channel channel_at path path_at value proof next span) f g same = ap (core.Send1 (span_of span) channel (map letter_of path) (supply_of value) (proof_of proof)) (same 0 next refl)
opened_same (node.Recv1 pat channel channel_at path path_at proof next span) f g same = ap (core.Recv1 (span_of span) (pat_of pat) channel (map letter_of path) (proof_of proof)) (same 0 next refl)
opened_same (node.Print term next span) f g same = ap (core.Print (span_of span) (term_of term)) (same 0 next refl)
opened_same (node.If left right this other span) f g same =
    ap (λ b. core.If (span_of span) (term_of left) (term_of right) b (f other)) (same 0 this refl)
    ∙ ap (core.If (span_of span) (term_of left) (term_of right) (g this)) (same 1 other refl)
opened_same (node.Split first second name name_at next span) f g same = ap (core.Split (span_of span) (pat_of first) (pat_of second) name) (same 0 next refl)
opened_same (node.Match name name_at arms span) f g same = ap (core.Match (span_of span) name) (arms_same arms f g same)
opened_same (node.Absurd proof span) f g same = refl
opened_same (node.Ret value proof span) f g same = refl

-- a greater depth reads the same body
deeper : (d e : ℕ) (nodes : List Node) (n : ℕ) → Ends d nodes n → d ≤ e → rest_within e nodes n ≡ rest_within d nodes n
unfolding rest_within
deeper zero e nodes n ends le = absurd ends
deeper (suc d) zero nodes n ends le = absurd (omega arith)
deeper (suc d) (suc e) nodes n (x, is, after) le =
    ap (λ o. opened_at o (rest_within e nodes)) is
    ∙ opened_same x (rest_within e nodes) (rest_within d nodes) (λ k m at. deeper d e nodes m (after k m at) (omega arith))
    ∙ ap (λ o. opened_at o (rest_within d nodes)) (sym is)

one_more : (nodes : List Node) (n m k next : ℕ) (turns : List ℕ) (x : Node) → Leads nodes n turns m → slice_get nodes m ≡ Some x → slice_get (nexts x) k ≡ Some next
    → Leads nodes n (turns ++ k ∷ []) next
one_more nodes n m k next [] x leads is at = (x, next, ap (slice_get nodes) leads ∙ is, at, refl)
one_more nodes n m k next (turn ∷ turns) x (y, after, here, turned, leads) is at = (y, after, here, turned, one_more nodes after m k next turns x leads is at)

among : (q : ℕ) (P : ℕ → Type 0) (xs : List ℕ) → AllByRecursion P xs → list_any (eqb q) xs ≡ true → P q
among q P [] all is = cc
among q P (x ∷ xs) (here, there) is =
    ⊎_elim (λ same. subst P (sym (eqb-true q x same)) here) (λ later. among q P xs there later) (or_cases (eqb q x) (list_any (eqb q) xs) is)

each : (P Q : ℕ → Type 0) → ((x : ℕ) → P x → Q x) → (xs : List ℕ) → AllByRecursion P xs → AllByRecursion Q xs
each P Q to [] all = tt
each P Q to (x ∷ xs) (here, there) = (to x here, each P Q to xs there)

module _ (parts : Parts) (formed : IsNumbered parts) (f : ℕ) where
  -- fewer turns reach the number
  abbrev Earlier : List ℕ → ℕ → Type 0
  Earlier turns n = (n < length parts.nodes) × (before : List ℕ) × Reaches parts f before n × (length before < length turns)

  apart : (turns : List ℕ) (n s : ℕ) → n < length parts.nodes → Reaches parts f turns n → Earlier turns s → eqb n s ≡ false
  apart turns n s lt reach (below, before, other, less) = ne_eqb n s (λ same.
      let (g, way, reached, unique) = formed.once n lt in
      let one = (unique f turns reach).1 in
      let two = (unique f before (subst (Reaches parts f before) (sym same) other)).1 in
      let equal : length before ≡ length turns = ap length (two ∙ sym one) in
      omega (arith, equal, less))

  pub ends : (d n : ℕ) (turns seen : List ℕ) → n < length parts.nodes → Reaches parts f turns n → AllByRecursion (Earlier turns) seen → IsDistinct eqb seen
      → length parts.nodes ≤ d + length seen → Ends d parts.nodes n
  unfolding IsDistinct
  ends zero n turns seen lt reach earlier distinct long =
      let all : AllByRecursion (λ s. s < length parts.nodes) (n ∷ seen) = (lt, each (Earlier turns) (λ s. s < length parts.nodes) (λ s e. e.0) seen earlier) in
      let few = length-le_from_distinct_below (n ∷ seen) (length parts.nodes)
      (each (Earlier turns) (λ s. eqb n s ≡ false) (λ s e. apart turns n s lt reach e) seen earlier, distinct)
      (λ q is. among q (λ s. s < length parts.nodes) (n ∷ seen) all is) in
      omega (arith, few, long)
  ends (suc d) n turns seen lt reach earlier distinct long = ⊎_elim
      (λ found. (
        found.0,
        found.2,
        λ k m at.
            let (func, has, leads) = reach in
            let more = length_push turns k in
            ends d m (turns ++ k ∷ []) (n ∷ seen) (formed.follow n found.0 found.2 k m at)
            (func, has, one_more parts.nodes func.first n k m turns found.0 leads found.2 at)
            ((lt, turns, reach, omega (arith, more)), each (Earlier turns) (Earlier (turns ++ k ∷ [])) (λ s e. (e.0, e.1, e.2, omega (arith, e.3, more))) seen earlier)
            (each (Earlier turns) (λ s. eqb n s ≡ false) (λ s e. apart turns n s lt reach e) seen earlier, distinct)
            (omega (arith, long)),
      ))
      (λ past. absurd (omega (arith, past.0, lt)))
      (slice_get_cases parts.nodes n).1

opens : (d : ℕ) (nodes : List Node) (n : ℕ) (x : Node) → Ends d nodes n → slice_get nodes n ≡ Some x → rest_within d nodes n ≡ opened x (rest_within d nodes)
unfolding rest_within
opens zero nodes n x ends is = absurd ends
opens (suc d) nodes n x (y, has, after) is =
    let same : y ≡ x = cc in
    ap (λ o. opened_at o (rest_within d nodes)) is
    ∙ opened_same x (rest_within d nodes) (rest_within (suc d) nodes)
    (λ k m at. sym (deeper d (suc d) nodes m (after k m (subst (λ z. slice_get (nexts z) k ≡ Some m) (sym same) at)) (omega arith)))

pub nothing_distinct : IsDistinct eqb []
unfolding IsDistinct
nothing_distinct = tt

-- the body at a node's number is made of the node and of the bodies that it names
pub rest_opened : (parts : Parts) (n : ℕ) (x : Node) → IsNumbered parts → n < length parts.nodes → slice_get parts.nodes n ≡ Some x
    → rest parts.nodes n ≡ opened x (rest parts.nodes)
rest_opened parts n x formed lt is =
    let (f, turns, reach, unique) = formed.once n lt in
    opens (length parts.nodes) parts.nodes n x (ends parts formed f (length parts.nodes) n turns [] lt reach tt nothing_distinct (omega arith)) is

-- the node that was read stands at the number
pub read_at : (parts lent : Parts) (nodes : List Node) (n : ℕ) (x : Node) → nodes ≡ lent.nodes → lent ≡ parts → n < length parts.nodes → x ≡ get_or nodes n x
    → slice_get parts.nodes n ≡ Some x
read_at parts lent nodes n x held same lt is =
    let equal : nodes ≡ parts.nodes = held ∙ ap (λ p. p.nodes) same in
    slice_get_read parts.nodes (length parts.nodes) n x refl lt (is ∙ ap (λ (xs : List Node). get_or xs n x) equal)
