-- One turn of the walk over a body leaves its first fault as it is.
use Rattle.std.proofs.Common.{◌≡◌, ℕ, zero, suc, ◌+◌, ◌<◌, ◌≤◌, List, [], ◌∷◌, ◌++◌, length, take, Option, Some, None, slice_get, refl, sym, ap, ◌∙◌, subst, arith, append_assoc, append-nil}
use Rattle.std.proofs.lemmas.Grind.{common_steps}
use Rattle.std.proofs.lemmas.List.{take_all}
use Rattle.form_faults.specs.declared.faults.Ill.{Ill}
use Rattle.form_faults.specs.declared.sorts.Known.{Known}
use Rattle.form_faults.specs.declared.signatures.Signature.{Signature}
use Rattle.form_faults.specs.Faults.{least}
use Rattle.form_faults.specs.Scopes.{bind_all, twice_all}
use Rattle.form_faults.proofs.Firsts.{least-nil, least-append}
use Rattle.form_faults.proofs.Binders.{all-long, all-front, bound_cut}
use Rattle.core_programs.specs.declared.nodes.Node.{Node}
use Rattle.core_programs.specs.declared.nodes.Parts.{Parts}
use Rattle.core_programs.specs.declared.walking.Later.{Later}
use Rattle.core_programs.specs.Formed.{nexts, IsNumbered}
use Rattle.core_programs.specs.Trees.{Tree, Nothing, Grown, Trees, NoMore, More, all_grown, grown, tree}
use Rattle.core_programs.specs.Passes.{operand_faults, binders_at, body_faults, bodies_faults}
use Rattle.core_programs.proofs.Growing.{tree_grown}

-- the body at a number, where there is one
abbrev pub at_number : Option ℕ → (ℕ → Tree) → Tree
at_number None at = Nothing
at_number (Some n) at = at n

-- the bodies from a turn on
abbrev pub from_turn : ℕ → Trees → Trees
from_turn zero ts = ts
from_turn (suc k) NoMore = NoMore
from_turn (suc k) (More t ts) = from_turn k ts

next_tree : (turn : ℕ) (ns : List ℕ) (at : ℕ → Tree) (n : ℕ) → slice_get ns turn ≡ Some n → from_turn turn (all_grown ns at) ≡ More (at n) (from_turn (suc turn) (all_grown ns at))
next_tree turn [] at n is = cc
next_tree zero (m ∷ ns) at n is = let same : m ≡ n = cc in ap (λ k. More (at k) (all_grown ns at)) same
next_tree (suc turn) (m ∷ ns) at n is = next_tree turn ns at n is

no_tree : (turn : ℕ) (ns : List ℕ) (at : ℕ → Tree) → slice_get ns turn ≡ None → from_turn turn (all_grown ns at) ≡ NoMore
no_tree zero [] at is = refl
no_tree (suc turn) [] at is = refl
no_tree zero (m ∷ ns) at is = cc
no_tree (suc turn) (m ∷ ns) at is = no_tree turn ns at is

abbrev mutual
  pub size : Tree → ℕ
  size Nothing = 0
  size (Grown x ts) = 2 + sizes ts

  pub sizes : Trees → ℕ
  sizes NoMore = 0
  sizes (More t ts) = 1 + (size t + sizes ts)

-- what is left of a body from a turn on
abbrev pub left_size : ℕ → Tree → ℕ
left_size turn Nothing = 0
left_size turn (Grown x ts) = 1 + sizes (from_turn turn ts)

abbrev pub later_size : List Node → List Later → ℕ
later_size nodes [] = 0
later_size nodes (l ∷ ls) = left_size l.turn (tree nodes l.number) + later_size nodes ls

-- a number, where there is one, is that of a node
abbrev pub IsAt : ℕ → Option ℕ → Type 0
IsAt count None = Unit {0}
IsAt count (Some n) = n < count

-- the marks ascend from one number to another, and each number is one of a node
abbrev pub Marked : ℕ → ℕ → List Later → ℕ → Type 0
Marked count low [] top = low ≤ top
Marked count low (l ∷ ls) top = (low ≤ l.mark) × (l.number < count) × Marked count l.mark ls top

Marked-order : (count low : ℕ) (ls : List Later) (top : ℕ) → Marked count low ls top → low ≤ top
Marked-order count low [] top is = is
Marked-order count low (l ∷ ls) top (le, within, more) = omega (arith, le, Marked-order count l.mark ls top more)

Marked-push : (count low : ℕ) (ls : List Later) (top up : ℕ) (l : Later) → Marked count low ls top → l.mark ≡ top → l.number < count → top ≤ up → Marked count low (ls ++ (l ∷ [])) up
Marked-push count low [] top up l is mark within le = (omega (arith, is, mark), within, omega (arith, mark, le))
Marked-push count low (x ∷ ls) top up l (order, at, more) mark within le = (order, at, Marked-push count x.mark ls top up l more mark within le)

Marked-up : (count low : ℕ) (ls : List Later) (top up : ℕ) → Marked count low ls top → top ≤ up → Marked count low ls up
Marked-up count low [] top up is le = omega (arith, is, le)
Marked-up count low (l ∷ ls) top up (order, at, more) le = (order, at, Marked-up count l.mark ls top up more le)

Marked-pop : (count low : ℕ) (ls : List Later) (top : ℕ) (l : Later) → Marked count low (ls ++ (l ∷ [])) top → Marked count low ls l.mark × (l.number < count) × (l.mark ≤ top)
Marked-pop count low [] top l (le, at, is) = (le, at, is)
Marked-pop count low (x ∷ ls) top l (le, at, more) = let (m, n, o) = Marked-pop count x.mark ls top l more in ((le, at, m), n, o)

module _ (protos funcs : List Signature) (parts : Parts) where
  -- what the bodies of a node have from a turn on
  abbrev left_faults : List Known → ℕ → Tree → List Ill
  left_faults scope turn Nothing = []
  left_faults scope turn (Grown x ts) = bodies_faults protos funcs scope x turn (from_turn turn ts)

  -- the bodies that were put off, the last one first, each in the scope up to its mark
  abbrev later_faults : List Known → List Later → List Ill
  later_faults scope [] = []
  later_faults scope (l ∷ ls) = later_faults scope ls ++ left_faults (take l.mark scope) l.turn (tree parts.nodes l.number)

  abbrev body_at : Option ℕ → Tree
  body_at at = at_number at (tree parts.nodes)

  -- the first fault of all that is left to walk, with the first so far
  abbrev walked : Option Ill → List Known → Option ℕ → List Later → Option Ill
  walked best scope at later = least best (body_faults protos funcs scope (body_at at) ++ later_faults scope later)

  -- what the walk keeps
  pub record Walking (whole best : Option Ill) (scope : List Known) (at : Option ℕ) (later : List Later) : Type 0 where
    pub same : walked best scope at later ≡ whole
    pub within : IsAt (length parts.nodes) at
    pub marked : Marked (length parts.nodes) 0 later (length scope)

  -- the bodies put off see the scope below the marks alone
  later-same : (low : ℕ) (ls : List Later) (top : ℕ) (a b : List Known) → Marked (length parts.nodes) low ls top
      → ((m : ℕ) → m ≤ top → take m a ≡ take m b) → later_faults a ls ≡ later_faults b ls
  later-same low [] top a b marked same = refl
  later-same low (l ∷ ls) top a b (le, at, more) same =
      let one : take l.mark a ≡ take l.mark b = same l.mark (Marked-order _ l.mark ls top more) in
      ap (λ fs. fs ++ left_faults (take l.mark a) l.turn (tree parts.nodes l.number)) (later-same l.mark ls top a b more same)
      ∙ ap (λ s. later_faults b ls ++ left_faults s l.turn (tree parts.nodes l.number)) one

  later-push : (scope : List Known) (ls : List Later) (l : Later)
      → later_faults scope (ls ++ (l ∷ [])) ≡ left_faults (take l.mark scope) l.turn (tree parts.nodes l.number) ++ later_faults scope ls
  later-push scope [] l = sym (append-nil _)
  later-push scope (x ∷ ls) l =
      ap (λ fs. fs ++ left_faults (take x.mark scope) x.turn (tree parts.nodes x.number)) (later-push scope ls l)
      ∙ append_assoc (left_faults (take l.mark scope) l.turn (tree parts.nodes l.number)) (later_faults scope ls) (left_faults (take x.mark scope) x.turn (tree parts.nodes x.number))

  size-push : (ls : List Later) (l : Later) → later_size parts.nodes (ls ++ (l ∷ [])) ≡ left_size l.turn (tree parts.nodes l.number) + later_size parts.nodes ls
  size-push [] l = refl
  size-push (x ∷ ls) l = omega (arith, size-push ls l)

  module _ (numbered : IsNumbered parts) where
    grown_here : (n : ℕ) (x : Node) → n < length parts.nodes → slice_get parts.nodes n ≡ Some x → tree parts.nodes n ≡ grown x (tree parts.nodes)
    grown_here n x lt here = tree_grown parts n x numbered lt here

    -- a node is read, and its bodies are put off
    pub enters : (whole best named : Option Ill) (scope : List Known) (n : ℕ) (x : Node) (later : List Later) (l : Later) → Walking whole best scope (Some n) later
        → slice_get parts.nodes n ≡ Some x → named ≡ least best (operand_faults protos funcs scope x) → l.number ≡ n → l.mark ≡ length scope → l.turn ≡ 0
        → Walking whole named scope None (later ++ (l ∷ []))
    unfolding body_faults
    enters whole best named scope n x later l walk here names number mark turn = record {
      same =
          ap (λ b. least b (later_faults scope (later ++ (l ∷ [])))) names
          ∙ ap (least (least best operands)) put_off
          ∙ sym (least-append best operands (bodies ++ later_faults scope later))
          ∙ sym (ap (least best) (append_assoc operands bodies (later_faults scope later)))
          ∙ sym (ap (λ t. least best (body_faults protos funcs scope t ++ later_faults scope later)) (grown_here n x walk.within here))
          ∙ walk.same;
      within = tt;
      marked = Marked-push _ 0 later (length scope) (length scope) l walk.marked mark (subst (λ m. m < length parts.nodes) (sym number) walk.within) (omega arith);
    }
      where
        operands : List Ill
        operands = operand_faults protos funcs scope x

        bodies : List Ill
        bodies = bodies_faults protos funcs scope x 0 (all_grown (nexts x) (tree parts.nodes))

        whole_scope : take l.mark scope ≡ scope
        whole_scope = ap (λ m. take m scope) mark ∙ take_all (length scope) scope (omega arith)

        put_off : later_faults scope (later ++ (l ∷ [])) ≡ bodies ++ later_faults scope later
        put_off =
            later-push scope later l
            ∙ ap (λ s. left_faults s l.turn (tree parts.nodes l.number) ++ later_faults scope later) whole_scope
            ∙ ap (λ k. left_faults scope k (tree parts.nodes l.number) ++ later_faults scope later) turn
            ∙ ap (λ k. left_faults scope 0 (tree parts.nodes k) ++ later_faults scope later) number
            ∙ ap (λ t. left_faults scope 0 t ++ later_faults scope later) (grown_here n x walk.within here)

    pub enters_smaller : (n : ℕ) (x : Node) (later : List Later) (l : Later) → n < length parts.nodes → slice_get parts.nodes n ≡ Some x → l.number ≡ n → l.turn ≡ 0
        → later_size parts.nodes (later ++ (l ∷ [])) < size (tree parts.nodes n) + later_size parts.nodes later
    enters_smaller n x later l lt here number turn =
        let all = ap size (grown_here n x lt here) in
        let left = ap (λ k. left_size k (tree parts.nodes l.number)) turn ∙ ap (left_size 0) (ap (tree parts.nodes) number ∙ grown_here n x lt here) in
        omega (arith, all, left, size-push later l)

    -- a node was put off, with the scope that it had
    put_off : (scope cut : List Known) (x : Node) (old later : List Later) (l : Later) → l.number < length parts.nodes → slice_get parts.nodes l.number ≡ Some x → old ≡ later ++ (l ∷ []) → cut ≡ take l.mark scope
        → later_faults scope old ≡ left_faults cut l.turn (grown x (tree parts.nodes)) ++ later_faults scope later
    put_off scope cut x old later l lt here popped cuts =
        ap (later_faults scope) popped
        ∙ later-push scope later l
        ∙ ap (λ s. left_faults s l.turn (tree parts.nodes l.number) ++ later_faults scope later) (sym cuts)
        ∙ ap (λ t. left_faults cut l.turn t ++ later_faults scope later) (grown_here l.number x lt here)

    -- the body at its turn comes next
    pub goes_on : (whole best after : Option Ill) (scope cut new : List Known) (x : Node) (n : ℕ) (old later : List Later) (l m : Later) → Walking whole best scope None old
        → slice_get parts.nodes l.number ≡ Some x → old ≡ later ++ (l ∷ []) → cut ≡ take l.mark scope → slice_get (nexts x) l.turn ≡ Some n → m.number ≡ l.number → m.mark ≡ l.mark → m.turn ≡ suc l.turn
        → after ≡ least best (twice_all cut (binders_at x l.turn)) → new ≡ bind_all cut (binders_at x l.turn) → Walking whole after new (Some n) (later ++ (m ∷ []))
    unfolding body_faults
    goes_on whole best after scope cut new x n old later l m walk here popped cuts goes number mark turn binds bound = record {
      same =
          ap (λ b. least b (body_faults protos funcs new (tree parts.nodes n) ++ later_faults new (later ++ (m ∷ [])))) binds
          ∙ ap (λ s. least (least best twice) (body_faults protos funcs s (tree parts.nodes n) ++ later_faults s (later ++ (m ∷ [])))) bound
          ∙ ap (λ fs. least (least best twice) (body ++ fs)) put_back
          ∙ sym (least-append best twice (body ++ (others ++ later_faults scope later)))
          ∙ sym (ap (least best) (append_assoc twice body (others ++ later_faults scope later)))
          ∙ sym (ap (least best) (append_assoc (twice ++ body) others (later_faults scope later)))
          ∙ sym (ap (λ ts. least best (bodies_faults protos funcs cut x l.turn ts ++ later_faults scope later)) (next_tree l.turn (nexts x) (tree parts.nodes) n goes))
          ∙ sym (ap (least best) (put_off scope cut x old later l marks.1 here popped cuts))
          ∙ walk.same;
      within = numbered.follow l.number x here l.turn n goes;
      marked = Marked-push _ 0 later l.mark (length new) m marks.0 mark (subst (λ k. k < length parts.nodes) (sym number) marks.1) longer;
    }
      where
        inner : List Known
        inner = bind_all cut (binders_at x l.turn)

        twice : List Ill
        twice = twice_all cut (binders_at x l.turn)

        body : List Ill
        body = body_faults protos funcs inner (tree parts.nodes n)

        others : List Ill
        others = bodies_faults protos funcs cut x (suc l.turn) (from_turn (suc l.turn) (all_grown (nexts x) (tree parts.nodes)))

        marks : Marked (length parts.nodes) 0 later l.mark × (l.number < length parts.nodes) × (l.mark ≤ length scope)
        marks = Marked-pop (length parts.nodes) 0 later (length scope) l (subst (λ ls. Marked (length parts.nodes) 0 ls (length scope)) popped walk.marked)

        long : length cut ≡ l.mark
        long = let le = marks.2 in rw cuts (grind (arith, common_steps))

        longer : l.mark ≤ length new
        longer = let more = subst (λ s. length cut ≤ length s) (sym bound) (all-long cut (binders_at x l.turn)) in omega (arith, long, more)

        front : (k : ℕ) → k ≤ l.mark → take k inner ≡ take k scope
        front k le =
            all-front cut (binders_at x l.turn) k (omega (arith, le, long))
            ∙ ap (take k) cuts
            ∙ grind (arith, common_steps)

        put_back : later_faults inner (later ++ (m ∷ [])) ≡ others ++ later_faults scope later
        put_back =
            later-push inner later m
            ∙ ap (λ k. left_faults (take k inner) m.turn (tree parts.nodes m.number) ++ later_faults inner later) (mark ∙ sym long)
            ∙ ap (λ s. left_faults s m.turn (tree parts.nodes m.number) ++ later_faults inner later) (bound_cut cut (binders_at x l.turn))
            ∙ ap (λ k. left_faults cut k (tree parts.nodes m.number) ++ later_faults inner later) turn
            ∙ ap (λ k. left_faults cut (suc l.turn) (tree parts.nodes k) ++ later_faults inner later) number
            ∙ ap (λ t. left_faults cut (suc l.turn) t ++ later_faults inner later) (grown_here l.number x marks.1 here)
            ∙ ap (λ fs. others ++ fs) (later-same 0 later l.mark inner scope marks.0 front)

    pub goes_smaller : (x : Node) (n : ℕ) (old later : List Later) (l m : Later) → l.number < length parts.nodes → slice_get parts.nodes l.number ≡ Some x → old ≡ later ++ (l ∷ []) → slice_get (nexts x) l.turn ≡ Some n
        → m.number ≡ l.number → m.turn ≡ suc l.turn → size (tree parts.nodes n) + later_size parts.nodes (later ++ (m ∷ [])) < later_size parts.nodes old
    goes_smaller x n old later l m lt here popped goes number turn =
        let grown_is = grown_here l.number x lt here in
        let before = ap (left_size l.turn) grown_is ∙ ap (λ ts. 1 + sizes ts) (next_tree l.turn (nexts x) (tree parts.nodes) n goes) in
        let behind = ap (λ k. left_size k (tree parts.nodes m.number)) turn ∙ ap (λ k. left_size (suc l.turn) (tree parts.nodes k)) number ∙ ap (left_size (suc l.turn)) grown_is in
        omega (arith, before, behind, ap (later_size parts.nodes) popped, size-push later l, size-push later m)

    -- all bodies of a node were walked
    pub leaves : (whole best : Option Ill) (scope cut : List Known) (x : Node) (old later : List Later) (l : Later) → Walking whole best scope None old
        → slice_get parts.nodes l.number ≡ Some x → old ≡ later ++ (l ∷ []) → cut ≡ take l.mark scope → slice_get (nexts x) l.turn ≡ None → Walking whole best cut None later
    unfolding body_faults
    leaves whole best scope cut x old later l walk here popped cuts none = record {
      same =
          ap (least best) (later-same 0 later l.mark cut scope marks.0 front)
          ∙ sym (ap (λ ts. least best (bodies_faults protos funcs cut x l.turn ts ++ later_faults scope later)) (no_tree l.turn (nexts x) (tree parts.nodes) none))
          ∙ sym (ap (least best) (put_off scope cut x old later l marks.1 here popped cuts))
          ∙ walk.same;
      within = tt;
      marked = Marked-up _ 0 later l.mark (length cut) marks.0 (omega (arith, long));
    }
      where
        marks : Marked (length parts.nodes) 0 later l.mark × (l.number < length parts.nodes) × (l.mark ≤ length scope)
        marks = Marked-pop (length parts.nodes) 0 later (length scope) l (subst (λ ls. Marked (length parts.nodes) 0 ls (length scope)) popped walk.marked)

        long : length cut ≡ l.mark
        long = let le = marks.2 in rw cuts (grind (arith, common_steps))

        front : (k : ℕ) → k ≤ l.mark → take k cut ≡ take k scope
        front k le = ap (take k) cuts ∙ grind (arith, common_steps)

    pub leaves_smaller : (x : Node) (old later : List Later) (l : Later) → l.number < length parts.nodes → slice_get parts.nodes l.number ≡ Some x → old ≡ later ++ (l ∷ []) → slice_get (nexts x) l.turn ≡ None
        → later_size parts.nodes later < later_size parts.nodes old
    leaves_smaller x old later l lt here popped none =
        let before = ap (left_size l.turn) (grown_here l.number x lt here) ∙ ap (λ ts. 1 + sizes ts) (no_tree l.turn (nexts x) (tree parts.nodes) none) in
        omega (arith, before, ap (later_size parts.nodes) popped, size-push later l)

    pub popped_within : (whole best : Option Ill) (scope : List Known) (old later : List Later) (l : Later) → Walking whole best scope None old → old ≡ later ++ (l ∷ []) → l.number < length parts.nodes
    popped_within whole best scope old later l walk popped =
        (Marked-pop (length parts.nodes) 0 later (length scope) l (subst (λ ls. Marked (length parts.nodes) 0 ls (length scope)) popped walk.marked)).1

    pub ends : (whole best : Option Ill) (scope : List Known) (old : List Later) → Walking whole best scope None old → old ≡ [] → best ≡ whole
    unfolding body_faults
    ends whole best scope old walk empty = sym (least-nil best) ∙ sym (ap (λ ls. least best (later_faults scope ls)) empty) ∙ walk.same

pub is_empty : (ls : List Later) → length ls ≡ 0 → ls ≡ []
is_empty [] is = refl
is_empty (l ∷ ls) is = absurd (omega (arith, is))
