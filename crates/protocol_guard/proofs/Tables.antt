-- The graph of a table of protocols.
use Rattle.std.proofs.Common.{◌≡◌, ℕ, zero, suc, ◌+◌, ◌<◌, ◌≤◌, Bool, true, false, cond, List, [], ◌∷◌, ◌++◌, length, map, take, drop, drop-cons, append_assoc, append-nil, get_or, Option, Some, None, slice_get, option_map, option_and_then, refl, sym, ap, ◌∙◌, subst, arith, BTreeMap}
use Rattle.std.specs.Cmp.Lexicographic.{bytes_decides, slice_cmp}
use Rattle.std.specs.Ordering.{nat_cmp}
use Rattle.std.specs.BTreeMap.{Updates}
use Rattle.std.proofs.lemmas.Option.{none-some, same_Some}
use Rattle.std.proofs.lemmas.Map.Text.{is_eq-slice_cmp}
use Rattle.core_language.specs.Names.{Ident, same}
use Rattle.chan_syntax.specs.declared.resources.Proto.{Proto}
use Rattle.chan_syntax.specs.declared.operands.Letter.{Letter}
use Rattle.chan_syntax.specs.declared.operands.Letter.TheVariants as letter
use Rattle.protocol_guard.specs.declared.graphs.Turns.{Turns}
use Rattle.protocol_guard.specs.Guards.{branch_of, proto_place, turns_of, graph_of, turned, step, walk, Returns, name_of, name_at, names_on}
use Rattle.protocol_guard.specs.Searches.{IsClosed}
use Rattle.protocol_guard.specs.Places.{placed, joined, AddsPlace, ArePlaces}

-- a name that has a place keeps the map as it is
pub keeps_places : (places : BTreeMap Ident ℕ) (name : Ident) (k place : ℕ) → placed places name ≡ Some k → AddsPlace places places name place
keeps_places places name k place is x = by (placed places x) refl (same name x) refl
  where
    by : (o : Option ℕ) → placed places x ≡ o → (b : Bool) → same name x ≡ b → o ≡ joined o b place
    by (Some j) at b here = refl
    by None at false here = refl
    by None at true here = absurd (none-some k (sym at ∙ ap (placed places) (sym ((bytes_decides name x).0 here)) ∙ is))

pub adds_place : (old new : BTreeMap Ident ℕ) (name : Ident) (place : ℕ) → placed old name ≡ None → Updates (slice_cmp nat_cmp) old new name (Some place) → AddsPlace old new name place
adds_place old new name place none updates x = by (same name x) refl
  where
    kept : (o : Option ℕ) → o ≡ joined o false place
    kept None = refl
    kept (Some k) = refl

    by : (b : Bool) → same name x ≡ b → placed new x ≡ joined (placed old x) b place
    by true here =
        let one : name ≡ x = (bytes_decides name x).0 here in
        ap (placed new) (sym one) ∙ updates.1 ∙ sym (ap (λ o. joined o true place) (ap (placed old) (sym one) ∙ none))
    by false here = updates.2 x (is_eq-slice_cmp name x ∙ here) ∙ kept (placed old x)

-- one protocol more
place-push : (ps : List Proto) (p : Proto) (x : Ident) → proto_place (ps ++ p ∷ []) x ≡ joined (proto_place ps x) (same p.name x) (length ps)
place-push [] p x = refl
place-push (q ∷ ps) p x = by (same q.name x) (same p.name x) (proto_place ps x) (place-push ps p x)
  where
    more : (o : Option ℕ) (c : Bool) → option_map suc (joined o c (length ps)) ≡ joined (option_map suc o) c (suc (length ps))
    more (Some k) c = refl
    more None true = refl
    more None false = refl

    by : (b c : Bool) (o : Option ℕ) → proto_place (ps ++ p ∷ []) x ≡ joined o c (length ps)
        → cond b (Some 0) (option_map suc (proto_place (ps ++ p ∷ []) x)) ≡ joined (cond b (Some 0) (option_map suc o)) c (suc (length ps))
    by true c o is = refl
    by false c o is = ap (option_map suc) is ∙ more o c

take-one : (ps : List Proto) (i : ℕ) (p : Proto) → i < length ps → p ≡ get_or ps i p → take (i + 1) ps ≡ take i ps ++ p ∷ []
take-one ps i p lt is = let next : i + 1 ≡ suc i = omega arith in rw next (go ps i p lt is)
  where
    go : (qs : List Proto) (k : ℕ) (q : Proto) → k < length qs → q ≡ get_or qs k q → take (suc k) qs ≡ take k qs ++ q ∷ []
    go [] k q h e = absurd (omega (arith, h))
    go (r ∷ qs) zero q h e = ap (λ s. s ∷ []) (sym e)
    go (r ∷ qs) (suc k) q h e = ap (λ rs. r ∷ rs) (go qs k q (omega (arith, h)) e)

take-long : (ps : List Proto) (i : ℕ) → i ≤ length ps → length (take i ps) ≡ i
take-long ps zero le = refl
take-long [] (suc i) le = absurd (omega (arith, le))
take-long (p ∷ ps) (suc i) le = ap suc (take-long ps i (omega (arith, le)))

take-whole : (ps : List Proto) (i : ℕ) → length ps ≤ i → take i ps ≡ ps
take-whole [] zero le = refl
take-whole [] (suc i) le = refl
take-whole (p ∷ ps) zero le = absurd (omega (arith, le))
take-whole (p ∷ ps) (suc i) le = ap (λ qs. p ∷ qs) (take-whole ps i (omega (arith, le)))

pub places_more : (ps : List Proto) (i : ℕ) (p : Proto) (old new : BTreeMap Ident ℕ) → i < length ps → p ≡ get_or ps i p → ArePlaces (take i ps) old → AddsPlace old new p.name i → ArePlaces (take (i + 1) ps) new
places_more ps i p old new lt is are adds x =
    let long : length (take i ps) ≡ i = take-long ps i (omega (arith, lt)) in
    adds x
    ∙ ap (λ o. joined o (same p.name x) i) (are x)
    ∙ sym (ap (λ (qs : List Proto). proto_place qs x) (take-one ps i p lt is) ∙ place-push (take i ps) p x ∙ ap (joined (proto_place (take i ps) x) (same p.name x)) long)

pub places_all : (ps : List Proto) (i : ℕ) (places : BTreeMap Ident ℕ) → length ps ≤ i → ArePlaces (take i ps) places → ArePlaces ps places
places_all ps i places le are = subst (λ (qs : List Proto). ArePlaces qs places) (take-whole ps i le) are

-- the graph by the places of the map
pub same_graph : (protos : List Proto) (places : BTreeMap Ident ℕ) → ArePlaces protos places → map (turns_of (placed places)) protos ≡ graph_of protos
unfolding graph_of
same_graph protos places are = go protos
  where
    led : (o : Option Ident) → option_and_then (placed places) o ≡ option_and_then (proto_place protos) o
    led None = refl
    led (Some x) = are x

    one : (p : Proto) → turns_of (placed places) p ≡ turns_of (proto_place protos) p
    one p =
        ap (λ o. record { left = o; right = option_and_then (placed places) (branch_of p.equation letter.Right) }) (led (branch_of p.equation letter.Left))
        ∙ ap (λ o. record { left = option_and_then (proto_place protos) (branch_of p.equation letter.Left); right = o }) (led (branch_of p.equation letter.Right))

    go : (ps : List Proto) → map (turns_of (placed places)) ps ≡ map (turns_of (proto_place protos)) ps
    go [] = refl
    go (p ∷ ps) = ap (λ t. t ∷ map (turns_of (placed places)) ps) (one p) ∙ ap (λ ts. turns_of (proto_place protos) p ∷ ts) (go ps)

place-within : (ps : List Proto) (x : Ident) (i : ℕ) → proto_place ps x ≡ Some i → i < length ps
place-within [] x i is = absurd (none-some i is)
place-within (p ∷ ps) x i is = by (same p.name x) (proto_place ps x) refl (place-within ps x) is
  where
    by : (b : Bool) (o : Option ℕ) → proto_place ps x ≡ o → ((j : ℕ) → proto_place ps x ≡ Some j → j < length ps) → cond b (Some 0) (option_map suc o) ≡ Some i → i < suc (length ps)
    by true o at more is = let first = same_Some 0 i is in omega (arith, first)
    by false None at more is = absurd (none-some i is)
    by false (Some j) at more is = let next = same_Some (suc j) i is in let lt = more j at in omega (arith, next, lt)

-- each turn of the graph leads into it
pub graph_closed : (protos : List Proto) → IsClosed (graph_of protos)
unfolding graph_of step
graph_closed protos i turn j leads = subst (λ n. j < n) (sym (long protos)) (at protos i leads)
  where
    long : (ps : List Proto) → length (map (turns_of (proto_place protos)) ps) ≡ length ps
    long [] = refl
    long (p ∷ ps) = ap suc (long ps)

    led : (o : Option Ident) → option_and_then (proto_place protos) o ≡ Some j → j < length protos
    led None is = absurd (none-some j is)
    led (Some x) is = place-within protos x j is

    one : (p : Proto) (t : Letter) → turned (Some (turns_of (proto_place protos) p)) t ≡ Some j → j < length protos
    one p letter.Left is = led (branch_of p.equation letter.Left) is
    one p letter.Right is = led (branch_of p.equation letter.Right) is

    at : (ps : List Proto) (k : ℕ) → turned (slice_get (map (turns_of (proto_place protos)) ps) k) turn ≡ Some j → j < length protos
    at [] zero is = absurd (none-some j is)
    at [] (suc k) is = absurd (none-some j is)
    at (p ∷ ps) zero is = one p turn is
    at (p ∷ ps) (suc k) is = at ps k is

-- from outside the graph no turn leads anywhere
pub outside : (graph : List Turns) (i : ℕ) (way : List Letter) → length graph ≤ i → Returns graph i way → ⊥
unfolding walk step
outside graph i [] le back = back
outside graph i (turn ∷ way) le back = none-some i (sym (ap (λ o. option_and_then (λ j. walk graph j way) (turned o turn)) (none graph i le)) ∙ back)
  where
    none : (xs : List Turns) (k : ℕ) → length xs ≤ k → slice_get xs k ≡ None
    none [] zero h = refl
    none [] (suc k) h = refl
    none (x ∷ xs) zero h = absurd (omega (arith, h))
    none (x ∷ xs) (suc k) h = none xs k (omega (arith, h))

pub no_step : (graph : List Turns) (i : ℕ) (turn : Letter) → length graph ≤ i → step graph i turn ≡ None
unfolding step
no_step graph i turn le = ap (λ o. turned o turn) (none graph i le)
  where
    none : (xs : List Turns) (k : ℕ) → length xs ≤ k → slice_get xs k ≡ None
    none [] zero h = refl
    none [] (suc k) h = refl
    none (x ∷ xs) zero h = absurd (omega (arith, h))
    none (x ∷ xs) (suc k) h = none xs k (omega (arith, h))

pub nothing_at : (ps : List Proto) (i : ℕ) (names : List Ident) → length ps ≤ i → names ≡ names ++ name_of (slice_get ps i)
nothing_at ps i names le = sym (ap (λ o. names ++ name_of o) (none ps i le) ∙ append-nil names)
  where
    none : (xs : List Proto) (k : ℕ) → length xs ≤ k → slice_get xs k ≡ None
    none [] zero h = refl
    none [] (suc k) h = refl
    none (x ∷ xs) zero h = absurd (omega (arith, h))
    none (x ∷ xs) (suc k) h = none xs k (omega (arith, h))

names-one : (protos : List Proto) (at : Option ℕ) (turn : Letter) (way : List Letter)
    → names_on protos at (turn ∷ way) ≡ name_at protos at ++ names_on protos (option_and_then (λ i. step (graph_of protos) i turn) at) way
unfolding names_on
names-one protos at turn way = refl

-- one name of a cycle more
pub names_more : (protos : List Proto) (graph : List Turns) (at next : Option ℕ) (way : List Letter) (i : ℕ) (d : Letter) (names new total : List Ident) → graph ≡ graph_of protos → i < length way
    → new ≡ names ++ name_at protos at → next ≡ option_and_then (λ k. step graph k (get_or way i d)) at → names ++ names_on protos at (drop i way) ≡ total → new ++ names_on protos next (drop (i + 1) way) ≡ total
names_more protos graph at next way i d names new total is lt adds leads before =
    let number : i + 1 ≡ suc i = omega arith in
    rw number
    (ap (λ ns. ns ++ names_on protos next (drop (suc i) way)) adds
    ∙ append_assoc names (name_at protos at) (names_on protos next (drop (suc i) way))
    ∙ ap (λ o. names ++ (name_at protos at ++ names_on protos o (drop (suc i) way))) (leads ∙ ap (λ g. option_and_then (λ k. step g k (get_or way i d)) at) is)
    ∙ sym (ap (λ w. names ++ names_on protos at w) (drop-cons way i d lt) ∙ ap (λ ns. names ++ ns) (names-one protos at (get_or way i d) (drop (suc i) way)))
    ∙ before)
