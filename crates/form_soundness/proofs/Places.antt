-- Ways through a table of protocols, and the places to which they lead.
use Rattle.std.proofs.Common.{◌≡◌, ◌⊎◌, inl, inr, ℕ, zero, suc, ◌<◌, Bool, true, false, nat_lt, cond, List, [], ◌∷◌, map, length, Option, Some, None, slice_get, option_map, option_and_then, ⊎_elim, refl, sym, ap, ◌∙◌, subst, arith}
use Rattle.std.proofs.lemmas.Bool.{ltb-true, ltb-false}
use Rattle.std.proofs.lemmas.List.{length-map}
use Rattle.std.proofs.lemmas.Option.{none-some, same_Some, slice_get-map}
use Rattle.core_language.specs.Names.{Ident, same}
use Rattle.core_language.specs.Resources as written
use Rattle.chan_syntax.specs.declared.resources.Proto.{Proto}
use Rattle.chan_syntax.specs.declared.operands.Letter.{Letter}
use Rattle.chan_syntax.specs.declared.operands.Letter.TheVariants as letter
use Rattle.chan_syntax.specs.Reading.{proto_of}
use Rattle.protocol_guard.specs.declared.graphs.Turns.{Turns}
use Rattle.protocol_guard.specs.Guards.{branch_of, proto_place, turns_of, graph_of, turned, step, walk}
use Rattle.protocol_guard.proofs.Tables.{graph_closed}
use Rattle.outline_language.specs.Equations.{proto_named}

-- ---- lists of places

abbrev pub IsOneOf : ℕ → List ℕ → Type 0
IsOneOf k [] = ⊥
IsOneOf k (i ∷ places) = (i ≡ k) ⊎ IsOneOf k places

abbrev pub below : ℕ → List ℕ
below zero = []
below (suc n) = n ∷ below n

pub below_all : (n k : ℕ) → k < n → IsOneOf k (below n)
below_all zero k lt = absurd (omega (arith, lt))
below_all (suc n) k lt = by (nat_lt k n) refl (below_all n k)
  where
    by : (b : Bool) → nat_lt k n ≡ b → (k < n → IsOneOf k (below n)) → (n ≡ k) ⊎ IsOneOf k (below n)
    by true q more = inr (more (ltb-true k n q))
    by false q more = inl (let least = ltb-false k n q in omega (arith, least, lt))

-- the others of a list
pub without : (i : ℕ) (places : List ℕ) → IsOneOf i places → (rest : List ℕ) × (length places ≡ suc (length rest)) × ((k : ℕ) → IsOneOf k places → (k ≡ i) ⊎ IsOneOf k rest)
without i [] one = absurd one
without i (j ∷ places) (inl is) = (places, refl, λ k one. ⊎_elim (λ e. inl (sym e ∙ is)) (λ more. inr more) one)
without i (j ∷ places) (inr one) =
    let (rest, long, others) = without i places one in
    (j ∷ rest, ap suc long, λ k two. ⊎_elim (λ e. inr (inl e)) (λ more. ⊎_elim (λ e. inl e) (λ left. inr (inr left)) (others k more)) two)

-- ---- ways

pub walk-none : (graph : List Turns) (i : ℕ) → walk graph i [] ≡ Some i
unfolding walk
walk-none graph i = refl

pub walk_more : (graph : List Turns) (i j k : ℕ) (turn : Letter) (turns : List Letter) → step graph i turn ≡ Some j → walk graph j turns ≡ Some k → walk graph i (turn ∷ turns) ≡ Some k
unfolding walk
walk_more graph i j k turn turns goes leads = ap (option_and_then (λ m. walk graph m turns)) goes ∙ leads

-- ways stay in the graph
pub walk_within : (table : List Proto) (turns : List Letter) (i k : ℕ) → i < length (graph_of table) → walk (graph_of table) i turns ≡ Some k → k < length (graph_of table)
unfolding walk
walk_within table [] i k lt leads = subst (λ m. m < length (graph_of table)) (same_Some i k leads) lt
walk_within table (turn ∷ turns) i k lt leads = by (step (graph_of table) i turn) refl leads (walk_within table turns)
  where
    by : (o : Option ℕ) → step (graph_of table) i turn ≡ o → option_and_then (λ m. walk (graph_of table) m turns) o ≡ Some k
        → ((j m : ℕ) → j < length (graph_of table) → walk (graph_of table) j turns ≡ Some m → m < length (graph_of table)) → k < length (graph_of table)
    by None goes e more = absurd (none-some k e)
    by (Some j) goes e more = more j k (graph_closed table i turn j goes) e

pub graph-long : (table : List Proto) → length (graph_of table) ≡ length table
unfolding graph_of
graph-long table = length-map table (turns_of (proto_place table))

-- a turn of the graph is the reference of an `if`
pub step_by : (table : List Proto) (i j : ℕ) (p : Proto) (turn : Letter) (x : Ident) → slice_get table i ≡ Some p → branch_of p.equation turn ≡ Some x → proto_place table x ≡ Some j
    → step (graph_of table) i turn ≡ Some j
unfolding step graph_of
step_by table i j p turn x has branch place =
    ap (λ o. turned o turn) (slice_get-map (turns_of (proto_place table)) table i ∙ ap (option_map (turns_of (proto_place table))) has)
    ∙ by turn (ap (option_and_then (proto_place table)) branch ∙ place)
  where
    by : (t : Letter) → option_and_then (proto_place table) (branch_of p.equation t) ≡ Some j → turned (Some (turns_of (proto_place table) p)) t ≡ Some j
    by letter.Left is = is
    by letter.Right is = is

-- ---- protocols of a table

-- the first protocol with a name, and its place
pub record IsPlaced (table : List Proto) (x : Ident) (i : ℕ) (p : Proto) : Type 0 where
  pub place : proto_place table x ≡ Some i
  pub has : slice_get table i ≡ Some p
  pub named : proto_named x (map proto_of table) ≡ Some (proto_of p)

pub placed : (table : List Proto) (x : Ident) (proto : written.Proto) → proto_named x (map proto_of table) ≡ Some proto → (i : ℕ) × (p : Proto) × IsPlaced table x i p
placed [] x proto is = cc
placed (q ∷ table) x proto is = let (i, p, place, has, named) = by (same q.name x) is (placed table x proto) in (i, p, record { place = place; has = has; named = named })
  where
    by : (b : Bool) → cond b (Some (proto_of q)) (proto_named x (map proto_of table)) ≡ Some proto
        → (proto_named x (map proto_of table) ≡ Some proto → (i : ℕ) × (p : Proto) × IsPlaced table x i p)
        → (i : ℕ) × (p : Proto) × (cond b (Some 0) (option_map suc (proto_place table x)) ≡ Some i) × (slice_get (q ∷ table) i ≡ Some p)
        × (cond b (Some (proto_of q)) (proto_named x (map proto_of table)) ≡ Some (proto_of p))
    by true e again = (0, q, refl, refl, refl)
    by false e again = let (i, p, at) = again e in (suc i, p, ap (option_map suc) at.place, at.has, at.named)
