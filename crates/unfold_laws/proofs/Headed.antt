-- Each end of a protocol of a program of form has a head.
use Rattle.std.proofs.Common.{◌≡◌, ◌⊎◌, inl, inr, ℕ, zero, suc, ◌<◌, Bool, true, false, nat_lt, if◌then◌else◌, List, [], ◌∷◌, map, length, Option, Some, None, slice_get, option_map, option_and_then, ⊎_elim, refl, sym, ap, ◌∙◌, subst, arith}
use Rattle.std.proofs.lemmas.Bool.{ltb-true, ltb-false}
use Rattle.std.proofs.lemmas.List.{length-map}
use Rattle.std.proofs.lemmas.List.Elements.{All-head, All-tail}
use Rattle.std.proofs.lemmas.Option.{none-some, same_Some, slice_get-map, slice_get_within}
use Rattle.core_language.specs.Names.{Ident, same}
use Rattle.core_language.specs.Terms.{Term}
use Rattle.core_language.specs.Resources as resource
use Rattle.core_language.specs.Operands as operand
use Rattle.chan_syntax.specs.declared.resources.Equation.{Equation}
use Rattle.chan_syntax.specs.declared.resources.Equation.TheVariants as equation
use Rattle.chan_syntax.specs.declared.resources.Proto.{Proto}
use Rattle.chan_syntax.specs.declared.operands.Letter.{Letter}
use Rattle.chan_syntax.specs.declared.operands.Letter.TheVariants as letter
use Rattle.chan_syntax.specs.Reading.{equation_of, proto_of}
use Rattle.protocol_guard.specs.declared.graphs.Turns.{Turns}
use Rattle.protocol_guard.specs.Guards.{branch_of, proto_place, turns_of, graph_of, turned, step, walk, IsGuarded}
use Rattle.protocol_guard.proofs.Tables.{graph_closed}
use Rattle.core_programs.specs.declared.nodes.Parts.{Parts}
use Rattle.core_programs.specs.Form.{HasForm}
use Rattle.protocols.specs.Duals.{Message, dual_equation, message_of}
use Rattle.protocols.specs.Heads.{argument, concrete, equation_of_end, Head, way, on_way, HasHead}
use Rattle.outline_language.specs.Equations.{Concrete, proto_named}
use Rattle.unfold_laws.specs.References.{refs_of_equation, IsKnown, AreKnown, KnowTheirs}
use Rattle.unfold_laws.proofs.Known.{theirs_known}

-- ---- lists of places

abbrev IsOneOf : ℕ → List ℕ → Type 0
IsOneOf k [] = ⊥
IsOneOf k (i ∷ places) = (i ≡ k) ⊎ IsOneOf k places

abbrev below : ℕ → List ℕ
below zero = []
below (suc n) = n ∷ below n

below_all : (n k : ℕ) → k < n → IsOneOf k (below n)
below_all zero k lt = absurd (omega (arith, lt))
below_all (suc n) k lt = by (nat_lt k n) refl (below_all n k)
  where
    by : (b : Bool) → nat_lt k n ≡ b → (k < n → IsOneOf k (below n)) → (n ≡ k) ⊎ IsOneOf k (below n)
    by true q more = inr (more (ltb-true k n q))
    by false q more = inl (let least = ltb-false k n q in omega (arith, least, lt))

-- the others of a list
without : (i : ℕ) (places : List ℕ) → IsOneOf i places → (rest : List ℕ) × (length places ≡ suc (length rest)) × ((k : ℕ) → IsOneOf k places → (k ≡ i) ⊎ IsOneOf k rest)
without i [] one = absurd one
without i (j ∷ places) (inl is) = (places, refl, λ k one. ⊎_elim (λ e. inl (sym e ∙ is)) (λ more. inr more) one)
without i (j ∷ places) (inr one) =
    let (rest, long, others) = without i places one in
    (j ∷ rest, ap suc long, λ k two. ⊎_elim (λ e. inr (inl e)) (λ more. ⊎_elim (λ e. inl e) (λ left. inr (inr left)) (others k more)) two)

-- ---- ways

walk-none : (graph : List Turns) (i : ℕ) → walk graph i [] ≡ Some i
unfolding walk
walk-none graph i = refl

walk_more : (graph : List Turns) (i j k : ℕ) (turn : Letter) (turns : List Letter) → step graph i turn ≡ Some j → walk graph j turns ≡ Some k → walk graph i (turn ∷ turns) ≡ Some k
unfolding walk
walk_more graph i j k turn turns goes leads = ap (option_and_then (λ m. walk graph m turns)) goes ∙ leads

-- ways stay in the graph
walk_within : (table : List Proto) (turns : List Letter) (i k : ℕ) → i < length (graph_of table) → walk (graph_of table) i turns ≡ Some k → k < length (graph_of table)
unfolding walk
walk_within table [] i k lt leads = subst (λ m. m < length (graph_of table)) (same_Some i k leads) lt
walk_within table (turn ∷ turns) i k lt leads = by (step (graph_of table) i turn) refl leads (walk_within table turns)
  where
    by : (o : Option ℕ) → step (graph_of table) i turn ≡ o → option_and_then (λ m. walk (graph_of table) m turns) o ≡ Some k
        → ((j m : ℕ) → j < length (graph_of table) → walk (graph_of table) j turns ≡ Some m → m < length (graph_of table)) → k < length (graph_of table)
    by None goes e more = absurd (none-some k e)
    by (Some j) goes e more = more j k (graph_closed table i turn j goes) e

graph-long : (table : List Proto) → length (graph_of table) ≡ length table
unfolding graph_of
graph-long table = length-map table (turns_of (proto_place table))

-- a turn of the graph is the reference of an `if`
step_by : (table : List Proto) (i j : ℕ) (p : Proto) (turn : Letter) (x : Ident) → slice_get table i ≡ Some p → branch_of p.equation turn ≡ Some x → proto_place table x ≡ Some j
    → step (graph_of table) i turn ≡ Some j
unfolding step graph_of
step_by table i j p turn x has branch place =
    ap (λ o. turned o turn) (slice_get-map (turns_of (proto_place table)) table i ∙ ap (option_map (turns_of (proto_place table))) has)
    ∙ by turn (ap (option_and_then (proto_place table)) branch ∙ place)
  where
    by : (t : Letter) → option_and_then (proto_place table) (branch_of p.equation t) ≡ Some j → turned (Some (turns_of (proto_place table) p)) t ≡ Some j
    by letter.Left is = is
    by letter.Right is = is

-- ---- protocols of a table

-- the first protocol with a name, and its place
record IsPlaced (table : List Proto) (x : Ident) (i : ℕ) (p : Proto) : Type 0 where
  place : proto_place table x ≡ Some i
  has : slice_get table i ≡ Some p
  named : proto_named x (map proto_of table) ≡ Some (proto_of p)

placed : (table : List Proto) (x : Ident) (proto : resource.Proto) → proto_named x (map proto_of table) ≡ Some proto → (i : ℕ) × (p : Proto) × IsPlaced table x i p
placed [] x proto is = cc
placed (q ∷ table) x proto is = let (i, p, place, has, named) = by (same q.name x) is (placed table x proto) in (i, p, record { place = place; has = has; named = named })
  where
    by : (b : Bool) → (if b then Some (proto_of q) else proto_named x (map proto_of table)) ≡ Some proto
        → (proto_named x (map proto_of table) ≡ Some proto → (i : ℕ) × (p : Proto) × IsPlaced table x i p)
        → (i : ℕ) × (p : Proto) × ((if b then Some 0 else option_map suc (proto_place table x)) ≡ Some i) × (slice_get (q ∷ table) i ≡ Some p)
        × ((if b then Some (proto_of q) else proto_named x (map proto_of table)) ≡ Some (proto_of p))
    by true e again = (0, q, refl, refl, refl)
    by false e again = let (i, p, at) = again e in (suc i, p, ap (option_map suc) at.place, at.has, at.named)

-- ---- equations

message_or_branch : (e : resource.Equation)
    → ((message : Message) × (message_of e ≡ Some message)) ⊎ ((left right : Term) × (this other : resource.Ref) × (e ≡ resource.Branch left right this other))
message_or_branch (resource.Send res next) = inl (_, refl)
message_or_branch (resource.Recv res next) = inl (_, refl)
message_or_branch resource.Close = inl (_, refl)
message_or_branch resource.Wait = inl (_, refl)
message_or_branch (resource.Branch left right this other) = inr (left, right, this, other, refl)

-- the protocol that an `if` names on its way
abbrev name_on : operand.Letter → resource.Equation → Option Ident
name_on l (resource.Branch left right this other) = Some (on_way l this other).name
name_on l _ = None

abbrev turn_of : operand.Letter → Letter
turn_of operand.First = letter.Left
turn_of operand.Second = letter.Right

name_of_dual : (l : operand.Letter) (e : resource.Equation) → name_on l (dual_equation e) ≡ name_on l e
name_of_dual l (resource.Send res next) = refl
name_of_dual l (resource.Recv res next) = refl
name_of_dual l resource.Close = refl
name_of_dual l resource.Wait = refl
name_of_dual operand.First (resource.Branch left right this other) = refl
name_of_dual operand.Second (resource.Branch left right this other) = refl

name_of_end : (l : operand.Letter) (dual : Bool) (proto : resource.Proto) → name_on l (equation_of_end dual proto) ≡ name_on l proto.equation
name_of_end l true proto = name_of_dual l proto.equation
name_of_end l false proto = refl

name_of_branch : (l : operand.Letter) (e : Equation) → branch_of e (turn_of l) ≡ name_on l (equation_of e)
name_of_branch operand.First (equation.Send res next) = refl
name_of_branch operand.Second (equation.Send res next) = refl
name_of_branch operand.First (equation.Recv res next) = refl
name_of_branch operand.Second (equation.Recv res next) = refl
name_of_branch operand.First equation.Close = refl
name_of_branch operand.Second equation.Close = refl
name_of_branch operand.First equation.Wait = refl
name_of_branch operand.Second equation.Wait = refl
name_of_branch operand.First (equation.Branch left right this other) = refl
name_of_branch operand.Second (equation.Branch left right this other) = refl

name_known : (protos : List resource.Proto) (l : operand.Letter) (e : resource.Equation) (x : Ident) → name_on l e ≡ Some x → AreKnown protos (refs_of_equation e)
    → (proto : resource.Proto) × (proto_named x protos ≡ Some proto)
name_known protos l (resource.Send res next) x is known = absurd (none-some x is)
name_known protos l (resource.Recv res next) x is known = absurd (none-some x is)
name_known protos l resource.Close x is known = absurd (none-some x is)
name_known protos l resource.Wait x is known = absurd (none-some x is)
name_known protos operand.First (resource.Branch left right this other) x is known =
    let (proto, named, long) = All-head (IsKnown protos) this (other ∷ []) known in
    (proto, subst (λ y. proto_named y protos ≡ Some proto) (same_Some this.name x is) named)
name_known protos operand.Second (resource.Branch left right this other) x is known =
    let (proto, named, long) = All-head (IsKnown protos) other [] (All-tail (IsKnown protos) this (other ∷ []) known) in
    (proto, subst (λ y. proto_named y protos ≡ Some proto) (same_Some other.name x is) named)

-- ---- heads

module _ (table : List Proto) (guarded : IsGuarded table) (known : KnowTheirs (map proto_of table)) where
  -- the ways from a place lead to places of the list alone
  abbrev LeadsWithin : List ℕ → ℕ → Type 0
  LeadsWithin places i = (turns : List Letter) (k : ℕ) → walk (graph_of table) i turns ≡ Some k → IsOneOf k places

  -- after a turn they don't lead back to the place
  leads_on : (places rest : List ℕ) (i j : ℕ) (turn : Letter) → step (graph_of table) i turn ≡ Some j → ((k : ℕ) → IsOneOf k places → (k ≡ i) ⊎ IsOneOf k rest)
      → LeadsWithin places i → LeadsWithin rest j
  leads_on places rest i j turn goes others within turns k leads =
      let longer = walk_more (graph_of table) i j k turn turns goes leads in
      ⊎_elim (λ back. absurd (guarded i (turn ∷ turns) (subst (λ m. walk (graph_of table) i (turn ∷ turns) ≡ Some m) back longer))) (λ one. one)
      (others k (within (turn ∷ turns) k longer))

  -- an `if` goes on at a protocol of the table, from which the ways lead to places of a shorter list
  goes_on : (places : List ℕ) (x : Ident) (i : ℕ) (p : Proto) (l : operand.Letter) (dual : Bool) (left right : Term) (this other : resource.Ref) → IsPlaced table x i p
      → equation_of_end dual (proto_of p) ≡ resource.Branch left right this other → LeadsWithin places i
      → (rest : List ℕ) × (j : ℕ) × (q : Proto) × (length places ≡ suc (length rest)) × IsPlaced table (on_way l this other).name j q × LeadsWithin rest j
  goes_on places x i p l dual left right this other at is within =
      let named_on : name_on l (equation_of p.equation) ≡ Some (on_way l this other).name = sym (name_of_end l dual (proto_of p)) ∙ ap (name_on l) is in
      let (proto, there) = name_known (map proto_of table) l (equation_of p.equation) (on_way l this other).name named_on (known x (proto_of p) at.named) in
      let (j, q, found) = placed table (on_way l this other).name proto there in
      let goes = step_by table i j p (turn_of l) (on_way l this other).name at.has (name_of_branch l p.equation ∙ named_on) found.place in
      let (rest, long, others) = without i places (within [] i (walk-none (graph_of table) i)) in
      (rest, j, q, long, found, leads_on places rest i j (turn_of l) goes others within)

  headed : (count : ℕ) (places : List ℕ) (e : Concrete) (i : ℕ) (p : Proto) → length places ≡ count → IsPlaced table e.name i p → LeadsWithin places i
      → (ways : List operand.Letter) × (head : Head) × HasHead (map proto_of table) e ways head
  headed zero [] e i p long at within = absurd (within [] i (walk-none (graph_of table) i))
  headed zero (k ∷ places) e i p long at within = absurd (omega (arith, long))
  headed (suc count) places e i p long at within =
      elim (message_or_branch (equation_of_end e.dual (proto_of p))) [
        | inl sends ↦
            let (message, is) = sends in
            ([], record { message = message; params = p.params; args = e.args }, (proto_of p, equation_of_end e.dual (proto_of p), (at.named, refl), is, refl, refl))
        | inr branches ↦
            let (left, right, this, other, is) = branches in
            let values = argument p.params e.args in
            let l = way values left right in
            let (rest, j, q, longer, found, shorter) = goes_on places e.name i p l e.dual left right this other at is within in
            let (ways, head, has) = headed count rest (concrete values (on_way l this other)) j q (omega (arith, long, longer)) found shorter in
            (l ∷ ways, head, (proto_of p, left, right, this, other, (at.named, is), refl, has))
      ]

pub ends_headed : (parts : Parts) (e : Concrete) (proto : resource.Proto) → HasForm parts → proto_named e.name (map proto_of parts.protos) ≡ Some proto
    → (ways : List operand.Letter) × (head : Head) × HasHead (map proto_of parts.protos) e ways head
ends_headed parts e proto form named =
    let table = parts.protos in
    let (i, p, at) = placed table e.name proto named in
    let lt = subst (λ n. i < n) (sym (graph-long table)) (slice_get_within table i p at.has) in
    let all = below (length (graph_of table)) in
    headed table form.1.1.1.0 (theirs_known parts form) (length all) all e i p refl at (λ turns k leads. below_all (length (graph_of table)) k (walk_within table turns i k lt leads))
