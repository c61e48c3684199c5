-- Where no protocol reaches itself through `if` equations alone, each end of a protocol that is there does something next.
use Rattle.std.proofs.Common.{◌≡◌, ◌⊎◌, inl, inr, ℕ, zero, suc, ◌<◌, Bool, true, false, List, [], ◌∷◌, map, length, Some, None, ⊎_elim, refl, sym, ap, ◌∙◌, subst, arith}
use Rattle.std.proofs.lemmas.Option.{none-some, same_Some, slice_get_within}
use Rattle.core_language.specs.Names.{Ident}
use Rattle.core_language.specs.Resources as written
use Rattle.core_language.specs.Operands as operand
use Rattle.chan_syntax.specs.declared.resources.Equation.{Equation}
use Rattle.chan_syntax.specs.declared.resources.Equation.TheVariants as equation
use Rattle.chan_syntax.specs.declared.resources.Proto.{Proto}
use Rattle.chan_syntax.specs.declared.operands.Letter.{Letter}
use Rattle.chan_syntax.specs.declared.operands.Letter.TheVariants as letter
use Rattle.chan_syntax.specs.Reading.{equation_of, proto_of}
use Rattle.protocol_guard.specs.Guards.{branch_of, graph_of, step, walk, IsGuarded}
use Rattle.outline_language.specs.Equations.{Direction, Sends, Receives, Fork, fork_of, on_way, proto_named, written_message, Concrete}
use Rattle.good_configurations.specs.Ends.{opposite_if, Head, Goes, letter_of, picked, next_at, next_in, next_of, HasHead}
use Rattle.good_configurations.specs.Messages.{Does}
use Rattle.outline_values.specs.Formed.{Knows}
use Rattle.form_soundness.proofs.Places.{IsOneOf, below, below_all, without, walk-none, walk_more, walk_within, graph-long, step_by, IsPlaced, placed}

-- ---- equations

message_or_fork : (e : written.Equation)
    → ((m : Direction × written.Res) × (written_message e ≡ Some m)) ⊎ ((fork : Fork) × (written_message e ≡ None) × (fork_of e ≡ Some fork))
message_or_fork (written.Send res next) = inl (_, refl)
message_or_fork (written.Recv res next) = inl (_, refl)
message_or_fork written.Close = inl (_, refl)
message_or_fork written.Wait = inl (_, refl)
message_or_fork (written.Branch left right this other) = inr (_, refl, refl)

abbrev turn_of : operand.Letter → Letter
turn_of operand.First = letter.Left
turn_of operand.Second = letter.Right

-- the graph has the reference of an `if` on each way
name_of_branch : (l : operand.Letter) (e : Equation) (fork : Fork) → fork_of (equation_of e) ≡ Some fork → branch_of e (turn_of l) ≡ Some (on_way l fork).name
name_of_branch l (equation.Send res next) fork is = absurd (none-some fork is)
name_of_branch l (equation.Recv res next) fork is = absurd (none-some fork is)
name_of_branch l equation.Close fork is = absurd (none-some fork is)
name_of_branch l equation.Wait fork is = absurd (none-some fork is)
name_of_branch operand.First (equation.Branch left right this other) fork is = ap (λ (f : Fork). Some f.this.name) (same_Some _ fork is)
name_of_branch operand.Second (equation.Branch left right this other) fork is = ap (λ (f : Fork). Some f.other.name) (same_Some _ fork is)

named_if : (mark : Bool) (e : Concrete) → (opposite_if mark e).name ≡ e.name
named_if true e = refl
named_if false e = refl

-- ---- heads

-- the protocols that `if` equations name are there
abbrev pub KnowForks : List written.Proto → Type 0
KnowForks protos =
    (x : Ident) (proto : written.Proto) (fork : Fork) → proto_named x protos ≡ Some proto → fork_of proto.equation ≡ Some fork
    → Knows protos fork.this.name (length fork.this.args) × Knows protos fork.other.name (length fork.other.args)

way_known : (protos : List written.Proto) (l : operand.Letter) (fork : Fork) → Knows protos fork.this.name (length fork.this.args) × Knows protos fork.other.name (length fork.other.args)
    → (proto : written.Proto) × (proto_named (on_way l fork).name protos ≡ Some proto)
way_known protos operand.First fork ((proto, named, many), other) = (proto, named)
way_known protos operand.Second fork (this, (proto, named, many)) = (proto, named)

module _ (table : List Proto) (guarded : IsGuarded table) (forks : KnowForks (map proto_of table)) where
  -- the ways from a place lead to places of the list alone
  abbrev LeadsWithin : List ℕ → ℕ → Type 0
  LeadsWithin places i = (turns : List Letter) (k : ℕ) → walk (graph_of table) i turns ≡ Some k → IsOneOf k places

  -- after a turn they don't lead back to the place
  leads_on : (places rest : List ℕ) (i j : ℕ) (turn : Letter) → step (graph_of table) i turn ≡ Some j → ((k : ℕ) → IsOneOf k places → (k ≡ i) ⊎ IsOneOf k rest)
      → LeadsWithin places i → LeadsWithin rest j
  leads_on places rest i j turn goes others within turns k leads =
      let longer = walk_more (graph_of table) i j k turn turns goes leads in
      ⊎_elim (λ back. absurd (guarded i (turn ∷ turns) (subst (λ m. walk (graph_of table) i (turn ∷ turns) ≡ Some m) back longer))) (λ one. one)
      (others k (within (turn ∷ turns) k longer))

  -- an `if` goes on at a protocol of the table, from which the ways lead to places of a shorter list
  goes_on : (places : List ℕ) (x : Ident) (i : ℕ) (p : Proto) (l : operand.Letter) (fork : Fork) → IsPlaced table x i p → fork_of (equation_of p.equation) ≡ Some fork → LeadsWithin places i
      → (rest : List ℕ) × (j : ℕ) × (q : Proto) × (length places ≡ suc (length rest)) × IsPlaced table (on_way l fork).name j q × LeadsWithin rest j
  goes_on places x i p l fork at is within =
      let (proto, there) = way_known (map proto_of table) l fork (forks x (proto_of p) fork at.named is) in
      let (j, q, found) = placed table (on_way l fork).name proto there in
      let goes = step_by table i j p (turn_of l) (on_way l fork).name at.has (name_of_branch l p.equation fork is) found.place in
      let (rest, long, others) = without i places (within [] i (walk-none (graph_of table) i)) in
      (rest, j, q, long, found, leads_on places rest i j (turn_of l) goes others within)

  abbrev HasSomeHead : Concrete → Type 0
  HasSomeHead e = (n : ℕ) × (head : Head) × HasHead (map proto_of table) n e head

  headed : (count : ℕ) (places : List ℕ) (e : Concrete) (i : ℕ) (p : Proto) → length places ≡ count → IsPlaced table e.name i p → LeadsWithin places i → HasSomeHead e
  headed zero [] e i p long at within = absurd (within [] i (walk-none (graph_of table) i))
  headed zero (k ∷ places) e i p long at within = absurd (omega (arith, long))
  headed (suc count) places e i p long at within =
      elim (message_or_fork (equation_of p.equation)) [
        | inl given ↦
            let (m, is) = given in
            (0, _, ap (next_in e) at.named ∙ ap (λ o. next_at e p.params o (fork_of (equation_of p.equation))) is)
        | inr branches ↦
            let (fork, none, is) = branches in
            let l = letter_of p.params e.args fork in
            let on = opposite_if e.dual (picked p.params e.args fork l) in
            let goes : next_of (map proto_of table) e ≡ Goes on =
            ap (next_in e) at.named ∙ ap (λ o. next_at e p.params o (fork_of (equation_of p.equation))) none ∙ ap (next_at e p.params None) is in
            let (rest, j, q, longer, found, shorter) = goes_on places e.name i p l fork at is within in
            let there = subst (λ x. IsPlaced table x j q) (sym (named_if e.dual (picked p.params e.args fork l))) found in
            let (n, head, has) = headed count rest on j q (omega (arith, long, longer)) there shorter in
            (suc n, head, (on, goes, has))
      ]

  some_head : (e : Concrete) (proto : written.Proto) → proto_named e.name (map proto_of table) ≡ Some proto → HasSomeHead e
  some_head e proto named =
      let (i, p, at) = placed table e.name proto named in
      let lt = subst (λ n. i < n) (sym (graph-long table)) (slice_get_within table i p at.has) in
      let all = below (length (graph_of table)) in
      headed (length all) all e i p refl at (λ turns k leads. below_all (length (graph_of table)) k (walk_within table turns i k lt leads))

  pub ends_do : (e : Concrete) (proto : written.Proto) → proto_named e.name (map proto_of table) ≡ Some proto → Does (map proto_of table) e Sends ⊎ Does (map proto_of table) e Receives
  ends_do e proto named = let (n, head, has) = some_head e proto named in by n head has (head.direction) refl
    where
      by : (n : ℕ) (head : Head) → HasHead (map proto_of table) n e head → (d : Direction) → head.direction ≡ d → Does (map proto_of table) e Sends ⊎ Does (map proto_of table) e Receives
      by n head has Sends is = inl (n, head, has, is)
      by n head has Receives is = inr (n, head, has, is)
