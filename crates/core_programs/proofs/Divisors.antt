-- Where no pass finds a fault, divisors are positive.
use Rattle.std.proofs.Common.{◌≡◌, ℕ, zero, suc, ◌<◌, not, nat_eq, List, [], ◌∷◌, length, Some, slice_get, sym, ap, ◌∙◌, subst, arith}
use Rattle.chan_base.specs.declared.spans.Span.{Span}
use Rattle.form_faults.specs.declared.faults.Ill.{Ill}
use Rattle.form_faults.specs.declared.sorts.Known.{Known}
use Rattle.form_faults.specs.declared.sorts.Naming.TheVariants as naming
use Rattle.form_faults.specs.declared.signatures.Signature.{Signature}
use Rattle.form_faults.specs.Faults.{unless}
use Rattle.form_faults.specs.Resources.{header_scope, header_faults}
use Rattle.form_faults.specs.Scopes.{bind_all}
use Rattle.form_faults.specs.Terms.{term_faults}
use Rattle.core_programs.specs.declared.nodes.Node.{Node}
use Rattle.core_programs.specs.declared.nodes.Node.TheVariants as node
use Rattle.core_programs.specs.declared.nodes.Func.{Func}
use Rattle.core_programs.specs.declared.nodes.Parts.{Parts}
use Rattle.core_programs.specs.Formed.{nexts, Leads, HasDivisor, IsNumbered}
use Rattle.core_programs.specs.Trees.{tree, grown}
use Rattle.core_programs.specs.Passes.{operand_faults, binders_at, body_faults, func_faults, funcs_faults, protos_faults, proto_signatures, func_signatures}
use Rattle.core_programs.specs.Form.{IsFormed}
use Rattle.core_programs.proofs.Growing.{tree_grown}
use Rattle.core_programs.proofs.Clean.{none_left, none_right, operands_clean, body_clean}

none_of_one : (ill : Ill) → ill ∷ [] ≡ [] → ⊥
none_of_one ill is = cc

positive : (n : ℕ) (span : Span) → unless (not (nat_eq n 0)) span ≡ [] → 0 < n
unfolding unless
positive zero span is = absurd (none_of_one _ is)
positive (suc n) span is = omega arith

-- a node without faults has a positive divisor, where it has one
divides : (protos funcs : List Signature) (scope : List Known) (x : Node) → operand_faults protos funcs scope x ≡ [] → HasDivisor x
unfolding operand_faults
divides protos funcs scope (node.Let name name_at term next span) none = tt
divides protos funcs scope (node.Mul name name_at left right next span) none = tt
divides protos funcs scope (node.Div name name_at term divisor divisor_at next span) none =
    positive divisor divisor_at (none_right (term_faults naming.Variables scope term) (unless (not (nat_eq divisor 0)) divisor_at) none)
divides protos funcs scope (node.Rem name name_at term divisor divisor_at next span) none =
    positive divisor divisor_at (none_right (term_faults naming.Variables scope term) (unless (not (nat_eq divisor 0)) divisor_at) none)
divides protos funcs scope (node.Call pat func func_at values proof next span) none = tt
divides protos funcs scope (node.Tail func func_at values proof span) none = tt
divides protos funcs scope (node.Fork name name_at proto func func_at values proof next span) none = tt
divides protos funcs scope (node.Send1 channel channel_at path path_at value proof next span) none = tt
divides protos funcs scope (node.Recv1 pat channel channel_at path path_at proof next span) none = tt
divides protos funcs scope (node.Print term next span) none = tt
divides protos funcs scope (node.If left right this other span) none = tt
divides protos funcs scope (node.Split first second name name_at next span) none = tt
divides protos funcs scope (node.Match name name_at arms span) none = tt
divides protos funcs scope (node.Absurd proof span) none = tt
divides protos funcs scope (node.Ret value proof span) none = tt

module _ (protos funcs : List Signature) (parts : Parts) (numbered : IsNumbered parts) where
  -- no fault in the body at a number, in some scope
  abbrev IsClean : ℕ → Type 0
  IsClean n = (scope : List Known) × (body_faults protos funcs scope (tree parts.nodes n) ≡ [])

  opened : (n : ℕ) (x : Node) (scope : List Known) → n < length parts.nodes → slice_get parts.nodes n ≡ Some x
      → body_faults protos funcs scope (tree parts.nodes n) ≡ [] → body_faults protos funcs scope (grown x (tree parts.nodes)) ≡ []
  opened n x scope lt is none = ap (body_faults protos funcs scope) (sym (tree_grown parts n x numbered lt is)) ∙ none

  -- nor in the bodies that its node names
  turned : (n : ℕ) (x : Node) (turn next : ℕ) → n < length parts.nodes → slice_get parts.nodes n ≡ Some x → slice_get (nexts x) turn ≡ Some next → IsClean n → IsClean next
  turned n x turn next lt is picked (scope, none) = (bind_all scope (binders_at x turn), body_clean protos funcs (tree parts.nodes) x scope turn next (opened n x scope lt is none) picked)

  led : (turns : List ℕ) (n m : ℕ) → n < length parts.nodes → Leads parts.nodes n turns m → IsClean n → IsClean m
  led [] n m lt leads clean = subst IsClean leads clean
  led (turn ∷ turns) n m lt (x, next, is, picked, leads) clean =
      led turns next m (numbered.follow n x is turn next picked) leads (turned n x turn next lt is picked clean)

  clean_func : (fs : List Func) (f : ℕ) (func : Func) → slice_get fs f ≡ Some func → funcs_faults protos funcs parts.nodes fs ≡ [] → IsClean func.first
  unfolding funcs_faults func_faults
  clean_func [] f func is none = cc
  clean_func (g ∷ fs) zero func is none =
      let same : g ≡ func = cc in
      subst (λ (h : Func). IsClean h.first) same (
        header_scope g.bound g.params,
        none_right (header_faults protos g.name_span g.bound g.params g.result) _ (none_left (func_faults protos funcs parts.nodes g) _ none),
      )
  clean_func (g ∷ fs) (suc f) func is none = clean_func fs f func is (none_right (func_faults protos funcs parts.nodes g) _ none)

-- each divisor of a program is positive
pub divisor_at : (parts : Parts) (n : ℕ) (x : Node) → IsFormed parts → n < length parts.nodes → slice_get parts.nodes n ≡ Some x → HasDivisor x
divisor_at parts n x formed lt is =
    let protos = proto_signatures parts.protos in
    let funcs = func_signatures parts.funcs in
    let (f, turns, (func, has, leads), unique) = formed.numbered.once n lt in
    let none = none_right (protos_faults protos parts.protos) _ formed.form.1.0 in
    let (scope, clean) = led protos funcs parts formed.numbered turns func.first n (formed.numbered.firsts f func has) leads (clean_func protos funcs parts formed.numbered parts.funcs f func has none) in
    divides protos funcs scope x (operands_clean protos funcs (tree parts.nodes) x scope (opened protos funcs parts formed.numbered n x scope lt is clean))
