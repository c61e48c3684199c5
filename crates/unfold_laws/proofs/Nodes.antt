-- Where no pass finds a fault, the operands of each node have none; so its reference is known.
use Rattle.std.proofs.Common.{◌≡◌, ℕ, zero, suc, List, [], ◌∷◌, map, Some, slice_get, sym, ap, ◌∙◌, subst}
use Rattle.std.proofs.lemmas.Option.{slice_get_within}
use Rattle.chan_syntax.specs.declared.resources.Proto.{Proto}
use Rattle.chan_syntax.specs.Reading.{proto_of}
use Rattle.form_faults.specs.declared.sorts.Known.{Known}
use Rattle.form_faults.specs.declared.signatures.Signature.{Signature}
use Rattle.form_faults.specs.Resources.{header_scope, header_faults}
use Rattle.form_faults.specs.Scopes.{bind_all}
use Rattle.core_programs.specs.declared.nodes.Node.{Node}
use Rattle.core_programs.specs.declared.nodes.Func.{Func}
use Rattle.core_programs.specs.declared.nodes.Parts.{Parts}
use Rattle.core_programs.specs.Formed.{nexts, Leads, IsNumbered}
use Rattle.core_programs.specs.Trees.{tree, grown}
use Rattle.core_programs.specs.Passes.{binders_at, operand_faults, body_faults, func_faults, funcs_faults, proto_signatures, func_signatures}
use Rattle.core_programs.specs.Form.{IsFormed}
use Rattle.core_programs.proofs.Growing.{tree_grown}
use Rattle.core_programs.proofs.Clean.{operands_clean, body_clean}
use Rattle.unfold_laws.specs.References.{AreKnown}
use Rattle.unfold_laws.specs.Forks.{refs_of_node}
use Rattle.unfold_laws.proofs.Clean.{none_left, none_right}
use Rattle.unfold_laws.proofs.Known.{node_known, funcs_clean}

module _ (table : List Proto) (funcs : List Signature) (parts : Parts) (numbered : IsNumbered parts) where
  -- no fault in the body at a number, in some scope
  abbrev IsClean : ℕ → Type 0
  IsClean n = (scope : List Known) × (body_faults (proto_signatures table) funcs scope (tree parts.nodes n) ≡ [])

  opened : (n : ℕ) (x : Node) (scope : List Known) → slice_get parts.nodes n ≡ Some x → body_faults (proto_signatures table) funcs scope (tree parts.nodes n) ≡ []
      → body_faults (proto_signatures table) funcs scope (grown x (tree parts.nodes)) ≡ []
  opened n x scope is none = ap (body_faults (proto_signatures table) funcs scope) (sym (tree_grown parts n x numbered (slice_get_within parts.nodes n x is) is)) ∙ none

  -- nor in the bodies that its node names
  turned : (n : ℕ) (x : Node) (turn next : ℕ) → slice_get parts.nodes n ≡ Some x → slice_get (nexts x) turn ≡ Some next → IsClean n → IsClean next
  turned n x turn next is picked (scope, none) =
      (bind_all scope (binders_at x turn), body_clean (proto_signatures table) funcs (tree parts.nodes) x scope turn next (opened n x scope is none) picked)

  led : (turns : List ℕ) (n m : ℕ) → Leads parts.nodes n turns m → IsClean n → IsClean m
  led [] n m leads clean = subst IsClean leads clean
  led (turn ∷ turns) n m (x, next, is, picked, leads) clean = led turns next m leads (turned n x turn next is picked clean)

  clean_func : (fs : List Func) (f : ℕ) (func : Func) → slice_get fs f ≡ Some func → funcs_faults (proto_signatures table) funcs parts.nodes fs ≡ [] → IsClean func.first
  unfolding funcs_faults func_faults
  clean_func [] f func is none = cc
  clean_func (g ∷ fs) zero func is none =
      let same : g ≡ func = cc in
      subst (λ (h : Func). IsClean h.first) same (
        header_scope g.bound g.params,
        none_right (header_faults (proto_signatures table) g.name_span g.bound g.params g.result) _ (none_left (func_faults (proto_signatures table) funcs parts.nodes g) _ none),
      )
  clean_func (g ∷ fs) (suc f) func is none = clean_func fs f func is (none_right (func_faults (proto_signatures table) funcs parts.nodes g) _ none)

  -- nor in the operands of its node
  pub clean_at : (n : ℕ) (x : Node) → slice_get parts.nodes n ≡ Some x → IsClean n → (scope : List Known) × (operand_faults (proto_signatures table) funcs scope x ≡ [])
  clean_at n x is (scope, none) = (scope, operands_clean (proto_signatures table) funcs (tree parts.nodes) x scope (opened n x scope is none))

pub nodes_clean : (parts : Parts) (n : ℕ) (x : Node) → IsFormed parts → slice_get parts.nodes n ≡ Some x
    → (scope : List Known) × (operand_faults (proto_signatures parts.protos) (func_signatures parts.funcs) scope x ≡ [])
nodes_clean parts n x formed is =
    let funcs = func_signatures parts.funcs in
    let (f, turns, (func, has, leads), unique) = formed.numbered.once n (slice_get_within parts.nodes n x is) in
    let first = clean_func parts.protos funcs parts formed.numbered parts.funcs f func has (funcs_clean parts formed.form) in
    clean_at parts.protos funcs parts formed.numbered n x is (led parts.protos funcs parts formed.numbered turns func.first n leads first)

pub nodes_known : (parts : Parts) (n : ℕ) (x : Node) → IsFormed parts → slice_get parts.nodes n ≡ Some x → AreKnown (map proto_of parts.protos) (refs_of_node x)
nodes_known parts n x formed is =
    let (scope, none) = nodes_clean parts n x formed is in
    node_known parts.protos (func_signatures parts.funcs) scope x none
