-- What a body without faults is made of has none.
use Rattle.std.proofs.Common.{◌≡◌, ℕ, zero, suc, ◌+◌, List, [], ◌∷◌, ◌++◌, Some, slice_get, refl, subst, arith}
use Rattle.form_faults.specs.declared.faults.Ill.{Ill}
use Rattle.form_faults.specs.declared.sorts.Known.{Known}
use Rattle.form_faults.specs.declared.signatures.Signature.{Signature}
use Rattle.form_faults.specs.Scopes.{bind_all, twice_all}
use Rattle.core_programs.specs.declared.nodes.Node.{Node}
use Rattle.core_programs.specs.Formed.{nexts}
use Rattle.core_programs.specs.Trees.{Tree, all_grown, grown}
use Rattle.core_programs.specs.Passes.{operand_faults, binders_at, body_faults, bodies_faults}

pub none_left : (a b : List Ill) → a ++ b ≡ [] → a ≡ []
none_left [] b is = refl
none_left (x ∷ a) b is = cc

pub none_right : (a b : List Ill) → a ++ b ≡ [] → b ≡ []
none_right [] b is = is
none_right (x ∷ a) b is = cc

module _ (protos funcs : List Signature) (trees : ℕ → Tree) where
  pub operands_clean : (x : Node) (scope : List Known) → body_faults protos funcs scope (grown x trees) ≡ [] → operand_faults protos funcs scope x ≡ []
  unfolding body_faults
  operands_clean x scope none = none_left (operand_faults protos funcs scope x) (bodies_faults protos funcs scope x 0 (all_grown (nexts x) trees)) none

  -- the bodies from a turn on
  from_clean : (x : Node) (scope : List Known) (first : ℕ) (ns : List ℕ) (k turn next : ℕ) → turn ≡ first + k → bodies_faults protos funcs scope x first (all_grown ns trees) ≡ [] → slice_get ns k ≡ Some next
      → body_faults protos funcs (bind_all scope (binders_at x turn)) (trees next) ≡ []
  unfolding body_faults
  from_clean x scope first [] k turn next at none picked = cc
  from_clean x scope first (n ∷ ns) zero turn next at none picked =
      let same : n ≡ next = cc in
      let here : first ≡ turn = omega (arith, at) in
      let bound = twice_all scope (binders_at x first) in
      let body = body_faults protos funcs (bind_all scope (binders_at x first)) (trees n) in
      let clean : body ≡ [] = none_right bound body (none_left (bound ++ body) (bodies_faults protos funcs scope x (suc first) (all_grown ns trees)) none) in
      subst (λ t. body_faults protos funcs (bind_all scope (binders_at x t)) (trees next) ≡ []) here
      (subst (λ m. body_faults protos funcs (bind_all scope (binders_at x first)) (trees m) ≡ []) same clean)
  from_clean x scope first (n ∷ ns) (suc k) turn next at none picked =
      from_clean x scope (suc first) ns k turn next (omega (arith, at))
      (none_right (twice_all scope (binders_at x first) ++ body_faults protos funcs (bind_all scope (binders_at x first)) (trees n)) (bodies_faults protos funcs scope x (suc first) (all_grown ns trees)) none) picked

  pub body_clean : (x : Node) (scope : List Known) (turn next : ℕ) → body_faults protos funcs scope (grown x trees) ≡ [] → slice_get (nexts x) turn ≡ Some next
      → body_faults protos funcs (bind_all scope (binders_at x turn)) (trees next) ≡ []
  unfolding body_faults
  body_clean x scope turn next none picked =
      from_clean x scope 0 (nexts x) turn turn next (omega arith) (none_right (operand_faults protos funcs scope x) (bodies_faults protos funcs scope x 0 (all_grown (nexts x) trees)) none) picked
