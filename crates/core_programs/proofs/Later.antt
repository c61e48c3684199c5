-- What a body names, by the first body that follows its node and by the later ones.
use Rattle.std.proofs.Common.{◌≡◌, ℕ, ◌<◌, true, false, List, drop, length, Some, None, slice_get, refl, sym, ap, ◌∙◌, arith}
use Rattle.std.specs.List.{list_any}
use Rattle.core_language.specs.Names.{Ident}
use Rattle.core_programs.specs.declared.nodes.Node.{Node}
use Rattle.core_programs.specs.declared.nodes.Parts.{Parts}
use Rattle.core_programs.specs.Bodies.{rest}
use Rattle.core_programs.specs.Following.{size}
use Rattle.core_programs.specs.Formed.{nexts, IsNumbered}
use Rattle.name_uses.specs.Uses.{is_between}
use Rattle.core_programs.specs.Uses.{uses_from, nexts_at, later_nexts}
use Rattle.core_programs.proofs.Forests.{rest_opened}
use Rattle.core_programs.proofs.Sizes.{smaller}
use Rattle.core_programs.proofs.Spans.{named, unread}
use Rattle.core_programs.proofs.Turns.{any_none, any_first, any_later}

module _ (parts : Parts) (numbered : IsNumbered parts) where
  pub falls : (n : ℕ) (y : Node) (k next : ℕ) → n < length parts.nodes → slice_get parts.nodes n ≡ Some y → slice_get (nexts y) k ≡ Some next → size (rest parts.nodes next) < size (rest parts.nodes n)
  falls n y k next lt is picked =
      let opens = ap size (rest_opened parts n y numbered lt is) in
      omega (arith, opens, smaller y (rest parts.nodes) k next picked)

  module _ (x : Ident) (numbers : List ℕ) (n : ℕ) (y : Node) (are : numbers ≡ uses_from 0 parts.nodes x) (lt : n < length parts.nodes) (is : slice_get parts.nodes n ≡ Some y) where
    others : later_nexts parts.nodes n ≡ drop 1 (nexts y)
    others = ap (λ o. drop 1 (nexts_at o)) is

    here : list_any (is_between n n) numbers ≡ false → named parts numbered x n ≡ list_any (named parts numbered x) (nexts y)
    here out = unread parts numbered x numbers (nexts y) n y are lt is out refl

    pub names_later : list_any (is_between n n) numbers ≡ false → list_any (named parts numbered x) (later_nexts parts.nodes n) ≡ true → named parts numbered x n ≡ true
    names_later out later = here out ∙ any_later (named parts numbered x) (nexts y) (ap (list_any (named parts numbered x)) (sym others) ∙ later)

    pub names_first : (next : ℕ) → list_any (is_between n n) numbers ≡ false → list_any (named parts numbered x) (later_nexts parts.nodes n) ≡ false → slice_get (nexts y) 0 ≡ Some next
        → named parts numbered x n ≡ named parts numbered x next
    names_first next out later picked =
        here out ∙ any_first (named parts numbered x) (nexts y) next picked (ap (list_any (named parts numbered x)) (sym others) ∙ later)

    pub names_none : list_any (is_between n n) numbers ≡ false → slice_get (nexts y) 0 ≡ None → named parts numbered x n ≡ false
    names_none out none = here out ∙ any_none (named parts numbered x) (nexts y) none
