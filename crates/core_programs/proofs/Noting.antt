-- The uses of one more node.
use Rattle.std.proofs.Common.{◌≡◌, ℕ, ◌+◌, ◌<◌, ◌≤◌, List, ◌∷◌, ◌++◌, length, drop, get_or, sym, ap, ◌∙◌, append-nil, append_assoc}
use Rattle.std.proofs.lemmas.List.{drop_all, drop_more}
use Rattle.core_language.specs.Names.{Ident}
use Rattle.core_programs.specs.declared.nodes.Node.{Node}
use Rattle.name_uses.specs.Uses.{times}
use Rattle.core_programs.specs.Uses.{mentions, uses_from}

pub node_noted : (nodes : List Node) (i n : ℕ) (y : Node) (names : List Ident) (before after : List ℕ) (x : Ident) → i < length nodes → y ≡ get_or nodes i y → names ≡ mentions y
    → after ≡ before ++ times x n names → after ++ uses_from (n + 1) (drop (i + 1) nodes) x ≡ before ++ uses_from n (drop i nodes) x
node_noted nodes i n y names before after x lt is named more =
    let front : drop i nodes ≡ y ∷ drop (i + 1) nodes = drop_more nodes i y lt ∙ ap (λ z. z ∷ drop (i + 1) nodes) (sym is) in
    ap (λ a. a ++ uses_from (n + 1) (drop (i + 1) nodes) x) (more ∙ ap (λ ms. before ++ times x n ms) named)
    ∙ append_assoc before (times x n (mentions y)) (uses_from (n + 1) (drop (i + 1) nodes) x)
    ∙ ap (λ ns. before ++ uses_from n ns x) (sym front)

pub all_noted : (nodes : List Node) (i n : ℕ) (before : List ℕ) (x : Ident) → length nodes ≤ i → before ++ uses_from n (drop i nodes) x ≡ uses_from 0 nodes x → before ≡ uses_from 0 nodes x
all_noted nodes i n before x past is = sym (append-nil before) ∙ ap (λ ns. before ++ uses_from n ns x) (sym (drop_all i nodes past)) ∙ is
