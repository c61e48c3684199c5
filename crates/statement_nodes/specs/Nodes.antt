-- The node that a statement is.
use Rattle.std.specs.Prelude.{◌≡◌, ℕ}
use Rattle.chan_syntax.specs.declared.surface_tree.Stmt.{Stmt, Let, Mul, Div, Rem, Call, Fork, Send1, Recv1, Split, Print}
use Rattle.core_programs.specs.declared.nodes.Node.{Node}
use Rattle.core_programs.specs.declared.nodes.Node.TheVariants as node

-- the node of a statement, where the node of this number follows
abbrev pub IsNodeOf : Stmt → ℕ → Node → Type 0
IsNodeOf (Let n at t span) next x = x ≡ node.Let n at t next span
IsNodeOf (Mul n at a b span) next x = x ≡ node.Mul n at a b next span
IsNodeOf (Div n at t k kt span) next x = x ≡ node.Div n at t k kt next span
IsNodeOf (Rem n at t k kt span) next x = x ≡ node.Rem n at t k kt next span
IsNodeOf (Call p f at vs q span) next x = x ≡ node.Call p f at vs q next span
IsNodeOf (Fork n at r f ft vs q span) next x = x ≡ node.Fork n at r f ft vs q next span
IsNodeOf (Send1 c at p pt v q span) next x = x ≡ node.Send1 c at p pt v q next span
IsNodeOf (Recv1 y c at p pt q span) next x = x ≡ node.Recv1 y c at p pt q next span
IsNodeOf (Split a b n at span) next x = x ≡ node.Split a b n at next span
IsNodeOf (Print t span) next x = x ≡ node.Print t next span
IsNodeOf session next x = ⊥
