-- The spans in the parts of a tree are those of the tree.
use Rattle.std.proofs.Common.{ℕ, zero, suc, List, [], ◌∷◌, length, map, sym, subst}
use Rattle.chan_base.specs.declared.spans.Span.{Span}
use Rattle.chan_syntax.specs.declared.resources.Proto.{Proto}
use Rattle.chan_syntax.specs.declared.surface_tree.Stmt.{Stmt, Let, Mul, Div, Rem, Call, Fork, ForkDo', Send1, Recv1, Send, Recv, Close, Wait, Choose, Split, Print, Row_of-Stmt, end_of-Stmt, more_of-Stmt}
use Rattle.chan_syntax.specs.declared.surface_tree.Last.{Last, Ret, Tail, If', Match', Branch', Absurd, Loop', Again, Row_of-Last, end_of-Last, more_of-Last, Row_of-SurfaceArm, end_of-SurfaceArm, more_of-SurfaceArm}
use Rattle.chan_syntax.specs.declared.surface_tree.Block.{Block}
use Rattle.chan_syntax.specs.declared.surface_tree.Decl.{Decl}
use Rattle.chan_syntax.specs.declared.surface_tree.Decl.TheVariants as decl
use Rattle.core_programs.specs.declared.nodes.Node.{Node}
use Rattle.core_programs.specs.declared.nodes.Node.TheVariants as node
use Rattle.core_programs.specs.declared.nodes.Arm.{Arm}
use Rattle.core_programs.specs.declared.nodes.Func.{Func}
use Rattle.core_programs.specs.Trees.{Grown, all_grown, grown, grown_at, tree_within}
use Rattle.statement_nodes.specs.Nodes.{IsNodeOf}
use Rattle.core_numbering.specs.Numbering.{At, StmtsAt, RowAt, EndsAt, ArmsAt, BoxedAt, IsBodyAt, AreOf}
use Rattle.core_numbering.proofs.Grown.{names_next}
use Rattle.fault_places.specs.Spans.{Every, InPat}
use Rattle.fault_places.specs.Programs.{InProto, InArmOf, InNode, InTree, InTrees, InFunc}
use Rattle.fault_places.specs.SurfaceTrees.{InStmt, InLast, InRow, InArms, InBoxed, InBlock, InBody, InDecl}
use Rattle.fault_places.specs.Laws.{IsAt, StandsInText}
use Rattle.fault_places.proofs.FaultSpans.{stands_in_parts}
use Rattle.fault_places.proofs.ReadPlaces.{spans_stand_in_text}

module _ (P : Span → Type 0) where
  -- the node of a statement
  in_node : (s : Stmt) (next : ℕ) (x : Node) → InStmt P s → IsNodeOf s next x → InNode P x
  in_node (Let _ _ _ _) next x p is = subst (InNode P) (sym is) p
  in_node (Mul _ _ _ _ _) next x p is = subst (InNode P) (sym is) p
  in_node (Div _ _ _ _ _ _) next x p is = subst (InNode P) (sym is) p
  in_node (Rem _ _ _ _ _ _) next x p is = subst (InNode P) (sym is) p
  in_node (Call _ _ _ _ _ _) next x p is = subst (InNode P) (sym is) p
  in_node (Fork _ _ _ _ _ _ _ _) next x p is = subst (InNode P) (sym is) p
  in_node (ForkDo' _ _ _ _ _ _ _ _ _ _ _ _ _ _) next x p is = absurd is
  in_node (Send1 _ _ _ _ _ _ _) next x p is = subst (InNode P) (sym is) p
  in_node (Recv1 _ _ _ _ _ _ _) next x p is = subst (InNode P) (sym is) p
  in_node (Send _ _ _ _ _ _ _ _ _ _) next x p is = absurd is
  in_node (Recv _ _ _ _ _ _ _ _ _ _) next x p is = absurd is
  in_node (Close _ _ _ _ _ _) next x p is = absurd is
  in_node (Wait _ _ _ _ _ _) next x p is = absurd is
  in_node (Choose _ _ _ _ _ _ _ _ _ _) next x p is = absurd is
  in_node (Split _ _ _ _ _) next x p is = subst (InNode P) (sym is) p
  in_node (Print _ _) next x p is = subst (InNode P) (sym is) p

  module _ (nodes : List Node) where
    -- it holds in the body at the number, to each depth
    abbrev InBodyAt : ℕ → Type 0
    InBodyAt n = (depth : ℕ) → InTree P (tree_within depth nodes n)

    -- a node, and what follows it
    at_node : (n : ℕ) (x : Node) → At nodes n x → ((depth : ℕ) → InTree P (grown x (tree_within depth nodes))) → (depth : ℕ) → InTree P (tree_within depth nodes n)
    unfolding tree_within
    at_node n x here each zero = tt
    at_node n x here each (suc depth) = subst (λ o. InTree P (grown_at o (tree_within depth nodes))) (sym here) (each depth)

    at_stmt : (s : Stmt) (n next : ℕ) (x : Node) → InStmt P s → At nodes n x → IsNodeOf s next x → InBodyAt next → InBodyAt n
    at_stmt s n next x p here of rest = at_node n x here (λ depth.
        subst (λ ns. InTree P (Grown x (all_grown ns (tree_within depth nodes)))) (sym (names_next s next x of))
        (in_node s next x p of, (rest depth, tt)))

    in_stmts : (ss : List Stmt) (n m : ℕ) → Every (InStmt P) ss → StmtsAt nodes ss n m → InBodyAt m → InBodyAt n
    in_stmts [] n m p at rest = subst InBodyAt (sym at) rest
    in_stmts (s ∷ ss) n m p (x, next, here, of, more) rest = at_stmt s n next x p.0 here of (in_stmts ss next m p.1 more rest)

    in_row : {k : _} (ss : Row_of-Stmt k) (n m : ℕ) → InRow P ss → RowAt nodes ss n m → InBodyAt m → InBodyAt n
    in_row end_of-Stmt n m p at rest = subst InBodyAt (sym at) rest
    in_row (more_of-Stmt s ss) n m p (x, next, here, of, more) rest = at_stmt s n next x p.0 here of (in_row ss next m p.1 more rest)

    in_pats : {k : _} (r : Row_of-SurfaceArm k) (arms : List Arm) → InArms P r → ArmsAt nodes r arms → Every (InArmOf P) arms
    unfolding ArmsAt
    in_pats end_of-SurfaceArm [] p at = tt
    in_pats end_of-SurfaceArm (a ∷ arms) p at = absurd at
    in_pats (more_of-SurfaceArm _ _ ss _ l rest) [] p at = absurd at
    in_pats (more_of-SurfaceArm _ _ ss _ l rest) (a ∷ arms) p (m, same, row, ends, at) = (subst (InPat P) (sym same) p.0.0, in_pats rest arms p.1 at)

    mutual
      unfolding EndsAt ArmsAt BoxedAt

      in_last : (x : Last) (n : ℕ) → InLast P x → EndsAt nodes x n → InBodyAt n
      in_last (Ret v q span) n p at = at_node n (node.Ret v q span) at (λ depth. (p, tt))
      in_last (Tail f ft vs q span) n p at = at_node n (node.Tail f ft vs q span) at (λ depth. (p, tt))
      in_last (If' a b _ ss _ l _ ss' _ l' span) n p (i, j, k, h, at, row, ends, row', ends') =
          at_node n (node.If a b i j span) at (λ depth.
          ((p.0, p.1, p.4), (in_row ss i k p.2.0 row (in_boxed l k p.2.1 ends) depth, (in_row ss' j h p.3.0 row' (in_boxed l' h p.3.1 ends') depth, tt))))
      in_last (Match' x xt _ r span) n p (arms, at, all) =
          at_node n (node.Match x xt arms span) at (λ depth. ((p.0, in_pats r arms p.1 all, p.2), in_arms r arms p.1 all depth))
      in_last (Branch' _ _ _ _ _ _ _ _ _ _ _ _) n p at = absurd at
      in_last (Absurd q span) n p at = at_node n (node.Absurd q span) at (λ depth. (p, tt))
      in_last (Loop' _ _ _ _ _ _ _ _ _ _ _) n p at = absurd at
      in_last (Again _ _ _) n p at = absurd at

      in_arms : {k : _} (r : Row_of-SurfaceArm k) (arms : List Arm) → InArms P r → ArmsAt nodes r arms → (depth : ℕ) → InTrees P (all_grown (map (λ a. a.next) arms) (tree_within depth nodes))
      in_arms end_of-SurfaceArm [] p at depth = tt
      in_arms end_of-SurfaceArm (a ∷ arms) p at depth = absurd at
      in_arms (more_of-SurfaceArm _ _ ss _ l rest) [] p at depth = absurd at
      in_arms (more_of-SurfaceArm _ _ ss _ l rest) (a ∷ arms) p (m, same, row, ends, at) depth =
          (in_row ss a.next m p.0.1.0 row (in_boxed l m p.0.1.1 ends) depth, in_arms rest arms p.1 at depth)

      in_boxed : {k : _} (x : Row_of-Last k) (n : ℕ) → InBoxed P x → BoxedAt nodes x n → InBodyAt n
      in_boxed end_of-Last n p at = absurd at
      in_boxed (more_of-Last x rest) n p at = in_last x n p at

    in_block : (b : Block) (n : ℕ) → InBlock P b → IsBodyAt nodes b n → InBodyAt n
    in_block b n p (m, stmts, ends) = in_stmts b.stmts n m p.0 stmts (in_last b.last m p.1 ends)

    in_decls : (ds : List Decl) (protos : List Proto) (funcs : List Func) → Every (InDecl P) ds → AreOf nodes ds protos funcs → Every (InProto P) protos × Every (InFunc P nodes) funcs
    unfolding AreOf
    in_decls [] protos funcs p are = (subst (Every (InProto P)) (sym are.0) tt, subst (Every (InFunc P nodes)) (sym are.1) tt)
    in_decls (decl.Proto x ∷ ds) protos funcs p (e, more, plain, is, are) =
        let rest = in_decls ds more funcs p.1 are in
        (subst (Every (InProto P)) (sym is) ((p.0.0, p.0.1, subst (InBody P) plain p.0.2, p.0.3), rest.0), rest.1)
    in_decls (decl.Func f ∷ ds) protos funcs p (n, more, is, at, are) =
        let rest = in_decls ds protos more p.1 are in
        (rest.0, subst (Every (InFunc P nodes)) (sym is) ((p.0.0, p.0.1, p.0.2, p.0.3, in_block f.block n p.0.4 at (length nodes), p.0.5), rest.1))

pub stands_in_text : StandsInText
stands_in_text text tokens surface ill has derives (parts, lowered, fault) =
    let spans = spans_stand_in_text text tokens surface has derives in
    stands_in_parts (IsAt text) parts ill (in_decls (IsAt text) parts.nodes surface.decls parts.protos parts.funcs spans lowered.declared) fault
