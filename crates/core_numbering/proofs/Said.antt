-- The parts of a tree make the program that it says.
use Rattle.std.proofs.Common.{◌≡◌, ℕ, List, [], ◌∷◌, ◌++◌, map, refl, sym, ap, ◌∙◌}
use Rattle.core_language.specs.Programs as core
use Rattle.chan_syntax.specs.Reading.{term_of, bound_of, res_of, equation_of, pat_of, proto_of}
use Rattle.chan_syntax.specs.declared.surface_tree.Stmt.{Stmt, Let, Mul, Div, Rem, Call, Fork, ForkDo', Send1, Recv1, Send, Recv, Close, Wait, Choose, Split, Print, Row_of-Stmt, end_of-Stmt, more_of-Stmt}
use Rattle.chan_syntax.specs.declared.surface_tree.Last.{Last, Ret, Tail, If', Match', Branch', Absurd, Loop', Again, Row_of-Last, end_of-Last, more_of-Last, Row_of-SurfaceArm, end_of-SurfaceArm, more_of-SurfaceArm}
use Rattle.chan_syntax.specs.declared.surface_tree.Block.{Block}
use Rattle.chan_syntax.specs.declared.surface_tree.Decl.{Decl}
use Rattle.chan_syntax.specs.declared.surface_tree.Decl.TheVariants as decl
use Rattle.chan_syntax.specs.declared.surface_tree.SurfaceFunc.{SurfaceFunc}
use Rattle.chan_syntax.specs.declared.resources.Proto.{Proto}
use Rattle.core_programs.specs.declared.nodes.Node.{Node}
use Rattle.core_programs.specs.declared.nodes.Node.TheVariants as node
use Rattle.core_programs.specs.declared.nodes.Func.{Func}
use Rattle.core_programs.specs.declared.nodes.Parts.{Parts}
use Rattle.core_programs.specs.declared.nodes.Arm.{Arm}
use Rattle.core_programs.specs.Bodies.{span_of, arms_opened, opened, rest, param_of, function_of}
use Rattle.core_programs.specs.Formed.{IsNumbered}
use Rattle.core_programs.proofs.Forests.{rest_opened}
use Rattle.statement_nodes.specs.Nodes.{IsNodeOf}
use Rattle.core_numbering.specs.Numbering.{At, StmtsAt, RowAt, EndsAt, ArmsAt, BoxedAt, IsBodyAt, AreOf}
use Rattle.core_numbering.specs.Pure.{stmt_in, stmts_in, last_in, row_in, arms_in, boxed_in, block_in, protos_in, funcs_in, proto_in, SaysTheTree, IsOneProgram}
use Rattle.core_numbering.proofs.Places.{place_below}

opened_stmt : (s : Stmt) (next : ℕ) (x : Node) (at : ℕ → core.Body) → IsNodeOf s next x → opened x at ≡ stmt_in s (at next)
unfolding stmt_in
opened_stmt (Let _ _ _ _) next x at of = ap (λ y. opened y at) of
opened_stmt (Mul _ _ _ _ _) next x at of = ap (λ y. opened y at) of
opened_stmt (Div _ _ _ _ _ _) next x at of = ap (λ y. opened y at) of
opened_stmt (Rem _ _ _ _ _ _) next x at of = ap (λ y. opened y at) of
opened_stmt (Call _ _ _ _ _ _) next x at of = ap (λ y. opened y at) of
opened_stmt (Fork _ _ _ _ _ _ _ _) next x at of = ap (λ y. opened y at) of
opened_stmt (ForkDo' _ _ _ _ _ _ _ _ _ _ _ _ _ _) next x at of = absurd of
opened_stmt (Send1 _ _ _ _ _ _ _) next x at of = ap (λ y. opened y at) of
opened_stmt (Recv1 _ _ _ _ _ _ _) next x at of = ap (λ y. opened y at) of
opened_stmt (Send _ _ _ _ _ _ _ _ _ _) next x at of = absurd of
opened_stmt (Recv _ _ _ _ _ _ _ _ _ _) next x at of = absurd of
opened_stmt (Close _ _ _ _ _ _) next x at of = absurd of
opened_stmt (Wait _ _ _ _ _ _) next x at of = absurd of
opened_stmt (Choose _ _ _ _ _ _ _ _ _ _) next x at of = absurd of
opened_stmt (Split _ _ _ _ _) next x at of = ap (λ y. opened y at) of
opened_stmt (Print _ _) next x at of = ap (λ y. opened y at) of

-- a function with this body
abbrev with_body : SurfaceFunc → core.Body → core.Function
with_body f b = record { name = f.name; bound = bound_of f.bound; params = map param_of f.params; result = res_of f.result; body = b; span = span_of f.span }

module _ (parts : Parts) (numbered : IsNumbered parts) where
  opens : (n : ℕ) (x : Node) → At parts.nodes n x → rest parts.nodes n ≡ opened x (rest parts.nodes)
  opens n x is = rest_opened parts n x numbered (place_below parts.nodes n x is) is

  said_stmts : (ss : List Stmt) (n m : ℕ) → StmtsAt parts.nodes ss n m → rest parts.nodes n ≡ stmts_in ss (rest parts.nodes m)
  unfolding stmts_in
  said_stmts [] n m at = ap (rest parts.nodes) at
  said_stmts (s ∷ ss) n m (x, next, is, of, more) = opens n x is ∙ (opened_stmt s next x (rest parts.nodes) of ∙ ap (stmt_in s) (said_stmts ss next m more))

  said_row : {k : _} (ss : Row_of-Stmt k) (n m : ℕ) → RowAt parts.nodes ss n m → rest parts.nodes n ≡ row_in ss (rest parts.nodes m)
  unfolding row_in
  said_row end_of-Stmt n m at = ap (rest parts.nodes) at
  said_row (more_of-Stmt s ss) n m (x, next, is, of, more) = opens n x is ∙ (opened_stmt s next x (rest parts.nodes) of ∙ ap (stmt_in s) (said_row ss next m more))

  mutual
    unfolding EndsAt ArmsAt BoxedAt last_in arms_in boxed_in

    said_last : (x : Last) (n : ℕ) → EndsAt parts.nodes x n → rest parts.nodes n ≡ last_in x
    said_last (Ret v q span) n at = opens n (node.Ret v q span) at
    said_last (Tail f ft vs q span) n at = opens n (node.Tail f ft vs q span) at
    said_last (If' a b _ ss _ l _ ss' _ l' span) n (i, j, k, m, at, row, ends, row', ends') =
        let first = said_row ss i k row ∙ ap (row_in ss) (said_boxed l k ends) in
        let second = said_row ss' j m row' ∙ ap (row_in ss') (said_boxed l' m ends') in
        opens n (node.If a b i j span) at ∙ (λ t. core.If (span_of span) (term_of a) (term_of b) (first t) (second t))
    said_last (Match' x xt _ arms span) n (numbered, at, all) = opens n (node.Match x xt numbered span) at ∙ ap (core.Match (span_of span) x) (said_arms arms numbered all)
    said_last (Branch' _ _ _ _ _ _ _ _ _ _ _ _) n at = absurd at
    said_last (Absurd q span) n at = opens n (node.Absurd q span) at
    said_last (Loop' _ _ _ _ _ _ _ _ _ _ _) n at = absurd at
    said_last (Again _ _ _) n at = absurd at

    said_arms : {k : _} (r : Row_of-SurfaceArm k) (arms : List Arm) → ArmsAt parts.nodes r arms → arms_opened arms (rest parts.nodes) ≡ arms_in r
    said_arms end_of-SurfaceArm [] at = refl
    said_arms end_of-SurfaceArm (a ∷ arms) at = absurd at
    said_arms (more_of-SurfaceArm p _ ss _ l more) [] at = absurd at
    said_arms (more_of-SurfaceArm p _ ss _ l more) (a ∷ arms) (m, same, row, ends, at) =
        let body = said_row ss a.next m row ∙ ap (row_in ss) (said_boxed l m ends) in λ t. core.Arm (pat_of (same t)) (body t) (said_arms more arms at t)

    said_boxed : {k : _} (x : Row_of-Last k) (n : ℕ) → BoxedAt parts.nodes x n → rest parts.nodes n ≡ boxed_in x
    said_boxed end_of-Last n at = absurd at
    said_boxed (more_of-Last x more) n at = said_last x n at

  said_block : (b : Block) (n : ℕ) → IsBodyAt parts.nodes b n → rest parts.nodes n ≡ block_in b
  said_block b n (m, stmts, ends) = said_stmts b.stmts n m stmts ∙ ap (stmts_in b.stmts) (said_last b.last m ends)

  said_protos : (ds : List Decl) (protos : List Proto) (funcs : List Func) → AreOf parts.nodes ds protos funcs → map proto_of protos ≡ protos_in ds
  unfolding AreOf protos_in
  said_protos [] protos funcs are = ap (map proto_of) are.0
  said_protos (decl.Proto p ∷ ds) protos funcs (e, more, plain, is, are) =
      ap (map proto_of) is ∙ (ap (λ ps. record { name = p.name; params = p.params; equation = equation_of e } ∷ ps) (said_protos ds more funcs are) ∙ ap (λ b. proto_in p b ++ protos_in ds) (sym plain))
  said_protos (decl.Func f ∷ ds) protos funcs (first, more, is, at, are) = said_protos ds protos more are

  said_funcs : (ds : List Decl) (protos : List Proto) (funcs : List Func) → AreOf parts.nodes ds protos funcs → map (function_of parts.nodes) funcs ≡ funcs_in ds
  unfolding AreOf funcs_in
  said_funcs [] protos funcs are = ap (map (function_of parts.nodes)) are.1
  said_funcs (decl.Proto p ∷ ds) protos funcs (e, more, plain, is, are) = said_funcs ds more funcs are
  said_funcs (decl.Func f ∷ ds) protos funcs (first, more, is, at, are) =
      let body = said_block f.block first at in
      ap (map (function_of parts.nodes)) is ∙ (λ t. with_body f (body t) ∷ said_funcs ds protos more are t)

pub says_the_tree : SaysTheTree
says_the_tree surface parts lowered =
    let protos = said_protos parts lowered.numbered surface.decls parts.protos parts.funcs lowered.declared in
    let funcs = said_funcs parts lowered.numbered surface.decls parts.protos parts.funcs lowered.declared in
    λ t. record { protos = protos t; funcs = funcs t }

pub is_one_program : IsOneProgram
is_one_program surface parts others lowered other = says_the_tree surface parts lowered ∙ sym (says_the_tree surface others other)
