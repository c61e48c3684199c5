-- Trees whose forms are all of the core language.
use Rattle.std.specs.Prelude.{Bool, true, false, ◌&&◌}
use Rattle.std.specs.List.{list_all}
use Rattle.chan_syntax.specs.declared.surface_tree.Stmt.{Stmt, Let, Mul, Div, Rem, Call, Fork, ForkDo', Send1, Recv1, Send, Recv, Close, Wait, Choose, Split, Print, Row_of-Stmt, end_of-Stmt, more_of-Stmt}
use Rattle.chan_syntax.specs.declared.surface_tree.Last.{Last, Ret, Tail, If', Match', Branch', Absurd, Loop', Again, Row_of-Last, end_of-Last, more_of-Last, Row_of-SurfaceArm, end_of-SurfaceArm, more_of-SurfaceArm}
use Rattle.chan_syntax.specs.declared.surface_tree.SurfaceArm.{SurfaceArm}
use Rattle.chan_syntax.specs.declared.surface_tree.Block.{Block}
use Rattle.chan_syntax.specs.declared.surface_tree.Body.{Body}
use Rattle.chan_syntax.specs.declared.surface_tree.Body.TheVariants as body
use Rattle.chan_syntax.specs.declared.surface_tree.Decl.{Decl}
use Rattle.chan_syntax.specs.declared.surface_tree.Decl.TheVariants as decl
use Rattle.chan_syntax.specs.declared.surface_tree.Surface.{Surface}

-- `do`, `send`, `recv`, `close`, `wait`, `left` and `right` are sessions
abbrev pub is_core_stmt : Stmt → Bool
is_core_stmt (Let _ _ _ _) = true
is_core_stmt (Mul _ _ _ _ _) = true
is_core_stmt (Div _ _ _ _ _ _) = true
is_core_stmt (Rem _ _ _ _ _ _) = true
is_core_stmt (Call _ _ _ _ _ _) = true
is_core_stmt (Fork _ _ _ _ _ _ _ _) = true
is_core_stmt (ForkDo' _ _ _ _ _ _ _ _ _ _ _ _ _ _) = false
is_core_stmt (Send1 _ _ _ _ _ _ _) = true
is_core_stmt (Recv1 _ _ _ _ _ _ _) = true
is_core_stmt (Send _ _ _ _ _ _ _ _ _ _) = false
is_core_stmt (Recv _ _ _ _ _ _ _ _ _ _) = false
is_core_stmt (Close _ _ _ _ _ _) = false
is_core_stmt (Wait _ _ _ _ _ _) = false
is_core_stmt (Choose _ _ _ _ _ _ _ _ _ _) = false
is_core_stmt (Split _ _ _ _ _) = true
is_core_stmt (Print _ _) = true

-- `branch`, `loop` and `again` are sessions
unfoldable mutual
  pub is_core_last : Last → Bool
  is_core_last (Ret _ _ _) = true
  is_core_last (Tail _ _ _ _ _) = true
  is_core_last (If' _ _ _ ss _ l _ ss' _ l' _) = (is_core_row ss && is_core_boxed l) && (is_core_row ss' && is_core_boxed l')
  is_core_last (Match' _ _ _ arms _) = are_core_arms arms
  is_core_last (Branch' _ _ _ _ _ _ _ _ _ _ _ _) = false
  is_core_last (Absurd _ _) = true
  is_core_last (Loop' _ _ _ _ _ _ _ _ _ _ _) = false
  is_core_last (Again _ _ _) = false

  -- the statements of a block that a last holds
  pub is_core_row : {m : _} → Row_of-Stmt m → Bool
  is_core_row end_of-Stmt = true
  is_core_row (more_of-Stmt x rest) = is_core_stmt x && is_core_row rest

  -- the arms of a match
  pub are_core_arms : {m : _} → Row_of-SurfaceArm m → Bool
  are_core_arms end_of-SurfaceArm = true
  are_core_arms (more_of-SurfaceArm _ _ ss _ l rest) = (is_core_row ss && is_core_boxed l) && are_core_arms rest

  -- what a box holds
  pub is_core_boxed : {m : _} → Row_of-Last m → Bool
  is_core_boxed end_of-Last = true
  is_core_boxed (more_of-Last x rest) = is_core_last x

unfoldable pub is_core_block : Block → Bool
is_core_block b = list_all is_core_stmt b.stmts && is_core_last b.last

abbrev pub is_core_arm : SurfaceArm → Bool
is_core_arm arm = is_core_block arm.block

-- `choice` and `offer` are sessions
abbrev pub is_core_body : Body → Bool
is_core_body (body.Plain e) = true
is_core_body (body.Choice _ _ _ _) = false

abbrev pub is_core_decl : Decl → Bool
is_core_decl (decl.Proto p) = is_core_body p.body
is_core_decl (decl.Func f) = is_core_block f.block

abbrev pub is_core : Surface → Bool
is_core s = list_all is_core_decl s.decls
