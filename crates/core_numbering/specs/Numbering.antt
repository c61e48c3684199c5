-- The core program of a tree whose forms are all of the core language.
use Rattle.std.specs.Prelude.{◌≡◌, ℕ, Bool, true, false, List, [], ◌∷◌, Some, slice_get}
use Rattle.chan_syntax.specs.declared.surface_tree.Stmt.{Stmt, Row_of-Stmt, end_of-Stmt, more_of-Stmt}
use Rattle.chan_syntax.specs.declared.surface_tree.Last.{Last, Ret, Tail, If', Match', Branch', Absurd, Loop', Again, Row_of-Last, end_of-Last, more_of-Last, Row_of-SurfaceArm, end_of-SurfaceArm, more_of-SurfaceArm}
use Rattle.chan_syntax.specs.declared.surface_tree.SurfaceArm.{SurfaceArm}
use Rattle.chan_syntax.specs.declared.surface_tree.Block.{Block}
use Rattle.chan_syntax.specs.declared.surface_tree.Body.TheVariants as body
use Rattle.chan_syntax.specs.declared.surface_tree.Decl.{Decl}
use Rattle.chan_syntax.specs.declared.surface_tree.Decl.TheVariants as decl
use Rattle.chan_syntax.specs.declared.surface_tree.SurfaceProto.{SurfaceProto}
use Rattle.chan_syntax.specs.declared.surface_tree.SurfaceFunc.{SurfaceFunc}
use Rattle.chan_syntax.specs.declared.surface_tree.Surface.{Surface}
use Rattle.chan_syntax.specs.declared.resources.Equation.{Equation}
use Rattle.chan_syntax.specs.declared.resources.Proto.{Proto}
use Rattle.core_programs.specs.declared.nodes.Node.{Node}
use Rattle.core_programs.specs.declared.nodes.Node.TheVariants as node
use Rattle.core_programs.specs.declared.nodes.Arm.{Arm}
use Rattle.core_programs.specs.declared.nodes.Func.{Func}
use Rattle.core_programs.specs.declared.nodes.Parts.{Parts}
use Rattle.core_programs.specs.declared.faults.BuildFault.{BuildFault}
use Rattle.core_programs.specs.declared.faults.BuildFault.TheVariants as fault
use Rattle.statement_nodes.specs.Nodes.{IsNodeOf}
use Rattle.core_programs.specs.Form.{IsFault}
use Rattle.core_programs.specs.Formed.{IsNumbered}

-- the node at the number
abbrev pub At : List Node → ℕ → Node → Type 0
At nodes n x = slice_get nodes n ≡ Some x

-- the statements lead from one number to another
abbrev pub StmtsAt : List Node → List Stmt → ℕ → ℕ → Type 0
StmtsAt nodes [] n m = n ≡ m
StmtsAt nodes (s ∷ ss) n m = (x : Node) × (next : ℕ) × At nodes n x × IsNodeOf s next x × StmtsAt nodes ss next m

-- and so do the statements of a block that a last holds
abbrev pub RowAt : {k : _} → List Node → Row_of-Stmt k → ℕ → ℕ → Type 0
RowAt nodes end_of-Stmt n m = n ≡ m
RowAt nodes (more_of-Stmt s rest) n m = (x : Node) × (next : ℕ) × At nodes n x × IsNodeOf s next x × RowAt nodes rest next m

-- a last that has no blocks
abbrev pub is_end : Last → Bool
is_end (Ret _ _ _) = true
is_end (Tail _ _ _ _ _) = true
is_end (Absurd _ _) = true
is_end other = false

unfoldable mutual
  -- the body at the number is this last
  pub EndsAt : List Node → Last → ℕ → Type 0
  EndsAt nodes (Ret v q span) n = At nodes n (node.Ret v q span)
  EndsAt nodes (Tail f at vs q span) n = At nodes n (node.Tail f at vs q span)
  EndsAt nodes (If' a b _ ss _ l _ ss' _ l' span) n =
      (i j k m : ℕ) × At nodes n (node.If a b i j span) × RowAt nodes ss i k × BoxedAt nodes l k × RowAt nodes ss' j m × BoxedAt nodes l' m
  EndsAt nodes (Match' x at _ arms span) n = (numbered : List Arm) × At nodes n (node.Match x at numbered span) × ArmsAt nodes arms numbered
  EndsAt nodes (Branch' _ _ _ _ _ _ _ _ _ _ _ _) n = ⊥
  EndsAt nodes (Absurd q span) n = At nodes n (node.Absurd q span)
  EndsAt nodes (Loop' _ _ _ _ _ _ _ _ _ _ _) n = ⊥
  EndsAt nodes (Again _ _ _) n = ⊥

  -- the arms of a match have these numbers
  pub ArmsAt : {k : _} → List Node → Row_of-SurfaceArm k → List Arm → Type 0
  ArmsAt nodes end_of-SurfaceArm [] = Unit {0}
  ArmsAt nodes end_of-SurfaceArm (a ∷ more) = ⊥
  ArmsAt nodes (more_of-SurfaceArm p _ ss _ l rest) [] = ⊥
  ArmsAt nodes (more_of-SurfaceArm p _ ss _ l rest) (a ∷ more) = (m : ℕ) × (a.pat ≡ p) × RowAt nodes ss a.next m × BoxedAt nodes l m × ArmsAt nodes rest more

  -- what a box holds
  pub BoxedAt : {k : _} → List Node → Row_of-Last k → ℕ → Type 0
  BoxedAt nodes end_of-Last n = ⊥
  BoxedAt nodes (more_of-Last x rest) n = EndsAt nodes x n

-- the body at the number has the statements of the block, and then its last
abbrev pub IsBodyAt : List Node → Block → ℕ → Type 0
IsBodyAt nodes b n = (m : ℕ) × StmtsAt nodes b.stmts n m × EndsAt nodes b.last m

-- the bodies of the arms have these numbers
abbrev pub AreArmsAt : List Node → List SurfaceArm → List Arm → Type 0
AreArmsAt nodes [] [] = Unit {0}
AreArmsAt nodes [] (a ∷ more) = ⊥
AreArmsAt nodes (x ∷ xs) [] = ⊥
AreArmsAt nodes (x ∷ xs) (a ∷ more) = (a.pat ≡ x.pat) × IsBodyAt nodes x.block a.next × AreArmsAt nodes xs more

abbrev pub proto_of : SurfaceProto → Equation → Proto
proto_of p e = record { name = p.name; name_span = p.name_span; params = p.params; params_spans = p.params_spans; equation = e; span = p.span }

abbrev pub func_of : SurfaceFunc → ℕ → Func
func_of f first = record { name = f.name; name_span = f.name_span; bound = f.bound; params = f.params; result = f.result; first = first; span = f.span }

-- the protocols and functions of the declarations, in their order
unfoldable pub AreOf : List Node → List Decl → List Proto → List Func → Type 0
AreOf nodes [] protos funcs = (protos ≡ []) × (funcs ≡ [])
AreOf nodes (decl.Proto p ∷ ds) protos funcs =
    (e : Equation) × (more : List Proto) × (p.body ≡ body.Plain e) × (protos ≡ proto_of p e ∷ more) × AreOf nodes ds more funcs
AreOf nodes (decl.Func f ∷ ds) protos funcs =
    (first : ℕ) × (more : List Func) × (funcs ≡ func_of f first ∷ more) × IsBodyAt nodes f.block first × AreOf nodes ds protos more

-- the parts are those of the tree, and each node is used once
pub record IsNumbering (surface : Surface) (parts : Parts) : Type 0 where
  pub declared : AreOf parts.nodes surface.decls parts.protos parts.funcs
  pub numbered : IsNumbered parts

-- the first fault of the form of its parts, unless memory failed
abbrev pub IsNumberingFault : Surface → BuildFault → Type 0
IsNumberingFault surface (fault.Ill ill) = (parts : Parts) × IsNumbering surface parts × IsFault parts ill
IsNumberingFault surface fault.Memory = Unit {0}
