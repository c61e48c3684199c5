-- The program that a tree without sessions says, as trees of the core language.
use Rattle.std.specs.Prelude.{◌≡◌, List, [], ◌∷◌, ◌++◌, map, Option}
use Rattle.core_language.specs.Programs as core
use Rattle.core_language.specs.Resources as resource
use Rattle.chan_syntax.specs.Reading.{term_of, bound_of, ref_of, res_of, equation_of, supply_of, pat_of, letter_of, proof_of}
use Rattle.chan_syntax.specs.declared.surface_tree.Stmt.{Stmt, Let, Mul, Div, Rem, Call, Fork, Send1, Recv1, Split, Print, Row_of-Stmt, end_of-Stmt, more_of-Stmt}
use Rattle.chan_syntax.specs.declared.surface_tree.Last.{Last, Ret, Tail, If', Match', Branch', Absurd, Loop', Again, Row_of-Last, end_of-Last, more_of-Last, Row_of-SurfaceArm, end_of-SurfaceArm, more_of-SurfaceArm}
use Rattle.chan_syntax.specs.declared.surface_tree.Block.{Block}
use Rattle.chan_syntax.specs.declared.surface_tree.Body.{Body}
use Rattle.chan_syntax.specs.declared.surface_tree.Body.TheVariants as body
use Rattle.chan_syntax.specs.declared.surface_tree.Decl.{Decl}
use Rattle.chan_syntax.specs.declared.surface_tree.Decl.TheVariants as decl
use Rattle.chan_syntax.specs.declared.surface_tree.SurfaceProto.{SurfaceProto}
use Rattle.chan_syntax.specs.declared.surface_tree.SurfaceFunc.{SurfaceFunc}
use Rattle.chan_syntax.specs.declared.surface_tree.Surface.{Surface}
use Rattle.core_programs.specs.declared.nodes.Parts.{Parts}
use Rattle.form_faults.specs.declared.faults.Ill.{Ill}
use Rattle.core_programs.specs.Form.{Passes}
use Rattle.core_programs.specs.Bodies.{span_of, nowhere, param_of, program_of}
use Rattle.core_numbering.specs.Numbering.{IsNumbering}

-- a statement before a body; nothing stands for a session
unfoldable pub stmt_in : Stmt → core.Body → core.Body
stmt_in (Let n at t span) next = core.Let (span_of span) n (term_of t) next
stmt_in (Mul n at a b span) next = core.Mul (span_of span) n (term_of a) (term_of b) next
stmt_in (Div n at t k kt span) next = core.Div (span_of span) n (term_of t) k next
stmt_in (Rem n at t k kt span) next = core.Rem (span_of span) n (term_of t) k next
stmt_in (Call p f at vs q span) next = core.Call (span_of span) (pat_of p) f (map supply_of vs) (proof_of q) next
stmt_in (Fork n at r f ft vs q span) next = core.Fork (span_of span) n (ref_of r) f (map supply_of vs) (proof_of q) next
stmt_in (Send1 c at p pt v q span) next = core.Send1 (span_of span) c (map letter_of p) (supply_of v) (proof_of q) next
stmt_in (Recv1 y c at p pt q span) next = core.Recv1 (span_of span) (pat_of y) c (map letter_of p) (proof_of q) next
stmt_in (Split a b n at span) next = core.Split (span_of span) (pat_of a) (pat_of b) n next
stmt_in (Print t span) next = core.Print (span_of span) (term_of t) next
stmt_in session next = nowhere

-- statements before a body
unfoldable pub stmts_in : List Stmt → core.Body → core.Body
stmts_in [] last = last
stmts_in (s ∷ ss) last = stmt_in s (stmts_in ss last)

unfoldable mutual
  -- what ends a block; nothing stands for a session
  pub last_in : Last → core.Body
  last_in (Ret v q span) = core.Ret (span_of span) (supply_of v) (proof_of q)
  last_in (Tail f at vs q span) = core.Tail (span_of span) f (map supply_of vs) (proof_of q)
  last_in (If' a b _ ss _ l _ ss' _ l' span) = core.If (span_of span) (term_of a) (term_of b) (row_in ss (boxed_in l)) (row_in ss' (boxed_in l'))
  last_in (Match' x at _ arms span) = core.Match (span_of span) x (arms_in arms)
  last_in (Branch' _ _ _ _ _ _ _ _ _ _ _ _) = nowhere
  last_in (Absurd q span) = core.Absurd (span_of span) (proof_of q)
  last_in (Loop' _ _ _ _ _ _ _ _ _ _ _) = nowhere
  last_in (Again _ _ _) = nowhere

  -- the statements of a block that a last holds
  pub row_in : {k : _} → Row_of-Stmt k → core.Body → core.Body
  row_in end_of-Stmt last = last
  row_in (more_of-Stmt s rest) last = stmt_in s (row_in rest last)

  -- the arms of a match
  pub arms_in : {k : _} → Row_of-SurfaceArm k → core.Arms
  arms_in end_of-SurfaceArm = core.NoArm
  arms_in (more_of-SurfaceArm p _ ss _ l rest) = core.Arm (pat_of p) (row_in ss (boxed_in l)) (arms_in rest)

  -- what a box holds
  pub boxed_in : {k : _} → Row_of-Last k → core.Body
  boxed_in end_of-Last = nowhere
  boxed_in (more_of-Last x rest) = last_in x

abbrev pub block_in : Block → core.Body
block_in b = stmts_in b.stmts (last_in b.last)

-- a protocol has a plain equation
abbrev pub proto_in : SurfaceProto → Body → List resource.Proto
proto_in p (body.Plain e) = record { name = p.name; params = p.params; equation = equation_of e } ∷ []
proto_in p (body.Choice _ _ _ _) = []

abbrev pub func_in : SurfaceFunc → core.Function
func_in f = record {
  name = f.name;
  bound = bound_of f.bound;
  params = map param_of f.params;
  result = res_of f.result;
  body = block_in f.block;
  span = span_of f.span;
}

unfoldable pub protos_in : List Decl → List resource.Proto
protos_in [] = []
protos_in (decl.Proto p ∷ ds) = proto_in p p.body ++ protos_in ds
protos_in (decl.Func f ∷ ds) = protos_in ds

unfoldable pub funcs_in : List Decl → List core.Function
funcs_in [] = []
funcs_in (decl.Proto p ∷ ds) = funcs_in ds
funcs_in (decl.Func f ∷ ds) = func_in f ∷ funcs_in ds

abbrev pub program_in : Surface → core.Program
program_in s = record { protos = protos_in s.decls; funcs = funcs_in s.decls }

-- ---- laws

-- the parts of a tree make the program that it says
abbrev pub SaysTheTree : Type 0
SaysTheTree = (surface : Surface) (parts : Parts) → IsNumbering surface parts → program_of parts ≡ program_in surface

-- whatever numbers its nodes have
abbrev pub IsOneProgram : Type 0
IsOneProgram = (surface : Surface) (parts others : Parts) → IsNumbering surface parts → IsNumbering surface others → program_of parts ≡ program_of others

-- nor is the form of its parts another: they have the same fault, or none
abbrev pub IsOneForm : Type 0
IsOneForm = (surface : Surface) (parts others : Parts) → IsNumbering surface parts → IsNumbering surface others → (ill : Option Ill) → Passes parts ill → Passes others ill
