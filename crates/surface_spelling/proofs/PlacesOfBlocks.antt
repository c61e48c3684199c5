-- Places change no word of a statement, a block or a program.
use Rattle.std.proofs.Common.{◌≡◌, ℕ, suc, ◌+◌, List, [], ◌∷◌, map, Option, Some, None, refl, ap}
use Rattle.std.specs.Option.{option_map}
use Rattle.chan_syntax.specs.declared.linear.Term.{Term}
use Rattle.chan_syntax.specs.declared.linear.Bound.{Bound}
use Rattle.chan_syntax.specs.declared.resources.Ref.{Ref}
use Rattle.chan_syntax.specs.declared.resources.Res.{Res}
use Rattle.chan_syntax.specs.declared.resources.Param.{Param}
use Rattle.chan_syntax.specs.declared.resources.Equation.{Equation}
use Rattle.chan_syntax.specs.declared.resources.Equation.TheVariants as equation
use Rattle.chan_syntax.specs.declared.operands.Supply.{Supply}
use Rattle.chan_syntax.specs.declared.operands.Letter.{Letter}
use Rattle.chan_syntax.specs.declared.operands.Proof.{Proof}
use Rattle.chan_syntax.specs.declared.surface_tree.Start.{Start}
use Rattle.chan_syntax.specs.declared.surface_tree.Stmt.{Stmt, Let, Mul, Div, Rem, Call, Fork, ForkDo', Send1, Recv1, Send, Recv, Close, Wait, Choose, Split, Print, Row_of-Stmt, end_of-Stmt, more_of-Stmt}
use Rattle.chan_syntax.specs.declared.surface_tree.Last.{Last, Ret, Tail, If', Match', Branch', Absurd, Loop', Again, Row_of-Last, end_of-Last, more_of-Last, Row_of-SurfaceArm, end_of-SurfaceArm, more_of-SurfaceArm, Row_of-Block, end_of-Block, more_of-Block}
use Rattle.chan_syntax.specs.declared.surface_tree.Block.{Block}
use Rattle.chan_syntax.specs.declared.surface_tree.Body.{Body}
use Rattle.chan_syntax.specs.declared.surface_tree.Body.TheVariants as body
use Rattle.chan_syntax.specs.declared.surface_tree.Decl.{Decl}
use Rattle.chan_syntax.specs.declared.surface_tree.Decl.TheVariants as decl
use Rattle.chan_syntax.specs.declared.surface_tree.Surface.{Surface}
use Rattle.surface_spelling.specs.Layout.{step, bytes}
use Rattle.surface_spelling.specs.Operands.{pat, two_pats, param}
use Rattle.surface_spelling.specs.Blocks.{call, access, target, start, name_and_binds, header, result_behind, task_head, loop_head, let_fork, sent, at_most, condition, arm_head, branch_head, stmt, last, row_of_stmts, row_of_arms, row_of_blocks, row_behind_else, boxed_last, stmts, block}
use Rattle.surface_spelling.specs.Spelling.{then_ref, two_refs, refs_behind, alternatives, plain, pbody, proto, func_head, func, declaration, declarations, program, spelling}
use Rattle.surface_spelling.specs.Erased as e
use Rattle.surface_spelling.proofs.Places.{listed_same, behind_same, term_same, binds_behind_same, reference_same, res_same, param_same, value_same, values_same, proof_same, start_same}

call_same : (f : List ℕ) (vs : List Supply) (q : Proof) → call f (map e.value vs) (e.proof q) ≡ call f vs q
unfolding call
call_same f vs q = rw (values_same vs, proof_same q) refl

access_same : (c : List ℕ) (p : List Letter) (q : Proof) → access c p (e.proof q) ≡ access c p q
unfolding access
access_same c p q = rw (proof_same q) refl

target_same : (c : List ℕ) (r : Ref) (p : List Letter) → target c (e.reference r) p ≡ target c r p
unfolding target
target_same c r p = rw (reference_same r) refl

fork_same : (n : List ℕ) (r : Ref) → let_fork n (e.reference r) ≡ let_fork n r
unfolding let_fork
fork_same n r = rw (reference_same r) refl

sent_same : (v : Supply) (q : Proof) → sent (e.value v) (e.proof q) ≡ sent v q
unfolding sent
sent_same v q = rw (value_same v, proof_same q) refl

condition_same : (a b : Term) → condition (e.term a) (e.term b) ≡ condition a b
unfolding condition at_most
condition_same a b = rw (term_same a, term_same b) refl

branch_same : (c : List ℕ) (p : List Letter) (q : Proof) (b z : List ℕ) → branch_head c p (e.proof q) b z ≡ branch_head c p q b z
unfolding branch_head
branch_same c p q b z = rw (access_same c p q) refl

named_same : (n : List ℕ) (b : Bound) → name_and_binds n (e.bound b) ≡ name_and_binds n b
unfolding name_and_binds
named_same n b = rw (binds_behind_same b.names b.limits) refl

result_same : (r : Res) → result_behind (e.res r) ≡ result_behind r
unfolding result_behind
result_same r = rw (res_same r) refl

task_same : (f : List ℕ) (b : Bound) (p : Param) (xs : List Start) (q : Proof) → task_head f (e.bound b) (e.param p) (map e.start xs) (e.proof q) ≡ task_head f b p xs q
unfolding task_head
task_same f b p xs q = rw (named_same f b, param_same p, behind_same start e.start start_same xs, proof_same q) refl

loop_same : (n : List ℕ) (b : Bound) (xs : List Start) (r : Res) (q : Proof) → loop_head n (e.bound b) (map e.start xs) (e.res r) (e.proof q) ≡ loop_head n b xs r q
unfolding loop_head header
loop_same n b xs r q = rw (named_same n b, listed_same start e.start start_same xs, result_same r, proof_same q) refl

mutual
  unfolding stmt last row_of_stmts boxed_last pat two_pats arm_head

  stmt_same : (d : ℕ) (s : Stmt) → stmt d (e.stmt s) ≡ stmt d s
  stmt_same d (Let n x t y) = rw (term_same t) refl
  stmt_same d (Mul n x a b y) = rw (term_same a, term_same b) refl
  stmt_same d (Div n x t k y z) = rw (term_same t) refl
  stmt_same d (Rem n x t k y z) = rw (term_same t) refl
  stmt_same d (Call p f x vs q y) = rw (call_same f vs q) refl
  stmt_same d (Fork n x r f y vs q z) = rw (fork_same n r, call_same f vs q) refl
  stmt_same d (ForkDo' n x r f y b p xs q m ss k l z) = rw (fork_same n r, task_same f b p xs q, row_same (d + step) ss, boxed_last_same (d + step) l) refl
  stmt_same d (Send1 c x p y v q z) = rw (sent_same v q) refl
  stmt_same d (Recv1 a c x p y q z) = rw (access_same c p q) refl
  stmt_same d (Send n x c y r p z v q w) = rw (target_same c r p, sent_same v q) refl
  stmt_same d (Recv a b ns ss c x p y q z) = rw (access_same c p q) refl
  stmt_same d (Close c x p y q z) = rw (access_same c p q) refl
  stmt_same d (Wait c x p y q z) = rw (access_same c p q) refl
  stmt_same d (Choose i n x c y r p z q w) = rw (target_same c r p, proof_same q) refl
  stmt_same d (Split a b n x y) = refl
  stmt_same d (Print t x) = rw (term_same t) refl

  last_same : (d : ℕ) (l : Last) → last d (e.last l) ≡ last d l
  last_same d (Ret v q x) = rw (sent_same v q) refl
  last_same d (Tail f x vs q y) = rw (call_same f vs q) refl
  last_same d (If' a b m ss k l m' ss' k' l' x) = rw (condition_same a b, row_same (d + step) ss, boxed_last_same (d + step) l, row_same (d + step) ss', boxed_last_same (d + step) l') refl
  last_same d (Match' n x m arms y) = rw (arms_same (d + step) 0 arms) refl
  last_same d (Branch' c x p y q b z r w m blocks u) = rw (branch_same c p q b r, blocks_same d blocks) refl
  last_same d (Absurd q x) = rw (proof_same q) refl
  last_same d (Loop' n x b xs r q m ss k l y) = rw (loop_same n b xs r q, row_same (d + step) ss, boxed_last_same (d + step) l) refl
  last_same d (Again vs q x) = rw (values_same vs, proof_same q) refl

  row_same : {m : _} (d : ℕ) (r : Row_of-Stmt m) → row_of_stmts d (e.row_of_stmts r) ≡ row_of_stmts d r
  row_same d end_of-Stmt = refl
  row_same d (more_of-Stmt x rest) = rw (stmt_same d x, row_same d rest) refl

  arms_same : {m : _} (d i : ℕ) (r : Row_of-SurfaceArm m) → row_of_arms d i (e.row_of_arms r) ≡ row_of_arms d i r
  arms_same d i end_of-SurfaceArm = refl
  arms_same d i (more_of-SurfaceArm p m ss k l rest) = rw (row_same (d + step) ss, boxed_last_same (d + step) l, arms_same d (suc i) rest) refl

  blocks_same : {m : _} (d : ℕ) (r : Row_of-Block m) → row_of_blocks d (e.row_of_blocks r) ≡ row_of_blocks d r
  blocks_same d end_of-Block = refl
  blocks_same d (more_of-Block m ss k l rest) = rw (row_same (d + step) ss, boxed_last_same (d + step) l, else_same d rest) refl

  else_same : {m : _} (d : ℕ) (r : Row_of-Block m) → row_behind_else d (e.row_of_blocks r) ≡ row_behind_else d r
  else_same d end_of-Block = refl
  else_same d (more_of-Block m ss k l rest) = rw (row_same (d + step) ss, boxed_last_same (d + step) l, else_same d rest) refl

  boxed_last_same : {m : _} (d : ℕ) (r : Row_of-Last m) → boxed_last d (e.boxed_last r) ≡ boxed_last d r
  boxed_last_same d end_of-Last = refl
  boxed_last_same d (more_of-Last x rest) = rw (last_same d x) refl

stmts_same : (d : ℕ) (ss : List Stmt) → stmts d (map e.stmt ss) ≡ stmts d ss
unfolding stmts
stmts_same d [] = refl
stmts_same d (x ∷ xs) = rw (stmt_same d x, stmts_same d xs) refl

block_same : (d : ℕ) (b : Block) → block d (e.block b) ≡ block d b
unfolding block
block_same d b = rw (stmts_same (d + step) b.stmts, last_same (d + step) b.last) refl

-- ---- declarations

then_same : (next : Option Ref) → then_ref (option_map e.reference next) ≡ then_ref next
unfolding then_ref
then_same None = refl
then_same (Some r) = rw (reference_same r) refl

plain_same : (x : Equation) → plain (e.plain x) ≡ plain x
unfolding plain two_refs
plain_same (equation.Send r next) = rw (res_same r, then_same next) refl
plain_same (equation.Recv r next) = rw (res_same r, then_same next) refl
plain_same equation.Close = refl
plain_same equation.Wait = refl
plain_same (equation.Branch a b this other) = rw (condition_same a b, reference_same this, reference_same other) refl

refs_same : (rs : List Ref) → refs_behind (map e.reference rs) ≡ refs_behind rs
unfolding refs_behind
refs_same [] = refl
refs_same (r ∷ rs) = rw (reference_same r, refs_same rs) refl

alternatives_same : (rs : List Ref) → alternatives (map e.reference rs) ≡ alternatives rs
unfolding alternatives
alternatives_same [] = refl
alternatives_same (r ∷ rs) = rw (reference_same r, refs_same rs) refl

body_same : (x : Body) → pbody (e.pbody x) ≡ pbody x
unfolding pbody
body_same (body.Plain x) = plain_same x
body_same (body.Choice offer n at refs) = rw (alternatives_same refs) refl

declaration_same : (x : Decl) → declaration (e.declaration x) ≡ declaration x
unfolding declaration proto func func_head header
declaration_same (decl.Proto p) = rw (body_same p.body) refl
declaration_same (decl.Func f) = rw (named_same f.name f.bound, listed_same param e.param param_same f.params, result_same f.result, block_same 0 f.block) refl

declarations_same : (xs : List Decl) → declarations (map e.declaration xs) ≡ declarations xs
unfolding declarations
declarations_same [] = refl
declarations_same (x ∷ xs) = rw (declaration_same x, declarations_same xs) refl

pub places_aside : (s : Surface) → spelling (e.erase s) ≡ spelling s
unfolding spelling program
places_aside s = ap bytes (declarations_same s.decls)
