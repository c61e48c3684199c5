-- The words of statements and blocks stand apart.
use Rattle.std.proofs.Common.{ℕ, suc, ◌+◌, List, [], ◌∷◌, ◌++◌, codes, refl}
use Rattle.chan_syntax.specs.declared.linear.Term.{Term}
use Rattle.chan_syntax.specs.declared.linear.Bound.{Bound}
use Rattle.chan_syntax.specs.declared.resources.Ref.{Ref}
use Rattle.chan_syntax.specs.declared.resources.Res.{Res}
use Rattle.chan_syntax.specs.declared.resources.Param.{Param}
use Rattle.chan_syntax.specs.declared.operands.Supply.{Supply}
use Rattle.chan_syntax.specs.declared.operands.Pat.{Pat}
use Rattle.chan_syntax.specs.declared.operands.Letter.{Letter}
use Rattle.chan_syntax.specs.declared.operands.Proof.{Proof}
use Rattle.chan_syntax.specs.declared.surface_tree.Start.{Start}
use Rattle.chan_syntax.specs.declared.surface_tree.Stmt.{Stmt, Let, Mul, Div, Rem, Call, Fork, ForkDo', Send1, Recv1, Send, Recv, Close, Wait, Choose, Split, Print, Row_of-Stmt, end_of-Stmt, more_of-Stmt}
use Rattle.chan_syntax.specs.declared.surface_tree.Last.{Last, Ret, Tail, If', Match', Branch', Absurd, Loop', Again, Row_of-Last, end_of-Last, more_of-Last, Row_of-SurfaceArm, end_of-SurfaceArm, more_of-SurfaceArm, Row_of-Block, end_of-Block, more_of-Block}
use Rattle.chan_syntax.specs.declared.surface_tree.Block.{Block}
use Rattle.text_tokens.specs.Text.{Piece}
use Rattle.surface_spelling.specs.Layout.{keyword, name, number, space, step, line, pair, closing, in_braces}
use Rattle.surface_spelling.specs.Operands.{term, reference, names_behind, tag, pat, two_pats, proof}
use Rattle.surface_spelling.specs.Blocks.{let_is, call, access, target, start, name_and_binds, result_behind, task_head, header, loop_head, let_fork, sent, at_most, condition, match_head, arm_head, chosen, as_names, branch_head, stmt, last, row_of_stmts, row_of_arms, row_of_blocks, row_behind_else, boxed_last, stmts, block}
use Rattle.spelling_cuts.proofs.Apart.{Next, a_word, a_mark, Apart, Soft, apart_rules, layout_rules, apart_append, apart_open, soft_front, soft_gap, line_apart, line_soft}
use Rattle.spelling_cuts.proofs.ApartOperands.{operand_rules, res_apart, tag_apart}

-- ---- what several statements have

let_apart : (k : Next) (ps : List Piece) → Apart a_mark ps → Apart k (let_is ps)
unfolding let_is
let_apart k ps a = search apart_rules depth 14

call_apart : (f : List ℕ) (vs : List Supply) (q : Proof) → Apart a_mark (call f vs q)
unfolding call
call_apart f vs q = search operand_rules depth 12

access_apart : (c : List ℕ) (p : List Letter) (q : Proof) → Apart a_mark (access c p q)
unfolding access
access_apart c p q = search operand_rules depth 12

target_apart : (c : List ℕ) (r : Ref) (p : List Letter) → Apart a_mark (target c r p)
unfolding target
target_apart c r p = search operand_rules depth 12

start_apart : (x : Start) → Apart a_mark (start x)
unfolding start
start_apart x = search operand_rules depth 14

binds_apart : (n : List ℕ) (b : Bound) → Apart a_mark (name_and_binds n b)
unfolding name_and_binds
binds_apart n b = search operand_rules depth 12

pub header_apart : (k : Next) (n : List ℕ) (b : Bound) (inner : List Piece) → Apart a_mark inner → Apart k (header n b inner)
unfolding header
header_apart k n b inner a = search (operand_rules, binds_apart) depth 12

pub result_soft : (k : Next) (r : Res) → Soft k (result_behind r)
unfolding result_behind
result_soft k r = record { is = refl }

pub result_apart : (r : Res) → Apart a_mark (result_behind r)
unfolding result_behind
result_apart r = search operand_rules depth 14

task_apart : (k : Next) (f : List ℕ) (b : Bound) (x : Param) (xs : List Start) (q : Proof) → Apart k (task_head f b x xs q)
unfolding task_head
task_apart k f b x xs q = search (operand_rules, binds_apart, start_apart) depth 16 fits 4000

loop_apart : (k : Next) (n : List ℕ) (b : Bound) (xs : List Start) (r : Res) (q : Proof) → Apart k (loop_head n b xs r q)
unfolding loop_head
loop_apart k n b xs r q = search (operand_rules, header_apart, start_apart, result_soft, result_apart) depth 16 fits 4000

fork_apart : (k : Next) (n : List ℕ) (r : Ref) → Apart k (let_fork n r)
unfolding let_fork
fork_apart k n r =
    apart_append k (let_is (name n ∷ []) ++ keyword (codes "fork") ∷ space ∷ reference r) (space ∷ [])
    (apart_open a_mark (let_is (name n ∷ [])) (keyword (codes "fork") ∷ space ∷ reference r) (let_apart a_word (name n ∷ []) (record { is = refl })) (search operand_rules depth 12))
    (soft_gap k []) (record { is = refl })

sent_soft : (k : Next) (v : Supply) (q : Proof) → Soft k (sent v q)
unfolding sent
sent_soft k v q = record { is = refl }

sent_apart : (v : Supply) (q : Proof) → Apart a_mark (sent v q)
unfolding sent
sent_apart v q = search operand_rules depth 12

pub condition_apart : (k : Next) (a b : Term) → Apart k (condition a b)
unfolding condition at_most
condition_apart k a b = search operand_rules depth 16

match_apart : (k : Next) (n : List ℕ) → Apart k (match_head n)
unfolding match_head
match_apart k n = record { is = refl }

arm_soft : (k : Next) (d i : ℕ) (p : Pat) → Soft k (arm_head d i p)
unfolding arm_head line
arm_soft k d i p = record { is = refl }

arm_apart : (k : Next) (d i : ℕ) (p : Pat) → Apart k (arm_head d i p)
unfolding arm_head
arm_apart k d i p =
    apart_append k (line d ++ tag i ++ space ∷ pat p) (space ∷ [])
    (apart_append a_mark (line d ++ tag i) (space ∷ pat p) (apart_open a_mark (line d) (tag i) (line_apart a_word d) (tag_apart i)) (soft_gap a_mark (pat p)) (search operand_rules depth 12))
    (soft_gap k []) (record { is = refl })

chosen_apart : (i : ℕ) → Apart a_mark (chosen i)
unfolding chosen
chosen_apart i = search layout_rules depth 12

as_soft : (k : Next) (b z : List ℕ) → Soft k (as_names b z)
unfolding as_names
as_soft k b z = record { is = refl }

as_apart : (k : Next) (b z : List ℕ) → Apart k (as_names b z)
unfolding as_names
as_apart k b z = record { is = refl }

branch_apart : (k : Next) (c : List ℕ) (p : List Letter) (q : Proof) (b z : List ℕ) → Apart k (branch_head c p q b z)
unfolding branch_head
branch_apart k c p q b z = search (apart_rules, access_apart, as_soft, as_apart) depth 12

ruleset block_rules = (operand_rules, call_apart, access_apart, target_apart, sent_soft, sent_apart)

-- ---- braces

closing_soft : (k : Next) (d : ℕ) → Soft k (closing d)
unfolding closing line
closing_soft k d = record { is = refl }

closing_apart : (k : Next) (d : ℕ) → Apart k (closing d)
unfolding closing
closing_apart k d = search (apart_rules, line_apart) depth 12

braces_apart : (k : Next) (d : ℕ) (lines : List Piece) → Apart a_mark lines → Apart k (in_braces d lines)
unfolding in_braces
braces_apart k d lines a = search (apart_rules, closing_soft, closing_apart) depth 12

-- words at the start of a line
on_line : (d : ℕ) (ps : List Piece) → Apart a_mark ps → Apart a_mark (line d ++ ps)
on_line d ps a = apart_open a_mark (line d) ps (line_apart a_word d) a

line_first : (d : ℕ) (ps : List Piece) → Soft a_mark (line d ++ ps)
line_first d ps = soft_front a_mark (line d) ps (line_soft a_word d)

-- the statements of a block and its end
inner_apart : (d : ℕ) (k : Next) (rows lasts : List Piece) → Apart a_mark rows → Soft a_mark lasts → Apart a_mark lasts → Apart k (in_braces d (rows ++ lasts))
inner_apart d k rows lasts r s l = braces_apart k d (rows ++ lasts) (apart_append a_mark rows lasts r s l)

else_then : (b : List Piece) → Apart a_mark b → Apart a_mark (space ∷ keyword (codes "else") ∷ space ∷ b)
else_then b p = search apart_rules depth 12

two_apart : (k : Next) (a b : List Piece) → Apart a_mark a → Apart k b → Apart k (a ++ space ∷ keyword (codes "else") ∷ space ∷ b)
two_apart k a b p q = search apart_rules depth 12

braces_soft : (k : Next) (d : ℕ) (lines : List Piece) → Soft k (in_braces d lines)
unfolding in_braces
braces_soft k d lines = record { is = refl }

-- `let` and what it is given
let_then : (ps qs : List Piece) → Apart a_mark ps → Apart a_mark qs → Apart a_mark (let_is ps ++ qs)
let_then ps qs p q = apart_open a_mark (let_is ps) qs (let_apart a_word ps p) q

fork_then : (n : List ℕ) (r : Ref) (qs : List Piece) → Apart a_mark qs → Apart a_mark (let_fork n r ++ qs)
fork_then n r qs q = apart_open a_mark (let_fork n r) qs (fork_apart a_word n r) q

one_name : (n : List ℕ) → Apart a_mark (name n ∷ [])
one_name n = record { is = refl }

-- a head that ends with a space, and a block
with_block : (head : List Piece) (d : ℕ) (rows lasts : List Piece) → Apart a_mark head → Apart a_mark rows → Soft a_mark lasts → Apart a_mark lasts → Apart a_mark (head ++ in_braces d (rows ++ lasts))
with_block head d rows lasts h r s l =
    apart_append a_mark head (in_braces d (rows ++ lasts)) h (braces_soft a_mark d (rows ++ lasts)) (inner_apart d a_mark rows lasts r s l)

-- a head that ends with a space, and two blocks
with_blocks : (head : List Piece) (d : ℕ) (first second : List Piece) → Apart a_mark head → Apart a_mark (in_braces d first) → Apart a_mark (in_braces d second)
    → Apart a_mark (head ++ in_braces d first ++ space ∷ keyword (codes "else") ∷ space ∷ in_braces d second)
with_blocks head d first second h p q =
    two_apart a_mark (head ++ in_braces d first) (in_braces d second)
    (apart_append a_mark head (in_braces d first) h (braces_soft a_mark d first) p) q

-- what stands behind the first block
else_soft : {m : _} (d : ℕ) (r : Row_of-Block m) → Soft a_mark (row_behind_else d r)
unfolding row_behind_else
else_soft d end_of-Block = record { is = refl }
else_soft d (more_of-Block _ ss _ l rest) = record { is = refl }

blocks_soft : {m : _} (d : ℕ) (r : Row_of-Block m) → Soft a_mark (row_of_blocks d r)
unfolding row_of_blocks
blocks_soft d end_of-Block = record { is = refl }
blocks_soft d (more_of-Block _ ss _ l rest) =
    soft_front a_mark (in_braces d (row_of_stmts (d + step) ss ++ boxed_last (d + step) l)) (row_behind_else d rest) (braces_soft a_word d (row_of_stmts (d + step) ss ++ boxed_last (d + step) l))

arms_soft : {m : _} (d i : ℕ) (r : Row_of-SurfaceArm m) → Soft a_mark (row_of_arms d i r)
unfolding row_of_arms
arms_soft d i end_of-SurfaceArm = record { is = refl }
arms_soft d i (more_of-SurfaceArm p _ ss _ l rest) =
    let inner = in_braces d (row_of_stmts (d + step) ss ++ boxed_last (d + step) l) in
    soft_front a_mark (arm_head d i p ++ inner) (row_of_arms d (suc i) rest) (soft_front a_word (arm_head d i p) inner (arm_soft a_word d i p))

mutual
  unfolding stmt last row_of_stmts row_of_arms row_of_blocks row_behind_else boxed_last

  pub stmt_apart : (d : ℕ) (s : Stmt) → Apart a_mark (stmt d s)
  stmt_apart d (Let n x t y) = let_then (name n ∷ []) (term t) (one_name n) (search operand_rules)
  stmt_apart d (Mul n x a b y) = let_then (name n ∷ []) (keyword (codes "mul") ∷ pair (term a) (term b)) (one_name n) (search operand_rules depth 12)
  stmt_apart d (Div n x t m y z) = let_then (name n ∷ []) (keyword (codes "div") ∷ pair (term t) (number m ∷ [])) (one_name n) (search operand_rules depth 12)
  stmt_apart d (Rem n x t m y z) = let_then (name n ∷ []) (keyword (codes "rem") ∷ pair (term t) (number m ∷ [])) (one_name n) (search operand_rules depth 12)
  stmt_apart d (Call p f x vs q y) = let_then (pat p) (call f vs q) (search operand_rules) (call_apart f vs q)
  stmt_apart d (Fork n x r f y vs q z) = fork_then n r (call f vs q) (call_apart f vs q)
  stmt_apart d (ForkDo' n x r f y b p xs q i ss j l z) =
      with_block (let_fork n r ++ keyword (codes "do") ∷ space ∷ task_head f b p xs q) d (row_of_stmts (d + step) ss) (boxed_last (d + step) l)
      (fork_then n r (keyword (codes "do") ∷ space ∷ task_head f b p xs q) (search (apart_rules, task_apart) depth 12))
      (row_apart (d + step) ss) (boxed_last_soft (d + step) l) (boxed_last_apart (d + step) l)
  stmt_apart d (Send1 c x p y v q z) = search block_rules depth 12
  stmt_apart d (Recv1 a c x p y q z) = let_then (pat a) (keyword (codes "recv1") ∷ space ∷ access c p q) (search operand_rules) (search block_rules depth 12)
  stmt_apart d (Send n x c y r p z v q w) =
      apart_append a_mark (let_is (name n ∷ []) ++ keyword (codes "send") ∷ space ∷ target c r p) (sent v q)
      (let_then (name n ∷ []) (keyword (codes "send") ∷ space ∷ target c r p) (one_name n) (search block_rules depth 12))
      (sent_soft a_mark v q) (sent_apart v q)
  stmt_apart d (Recv a b ns ss c x p y q z) =
      let_then (two_pats a b ++ names_behind ns) (keyword (codes "recv") ∷ space ∷ access c p q) (search operand_rules depth 12) (search block_rules depth 12)
  stmt_apart d (Close c x p y q z) = search block_rules depth 12
  stmt_apart d (Wait c x p y q z) = search block_rules depth 12
  stmt_apart d (Choose i n x c y r p z q w) =
      apart_append a_mark (let_is (name n ∷ []) ++ chosen i ++ space ∷ target c r p) (proof q)
      (apart_append a_mark (let_is (name n ∷ []) ++ chosen i) (space ∷ target c r p) (let_then (name n ∷ []) (chosen i) (one_name n) (chosen_apart i)) (soft_gap a_mark (target c r p)) (search block_rules depth 12))
      (search operand_rules) (search operand_rules)
  stmt_apart d (Split a b n x y) = let_then (two_pats a b) (name n ∷ []) (search operand_rules) (one_name n)
  stmt_apart d (Print t x) = search operand_rules depth 12

  pub last_apart : (d : ℕ) (l : Last) → Apart a_mark (last d l)
  last_apart d (Ret v q x) = search block_rules depth 12
  last_apart d (Tail f x vs q y) = call_apart f vs q
  last_apart d (If' a b i ss j l i' ss' j' l' x) =
      with_blocks (condition a b) d (row_of_stmts (d + step) ss ++ boxed_last (d + step) l) (row_of_stmts (d + step) ss' ++ boxed_last (d + step) l') (condition_apart a_mark a b)
      (inner_apart d a_mark (row_of_stmts (d + step) ss) (boxed_last (d + step) l) (row_apart (d + step) ss) (boxed_last_soft (d + step) l) (boxed_last_apart (d + step) l))
      (inner_apart d a_mark (row_of_stmts (d + step) ss') (boxed_last (d + step) l') (row_apart (d + step) ss') (boxed_last_soft (d + step) l') (boxed_last_apart (d + step) l'))
  last_apart d (Match' n x m arms y) =
      apart_append a_mark (match_head n ++ row_of_arms (d + step) 0 arms) (closing d)
      (apart_append a_mark (match_head n) (row_of_arms (d + step) 0 arms) (match_apart a_mark n) (arms_soft (d + step) 0 arms) (arms_apart (d + step) 0 arms))
      (closing_soft a_mark d) (closing_apart a_mark d)
  last_apart d (Branch' c x p y q b z r w m blocks u) =
      apart_append a_mark (branch_head c p q b r) (row_of_blocks d blocks) (branch_apart a_mark c p q b r) (blocks_soft d blocks) (blocks_apart d blocks)
  last_apart d (Absurd q x) = search operand_rules depth 12
  last_apart d (Loop' n x b xs r q i ss j l y) =
      with_block (keyword (codes "loop") ∷ space ∷ loop_head n b xs r q) d (row_of_stmts (d + step) ss) (boxed_last (d + step) l)
      (search (apart_rules, loop_apart) depth 12)
      (row_apart (d + step) ss) (boxed_last_soft (d + step) l) (boxed_last_apart (d + step) l)
  last_apart d (Again vs q x) = search operand_rules depth 12

  row_apart : {m : _} (d : ℕ) (r : Row_of-Stmt m) → Apart a_mark (row_of_stmts d r)
  row_apart d end_of-Stmt = record { is = refl }
  row_apart d (more_of-Stmt x rest) =
      let first = on_line d (stmt d x) (stmt_apart d x) in let more = row_apart d rest in search (apart_rules) depth 12

  arms_apart : {m : _} (d i : ℕ) (r : Row_of-SurfaceArm m) → Apart a_mark (row_of_arms d i r)
  arms_apart d i end_of-SurfaceArm = record { is = refl }
  arms_apart d i (more_of-SurfaceArm p _ ss _ l rest) =
      apart_append a_mark (arm_head d i p ++ in_braces d (row_of_stmts (d + step) ss ++ boxed_last (d + step) l)) (row_of_arms d (suc i) rest)
      (with_block (arm_head d i p) d (row_of_stmts (d + step) ss) (boxed_last (d + step) l) (arm_apart a_mark d i p) (row_apart (d + step) ss) (boxed_last_soft (d + step) l) (boxed_last_apart (d + step) l))
      (arms_soft d (suc i) rest) (arms_apart d (suc i) rest)

  blocks_apart : {m : _} (d : ℕ) (r : Row_of-Block m) → Apart a_mark (row_of_blocks d r)
  blocks_apart d end_of-Block = record { is = refl }
  blocks_apart d (more_of-Block _ ss _ l rest) =
      apart_append a_mark (in_braces d (row_of_stmts (d + step) ss ++ boxed_last (d + step) l)) (row_behind_else d rest)
      (inner_apart d a_mark (row_of_stmts (d + step) ss) (boxed_last (d + step) l) (row_apart (d + step) ss) (boxed_last_soft (d + step) l) (boxed_last_apart (d + step) l))
      (else_soft d rest) (else_apart d rest)

  else_apart : {m : _} (d : ℕ) (r : Row_of-Block m) → Apart a_mark (row_behind_else d r)
  else_apart d end_of-Block = record { is = refl }
  else_apart d (more_of-Block _ ss _ l rest) =
      apart_append a_mark (space ∷ keyword (codes "else") ∷ space ∷ in_braces d (row_of_stmts (d + step) ss ++ boxed_last (d + step) l)) (row_behind_else d rest)
      (else_then (in_braces d (row_of_stmts (d + step) ss ++ boxed_last (d + step) l)) (inner_apart d a_mark (row_of_stmts (d + step) ss) (boxed_last (d + step) l) (row_apart (d + step) ss) (boxed_last_soft (d + step) l) (boxed_last_apart (d + step) l)))
      (else_soft d rest) (else_apart d rest)

  boxed_last_apart : {m : _} (d : ℕ) (r : Row_of-Last m) → Apart a_mark (boxed_last d r)
  boxed_last_apart d end_of-Last = record { is = refl }
  boxed_last_apart d (more_of-Last x rest) = on_line d (last d x) (last_apart d x)

  boxed_last_soft : {m : _} (d : ℕ) (r : Row_of-Last m) → Soft a_mark (boxed_last d r)
  boxed_last_soft d end_of-Last = record { is = refl }
  boxed_last_soft d (more_of-Last x rest) = line_first d (last d x)

stmts_apart : (d : ℕ) (ss : List Stmt) → Apart a_mark (stmts d ss)
unfolding stmts
stmts_apart d [] = record { is = refl }
stmts_apart d (x ∷ xs) = let first = on_line d (stmt d x) (stmt_apart d x) in let more = stmts_apart d xs in search (apart_rules) depth 12

pub block_apart : (k : Next) (d : ℕ) (b : Block) → Apart k (block d b)
unfolding block
block_apart k d b =
    inner_apart d k (stmts (d + step) b.stmts) (line (d + step) ++ last (d + step) b.last) (stmts_apart (d + step) b.stmts)
    (line_first (d + step) (last (d + step) b.last)) (on_line (d + step) (last (d + step) b.last) (last_apart (d + step) b.last))

pub block_soft : (k : Next) (d : ℕ) (b : Block) → Soft k (block d b)
unfolding block
block_soft k d b = braces_soft k d (stmts (d + step) b.stmts ++ (line (d + step) ++ last (d + step) b.last))

pub ruleset statement_rules = (operand_rules, header_apart, result_soft, result_apart, condition_apart, block_apart, block_soft)
