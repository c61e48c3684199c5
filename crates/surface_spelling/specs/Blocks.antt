-- The words of statements, of how blocks end, and of blocks.
use Rattle.std.specs.Prelude.{ℕ, suc, ◌+◌, ◌==◌, if◌then◌else◌, codes, List, [], ◌∷◌, ◌++◌}
use Rattle.chan_syntax.specs.declared.linear.Term.{Term}
use Rattle.chan_syntax.specs.declared.linear.Bound.{Bound}
use Rattle.chan_syntax.specs.declared.resources.Res.{Res}
use Rattle.chan_syntax.specs.declared.resources.Ref.{Ref}
use Rattle.chan_syntax.specs.declared.resources.Param.{Param}
use Rattle.chan_syntax.specs.declared.operands.Supply.{Supply}
use Rattle.chan_syntax.specs.declared.operands.Pat.{Pat}
use Rattle.chan_syntax.specs.declared.operands.Letter.{Letter}
use Rattle.chan_syntax.specs.declared.operands.Proof.{Proof}
use Rattle.chan_syntax.specs.declared.surface_tree.Start.{Start}
use Rattle.chan_syntax.specs.declared.surface_tree.Stmt.{Stmt, Let, Mul, Div, Rem, Call, Fork, ForkDo', Send1, Recv1, Send, Recv, Close, Wait, Choose, Split, Print, Row_of-Stmt, end_of-Stmt, more_of-Stmt}
use Rattle.chan_syntax.specs.declared.surface_tree.Last.{Last, Ret, Tail, If', Match', Branch', Absurd, Loop', Again, Row_of-Last, end_of-Last, more_of-Last, Row_of-SurfaceArm, end_of-SurfaceArm, more_of-SurfaceArm, Row_of-Block, end_of-Block, more_of-Block}
use Rattle.chan_syntax.specs.declared.surface_tree.SurfaceArm.{SurfaceArm}
use Rattle.chan_syntax.specs.declared.surface_tree.Block.{Block}
use Rattle.text_tokens.specs.Text.{Piece}
use Rattle.surface_spelling.specs.Layout.{keyword, mark, name, number, space, step, line, behind_commas, listed, in_parens, pair, closing, in_braces}
use Rattle.surface_spelling.specs.Operands.{term, reference, shape, res, binds_behind, param, value, values, names_behind, pat, two_pats, path, proof, tag}

-- "let" what is bound "=", and the space behind it
unfoldable pub let_is : List Piece → List Piece
let_is bound = keyword (codes "let") ∷ space ∷ bound ++ space ∷ mark (codes "=") ∷ space ∷ []

-- NAME "(" [values] ")" proof
unfoldable pub call : List ℕ → List Supply → Proof → List Piece
call func vs q = name func ∷ values vs ++ proof q

-- NAME [path] proof
unfoldable pub access : List ℕ → List Letter → Proof → List Piece
access channel p q = name channel ∷ path p ++ proof q

-- NAME ":" ref [path]
unfoldable pub target : List ℕ → Ref → List Letter → List Piece
target channel r p = name channel ∷ mark (codes ":") ∷ space ∷ reference r ++ path p

-- start = NAME ":" shape "=" value
unfoldable pub start : Start → List Piece
start x = name x.name ∷ mark (codes ":") ∷ space ∷ shape x.shape ++ space ∷ mark (codes "=") ∷ space ∷ value x.value

-- NAME [binds]
unfoldable pub name_and_binds : List ℕ → Bound → List Piece
name_and_binds n b = name n ∷ binds_behind b.names b.limits

-- "->" res, with the space before it
unfoldable pub result_behind : Res → List Piece
result_behind r = space ∷ mark (codes "->") ∷ space ∷ res r

-- NAME [binds] "(" param { "," start } ")" proof, and the space behind it
unfoldable pub task_head : List ℕ → Bound → Param → List Start → Proof → List Piece
task_head func b x xs q = name_and_binds func b ++ in_parens (param x ++ behind_commas start xs) ++ proof q ++ space ∷ []

-- NAME [binds] and what stands between its parentheses
unfoldable pub header : List ℕ → Bound → List Piece → List Piece
header n b inner = name_and_binds n b ++ in_parens inner

-- NAME [binds] "(" [ start { "," start } ] ")" "->" res proof, and the space behind it
unfoldable pub loop_head : List ℕ → Bound → List Start → Res → Proof → List Piece
loop_head n b xs r q = header n b (listed start xs) ++ result_behind r ++ proof q ++ space ∷ []

-- "let" NAME "=" "fork" ref, and the space behind it
unfoldable pub let_fork : List ℕ → Ref → List Piece
let_fork n r = let_is (name n ∷ []) ++ keyword (codes "fork") ∷ space ∷ reference r ++ space ∷ []

-- value proof, with the space before it
unfoldable pub sent : Supply → Proof → List Piece
sent v q = space ∷ value v ++ proof q

-- term "<=" term
unfoldable pub at_most : Term → Term → List Piece
at_most a b = term a ++ space ∷ mark (codes "<=") ∷ space ∷ term b

-- "if" term "<=" term, and the space behind it
unfoldable pub condition : Term → Term → List Piece
condition a b = keyword (codes "if") ∷ space ∷ at_most a b ++ space ∷ []

-- "match" NAME "{"
unfoldable pub match_head : List ℕ → List Piece
match_head n = keyword (codes "match") ∷ space ∷ name n ∷ space ∷ mark (codes "{") ∷ []

-- tag pat on a line of its own at this depth, and the space behind it
unfoldable pub arm_head : ℕ → ℕ → Pat → List Piece
arm_head d i p = line d ++ tag i ++ space ∷ pat p ++ space ∷ []

-- "left" | "right" | "#" NUMBER
unfoldable pub chosen : ℕ → List Piece
chosen i =
    if i == 0 then keyword (codes "left") ∷ [] else if i == 1 then keyword (codes "right") ∷ [] else mark (codes "#") ∷ number i ∷ []

-- "as" NAME "," NAME, between spaces
unfoldable pub as_names : List ℕ → List ℕ → List Piece
as_names b z = space ∷ keyword (codes "as") ∷ space ∷ name b ∷ mark (codes ",") ∷ space ∷ name z ∷ space ∷ []

-- "branch" NAME [path] proof "as" NAME "," NAME, and the space behind it
unfoldable pub branch_head : List ℕ → List Letter → Proof → List ℕ → List ℕ → List Piece
branch_head c p q b z = keyword (codes "branch") ∷ space ∷ access c p q ++ as_names b z

-- The depth is that of the line on which these words begin.
unfoldable mutual
  pub stmt : ℕ → Stmt → List Piece
  stmt d (Let n _ t _) = let_is (name n ∷ []) ++ term t
  stmt d (Mul n _ a b _) = let_is (name n ∷ []) ++ keyword (codes "mul") ∷ pair (term a) (term b)
  stmt d (Div n _ t k _ _) = let_is (name n ∷ []) ++ keyword (codes "div") ∷ pair (term t) (number k ∷ [])
  stmt d (Rem n _ t k _ _) = let_is (name n ∷ []) ++ keyword (codes "rem") ∷ pair (term t) (number k ∷ [])
  stmt d (Call p f _ vs q _) = let_is (pat p) ++ call f vs q
  stmt d (Fork n _ r f _ vs q _) = let_fork n r ++ call f vs q
  stmt d (ForkDo' n _ r f _ b x xs q _ ss _ l _) =
      let_fork n r ++ keyword (codes "do") ∷ space ∷ task_head f b x xs q ++ in_braces d (row_of_stmts (d + step) ss ++ boxed_last (d + step) l)
  stmt d (Send1 c _ p _ v q _) = keyword (codes "send1") ∷ space ∷ name c ∷ path p ++ sent v q
  stmt d (Recv1 x c _ p _ q _) = let_is (pat x) ++ keyword (codes "recv1") ∷ space ∷ access c p q
  stmt d (Send n _ c _ r p _ v q _) = let_is (name n ∷ []) ++ keyword (codes "send") ∷ space ∷ target c r p ++ sent v q
  stmt d (Recv x y ns _ c _ p _ q _) = let_is (two_pats x y ++ names_behind ns) ++ keyword (codes "recv") ∷ space ∷ access c p q
  stmt d (Close c _ p _ q _) = keyword (codes "close") ∷ space ∷ access c p q
  stmt d (Wait c _ p _ q _) = keyword (codes "wait") ∷ space ∷ access c p q
  stmt d (Choose i n _ c _ r p _ q _) = let_is (name n ∷ []) ++ chosen i ++ space ∷ target c r p ++ proof q
  stmt d (Split x y n _ _) = let_is (two_pats x y) ++ name n ∷ []
  stmt d (Print t _) = keyword (codes "print") ∷ space ∷ term t

  pub last : ℕ → Last → List Piece
  last d (Ret v q _) = keyword (codes "ret") ∷ sent v q
  last d (Tail f _ vs q _) = call f vs q
  last d (If' a b _ ss _ l _ ss' _ l' _) =
      condition a b ++ in_braces d (row_of_stmts (d + step) ss ++ boxed_last (d + step) l) ++ space ∷ keyword (codes "else") ∷ space ∷ in_braces d (row_of_stmts (d + step) ss' ++ boxed_last (d + step) l')
  last d (Match' n _ _ arms _) = match_head n ++ row_of_arms (d + step) 0 arms ++ closing d
  last d (Branch' c _ p _ q b _ z _ _ blocks _) = branch_head c p q b z ++ row_of_blocks d blocks
  last d (Absurd q _) = keyword (codes "absurd") ∷ proof q
  last d (Loop' n _ b xs r q _ ss _ l _) =
      keyword (codes "loop") ∷ space ∷ loop_head n b xs r q ++ in_braces d (row_of_stmts (d + step) ss ++ boxed_last (d + step) l)
  last d (Again vs q _) = keyword (codes "again") ∷ values vs ++ proof q

  -- { stmt ";" }, each on a line of its own at this depth
  pub row_of_stmts : {m : _} → ℕ → Row_of-Stmt m → List Piece
  row_of_stmts d end_of-Stmt = []
  row_of_stmts d (more_of-Stmt x rest) = line d ++ stmt d x ++ mark (codes ";") ∷ row_of_stmts d rest

  -- { tag pat block } from an arm on, each on lines of its own at this depth
  pub row_of_arms : {m : _} → ℕ → ℕ → Row_of-SurfaceArm m → List Piece
  row_of_arms d i end_of-SurfaceArm = []
  row_of_arms d i (more_of-SurfaceArm p _ ss _ l rest) =
      (arm_head d i p ++ in_braces d (row_of_stmts (d + step) ss ++ boxed_last (d + step) l)) ++ row_of_arms d (suc i) rest

  -- block { "else" block }
  pub row_of_blocks : {m : _} → ℕ → Row_of-Block m → List Piece
  row_of_blocks d end_of-Block = []
  row_of_blocks d (more_of-Block _ ss _ l rest) = in_braces d (row_of_stmts (d + step) ss ++ boxed_last (d + step) l) ++ row_behind_else d rest

  -- { "else" block }
  pub row_behind_else : {m : _} → ℕ → Row_of-Block m → List Piece
  row_behind_else d end_of-Block = []
  row_behind_else d (more_of-Block _ ss _ l rest) =
      (space ∷ keyword (codes "else") ∷ space ∷ in_braces d (row_of_stmts (d + step) ss ++ boxed_last (d + step) l)) ++ row_behind_else d rest

  -- what a box holds, on a line of its own at this depth
  pub boxed_last : {m : _} → ℕ → Row_of-Last m → List Piece
  boxed_last d end_of-Last = []
  boxed_last d (more_of-Last x rest) = line d ++ last d x

-- { stmt ";" }, each on a line of its own at this depth
unfoldable pub stmts : ℕ → List Stmt → List Piece
stmts d [] = []
stmts d (x ∷ xs) = line d ++ stmt d x ++ mark (codes ";") ∷ stmts d xs

-- block = "{" { stmt ";" } last "}"
unfoldable pub block : ℕ → Block → List Piece
block d b = in_braces d (stmts (d + step) b.stmts ++ (line (d + step) ++ last (d + step) b.last))

-- { tag pat block } from an arm on
unfoldable pub arms : ℕ → ℕ → List SurfaceArm → List Piece
arms d i [] = []
arms d i (x ∷ xs) = (arm_head d i x.pat ++ block d x.block) ++ arms d (suc i) xs

-- { "else" block }
unfoldable pub behind_else : ℕ → List Block → List Piece
behind_else d [] = []
behind_else d (b ∷ bs) = (space ∷ keyword (codes "else") ∷ space ∷ block d b) ++ behind_else d bs

-- block { "else" block }
unfoldable pub blocks : ℕ → List Block → List Piece
blocks d [] = []
blocks d (b ∷ bs) = block d b ++ behind_else d bs
