-- The words of statements and of how blocks end, by their variants.
use Rattle.std.proofs.Common.{◌≡◌, ℕ, suc, ◌+◌, codes, List, [], ◌∷◌, ◌++◌, Option, refl, ap}
use denote.Hole.Carrier.{hidden}
use mathlib.Core.Former.{this, list_count, list_put}
use mathlib.Core.List.{map}
use Rattle.chan_base.specs.declared.spans.Span.{Span}
use Rattle.chan_syntax.specs.declared.linear.Term.{Term}
use Rattle.chan_syntax.specs.declared.linear.Bound.{Bound}
use Rattle.chan_syntax.specs.declared.resources.Ref.{Ref}
use Rattle.chan_syntax.specs.declared.resources.Res.{Res}
use Rattle.chan_syntax.specs.declared.resources.Param.{Param}
use Rattle.chan_syntax.specs.declared.operands.Supply.{Supply}
use Rattle.chan_syntax.specs.declared.operands.Pat.{Pat}
use Rattle.chan_syntax.specs.declared.operands.Letter.{Letter}
use Rattle.chan_syntax.specs.declared.operands.Proof.{Proof}
use Rattle.chan_syntax.specs.declared.surface_tree.Start.{Start}
use Rattle.chan_syntax.specs.declared.surface_tree.Stmt.{Stmt}
use Rattle.chan_syntax.specs.declared.surface_tree.Stmt.TheVariants as s
use Rattle.chan_syntax.specs.declared.surface_tree.Last.TheVariants as l
use Rattle.chan_syntax.specs.declared.surface_tree.Last.TheBlock.{hidden-the_row-Stmt-0, hidden-the_row-Last-1, hidden-the_row-SurfaceArm-2, hidden-the_row-Block-3, back-the_row-Stmt, back-the_row-SurfaceArm, back-the_row-Block}
use Rattle.chan_syntax.specs.declared.surface_tree.SurfaceArm.{SurfaceArm}
use Rattle.chan_syntax.specs.declared.surface_tree.Block.{Block}
use Rattle.surface_spelling.specs.Layout.{keyword, mark, name, number, space, step, line, closing, in_braces, pair}
use Rattle.surface_spelling.specs.Operands.{term, values, names_behind, pat, two_pats, path, proof}
use Rattle.surface_spelling.specs.Blocks.{let_is, call, access, target, task_head, loop_head, let_fork, sent, condition, match_head, arm_head, branch_head, chosen, stmt, last, row_of_stmts, row_of_arms, row_of_blocks, row_behind_else, boxed_last, stmts, block, arms, behind_else, blocks}

stmts_row : (d : ℕ) (xs : List Stmt) → row_of_stmts d (back-the_row-Stmt (list_count (this {0}) (map ((this {0}).shape Stmt) xs) 0) (list_put (this {0}) Stmt xs 0 (tt {0}))) ≡ stmts d xs
unfolding row_of_stmts stmts
stmts_row d [] = refl
stmts_row d (x ∷ xs) = ap (λ v. line d ++ stmt d x ++ mark (codes ";") ∷ v) (stmts_row d xs)

pub block_is : (d : ℕ) (b : Block) → block d b ≡ in_braces d (stmts (d + step) b.stmts ++ (line (d + step) ++ last (d + step) b.last))
unfolding block
block_is d b = refl

pub stmt_let : (d : ℕ) (n : List ℕ) (at : Span) (t : Term) (bt : Span) → stmt d (s.Let n at t bt) ≡ let_is (name n ∷ []) ++ term t
unfolding stmt
stmt_let d n at t bt = refl

pub stmt_mul : (d : ℕ) (n : List ℕ) (at : Span) (a : Term) (b : Term) (bt : Span) → stmt d (s.Mul n at a b bt) ≡ let_is (name n ∷ []) ++ keyword (codes "mul") ∷ pair (term a) (term b)
unfolding stmt
stmt_mul d n at a b bt = refl

pub stmt_div : (d : ℕ) (n : List ℕ) (at : Span) (t : Term) (k : ℕ) (bt : Span) (ct : Span) → stmt d (s.Div n at t k bt ct) ≡ let_is (name n ∷ []) ++ keyword (codes "div") ∷ pair (term t) (number k ∷ [])
unfolding stmt
stmt_div d n at t k bt ct = refl

pub stmt_rem : (d : ℕ) (n : List ℕ) (at : Span) (t : Term) (k : ℕ) (bt : Span) (ct : Span) → stmt d (s.Rem n at t k bt ct) ≡ let_is (name n ∷ []) ++ keyword (codes "rem") ∷ pair (term t) (number k ∷ [])
unfolding stmt
stmt_rem d n at t k bt ct = refl

pub stmt_call : (d : ℕ) (p : Pat) (f : List ℕ) (at : Span) (vs : List Supply) (q : Proof) (bt : Span) → stmt d (s.Call p f at vs q bt) ≡ let_is (pat p) ++ call f vs q
unfolding stmt
stmt_call d p f at vs q bt = refl

pub stmt_fork : (d : ℕ) (n : List ℕ) (at : Span) (r : Ref) (f : List ℕ) (bt : Span) (vs : List Supply) (q : Proof) (ct : Span) → stmt d (s.Fork n at r f bt vs q ct) ≡ let_fork n r ++ call f vs q
unfolding stmt
stmt_fork d n at r f bt vs q ct = refl

pub stmt_forkdo : (d : ℕ) (n : List ℕ) (at : Span) (r : Ref) (f : List ℕ) (bt : Span) (b : Bound) (x : Param) (xs : List Start) (q : Proof) (then_block : Block) (ct : Span) → stmt d (s.ForkDo n at r f bt b x xs q then_block ct) ≡ let_fork n r ++ keyword (codes "do") ∷ space ∷ task_head f b x xs q ++ block d then_block
unfolding hidden hidden-the_row-Stmt-0 hidden-the_row-Last-1 stmt last row_of_stmts boxed_last block
stmt_forkdo d n at r f bt b x xs q then_block ct = rw (stmts_row (d + step) then_block.stmts) refl

pub stmt_send1 : (d : ℕ) (c : List ℕ) (at : Span) (p : List Letter) (bt : Option Span) (v : Supply) (q : Proof) (ct : Span) → stmt d (s.Send1 c at p bt v q ct) ≡ keyword (codes "send1") ∷ space ∷ name c ∷ path p ++ sent v q
unfolding stmt
stmt_send1 d c at p bt v q ct = refl

pub stmt_recv1 : (d : ℕ) (x : Pat) (c : List ℕ) (at : Span) (p : List Letter) (bt : Option Span) (q : Proof) (ct : Span) → stmt d (s.Recv1 x c at p bt q ct) ≡ let_is (pat x) ++ keyword (codes "recv1") ∷ space ∷ access c p q
unfolding stmt
stmt_recv1 d x c at p bt q ct = refl

pub stmt_send : (d : ℕ) (n : List ℕ) (at : Span) (c : List ℕ) (bt : Span) (r : Ref) (p : List Letter) (ct : Option Span) (v : Supply) (q : Proof) (dt : Span) → stmt d (s.Send n at c bt r p ct v q dt) ≡ let_is (name n ∷ []) ++ keyword (codes "send") ∷ space ∷ target c r p ++ sent v q
unfolding stmt
stmt_send d n at c bt r p ct v q dt = refl

pub stmt_recv : (d : ℕ) (x : Pat) (y : Pat) (ns : List (List ℕ)) (at : List Span) (c : List ℕ) (bt : Span) (p : List Letter) (ct : Option Span) (q : Proof) (dt : Span) → stmt d (s.Recv x y ns at c bt p ct q dt) ≡ let_is (two_pats x y ++ names_behind ns) ++ keyword (codes "recv") ∷ space ∷ access c p q
unfolding stmt
stmt_recv d x y ns at c bt p ct q dt = refl

pub stmt_close : (d : ℕ) (c : List ℕ) (at : Span) (p : List Letter) (bt : Option Span) (q : Proof) (ct : Span) → stmt d (s.Close c at p bt q ct) ≡ keyword (codes "close") ∷ space ∷ access c p q
unfolding stmt
stmt_close d c at p bt q ct = refl

pub stmt_wait : (d : ℕ) (c : List ℕ) (at : Span) (p : List Letter) (bt : Option Span) (q : Proof) (ct : Span) → stmt d (s.Wait c at p bt q ct) ≡ keyword (codes "wait") ∷ space ∷ access c p q
unfolding stmt
stmt_wait d c at p bt q ct = refl

pub stmt_choose : (d : ℕ) (i : ℕ) (n : List ℕ) (at : Span) (c : List ℕ) (bt : Span) (r : Ref) (p : List Letter) (ct : Option Span) (q : Proof) (dt : Span) → stmt d (s.Choose i n at c bt r p ct q dt) ≡ let_is (name n ∷ []) ++ chosen i ++ space ∷ target c r p ++ proof q
unfolding stmt
stmt_choose d i n at c bt r p ct q dt = refl

pub stmt_split : (d : ℕ) (x : Pat) (y : Pat) (n : List ℕ) (at : Span) (bt : Span) → stmt d (s.Split x y n at bt) ≡ let_is (two_pats x y) ++ name n ∷ []
unfolding stmt
stmt_split d x y n at bt = refl

pub stmt_print : (d : ℕ) (t : Term) (at : Span) → stmt d (s.Print t at) ≡ keyword (codes "print") ∷ space ∷ term t
unfolding stmt
stmt_print d t at = refl

pub last_ret : (d : ℕ) (v : Supply) (q : Proof) (at : Span) → last d (l.Ret v q at) ≡ keyword (codes "ret") ∷ sent v q
unfolding last
last_ret d v q at = refl

pub last_tail : (d : ℕ) (f : List ℕ) (at : Span) (vs : List Supply) (q : Proof) (bt : Span) → last d (l.Tail f at vs q bt) ≡ call f vs q
unfolding last
last_tail d f at vs q bt = refl

pub last_if : (d : ℕ) (a : Term) (b : Term) (then_block : Block) (else_block : Block) (at : Span) → last d (l.If a b then_block else_block at) ≡ condition a b ++ block d then_block ++ space ∷ keyword (codes "else") ∷ space ∷ block d else_block
unfolding hidden hidden-the_row-Stmt-0 hidden-the_row-Last-1 stmt last row_of_stmts boxed_last block
last_if d a b then_block else_block at = rw (stmts_row (d + step) then_block.stmts, stmts_row (d + step) else_block.stmts) refl

arms_row : (d i : ℕ) (xs : List SurfaceArm) → row_of_arms d i (back-the_row-SurfaceArm (list_count (this {0}) (map ((this {0}).shape SurfaceArm) xs) 0) (list_put (this {0}) SurfaceArm xs 0 (tt {0}))) ≡ arms d i xs
unfolding hidden hidden-the_row-Stmt-0 hidden-the_row-Last-1 row_of_arms arms block
arms_row d i [] = refl
arms_row d i (x ∷ xs) = rw (stmts_row (d + step) x.block.stmts) (ap (λ ps. (arm_head d i x.pat ++ block d x.block) ++ ps) (arms_row d (suc i) xs))

pub last_match : (d : ℕ) (n : List ℕ) (at : Span) (xs : List SurfaceArm) (bt : Span) → last d (l.Match n at xs bt) ≡ match_head n ++ arms (d + step) 0 xs ++ closing d
unfolding hidden hidden-the_row-SurfaceArm-2 last
last_match d n at xs bt = rw (arms_row (d + step) 0 xs) refl

else_row : (d : ℕ) (bs : List Block) → row_behind_else d (back-the_row-Block (list_count (this {0}) (map ((this {0}).shape Block) bs) 0) (list_put (this {0}) Block bs 0 (tt {0}))) ≡ behind_else d bs
unfolding hidden hidden-the_row-Stmt-0 hidden-the_row-Last-1 row_behind_else behind_else block
else_row d [] = refl
else_row d (b ∷ bs) = rw (stmts_row (d + step) b.stmts) (ap (λ ps. (space ∷ keyword (codes "else") ∷ space ∷ block d b) ++ ps) (else_row d bs))

blocks_row : (d : ℕ) (bs : List Block) → row_of_blocks d (back-the_row-Block (list_count (this {0}) (map ((this {0}).shape Block) bs) 0) (list_put (this {0}) Block bs 0 (tt {0}))) ≡ blocks d bs
unfolding hidden hidden-the_row-Stmt-0 hidden-the_row-Last-1 row_of_blocks blocks block
blocks_row d [] = refl
blocks_row d (b ∷ bs) = rw (stmts_row (d + step) b.stmts) (ap (λ ps. block d b ++ ps) (else_row d bs))

pub last_branch : (d : ℕ) (c : List ℕ) (at : Span) (p : List Letter) (bt : Option Span) (q : Proof) (b : List ℕ) (ct : Span) (z : List ℕ) (dt : Span) (bs : List Block) (et : Span) → last d (l.Branch c at p bt q b ct z dt bs et) ≡ branch_head c p q b z ++ blocks d bs
unfolding hidden hidden-the_row-Block-3 last
last_branch d c at p bt q b ct z dt bs et = rw (blocks_row d bs) refl

pub last_absurd : (d : ℕ) (q : Proof) (at : Span) → last d (l.Absurd q at) ≡ keyword (codes "absurd") ∷ proof q
unfolding last
last_absurd d q at = refl

pub last_loop : (d : ℕ) (n : List ℕ) (at : Span) (b : Bound) (xs : List Start) (r : Res) (q : Proof) (then_block : Block) (bt : Span) → last d (l.Loop n at b xs r q then_block bt) ≡ keyword (codes "loop") ∷ space ∷ loop_head n b xs r q ++ block d then_block
unfolding hidden hidden-the_row-Stmt-0 hidden-the_row-Last-1 stmt last row_of_stmts boxed_last block
last_loop d n at b xs r q then_block bt = rw (stmts_row (d + step) then_block.stmts) refl

pub last_again : (d : ℕ) (vs : List Supply) (q : Proof) (at : Span) → last d (l.Again vs q at) ≡ keyword (codes "again") ∷ values vs ++ proof q
unfolding last
last_again d vs q at = refl

pub ruleset statements = (stmt_let, stmt_mul, stmt_div, stmt_rem, stmt_call, stmt_fork, stmt_forkdo, stmt_send1, stmt_recv1, stmt_send, stmt_recv, stmt_close, stmt_wait, stmt_choose, stmt_split, stmt_print)

pub ruleset lasts = (last_ret, last_tail, last_if, last_match, last_branch, last_absurd, last_loop, last_again)
