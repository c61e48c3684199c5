-- Blocks that a last holds are core where the blocks are.
use Rattle.std.proofs.Common.{◌≡◌, ℕ, Bool, true, false, ◌&&◌, Option, List, [], ◌∷◌, refl, ap}
use denote.Hole.Carrier.{hidden}
use mathlib.Core.Former.{this, list_count, list_put}
use mathlib.Core.List.{map}
use Rattle.std.specs.List.{list_all}
use Rattle.chan_base.specs.declared.spans.Span.{Span}
use Rattle.chan_syntax.specs.declared.linear.Term.{Term}
use Rattle.chan_syntax.specs.declared.linear.Bound.{Bound}
use Rattle.chan_syntax.specs.declared.resources.Res.{Res}
use Rattle.chan_syntax.specs.declared.operands.Letter.{Letter}
use Rattle.chan_syntax.specs.declared.operands.Proof.{Proof}
use Rattle.chan_syntax.specs.declared.operands.Supply.{Supply}
use Rattle.chan_syntax.specs.declared.surface_tree.Start.{Start}
use Rattle.chan_syntax.specs.declared.surface_tree.Stmt.{Stmt}
use Rattle.chan_syntax.specs.declared.surface_tree.Last.TheVariants as l
use Rattle.chan_syntax.specs.declared.surface_tree.Last.TheBlock.{hidden-the_row-Stmt-0, hidden-the_row-Last-1, hidden-the_row-SurfaceArm-2, back-the_row-Stmt, back-the_row-SurfaceArm}
use Rattle.chan_syntax.specs.declared.surface_tree.SurfaceArm.{SurfaceArm}
use Rattle.chan_syntax.specs.declared.surface_tree.Block.{Block}
use Rattle.core_trees.specs.Core.{is_core_stmt, is_core_last, is_core_row, are_core_arms, is_core_boxed, is_core_block, is_core_arm}

row : (xs : List Stmt) → is_core_row (back-the_row-Stmt (list_count (this {0}) (map ((this {0}).shape Stmt) xs) 0) (list_put (this {0}) Stmt xs 0 (tt {0}))) ≡ list_all is_core_stmt xs
unfolding is_core_row
row [] = refl
row (x ∷ xs) = ap (λ v. is_core_stmt x && v) (row xs)

pub core_if : (a b : Term) (this_block other : Block) (at : Span) → is_core_last (l.If a b this_block other at) ≡ (is_core_block this_block && is_core_block other)
unfolding hidden hidden-the_row-Stmt-0 hidden-the_row-Last-1 is_core_last is_core_row is_core_boxed is_core_block
core_if a b this_block other at = rw (row this_block.stmts, row other.stmts) refl

arms_row : (xs : List SurfaceArm) → are_core_arms (back-the_row-SurfaceArm (list_count (this {0}) (map ((this {0}).shape SurfaceArm) xs) 0) (list_put (this {0}) SurfaceArm xs 0 (tt {0}))) ≡ list_all is_core_arm xs
unfolding hidden hidden-the_row-Stmt-0 hidden-the_row-Last-1 is_core_last is_core_row are_core_arms is_core_boxed is_core_block
arms_row [] = refl
arms_row (x ∷ xs) = rw (row x.block.stmts) (ap (λ v. is_core_block x.block && v) (arms_row xs))

pub core_match : (n : List ℕ) (at : Span) (xs : List SurfaceArm) (bt : Span) → is_core_last (l.Match n at xs bt) ≡ list_all is_core_arm xs
unfolding hidden hidden-the_row-SurfaceArm-2 is_core_last
core_match n at xs bt = arms_row xs

pub core_ret : (v : Supply) (q : Proof) (at : Span) → is_core_last (l.Ret v q at) ≡ true
unfolding is_core_last
core_ret v q at = refl

pub core_tail : (f : List ℕ) (at : Span) (vs : List Supply) (q : Proof) (bt : Span) → is_core_last (l.Tail f at vs q bt) ≡ true
unfolding is_core_last
core_tail f at vs q bt = refl

pub core_absurd : (q : Proof) (at : Span) → is_core_last (l.Absurd q at) ≡ true
unfolding is_core_last
core_absurd q at = refl

pub core_branch : (c : List ℕ) (at : Span) (p : List Letter) (bt : Option Span) (q : Proof) (b : List ℕ) (ct : Span) (z : List ℕ) (dt : Span) (bs : List Block) (et : Span) → is_core_last (l.Branch c at p bt q b ct z dt bs et) ≡ false
unfolding is_core_last
core_branch c at p bt q b ct z dt bs et = refl

pub core_loop : (n : List ℕ) (at : Span) (b : Bound) (xs : List Start) (r : Res) (q : Proof) (this_block : Block) (bt : Span) → is_core_last (l.Loop n at b xs r q this_block bt) ≡ false
unfolding is_core_last
core_loop n at b xs r q this_block bt = refl

pub core_again : (vs : List Supply) (q : Proof) (at : Span) → is_core_last (l.Again vs q at) ≡ false
unfolding is_core_last
core_again vs q at = refl

pub ruleset core_rules = (core_ret, core_tail, core_if, core_match, core_branch, core_absurd, core_loop, core_again)

-- ---- what a block is made of

pub this_core : (a b : Bool) → (a && b) ≡ true → a ≡ true
this_core true b is = refl
this_core false b is = cc

pub other_core : (a b : Bool) → (a && b) ≡ true → b ≡ true
other_core true b is = is
other_core false b is = cc

pub core_stmts : (b : Block) → is_core_block b ≡ true → list_all is_core_stmt b.stmts ≡ true
unfolding is_core_block
core_stmts b is = this_core (list_all is_core_stmt b.stmts) (is_core_last b.last) is

pub core_last : (b : Block) → is_core_block b ≡ true → is_core_last b.last ≡ true
unfolding is_core_block
core_last b is = other_core (list_all is_core_stmt b.stmts) (is_core_last b.last) is
