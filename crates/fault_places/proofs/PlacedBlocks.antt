-- The spans in blocks and declarations stand where their tokens do.
use Rattle.std.proofs.Common.{ℕ, zero, suc, List, [], ◌∷◌}
use denote.Hole.Carrier.{hidden}
use Rattle.core_language.specs.Names.{Ident}
use Rattle.chan_base.specs.declared.spans.Span.{Span}
use Rattle.chan_syntax.specs.declared.linear.Term.{Term}
use Rattle.chan_syntax.specs.declared.linear.Bound.{Bound}
use Rattle.chan_syntax.specs.declared.resources.Res.{Res}
use Rattle.chan_syntax.specs.declared.operands.Proof.{Proof}
use Rattle.chan_syntax.specs.declared.surface_tree.Start.{Start}
use Rattle.chan_syntax.specs.declared.surface_tree.Last.TheVariants as l
use mathlib.Core.Former.{this, list_count, list_put}
use mathlib.Core.List.{map as shape_map}
use Rattle.chan_syntax.specs.declared.surface_tree.Last.TheBlock.{hidden-the_row-Stmt-0, hidden-the_row-Last-1, hidden-the_row-SurfaceArm-2, hidden-the_row-Block-3, back-the_row-SurfaceArm, back-the_row-Block}
use Rattle.chan_syntax.specs.declared.surface_tree.SurfaceArm.{SurfaceArm}
use Rattle.chan_syntax.specs.declared.surface_tree.Block.{Block}
use Rattle.surface_grammar.specs.declared.words.Word.TheVariants as w
use Rattle.surface_grammar.specs.declared.parts.Named.{Named}
use Rattle.surface_grammar.specs.declared.parts.Access.{Access}
use Rattle.surface_grammar.specs.Grammar.{more_arms_than_two, the_number, name}
use Rattle.surface_grammar.specs.Statements.{send1_stmt, close_stmt, wait_stmt, print_stmt, stmt, ret_last, call, tail_last, at_most, two_blocks, if_last, hash_pat, left_pat, right_pat, tagged_pat, arm, arms_from, more_arms, arms, match_last, as_names, next_block, more_blocks, blocks, branch_last, absurd_last, loop_params, loop_last, again_last, other_last, last, stmts, block}
use Rattle.surface_grammar.specs.Declarations.{then_ref, two_refs, branch, equation, next_ref, more_refs, alternatives, choice, pbody, names_to_paren, proto_params, proto, params, func_params, func, decl, decls, program}
use Rattle.fault_places.specs.Spans.{Every, InTerm, InBound, InRef, InRes, InParam, InNext, InEquation, InPat, InProof}
use Rattle.fault_places.specs.SurfaceTrees.{InStart, InStmt, InLast, InArms, InBlocks, InBlock, InArm, InBody, InSurfaceProto, InSurfaceFunc, InDecl, InSurface}
use Rattle.fault_places.proofs.Placed.{Placed, Begun, begun_left, word_begun, placed_pure, placed_one, placed_seq, placed_either, placed_spanned, placed_nest, EveryOf, NoSpan, Both, word_placed, placed_map, placed_behind, placed_before, placed_two, placed_many, placed_up_to, placed_listed, placed_closed}
use Rattle.fault_places.proofs.PlacedTerms.{InName, InNames, name_placed, name_begun, names_placed, term_placed, bound_placed, reference_placed, res_placed, param_placed}
use Rattle.fault_places.proofs.PlacedOperands.{value_placed, given_values_placed, pat_placed, route_placed, proof_placed}
use Rattle.fault_places.proofs.PlacedLets.{InAccess, access_placed, call_placed, starts_placed, one_block_placed, in_rows, let_placed}

-- ---- the other statements

send1_placed : Placed send1_stmt InStmt
unfolding send1_stmt
send1_placed =
    placed_spanned (placed_behind w.Send1 (placed_two name_placed (placed_two route_placed (placed_two value_placed proof_placed)))) (begun_left (word_begun w.Send1))
    (λ P ts x p span. (p.0, p.1.0, p.1.1.0, p.1.1.1, span))

close_placed : Placed close_stmt InStmt
unfolding close_stmt
close_placed = placed_spanned (placed_behind w.Close access_placed) (begun_left (word_begun w.Close)) (λ P ts a p span. (p.0, p.1, p.2, span))

wait_placed : Placed wait_stmt InStmt
unfolding wait_stmt
wait_placed = placed_spanned (placed_behind w.Wait access_placed) (begun_left (word_begun w.Wait)) (λ P ts a p span. (p.0, p.1, p.2, span))

print_placed : Placed print_stmt InStmt
unfolding print_stmt
print_placed = placed_spanned (placed_behind w.Print term_placed) (begun_left (word_begun w.Print)) (λ P ts x p span. (p, span))

stmt_placed : Placed stmt InStmt
unfolding stmt
stmt_placed = placed_either let_placed (placed_either send1_placed (placed_either close_placed (placed_either wait_placed print_placed)))

-- ---- how blocks end

ret_placed : Placed ret_last InLast
unfolding ret_last
ret_placed = placed_spanned (placed_behind w.Ret (placed_two value_placed proof_placed)) (begun_left (word_begun w.Ret)) (λ P ts x p span. (p.0, p.1, span))

call_begun : Begun call
unfolding call
call_begun = begun_left name_begun

tail_placed : Placed tail_last InLast
unfolding tail_last
tail_placed = placed_spanned call_placed call_begun (λ P ts c p span. (p.0, p.1, p.2, span))

at_most_placed : Placed at_most (Both InTerm InTerm)
unfolding at_most
at_most_placed = placed_two term_placed (placed_behind w.AtMost term_placed)

two_blocks_placed : Placed two_blocks (Both InBlock InBlock)
unfolding two_blocks
two_blocks_placed = placed_two one_block_placed (placed_behind w.Else one_block_placed)

pub in_if : (P : Span → Type 0) (a b : Term) (x y : Block) (span : Span) → InTerm P a → InTerm P b → InBlock P x → InBlock P y → P span → InLast P (l.If a b x y span)
unfolding hidden hidden-the_row-Stmt-0 hidden-the_row-Last-1
in_if P a b x y span p q this other at = (p, q, (in_rows P x.stmts this.0, this.1), (in_rows P y.stmts other.0, other.1), at)

if_placed : Placed if_last InLast
unfolding if_last
if_placed =
    placed_spanned (placed_behind w.If (placed_two at_most_placed two_blocks_placed)) (begun_left (word_begun w.If))
    (λ P ts x p span. in_if P x.0.0 x.0.1 x.1.0 x.1.1 _ p.0.0 p.0.1 p.1.0 p.1.1 span)

arm_rows : (P : Span → Type 0) (xs : List SurfaceArm) → Every (InArm P) xs → InArms P (back-the_row-SurfaceArm (list_count (this {0}) (shape_map ((this {0}).shape SurfaceArm) xs) 0) (list_put (this {0}) SurfaceArm xs 0 (tt {0})))
unfolding hidden hidden-the_row-Stmt-0 hidden-the_row-Last-1
arm_rows P [] p = tt
arm_rows P (x ∷ xs) p = ((p.0.0, (in_rows P x.block.stmts p.0.1.0, p.0.1.1)), arm_rows P xs p.1)

pub in_match : (P : Span → Type 0) (n : Ident) (nt : Span) (xs : List SurfaceArm) (span : Span) → P nt → Every (InArm P) xs → P span → InLast P (l.Match n nt xs span)
unfolding hidden hidden-the_row-SurfaceArm-2
in_match P n nt xs span name arms at = (name, arm_rows P xs arms, at)

the_number_placed : (i : ℕ) → Placed (the_number i) NoSpan
unfolding the_number
the_number_placed i = placed_one (λ P t p. tt)

hash_placed : (i : ℕ) → Placed (hash_pat i) InPat
unfolding hash_pat
hash_placed i = placed_nest (placed_seq (the_number_placed i) pat_placed (λ P x y p q. q))

tagged_placed : (i : ℕ) → Placed (tagged_pat i) InPat
unfolding left_pat right_pat
tagged_placed zero = placed_either (placed_nest pat_placed) (hash_placed 0)
tagged_placed (suc zero) = placed_either (placed_nest pat_placed) (hash_placed 1)
tagged_placed (suc (suc i)) = hash_placed (suc (suc i))

arm_placed : (i : ℕ) → Placed (arm i) InArm
unfolding arm
arm_placed i = placed_seq (tagged_placed i) one_block_placed (λ P q b x y. (x, y))

arms_from_placed : (n i : ℕ) → Placed (arms_from n i) (EveryOf InArm)
arms_from_placed zero i = placed_pure (λ P. tt)
arms_from_placed (suc n) i = placed_either (placed_seq (arm_placed i) (arms_from_placed n (suc i)) (λ P x xs p q. (p, q))) (placed_pure (λ P. tt))

more_arms_placed : Placed more_arms (EveryOf InArm)
unfolding more_arms
more_arms_placed = arms_from_placed more_arms_than_two 2

arms_placed : Placed arms (EveryOf InArm)
unfolding arms
arms_placed =
    placed_nest (placed_seq (arm_placed 0) (placed_seq (arm_placed 1) (placed_before w.RightBrace more_arms_placed) (λ P x xs p q. (p, q))) (λ P x xs p q. (p, q)))

match_placed : Placed match_last InLast
unfolding match_last
match_placed =
    placed_spanned (placed_behind w.Match (placed_two name_placed arms_placed)) (begun_left (word_begun w.Match))
    (λ P ts x p span. in_match P x.0.name x.0.span x.1 _ p.0 p.1 span)

as_names_placed : Placed as_names (Both InName InName)
unfolding as_names
as_names_placed = placed_behind w.As (placed_two name_placed (placed_behind w.Comma name_placed))

block_rows : (P : Span → Type 0) (xs : List Block) → Every (InBlock P) xs → InBlocks P (back-the_row-Block (list_count (this {0}) (shape_map ((this {0}).shape Block) xs) 0) (list_put (this {0}) Block xs 0 (tt {0})))
unfolding hidden hidden-the_row-Stmt-0 hidden-the_row-Last-1
block_rows P [] p = tt
block_rows P (x ∷ xs) p = ((in_rows P x.stmts p.0.0, p.0.1), block_rows P xs p.1)

in_branch : (P : Span → Type 0) (a : Access) (b z : Named) (xs : List Block) (span : Span) → InAccess P a → P b.span → P z.span → Every (InBlock P) xs → P span
    → InLast P (l.Branch a.channel.name a.channel.span a.route.path a.route.span a.proof b.name b.span z.name z.span xs span)
unfolding hidden hidden-the_row-Block-3
in_branch P a b z xs span p first second blocks at = (p.0, p.1, p.2, first, second, block_rows P xs blocks, at)

next_block_placed : Placed next_block InBlock
unfolding next_block
next_block_placed = placed_behind w.Else one_block_placed

more_blocks_placed : Placed more_blocks (EveryOf InBlock)
unfolding more_blocks
more_blocks_placed = placed_up_to more_arms_than_two (w.Else ∷ []) next_block_placed

blocks_placed : Placed blocks (EveryOf InBlock)
unfolding blocks
blocks_placed = placed_seq one_block_placed (placed_seq next_block_placed more_blocks_placed (λ P x xs p q. (p, q))) (λ P x xs p q. (p, q))

branch_placed : Placed branch_last InLast
unfolding branch_last
branch_placed =
    placed_spanned (placed_behind w.Branch (placed_two access_placed (placed_two as_names_placed blocks_placed))) (begun_left (word_begun w.Branch))
    (λ P ts x p span. in_branch P x.0 x.1.0.0 x.1.0.1 x.1.1 _ p.0 p.1.0.0 p.1.0.1 p.1.1 span)

absurd_placed : Placed absurd_last InLast
unfolding absurd_last
absurd_placed = placed_spanned (placed_behind w.Absurd proof_placed) (begun_left (word_begun w.Absurd)) (λ P ts q p span. (p, span))

loop_params_placed : Placed loop_params (EveryOf InStart)
unfolding loop_params
loop_params_placed = placed_nest (placed_closed w.RightParen starts_placed)

in_loop : (P : Span → Type 0) (n : Named) (b : Bound) (xs : List Start) (r : Res) (q : Proof) (x : Block) (span : Span)
    → P n.span → InBound P b → Every (InStart P) xs → InRes P r → InProof P q → InBlock P x → P span → InLast P (l.Loop n.name n.span b xs r q x span)
unfolding hidden hidden-the_row-Stmt-0 hidden-the_row-Last-1
in_loop P n b xs r q x span name bound starts result proof this at = (name, bound, starts, result, proof, (in_rows P x.stmts this.0, this.1), at)

loop_placed : Placed loop_last InLast
unfolding loop_last
loop_placed =
    placed_spanned
    (placed_behind w.Loop (placed_two name_placed (placed_two bound_placed (placed_two loop_params_placed (placed_two (placed_behind w.Arrow res_placed) (placed_two proof_placed one_block_placed))))))
    (begun_left (word_begun w.Loop))
    (λ P ts x p span. in_loop P x.0 x.1.0 x.1.1.0 x.1.1.1.0 x.1.1.1.1.0 x.1.1.1.1.1 _ p.0 p.1.0 p.1.1.0 p.1.1.1.0 p.1.1.1.1.0 p.1.1.1.1.1 span)

again_placed : Placed again_last InLast
unfolding again_last
again_placed = placed_spanned (placed_behind w.Again (placed_two given_values_placed proof_placed)) (begun_left (word_begun w.Again)) (λ P ts x p span. (p.0, p.1, span))

other_placed : Placed other_last InLast
unfolding other_last
other_placed = placed_either match_placed (placed_either branch_placed (placed_either absurd_placed (placed_either loop_placed again_placed)))

last_placed : Placed last InLast
unfolding last
last_placed = placed_either ret_placed (placed_either tail_placed (placed_either if_placed other_placed))

-- ---- blocks

stmts_placed : Placed stmts (EveryOf InStmt)
unfolding stmts
stmts_placed = placed_many (placed_before w.Semicolon stmt_placed)

pub block_placed : Placed block InBlock
unfolding block
block_placed = placed_nest (placed_seq stmts_placed (placed_before w.RightBrace last_placed) (λ P ss x p q. (p, q)))

-- ---- protocols

then_placed : Placed then_ref InNext
unfolding then_ref
then_placed = placed_either (placed_behind w.Then (placed_map reference_placed (λ P r p. p))) (placed_pure (λ P. tt))

two_refs_placed : Placed two_refs (Both InRef InRef)
unfolding two_refs
two_refs_placed = placed_behind w.Then (placed_two reference_placed (placed_behind w.Else reference_placed))

branch_equation_placed : Placed branch InEquation
unfolding branch
branch_equation_placed = placed_seq at_most_placed two_refs_placed (λ P c r p q. (p.0, p.1, q.0, q.1))

equation_placed : Placed equation InEquation
unfolding equation
equation_placed =
    placed_either (placed_behind w.Send (placed_seq res_placed then_placed (λ P r next p q. (p, q))))
    (placed_either (placed_behind w.Recv (placed_seq res_placed then_placed (λ P r next p q. (p, q))))
    (placed_either (placed_map (word_placed w.Close) (λ P x p. tt)) (placed_either (placed_map (word_placed w.Wait) (λ P x p. tt)) (placed_behind w.If branch_equation_placed))))

next_ref_placed : Placed next_ref InRef
unfolding next_ref
next_ref_placed = placed_behind w.Bar reference_placed

more_refs_placed : Placed more_refs (EveryOf InRef)
unfolding more_refs
more_refs_placed = placed_up_to more_arms_than_two (w.Bar ∷ []) next_ref_placed

alternatives_placed : Placed alternatives (EveryOf InRef)
unfolding alternatives
alternatives_placed = placed_seq reference_placed (placed_seq next_ref_placed more_refs_placed (λ P x xs p q. (p, q))) (λ P x xs p q. (p, q))

choice_placed : Placed choice (Both InName (EveryOf InRef))
unfolding choice
choice_placed = placed_two name_placed (placed_behind w.Of alternatives_placed)

body_placed : Placed pbody InBody
unfolding pbody
body_placed =
    placed_either (placed_behind w.Choice (placed_map choice_placed (λ P x p. (p.0, p.1))))
    (placed_either (placed_behind w.Offer (placed_map choice_placed (λ P x p. (p.0, p.1)))) (placed_map equation_placed (λ P e p. p)))

names_to_paren_placed : Placed names_to_paren InNames
unfolding names_to_paren
names_to_paren_placed = placed_either (placed_map (word_placed w.RightParen) (λ P x p. tt)) (placed_before w.RightParen names_placed)

proto_params_placed : Placed proto_params InNames
unfolding proto_params
proto_params_placed = placed_nest names_to_paren_placed

proto_placed : Placed proto InSurfaceProto
unfolding proto
proto_placed =
    placed_spanned (placed_behind w.Proto (placed_two name_placed (placed_two proto_params_placed (placed_behind w.Equals (placed_before w.Semicolon body_placed))))) (begun_left (word_begun w.Proto))
    (λ P ts x p span. (p.0, p.1.0, p.1.1, span))

-- ---- functions

params_placed : Placed params (EveryOf InParam)
unfolding params
params_placed = placed_listed param_placed

func_params_placed : Placed func_params (EveryOf InParam)
unfolding func_params
func_params_placed = placed_nest (placed_closed w.RightParen params_placed)

func_placed : Placed func InSurfaceFunc
unfolding func
func_placed =
    placed_spanned
    (placed_behind w.Fn (placed_two name_placed (placed_two bound_placed (placed_two func_params_placed (placed_two (placed_behind w.Arrow res_placed) one_block_placed)))))
    (begun_left (word_begun w.Fn)) (λ P ts x p span. (p.0, p.1.0, p.1.1.0, p.1.1.1.0, p.1.1.1.1, span))

-- ---- programs

decl_placed : Placed decl InDecl
unfolding decl
decl_placed = placed_either (placed_map proto_placed (λ P x p. p)) (placed_map func_placed (λ P x p. p))

decls_placed : Placed decls (EveryOf InDecl)
unfolding decls
decls_placed = placed_many decl_placed

pub program_placed : Placed program InSurface
unfolding program
program_placed = placed_map decls_placed (λ P ds p. p)
