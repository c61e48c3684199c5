-- The spans in statements that bind names stand where their tokens do.
use Rattle.std.proofs.Common.{List, [], ◌∷◌, map}
use denote.Hole.Carrier.{hidden}
use mathlib.Core.Former.{this, list_count, list_put}
use Rattle.chan_base.specs.declared.spans.Span.{Span}
use Rattle.chan_syntax.specs.declared.resources.Ref.{Ref}
use Rattle.chan_syntax.specs.declared.operands.Pat.{Pat}
use Rattle.chan_syntax.specs.declared.surface_tree.Stmt.{Stmt, Row_of-Stmt}
use Rattle.chan_syntax.specs.declared.surface_tree.Stmt.TheVariants as s
use Rattle.chan_syntax.specs.declared.surface_tree.Last.TheBlock.{hidden-the_row-Stmt-0, hidden-the_row-Last-1, back-the_row-Stmt}
use Rattle.grammar_laws.specs.Grammar as g
use Rattle.surface_grammar.specs.declared.words.Word.TheVariants as w
use Rattle.surface_grammar.specs.declared.parts.Named.{Named}
use Rattle.surface_grammar.specs.declared.parts.Names.{Names}
use Rattle.surface_grammar.specs.declared.parts.Access.{Access}
use Rattle.surface_grammar.specs.declared.parts.Target.{Target}
use Rattle.surface_grammar.specs.declared.parts.Called.{Called}
use Rattle.surface_grammar.specs.declared.parts.Task.{Task}
use Rattle.surface_grammar.specs.declared.parts.Forked.{Forked}
use Rattle.surface_grammar.specs.declared.parts.Forked.TheVariants as f
use Rattle.surface_grammar.specs.declared.parts.Tail.{Tail}
use Rattle.surface_grammar.specs.declared.parts.Tail.TheVariants as t
use Rattle.surface_grammar.specs.declared.parts.Given.{Given}
use Rattle.surface_grammar.specs.declared.parts.Given.TheVariants as v
use Rattle.surface_grammar.specs.declared.parts.NamedGiven.{NamedGiven}
use Rattle.surface_grammar.specs.declared.parts.PairGiven.{PairGiven}
use Rattle.surface_grammar.specs.declared.parts.PairGiven.TheVariants as p
use Rattle.surface_grammar.specs.declared.parts.Binding.{Binding}
use Rattle.surface_grammar.specs.declared.parts.Binding.TheVariants as b
use Rattle.surface_grammar.specs.Grammar.{ABlock}
use Rattle.surface_grammar.specs.Statements.{access, target, call, start, more_starts, starts, task_params, task, forked, tail, named_given, given_name, given_term, numbered_choice, given_target, given_end, given, given_to_pattern, behind_name, let_fork, let_given, two_pats, given_to_pair, behind_pats, let_pair, binding, let_of, let_stmt}
use Rattle.fault_places.specs.Spans.{Every, OfAny, InPart, InTerm, InBound, InRef, InParam, InSupply, InPat, InProof}
use Rattle.fault_places.specs.SurfaceTrees.{InStart, InStmt, InRow, InBlock}
use Rattle.fault_places.proofs.Placed.{SpanFact, Placed, begun_left, word_begun, placed_seq, placed_either, placed_call, placed_spanned, placed_nest, EveryOf, Both, placed_map, placed_behind, placed_before, placed_two, placed_commas, placed_listed}
use Rattle.fault_places.proofs.PlacedTerms.{InNames, name_placed, name_begun, more_parts_placed, number_term_placed, two_terms_placed, term_and_number_placed, bound_placed, reference_placed, shape_placed, param_placed}
use Rattle.fault_places.proofs.PlacedOperands.{arm_number_placed, value_placed, given_values_placed, bracketed_placed, pat_placed, route_placed, proof_placed}

-- ---- what several statements have

abbrev pub InAccess : SpanFact Access
InAccess P a = P a.channel.span × OfAny P a.route.span × InProof P a.proof

pub access_placed : Placed access InAccess
unfolding access
access_placed = placed_seq name_placed (placed_two route_placed proof_placed) (λ P n x p q. (p, q.0, q.1))

abbrev InTarget : SpanFact Target
InTarget P a = P a.channel.span × InRef P a.proto × OfAny P a.route.span

target_placed : Placed target InTarget
unfolding target
target_placed = placed_seq name_placed (placed_two (placed_behind w.Colon reference_placed) route_placed) (λ P n x p q. (p, q.0, q.1))

abbrev pub InCalled : SpanFact Called
InCalled P c = P c.func.span × Every (InSupply P) c.values × InProof P c.proof

pub call_placed : Placed call InCalled
unfolding call
call_placed = placed_seq name_placed (placed_two given_values_placed proof_placed) (λ P n x p q. (p, q.0, q.1))

start_placed : Placed start InStart
unfolding start
start_placed = placed_seq name_placed (placed_two (placed_behind w.Colon shape_placed) (placed_behind w.Equals value_placed)) (λ P n x p q. (p, q.0, q.1))

more_starts_placed : Placed more_starts (EveryOf InStart)
unfolding more_starts
more_starts_placed = placed_commas start_placed

pub starts_placed : Placed starts (EveryOf InStart)
unfolding starts
starts_placed = placed_listed start_placed

pub one_block_placed : Placed (g.call ABlock (λ x. x)) InBlock
one_block_placed = placed_call (λ P x p. p)

-- ---- tasks

task_params_placed : Placed task_params (Both InParam (EveryOf InStart))
unfolding task_params
task_params_placed = placed_nest (placed_two param_placed (placed_before w.RightParen more_starts_placed))

abbrev InTask : SpanFact Task
InTask P x = P x.func.span × InBound P x.bound × InParam P x.param × Every (InStart P) x.starts × InProof P x.proof × InBlock P x.block

task_placed : Placed task InTask
unfolding task
task_placed =
    placed_seq name_placed (placed_two bound_placed (placed_two task_params_placed (placed_two proof_placed one_block_placed)))
    (λ P n x p q. (p, q.0, q.1.0.0, q.1.0.1, q.1.1.0, q.1.1.1))

abbrev InForked : SpanFact Forked
InForked P (f.Call c) = InCalled P c
InForked P (f.Block x) = InTask P x

forked_placed : Placed forked InForked
unfolding forked
forked_placed = placed_either (placed_behind w.Do (placed_map task_placed (λ P x p. p))) (placed_map call_placed (λ P c p. p))

-- ---- what a name is given

abbrev InTail : SpanFact Tail
InTail P (t.Values vs q) = Every (InSupply P) vs × InProof P q
InTail P (t.Parts ps) = Every (InPart P) ps

tail_placed : Placed tail InTail
unfolding tail
tail_placed = placed_either (placed_seq given_values_placed proof_placed (λ P vs q x y. (x, y))) (placed_map more_parts_placed (λ P ps x. x))

abbrev InGiven : SpanFact Given
InGiven P (v.Term x) = InTerm P x
InGiven P (v.Mul a c) = InTerm P a × InTerm P c
InGiven P (v.Div a d) = InTerm P a × P d.span
InGiven P (v.Rem a d) = InTerm P a × P d.span
InGiven P (v.Call c) = InCalled P c
InGiven P (v.Fork r x) = InRef P r × InForked P x
InGiven P (v.Recv1 a) = InAccess P a
InGiven P (v.Send a x q) = InTarget P a × InSupply P x × InProof P q
InGiven P (v.Choose i a q) = InTarget P a × InProof P q

in_named_given : (P : Span → Type 0) (n : Named) (x : Tail) (span : Span) → P n.span → InTail P x → P span → InGiven P (named_given n x span)
in_named_given P n (t.Values vs q) span p x r = (p, x.0, x.1)
in_named_given P n (t.Parts ps) span p x r = ((p, x), r)

given_name_placed : Placed given_name InGiven
unfolding given_name
given_name_placed = placed_spanned (placed_two name_placed tail_placed) (begun_left name_begun) (λ P ts x p span. in_named_given P x.0 x.1 _ p.0 p.1 span)

given_term_placed : Placed given_term InGiven
unfolding given_term
given_term_placed = placed_either given_name_placed (placed_map number_term_placed (λ P x p. p))

numbered_choice_placed : Placed numbered_choice InGiven
unfolding numbered_choice
numbered_choice_placed = placed_seq arm_number_placed (placed_two target_placed proof_placed) (λ P i x p q. q)

given_target_placed : Placed given_target InGiven
unfolding given_target
given_target_placed =
    placed_either (placed_behind w.Send (placed_seq target_placed (placed_two value_placed proof_placed) (λ P a x p q. (p, q.0, q.1))))
    (placed_either (placed_behind w.Left (placed_seq target_placed proof_placed (λ P a x p q. (p, q))))
    (placed_either (placed_behind w.Right (placed_seq target_placed proof_placed (λ P a x p q. (p, q))))
    (placed_either (placed_behind w.Hash numbered_choice_placed) given_term_placed)))

given_end_placed : Placed given_end InGiven
unfolding given_end
given_end_placed =
    placed_either (placed_behind w.Fork (placed_seq reference_placed forked_placed (λ P r x p q. (p, q))))
    (placed_either (placed_behind w.Recv1 (placed_map access_placed (λ P a p. p))) given_target_placed)

given_placed : Placed given InGiven
unfolding given
given_placed =
    placed_either (placed_behind w.Mul (placed_map two_terms_placed (λ P x p. p)))
    (placed_either (placed_behind w.Div (placed_map term_and_number_placed (λ P x p. p)))
    (placed_either (placed_behind w.Rem (placed_map term_and_number_placed (λ P x p. p))) given_end_placed))

given_to_pattern_placed : Placed given_to_pattern InGiven
unfolding given_to_pattern
given_to_pattern_placed = placed_either (placed_behind w.Recv1 (placed_map access_placed (λ P a p. p))) (placed_map call_placed (λ P c p. p))

abbrev InNamedGiven : SpanFact NamedGiven
InNamedGiven P x = InNames P x.names × InGiven P x.given

behind_name_placed : Placed behind_name InNamedGiven
unfolding behind_name
behind_name_placed =
    placed_either (placed_seq bracketed_placed (placed_behind w.Equals given_to_pattern_placed) (λ P ns x p q. (p, q))) (placed_behind w.Equals (placed_map given_placed (λ P x p. (tt, p))))

-- ---- what two patterns are given

abbrev InPairGiven : SpanFact PairGiven
InPairGiven P (p.Recv ns a) = InNames P ns × InAccess P a
InPairGiven P (p.Split n) = P n.span

two_pats_placed : Placed two_pats (Both InPat InPat)
unfolding two_pats
two_pats_placed = placed_nest (placed_two pat_placed (placed_behind w.Comma (placed_before w.RightParen pat_placed)))

given_to_pair_placed : Placed given_to_pair InPairGiven
unfolding given_to_pair
given_to_pair_placed = placed_either (placed_behind w.Recv (placed_map access_placed (λ P a x. (tt, x)))) (placed_map name_placed (λ P n x. x))

behind_pats_placed : Placed behind_pats InPairGiven
unfolding behind_pats
behind_pats_placed =
    placed_either (placed_seq bracketed_placed (placed_behind w.Equals (placed_behind w.Recv access_placed)) (λ P ns a x y. (x, y))) (placed_behind w.Equals given_to_pair_placed)

-- ---- let

abbrev InBinding : SpanFact Binding
InBinding P (b.Name n x) = P n.span × InNamedGiven P x
InBinding P (b.Pair x y given) = InPat P x × InPat P y × InPairGiven P given

binding_placed : Placed binding InBinding
unfolding binding
binding_placed =
    placed_either (placed_seq two_pats_placed behind_pats_placed (λ P x y q r. (q.0, q.1, r))) (placed_seq name_placed behind_name_placed (λ P n x q r. (q, r)))

-- statements in a row, and how many
abbrev pub Rows : Type 0
Rows = (m : List (this {0}).Shape) × Row_of-Stmt (list_count (this {0}) m 0)

abbrev pub rows_of : List Stmt → Rows
rows_of xs = (map ((this {0}).shape Stmt) xs, back-the_row-Stmt (list_count (this {0}) (map ((this {0}).shape Stmt) xs) 0) (list_put (this {0}) Stmt xs 0 (tt {0})))

pub in_rows : (P : Span → Type 0) (xs : List Stmt) → Every (InStmt P) xs → InRow P (rows_of xs).1
in_rows P [] q = tt
in_rows P (x ∷ xs) q = (q.0, in_rows P xs q.1)

in_fork_do : (P : Span → Type 0) (n : Named) (r : Ref) (x : Task) (span : Span) → P n.span → InRef P r → InTask P x → P span
    → InStmt P (s.ForkDo n.name n.span r x.func.name x.func.span x.bound x.param x.starts x.proof x.block span)
unfolding hidden hidden-the_row-Stmt-0 hidden-the_row-Last-1
in_fork_do P n r x span p q y at = (p, q, y.0, y.1, y.2, y.3, y.4, in_rows P x.block.stmts y.5.0, y.5.1, at)

in_let_fork : (P : Span → Type 0) (n : Named) (r : Ref) (x : Forked) (span : Span) → P n.span → InRef P r → InForked P x → P span → InStmt P (let_fork n r x span)
in_let_fork P n r (f.Call c) span p q y at = (p, q, y.0, y.1, y.2, at)
in_let_fork P n r (f.Block x) span p q y at = in_fork_do P n r x span p q y at

in_let_given : (P : Span → Type 0) (n : Named) (ns : Names) (x : Given) (span : Span) → P n.span → InNames P ns → InGiven P x → P span → InStmt P (let_given n ns x span)
in_let_given P n ns (v.Term x) span p q y at = (p, y, at)
in_let_given P n ns (v.Mul a c) span p q y at = (p, y.0, y.1, at)
in_let_given P n ns (v.Div a d) span p q y at = (p, y.0, y.1, at)
in_let_given P n ns (v.Rem a d) span p q y at = (p, y.0, y.1, at)
in_let_given P n ns (v.Call c) span p q y at = ((p, q), y.0, y.1, y.2, at)
in_let_given P n ns (v.Fork r x) span p q y at = in_let_fork P n r x span p y.0 y.1 at
in_let_given P n ns (v.Recv1 a) span p q y at = ((p, q), y.0, y.1, y.2, at)
in_let_given P n ns (v.Send a x c) span p q y at = (p, y.0.0, y.0.1, y.0.2, y.1, y.2, at)
in_let_given P n ns (v.Choose i a c) span p q y at = (p, y.0.0, y.0.1, y.0.2, y.1, at)

in_let_pair : (P : Span → Type 0) (x y : Pat) (given : PairGiven) (span : Span) → InPat P x → InPat P y → InPairGiven P given → P span → InStmt P (let_pair x y given span)
in_let_pair P x y (p.Recv ns a) span q r z at = (q, r, z.0, z.1.0, z.1.1, z.1.2, at)
in_let_pair P x y (p.Split n) span q r z at = (q, r, z, at)

in_let : (P : Span → Type 0) (x : Binding) (span : Span) → InBinding P x → P span → InStmt P (let_of x span)
in_let P (b.Name n x) span q at = in_let_given P n x.names x.given span q.0 q.1.0 q.1.1 at
in_let P (b.Pair x y given) span q at = in_let_pair P x y given span q.0 q.1 q.2 at

pub let_placed : Placed let_stmt InStmt
unfolding let_stmt
let_placed = placed_spanned (placed_behind w.Let binding_placed) (begun_left (word_begun w.Let)) (λ P ts x q span. in_let P x _ q span)
