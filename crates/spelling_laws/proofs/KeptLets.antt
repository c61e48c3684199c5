-- Statements are derived by their canonical words again.
use Rattle.std.proofs.Common.{◌≡◌, ℕ, inl, inr, List, [], ◌∷◌, ◌++◌, map, codes, refl, ◌∙◌, ap, append-nil, append_assoc}
use denote.Hole.Carrier.{hidden}
use mathlib.Core.Former.{this, list_count, list_put}
use Rattle.chan_base.specs.declared.spans.Span.{Span}
use Rattle.chan_syntax.specs.declared.linear.Bound.{Bound}
use Rattle.chan_syntax.specs.declared.resources.Ref.{Ref}
use Rattle.chan_syntax.specs.declared.resources.Param.{Param}
use Rattle.chan_syntax.specs.declared.operands.Supply.{Supply}
use Rattle.chan_syntax.specs.declared.operands.Pat.{Pat}
use Rattle.chan_syntax.specs.declared.operands.Proof.{Proof}
use Rattle.chan_syntax.specs.declared.surface_tree.Start.{Start}
use Rattle.chan_syntax.specs.declared.surface_tree.Stmt.{Stmt, ForkDo', Row_of-Stmt, more_of-Stmt}
use Rattle.chan_syntax.specs.declared.surface_tree.Stmt.TheVariants as v
use Rattle.chan_syntax.specs.declared.surface_tree.Last.{end_of-Last, more_of-Last}
use Rattle.chan_syntax.specs.declared.surface_tree.Last.TheBlock.{hidden-the_row-Stmt-0, hidden-the_row-Last-1, back-the_row-Stmt}
use Rattle.chan_syntax.specs.declared.surface_tree.Block.{Block}
use Rattle.text_tokens.specs.Text.{Piece, Token}
use Rattle.surface_spelling.specs.Layout.{keyword, mark, name as name_piece, number as number_piece, space, pair}
use Rattle.surface_spelling.specs.Operands as o
use Rattle.surface_spelling.specs.Blocks as s
use Rattle.surface_spelling.specs.Erased as e
use Rattle.surface_spelling.proofs.SpelledBlocks.{stmt_let, stmt_mul, stmt_div, stmt_rem, stmt_call, stmt_fork, stmt_forkdo, stmt_send1, stmt_recv1, stmt_send, stmt_recv, stmt_close, stmt_wait, stmt_choose, stmt_split, stmt_print}
use Rattle.surface_grammar.specs.declared.words.Word.TheVariants as w
use Rattle.surface_grammar.specs.declared.parts.Named.{Named}
use Rattle.surface_grammar.specs.declared.parts.Names.{Names}
use Rattle.surface_grammar.specs.declared.parts.Route.{Route}
use Rattle.surface_grammar.specs.declared.parts.Forked.TheVariants as f
use Rattle.surface_grammar.specs.declared.parts.Given.{Given}
use Rattle.surface_grammar.specs.declared.parts.Given.TheVariants as given_
use Rattle.surface_grammar.specs.declared.parts.NamedGiven.{NamedGiven}
use Rattle.surface_grammar.specs.declared.parts.PairGiven.{PairGiven}
use Rattle.surface_grammar.specs.declared.parts.PairGiven.TheVariants as p
use Rattle.surface_grammar.specs.declared.parts.Binding.{Binding}
use Rattle.surface_grammar.specs.declared.parts.Binding.TheVariants as b
use Rattle.surface_grammar.specs.Words.{spelling}
use Rattle.surface_grammar.specs.Grammar.{cover, word, ◌▷◌}
use Rattle.surface_grammar.specs.Operands.{no_names, pat_of}
use Rattle.surface_grammar.specs.Statements.{given, given_to_pattern, behind_name, let_given, two_pats, given_to_pair, behind_pats, let_pair, binding, let_of, let_stmt, send1_stmt, close_stmt, wait_stmt, print_stmt, stmt}
use Rattle.spelling_cuts.specs.Words.{words}
use Rattle.spelling_laws.proofs.WordTokens.{word_of}
use Rattle.spelling_laws.proofs.Kept.{words-append, behind_one, Kept, Any, kept_seq, kept_seq_when, kept_two, kept_either, kept_spanned, kept_map, kept_behind_when, kept_behind, kept_behind_map, kept_pair}
use Rattle.spelling_laws.proofs.KeptTerms.{named, names_of, name_token, name_kept, term_kept}
use Rattle.spelling_laws.proofs.KeptOperands.{value_kept, pat_kept, bracketed_behind_kept, route_kept, headed}
use Rattle.spelling_laws.proofs.KeptProofs.{proof_kept}
use Rattle.spelling_laws.proofs.KeptParts.{access_of, access_words, access_kept, target_words, given_of, given_words, given_kept, given_to_pattern_kept}

-- ---- what follows the patterns

abbrev pair_given_of : PairGiven → PairGiven
pair_given_of (p.Recv ns a) = p.Recv (names_of ns) (access_of a)
pair_given_of (p.Split n) = p.Split (named n)

abbrev pair_given_words : PairGiven → List Token
pair_given_words (p.Recv ns a) = words (o.names_behind ns.names) ++ word_of w.Equals ∷ word_of w.Recv ∷ access_words a
pair_given_words (p.Split n) = word_of w.Equals ∷ name_token n.name ∷ []

given_to_pair_kept : Kept given_to_pair pair_given_of (λ y. behind_one (pair_given_words y))
unfolding given_to_pair o.names_behind
given_to_pair_kept = kept_either (kept_behind_map w.Recv access_kept (λ a. refl) (λ a. refl)) (kept_map name_kept (λ n. refl) (λ n. refl))

pair_given_headed : (y : PairGiven) → Any given_to_pair y → pair_given_words y ≡ word_of w.Equals ∷ behind_one (pair_given_words y)
unfolding given_to_pair o.names_behind
pair_given_headed y some =
    elim some.3 [
      | inl d ↦ headed (pair_given_words y) (word_of w.Recv ∷ access_words d.7.0) (word_of w.Equals) (ap pair_given_words (d.4 ∙ d.7.4))
      | inr d ↦ headed (pair_given_words y) (name_token d.0.name ∷ []) (word_of w.Equals) (ap pair_given_words d.4)
    ]

behind_pats_kept : Kept behind_pats pair_given_of pair_given_words
unfolding behind_pats
behind_pats_kept =
    kept_either
    (kept_seq bracketed_behind_kept
    (kept_behind w.Equals {spell = λ a. word_of w.Equals ∷ word_of w.Recv ∷ access_words a} (kept_behind w.Recv {spell = λ a. word_of w.Recv ∷ access_words a} access_kept (λ a. refl)) (λ a. refl)) (λ ns a. refl) (λ ns a. refl))
    (kept_behind_when w.Equals given_to_pair_kept pair_given_headed)

two_pats_kept : Kept two_pats (λ (q : Pat × Pat). (e.pat q.0, e.pat q.1)) (λ (q : Pat × Pat). words (o.two_pats q.0 q.1))
unfolding two_pats o.two_pats
two_pats_kept = kept_pair o.pat o.pat pat_kept pat_kept

-- ---- what follows the name

-- names in brackets, before a call or what is received
abbrev pattern_words : Names → Given → List Token
pattern_words ns (given_.Term x) = []
pattern_words ns (given_.Mul a b) = []
pattern_words ns (given_.Div a k) = []
pattern_words ns (given_.Rem a k) = []
pattern_words ns (given_.Call c) = words (o.names_behind ns.names)
pattern_words ns (given_.Fork r c) = []
pattern_words ns (given_.Recv1 a) = words (o.names_behind ns.names)
pattern_words ns (given_.Send a x q) = []
pattern_words ns (given_.Choose i a q) = []

abbrev named_words : ℕ → NamedGiven → List Token
named_words d x = pattern_words x.names x.given ++ word_of w.Equals ∷ given_words d x.given

abbrev named_given_of : NamedGiven → NamedGiven
named_given_of x = record { names = names_of x.names; given = given_of x.given }

no_pattern : (x : Given) → pattern_words no_names x ≡ []
unfolding o.names_behind
no_pattern (given_.Term x) = refl
no_pattern (given_.Mul a b) = refl
no_pattern (given_.Div a k) = refl
no_pattern (given_.Rem a k) = refl
no_pattern (given_.Call c) = refl
no_pattern (given_.Fork r c) = refl
no_pattern (given_.Recv1 a) = refl
no_pattern (given_.Send a x q) = refl
no_pattern (given_.Choose i a q) = refl

a_pattern : (ns : Names) (x : Given) → Any (word w.Equals ▷ given_to_pattern) x → pattern_words ns x ≡ words (o.names_behind ns.names)
unfolding given_to_pattern
a_pattern ns x some =
    let d = some.3 in
    ap (pattern_words ns) d.4 ∙ elim d.7 [
      | inl q ↦ ap (pattern_words ns) (q.4 ∙ q.7.4)
      | inr q ↦ ap (pattern_words ns) q.4
    ]

behind_name_kept : (d : ℕ) → Kept behind_name named_given_of (named_words d)
unfolding behind_name
behind_name_kept d =
    kept_either
    (kept_seq_when bracketed_behind_kept (kept_behind w.Equals {spell = λ x. word_of w.Equals ∷ given_words d x} (given_to_pattern_kept d) (λ x. refl)) (λ ns x. refl)
    (λ l ns x u v p q du dv. ap (λ (ts : List Token). ts ++ word_of w.Equals ∷ given_words d x) (a_pattern ns x (l, v, q, dv))))
    (kept_behind_map w.Equals (given_kept d) (λ x. refl) (λ x. ap (λ (ts : List Token). ts ++ word_of w.Equals ∷ given_words d x) (no_pattern x)))

-- ---- let

abbrev binding_of : Binding → Binding
binding_of (b.Name n x) = b.Name (named n) (named_given_of x)
binding_of (b.Pair x y given) = b.Pair (e.pat x) (e.pat y) (pair_given_of given)

abbrev binding_words : ℕ → Binding → List Token
binding_words d (b.Name n x) = name_token n.name ∷ named_words d x
binding_words d (b.Pair x y given) = words (o.two_pats x y) ++ pair_given_words given

binding_kept : (d : ℕ) → Kept binding binding_of (binding_words d)
unfolding binding
binding_kept d =
    kept_either (kept_seq two_pats_kept behind_pats_kept (λ q x. refl) (λ q x. refl)) (kept_seq name_kept (behind_name_kept d) (λ n x. refl) (λ n x. refl))

-- ---- words of statements

let_words : (bound rest : List Piece) → words (s.let_is bound ++ rest) ≡ word_of w.Let ∷ words bound ++ word_of w.Equals ∷ words rest
unfolding s.let_is spelling
let_words bound rest =
    ap (λ (ts : List Token). word_of w.Let ∷ ts)
    (words-append (bound ++ space ∷ mark (codes "=") ∷ space ∷ []) rest ∙ ap (λ (ts : List Token). ts ++ words rest) (words-append bound (space ∷ mark (codes "=") ∷ space ∷ []))
    ∙ append_assoc (words bound) (word_of w.Equals ∷ []) (words rest))

-- a statement of two parts behind `let NAME =`
let_two : (n : List ℕ) (first rest : List Piece) → words (s.let_is (name_piece n ∷ []) ++ first ++ rest) ≡ word_of w.Let ∷ name_token n ∷ word_of w.Equals ∷ words first ++ words rest
let_two n first rest =
    words-append (s.let_is (name_piece n ∷ []) ++ first) rest ∙ ap (λ (ts : List Token). ts ++ words rest) (let_words (name_piece n ∷ []) first)

-- three, with a space behind the first
let_three : (n : List ℕ) (first second rest : List Piece)
    → words (s.let_is (name_piece n ∷ []) ++ first ++ space ∷ second ++ rest) ≡ word_of w.Let ∷ name_token n ∷ word_of w.Equals ∷ words first ++ (words second ++ words rest)
let_three n first second rest =
    words-append (s.let_is (name_piece n ∷ []) ++ first ++ space ∷ second) rest ∙ ap (λ (ts : List Token). ts ++ words rest) (let_two n first (space ∷ second))
    ∙ ap (λ (ts : List Token). word_of w.Let ∷ name_token n ∷ word_of w.Equals ∷ ts) (append_assoc (words first) (words second) (words rest))

fork_words : (n : List ℕ) (r : Ref) (rest : List Piece) → words (s.let_fork n r ++ rest) ≡ word_of w.Let ∷ name_token n ∷ word_of w.Equals ∷ word_of w.Fork ∷ words (o.reference r) ++ words rest
unfolding s.let_fork spelling
fork_words n r rest =
    words-append (s.let_is (name_piece n ∷ []) ++ keyword (codes "fork") ∷ space ∷ o.reference r ++ space ∷ []) rest
    ∙ ap (λ (ts : List Token). ts ++ words rest) (let_two n (keyword (codes "fork") ∷ space ∷ o.reference r) (space ∷ []) ∙ append-nil (word_of w.Let ∷ name_token n ∷ word_of w.Equals ∷ word_of w.Fork ∷ words (o.reference r)))

pub sent_words : (x : Supply) (q : Proof) → words (s.sent x q) ≡ words (o.value x) ++ words (o.proof q)
unfolding s.sent
sent_words x q = words-append (o.value x) (o.proof q)

named_stmt : (d : ℕ) (n : Named) (ns : Names) (x : Given) (at : Span) → words (s.stmt d (let_given n ns x at)) ≡ word_of w.Let ∷ name_token n.name ∷ (pattern_words ns x ++ word_of w.Equals ∷ given_words d x)
unfolding o.pat spelling
named_stmt d n ns (given_.Term x) at = ap words (stmt_let d n.name n.span x at) ∙ let_words (name_piece n.name ∷ []) (o.term x)
named_stmt d n ns (given_.Mul a c) at = ap words (stmt_mul d n.name n.span a c at) ∙ let_words (name_piece n.name ∷ []) (keyword (codes "mul") ∷ pair (o.term a) (o.term c))
named_stmt d n ns (given_.Div a k) at = ap words (stmt_div d n.name n.span a k.value k.span at) ∙ let_words (name_piece n.name ∷ []) (keyword (codes "div") ∷ pair (o.term a) (number_piece k.value ∷ []))
named_stmt d n ns (given_.Rem a k) at = ap words (stmt_rem d n.name n.span a k.value k.span at) ∙ let_words (name_piece n.name ∷ []) (keyword (codes "rem") ∷ pair (o.term a) (number_piece k.value ∷ []))
named_stmt d n ns (given_.Call c) at =
    ap words (stmt_call d (pat_of n ns) c.func.name c.func.span c.values c.proof at) ∙ let_words (o.pat (pat_of n ns)) (s.call c.func.name c.values c.proof)
named_stmt d n ns (given_.Fork r (f.Call c)) at =
    ap words (stmt_fork d n.name n.span r c.func.name c.func.span c.values c.proof at) ∙ fork_words n.name r (s.call c.func.name c.values c.proof)
named_stmt d n ns (given_.Fork r (f.Block t)) at =
    ap words (stmt_forkdo d n.name n.span r t.func.name t.func.span t.bound t.param t.starts t.proof t.block at)
    ∙ words-append (s.let_fork n.name r ++ keyword (codes "do") ∷ space ∷ s.task_head t.func.name t.bound t.param t.starts t.proof) (s.block d t.block)
    ∙ ap (λ (ts : List Token). ts ++ words (s.block d t.block)) (fork_words n.name r (keyword (codes "do") ∷ space ∷ s.task_head t.func.name t.bound t.param t.starts t.proof))
    ∙ ap (λ (ts : List Token). word_of w.Let ∷ name_token n.name ∷ word_of w.Equals ∷ word_of w.Fork ∷ ts)
    (append_assoc (words (o.reference r)) (word_of w.Do ∷ words (s.task_head t.func.name t.bound t.param t.starts t.proof)) (words (s.block d t.block)))
named_stmt d n ns (given_.Recv1 a) at =
    ap words (stmt_recv1 d (pat_of n ns) a.channel.name a.channel.span a.route.path a.route.span a.proof at) ∙ let_words (o.pat (pat_of n ns)) (keyword (codes "recv1") ∷ space ∷ s.access a.channel.name a.route.path a.proof)
named_stmt d n ns (given_.Send a x q) at =
    ap words (stmt_send d n.name n.span a.channel.name a.channel.span a.proto a.route.path a.route.span x q at)
    ∙ let_two n.name (keyword (codes "send") ∷ space ∷ s.target a.channel.name a.proto a.route.path) (s.sent x q)
    ∙ ap (λ (ts : List Token). word_of w.Let ∷ name_token n.name ∷ word_of w.Equals ∷ word_of w.Send ∷ target_words a ++ ts) (sent_words x q)
named_stmt d n ns (given_.Choose i a q) at =
    ap words (stmt_choose d i n.name n.span a.channel.name a.channel.span a.proto a.route.path a.route.span q at)
    ∙ let_three n.name (s.chosen i) (s.target a.channel.name a.proto a.route.path) (o.proof q)

pair_stmt : (d : ℕ) (x y : Pat) (given : PairGiven) (at : Span) → words (s.stmt d (let_pair x y given at)) ≡ word_of w.Let ∷ words (o.two_pats x y) ++ pair_given_words given
unfolding spelling
pair_stmt d x y (p.Recv ns c) at =
    ap words (stmt_recv d x y ns.names ns.spans c.channel.name c.channel.span c.route.path c.route.span c.proof at)
    ∙ let_words (o.two_pats x y ++ o.names_behind ns.names) (keyword (codes "recv") ∷ space ∷ s.access c.channel.name c.route.path c.proof)
    ∙ ap (λ (ts : List Token). word_of w.Let ∷ ts ++ word_of w.Equals ∷ word_of w.Recv ∷ access_words c) (words-append (o.two_pats x y) (o.names_behind ns.names))
    ∙ ap (λ (ts : List Token). word_of w.Let ∷ ts) (append_assoc (words (o.two_pats x y)) (words (o.names_behind ns.names)) (word_of w.Equals ∷ word_of w.Recv ∷ access_words c))
pair_stmt d x y (p.Split n) at = ap words (stmt_split d x y n.name n.span at) ∙ let_words (o.two_pats x y) (name_piece n.name ∷ [])

-- ---- places of statements

-- statements in a row, and how many
abbrev pub Rows : Type 0
Rows = (m : List (this {0}).Shape) × Row_of-Stmt (list_count (this {0}) m 0)

abbrev pub rows_of : List Stmt → Rows
rows_of xs = (map ((this {0}).shape Stmt) xs, back-the_row-Stmt (list_count (this {0}) (map ((this {0}).shape Stmt) xs) 0) (list_put (this {0}) Stmt xs 0 (tt {0})))

pub rows_erased : (xs : List Stmt) → ◌≡◌ {A = Rows} ((rows_of xs).0, e.row_of_stmts (rows_of xs).1) (rows_of (map e.stmt xs))
rows_erased [] = refl
rows_erased (x ∷ xs) = ap (λ (r : Rows). (tt {0} ∷ r.0, more_of-Stmt (e.stmt x) r.1)) (rows_erased xs)

fork_do_erased : (n : List ℕ) (at : Span) (r : Ref) (func : List ℕ) (bt : Span) (bound : Bound) (x : Param) (xs : List Start) (q : Proof) (then_block : Block) (ct : Span)
    → e.stmt (v.ForkDo n at r func bt bound x xs q then_block ct) ≡ v.ForkDo n e.nowhere (e.reference r) func e.nowhere (e.bound bound) (e.param x) (map e.start xs) (e.proof q) (e.block then_block) e.nowhere
unfolding hidden hidden-the_row-Stmt-0 hidden-the_row-Last-1
fork_do_erased n at r func bt bound x xs q then_block ct =
    ap (λ (k : Rows). ForkDo' n e.nowhere (e.reference r) func e.nowhere (e.bound bound) (e.param x) (map e.start xs) (e.proof q) k.0 k.1 (tt {0}) (more_of-Last (e.last then_block.last) end_of-Last) e.nowhere)
    (rows_erased then_block.stmts)

named_erased : (n : Named) (ns : Names) (x : Given) (at : Span) → e.stmt (let_given n ns x at) ≡ let_given (named n) (names_of ns) (given_of x) e.nowhere
named_erased n ns (given_.Term x) at = refl
named_erased n ns (given_.Mul a c) at = refl
named_erased n ns (given_.Div a k) at = refl
named_erased n ns (given_.Rem a k) at = refl
named_erased n ns (given_.Call c) at = refl
named_erased n ns (given_.Fork r (f.Call c)) at = refl
named_erased n ns (given_.Fork r (f.Block t)) at = fork_do_erased n.name n.span r t.func.name t.func.span t.bound t.param t.starts t.proof t.block at
named_erased n ns (given_.Recv1 a) at = refl
named_erased n ns (given_.Send a x q) at = refl
named_erased n ns (given_.Choose i a q) at = refl

let_erased : (x : Binding) (at : Span) → e.stmt (let_of x at) ≡ let_of (binding_of x) e.nowhere
let_erased (b.Name n x) at = named_erased n x.names x.given at
let_erased (b.Pair x y (p.Recv ns c)) at = refl
let_erased (b.Pair x y (p.Split n)) at = refl

let_stmt_words : (d : ℕ) (x : Binding) (at : Span) → words (s.stmt d (let_of x at)) ≡ word_of w.Let ∷ binding_words d x
let_stmt_words d (b.Name n x) at = named_stmt d n x.names x.given at
let_stmt_words d (b.Pair x y given) at = pair_stmt d x y given at

-- ---- statements

let_kept : (d : ℕ) → Kept let_stmt e.stmt (λ x. words (s.stmt d x))
unfolding let_stmt cover
let_kept d = kept_spanned (kept_behind w.Let {spell = λ x. word_of w.Let ∷ binding_words d x} (binding_kept d) (λ x. refl)) (λ ts x. let_erased x (cover ts)) (λ ts x. let_stmt_words d x (cover ts))

send1_words : (d : ℕ) (n : Named) (r : Route) (x : Supply) (q : Proof) (at : Span)
    → words (s.stmt d (v.Send1 n.name n.span r.path r.span x q at)) ≡ word_of w.Send1 ∷ name_token n.name ∷ (words (o.path r.path) ++ (words (o.value x) ++ words (o.proof q)))
unfolding spelling
send1_words d n r x q at =
    ap words (stmt_send1 d n.name n.span r.path r.span x q at)
    ∙ ap (λ (ts : List Token). word_of w.Send1 ∷ name_token n.name ∷ ts) (words-append (o.path r.path) (s.sent x q) ∙ ap (λ (ts : List Token). words (o.path r.path) ++ ts) (sent_words x q))

send1_kept : (d : ℕ) → Kept send1_stmt e.stmt (λ x. words (s.stmt d x))
unfolding send1_stmt cover
send1_kept d =
    kept_spanned
    {sa = λ (p : Named × (Route × (Supply × Proof))). word_of w.Send1 ∷ name_token p.0.name ∷ (words (o.path p.1.0.path) ++ (words (o.value p.1.1.0) ++ words (o.proof p.1.1.1)))}
    (kept_behind w.Send1 (kept_two name_kept (kept_two route_kept (kept_two value_kept proof_kept))) (λ p. refl)) (λ ts p. refl) (λ ts p. send1_words d p.0 p.1.0 p.1.1.0 p.1.1.1 (cover ts))

close_kept : (d : ℕ) → Kept close_stmt e.stmt (λ x. words (s.stmt d x))
unfolding close_stmt cover spelling
close_kept d =
    kept_spanned {sa = λ a. word_of w.Close ∷ access_words a} (kept_behind w.Close access_kept (λ a. refl)) (λ ts a. refl)
    (λ ts a. ap words (stmt_close d a.channel.name a.channel.span a.route.path a.route.span a.proof (cover ts)))

wait_kept : (d : ℕ) → Kept wait_stmt e.stmt (λ x. words (s.stmt d x))
unfolding wait_stmt cover spelling
wait_kept d =
    kept_spanned {sa = λ a. word_of w.Wait ∷ access_words a} (kept_behind w.Wait access_kept (λ a. refl)) (λ ts a. refl)
    (λ ts a. ap words (stmt_wait d a.channel.name a.channel.span a.route.path a.route.span a.proof (cover ts)))

print_kept : (d : ℕ) → Kept print_stmt e.stmt (λ x. words (s.stmt d x))
unfolding print_stmt cover spelling
print_kept d = kept_spanned {sa = λ t. word_of w.Print ∷ words (o.term t)} (kept_behind w.Print term_kept (λ t. refl)) (λ ts t. refl) (λ ts t. ap words (stmt_print d t (cover ts)))

pub stmt_kept : (d : ℕ) → Kept stmt e.stmt (λ x. words (s.stmt d x))
unfolding stmt
stmt_kept d = kept_either (let_kept d) (kept_either (send1_kept d) (kept_either (close_kept d) (kept_either (wait_kept d) (print_kept d))))
