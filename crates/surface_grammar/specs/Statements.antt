-- Blocks, their statements and how they end.
use Rattle.std.specs.Prelude.{ℕ, zero, suc, List, [], ◌∷◌, Some}
use Rattle.chan_base.specs.declared.spans.Span.{Span}
use Rattle.chan_syntax.specs.declared.linear.Term.{Term}
use Rattle.chan_syntax.specs.declared.linear.Bound.{Bound}
use Rattle.chan_syntax.specs.declared.resources.Ref.{Ref}
use Rattle.chan_syntax.specs.declared.resources.Shape.{Shape}
use Rattle.chan_syntax.specs.declared.resources.Res.{Res}
use Rattle.chan_syntax.specs.declared.resources.Param.{Param}
use Rattle.chan_syntax.specs.declared.operands.Supply.{Supply}
use Rattle.chan_syntax.specs.declared.operands.Pat.{Pat}
use Rattle.chan_syntax.specs.declared.operands.Proof.{Proof}
use Rattle.chan_syntax.specs.declared.surface_tree.Start.{Start}
use Rattle.chan_syntax.specs.declared.surface_tree.Stmt.{Stmt}
use Rattle.chan_syntax.specs.declared.surface_tree.Stmt.TheVariants as s
use Rattle.chan_syntax.specs.declared.surface_tree.Last.{Last}
use Rattle.chan_syntax.specs.declared.surface_tree.Last.TheVariants as l
use Rattle.chan_syntax.specs.declared.surface_tree.Block.{Block, roll-Block}
use Rattle.chan_syntax.specs.declared.surface_tree.SurfaceArm.{SurfaceArm, roll-SurfaceArm}
use Rattle.grammar_laws.specs.Grammar as g
use Rattle.surface_grammar.specs.declared.words.Word.{Word}
use Rattle.surface_grammar.specs.declared.words.Word.TheVariants as w
use Rattle.surface_grammar.specs.declared.parts.Named.{Named}
use Rattle.surface_grammar.specs.declared.parts.Names.{Names}
use Rattle.surface_grammar.specs.declared.parts.Digits.{Digits}
use Rattle.surface_grammar.specs.declared.parts.Route.{Route}
use Rattle.surface_grammar.specs.declared.parts.Access.{Access}
use Rattle.surface_grammar.specs.declared.parts.Target.{Target}
use Rattle.surface_grammar.specs.declared.parts.Called.{Called}
use Rattle.surface_grammar.specs.declared.parts.Task.{Task}
use Rattle.surface_grammar.specs.declared.parts.Forked.{Forked}
use Rattle.surface_grammar.specs.declared.parts.Forked.TheVariants as f
use Rattle.surface_grammar.specs.declared.parts.Tail.{Tail}
use Rattle.surface_grammar.specs.declared.parts.Tail.TheVariants as t
use Rattle.surface_grammar.specs.declared.parts.Given.{Given}
use Rattle.surface_grammar.specs.declared.parts.Given.TheVariants as v
use Rattle.surface_grammar.specs.declared.parts.NamedGiven.{NamedGiven}
use Rattle.surface_grammar.specs.declared.parts.PairGiven.{PairGiven}
use Rattle.surface_grammar.specs.declared.parts.PairGiven.TheVariants as p
use Rattle.surface_grammar.specs.declared.parts.Binding.{Binding}
use Rattle.surface_grammar.specs.declared.parts.Binding.TheVariants as b
use Rattle.surface_grammar.specs.Words.{name_code}
use Rattle.surface_grammar.specs.Grammar.{G, ABlock, cover, word, ◌▷◌, ◌◁◌, ◌⇒◌, yes, repeated, up_to, more_arms_than_two, listed, closed, opened, name, arm_number, the_number}
use Rattle.surface_grammar.specs.Terms.{part_of, more_parts, term, number_term, two_terms, term_and_number, bound, reference, shape, res, param}
use Rattle.surface_grammar.specs.Operands.{value, given_values, bracketed, no_names, pat_of, pat, route, proof}

-- ---- what several statements have

-- NAME [path] proof
unfoldable pub access : G Access
access = g.seq (λ n (p : Route × _). record { channel = n; route = p.0; proof = p.1 }) name (g.seq (λ r q. (r, q)) route proof)

-- NAME ":" ref [path]
unfoldable pub target : G Target
target =
    g.seq (λ n (p : Ref × Route). record { channel = n; proto = p.0; route = p.1 }) name
    (g.seq (λ r q. (r, q)) (word w.Colon ▷ reference) route)

-- NAME "(" [values] ")" proof
unfoldable pub call : G Called
call =
    g.seq (λ n (p : List Supply × Proof). record { func = n; values = p.0; proof = p.1 }) name
    (g.seq (λ vs q. (vs, q)) given_values proof)

-- start = NAME ":" shape "=" value
unfoldable pub start : G Start
start =
    g.seq (λ (n : Named) (p : Shape × Supply). record { name = n.name; name_span = n.span; shape = p.0; value = p.1 }) name
    (g.seq (λ x y. (x, y)) (word w.Colon ▷ shape) (word w.Equals ▷ value))

-- { "," start }
unfoldable pub more_starts : G (List Start)
more_starts = repeated (w.Comma ∷ []) (word w.Comma ▷ start)

-- start { "," start }
unfoldable pub starts : G (List Start)
starts = listed start

-- ---- "let" NAME "=" "fork" ref NAME "(" [values] ")" proof
-- ---- "let" NAME "=" "fork" ref "do" NAME [binds] "(" param { "," start } ")" proof block
-- The two are read as one up to the end of the reference.

-- "(" param { "," start } ")"
unfoldable pub task_params : G (Param × List Start)
task_params = opened w.LeftParen (g.seq (λ x xs. (x, xs)) param (more_starts ◁ word w.RightParen))

-- NAME [binds] "(" param { "," start } ")" proof block
unfoldable pub task : G Task
task =
    g.seq (λ n (p : Bound × ((Param × List Start) × (Proof × Block))). record { func = n; bound = p.0; param = p.1.0.0; starts = p.1.0.1; proof = p.1.1.0; block = p.1.1.1 }) name
    (g.seq (λ x y. (x, y)) bound (g.seq (λ x y. (x, y)) task_params (g.seq (λ x y. (x, y)) proof (g.call ABlock (λ b. b)))))

-- what follows the reference
unfoldable pub forked : G Forked
forked = g.either (yes (w.Do ∷ [])) (word w.Do ▷ (task ⇒ f.Block)) (call ⇒ f.Call)

-- ---- "let" NAME "=" .., and the same with a pattern of names in brackets
-- Those that begin with "let" NAME "=" are read as one up to there, and then by the next word. A NAME there begins a call
-- where "(" follows, and else a term.

-- what follows a NAME: "(" [values] ")" proof, or more products
unfoldable pub tail : G Tail
tail = g.either (yes (w.LeftParen ∷ [])) (g.seq t.Values given_values proof) (more_parts ⇒ t.Parts)

-- a call, or a term that begins with the name
abbrev pub named_given : Named → Tail → Span → Given
named_given n (t.Values vs q) span = v.Call (record { func = n; values = vs; proof = q })
named_given n (t.Parts ps) span = v.Term (record { parts = part_of 1 (Some n) ∷ ps; span = span })

-- NAME and what follows it
unfoldable pub given_name : G Given
given_name = g.spanned (λ ts (p : Named × Tail). named_given p.0 p.1 (cover ts)) (g.seq (λ n x. (n, x)) name tail)

-- a term, or a call
unfoldable pub given_term : G Given
given_term = g.either (name_code ∷ []) given_name (number_term ⇒ v.Term)

-- NUMBER NAME ":" ref [path] proof, behind "#"
unfoldable pub numbered_choice : G Given
numbered_choice = g.seq (λ i (p : Target × Proof). v.Choose i p.0 p.1) arm_number (g.seq (λ x q. (x, q)) target proof)

-- "send" NAME ":" ref [path] value proof | ("left" | "right" | "#" NUMBER) NAME ":" ref [path] proof | the above
unfoldable pub given_target : G Given
given_target =
    g.either (yes (w.Send ∷ []))
    (word w.Send ▷ g.seq (λ x (p : Supply × Proof). v.Send x p.0 p.1) target (g.seq (λ x y. (x, y)) value proof))
    (g.either (yes (w.Left ∷ [])) (word w.Left ▷ g.seq (v.Choose 0) target proof)
    (g.either (yes (w.Right ∷ [])) (word w.Right ▷ g.seq (v.Choose 1) target proof)
    (g.either (yes (w.Hash ∷ [])) (word w.Hash ▷ numbered_choice) given_term)))

-- "fork" ref .. | "recv1" NAME [path] proof | the above
unfoldable pub given_end : G Given
given_end =
    g.either (yes (w.Fork ∷ [])) (word w.Fork ▷ g.seq v.Fork reference forked)
    (g.either (yes (w.Recv1 ∷ [])) (word w.Recv1 ▷ (access ⇒ v.Recv1)) given_target)

-- "mul" "(" term "," term ")" | ("div" | "rem") "(" term "," NUMBER ")" | the above
unfoldable pub given : G Given
given =
    g.either (yes (w.Mul ∷ [])) (word w.Mul ▷ (two_terms ⇒ (λ (p : Term × Term). v.Mul p.0 p.1)))
    (g.either (yes (w.Div ∷ [])) (word w.Div ▷ (term_and_number ⇒ (λ (p : Term × Digits). v.Div p.0 p.1)))
    (g.either (yes (w.Rem ∷ [])) (word w.Rem ▷ (term_and_number ⇒ (λ (p : Term × Digits). v.Rem p.0 p.1))) given_end))

-- "recv1" NAME [path] proof | NAME "(" [values] ")" proof
unfoldable pub given_to_pattern : G Given
given_to_pattern = g.either (yes (w.Recv1 ∷ [])) (word w.Recv1 ▷ (access ⇒ v.Recv1)) (call ⇒ v.Call)

-- what follows "let" NAME
unfoldable pub behind_name : G NamedGiven
behind_name =
    g.either (yes (w.LeftBracket ∷ [])) (g.seq (λ ns x. record { names = ns; given = x }) bracketed (word w.Equals ▷ given_to_pattern))
    (word w.Equals ▷ (given ⇒ (λ x. record { names = no_names; given = x })))

-- the statement of "let" NAME and what is forked
abbrev pub let_fork : Named → Ref → Forked → Span → Stmt
let_fork n r (f.Call c) span = s.Fork n.name n.span r c.func.name c.func.span c.values c.proof span
let_fork n r (f.Block c) span = s.ForkDo n.name n.span r c.func.name c.func.span c.bound c.param c.starts c.proof c.block span

-- of "let" pat and a call
abbrev pub let_call : Pat → Called → Span → Stmt
let_call x c span = s.Call x c.func.name c.func.span c.values c.proof span

-- of "let" pat and what is received
abbrev pub let_recv1 : Pat → Access → Span → Stmt
let_recv1 x a span = s.Recv1 x a.channel.name a.channel.span a.route.path a.route.span a.proof span

-- of "let" NAME and what is sent
abbrev pub let_send : Named → Target → Supply → Proof → Span → Stmt
let_send n a x q span = s.Send n.name n.span a.channel.name a.channel.span a.proto a.route.path a.route.span x q span

-- of "let" NAME and what is chosen
abbrev pub let_choose : ℕ → Named → Target → Proof → Span → Stmt
let_choose arm n a q span = s.Choose arm n.name n.span a.channel.name a.channel.span a.proto a.route.path a.route.span q span

-- of "let" NAME, names in brackets, and what they are given
abbrev pub let_given : Named → Names → Given → Span → Stmt
let_given n ns (v.Term x) span = s.Let n.name n.span x span
let_given n ns (v.Mul a b) span = s.Mul n.name n.span a b span
let_given n ns (v.Div a d) span = s.Div n.name n.span a d.value d.span span
let_given n ns (v.Rem a d) span = s.Rem n.name n.span a d.value d.span span
let_given n ns (v.Call c) span = let_call (pat_of n ns) c span
let_given n ns (v.Fork r c) span = let_fork n r c span
let_given n ns (v.Recv1 a) span = let_recv1 (pat_of n ns) a span
let_given n ns (v.Send a x q) span = let_send n a x q span
let_given n ns (v.Choose i a q) span = let_choose i n a q span

-- ---- "let" "(" pat "," pat ")" [ "[" names "]" ] "=" "recv" NAME [path] proof | "let" "(" pat "," pat ")" "=" NAME
-- The two are read as one up to the names or to what follows "=".

-- "(" pat "," pat ")"
unfoldable pub two_pats : G (Pat × Pat)
two_pats = opened w.LeftParen (g.seq (λ a b. (a, b)) pat (word w.Comma ▷ (pat ◁ word w.RightParen)))

-- "recv" NAME [path] proof | NAME
unfoldable pub given_to_pair : G PairGiven
given_to_pair = g.either (yes (w.Recv ∷ [])) (word w.Recv ▷ (access ⇒ p.Recv no_names)) (name ⇒ p.Split)

-- what follows the patterns
unfoldable pub behind_pats : G PairGiven
behind_pats =
    g.either (yes (w.LeftBracket ∷ [])) (g.seq p.Recv bracketed (word w.Equals ▷ (word w.Recv ▷ access))) (word w.Equals ▷ given_to_pair)

-- the statement of "let", two patterns and what the pair is given
abbrev pub let_pair : Pat → Pat → PairGiven → Span → Stmt
let_pair a b (p.Recv ns c) span = s.Recv a b ns.names ns.spans c.channel.name c.channel.span c.route.path c.route.span c.proof span
let_pair a b (p.Split n) span = s.Split a b n.name n.span span

-- what follows "let"
unfoldable pub binding : G Binding
binding =
    g.either (yes (w.LeftParen ∷ [])) (g.seq (λ (q : Pat × Pat) x. b.Pair q.0 q.1 x) two_pats behind_pats) (g.seq b.Name name behind_name)

-- the statement of "let" and what follows
abbrev pub let_of : Binding → Span → Stmt
let_of (b.Name n x) span = let_given n x.names x.given span
let_of (b.Pair x y given) span = let_pair x y given span

unfoldable pub let_stmt : G Stmt
let_stmt = g.spanned (λ ts x. let_of x (cover ts)) (word w.Let ▷ binding)

-- ---- the other statements

-- "send1" NAME [path] value proof
unfoldable pub send1_stmt : G Stmt
send1_stmt =
    g.spanned (λ ts (p : Named × (Route × (Supply × Proof))). s.Send1 p.0.name p.0.span p.1.0.path p.1.0.span p.1.1.0 p.1.1.1 (cover ts))
    (word w.Send1 ▷ g.seq (λ n p. (n, p)) name (g.seq (λ r p. (r, p)) route (g.seq (λ x q. (x, q)) value proof)))

-- "close" NAME [path] proof
unfoldable pub close_stmt : G Stmt
close_stmt =
    g.spanned (λ ts (a : Access). s.Close a.channel.name a.channel.span a.route.path a.route.span a.proof (cover ts)) (word w.Close ▷ access)

-- "wait" NAME [path] proof
unfoldable pub wait_stmt : G Stmt
wait_stmt =
    g.spanned (λ ts (a : Access). s.Wait a.channel.name a.channel.span a.route.path a.route.span a.proof (cover ts)) (word w.Wait ▷ access)

-- "print" term
unfoldable pub print_stmt : G Stmt
print_stmt = g.spanned (λ ts x. s.Print x (cover ts)) (word w.Print ▷ term)

-- the words that a statement may begin with
abbrev pub stmt_words : List Word
stmt_words = w.Let ∷ w.Send1 ∷ w.Close ∷ w.Wait ∷ w.Print ∷ []

unfoldable pub stmt : G Stmt
stmt =
    g.either (yes (w.Let ∷ [])) let_stmt
    (g.either (yes (w.Send1 ∷ [])) send1_stmt
    (g.either (yes (w.Close ∷ [])) close_stmt (g.either (yes (w.Wait ∷ [])) wait_stmt print_stmt)))

-- ---- last

-- "ret" value proof
unfoldable pub ret_last : G Last
ret_last = g.spanned (λ ts (p : Supply × Proof). l.Ret p.0 p.1 (cover ts)) (word w.Ret ▷ g.seq (λ x q. (x, q)) value proof)

-- NAME "(" [values] ")" proof
unfoldable pub tail_last : G Last
tail_last = g.spanned (λ ts (c : Called). l.Tail c.func.name c.func.span c.values c.proof (cover ts)) call

-- term "<=" term
unfoldable pub at_most : G (Term × Term)
at_most = g.seq (λ a b. (a, b)) term (word w.AtMost ▷ term)

-- block "else" block
unfoldable pub two_blocks : G (Block × Block)
two_blocks = g.seq (λ a b. (a, b)) (g.call ABlock (λ x. x)) (word w.Else ▷ g.call ABlock (λ x. x))

-- "if" term "<=" term block "else" block
unfoldable pub if_last : G Last
if_last =
    g.spanned (λ ts (p : (Term × Term) × (Block × Block)). l.If p.0.0 p.0.1 p.1.0 p.1.1 (cover ts))
    (word w.If ▷ g.seq (λ c b. (c, b)) at_most two_blocks)

-- "#" NUMBER pat, where the NUMBER is i and the tag is open to the end of the pattern
unfoldable pub hash_pat : ℕ → G Pat
hash_pat i = opened w.Hash (the_number i ▷ pat)

-- ("inl" | "#" 0) pat
unfoldable pub left_pat : G Pat
left_pat = g.either (yes (w.Inl ∷ [])) (opened w.Inl pat) (hash_pat 0)

-- ("inr" | "#" 1) pat
unfoldable pub right_pat : G Pat
right_pat = g.either (yes (w.Inr ∷ [])) (opened w.Inr pat) (hash_pat 1)

-- the tag of the arm i and its pattern
abbrev pub tagged_pat : ℕ → G Pat
tagged_pat zero = left_pat
tagged_pat (suc zero) = right_pat
tagged_pat (suc (suc i)) = hash_pat (suc (suc i))

-- tag pat block, where the tag is that of the arm i
unfoldable pub arm : ℕ → G SurfaceArm
arm i = g.seq (λ q b. roll-SurfaceArm (record { pat = q; block = b })) (tagged_pat i) (g.call ABlock (λ b. b))

-- { tag pat block }, at most n, from the arm i on
abbrev pub arms_from : (n i : ℕ) → G (List SurfaceArm)
arms_from zero i = g.pure []
arms_from (suc n) i = g.either (yes (w.Hash ∷ [])) (g.seq (λ a xs. a ∷ xs) (arm i) (arms_from n (suc i))) (g.pure [])

-- { tag pat block }, from the third arm on
unfoldable pub more_arms : G (List SurfaceArm)
more_arms = arms_from more_arms_than_two 2

-- "{" tag pat block tag pat block { tag pat block } "}"
unfoldable pub arms : G (List SurfaceArm)
arms = opened w.LeftBrace (g.seq (λ a xs. a ∷ xs) (arm 0) (g.seq (λ b xs. b ∷ xs) (arm 1) (more_arms ◁ word w.RightBrace)))

-- "match" NAME "{" tag pat block tag pat block { tag pat block } "}"
unfoldable pub match_last : G Last
match_last =
    g.spanned (λ ts (p : Named × List SurfaceArm). l.Match p.0.name p.0.span p.1 (cover ts)) (word w.Match ▷ g.seq (λ n a. (n, a)) name arms)

-- "as" NAME "," NAME
unfoldable pub as_names : G (Named × Named)
as_names = word w.As ▷ g.seq (λ a b. (a, b)) name (word w.Comma ▷ name)

-- "else" block
unfoldable pub next_block : G Block
next_block = word w.Else ▷ g.call ABlock (λ x. x)

-- { "else" block }, at most 14
unfoldable pub more_blocks : G (List Block)
more_blocks = up_to more_arms_than_two (w.Else ∷ []) next_block

-- block "else" block { "else" block }
unfoldable pub blocks : G (List Block)
blocks = g.seq (λ a bs. a ∷ bs) (g.call ABlock (λ x. x)) (g.seq (λ b bs. b ∷ bs) next_block more_blocks)

-- "branch" NAME [path] proof "as" NAME "," NAME block "else" block { "else" block }
unfoldable pub branch_last : G Last
branch_last =
    g.spanned (λ ts (p : Access × ((Named × Named) × List Block)).
    l.Branch p.0.channel.name p.0.channel.span p.0.route.path p.0.route.span p.0.proof p.1.0.0.name p.1.0.0.span p.1.0.1.name p.1.0.1.span p.1.1 (cover ts))
    (word w.Branch ▷ g.seq (λ a p. (a, p)) access (g.seq (λ n b. (n, b)) as_names blocks))

-- "absurd" proof
unfoldable pub absurd_last : G Last
absurd_last = g.spanned (λ ts q. l.Absurd q (cover ts)) (word w.Absurd ▷ proof)

-- "(" [ start { "," start } ] ")"
unfoldable pub loop_params : G (List Start)
loop_params = opened w.LeftParen (closed w.RightParen starts)

-- "loop" NAME [binds] "(" [ start { "," start } ] ")" "->" res proof block
unfoldable pub loop_last : G Last
loop_last =
    g.spanned (λ ts (p : Named × (Bound × (List Start × (Res × (Proof × Block))))).
    l.Loop p.0.name p.0.span p.1.0 p.1.1.0 p.1.1.1.0 p.1.1.1.1.0 p.1.1.1.1.1 (cover ts))
    (word w.Loop ▷ g.seq (λ n p. (n, p)) name (g.seq (λ b p. (b, p)) bound (g.seq (λ s p. (s, p)) loop_params
    (g.seq (λ r p. (r, p)) (word w.Arrow ▷ res) (g.seq (λ q b. (q, b)) proof (g.call ABlock (λ b. b)))))))

-- "again" "(" [values] ")" proof
unfoldable pub again_last : G Last
again_last = g.spanned (λ ts (p : List Supply × Proof). l.Again p.0 p.1 (cover ts)) (word w.Again ▷ g.seq (λ vs q. (vs, q)) given_values proof)

-- "match" .. | "branch" .. | "absurd" .. | "loop" .. | "again" ..
unfoldable pub other_last : G Last
other_last =
    g.either (yes (w.Match ∷ [])) match_last
    (g.either (yes (w.Branch ∷ [])) branch_last
    (g.either (yes (w.Absurd ∷ [])) absurd_last (g.either (yes (w.Loop ∷ [])) loop_last again_last)))

unfoldable pub last : G Last
last = g.either (yes (w.Ret ∷ [])) ret_last (g.either (name_code ∷ []) tail_last (g.either (yes (w.If ∷ [])) if_last other_last))

-- ---- block = "{" { stmt ";" } last "}"

-- { stmt ";" }
unfoldable pub stmts : G (List Stmt)
stmts = repeated stmt_words (stmt ◁ word w.Semicolon)

unfoldable pub block : G Block
block = opened w.LeftBrace (g.seq (λ ss x. roll-Block (record { stmts = ss; last = x })) stmts (last ◁ word w.RightBrace))
