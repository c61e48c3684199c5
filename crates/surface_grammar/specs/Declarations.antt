-- Programs and their declarations.
use Rattle.std.specs.Prelude.{Bool, true, false, List, [], ◌∷◌, Option, Some, None}
use Rattle.chan_syntax.specs.declared.linear.Term.{Term}
use Rattle.chan_syntax.specs.declared.linear.Bound.{Bound}
use Rattle.chan_syntax.specs.declared.resources.Ref.{Ref}
use Rattle.chan_syntax.specs.declared.resources.Res.{Res}
use Rattle.chan_syntax.specs.declared.resources.Param.{Param}
use Rattle.chan_syntax.specs.declared.resources.Equation.{Equation}
use Rattle.chan_syntax.specs.declared.resources.Equation.TheVariants as e
use Rattle.chan_syntax.specs.declared.surface_tree.Block.{Block}
use Rattle.chan_syntax.specs.declared.surface_tree.Body.{Body}
use Rattle.chan_syntax.specs.declared.surface_tree.Body.TheVariants as b
use Rattle.chan_syntax.specs.declared.surface_tree.SurfaceProto.{SurfaceProto}
use Rattle.chan_syntax.specs.declared.surface_tree.SurfaceFunc.{SurfaceFunc}
use Rattle.chan_syntax.specs.declared.surface_tree.Decl.{Decl}
use Rattle.chan_syntax.specs.declared.surface_tree.Decl.TheVariants as d
use Rattle.chan_syntax.specs.declared.surface_tree.Surface.{Surface}
use Rattle.grammar_laws.specs.Grammar as g
use Rattle.surface_grammar.specs.declared.words.Word.TheVariants as w
use Rattle.surface_grammar.specs.declared.parts.Named.{Named}
use Rattle.surface_grammar.specs.declared.parts.Names.{Names}
use Rattle.surface_grammar.specs.Grammar.{G, ABlock, cover, word, ◌▷◌, ◌◁◌, ◌⇒◌, yes, repeated, up_to, more_arms_than_two, listed, closed, opened, name, names}
use Rattle.surface_grammar.specs.Terms.{bound, reference, res, param}
use Rattle.surface_grammar.specs.Operands.{no_names}
use Rattle.surface_grammar.specs.Statements.{at_most}

-- ---- pbody = ("send" | "recv") res [ "then" ref ] | "close" | "wait"
-- ----       | "if" term "<=" term "then" ref "else" ref
-- ----       | ("choice" | "offer") NAME "of" ref "|" ref { "|" ref }

-- [ "then" ref ]
unfoldable pub then_ref : G (Option Ref)
then_ref = g.either (yes (w.Then ∷ [])) (word w.Then ▷ (reference ⇒ Some)) (g.pure None)

-- "then" ref "else" ref
unfoldable pub two_refs : G (Ref × Ref)
two_refs = word w.Then ▷ g.seq (λ a b. (a, b)) reference (word w.Else ▷ reference)

-- term "<=" term "then" ref "else" ref
unfoldable pub branch : G Equation
branch = g.seq (λ (c : Term × Term) (r : Ref × Ref). e.Branch c.0 c.1 r.0 r.1) at_most two_refs

-- the equation that is no choice
unfoldable pub equation : G Equation
equation =
    g.either (yes (w.Send ∷ [])) (word w.Send ▷ g.seq e.Send res then_ref)
    (g.either (yes (w.Recv ∷ [])) (word w.Recv ▷ g.seq e.Recv res then_ref)
    (g.either (yes (w.Close ∷ [])) (word w.Close ⇒ (λ _. e.Close))
    (g.either (yes (w.Wait ∷ [])) (word w.Wait ⇒ (λ _. e.Wait)) (word w.If ▷ branch))))

-- "|" ref
unfoldable pub next_ref : G Ref
next_ref = word w.Bar ▷ reference

-- { "|" ref }, at most 14
unfoldable pub more_refs : G (List Ref)
more_refs = up_to more_arms_than_two (w.Bar ∷ []) next_ref

-- ref "|" ref { "|" ref }
unfoldable pub alternatives : G (List Ref)
alternatives = g.seq (λ a rs. a ∷ rs) reference (g.seq (λ b rs. b ∷ rs) next_ref more_refs)

-- NAME "of" ref "|" ref { "|" ref }
unfoldable pub choice : G (Named × List Ref)
choice = g.seq (λ n r. (n, r)) name (word w.Of ▷ alternatives)

-- a choice that is received, or sent
abbrev pub choice_of : Bool → Named × List Ref → Body
choice_of offer p = b.Choice offer p.0.name p.0.span p.1

unfoldable pub pbody : G Body
pbody =
    g.either (yes (w.Choice ∷ [])) (word w.Choice ▷ (choice ⇒ choice_of false))
    (g.either (yes (w.Offer ∷ [])) (word w.Offer ▷ (choice ⇒ choice_of true)) (equation ⇒ b.Plain))

-- ---- proto = "proto" NAME "(" [names] ")" "=" pbody ";"

-- [names] ")"
unfoldable pub names_to_paren : G Names
names_to_paren = g.either (yes (w.RightParen ∷ [])) (word w.RightParen ⇒ (λ _. no_names)) (names ◁ word w.RightParen)

-- "(" [names] ")"
unfoldable pub proto_params : G Names
proto_params = opened w.LeftParen names_to_paren

unfoldable pub proto : G SurfaceProto
proto =
    g.spanned (λ ts (p : Named × (Names × Body)). record { name = p.0.name; name_span = p.0.span; params = p.1.0.names; params_spans = p.1.0.spans; body = p.1.1; span = cover ts })
    (word w.Proto ▷ g.seq (λ n p. (n, p)) name (g.seq (λ ns x. (ns, x)) proto_params (word w.Equals ▷ (pbody ◁ word w.Semicolon))))

-- ---- func = "fn" NAME [binds] "(" [ param { "," param } ] ")" "->" res block

-- param { "," param }
unfoldable pub params : G (List Param)
params = listed param

-- "(" [ param { "," param } ] ")"
unfoldable pub func_params : G (List Param)
func_params = opened w.LeftParen (closed w.RightParen params)

unfoldable pub func : G SurfaceFunc
func =
    g.spanned (λ ts (p : Named × (Bound × (List Param × (Res × Block)))). record { name = p.0.name; name_span = p.0.span; bound = p.1.0; params = p.1.1.0; result = p.1.1.1.0; block = p.1.1.1.1; span = cover ts })
    (word w.Fn ▷ g.seq (λ n p. (n, p)) name (g.seq (λ b p. (b, p)) bound (g.seq (λ xs p. (xs, p)) func_params
    (g.seq (λ r x. (r, x)) (word w.Arrow ▷ res) (g.call ABlock (λ x. x))))))

-- ---- program = { proto | func }

-- proto | func
unfoldable pub decl : G Decl
decl = g.either (yes (w.Proto ∷ [])) (proto ⇒ d.Proto) (func ⇒ d.Func)

-- { proto | func }
unfoldable pub decls : G (List Decl)
decls = repeated (w.Proto ∷ w.Fn ∷ []) decl

unfoldable pub program : G Surface
program = decls ⇒ (λ ds. record { decls = ds })
