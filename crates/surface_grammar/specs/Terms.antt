-- Terms, limits, references and resources.
use Rattle.std.specs.Prelude.{ℕ, Bool, true, false, List, [], ◌∷◌, Option, Some, None, pos}
use Rattle.chan_syntax.specs.declared.linear.Part.{Part}
use Rattle.chan_syntax.specs.declared.linear.Term.{Term}
use Rattle.chan_syntax.specs.declared.linear.Relation.{Relation}
use Rattle.chan_syntax.specs.declared.linear.Relation.TheVariants as r
use Rattle.chan_syntax.specs.declared.linear.Limit.{Limit}
use Rattle.chan_syntax.specs.declared.linear.Bound.{Bound}
use Rattle.chan_syntax.specs.declared.resources.Ref.{Ref}
use Rattle.chan_syntax.specs.declared.resources.Shape.{Shape}
use Rattle.chan_syntax.specs.declared.resources.Shape.TheVariants as s
use Rattle.chan_syntax.specs.declared.resources.Res.{Res, roll-Res}
use Rattle.chan_syntax.specs.declared.resources.Param.{Param}
use Rattle.grammar_laws.specs.Grammar as g
use Rattle.surface_grammar.specs.declared.words.Word.TheVariants as w
use Rattle.surface_grammar.specs.declared.parts.Named.{Named}
use Rattle.surface_grammar.specs.declared.parts.Names.{Names}
use Rattle.surface_grammar.specs.declared.parts.Digits.{Digits}
use Rattle.surface_grammar.specs.Words.{number_code}
use Rattle.surface_grammar.specs.Grammar.{G, ARes, cover, word, ◌▷◌, ◌◁◌, ◌⇒◌, yes, repeated, up_to, more_arms_than_two, listed, closed, opened, name, number, names}

-- ---- term = ["-"] prod { ("+" | "-") prod }

-- the part of a sum: a factor, and a name where there is one
abbrev pub part_of : ℕ → Option Named → Part
part_of factor None = record { negative = false; factor = pos factor; name = None; name_span = None }
part_of factor (Some n) = record { negative = false; factor = pos factor; name = Some n.name; name_span = Some n.span }

-- a part that is taken away, or added
abbrev pub with_sign : Bool → Part → Part
with_sign negative p = record { negative = negative; factor = p.factor; name = p.name; name_span = p.name_span }

-- [ "*" NAME ]
unfoldable pub times : G (Option Named)
times = g.either (yes (w.Star ∷ [])) (word w.Star ▷ (name ⇒ Some)) (g.pure None)

-- NUMBER [ "*" NAME ]
unfoldable pub number_prod : G Part
number_prod = g.seq (λ (d : Digits) n. part_of d.value n) number times

-- prod = NUMBER [ "*" NAME ] | NAME
unfoldable pub prod : G Part
prod = g.either (number_code ∷ []) number_prod (name ⇒ (λ n. part_of 1 (Some n)))

-- "-" prod
unfoldable pub minus_prod : G Part
minus_prod = word w.Minus ▷ (prod ⇒ with_sign true)

-- ["-"] prod
unfoldable pub first_part : G Part
first_part = g.either (yes (w.Minus ∷ [])) minus_prod prod

-- ("+" | "-") prod
unfoldable pub next_part : G Part
next_part = g.either (yes (w.Plus ∷ [])) (word w.Plus ▷ prod) minus_prod

-- { ("+" | "-") prod }
unfoldable pub more_parts : G (List Part)
more_parts = repeated (w.Plus ∷ w.Minus ∷ []) next_part

unfoldable pub term : G Term
term = g.spanned (λ ts ps. record { parts = ps; span = cover ts }) (g.seq (λ p ps. p ∷ ps) first_part more_parts)

-- ["-"] prod that doesn't begin with a NAME
unfoldable pub number_part : G Part
number_part = g.either (yes (w.Minus ∷ [])) minus_prod number_prod

-- a term that doesn't begin with a NAME
unfoldable pub number_term : G Term
number_term = g.spanned (λ ts ps. record { parts = ps; span = cover ts }) (g.seq (λ p ps. p ∷ ps) number_part more_parts)

-- terms = term { "," term }
unfoldable pub terms : G (List Term)
terms = listed term

-- "(" term ")"
unfoldable pub one_term : G Term
one_term = opened w.LeftParen (term ◁ word w.RightParen)

-- "(" term "," term ")"
unfoldable pub two_terms : G (Term × Term)
two_terms = opened w.LeftParen (g.seq (λ a b. (a, b)) term (word w.Comma ▷ (term ◁ word w.RightParen)))

-- "(" term "," NUMBER ")"
unfoldable pub term_and_number : G (Term × Digits)
term_and_number = opened w.LeftParen (g.seq (λ a b. (a, b)) term (word w.Comma ▷ (number ◁ word w.RightParen)))

-- ---- binds = "[" names [ ":" limit { "," limit } ] "]"

-- "<=" | "<" | "="
unfoldable pub relation : G Relation
relation =
    g.either (yes (w.AtMost ∷ [])) (word w.AtMost ⇒ (λ _. r.AtMost))
    (g.either (yes (w.Less ∷ [])) (word w.Less ⇒ (λ _. r.Less)) (word w.Equals ⇒ (λ _. r.Same)))

-- limit = term ("<=" | "<" | "=") term
unfoldable pub limit : G Limit
limit = g.seq (λ a (p : Relation × Term). record { left = a; relation = p.0; right = p.1 }) term (g.seq (λ r b. (r, b)) relation term)

-- limit { "," limit }
unfoldable pub limits : G (List Limit)
limits = listed limit

-- [ ":" limit { "," limit } ] "]"
unfoldable pub limits_to_bracket : G (List Limit)
limits_to_bracket = g.either (yes (w.Colon ∷ [])) (word w.Colon ▷ (limits ◁ word w.RightBracket)) (word w.RightBracket ⇒ (λ _. []))

unfoldable pub binds : G Bound
binds = opened w.LeftBracket (g.seq (λ (ns : Names) ls. record { names = ns.names; names_spans = ns.spans; limits = ls }) names limits_to_bracket)

-- no binder
abbrev pub no_bound : Bound
no_bound = record { names = []; names_spans = []; limits = [] }

-- [ binds ]
unfoldable pub bound : G Bound
bound = g.either (yes (w.LeftBracket ∷ [])) binds (g.pure no_bound)

-- ---- ref = ["~"] NAME "(" [terms] ")"

-- [ "~" ]
unfoldable pub dual : G Bool
dual = g.either (yes (w.Tilde ∷ [])) (word w.Tilde ⇒ (λ _. true)) (g.pure false)

-- "(" [terms] ")"
unfoldable pub args : G (List Term)
args = opened w.LeftParen (closed w.RightParen terms)

unfoldable pub reference : G Ref
reference =
    g.spanned (λ ts (p : Bool × (Named × List Term)). record { dual = p.0; name = p.1.0.name; name_span = p.1.0.span; args = p.1.1; span = cover ts })
    (g.seq (λ d p. (d, p)) dual (g.seq (λ n ts. (n, ts)) name args))

-- ---- shape = "unit" | "int" "(" term ")" | "end" ref | "(" res "," res ")" | "sum" "(" res "," res { "," res } ")"

-- "(" res "," res ")"
unfoldable pub two_res : G (Res × Res)
two_res = opened w.LeftParen (g.seq (λ a b. (a, b)) (g.call ARes (λ a. a)) (word w.Comma ▷ (g.call ARes (λ a. a) ◁ word w.RightParen)))

-- "," res
unfoldable pub next_res : G Res
next_res = word w.Comma ▷ g.call ARes (λ a. a)

-- { "," res }, at most 14
unfoldable pub more_res : G (List Res)
more_res = up_to more_arms_than_two (w.Comma ∷ []) next_res

-- "(" res "," res { "," res } ")"
unfoldable pub sum_res : G (List Res)
sum_res =
    opened w.LeftParen (g.seq (λ a rs. a ∷ rs) (g.call ARes (λ a. a)) (g.seq (λ b rs. b ∷ rs) next_res (more_res ◁ word w.RightParen)))

unfoldable pub shape : G Shape
shape =
    g.either (yes (w.Unit ∷ [])) (word w.Unit ⇒ (λ _. s.Unit))
    (g.either (yes (w.Int ∷ [])) (word w.Int ▷ (one_term ⇒ s.Int))
    (g.either (yes (w.End ∷ [])) (word w.End ▷ (reference ⇒ s.End))
    (g.either (yes (w.Sum ∷ [])) (word w.Sum ▷ (sum_res ⇒ s.Sum))
    (two_res ⇒ (λ (p : Res × Res). s.Pair p.0 p.1)))))

-- res = [binds] shape
unfoldable pub res : G Res
res = g.seq (λ b x. roll-Res (record { bound = b; shape = x })) bound shape

-- param = NAME ":" shape
unfoldable pub param : G Param
param = g.seq (λ (n : Named) x. record { name = n.name; name_span = n.span; shape = x }) name (word w.Colon ▷ shape)
