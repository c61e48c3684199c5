-- The spans in terms, binders, references and resources stand where their tokens do.
use Rattle.std.proofs.Common.{ℕ, List, [], ◌∷◌, map, Option, Some, None}
use denote.Hole.Carrier.{hidden}
use Rattle.chan_base.specs.declared.spans.Span.{Span}
use mathlib.Core.Former.{this, list_count, list_put}
use mathlib.Core.List.{map as shape_map}
use Rattle.chan_syntax.specs.declared.resources.Shape.TheBlock.{hidden-the_row-Res-0, hidden-the_row-Res-1, back-the_row-Res}
use Rattle.chan_syntax.specs.declared.resources.Shape.TheVariants as s
use Rattle.chan_syntax.specs.declared.resources.Res.{Res}
use Rattle.grammar_laws.specs.Grammar as g
use Rattle.surface_grammar.specs.declared.words.Word.TheVariants as w
use Rattle.surface_grammar.specs.declared.parts.Named.{Named}
use Rattle.surface_grammar.specs.declared.parts.Names.{Names}
use Rattle.surface_grammar.specs.declared.parts.Digits.{Digits}
use Rattle.surface_grammar.specs.Grammar.{ARes, more_arms_than_two, name, number, names}
use Rattle.surface_grammar.specs.Terms.{part_of, times, number_prod, prod, minus_prod, first_part, next_part, more_parts, term, number_part, number_term, terms, one_term, two_terms, term_and_number, relation, limit, limits, limits_to_bracket, binds, bound, dual, args, reference, two_res, next_res, more_res, sum_res, shape, res, param}
use Rattle.fault_places.specs.Spans.{Every, OfNames, InPart, InTerm, InLimit, InBound, InRef, InShape, InResources, InRes, InParam}
use Rattle.fault_places.proofs.Placed.{SpanFact, Placed, Begun, begun_one, begun_left, begun_right, begun_either, word_begun, placed_pure, placed_one, placed_seq, placed_either, placed_call, placed_spanned, placed_nest, EveryOf, NoSpan, Both, word_placed, placed_map, placed_behind, placed_before, placed_two, placed_many, placed_up_to, placed_listed, placed_closed}

-- ---- names and numbers

abbrev pub InName : SpanFact Named
InName P n = P n.span

abbrev pub InNames : SpanFact Names
InNames P ns = OfNames P ns.names ns.spans

abbrev pub InDigits : SpanFact Digits
InDigits P d = P d.span

pub name_placed : Placed name InName
unfolding name
name_placed = placed_one (λ P t p. p)

pub name_begun : Begun name
unfolding name
name_begun = begun_one

pub number_placed : Placed number InDigits
unfolding number
number_placed = placed_one (λ P t p. p)

number_begun : Begun number
unfolding number
number_begun = begun_one

of_names : (P : Span → Type 0) (ns : List Named) → Every (InName P) ns → OfNames P (map (λ (n : Named). n.name) ns) (map (λ (n : Named). n.span) ns)
of_names P [] p = tt
of_names P (n ∷ ns) p = (p.0, of_names P ns p.1)

pub names_placed : Placed names InNames
unfolding names
names_placed = placed_map (placed_listed name_placed) of_names

-- ---- terms

abbrev pub InAnyName : SpanFact (Option Named)
InAnyName P None = Unit {0}
InAnyName P (Some n) = P n.span

times_placed : Placed times InAnyName
unfolding times
times_placed = placed_either (placed_behind w.Star (placed_map name_placed (λ P n p. p))) (placed_pure (λ P. tt))

in_part : (P : Span → Type 0) (factor : ℕ) (n : Option Named) → InAnyName P n → InPart P (part_of factor n)
in_part P factor None p = tt
in_part P factor (Some n) p = p

number_prod_placed : Placed number_prod InPart
unfolding number_prod
number_prod_placed = placed_seq number_placed times_placed (λ P d n p q. in_part P d.value n q)

number_prod_begun : Begun number_prod
unfolding number_prod
number_prod_begun = begun_left number_begun

prod_placed : Placed prod InPart
unfolding prod
prod_placed = placed_either number_prod_placed (placed_map name_placed (λ P n p. p))

prod_begun : Begun prod
unfolding prod
prod_begun = begun_either number_prod_begun (begun_left name_begun)

minus_prod_placed : Placed minus_prod InPart
unfolding minus_prod
minus_prod_placed = placed_behind w.Minus (placed_map prod_placed (λ P x p. p))

minus_prod_begun : Begun minus_prod
unfolding minus_prod
minus_prod_begun = begun_left (word_begun w.Minus)

first_placed : Placed first_part InPart
unfolding first_part
first_placed = placed_either minus_prod_placed prod_placed

first_begun : Begun first_part
unfolding first_part
first_begun = begun_either minus_prod_begun prod_begun

next_placed : Placed next_part InPart
unfolding next_part
next_placed = placed_either (placed_behind w.Plus prod_placed) minus_prod_placed

pub more_parts_placed : Placed more_parts (EveryOf InPart)
unfolding more_parts
more_parts_placed = placed_many next_placed

pub term_placed : Placed term InTerm
unfolding term
term_placed = placed_spanned {EA = EveryOf InPart} (placed_seq first_placed more_parts_placed (λ P x xs p ps. (p, ps))) (begun_left first_begun) (λ P ts x p span. (p, span))

number_part_placed : Placed number_part InPart
unfolding number_part
number_part_placed = placed_either minus_prod_placed number_prod_placed

number_part_begun : Begun number_part
unfolding number_part
number_part_begun = begun_either minus_prod_begun number_prod_begun

pub number_term_placed : Placed number_term InTerm
unfolding number_term
number_term_placed =
    placed_spanned {EA = EveryOf InPart} (placed_seq number_part_placed more_parts_placed (λ P x xs p ps. (p, ps))) (begun_left number_part_begun) (λ P ts x p span. (p, span))

pub terms_placed : Placed terms (EveryOf InTerm)
unfolding terms
terms_placed = placed_listed term_placed

one_term_placed : Placed one_term InTerm
unfolding one_term
one_term_placed = placed_nest (placed_before w.RightParen term_placed)

pub two_terms_placed : Placed two_terms (Both InTerm InTerm)
unfolding two_terms
two_terms_placed = placed_nest (placed_two term_placed (placed_behind w.Comma (placed_before w.RightParen term_placed)))

pub term_and_number_placed : Placed term_and_number (Both InTerm InDigits)
unfolding term_and_number
term_and_number_placed = placed_nest (placed_two term_placed (placed_behind w.Comma (placed_before w.RightParen number_placed)))

-- ---- binders

relation_placed : Placed relation NoSpan
unfolding relation
relation_placed =
    placed_either (placed_map (word_placed w.AtMost) (λ P x p. tt)) (placed_either (placed_map (word_placed w.Less) (λ P x p. tt)) (placed_map (word_placed w.Equals) (λ P x p. tt)))

limit_placed : Placed limit InLimit
unfolding limit
limit_placed = placed_seq term_placed (placed_two relation_placed term_placed) (λ P a x p q. (p, q.1))

limits_placed : Placed limits (EveryOf InLimit)
unfolding limits
limits_placed = placed_listed limit_placed

limits_to_bracket_placed : Placed limits_to_bracket (EveryOf InLimit)
unfolding limits_to_bracket
limits_to_bracket_placed = placed_either (placed_behind w.Colon (placed_before w.RightBracket limits_placed)) (placed_map (word_placed w.RightBracket) (λ P x p. tt))

binds_placed : Placed binds InBound
unfolding binds
binds_placed = placed_nest (placed_seq names_placed limits_to_bracket_placed (λ P ns ls p q. (p, q)))

pub bound_placed : Placed bound InBound
unfolding bound
bound_placed = placed_either binds_placed (placed_pure (λ P. (tt, tt)))

-- ---- references

dual_placed : Placed dual NoSpan
unfolding dual
dual_placed = placed_either (placed_map (word_placed w.Tilde) (λ P x p. tt)) (placed_pure (λ P. tt))

args_placed : Placed args (EveryOf InTerm)
unfolding args
args_placed = placed_nest (placed_closed w.RightParen terms_placed)

pub reference_placed : Placed reference InRef
unfolding reference
reference_placed =
    placed_spanned (placed_two dual_placed (placed_two name_placed args_placed)) (begun_right (begun_left name_begun)) (λ P ts x p span. (p.1.0, p.1.1, span))

-- ---- resources

in_pair : (P : Span → Type 0) (a b : Res) → InRes P a → InRes P b → InShape P (s.Pair a b)
unfolding hidden hidden-the_row-Res-0
in_pair P a b p q = (p, q)

in_rows : (P : Span → Type 0) (rs : List Res) → Every (InRes P) rs → InResources P (back-the_row-Res (list_count (this {0}) (shape_map ((this {0}).shape Res) rs) 0) (list_put (this {0}) Res rs 0 (tt {0})))
in_rows P [] p = tt
in_rows P (r ∷ rs) p = (p.0, in_rows P rs p.1)

in_sum : (P : Span → Type 0) (rs : List Res) → Every (InRes P) rs → InShape P (s.Sum rs)
unfolding hidden hidden-the_row-Res-1
in_sum P rs p = in_rows P rs p

one_res_placed : Placed (g.call ARes (λ a. a)) InRes
one_res_placed = placed_call (λ P r p. p)

two_res_placed : Placed two_res (Both InRes InRes)
unfolding two_res
two_res_placed = placed_nest (placed_two one_res_placed (placed_behind w.Comma (placed_before w.RightParen one_res_placed)))

next_res_placed : Placed next_res InRes
unfolding next_res
next_res_placed = placed_behind w.Comma one_res_placed

more_res_placed : Placed more_res (EveryOf InRes)
unfolding more_res
more_res_placed = placed_up_to more_arms_than_two (w.Comma ∷ []) next_res_placed

sum_res_placed : Placed sum_res (EveryOf InRes)
unfolding sum_res
sum_res_placed =
    placed_nest (placed_seq one_res_placed (placed_seq next_res_placed (placed_before w.RightParen more_res_placed) (λ P x xs p q. (p, q))) (λ P x xs p q. (p, q)))

pub shape_placed : Placed shape InShape
unfolding shape
shape_placed =
    placed_either (placed_map (word_placed w.Unit) (λ P x p. tt))
    (placed_either (placed_behind w.Int (placed_map one_term_placed (λ P t p. p)))
    (placed_either (placed_behind w.End (placed_map reference_placed (λ P r p. p)))
    (placed_either (placed_behind w.Sum (placed_map sum_res_placed in_sum)) (placed_map two_res_placed (λ P x p. in_pair P x.0 x.1 p.0 p.1)))))

pub res_placed : Placed res InRes
unfolding res
res_placed = placed_seq bound_placed shape_placed (λ P b x p q. (p, q))

pub param_placed : Placed param InParam
unfolding param
param_placed = placed_seq name_placed (placed_behind w.Colon shape_placed) (λ P n x p q. (p, q))
