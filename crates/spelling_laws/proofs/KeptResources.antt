-- Shapes and resources are derived by their canonical words again.
use Rattle.std.proofs.Common.{◌≡◌, List, [], ◌∷◌, ◌++◌, map, refl, ap}
use denote.Hole.Carrier.{hidden}
use mathlib.Core.Former.{this, list_count, list_put}
use Rattle.chan_syntax.specs.declared.resources.Shape.{Sum', Row_of-Res, more_of-Res}
use Rattle.chan_syntax.specs.declared.resources.Shape.TheBlock.{hidden-the_row-Res-0, hidden-the_row-Res-1, back-the_row-Res}
use Rattle.chan_syntax.specs.declared.resources.Shape.TheVariants as v
use Rattle.chan_syntax.specs.declared.resources.Res.{Res}
use Rattle.grammar_laws.specs.Grammar as g
use Rattle.text_tokens.specs.Text.{Token}
use Rattle.surface_spelling.specs.Layout.{behind_commas, listed as listed_pieces, in_parens, pair}
use Rattle.surface_spelling.specs.Operands as s
use Rattle.surface_spelling.specs.Erased as e
use Rattle.surface_spelling.proofs.Spelled.{shape_unit, shape_int, shape_end, shape_pair, shape_sum}
use Rattle.surface_grammar.specs.declared.words.Word.TheVariants as w
use Rattle.surface_grammar.specs.Words.{spelling}
use Rattle.surface_grammar.specs.Grammar.{ARes, more_arms_than_two}
use Rattle.surface_grammar.specs.Terms.{two_res, next_res, more_res, sum_res, shape, res, param}
use Rattle.spelling_cuts.specs.Words.{words}
use Rattle.spelling_laws.proofs.WordTokens.{word_of}
use Rattle.spelling_laws.proofs.Kept.{words-append, Kept, word_kept, kept_seq, kept_either, kept_up_to, kept_call, kept_nest, kept_map, kept_behind, kept_before, kept_behind_map, kept_and_more, kept_pair, parens_words}
use Rattle.spelling_laws.proofs.KeptTerms.{name_kept, one_term_kept, bound_before_kept, reference_kept}

erased_pair : (a b : Res) → e.shape (v.Pair a b) ≡ v.Pair (e.res a) (e.res b)
unfolding hidden hidden-the_row-Res-0
erased_pair a b = refl

-- resources in a row, and how many
abbrev Rows : Type 0
Rows = (m : List (this {0}).Shape) × Row_of-Res (list_count (this {0}) m 0)

abbrev rows_of : List Res → Rows
rows_of rs = (map ((this {0}).shape Res) rs, back-the_row-Res (list_count (this {0}) (map ((this {0}).shape Res) rs) 0) (list_put (this {0}) Res rs 0 (tt {0})))

rows_erased : (rs : List Res) → ◌≡◌ {A = Rows} ((rows_of rs).0, e.boxed_res (rows_of rs).1) (rows_of (map e.res rs))
rows_erased [] = refl
rows_erased (r ∷ rs) = ap (λ (k : Rows). (tt {0} ∷ k.0, more_of-Res (e.bound r.bound) (e.shape r.shape) k.1)) (rows_erased rs)

erased_sum : (rs : List Res) → e.shape (v.Sum rs) ≡ v.Sum (map e.res rs)
unfolding hidden hidden-the_row-Res-1
erased_sum rs = ap (λ (k : Rows). Sum' k.0 k.1) (rows_erased rs)

one_res_kept : Kept (g.call ARes (λ a. a)) e.res (λ r. words (s.res r))
one_res_kept = kept_call 0 (λ r. refl) (λ r. refl)

two_res_kept : Kept two_res (λ (p : Res × Res). (e.res p.0, e.res p.1)) (λ (p : Res × Res). words (pair (s.res p.0) (s.res p.1)))
unfolding two_res
two_res_kept = kept_pair s.res s.res one_res_kept one_res_kept

next_res_kept : Kept next_res e.res (λ r. word_of w.Comma ∷ words (s.res r))
unfolding next_res
next_res_kept = kept_behind w.Comma one_res_kept (λ r. refl)

behind_words : (r : Res) (rs : List Res) → words (behind_commas s.res (r ∷ rs)) ≡ (word_of w.Comma ∷ words (s.res r)) ++ words (behind_commas s.res rs)
unfolding behind_commas spelling
behind_words r rs = ap (λ (ts : List Token). word_of w.Comma ∷ ts) (words-append (s.res r) (behind_commas s.res rs))

more_res_kept : Kept more_res (map e.res) (λ rs. words (behind_commas s.res rs))
unfolding more_res behind_commas
more_res_kept = kept_up_to more_arms_than_two (w.Comma ∷ []) next_res_kept refl behind_words

sum_res_kept : Kept sum_res (map e.res) (λ rs. words (in_parens (listed_pieces s.res rs)))
unfolding sum_res listed_pieces
sum_res_kept =
    kept_nest w.LeftParen
    (kept_and_more w.RightParen (λ rs. words (behind_commas s.res rs)) (λ rs. words (listed_pieces s.res rs)) one_res_kept
    (kept_and_more w.RightParen (λ rs. words (behind_commas s.res rs)) (λ rs. words (behind_commas s.res rs)) next_res_kept (kept_before w.RightParen more_res_kept (λ rs. refl)) behind_words)
    (λ r rs. words-append (s.res r) (behind_commas s.res rs)))
    (λ rs. parens_words (listed_pieces s.res rs))

pub shape_kept : Kept shape e.shape (λ x. words (s.shape x))
unfolding shape spelling
shape_kept =
    kept_either (kept_map (word_kept w.Unit) (λ x. refl) (λ x. ap words shape_unit))
    (kept_either (kept_behind_map w.Int one_term_kept (λ t. refl) (λ t. ap words (shape_int t)))
    (kept_either (kept_behind_map w.End reference_kept (λ r. refl) (λ r. ap words (shape_end r)))
    (kept_either (kept_behind_map w.Sum sum_res_kept erased_sum (λ rs. ap words (shape_sum rs)))
    (kept_map two_res_kept (λ p. erased_pair p.0 p.1) (λ p. ap words (shape_pair p.0 p.1))))))

pub res_kept : Kept res e.res (λ r. words (s.res r))
unfolding res s.res
res_kept = kept_seq bound_before_kept shape_kept (λ b x. refl) (λ b x. words-append (s.binds_before b.names b.limits) (s.shape x))

pub param_kept : Kept param e.param (λ p. words (s.param p))
unfolding param s.param spelling
param_kept = kept_seq name_kept (kept_behind w.Colon shape_kept (λ x. refl)) (λ n x. refl) (λ n x. refl)
