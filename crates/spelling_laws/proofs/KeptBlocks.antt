-- Blocks are derived by their canonical words again.
use Rattle.std.proofs.Common.{◌≡◌, ℕ, zero, suc, ◌+◌, List, [], ◌∷◌, ◌++◌, map, codes, Option, refl, sym, ◌∙◌, ap, ap₂, subst, append-nil, append_assoc}
use denote.Hole.Carrier.{hidden}
use mathlib.Core.Former.{this, list_count, list_put}
use Rattle.std.specs.List.{repeat}
use Rattle.chan_base.specs.declared.spans.Span.{Span}
use Rattle.chan_syntax.specs.declared.linear.Term.{Term}
use Rattle.chan_syntax.specs.declared.linear.Bound.{Bound}
use Rattle.chan_syntax.specs.declared.resources.Res.{Res}
use Rattle.chan_syntax.specs.declared.operands.Supply.{Supply}
use Rattle.chan_syntax.specs.declared.operands.Pat.{Pat}
use Rattle.chan_syntax.specs.declared.operands.Letter.{Letter}
use Rattle.chan_syntax.specs.declared.operands.Proof.{Proof}
use Rattle.chan_syntax.specs.declared.surface_tree.Start.{Start}
use Rattle.chan_syntax.specs.declared.surface_tree.Last.{If', Match', Branch', Loop', end_of-Last, more_of-Last, Row_of-SurfaceArm, more_of-SurfaceArm, Row_of-Block, more_of-Block}
use Rattle.chan_syntax.specs.declared.surface_tree.Last.TheVariants as l
use Rattle.chan_syntax.specs.declared.surface_tree.Last.TheBlock.{hidden-the_row-Stmt-0, hidden-the_row-Last-1, hidden-the_row-SurfaceArm-2, hidden-the_row-Block-3, back-the_row-SurfaceArm, back-the_row-Block}
use Rattle.chan_syntax.specs.declared.surface_tree.SurfaceArm.{SurfaceArm, roll-SurfaceArm}
use Rattle.chan_syntax.specs.declared.surface_tree.Block.{Block}
use Rattle.text_tokens.specs.Text.{Piece, Token}
use Rattle.grammar_laws.specs.Grammar as g
use Rattle.grammar_laws.specs.Grammar.{Below}
use Rattle.surface_spelling.specs.Layout.{keyword, mark, space, step, line, closing, in_braces, listed as listed_pieces, in_parens}
use Rattle.surface_spelling.specs.Operands as o
use Rattle.surface_spelling.specs.Blocks as s
use Rattle.surface_spelling.specs.Erased as e
use Rattle.surface_spelling.proofs.SpelledBlocks.{last_ret, last_tail, last_if, last_match, last_branch, last_absurd, last_loop, last_again}
use Rattle.surface_grammar.specs.declared.words.Word.{Word}
use Rattle.surface_grammar.specs.declared.words.Word.TheVariants as w
use Rattle.surface_grammar.specs.declared.parts.Named.{Named}
use Rattle.surface_grammar.specs.declared.parts.Access.{Access}
use Rattle.surface_grammar.specs.Words.{spelling, code, code_of}
use Rattle.surface_grammar.specs.Grammar.{cover, ◌▷◌, yes, more_arms_than_two, the_number}
use Rattle.surface_grammar.specs.Language.{body}
use Rattle.surface_grammar.specs.Operands.{pat}
use Rattle.surface_grammar.specs.Statements.{ret_last, tail_last, at_most, two_blocks, if_last, hash_pat, left_pat, right_pat, tagged_pat, arm, arms_from, more_arms, arms, match_last, as_names, next_block, more_blocks, blocks, branch_last, absurd_last, loop_params, loop_last, again_last, other_last, last, stmts, block}
use Rattle.spelling_cuts.specs.Words.{words, AreTokens}
use Rattle.spelling_laws.proofs.WordTokens.{word_of}
use Rattle.spelling_laws.proofs.Kept.{words-append, tokens_back, Kept, kept_as, kept_pure, kept_seq, kept_two, kept_either, kept_many, kept_spanned, kept_nest, written_nest, kept_first, kept_behind, kept_before, kept_and_more, kept_more_than_one, kept_parens}
use Rattle.spelling_laws.proofs.KeptTerms.{named, name_token, number_token, name_kept, the_number_kept, term_kept, bound_behind_kept}
use Rattle.spelling_laws.proofs.KeptResources.{res_kept}
use Rattle.spelling_laws.proofs.KeptOperands.{left_tag, right_tag, hash_tag, value_kept, given_values_kept, pat_kept}
use Rattle.spelling_laws.proofs.KeptProofs.{proof_kept}
use Rattle.spelling_laws.proofs.KeptParts.{access_words, access_kept, call_kept, starts_kept, one_block_kept}
use Rattle.spelling_laws.proofs.KeptLets.{Rows, rows_erased, sent_words, stmt_kept}

-- ---- layout

spaces_words : (d : ℕ) → words (repeat d (space ∷ [])) ≡ []
spaces_words zero = refl
spaces_words (suc d) = spaces_words d

pub line_words : (d : ℕ) → words (line d) ≡ []
unfolding line
line_words d = spaces_words d

on_line : (d : ℕ) (ps : List Piece) → words (line d ++ ps) ≡ words ps
on_line d ps = words-append (line d) ps ∙ ap (λ (ts : List Token). ts ++ words ps) (line_words d)

closing_words : (d : ℕ) → words (closing d) ≡ word_of w.RightBrace ∷ []
unfolding closing spelling
closing_words d = on_line d (mark (codes "}") ∷ [])

-- a space at the end
with_space : (ps : List Piece) → words (ps ++ space ∷ []) ≡ words ps
with_space ps = words-append ps (space ∷ []) ∙ append-nil (words ps)

-- ---- places of how blocks end

if_erased : (a b : Term) (x y : Block) (at : Span) → e.last (l.If a b x y at) ≡ l.If (e.term a) (e.term b) (e.block x) (e.block y) e.nowhere
unfolding hidden hidden-the_row-Stmt-0 hidden-the_row-Last-1
if_erased a b x y at =
    ap₂ (λ (r k : Rows). If' (e.term a) (e.term b) r.0 r.1 (tt {0}) (more_of-Last (e.last x.last) end_of-Last) k.0 k.1 (tt {0}) (more_of-Last (e.last y.last) end_of-Last) e.nowhere)
    (rows_erased x.stmts) (rows_erased y.stmts)

-- arms in a row, and how many
abbrev ArmRows : Type 0
ArmRows = (m : List (this {0}).Shape) × Row_of-SurfaceArm (list_count (this {0}) m 0)

abbrev arm_rows : List SurfaceArm → ArmRows
arm_rows xs = (map ((this {0}).shape SurfaceArm) xs, back-the_row-SurfaceArm (list_count (this {0}) (map ((this {0}).shape SurfaceArm) xs) 0) (list_put (this {0}) SurfaceArm xs 0 (tt {0})))

abbrev arm_of : SurfaceArm → SurfaceArm
arm_of x = roll-SurfaceArm (record { pat = e.pat x.pat; block = e.block x.block })

arms_erased : (xs : List SurfaceArm) → ◌≡◌ {A = ArmRows} ((arm_rows xs).0, e.row_of_arms (arm_rows xs).1) (arm_rows (map arm_of xs))
unfolding hidden hidden-the_row-Stmt-0 hidden-the_row-Last-1
arms_erased [] = refl
arms_erased (x ∷ xs) =
    ap₂ (λ (k : Rows) (r : ArmRows). (tt {0} ∷ r.0, more_of-SurfaceArm (e.pat x.pat) k.0 k.1 (tt {0}) (more_of-Last (e.last x.block.last) end_of-Last) r.1))
    (rows_erased x.block.stmts) (arms_erased xs)

match_erased : (n : List ℕ) (at : Span) (xs : List SurfaceArm) (bt : Span) → e.last (l.Match n at xs bt) ≡ l.Match n e.nowhere (map arm_of xs) e.nowhere
unfolding hidden hidden-the_row-SurfaceArm-2
match_erased n at xs bt = ap (λ (k : ArmRows). Match' n e.nowhere k.0 k.1 e.nowhere) (arms_erased xs)

-- blocks in a row, and how many
abbrev BlockRows : Type 0
BlockRows = (m : List (this {0}).Shape) × Row_of-Block (list_count (this {0}) m 0)

abbrev block_rows : List Block → BlockRows
block_rows bs = (map ((this {0}).shape Block) bs, back-the_row-Block (list_count (this {0}) (map ((this {0}).shape Block) bs) 0) (list_put (this {0}) Block bs 0 (tt {0})))

blocks_erased : (bs : List Block) → ◌≡◌ {A = BlockRows} ((block_rows bs).0, e.row_of_blocks (block_rows bs).1) (block_rows (map e.block bs))
unfolding hidden hidden-the_row-Stmt-0 hidden-the_row-Last-1
blocks_erased [] = refl
blocks_erased (b ∷ bs) =
    ap₂ (λ (k : Rows) (r : BlockRows). (tt {0} ∷ r.0, more_of-Block k.0 k.1 (tt {0}) (more_of-Last (e.last b.last) end_of-Last) r.1)) (rows_erased b.stmts) (blocks_erased bs)

branch_erased : (c : List ℕ) (at : Span) (p : List Letter) (bt : Option Span) (q : Proof) (b : List ℕ) (ct : Span) (z : List ℕ) (dt : Span) (bs : List Block) (et : Span)
    → e.last (l.Branch c at p bt q b ct z dt bs et) ≡ l.Branch c e.nowhere p (e.place bt) (e.proof q) b e.nowhere z e.nowhere (map e.block bs) e.nowhere
unfolding hidden hidden-the_row-Block-3
branch_erased c at p bt q b ct z dt bs et = ap (λ (k : BlockRows). Branch' c e.nowhere p (e.place bt) (e.proof q) b e.nowhere z e.nowhere k.0 k.1 e.nowhere) (blocks_erased bs)

loop_erased : (n : List ℕ) (at : Span) (b : Bound) (xs : List Start) (r : Res) (q : Proof) (x : Block) (bt : Span)
    → e.last (l.Loop n at b xs r q x bt) ≡ l.Loop n e.nowhere (e.bound b) (map e.start xs) (e.res r) (e.proof q) (e.block x) e.nowhere
unfolding hidden hidden-the_row-Stmt-0 hidden-the_row-Last-1
loop_erased n at b xs r q x bt =
    ap (λ (k : Rows). Loop' n e.nowhere (e.bound b) (map e.start xs) (e.res r) (e.proof q) k.0 k.1 (tt {0}) (more_of-Last (e.last x.last) end_of-Last) e.nowhere) (rows_erased x.stmts)

-- ---- how blocks end

ret_kept : (d : ℕ) → Kept ret_last e.last (λ x. words (s.last d x))
unfolding ret_last cover spelling
ret_kept d =
    kept_spanned {sa = λ (p : Supply × Proof). word_of w.Ret ∷ words (o.value p.0) ++ words (o.proof p.1)} (kept_behind w.Ret (kept_two value_kept proof_kept) (λ p. refl)) (λ ts p. refl)
    (λ ts p. ap words (last_ret d p.0 p.1 (cover ts)) ∙ ap (λ (ts : List Token). word_of w.Ret ∷ ts) (sent_words p.0 p.1))

tail_kept : (d : ℕ) → Kept tail_last e.last (λ x. words (s.last d x))
unfolding tail_last cover
tail_kept d = kept_spanned call_kept (λ ts c. refl) (λ ts c. ap words (last_tail d c.func.name c.func.span c.values c.proof (cover ts)))

pub at_most_kept : Kept at_most (λ (p : Term × Term). (e.term p.0, e.term p.1)) (λ (p : Term × Term). words (s.at_most p.0 p.1))
unfolding at_most s.at_most spelling
at_most_kept =
    kept_seq term_kept (kept_behind w.AtMost {spell = λ t. word_of w.AtMost ∷ words (o.term t)} term_kept (λ t. refl)) (λ a b. refl) (λ a b. words-append (o.term a) (space ∷ mark (codes "<=") ∷ space ∷ o.term b))

pub condition_words : (a b : Term) → words (s.condition a b) ≡ word_of w.If ∷ words (s.at_most a b)
unfolding s.condition spelling
condition_words a b = ap (λ (ts : List Token). word_of w.If ∷ ts) (with_space (s.at_most a b))

abbrev blocks_words : ℕ → Block × Block → List Token
blocks_words d p = words (s.block d p.0) ++ word_of w.Else ∷ words (s.block d p.1)

two_blocks_kept : (d : ℕ) → Kept two_blocks (λ (p : Block × Block). (e.block p.0, e.block p.1)) (blocks_words d)
unfolding two_blocks
two_blocks_kept d = kept_two (one_block_kept d) (kept_behind w.Else {spell = λ b. word_of w.Else ∷ words (s.block d b)} (one_block_kept d) (λ b. refl))

-- a head and two blocks
head_blocks : (head x y : List Piece) → words (head ++ x ++ space ∷ keyword (codes "else") ∷ space ∷ y) ≡ words head ++ (words x ++ word_of w.Else ∷ words y)
unfolding spelling
head_blocks head x y =
    words-append (head ++ x) (space ∷ keyword (codes "else") ∷ space ∷ y) ∙ ap (λ (ts : List Token). ts ++ word_of w.Else ∷ words y) (words-append head x) ∙ append_assoc (words head) (words x) (word_of w.Else ∷ words y)

if_kept : (d : ℕ) → Kept if_last e.last (λ x. words (s.last d x))
unfolding if_last cover
if_kept d =
    kept_spanned {sa = λ (p : (Term × Term) × (Block × Block)). word_of w.If ∷ words (s.at_most p.0.0 p.0.1) ++ blocks_words d p.1} (kept_behind w.If (kept_two at_most_kept (two_blocks_kept d)) (λ p. refl))
    (λ ts p. if_erased p.0.0 p.0.1 p.1.0 p.1.1 (cover ts))
    (λ ts p.
    ap words (last_if d p.0.0 p.0.1 p.1.0 p.1.1 (cover ts)) ∙ head_blocks (s.condition p.0.0 p.0.1) (s.block d p.1.0) (s.block d p.1.1)
    ∙ ap (λ (ts : List Token). ts ++ blocks_words d p.1) (condition_words p.0.0 p.0.1))

-- behind `#`: a number, and what may stand behind a tag
behind_hash : (n i : ℕ) (y : Pat) (us : List Token) → AreTokens us → Below code body n Pat (the_number i ▷ pat) y us → (vs : List Token) × AreTokens vs × Below code body n Pat pat y vs
behind_hash zero i y us proper d = absurd d
behind_hash (suc m) i y us proper d =
    (d.3, tokens_back d.2 d.3 (subst AreTokens d.5 proper), subst (λ (y : Pat). Below code body (suc m) Pat pat y d.3) (sym d.4) d.7)

word_pat_kept : (i : ℕ) (tag : Word) → ((ps : List Piece) → words (o.tag i ++ ps) ≡ word_of tag ∷ words ps)
    → Kept (g.either (yes (tag ∷ [])) (g.nest (code_of tag) pat) (hash_pat i)) e.pat (λ p. words (o.tag i ++ o.pat p))
unfolding hash_pat
word_pat_kept i tag is =
    kept_first (kept_nest tag pat_kept (λ p. is (o.pat p)))
    (λ l y ts proper d.
    let q = behind_hash l.n i y d.1 (tokens_back (d.0 ∷ []) d.1 (subst AreTokens d.2 proper)) d.4 in
    written_nest l tag pat y q.0 q.1 q.2)

tagged_kept : (i : ℕ) → Kept (tagged_pat i) e.pat (λ p. words (o.tag i ++ o.pat p))
unfolding left_pat right_pat hash_pat
tagged_kept zero = word_pat_kept 0 w.Inl left_tag
tagged_kept (suc zero) = word_pat_kept 1 w.Inr right_tag
tagged_kept (suc (suc i)) =
    kept_nest w.Hash {sa = λ p. number_token (suc (suc i)) ∷ words (o.pat p)} (kept_seq (the_number_kept (suc (suc i))) pat_kept (λ x p. refl) (λ x p. refl)) (λ p. hash_tag i (o.pat p))

arm_head_words : (d i : ℕ) (p : Pat) → words (s.arm_head d i p) ≡ words (o.tag i ++ o.pat p)
unfolding s.arm_head
arm_head_words d i p = simp (words-append, line_words, append-nil)

abbrev arm_words : ℕ → ℕ → SurfaceArm → List Token
arm_words d i x = words (s.arm_head d i x.pat) ++ words (s.block d x.block)

arm_kept : (d i : ℕ) → Kept (arm i) arm_of (arm_words d i)
unfolding arm
arm_kept d i = kept_seq (kept_as (tagged_kept i) (arm_head_words d i)) (one_block_kept d) (λ p b. refl) (λ p b. refl)

more_words : (d i : ℕ) (x : SurfaceArm) (xs : List SurfaceArm) → words (s.arms d i (x ∷ xs)) ≡ arm_words d i x ++ words (s.arms d (suc i) xs)
unfolding s.arms
more_words d i x xs =
    words-append (s.arm_head d i x.pat ++ s.block d x.block) (s.arms d (suc i) xs)
    ∙ ap (λ (ts : List Token). ts ++ words (s.arms d (suc i) xs)) (words-append (s.arm_head d i x.pat) (s.block d x.block))

arms_from_kept : (d n i : ℕ) → Kept (arms_from n i) (map arm_of) (λ xs. words (s.arms d i xs))
unfolding s.arms
arms_from_kept d zero i = kept_pure refl
arms_from_kept d (suc n) i = kept_either (kept_seq (arm_kept d i) (arms_from_kept d n (suc i)) (λ x xs. refl) (more_words d i)) (kept_pure refl)

abbrev arms_words : ℕ → List SurfaceArm → List Token
arms_words d xs = word_of w.LeftBrace ∷ words (s.arms d 0 xs) ++ word_of w.RightBrace ∷ []

arms_kept : (d : ℕ) → Kept arms (map arm_of) (arms_words d)
unfolding arms more_arms
arms_kept d =
    kept_nest w.LeftBrace
    (kept_and_more w.RightBrace (λ xs. words (s.arms d 1 xs)) (λ xs. words (s.arms d 0 xs)) (arm_kept d 0)
    (kept_and_more w.RightBrace (λ xs. words (s.arms d 2 xs)) (λ xs. words (s.arms d 1 xs)) (arm_kept d 1)
    (kept_before w.RightBrace (arms_from_kept d more_arms_than_two 2) (λ xs. refl)) (more_words d 1)) (more_words d 0))
    (λ xs. refl)

match_words : (d : ℕ) (n : List ℕ) (at : Span) (xs : List SurfaceArm) (bt : Span) → words (s.last d (l.Match n at xs bt)) ≡ word_of w.Match ∷ name_token n ∷ arms_words (d + step) xs
unfolding s.match_head spelling
match_words d n at xs bt =
    ap words (last_match d n at xs bt) ∙ words-append (s.match_head n ++ s.arms (d + step) 0 xs) (closing d)
    ∙ ap₂ (λ (first second : List Token). first ++ second) (words-append (s.match_head n) (s.arms (d + step) 0 xs)) (closing_words d)

match_kept : (d : ℕ) → Kept match_last e.last (λ x. words (s.last d x))
unfolding match_last cover
match_kept d =
    kept_spanned {sa = λ (p : Named × List SurfaceArm). word_of w.Match ∷ name_token p.0.name ∷ arms_words (d + step) p.1} (kept_behind w.Match (kept_two name_kept (arms_kept (d + step))) (λ p. refl))
    (λ ts p. match_erased p.0.name p.0.span p.1 (cover ts)) (λ ts p. match_words d p.0.name p.0.span p.1 (cover ts))

as_names_kept : Kept as_names (λ (p : Named × Named). (named p.0, named p.1)) (λ (p : Named × Named). words (s.as_names p.0.name p.1.name))
unfolding as_names s.as_names spelling
as_names_kept =
    kept_behind w.As (kept_two name_kept (kept_behind w.Comma {spell = λ n. word_of w.Comma ∷ name_token n.name ∷ []} name_kept (λ n. refl))) (λ p. refl)

next_block_kept : (d : ℕ) → Kept next_block e.block (λ b. word_of w.Else ∷ words (s.block d b))
unfolding next_block
next_block_kept d = kept_behind w.Else (one_block_kept d) (λ b. refl)

blocks_kept : (d : ℕ) → Kept blocks (map e.block) (λ bs. words (s.blocks d bs))
unfolding blocks more_blocks s.blocks s.behind_else spelling
blocks_kept d =
    kept_more_than_one more_arms_than_two (w.Else ∷ []) (λ bs. words (s.behind_else d bs)) (one_block_kept d) (next_block_kept d) refl
    (λ b bs. words-append (space ∷ keyword (codes "else") ∷ space ∷ s.block d b) (s.behind_else d bs)) (λ b bs. words-append (s.block d b) (s.behind_else d bs))

branch_words : (d : ℕ) (a : Access) (b z : Named) (bs : List Block) (at : Span)
    → words (s.last d (l.Branch a.channel.name a.channel.span a.route.path a.route.span a.proof b.name b.span z.name z.span bs at)) ≡ word_of w.Branch ∷ access_words a ++ (words (s.as_names b.name z.name) ++ words (s.blocks d bs))
unfolding s.branch_head spelling
branch_words d a b z bs at =
    ap words (last_branch d a.channel.name a.channel.span a.route.path a.route.span a.proof b.name b.span z.name z.span bs at)
    ∙ words-append (s.branch_head a.channel.name a.route.path a.proof b.name z.name) (s.blocks d bs)
    ∙ ap (λ (ts : List Token). word_of w.Branch ∷ ts ++ words (s.blocks d bs)) (words-append (s.access a.channel.name a.route.path a.proof) (s.as_names b.name z.name))
    ∙ ap (λ (ts : List Token). word_of w.Branch ∷ ts) (append_assoc (access_words a) (words (s.as_names b.name z.name)) (words (s.blocks d bs)))

branch_kept : (d : ℕ) → Kept branch_last e.last (λ x. words (s.last d x))
unfolding branch_last cover
branch_kept d =
    kept_spanned {sa = λ (p : Access × ((Named × Named) × List Block)). word_of w.Branch ∷ access_words p.0 ++ (words (s.as_names p.1.0.0.name p.1.0.1.name) ++ words (s.blocks d p.1.1))}
    (kept_behind w.Branch (kept_two access_kept (kept_two as_names_kept (blocks_kept d))) (λ p. refl))
    (λ ts p. branch_erased p.0.channel.name p.0.channel.span p.0.route.path p.0.route.span p.0.proof p.1.0.0.name p.1.0.0.span p.1.0.1.name p.1.0.1.span p.1.1 (cover ts))
    (λ ts p. branch_words d p.0 p.1.0.0 p.1.0.1 p.1.1 (cover ts))

absurd_kept : (d : ℕ) → Kept absurd_last e.last (λ x. words (s.last d x))
unfolding absurd_last cover spelling
absurd_kept d = kept_spanned {sa = λ q. word_of w.Absurd ∷ words (o.proof q)} (kept_behind w.Absurd proof_kept (λ q. refl)) (λ ts q. refl) (λ ts q. ap words (last_absurd d q (cover ts)))

loop_params_kept : Kept loop_params (map e.start) (λ xs. words (in_parens (listed_pieces s.start xs)))
unfolding loop_params
loop_params_kept = kept_parens s.start starts_kept

five_parts : (a b c x y : List Piece) → words (a ++ b ++ c ++ x ++ space ∷ [] ++ y) ≡ words a ++ (words b ++ (words c ++ (words x ++ words y)))
five_parts a b c x y = simp (words-append, append_assoc)

loop_words : (d : ℕ) (n : Named) (b : Bound) (xs : List Start) (r : Res) (q : Proof) (x : Block) (at : Span)
    → words (s.last d (l.Loop n.name n.span b xs r q x at))
    ≡ word_of w.Loop ∷ name_token n.name ∷ (words (o.binds_behind b.names b.limits) ++ (words (in_parens (listed_pieces s.start xs)) ++ (word_of w.Arrow ∷ words (o.res r) ++ (words (o.proof q) ++ words (s.block d x)))))
unfolding s.loop_head s.header s.name_and_binds s.result_behind spelling
loop_words d n b xs r q x at =
    ap words (last_loop d n.name n.span b xs r q x at)
    ∙ ap (λ (ts : List Token). word_of w.Loop ∷ name_token n.name ∷ ts) (five_parts (o.binds_behind b.names b.limits) (in_parens (listed_pieces s.start xs)) (s.result_behind r) (o.proof q) (s.block d x))

loop_kept : (d : ℕ) → Kept loop_last e.last (λ x. words (s.last d x))
unfolding loop_last cover
loop_kept d =
    kept_spanned
    (kept_behind w.Loop
    {spell = λ (p : Named × (Bound × (List Start × (Res × (Proof × Block))))). word_of w.Loop ∷ name_token p.0.name ∷ (words (o.binds_behind p.1.0.names p.1.0.limits) ++ (words (in_parens (listed_pieces s.start p.1.1.0)) ++ (word_of w.Arrow ∷ words (o.res p.1.1.1.0) ++ (words (o.proof p.1.1.1.1.0) ++ words (s.block d p.1.1.1.1.1)))))}
    (kept_two name_kept (kept_two bound_behind_kept (kept_two loop_params_kept (kept_two (kept_behind w.Arrow {spell = λ r. word_of w.Arrow ∷ words (o.res r)} res_kept (λ r. refl)) (kept_two proof_kept (one_block_kept d)))))) (λ p. refl))
    (λ ts p. loop_erased p.0.name p.0.span p.1.0 p.1.1.0 p.1.1.1.0 p.1.1.1.1.0 p.1.1.1.1.1 (cover ts))
    (λ ts p. loop_words d p.0 p.1.0 p.1.1.0 p.1.1.1.0 p.1.1.1.1.0 p.1.1.1.1.1 (cover ts))

again_kept : (d : ℕ) → Kept again_last e.last (λ x. words (s.last d x))
unfolding again_last cover spelling
again_kept d =
    kept_spanned {sa = λ (p : List Supply × Proof). word_of w.Again ∷ words (o.values p.0) ++ words (o.proof p.1)} (kept_behind w.Again (kept_two given_values_kept proof_kept) (λ p. refl)) (λ ts p. refl)
    (λ ts p. ap words (last_again d p.0 p.1 (cover ts)) ∙ ap (λ (ts : List Token). word_of w.Again ∷ ts) (words-append (o.values p.0) (o.proof p.1)))

other_kept : (d : ℕ) → Kept other_last e.last (λ x. words (s.last d x))
unfolding other_last
other_kept d = kept_either (match_kept d) (kept_either (branch_kept d) (kept_either (absurd_kept d) (kept_either (loop_kept d) (again_kept d))))

last_kept : (d : ℕ) → Kept last e.last (λ x. words (s.last d x))
unfolding last
last_kept d = kept_either (ret_kept d) (kept_either (tail_kept d) (kept_either (if_kept d) (other_kept d)))

-- ---- blocks

stmts_kept : (d : ℕ) → Kept stmts (map e.stmt) (λ xs. words (s.stmts d xs))
unfolding stmts s.stmts spelling
stmts_kept d =
    kept_many (kept_before w.Semicolon {spell = λ x. words (s.stmt d x) ++ word_of w.Semicolon ∷ []} (stmt_kept d) (λ x. refl)) refl
    (λ x xs.
    words-append (line d ++ s.stmt d x) (mark (codes ";") ∷ s.stmts d xs) ∙ ap (λ (ts : List Token). ts ++ word_of w.Semicolon ∷ words (s.stmts d xs)) (on_line d (s.stmt d x))
    ∙ sym (append_assoc (words (s.stmt d x)) (word_of w.Semicolon ∷ []) (words (s.stmts d xs))))

block_words : (d : ℕ) (b : Block) → words (s.block d b) ≡ word_of w.LeftBrace ∷ words (s.stmts (d + step) b.stmts) ++ (words (s.last (d + step) b.last) ++ word_of w.RightBrace ∷ [])
unfolding s.block in_braces spelling
block_words d b =
    ap (λ (ts : List Token). word_of w.LeftBrace ∷ ts)
    (words-append (s.stmts (d + step) b.stmts ++ (line (d + step) ++ s.last (d + step) b.last)) (closing d)
    ∙ ap₂ (λ (first second : List Token). first ++ second) (words-append (s.stmts (d + step) b.stmts) (line (d + step) ++ s.last (d + step) b.last) ∙ ap (λ (ts : List Token). words (s.stmts (d + step) b.stmts) ++ ts) (on_line (d + step) (s.last (d + step) b.last))) (closing_words d)
    ∙ append_assoc (words (s.stmts (d + step) b.stmts)) (words (s.last (d + step) b.last)) (word_of w.RightBrace ∷ []))

pub block_kept : (d : ℕ) → Kept block e.block (λ b. words (s.block d b))
unfolding block
block_kept d =
    kept_nest w.LeftBrace
    {sa = λ b. words (s.stmts (d + step) b.stmts) ++ (words (s.last (d + step) b.last) ++ word_of w.RightBrace ∷ [])}
    (kept_seq (stmts_kept (d + step)) (kept_before w.RightBrace {spell = λ x. words (s.last (d + step) x) ++ word_of w.RightBrace ∷ []} (last_kept (d + step)) (λ x. refl)) (λ ss x. refl) (λ ss x. refl)) (block_words d)
