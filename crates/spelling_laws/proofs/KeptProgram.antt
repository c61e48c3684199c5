-- Programs are derived by their canonical words again.
use Rattle.std.proofs.Common.{◌≡◌, List, [], ◌∷◌, ◌++◌, map, codes, option_map, refl, ◌∙◌, ap, append-nil, append_assoc}
use Rattle.chan_syntax.specs.declared.linear.Term.{Term}
use Rattle.chan_syntax.specs.declared.linear.Bound.{Bound}
use Rattle.chan_syntax.specs.declared.resources.Ref.{Ref}
use Rattle.chan_syntax.specs.declared.resources.Res.{Res}
use Rattle.chan_syntax.specs.declared.resources.Param.{Param}
use Rattle.chan_syntax.specs.declared.resources.Equation.TheVariants as q
use Rattle.chan_syntax.specs.declared.surface_tree.Block.{Block}
use Rattle.chan_syntax.specs.declared.surface_tree.Body.{Body}
use Rattle.chan_syntax.specs.declared.surface_tree.SurfaceProto.{SurfaceProto}
use Rattle.chan_syntax.specs.declared.surface_tree.SurfaceFunc.{SurfaceFunc}
use Rattle.text_tokens.specs.Text.{Piece, Token}
use Rattle.surface_spelling.specs.Layout.{keyword, mark, space, line, listed as listed_pieces, in_parens}
use Rattle.surface_spelling.specs.Operands as o
use Rattle.surface_spelling.specs.Operands.{a_name}
use Rattle.surface_spelling.specs.Blocks as s
use Rattle.surface_spelling.specs.Spelling as p
use Rattle.surface_spelling.specs.Erased as e
use Rattle.surface_grammar.specs.declared.words.Word.TheVariants as w
use Rattle.surface_grammar.specs.declared.parts.Named.{Named}
use Rattle.surface_grammar.specs.declared.parts.Names.{Names}
use Rattle.surface_grammar.specs.Words.{spelling}
use Rattle.surface_grammar.specs.Grammar.{cover, more_arms_than_two}
use Rattle.surface_grammar.specs.Declarations.{then_ref, two_refs, branch, equation, next_ref, more_refs, alternatives, choice, pbody, names_to_paren, proto_params, proto, params, func_params, func, decl, decls, program}
use Rattle.spelling_cuts.specs.Words.{words}
use Rattle.spelling_laws.proofs.WordTokens.{word_of}
use Rattle.spelling_laws.proofs.Kept.{words-append, Kept, kept_more_than_one, word_kept, kept_pure, kept_two, kept_either, kept_many, kept_spanned, kept_nest, kept_map, kept_behind, kept_before, kept_behind_seq, kept_behind_map, kept_listed, kept_parens, parens_words}
use Rattle.spelling_laws.proofs.KeptTerms.{named, names_of, name_token, name_kept, names_kept, bound_behind_kept, reference_kept}
use Rattle.spelling_laws.proofs.KeptResources.{res_kept, param_kept}
use Rattle.spelling_laws.proofs.KeptParts.{one_block_kept}
use Rattle.spelling_laws.proofs.KeptBlocks.{line_words, at_most_kept, condition_words}

-- ---- what a protocol does

then_kept : Kept then_ref (option_map e.reference) (λ r. words (p.then_ref r))
unfolding then_ref p.then_ref spelling
then_kept = kept_either (kept_behind_map w.Then reference_kept (λ r. refl) (λ r. refl)) (kept_pure refl)

two_refs_kept : Kept two_refs (λ (r : Ref × Ref). (e.reference r.0, e.reference r.1)) (λ (r : Ref × Ref). words (p.two_refs r.0 r.1))
unfolding two_refs p.two_refs spelling
two_refs_kept =
    kept_behind w.Then (kept_two reference_kept (kept_behind w.Else {spell = λ r. word_of w.Else ∷ words (o.reference r)} reference_kept (λ r. refl)))
    (λ r. ap (λ (ts : List Token). word_of w.Then ∷ ts) (words-append (o.reference r.0) (space ∷ keyword (codes "else") ∷ space ∷ o.reference r.1)))

branch_words : (a c : Term) (this other : Ref) → words (p.plain (q.Branch a c this other)) ≡ word_of w.If ∷ words (s.at_most a c) ++ words (p.two_refs this other)
unfolding p.plain
branch_words a c this other =
    words-append (s.condition a c) (p.two_refs this other) ∙ ap (λ (ts : List Token). ts ++ words (p.two_refs this other)) (condition_words a c)

equation_kept : Kept equation e.plain (λ x. words (p.plain x))
unfolding equation branch p.plain spelling
equation_kept =
    kept_either (kept_behind_seq w.Send res_kept then_kept (λ r next. refl) (λ r next. ap (λ (ts : List Token). word_of w.Send ∷ ts) (words-append (o.res r) (p.then_ref next))))
    (kept_either (kept_behind_seq w.Recv res_kept then_kept (λ r next. refl) (λ r next. ap (λ (ts : List Token). word_of w.Recv ∷ ts) (words-append (o.res r) (p.then_ref next))))
    (kept_either (kept_map (word_kept w.Close) (λ x. refl) (λ x. refl))
    (kept_either (kept_map (word_kept w.Wait) (λ x. refl) (λ x. refl)) (kept_behind_seq w.If at_most_kept two_refs_kept (λ c r. refl) (λ c r. branch_words c.0 c.1 r.0 r.1)))))

next_ref_kept : Kept next_ref e.reference (λ r. word_of w.Bar ∷ words (o.reference r))
unfolding next_ref
next_ref_kept = kept_behind w.Bar reference_kept (λ r. refl)

alternatives_kept : Kept alternatives (map e.reference) (λ rs. words (p.alternatives rs))
unfolding alternatives more_refs p.alternatives p.refs_behind spelling
alternatives_kept =
    kept_more_than_one more_arms_than_two (w.Bar ∷ []) (λ rs. words (p.refs_behind rs)) reference_kept next_ref_kept refl
    (λ r rs. words-append (space ∷ mark (codes "|") ∷ space ∷ o.reference r) (p.refs_behind rs)) (λ r rs. words-append (o.reference r) (p.refs_behind rs))

choice_kept : Kept choice (λ (c : Named × List Ref). (named c.0, map e.reference c.1)) (λ (c : Named × List Ref). name_token c.0.name ∷ word_of w.Of ∷ words (p.alternatives c.1))
unfolding choice
choice_kept = kept_two name_kept (kept_behind w.Of {spell = λ rs. word_of w.Of ∷ words (p.alternatives rs)} alternatives_kept (λ rs. refl))

body_kept : Kept pbody e.pbody (λ x. words (p.pbody x))
unfolding pbody p.pbody spelling
body_kept =
    kept_either (kept_behind_map w.Choice choice_kept (λ c. refl) (λ c. refl))
    (kept_either (kept_behind_map w.Offer choice_kept (λ c. refl) (λ c. refl)) (kept_map equation_kept (λ x. refl) (λ x. refl)))

-- ---- protocols

names_to_paren_kept : Kept names_to_paren names_of (λ ns. words (listed_pieces a_name ns.names) ++ word_of w.RightParen ∷ [])
unfolding names_to_paren listed_pieces
names_to_paren_kept = kept_either (kept_map (word_kept w.RightParen) (λ x. refl) (λ x. refl)) (kept_before w.RightParen names_kept (λ ns. refl))

proto_params_kept : Kept proto_params names_of (λ ns. words (in_parens (listed_pieces a_name ns.names)))
unfolding proto_params
proto_params_kept = kept_nest w.LeftParen names_to_paren_kept (λ ns. parens_words (listed_pieces a_name ns.names))

abbrev proto_of : SurfaceProto → SurfaceProto
proto_of x = record { name = x.name; name_span = e.nowhere; params = x.params; params_spans = e.places x.params_spans; body = e.pbody x.body; span = e.nowhere }

proto_parts : (ps body : List Piece) → words (ps ++ space ∷ mark (codes "=") ∷ space ∷ [] ++ body ++ mark (codes ";") ∷ line 0) ≡ words ps ++ (word_of w.Equals ∷ words body ++ word_of w.Semicolon ∷ [])
unfolding spelling
proto_parts ps body = simp (words-append, append_assoc, line_words)

proto_words : (x : SurfaceProto) → words (p.proto x) ≡ word_of w.Proto ∷ name_token x.name ∷ (words (in_parens (listed_pieces a_name x.params)) ++ (word_of w.Equals ∷ words (p.pbody x.body) ++ word_of w.Semicolon ∷ []))
unfolding p.proto p.proto_head spelling
proto_words x = ap (λ (ts : List Token). word_of w.Proto ∷ name_token x.name ∷ ts) (proto_parts (in_parens (listed_pieces a_name x.params)) (p.pbody x.body))

proto_kept : Kept proto proto_of (λ x. words (p.proto x))
unfolding proto cover
proto_kept =
    kept_spanned
    (kept_behind w.Proto
    {spell = λ (x : Named × (Names × Body)). word_of w.Proto ∷ name_token x.0.name ∷ (words (in_parens (listed_pieces a_name x.1.0.names)) ++ (word_of w.Equals ∷ words (p.pbody x.1.1) ++ word_of w.Semicolon ∷ []))}
    (kept_two name_kept (kept_two proto_params_kept
    (kept_behind w.Equals {spell = λ y. word_of w.Equals ∷ words (p.pbody y) ++ word_of w.Semicolon ∷ []} (kept_before w.Semicolon {spell = λ y. words (p.pbody y) ++ word_of w.Semicolon ∷ []} body_kept (λ y. refl)) (λ y. refl)))) (λ x. refl))
    (λ ts x. refl)
    (λ ts x. proto_words (record { name = x.0.name; name_span = x.0.span; params = x.1.0.names; params_spans = x.1.0.spans; body = x.1.1; span = cover ts }))

-- ---- functions

params_kept : Kept params (map e.param) (λ xs. words (listed_pieces o.param xs))
unfolding params
params_kept = kept_listed o.param param_kept

func_params_kept : Kept func_params (map e.param) (λ xs. words (in_parens (listed_pieces o.param xs)))
unfolding func_params
func_params_kept = kept_parens o.param params_kept

abbrev func_of : SurfaceFunc → SurfaceFunc
func_of x = record { name = x.name; name_span = e.nowhere; bound = e.bound x.bound; params = map e.param x.params; result = e.res x.result; block = e.block x.block; span = e.nowhere }

func_parts : (a c r x : List Piece) → words (a ++ c ++ r ++ space ∷ [] ++ x ++ line 0) ≡ words a ++ (words c ++ (words r ++ words x))
func_parts a c r x = simp (words-append, append_assoc, line_words, append-nil)

func_words : (x : SurfaceFunc)
    → words (p.func x) ≡ word_of w.Fn ∷ name_token x.name ∷ (words (o.binds_behind x.bound.names x.bound.limits) ++ (words (in_parens (listed_pieces o.param x.params)) ++ (word_of w.Arrow ∷ words (o.res x.result) ++ words (s.block 0 x.block))))
unfolding p.func p.func_head s.header s.name_and_binds s.result_behind spelling
func_words x =
    ap (λ (ts : List Token). word_of w.Fn ∷ name_token x.name ∷ ts) (func_parts (o.binds_behind x.bound.names x.bound.limits) (in_parens (listed_pieces o.param x.params)) (s.result_behind x.result) (s.block 0 x.block))

func_kept : Kept func func_of (λ x. words (p.func x))
unfolding func cover
func_kept =
    kept_spanned
    (kept_behind w.Fn
    {spell = λ (x : Named × (Bound × (List Param × (Res × Block)))). word_of w.Fn ∷ name_token x.0.name ∷ (words (o.binds_behind x.1.0.names x.1.0.limits) ++ (words (in_parens (listed_pieces o.param x.1.1.0)) ++ (word_of w.Arrow ∷ words (o.res x.1.1.1.0) ++ words (s.block 0 x.1.1.1.1))))}
    (kept_two name_kept (kept_two bound_behind_kept (kept_two func_params_kept (kept_two (kept_behind w.Arrow {spell = λ r. word_of w.Arrow ∷ words (o.res r)} res_kept (λ r. refl)) (one_block_kept 0))))) (λ x. refl))
    (λ ts x. refl)
    (λ ts x. func_words (record { name = x.0.name; name_span = x.0.span; bound = x.1.0; params = x.1.1.0; result = x.1.1.1.0; block = x.1.1.1.1; span = cover ts }))

-- ---- programs

decl_kept : Kept decl e.declaration (λ x. words (p.declaration x))
unfolding decl p.declaration
decl_kept = kept_either (kept_map proto_kept (λ x. refl) (λ x. refl)) (kept_map func_kept (λ x. refl) (λ x. refl))

decls_kept : Kept decls (map e.declaration) (λ xs. words (p.declarations xs))
unfolding decls p.declarations
decls_kept = kept_many decl_kept refl (λ x xs. words-append (p.declaration x) (p.declarations xs))

pub program_kept : Kept program e.erase (λ x. words (p.program x))
unfolding program p.program
program_kept = kept_map decls_kept (λ xs. refl) (λ xs. refl)
