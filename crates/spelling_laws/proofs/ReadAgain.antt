-- A spelling is read as its tree again, places aside.
use Rattle.std.proofs.Common.{◌≡◌, ℕ, zero, suc, ◌<◌, List, [], ◌∷◌, ◌++◌, map, refl, ap, arith, sym, ◌∙◌, subst}
use Rattle.std.specs.List.{All}
use Rattle.std.proofs.lemmas.List.Elements.{All-head, All-tail}
use Rattle.text_tokens.specs.Text.{Piece, separator, comment, token, Token, StandsIn, tokens_behind}
use Rattle.text_tokens.proofs.Cuts.{one_list}
use Rattle.text_tokens.proofs.Each.{each_stands}
use Rattle.grammar_laws.proofs.Knot.{one_tree}
use Rattle.grammar_laws.specs.Grammar.{Named}
use Rattle.surface_spelling.specs.Layout.{bytes}
use Rattle.surface_spelling.specs.Spelling.{program, spelling}
use Rattle.surface_spelling.specs.Erased.{nowhere, erase}
use Rattle.surface_spelling.proofs.PlacesOfBlocks.{places_aside}
use Rattle.surface_grammar.specs.Words.{code}
use Rattle.surface_grammar.specs.Grammar.{AValue, ARes, ABlock}
use Rattle.surface_grammar.specs.Declarations.{program as grammar}
use Rattle.surface_grammar.proofs.Tests.{names_pass, program_passes, samples}
use Rattle.surface_grammar.specs.Language.{body, max_levels, surface, Derives}
use Rattle.spelling_cuts.specs.Words.{bare, words, AreTokens}
use Rattle.spelling_laws.specs.Laws.{IsReadAgain, IsSettled}
use Rattle.spelling_cuts.proofs.Cut.{words_are_cut}
use Rattle.spelling_laws.proofs.Kept.{KeepsNames, Levels}
use Rattle.spelling_laws.proofs.KeptResources.{res_kept}
use Rattle.spelling_laws.proofs.KeptOperands.{value_kept}
use Rattle.spelling_laws.proofs.KeptBlocks.{block_kept}
use Rattle.spelling_laws.proofs.KeptProgram.{program_kept}

-- ---- levels

-- no name is used of itself
abbrev at_level : (n : ℕ) → ((m : ℕ) → m < n → KeepsNames (Named code body m)) → Levels
at_level n lower = record { n = n; names = λ x y ts. ⊥; kept = λ d x y ts proper none. absurd none; lower = lower }

named_kept : (n : ℕ) → ((m : ℕ) → m < n → KeepsNames (Named code body m)) → KeepsNames (Named code body n)
unfolding body
named_kept n lower d AValue y ts proper has = value_kept.again (at_level n lower) y ts proper has
named_kept n lower d ARes y ts proper has = res_kept.again (at_level n lower) y ts proper has
named_kept n lower d ABlock y ts proper has = (block_kept d).again (at_level n lower) y ts proper has

below_kept : (n m : ℕ) → m < n → KeepsNames (Named code body m)
below_kept zero m small = absurd (omega arith)
below_kept (suc n) m small = named_kept m (λ j less. below_kept n j (omega (arith, small, less)))

abbrev levels : (n : ℕ) → Levels
levels n = record { n = n; names = Named code body n; kept = named_kept n (below_kept n); lower = below_kept n }

-- ---- tokens

are_tokens : (text : List ℕ) (ts : List Token) → All (StandsIn text) ts → AreTokens ts
are_tokens text [] stand = tt
are_tokens text (t ∷ ts) stand = ((All-head (StandsIn text) t ts stand).3, are_tokens text ts (All-tail (StandsIn text) t ts stand))

bare_behind : (front : List ℕ) (ps : List Piece) → map bare (tokens_behind front ps) ≡ words ps
bare_behind front [] = refl
bare_behind front (separator b ∷ ps) = bare_behind (front ++ b ∷ []) ps
bare_behind front (comment text ∷ ps) = bare_behind (front ++ 47 ∷ 47 ∷ text) ps
bare_behind front (token kind word ∷ ps) = ap (λ (ts : List Token). record { kind = kind; text = word; span = nowhere } ∷ ts) (bare_behind (front ++ word) ps)

pub read_again : IsReadAgain
unfolding spelling bytes
read_again text s reads =
    let again = program_kept.again (levels max_levels) s reads.0 (are_tokens text reads.0 (each_stands text reads.0 reads.1)) reads.2 in
    let tree = again.1 (tokens_behind [] (program s)) (bare_behind [] (program s)) in
    (tree.0, (tokens_behind [] (program s), (program s, refl, words_are_cut s again.0, refl), tree.2), tree.1)

pub settled : IsSettled
settled text s again reads other =
    let first = read_again text s reads in
    let tokens = one_list (spelling s) other.0 first.1.0 other.1 first.1.1 in
    let same = one_tree surface names_pass samples grammar program_passes again first.0 first.1.0 (max_levels, subst (Derives again) tokens other.2) (max_levels, first.1.2) in
    let bared = ap erase same ∙ first.2 in
    (bared, sym (places_aside again) ∙ ap spelling bared ∙ places_aside s)
