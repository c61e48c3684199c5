-- The spans in the tree of a text are of bytes of the text.
use Rattle.std.proofs.Common.{◌≡◌, ℕ, zero, suc, ◌+◌, ◌<◌, List, [], ◌∷◌, ◌++◌, length, take, append_assoc, sym, ◌∙◌, ap, arith}
use Rattle.std.specs.List.{All, count_by, suffix_len}
use Rattle.std.proofs.lemmas.List.Elements.{All-head, All-tail}
use Rattle.std.proofs.Math.Seq.{take-append_seam}
use Rattle.chan_base.specs.declared.spans.Span.{Span}
use Rattle.text_tokens.specs.Text.{Token, StandsIn, AreInOrder, is_line_end, is_in_line}
use Rattle.text_tokens.proofs.Each.{each_stands, in_order, span_within}
use Rattle.grammar_laws.specs.Grammar.{Named}
use Rattle.surface_grammar.specs.Words.{code}
use Rattle.surface_grammar.specs.Grammar.{AValue, ARes, ABlock}
use Rattle.surface_grammar.specs.Language.{body, max_levels}
use Rattle.fault_places.specs.Laws.{IsAt, SpansStandInText}
use Rattle.fault_places.proofs.Placed.{Row, PlacesNames, Levels}
use Rattle.fault_places.proofs.PlacedTerms.{res_placed}
use Rattle.fault_places.proofs.PlacedOperands.{value_placed}
use Rattle.fault_places.proofs.PlacedBlocks.{block_placed, program_placed}

-- no name is used of itself
abbrev at_level : (text : List ℕ) (n : ℕ) → ((m : ℕ) → m < n → PlacesNames text (Named code body m)) → Levels
at_level text n lower = record { text = text; n = n; names = λ x y ts. ⊥; placed = λ P at holds x y ts row none. absurd none; lower = lower }

named_placed : (text : List ℕ) (n : ℕ) → ((m : ℕ) → m < n → PlacesNames text (Named code body m)) → PlacesNames text (Named code body n)
unfolding body
named_placed text n lower P at holds AValue y ts row has = value_placed.placed (at_level text n lower) P at holds y ts row has
named_placed text n lower P at holds ARes y ts row has = res_placed.placed (at_level text n lower) P at holds y ts row has
named_placed text n lower P at holds ABlock y ts row has = block_placed.placed (at_level text n lower) P at holds y ts row has

below_placed : (text : List ℕ) (n m : ℕ) → m < n → PlacesNames text (Named code body m)
below_placed text zero m small = absurd (omega (arith, small))
below_placed text (suc n) m small = named_placed text m (λ j less. below_placed text n j (omega (arith, small, less)))

abbrev levels : (text : List ℕ) (n : ℕ) → Levels
levels text n = record { text = text; n = n; names = Named code body n; placed = named_placed text n (below_placed text n); lower = below_placed text n }

-- the bytes before a token
front_of : (text : List ℕ) (t : Token) (stands : StandsIn text t) → take t.span.start text ≡ stands.0
front_of text t stands =
    ap (λ k. take k text) (ap (λ (s : Span). s.start) stands.5)
    ∙ ap (take (length stands.0)) (stands.2 ∙ append_assoc stands.0 t.text stands.1)
    ∙ take-append_seam stands.0 (t.text ++ stands.1)

token_is_at : (text : List ℕ) (t : Token) → StandsIn text t → t.span.start < t.span.stop → IsAt text t.span
token_is_at text t stands some =
    let front = sym (front_of text t stands) in (
      (some, span_within text t stands),
      ap (λ (s : Span). s.line) stands.5 ∙ ap (λ bytes. 1 + count_by is_line_end bytes) front,
      ap (λ (s : Span). s.column) stands.5 ∙ ap (λ bytes. 1 + suffix_len is_in_line bytes) front,
    )

in_row : (text : List ℕ) (at : ℕ) (ts : List Token) → All (StandsIn text) ts → AreInOrder at ts → Row text at ts
in_row text at [] stand order = tt
in_row text at (t ∷ ts) stand order =
    ((order.0, token_is_at text t (All-head (StandsIn text) t ts stand) order.1), in_row text t.span.stop ts (All-tail (StandsIn text) t ts stand) order.2)

pub spans_stand_in_text : SpansStandInText
spans_stand_in_text text tokens tree has derives =
    program_placed.placed (levels text max_levels) (IsAt text) 0 (λ span p. p.1) tree tokens (in_row text 0 tokens (each_stands text tokens has) (in_order text tokens has)) derives
