-- Each of the tokens of a text stands within it, and so does a fault at one of them.
use Rattle.std.proofs.Common.{◌≡◌, ◌⊎◌, inl, inr, ℕ, ◌<◌, List, [], ◌∷◌, ◌++◌, refl, sym, ap, subst}
use Rattle.std.specs.List.{All}
use Rattle.std.proofs.lemmas.List.Elements.{All-head, All-tail}
use Rattle.chan_base.specs.declared.spans.Span.{Span}
use Rattle.text_tokens.specs.Text.{Token, HasTokens, IsWithin, StandsIn, AreInOrder, span_behind}
use Rattle.text_tokens.proofs.Each.{each_stands, in_order, span_within}
use Rattle.chan_parser.specs.Parse.{Fault, unexpected, too_deep, IsFirstFault, place_of}
use Rattle.refusal_laws.specs.Places.{span_of, IsWithinOrBehind}

-- what is left of the tokens behind a front of them begins at a place within the text, or there is nothing left
place_within : (text : List ℕ) (at : ℕ) (front rest : List Token) → All (StandsIn text) (front ++ rest) → AreInOrder at (front ++ rest) → IsWithinOrBehind text (place_of text rest)
place_within text at [] [] stand order = inr refl
place_within text at [] (t ∷ rest) stand order = inl (order.1, span_within text t (All-head (StandsIn text) t rest stand))
place_within text at (t ∷ front) rest stand order =
    place_within text t.span.stop front rest (All-tail (StandsIn text) t (front ++ rest) stand) order.2

at_rest : (text : List ℕ) (tokens front rest : List Token) (span : Span) → HasTokens text tokens → tokens ≡ front ++ rest → span ≡ place_of text rest → IsWithinOrBehind text span
at_rest text tokens front rest span has parted place =
    let stand = subst (All (StandsIn text)) parted (each_stands text tokens has) in
    let order = subst (AreInOrder 0) parted (in_order text tokens has) in
    subst (IsWithinOrBehind text) (sym place) (place_within text 0 front rest stand order)

pub fault_within : (text : List ℕ) (tokens : List Token) (fault : Fault) → HasTokens text tokens → IsFirstFault text tokens fault → IsWithinOrBehind text (span_of fault)
fault_within text tokens (unexpected span) has first = at_rest text tokens first.1.front first.0 span has first.1.parted first.2
fault_within text tokens (too_deep span) has first = at_rest text tokens first.1.front first.0 span has first.1.parted first.2
