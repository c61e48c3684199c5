-- The protocols of a choice from one of its references on.
use Rattle.std.proofs.Common.{◌≡◌, ℕ, ◌+◌, ◌<◌, ◌≤◌, List, [], ◌∷◌, ◌++◌, map, length, drop, get_or, refl, sym, ap, ◌∙◌, arith}
use Rattle.std.proofs.lemmas.List.{drop_all, drop_more, length-drop, append_assoc}
use Rattle.core_language.specs.Names.{Ident}
use Rattle.chan_base.specs.declared.spans.Span.{Span}
use Rattle.chan_syntax.specs.declared.resources.Ref.{Ref}
use Rattle.chan_syntax.specs.declared.surface_tree.SurfaceProto.{SurfaceProto}
use Rattle.session_lowering.specs.declared.sources.Source.{Source}
use Rattle.session_lowering.specs.MadeNames.{numbered}
use Rattle.session_lowering.specs.PutTerms.{name_term}
use Rattle.session_lowering.specs.Choices.{bit, params_and_bit, goes_on, turn, turns, unchosen}

-- ---- parameters

module _ (span : Span) (params : List Ident) (spans : List Span) (i : ℕ) where
  pub params-at : (x : Ident) (at : Span) → i < length params → i < length spans → x ≡ get_or params i x → at ≡ get_or spans i at
      → params_and_bit span (drop i params) (drop i spans) ≡ name_term span x at ∷ params_and_bit span (drop (i + 1) params) (drop (i + 1) spans)
  params-at x at lt lt' is is' =
      ap (λ xs. params_and_bit span xs (drop i spans)) (drop_more params i x lt ∙ ap (λ y. y ∷ drop (i + 1) params) (sym is))
      ∙ ap (params_and_bit span (x ∷ drop (i + 1) params)) (drop_more spans i at lt' ∙ ap (λ y. y ∷ drop (i + 1) spans) (sym is'))

  pub params-past : length params ≤ i → params_and_bit span (drop i params) (drop i spans) ≡ name_term span bit span ∷ []
  params-past le = ap (λ xs. params_and_bit span xs (drop i spans)) (drop_all i params le)

  no_spans : (xs : List Ident) → params_and_bit span xs [] ≡ name_term span bit span ∷ []
  no_spans [] = refl
  no_spans (x ∷ xs) = refl

  pub spans-past : length spans ≤ i → params_and_bit span (drop i params) (drop i spans) ≡ name_term span bit span ∷ []
  spans-past le = ap (params_and_bit span (drop i params)) (drop_all i spans le) ∙ no_spans (drop i params)

-- ---- turns

module _ (p : SurfaceProto) (next name : Ident) (at : Span) (i : ℕ) (refs : List Ref) where
  abbrev later : Ident
  later = numbered next (i + 1)

  front : (e : Ref) → i < length refs → e ≡ get_or refs i e → drop i refs ≡ e ∷ drop (i + 1) refs
  front e lt is = drop_more refs i e lt ∙ ap (λ d. d ∷ drop (i + 1) refs) (sym is)

  with_more : (e : Ref) (rest : List Ref) → 1 < length rest
      → turns p next name at i (e ∷ rest) ≡ turn p name at i e (goes_on p later p.span) ∷ turns p next later p.span (i + 1) rest
  with_more e [] lt = absurd (omega (arith, lt))
  with_more e (f ∷ []) lt = absurd (omega (arith, lt))
  with_more e (f ∷ g ∷ more) lt = refl

  pub turns-more : (e : Ref) → i + 2 < length refs → e ≡ get_or refs i e
      → turns p next name at i (drop i refs) ≡ turn p name at i e (goes_on p later p.span) ∷ turns p next later p.span (i + 1) (drop (i + 1) refs)
  turns-more e lt is =
      ap (turns p next name at i) (front e (omega (arith, lt)) is)
      ∙ with_more e (drop (i + 1) refs) (omega (arith, lt, length-drop (i + 1) refs))

  pub turns-last : (e f : Ref) → i + 1 < length refs → length refs ≤ i + 2 → e ≡ get_or refs i e → f ≡ get_or refs (i + 1) f
      → turns p next name at i (drop i refs) ≡ turn p name at i e f ∷ []
  turns-last e f lt le is is' = ap (turns p next name at i) (front e (omega (arith, lt)) is ∙ ap (λ rest. e ∷ rest) rest)
    where
      end : drop (i + 1 + 1) refs ≡ []
      end = drop_all (i + 1 + 1) refs (omega (arith, le))

      rest : drop (i + 1) refs ≡ f ∷ []
      rest = drop_more refs (i + 1) f lt ∙ ap (λ d. d ∷ drop (i + 1 + 1) refs) (sym is') ∙ ap (λ more. f ∷ more) end

  short : (rest : List Ref) → length rest ≤ 1 → turns p next name at i rest ≡ []
  short [] le = refl
  short (e ∷ []) le = refl
  short (e ∷ f ∷ more) le = absurd (omega (arith, le))

  pub turns-none : length refs ≤ i + 1 → turns p next name at i (drop i refs) ≡ []
  turns-none le = short (drop i refs) (omega (arith, le, length-drop i refs))

  -- one more is put
  pub one_more : (before new : List Source) (e : Ref) (made : Ident) → i + 2 < length refs → e ≡ get_or refs i e → made ≡ numbered next (i + 1)
      → new ≡ before ++ unchosen (turn p name at i e (goes_on p made p.span)) ∷ []
      → new ++ map unchosen (turns p next made p.span (i + 1) (drop (i + 1) refs)) ≡ before ++ map unchosen (turns p next name at i (drop i refs))
  one_more before new e made lt is named put =
      ap (λ ss. ss ++ map unchosen (turns p next made p.span (i + 1) (drop (i + 1) refs))) put
      ∙ append_assoc before (unchosen (turn p name at i e (goes_on p made p.span)) ∷ []) (map unchosen (turns p next made p.span (i + 1) (drop (i + 1) refs)))
      ∙ ap (λ x. before ++ unchosen (turn p name at i e (goes_on p x p.span)) ∷ map unchosen (turns p next x p.span (i + 1) (drop (i + 1) refs))) named
      ∙ sym (ap (λ ps. before ++ map unchosen ps) (turns-more e lt is))
