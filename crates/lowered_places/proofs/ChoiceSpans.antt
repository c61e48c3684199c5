-- The protocols of choices have the spans of the choices.
use Rattle.std.proofs.Common.{ℕ, ◌+◌, ◌-◌, pos, true, false, List, [], ◌∷◌, ◌++◌, length}
use Rattle.core_language.specs.Names.{Ident}
use Rattle.chan_base.specs.declared.spans.Span.{Span}
use Rattle.chan_syntax.specs.declared.resources.Ref.{Ref}
use Rattle.chan_syntax.specs.declared.surface_tree.Body.{Body}
use Rattle.chan_syntax.specs.declared.surface_tree.Body.TheVariants as body
use Rattle.chan_syntax.specs.declared.surface_tree.SurfaceProto.{SurfaceProto}
use Rattle.chan_syntax.specs.declared.surface_tree.Decl.{Decl}
use Rattle.chan_syntax.specs.declared.surface_tree.Decl.TheVariants as decl
use Rattle.session_lowering.specs.MadeNames.{numbered}
use Rattle.session_lowering.specs.Choices.{bit, bit_res, params_and_bit, goes_on, choosing, turn, turns, unchosen, sources_of, declared, sources}
use Rattle.fault_places.specs.Spans.{Every, OfNames, InTerm, InRef, InRes}
use Rattle.fault_places.specs.Programs.{InProto}
use Rattle.fault_places.specs.SurfaceTrees.{InBody, InDecl}
use Rattle.lowered_places.proofs.PutSpans.{every_map, every_flat, name_in, number_in}
use Rattle.lowered_places.proofs.PathSpans.{InSource}

module _ (P : Span → Type 0) where
  params_in : (span : Span) → P span → (xs : List Ident) (ats : List Span) → OfNames P xs ats → Every (InTerm P) (params_and_bit span xs ats)
  params_in span here [] [] names = (name_in P span bit span here here, tt)
  params_in span here [] (at ∷ ats) names = absurd names
  params_in span here (x ∷ xs) [] names = absurd names
  params_in span here (x ∷ xs) (at ∷ ats) names = (name_in P span x at here names.0, params_in span here xs ats names.1)

  names_more : (xs : List Ident) (ats : List Span) (x : Ident) (at : Span) → OfNames P xs ats → P at → OfNames P (xs ++ x ∷ []) (ats ++ at ∷ [])
  names_more [] [] x at names here = (here, tt)
  names_more [] (s ∷ ss) x at names here = absurd names
  names_more (y ∷ ys) [] x at names here = absurd names
  names_more (y ∷ ys) (s ∷ ss) x at names here = (names.0, names_more ys ss x at names.1 here)

  bit_in : (span : Span) (most : ℕ) → P span → InRes P (bit_res span most)
  bit_in span most here =
      let zero = number_in P span (pos 0) here in
      let name = name_in P span bit span here here in
      let top = number_in P span (pos most) here in
      (((here, tt), ((zero, name), ((name, top), tt))), name)

  -- what a choice has besides its equation
  abbrev InHead : SurfaceProto → Type 0
  InHead p = P p.name_span × OfNames P p.params p.params_spans × P p.span

  goes_on_in : (p : SurfaceProto) (name : Ident) (at : Span) → InHead p → P at → InRef P (goes_on p name at)
  goes_on_in p name at in_p here = (here, params_in p.span in_p.2 p.params p.params_spans in_p.1, here)

  choosing_in : (p : SurfaceProto) (offer : _) (next : Ident) (at : Span) (most : ℕ) → InHead p → P at → InProto P (choosing p offer next at most)
  choosing_in p true next at most in_p here = (in_p.0, in_p.1, (bit_in p.span most in_p.2, goes_on_in p next at in_p here), in_p.2)
  choosing_in p false next at most in_p here = (in_p.0, in_p.1, (bit_in p.span most in_p.2, goes_on_in p next at in_p here), in_p.2)

  turn_in : (p : SurfaceProto) (name : Ident) (at : Span) (i : ℕ) (this other : Ref) → InHead p → P at → InRef P this → InRef P other → InProto P (turn p name at i this other)
  turn_in p name at i this other in_p here in_this in_other =
      (here, names_more p.params p.params_spans bit p.span in_p.1 in_p.2, (name_in P p.span bit p.span in_p.2 in_p.2, number_in P p.span (pos i) in_p.2, in_this, in_other), in_p.2)

  turns_in : (p : SurfaceProto) (next name : Ident) (at : Span) (i : ℕ) (rs : List Ref) → InHead p → P at → Every (InRef P) rs → Every (InProto P) (turns p next name at i rs)
  turns_in p next name at i [] in_p here all = tt
  turns_in p next name at i (e ∷ []) in_p here all = tt
  turns_in p next name at i (e ∷ f ∷ []) in_p here all = (turn_in p name at i e f in_p here all.0 all.1.0, tt)
  turns_in p next name at i (e ∷ f ∷ g ∷ more) in_p here all = (
    turn_in p name at i e (goes_on p (numbered next (i + 1)) p.span) in_p here all.0 (goes_on_in p (numbered next (i + 1)) p.span in_p in_p.2),
    turns_in p next (numbered next (i + 1)) p.span (i + 1) (f ∷ g ∷ more) in_p in_p.2 all.1,
  )

  of_body : (p : SurfaceProto) (b : Body) → InHead p → InBody P b → Every (InSource P) (sources_of p b)
  of_body p (body.Plain e) in_p in_b = ((in_p.0, in_p.1, in_b, in_p.2), tt)
  of_body p (body.Choice offer next at refs) in_p in_b = (
    choosing_in p offer next at (length refs - 1) in_p in_b.0,
    every_map (InProto P) (InSource P) unchosen (λ q in_q. in_q) (turns p next next at 0 refs) (turns_in p next next at 0 refs in_p in_b.0 in_b.1),
  )

  of_decl : (d : Decl) → InDecl P d → Every (InSource P) (declared d)
  of_decl (decl.Proto p) in_d = of_body p p.body (in_d.0, in_d.1, in_d.3) in_d.2
  of_decl (decl.Func f) in_d = tt

  pub sources_in : (ds : List Decl) → Every (InDecl P) ds → Every (InSource P) (sources ds)
  sources_in ds all = every_flat (InDecl P) (InSource P) declared of_decl ds all
