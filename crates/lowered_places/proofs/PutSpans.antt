-- Terms with terms put in have the spans of both, and that of the statement.
use Rattle.std.proofs.Common.{ℤ, Bool, true, false, if◌then◌else◌, Option, Some, None, List, [], ◌∷◌, ◌++◌, map, flat_map}
use Rattle.core_language.specs.Names.{Ident, same}
use Rattle.core_language.specs.Terms as core
use Rattle.linear_forms.specs.Terms.{times_of}
use Rattle.chan_base.specs.declared.spans.Span.{Span}
use Rattle.chan_syntax.specs.declared.linear.Part.{Part}
use Rattle.chan_syntax.specs.declared.linear.Term.{Term}
use Rattle.chan_syntax.specs.declared.linear.Limit.{Limit}
use Rattle.chan_syntax.specs.declared.resources.Ref.{Ref}
use Rattle.chan_syntax.specs.Reading.{part_of}
use Rattle.session_lowering.specs.declared.puts.Put.{Put}
use Rattle.session_lowering.specs.PutTerms.{number_term, name_term, put_for, puts, so_often, in_place_of, term_for, put_in_parts, has_name, first_place, place_of_part, placed, normal_parts, normal, put_term, put_limit, put_ref}
use Rattle.session_lowering.specs.Helpers.{names_as_terms, at_all}
use Rattle.fault_places.specs.Spans.{Every, OfAny, OfNames, InPart, InTerm, InLimit, InRef}

module _ {X : Type 0} (Q : X → Type 0) where
  pub every_append : (xs ys : List X) → Every Q xs → Every Q ys → Every Q (xs ++ ys)
  every_append [] ys here there = there
  every_append (x ∷ xs) ys here there = (here.0, every_append xs ys here.1 there)

module _ {X Y : Type 0} (Q : X → Type 0) (R : Y → Type 0) where
  pub every_map : (f : X → Y) → ((x : X) → Q x → R (f x)) → (xs : List X) → Every Q xs → Every R (map f xs)
  every_map f each [] all = tt
  every_map f each (x ∷ xs) all = (each x all.0, every_map f each xs all.1)

  pub every_flat : (f : X → List Y) → ((x : X) → Q x → Every R (f x)) → (xs : List X) → Every Q xs → Every R (flat_map f xs)
  every_flat f each [] all = tt
  every_flat f each (x ∷ xs) all = every_append R (f x) (flat_map f xs) (each x all.0) (every_flat f each xs all.1)

module _ (P : Span → Type 0) where
  pub name_in : (span : Span) (x : Ident) (at : Span) → P span → P at → InTerm P (name_term span x at)
  name_in span x at here there = ((there, tt), here)

  pub number_in : (span : Span) (z : ℤ) → P span → InTerm P (number_term span z)
  number_in span z here = ((tt, tt), here)

  -- ---- terms that are put in

  abbrev pub InPut : Put → Type 0
  InPut p = InTerm P p.term

  abbrev InFound : Option Term → Type 0
  InFound None = Unit {0}
  InFound (Some t) = InTerm P t

  found : (t : Bool) (a b : Option Term) → InFound a → InFound b → InFound (if t then a else b)
  found true a b here there = here
  found false a b here there = there

  put_found : (ps : List Put) (x : Ident) → Every InPut ps → InFound (put_for ps x)
  put_found [] x all = tt
  put_found (p ∷ ps) x all = found (same p.name x) (Some p.term) (put_for ps x) all.0 (put_found ps x all.1)

  term_found : (ps : List Put) (o : Option Ident) → Every InPut ps → InFound (term_for ps o)
  term_found ps None all = tt
  term_found ps (Some x) all = put_found ps x all

  pub puts_in : (xs : List Ident) (ts : List Term) → Every (InTerm P) ts → Every InPut (puts xs ts)
  puts_in [] ts all = tt
  puts_in (x ∷ xs) [] all = tt
  puts_in (x ∷ xs) (t ∷ ts) all = (all.0, puts_in xs ts all.1)

  in_place : (p : Part) (o : Option Term) → InPart P p → InFound o → Every (InPart P) (in_place_of p o)
  in_place p None here put = (here, tt)
  in_place p (Some t) here put = every_map (InPart P) (InPart P) (so_often (times_of (part_of p))) (λ q in_q. in_q) t.parts put.0

  pub parts_in : (ps : List Put) (parts : List Part) → Every InPut ps → Every (InPart P) parts → Every (InPart P) (put_in_parts ps parts)
  parts_in ps parts all here = every_flat (InPart P) (InPart P) (λ p. in_place_of p (term_for ps p.name)) (λ p in_p. in_place p (term_for ps p.name) in_p (term_found ps p.name all)) parts here

  -- ---- normal forms

  either : (t : Bool) (a b : Option Span) → OfAny P a → OfAny P b → OfAny P (if t then a else b)
  either true a b here there = here
  either false a b here there = there

  first_in : (x : Ident) (parts : List Part) → Every (InPart P) parts → OfAny P (first_place x parts)
  first_in x [] all = tt
  first_in x (p ∷ ps) all = either (has_name x p.name) p.name_span (first_place x ps) all.0 (first_in x ps all.1)

  place_in : (parts : List Part) (o : Option Ident) → Every (InPart P) parts → OfAny P (place_of_part parts o)
  place_in parts None all = tt
  place_in parts (Some x) all = first_in x parts all

  placed_in : (parts : List Part) → Every (InPart P) parts → (qs : List core.Part) → Every (InPart P) (map (placed parts) qs)
  placed_in parts all [] = tt
  placed_in parts all (q ∷ qs) = (place_in parts q.name all, placed_in parts all qs)

  pub normal_in : (span : Span) (parts : List Part) → P span → Every (InPart P) parts → InTerm P (normal span parts)
  normal_in span parts here all = (placed_in parts all (normal_parts parts), here)

  -- ---- at a statement

  module _ (span : Span) (here : P span) where
    pub names_in : (xs : List Ident) → Every (InTerm P) (names_as_terms span xs)
    names_in [] = tt
    names_in (x ∷ xs) = (name_in span x span here here, names_in xs)

    -- as many spans as names
    pub at_all_in : (xs : List Ident) → OfNames P xs (at_all span xs)
    at_all_in [] = tt
    at_all_in (x ∷ xs) = (here, at_all_in xs)

    pub put_term_in : (ps : List Put) → Every InPut ps → (t : Term) → InTerm P t → InTerm P (put_term span ps t)
    put_term_in ps all t in_t = normal_in span (put_in_parts ps t.parts) here (parts_in ps t.parts all in_t.0)

    pub put_limit_in : (ps : List Put) → Every InPut ps → (l : Limit) → InLimit P l → InLimit P (put_limit span ps l)
    put_limit_in ps all l in_l = (put_term_in ps all l.left in_l.0, put_term_in ps all l.right in_l.1)

    pub put_ref_in : (ps : List Put) → Every InPut ps → (r : Ref) → InRef P r → InRef P (put_ref span ps r)
    put_ref_in ps all r in_r = (in_r.0, every_map (InTerm P) (InTerm P) (put_term span ps) (put_term_in ps all) r.args in_r.1, in_r.2)
