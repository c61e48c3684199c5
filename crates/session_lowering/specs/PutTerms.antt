-- Terms in normal form with terms put in for names, whose names keep their places in the text.
use Rattle.std.specs.Prelude.{ℤ, pos, ◌*ℤ◌, Bool, false, if◌then◌else◌, List, [], ◌∷◌, map, flat_map, Option, Some, None}
use Rattle.std.specs.Ordering.{nat_cmp}
use Rattle.std.specs.declared.cmp.Ordering.{Ordering}
use Rattle.std.specs.declared.cmp.Ordering.TheVariants.{Less, Equal, Greater}
use Rattle.std.specs.Cmp.Lexicographic.{slice_cmp}
use Rattle.core_language.specs.Names.{Ident, same}
use Rattle.core_language.specs.Terms as core
use Rattle.linear_forms.specs.Terms.{times_of}
use Rattle.linear_forms.specs.NormalTerms.{nonzero, spelled, count_of, bare_of}
use Rattle.chan_base.specs.declared.spans.Span.{Span}
use Rattle.chan_syntax.specs.declared.linear.Part.{Part}
use Rattle.chan_syntax.specs.declared.linear.Term.{Term}
use Rattle.chan_syntax.specs.declared.linear.Limit.{Limit}
use Rattle.chan_syntax.specs.declared.resources.Ref.{Ref}
use Rattle.chan_syntax.specs.Reading.{part_of}
use Rattle.session_lowering.specs.declared.puts.Put.{Put}

-- ---- terms of one part

abbrev pub number_term : Span → ℤ → Term
number_term span z = record { parts = record { negative = false; factor = z; name = None; name_span = None } ∷ []; span = span }

-- a name, where it stands
abbrev pub name_term : Span → Ident → Span → Term
name_term span x at = record { parts = record { negative = false; factor = pos 1; name = Some x; name_span = Some at } ∷ []; span = span }

-- ---- terms put in for names

-- the term for a name: of two the first counts
abbrev pub put_for : List Put → Ident → Option Term
put_for [] x = None
put_for (p ∷ ps) x = if same p.name x then Some p.term else put_for ps x

-- names, and the terms for them in order
abbrev pub puts : List Ident → List Term → List Put
puts [] ts = []
puts (x ∷ xs) [] = []
puts (x ∷ xs) (t ∷ ts) = record { name = x; term = t } ∷ puts xs ts

-- a part some times
abbrev pub so_often : ℤ → Part → Part
so_often times p = record { negative = false; factor = times *ℤ times_of (part_of p); name = p.name; name_span = p.name_span }

abbrev pub in_place_of : Part → Option Term → List Part
in_place_of p None = so_often (pos 1) p ∷ []
in_place_of p (Some t) = map (so_often (times_of (part_of p))) t.parts

abbrev pub term_for : List Put → Option Ident → Option Term
term_for ps None = None
term_for ps (Some x) = put_for ps x

abbrev pub put_in_parts : List Put → List Part → List Part
put_in_parts ps parts = flat_map (λ p. in_place_of p (term_for ps p.name)) parts

-- ---- normal forms

abbrev pub by_order : {A : Type 0} → Ordering → (less equal greater : A) → A
by_order Less less equal greater = less
by_order Equal less equal greater = equal
by_order Greater less equal greater = greater

-- the name at its place in the order of names, once
abbrev pub with_name : Ident → List Ident → List Ident
with_name x [] = x ∷ []
with_name x (y ∷ ys) = by_order (slice_cmp nat_cmp x y) (x ∷ y ∷ ys) (y ∷ ys) (y ∷ with_name x ys)

abbrev pub with_some : Option Ident → List Ident → List Ident
with_some None names = names
with_some (Some x) names = with_name x names

-- the names of the parts in order, each once
abbrev pub names_in_order : List Part → List Ident
names_in_order [] = []
names_in_order (p ∷ ps) = with_some p.name (names_in_order ps)

abbrev pub has_name : Ident → Option Ident → Bool
has_name x None = false
has_name x (Some y) = same y x

-- where the name stands first
abbrev pub first_place : Ident → List Part → Option Span
first_place x [] = None
first_place x (p ∷ ps) = if has_name x p.name then p.name_span else first_place x ps

abbrev pub place_of_part : List Part → Option Ident → Option Span
place_of_part parts None = None
place_of_part parts (Some x) = first_place x parts

abbrev pub placed : List Part → core.Part → Part
placed parts p = record { negative = p.negative; factor = p.factor; name = p.name; name_span = place_of_part parts p.name }

abbrev pub normal_parts : List Part → List core.Part
normal_parts parts =
    let sum = map part_of parts in
    spelled (nonzero (map (λ x. (x, count_of x sum)) (names_in_order parts))) (bare_of sum)

-- names in order, then the constant; a name stands where it stood first
abbrev pub normal : Span → List Part → Term
normal span parts = record { parts = map (placed parts) (normal_parts parts); span = span }

-- a term with the terms put in, in normal form
abbrev pub put_term : Span → List Put → Term → Term
put_term span ps t = normal span (put_in_parts ps t.parts)

abbrev pub put_limit : Span → List Put → Limit → Limit
put_limit span ps l = record { left = put_term span ps l.left; relation = l.relation; right = put_term span ps l.right }

abbrev pub put_ref : Span → List Put → Ref → Ref
put_ref span ps r = record { dual = r.dual; name = r.name; name_span = r.name_span; args = map (put_term span ps) r.args; span = r.span }
