-- Lists of binders, one after another.
use Rattle.std.proofs.Common.{◌≡◌, ℕ, zero, suc, Bool, true, false, cond, is_some, ◌+◌, ◌<◌, ◌≤◌, List, [], ◌∷◌, ◌++◌, length, map, take, drop, Option, Some, None, slice_get, unwrap_or, refl, sym, ap, ◌∙◌, arith}
use Rattle.std.proofs.lemmas.Grind.{common_steps}
use Rattle.core_language.specs.Names.{Ident}
use Rattle.chan_base.specs.declared.spans.Span.{Span}
use Rattle.form_faults.specs.declared.faults.IllKind.TheVariants as kind
use Rattle.form_faults.specs.declared.faults.Ill.{Ill}
use Rattle.form_faults.specs.declared.sorts.Sort.{Sort}
use Rattle.form_faults.specs.declared.sorts.Known.{Known}
use Rattle.form_faults.specs.Faults.{nowhere, least, at_span, at_element, past}
use Rattle.form_faults.specs.Scopes.{sort_of, Binder, bind, bind_all, twice, twice_all, binders, names_past}
use Rattle.form_faults.proofs.Firsts.{least-append}

pub bind-nil : (scope : List Known) → bind_all scope [] ≡ scope
unfolding bind_all
bind-nil scope = refl

pub bind-one : (scope : List Known) (b : Binder) (bs : List Binder) → bind_all scope (b ∷ bs) ≡ bind_all (bind scope b.name b.sort) bs
unfolding bind_all
bind-one scope b bs = refl

pub bind-append : (scope : List Known) (bs cs : List Binder) → bind_all scope (bs ++ cs) ≡ bind_all (bind_all scope bs) cs
unfolding bind_all
bind-append scope [] cs = refl
bind-append scope (b ∷ bs) cs = bind-append (bind scope b.name b.sort) bs cs

pub twice-nil : (scope : List Known) → twice_all scope [] ≡ []
unfolding twice_all
twice-nil scope = refl

pub twice-one : (scope : List Known) (b : Binder) (bs : List Binder) → twice_all scope (b ∷ bs) ≡ twice scope b.name b.span ++ twice_all (bind scope b.name b.sort) bs
unfolding twice_all
twice-one scope b bs = refl

pub ruleset binder_rules = (bind-nil, bind-one, bind-append, twice-nil, twice-one)

no_more : (i : ℕ) → drop {A = Span} i [] ≡ []
no_more zero = refl
no_more (suc i) = refl

no_span : (i : ℕ) → unwrap_or (slice_get {X = Span} [] i) nowhere ≡ nowhere
no_span zero = refl
no_span (suc i) = refl

-- the binder at a place, and those after it
after_at : (its : Sort) (names : List Ident) (spans : List Span) (i : ℕ) (name : Ident) → slice_get names i ≡ Some name
    → binders its (drop i names) (drop i spans) ≡ record { name = name; sort = its; span = unwrap_or (slice_get spans i) nowhere } ∷ binders its (drop (suc i) names) (drop (suc i) spans)
unfolding binders
after_at its [] spans i name is = cc
after_at its (x ∷ xs) [] zero name is = let same : x ≡ name = cc in ap (λ y. record { name = y; sort = its; span = nowhere } ∷ binders its xs []) same
after_at its (x ∷ xs) (s ∷ ss) zero name is = let same : x ≡ name = cc in ap (λ y. record { name = y; sort = its; span = s } ∷ binders its xs ss) same
after_at its (x ∷ xs) [] (suc i) name is =
    sym (ap (binders its (drop i xs)) (no_more i))
    ∙ after_at its xs [] i name is
    ∙ ap (λ s. record { name = name; sort = its; span = s } ∷ binders its (drop (suc i) xs) []) (no_span i)
after_at its (x ∷ xs) (s ∷ ss) (suc i) name is = after_at its xs ss i name is

pub binders-at : (its : Sort) (names : List Ident) (spans : List Span) (i : ℕ) (name : Ident) → slice_get names i ≡ Some name
    → binders its (drop i names) (drop i spans) ≡ record { name = name; sort = its; span = unwrap_or (slice_get spans i) nowhere } ∷ binders its (drop (i + 1) names) (drop (i + 1) spans)
binders-at its names spans i name is = let next : i + 1 ≡ suc i = omega arith in rw next (after_at its names spans i name is)

pub binders-past : (its : Sort) (names : List Ident) (spans : List Span) (i : ℕ) → length names ≤ i → binders its (drop i names) (drop i spans) ≡ []
unfolding binders
binders-past its [] spans zero le = refl
binders-past its [] spans (suc i) le = refl
binders-past its (x ∷ xs) spans zero le = absurd (omega (arith, le))
binders-past its (x ∷ xs) [] (suc i) le = sym (ap (binders its (drop i xs)) (no_more i)) ∙ binders-past its xs [] i (omega (arith, le))
binders-past its (x ∷ xs) (s ∷ ss) (suc i) le = binders-past its xs ss i (omega (arith, le))

-- one more name is bound
pub bound_one : (its : Sort) (names : List Ident) (spans : List Span) (scope new : List Known) (best after : Option Ill) (i : ℕ) (name : Ident) (span : Span) → slice_get names i ≡ Some name
    → span ≡ unwrap_or (slice_get spans i) nowhere → after ≡ least best (twice scope name span) → new ≡ bind scope name its
    → (least after (twice_all new (binders its (drop (i + 1) names) (drop (i + 1) spans))) ≡ least best (twice_all scope (binders its (drop i names) (drop i spans))))
    × (bind_all new (binders its (drop (i + 1) names) (drop (i + 1) spans)) ≡ bind_all scope (binders its (drop i names) (drop i spans)))
bound_one its names spans scope new best after i name span here at found bound = (
  ap (λ b. least b (twice_all new more)) found
      ∙ ap (λ s. least (least best (twice scope name span)) (twice_all s more)) bound
      ∙ sym (least-append best (twice scope name span) (twice_all (bind scope name its) more))
      ∙ sym (ap (least best) (twice-one scope one more))
      ∙ sym (ap (λ bs. least best (twice_all scope bs)) opened),
  ap (λ s. bind_all s more) bound ∙ sym (bind-one scope one more) ∙ sym (ap (bind_all scope) opened),
)
  where
    more : List Binder
    more = binders its (drop (i + 1) names) (drop (i + 1) spans)

    one : Binder
    one = record { name = name; sort = its; span = span }

    opened : binders its (drop i names) (drop i spans) ≡ one ∷ more
    opened = binders-at its names spans i name here ∙ ap (λ s. record { name = name; sort = its; span = s } ∷ more) (sym at)

-- the span of the binder at a place
spans-at : (its : Sort) (names : List Ident) (spans : List Span) (i : ℕ) → i < length names → slice_get (map (λ (b : Binder). b.span) (binders its names spans)) i ≡ Some (unwrap_or (slice_get spans i) nowhere)
unfolding binders
spans-at its [] spans i lt = absurd (omega (arith, lt))
spans-at its (x ∷ xs) [] zero lt = refl
spans-at its (x ∷ xs) (s ∷ ss) zero lt = refl
spans-at its (x ∷ xs) [] (suc i) lt = spans-at its xs [] i (omega (arith, lt)) ∙ ap Some (no_span i)
spans-at its (x ∷ xs) (s ∷ ss) (suc i) lt = spans-at its xs ss i (omega (arith, lt))

spans-end : (its : Sort) (names : List Ident) (spans : List Span) (i : ℕ) → length names ≤ i → slice_get (map (λ (b : Binder). b.span) (binders its names spans)) i ≡ None
unfolding binders
spans-end its [] spans zero le = refl
spans-end its [] spans (suc i) le = refl
spans-end its (x ∷ xs) spans zero le = absurd (omega (arith, le))
spans-end its (x ∷ xs) [] (suc i) le = spans-end its xs [] i (omega (arith, le))
spans-end its (x ∷ xs) (s ∷ ss) (suc i) le = spans-end its xs ss i (omega (arith, le))

pub past-some : (its : Sort) (names : List Ident) (spans : List Span) (most : ℕ) → most < length names → names_past most (binders its names spans) ≡ at_span kind.TooMany (unwrap_or (slice_get spans most) nowhere)
unfolding past
past-some its names spans most lt = ap at_element (spans-at its names spans most lt)

pub past-none : (its : Sort) (names : List Ident) (spans : List Span) (most : ℕ) → length names ≤ most → names_past most (binders its names spans) ≡ []
unfolding past
past-none its names spans most le = ap at_element (spans-end its names spans most le)

pub ruleset names_past_rules = (past-some, past-none)

-- ---- leaving a scope

bind-long : (scope : List Known) (x : Ident) (its : Sort) → length scope ≤ length (bind scope x its)
unfolding bind
bind-long scope x its = by (is_some (sort_of scope x))
  where
    by : (b : Bool) → length scope ≤ length (cond b scope (scope ++ record { name = x; sort = its } ∷ []))
    by true = omega arith
    by false = grind (arith, common_steps)

bind-front : (scope : List Known) (x : Ident) (its : Sort) (m : ℕ) → m ≤ length scope → take m (bind scope x its) ≡ take m scope
unfolding bind
bind-front scope x its m le = by (is_some (sort_of scope x))
  where
    by : (b : Bool) → take m (cond b scope (scope ++ record { name = x; sort = its } ∷ [])) ≡ take m scope
    by true = refl
    by false = grind (arith, common_steps)

pub all-long : (scope : List Known) (bs : List Binder) → length scope ≤ length (bind_all scope bs)
unfolding bind_all
all-long scope [] = omega arith
all-long scope (b ∷ bs) = omega (arith, bind-long scope b.name b.sort, all-long (bind scope b.name b.sort) bs)

pub all-front : (scope : List Known) (bs : List Binder) (m : ℕ) → m ≤ length scope → take m (bind_all scope bs) ≡ take m scope
unfolding bind_all
all-front scope [] m le = refl
all-front scope (b ∷ bs) m le =
    let longer = bind-long scope b.name b.sort in
    all-front (bind scope b.name b.sort) bs m (omega (arith, le, longer)) ∙ bind-front scope b.name b.sort m le

pub bound_cut : (scope : List Known) (bs : List Binder) → take (length scope) (bind_all scope bs) ≡ scope
bound_cut scope bs = all-front scope bs (length scope) (omega arith) ∙ grind (arith, common_steps)
