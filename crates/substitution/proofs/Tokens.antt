-- Names with their places, as sums grow by one.
use Rattle.std.proofs.Common.{◌≡◌, inl, inr, ℕ, ◌+◌, ◌<◌, pos, Bool, true, false, cond, if◌then◌else◌, List, [], ◌∷◌, ◌++◌, All, map, flat_map, find, take, get_or, length, Option, Some, None, unwrap_or, refl, sym, ◌∙◌, ap}
use Rattle.std.specs.Option.{option_map}
use Rattle.std.specs.Ordering.{nat_cmp, int_eq, is_eq}
use Rattle.std.specs.Cmp.Lexicographic.{slice_cmp, texts_ties}
use Rattle.std.specs.List.Sorted.{IsStrictlySortedBy}
use Rattle.std.specs.Map.{lookup, keys_of}
use Rattle.std.specs.BTreeMap.{is_at, get, Updates}
use Rattle.std.proofs.lemmas.Map.Keys.{sorted_head, sorted_tail}
use Rattle.std.proofs.lemmas.List.{append-nil, append_assoc}
use Rattle.std.proofs.lemmas.List.Elements.{All-nil, All-cons, All-append, All-head, All-tail}
use Rattle.core_language.specs.Names.{Ident, same}
use Rattle.linear_forms.proofs.SameNames.{same_is, same-self}
use Rattle.chan_base.specs.declared.spans.Span.{Span}
use Rattle.chan_syntax.specs.declared.linear.Part.{Part}
use Rattle.substitution.specs.Places.{Token, first_place, place_among}
use Rattle.substitution.specs.Sums.{span_at, HasPlaces, Where, where_of, where_in, IsWithNumber}
use Rattle.substitution.specs.declared.summands.Summand.{Summand}
use Rattle.substitution.specs.declared.summands.Summands.{Summands}
use Rattle.substitution.proofs.Entries.{absent}
use Rattle.substitution.proofs.Lists.{flat_taken}

-- the place of a token, where there is one with this name
abbrev found : List Token → Ident → Option (Option Span)
found tokens x = option_map (λ t. t.place) (find (λ t. same t.name x) tokens)

found_more : (ts : List Token) (t : Token) (x : Ident) → same t.name x ≡ true → found (ts ++ t ∷ []) x ≡ Some (unwrap_or (found ts x) t.place)
found_more [] t x e = rw e refl
found_more (u ∷ us) t x e = pick (same u.name x) (found_more us t x e)
  where
    pick : (b : Bool) → found (us ++ t ∷ []) x ≡ Some (unwrap_or (found us x) t.place)
        → option_map (λ t. t.place) (if b then Some u else find (λ t. same t.name x) (us ++ t ∷ [])) ≡ Some (unwrap_or (option_map (λ t. t.place) (if b then Some u else find (λ t. same t.name x) us)) t.place)
    pick true h = refl
    pick false h = h

found_same : (ts : List Token) (t : Token) (x : Ident) → same t.name x ≡ false → found (ts ++ t ∷ []) x ≡ found ts x
found_same [] t x e = rw e refl
found_same (u ∷ us) t x e = pick (same u.name x) (found_same us t x e)
  where
    pick : (b : Bool) → found (us ++ t ∷ []) x ≡ found us x
        → option_map (λ t. t.place) (if b then Some u else find (λ t. same t.name x) (us ++ t ∷ [])) ≡ option_map (λ t. t.place) (if b then Some u else find (λ t. same t.name x) us)
    pick true h = refl
    pick false h = h

-- a name is added, at its place where it is new
pub added_place : (old mid new : Summands) (y : Ident) (place : Option Span) (s : Summand) → ((x : Ident) → same y x ≡ false → span_at mid x ≡ span_at old x) → Updates (slice_cmp nat_cmp) mid.named new.named y (Some s) → s.span ≡ unwrap_or (span_at old y) place
    → (tokens : List Token) → HasPlaces old tokens → HasPlaces new (tokens ++ record { name = y; place = place } ∷ [])
added_place old mid new y place s others puts is tokens h = λ x. each x (same y x) refl
  where
    each : (x : Ident) (b : Bool) → same y x ≡ b → span_at new x ≡ found (tokens ++ record { name = y; place = place } ∷ []) x
    each x true e =
        let here : get (slice_cmp nat_cmp) new.named x ≡ Some s = puts.0 x ∙ ap (λ b. cond b (Some s) (get (slice_cmp nat_cmp) mid.named x)) (sym (texts_ties y x) ∙ e) in
        let known : span_at old y ≡ found tokens x = ap (span_at old) (same_is y x e) ∙ h x in
        ap (option_map (λ s. s.span)) here ∙ ap Some (is ∙ ap (λ o. unwrap_or o place) known) ∙ sym (found_more tokens (record { name = y; place = place }) x e)
    each x false e =
        let there : get (slice_cmp nat_cmp) new.named x ≡ get (slice_cmp nat_cmp) mid.named x = puts.0 x ∙ ap (λ b. cond b (Some s) (get (slice_cmp nat_cmp) mid.named x)) (sym (texts_ties y x) ∙ e) in
        ap (option_map (λ s. s.span)) there ∙ others x e ∙ h x ∙ sym (found_same tokens (record { name = y; place = place }) x e)

-- no name more
pub none_more : (sums : Summands) (tokens : List Token) → HasPlaces sums tokens → HasPlaces sums (tokens ++ [])
none_more sums tokens h = rw (append-nil tokens) h

-- the names of one part more
pub tokens_more : {X : Type 0} (f : X → List Token) (tokens : List Token) (xs : List X) (i : ℕ) (x : X) → i < length xs → get_or xs i x ≡ x → (tokens ++ flat_map f (take i xs)) ++ f x ≡ tokens ++ flat_map f (take (i + 1) xs)
tokens_more f tokens xs i x l e =
    append_assoc tokens (flat_map f (take i xs)) (f x) ∙ ap (λ l. tokens ++ l) (sym (flat_taken f xs i x l e))

-- ---- the parts that are spelled

first_found : (tokens : List Token) (x : Ident) (place : Option Span) → found tokens x ≡ Some place → first_place tokens x ≡ place
first_found [] x place e = absurd cc
first_found (t ∷ ts) x place e = pick (same t.name x) refl (first_found ts x place)
  where
    pick : (b : Bool) → same t.name x ≡ b → (found ts x ≡ Some place → first_place ts x ≡ place) → first_place (t ∷ ts) x ≡ place
    pick true q again = let here : Some t.place ≡ Some place = rw q at e in rw q cc
    pick false q again = let later : found ts x ≡ Some place = rw q at e in rw q (again later)

-- a name stands where its entry says
abbrev IsAt : List Token → Where → Type 0
IsAt tokens w = w.1 ≡ place_among tokens w.0

entries_at : (tokens : List Token) (es : List (Ident × Summand)) → IsStrictlySortedBy (slice_cmp nat_cmp) (keys_of es)
    → ((x : Ident) (s : Summand) → lookup (is_at (slice_cmp nat_cmp x)) es ≡ Some s → found tokens x ≡ Some s.span) → All (IsAt tokens) (flat_map where_in es)
entries_at tokens [] sorted h = All-nil (IsAt tokens)
entries_at tokens (e ∷ es) sorted h =
    All-append (IsAt tokens) (where_in e) (flat_map where_in es) (one (int_eq e.1.sum (pos 0))) (entries_at tokens es (sorted_tail (slice_cmp nat_cmp) e.0 (keys_of es) sorted) (λ x s. rest x s (is_eq (slice_cmp nat_cmp x e.0)) refl))
  where
    here : lookup (is_at (slice_cmp nat_cmp e.0)) (e ∷ es) ≡ Some e.1
    here = ap (λ b. cond b (Some e.1) (lookup (is_at (slice_cmp nat_cmp e.0)) es)) (sym (texts_ties e.0 e.0) ∙ same-self e.0)

    one : (b : Bool) → All (IsAt tokens) (if b then [] else ((Some e.0, e.1.span) ∷ []))
    one true = All-nil (IsAt tokens)
    one false = All-cons (IsAt tokens) (Some e.0, e.1.span) [] (sym (first_found tokens e.0 e.1.span (h e.0 e.1 here))) (All-nil (IsAt tokens))

    rest : (x : Ident) (s : Summand) (b : Bool) → is_eq (slice_cmp nat_cmp x e.0) ≡ b → lookup (is_at (slice_cmp nat_cmp x)) es ≡ Some s → found tokens x ≡ Some s.span
    rest x s true q k =
        let one : x ≡ e.0 = same_is x e.0 (texts_ties x e.0 ∙ q) in
        let none : lookup (is_at (slice_cmp nat_cmp x)) es ≡ None = ap (λ y. lookup (is_at (slice_cmp nat_cmp y)) es) one ∙ absent e.0 es (sorted_head (slice_cmp nat_cmp) e.0 (keys_of es) sorted) in
        absurd cc
    rest x s false q k = h x s (ap (λ b. cond b (Some e.1) (lookup (is_at (slice_cmp nat_cmp x)) es)) q ∙ k)

-- what holds of each name and place holds of each part
of_parts : (tokens : List Token) (parts : List Part) → All (IsAt tokens) (map where_of parts) → All (λ p. p.name_span ≡ place_among tokens p.name) parts
of_parts tokens [] h = All-nil (λ p. p.name_span ≡ place_among tokens p.name)
of_parts tokens (p ∷ ps) h =
    All-cons (λ p. p.name_span ≡ place_among tokens p.name) p ps (All-head (IsAt tokens) (where_of p) (map where_of ps) h) (of_parts tokens ps (All-tail (IsAt tokens) (where_of p) (map where_of ps) h))

with_number : (tokens : List Token) (ws vs : List Where) → IsWithNumber ws vs → All (IsAt tokens) ws → All (IsAt tokens) vs
with_number tokens ws vs (inl is) h = rw is h
with_number tokens ws vs (inr is) h = rw is (All-append (IsAt tokens) ws ((None, None) ∷ []) h (All-cons (IsAt tokens) (None, None) [] refl (All-nil (IsAt tokens))))

pub spelled_at : (sums : Summands) → IsStrictlySortedBy (slice_cmp nat_cmp) (keys_of sums.named.entries) → (parts all : List Part) → map where_of parts ≡ flat_map where_in sums.named.entries → IsWithNumber (map where_of parts) (map where_of all)
    → (tokens : List Token) → HasPlaces sums tokens → All (λ p. p.name_span ≡ place_among tokens p.name) all
spelled_at sums sorted parts all is more tokens h =
    of_parts tokens all (with_number tokens (map where_of parts) (map where_of all) more (rw is (entries_at tokens sums.named.entries sorted (λ x s k. sym (h x) ∙ ap (option_map (λ s. s.span)) k))))
