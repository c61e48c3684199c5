-- Indexes that lead to the first header with each name.
use Rattle.std.proofs.Common.{◌≡◌, ℕ, ◌+◌, ◌<◌, Bool, true, false, cond, List, [], ◌∷◌, length, drop, get_or, Some, slice_get, refl, sym, ap, ◌∙◌, arith, BTreeMap, option_and_then}
use Rattle.std.specs.Cmp.Lexicographic.{slice_cmp}
use Rattle.std.specs.Ordering.{nat_cmp}
use Rattle.std.specs.Map.{lookup}
use Rattle.std.specs.BTreeMap.{get, is_at, Updates}
use Rattle.std.proofs.lemmas.List.{drop_all, drop_more}
use Rattle.std.proofs.lemmas.Option.{slice_get_read}
use Rattle.std.proofs.lemmas.Map.Text.{is_eq-slice_cmp}
use Rattle.core_language.specs.Names.{Ident, same}
use Rattle.function_headers.specs.Headers.{Header, header_named}

-- to the first of the headers from a place on
abbrev pub LeadsFrom : List Header → ℕ → BTreeMap Ident ℕ → Type 0
LeadsFrom ps i index = (x : Ident) → option_and_then (slice_get ps) (get (slice_cmp nat_cmp) index x) ≡ header_named x (drop i ps)

-- to none of no headers
pub leads_nowhere : (ps : List Header) (index : BTreeMap Ident ℕ) → index.entries ≡ [] → LeadsFrom ps (length ps) index
leads_nowhere ps index empty x =
    ap (λ es. option_and_then (slice_get ps) (lookup (is_at (slice_cmp nat_cmp x)) es)) empty
    ∙ ap (header_named x) (sym (drop_all (length ps) ps (omega arith)))

same_test : (a b : Ident) (t : Bool) → is_at (slice_cmp nat_cmp a) b ≡ t → same a b ≡ t
same_test a b t is = sym (is_eq-slice_cmp a b) ∙ is

-- one header more, in front
pub leads_before : (ps : List Header) (i : ℕ) (p : Header) (x : Ident) (old new : BTreeMap Ident ℕ) → i < length ps → p ≡ get_or ps i p → x ≡ p.name
    → Updates (slice_cmp nat_cmp) old new x (Some i) → LeadsFrom ps (i + 1) old → LeadsFrom ps i new
leads_before ps i p x old new lt is named updates leads y = by (is_at (slice_cmp nat_cmp x) y) refl
  where
    front : drop i ps ≡ p ∷ drop (i + 1) ps
    front = drop_more ps i p lt ∙ ap (λ q. q ∷ drop (i + 1) ps) (sym is)

    tested : (t : Bool) → is_at (slice_cmp nat_cmp x) y ≡ t → same p.name y ≡ t
    tested t at = ap (λ z. same z y) (sym named) ∙ same_test x y t at

    by : (t : Bool) → is_at (slice_cmp nat_cmp x) y ≡ t → option_and_then (slice_get ps) (get (slice_cmp nat_cmp) new y) ≡ header_named y (drop i ps)
    by true at =
        ap (option_and_then (slice_get ps)) (updates.0 y ∙ ap (λ b. cond b (Some i) (get (slice_cmp nat_cmp) old y)) at)
        ∙ slice_get_read ps (length ps) i p refl lt is
        ∙ sym (ap (header_named y) front ∙ ap (λ b. cond b (Some p) (header_named y (drop (i + 1) ps))) (tested true at))
    by false at =
        ap (option_and_then (slice_get ps)) (updates.0 y ∙ ap (λ b. cond b (Some i) (get (slice_cmp nat_cmp) old y)) at)
        ∙ leads y
        ∙ sym (ap (header_named y) front ∙ ap (λ b. cond b (Some p) (header_named y (drop (i + 1) ps))) (tested false at))
