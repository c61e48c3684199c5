-- Indexes that lead to the first protocol with each name.
use Rattle.std.proofs.Common.{◌≡◌, ℕ, ◌+◌, ◌<◌, Bool, true, false, cond, List, [], ◌∷◌, length, drop, get_or, Some, slice_get, refl, sym, ap, ◌∙◌, arith, BTreeMap, option_and_then}
use Rattle.std.specs.Cmp.Lexicographic.{slice_cmp}
use Rattle.std.specs.Ordering.{nat_cmp}
use Rattle.std.specs.Map.{lookup}
use Rattle.std.specs.BTreeMap.{get, is_at, Updates}
use Rattle.std.proofs.lemmas.List.{drop_all, drop_more}
use Rattle.std.proofs.lemmas.Option.{slice_get_read}
use Rattle.std.proofs.lemmas.Map.Text.{is_eq-slice_cmp}
use Rattle.core_language.specs.Names.{Ident, same}
use Rattle.session_lowering.specs.declared.sources.Source.{Source}
use Rattle.session_lowering.specs.Choices.{source_named}

-- to the first of the protocols from a place on
abbrev pub LeadsFrom : List Source → ℕ → BTreeMap Ident ℕ → Type 0
LeadsFrom ss i index = (x : Ident) → option_and_then (slice_get ss) (get (slice_cmp nat_cmp) index x) ≡ source_named (drop i ss) x

-- to none of no protocols
pub leads_nowhere : (ss : List Source) (index : BTreeMap Ident ℕ) → index.entries ≡ [] → LeadsFrom ss (length ss) index
leads_nowhere ss index empty x =
    ap (λ es. option_and_then (slice_get ss) (lookup (is_at (slice_cmp nat_cmp x)) es)) empty
    ∙ ap (λ rest. source_named rest x) (sym (drop_all (length ss) ss (omega arith)))

same_test : (a b : Ident) (t : Bool) → is_at (slice_cmp nat_cmp a) b ≡ t → same a b ≡ t
same_test a b t is = sym (is_eq-slice_cmp a b) ∙ is

-- one protocol more, in front
pub leads_before : (ss : List Source) (i : ℕ) (s : Source) (x : Ident) (old new : BTreeMap Ident ℕ) → i < length ss → s ≡ get_or ss i s → x ≡ s.proto.name
    → Updates (slice_cmp nat_cmp) old new x (Some i) → LeadsFrom ss (i + 1) old → LeadsFrom ss i new
leads_before ss i s x old new lt is named updates leads y = by (is_at (slice_cmp nat_cmp x) y) refl
  where
    front : drop i ss ≡ s ∷ drop (i + 1) ss
    front = drop_more ss i s lt ∙ ap (λ q. q ∷ drop (i + 1) ss) (sym is)

    tested : (t : Bool) → is_at (slice_cmp nat_cmp x) y ≡ t → same s.proto.name y ≡ t
    tested t at = ap (λ z. same z y) (sym named) ∙ same_test x y t at

    found : (t : Bool) → is_at (slice_cmp nat_cmp x) y ≡ t → source_named (drop i ss) y ≡ cond t (Some s) (source_named (drop (i + 1) ss) y)
    found t at = ap (λ rest. source_named rest y) front ∙ ap (λ b. cond b (Some s) (source_named (drop (i + 1) ss) y)) (tested t at)

    by : (t : Bool) → is_at (slice_cmp nat_cmp x) y ≡ t → option_and_then (slice_get ss) (get (slice_cmp nat_cmp) new y) ≡ source_named (drop i ss) y
    by true at =
        ap (option_and_then (slice_get ss)) (updates.0 y ∙ ap (λ b. cond b (Some i) (get (slice_cmp nat_cmp) old y)) at)
        ∙ slice_get_read ss (length ss) i s refl lt is
        ∙ sym (found true at)
    by false at =
        ap (option_and_then (slice_get ss)) (updates.0 y ∙ ap (λ b. cond b (Some i) (get (slice_cmp nat_cmp) old y)) at)
        ∙ leads y
        ∙ sym (found false at)
