-- One more number for a name.
use Rattle.std.proofs.Common.{◌≡◌, ℕ, Bool, true, false, cond, [], ◌∷◌, ◌++◌, Some, None, refl, sym, ap, ◌∙◌, append-nil, BTreeMap}
use Rattle.std.specs.Ordering.{nat_cmp}
use Rattle.std.specs.Global.{Vec}
use Rattle.std.specs.BTreeMap.{get, is_at, Updates}
use Rattle.std.specs.Map.{lookup}
use Rattle.std.specs.Cmp.Lexicographic.{slice_cmp, bytes_decides, nat_list_eq_equiv}
use Rattle.std.proofs.lemmas.Map.Text.{is_eq-slice_cmp}
use Rattle.core_language.specs.Names.{Ident, same}
use Rattle.name_uses.specs.Uses.{numbers_of, uses_in, times}

pub noted : (m t n : BTreeMap Ident (Vec ℕ)) (key : Ident) (number : ℕ) (numbers v : Vec ℕ) → Updates (slice_cmp nat_cmp) m t key None → Updates (slice_cmp nat_cmp) t n key (Some v)
    → numbers.items ≡ uses_in m key → v.items ≡ numbers.items ++ number ∷ [] → (x : Ident) → uses_in n x ≡ uses_in m x ++ times x number (key ∷ [])
noted m t n key number numbers v taken put held pushed x = by (same x key) refl
  where
    at : is_at (slice_cmp nat_cmp key) x ≡ same x key
    at = is_eq-slice_cmp key x ∙ nat_list_eq_equiv.symm key x

    by : (b : Bool) → same x key ≡ b → uses_in n x ≡ uses_in m x ++ cond b (number ∷ []) []
    by true e =
        let equal : x ≡ key = (bytes_decides x key).0 e in
        ap numbers_of (put.0 x ∙ ap (λ b. cond b (Some v) (get (slice_cmp nat_cmp) t x)) (at ∙ e))
        ∙ pushed ∙ ap (λ ns. ns ++ number ∷ []) (held ∙ ap (uses_in m) (sym equal))
    by false e =
        ap numbers_of (put.0 x ∙ ap (λ b. cond b (Some v) (get (slice_cmp nat_cmp) t x)) (at ∙ e) ∙ taken.0 x ∙ ap (λ b. cond b None (get (slice_cmp nat_cmp) m x)) (at ∙ e))
        ∙ sym (append-nil (uses_in m x))

pub none_noted : (index : BTreeMap Ident (Vec ℕ)) (x : Ident) → index.entries ≡ [] → uses_in index x ≡ []
none_noted index x empty = ap (λ es. numbers_of (lookup (is_at (slice_cmp nat_cmp x)) es)) empty
