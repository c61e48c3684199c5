-- What obligations show, where the hypotheses are true.
use Rattle.std.proofs.Common.{◌≡◌, ℕ, zero, suc, ◌+◌, ◌≤◌, ℤ, pos, negsuc, ◌+ℤ◌, ◌-ℤ◌, ◌*ℤ◌, ◌≤ℤ◌, int_le, Bool, true, false, ◌&&◌, if◌then◌else◌, List, [], ◌∷◌, ◌++◌, All, map, flat_map, length, append-nil, Option, Some, None, slice_get, Result, Ok, Err, refl, ap, sym, subst, ◌∙◌, arith}
use Rattle.std.proofs.lemmas.Int.{ints}
use Rattle.std.proofs.lemmas.Bool.{and_parts}
use Rattle.std.proofs.lemmas.Bool.Decides.{Decides-int_eq}
use Rattle.std.proofs.Math.IntN as Z
use Rattle.std.specs.List.{list_all}
use Rattle.std.specs.Ordering.{int_eq}
use Rattle.core_language.specs.Terms.{AtMost, Less, Same}
use Rattle.farkas_check.specs.declared.cert.Row.{Row}
use Rattle.farkas_check.specs.declared.cert.Mention.{Mention as Mentioned}
use Rattle.farkas_check.specs.declared.cert.CertFault.{CertFault}
use Rattle.farkas_check.specs.Rows.{coefficient, linear_part, value_at}
use Rattle.farkas_check.specs.Certificates.{IsValid, faults, verdict}
use Rattle.farkas_check.proofs.Forms.{entailed}
use Rattle.farkas_check.proofs.Validity.{valid-ok}
use Rattle.core_language.specs.Operands.{Cert}
use Rattle.outline_language.specs.LinearForms.{Var, Free, Inside, LinearForm, same_form, minus, plus_one, form_at, free_values, row_of}
use Rattle.outline_language.specs.Nameless.{Limit, at_most_zero, forms_of_limit}
use Rattle.outline_language.specs.Contexts.{Why, CertCount, NotProved, and_then, or_why, provided, Context, Cursor, asks_nothing, mentioned, tried, shown, row_shown, row_formed, oblige, oblige_all, equate, equate_all}
use Rattle.good_configurations.specs.Ends.{at, integer_at}
use Rattle.good_configurations.specs.Values.{Keeps, KeepsAll, InRelation}
use Rattle.outline_values.proofs.Answers.{one_ok, err_ok, and_then-ok, provided-ok, or_why-ok}
use Rattle.outline_values.proofs.Forms.{form-agree, same_form-is, row-at}
use Rattle.outline_language.proofs.Values.{minus-at, plus_one-at}
use Rattle.outline_values.proofs.Proper.{past}

-- each row is at most 0
abbrev pub AreTrue : (ℕ → ℤ) → List Row → Type 0
AreTrue w rows = All (λ row. value_at w row ≤ℤ pos 0) rows

-- ---- certificates

-- by divisor 0 the hypotheses give 1 ≤ 0
no_divisor : (ms : List Mentioned) (hyps : List Row) (claim : Row) → IsValid 0 ms hyps claim → (w : ℕ → ℤ) → AreTrue w hyps → ⊥
no_divisor ms hyps claim valid w true_hyps = omega (arith, ints, entailed 1 ms hyps (record { coefficients = []; constant = pos 1 }) (omega arith) valid_one w true_hyps)
  where
    valid_one : IsValid 1 ms hyps (record { coefficients = []; constant = pos 1 })
    valid_one = record {
      indexed = valid.indexed;
      non_negative = valid.non_negative;
      equal = λ v. omega (arith, ints, valid.equal v, Z.zero-*ℤ (coefficient claim v));
      constant = omega (arith, ints, valid.constant, Z.zero-*ℤ (claim.constant));
    }

valid-true : (d : ℕ) (ms : List Mentioned) (hyps : List Row) (claim : Row) → IsValid d ms hyps claim → (w : ℕ → ℤ) → AreTrue w hyps → value_at w claim ≤ℤ pos 0
valid-true zero ms hyps claim valid w h = absurd (no_divisor ms hyps claim valid w h)
valid-true (suc d) ms hyps claim valid w h = entailed (suc d) ms hyps claim (omega arith) valid w h

zeros-at : (w : ℕ → ℤ) (cs : List ℤ) → list_all (λ c. int_eq c (pos 0)) cs ≡ true → linear_part w cs ≡ pos 0
zeros-at w [] e = refl
zeros-at w (c ∷ cs) e = let a = and_parts (int_eq c (pos 0)) (list_all (λ c. int_eq c (pos 0)) cs) e in let z : c ≡ pos 0 = (Decides-int_eq c (pos 0)).0 (a.0) in rw z (omega (arith, ints, Z.zero-*ℤ (w 0), zeros-at (λ i. w (suc i)) cs (a.1)))

nothing-true : (w : ℕ → ℤ) (row : Row) → asks_nothing row ≡ true → value_at w row ≤ℤ pos 0
nothing-true w row e = let a = and_parts (list_all (λ c. int_eq c (pos 0)) (row.coefficients)) (int_le (row.constant) (pos 0)) e in let le : int_le (row.constant) (pos 0) ≡ true = a.1 in omega (arith, ints, zeros-at w (row.coefficients) (a.0), le)

tried-ok : (refused : ℕ → CertFault → Why) (cursor after : Cursor) (r : Result (Unit {0}) CertFault) → tried refused cursor r ≡ Ok after → r ≡ Ok tt
tried-ok refused cursor after (Ok x) e = refl
tried-ok refused cursor after (Err fault) e = err_ok e

shown-true : (refused : ℕ → CertFault → Why) (hyps : List Row) (row : Row) (cursor after : Cursor) → shown refused hyps row cursor ≡ Ok after → (w : ℕ → ℤ) → AreTrue w hyps → value_at w row ≤ℤ pos 0
shown-true refused hyps row cursor after e w h = go (and_then-ok (or_why (slice_get (cursor.proof.certs) (cursor.cert)) CertCount) (λ cert. tried refused cursor (verdict (faults (cert.divisor) (map mentioned (cert.mentions)) hyps row))) after e)
  where
    go : (cert : Cert) × (or_why (slice_get (cursor.proof.certs) (cursor.cert)) CertCount ≡ Ok cert) × (tried refused cursor (verdict (faults (cert.divisor) (map mentioned (cert.mentions)) hyps row)) ≡ Ok after) → value_at w row ≤ℤ pos 0
    go (cert, e₁, e₂) = valid-true (cert.divisor) (map mentioned (cert.mentions)) hyps row ((valid-ok (cert.divisor) (map mentioned (cert.mentions)) hyps row).0 (rw (tried-ok refused cursor after _ e₂) refl)) w h

-- ---- a context's values, which are as many as its integer variables

module _ (ctx : Context) (ks : List ℤ) (len : length ks ≡ length (ctx.ints)) (hyps : AreTrue (integer_at ks) (ctx.hyps)) where
  abbrev w : ℕ → ℤ
  w = integer_at ks

  pub form-row : (f : LinearForm) → value_at w (row_of (length (ctx.ints)) f) ≡ form_at (at w []) f
  form-row f = row-at (length (ctx.ints)) w (λ i le. past ks i (omega (arith, len, le))) f ∙ form-agree (free_values w) (at w []) same f
    where
      same : (v : Var) → free_values w v ≡ at w [] v
      same (Free i) = refl
      same (Inside i) = refl

  pub oblige-true : (refused : ℕ → CertFault → Why) (f : LinearForm) (cursor after : Cursor) → oblige refused ctx f cursor ≡ Ok after → form_at (at w []) f ≤ℤ pos 0
  oblige-true refused f cursor after e = go (and_then-ok (row_formed (length (ctx.ints)) f) (λ row. row_shown refused (ctx.hyps) row cursor) after e)
    where
      by : (row : Row) (b : Bool) → asks_nothing row ≡ b → (if b then Ok cursor else shown refused (ctx.hyps) row cursor) ≡ Ok after → value_at w row ≤ℤ pos 0
      by row true f e = nothing-true w row f
      by row false f e = shown-true refused (ctx.hyps) row cursor after e w hyps

      go : (row : Row) × (row_formed (length (ctx.ints)) f ≡ Ok row) × (row_shown refused (ctx.hyps) row cursor ≡ Ok after) → form_at (at w []) f ≤ℤ pos 0
      go (row, e₁, e₂) = let is = (provided-ok _ _ (row_of (length (ctx.ints)) f) row e₁).1 in subst (λ z. z ≤ℤ pos 0) (ap (value_at w) (sym is) ∙ form-row f) (by row (asks_nothing row) refl e₂)

  abbrev pub AllAtMost : List LinearForm → Type 0
  AllAtMost [] = Unit {0}
  AllAtMost (f ∷ fs) = (form_at (at w []) f ≤ℤ pos 0) × AllAtMost fs

  pub oblige_all-true : (fs : List LinearForm) (cursor after : Cursor) → oblige_all ctx fs cursor ≡ Ok after → AllAtMost fs
  oblige_all-true [] cursor after e = tt
  oblige_all-true (f ∷ fs) cursor after e = let x = and_then-ok _ (oblige_all ctx fs) after e in (oblige-true (λ x y. NotProved x y) f cursor (x.0) (x.1), oblige_all-true fs (x.0) after (x.2))

  pub equate-true : (s t : LinearForm) (cursor after : Cursor) → equate ctx s t cursor ≡ Ok after → form_at (at w []) s ≡ form_at (at w []) t
  equate-true s t cursor after e = go (same_form s t) refl e
    where
      go : (b : Bool) → same_form s t ≡ b → (if b then Ok cursor else oblige_all ctx (minus s t ∷ minus t s ∷ []) cursor) ≡ Ok after → form_at (at w []) s ≡ form_at (at w []) t
      go true f e = ap (form_at (at w [])) (same_form-is s t f)
      go false f e = let x = oblige_all-true (minus s t ∷ minus t s ∷ []) cursor after e in omega (arith, ints, x.0, (x.1).0, minus-at (at w []) s t, minus-at (at w []) t s)

  pub equate_all-true : (ss ts : List LinearForm) (cursor after : Cursor) → equate_all ctx ss ts cursor ≡ Ok after → map (form_at (at w [])) ss ≡ map (form_at (at w [])) ts
  equate_all-true [] [] cursor after e = refl
  equate_all-true [] (t ∷ ts) cursor after e = err_ok e
  equate_all-true (s ∷ ss) [] cursor after e = err_ok e
  equate_all-true (s ∷ ss) (t ∷ ts) cursor after e = let x = and_then-ok (equate ctx s t cursor) (equate_all ctx ss ts) after e in joined (equate-true s t cursor (x.0) (x.1)) (equate_all-true ss ts (x.0) after (x.2))
    where
      joined : {x y : ℤ} {xs ys : List ℤ} → x ≡ y → xs ≡ ys → x ∷ xs ≡ y ∷ ys
      joined p q = λ i. p i ∷ q i

  -- ---- limits
  at_most-keeps : (l : Limit) (rest : List LinearForm) → AllAtMost (forms_of_limit l ++ rest) → Keeps (at w []) l × AllAtMost rest
  at_most-keeps l rest h = go (l.relation) h
    where
      go : (r : _) → AllAtMost (at_most_zero r (l.left) (l.right) ++ rest) → InRelation r (form_at (at w []) (l.left)) (form_at (at w []) (l.right)) × AllAtMost rest
      go AtMost h = (omega (arith, ints, h.0, minus-at (at w []) (l.left) (l.right)), h.1)
      go Less h = (omega (arith, ints, h.0, minus-at (at w []) (l.left) (l.right), plus_one-at (at w []) (minus (l.left) (l.right))), h.1)
      go Same h = (omega (arith, ints, h.0, (h.1).0, minus-at (at w []) (l.left) (l.right), minus-at (at w []) (l.right) (l.left)), (h.1).1)

  pub limits-keep : (ls : List Limit) → AllAtMost (flat_map forms_of_limit ls) → KeepsAll (at w []) ls
  limits-keep [] h = tt
  limits-keep (l ∷ ls) h = let x = at_most-keeps l (flat_map forms_of_limit ls) h in (x.0, limits-keep ls (x.1))
