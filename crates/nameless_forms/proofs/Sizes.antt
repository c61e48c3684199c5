-- How large the numbers of a sum become.
use Rattle.std.proofs.Common.{◌≡◌, ℕ, ◌+◌, ◌≤◌, ◌^◌, ℤ, pos, ◌*ℤ◌, ◌+ℤ◌, unsigned_abs, Bool, true, false, if◌then◌else◌, List, [], ◌∷◌, Some, unwrap_or, to_z, of_z, refl, subst, sym, ◌∙◌, arith}
use Rattle.std.specs.Prelude.{cond}
use Rattle.std.specs.Ordering.{int_eq, is_eq}
use Rattle.std.specs.BTreeMap.{is_at}
use Rattle.std.specs.Map.{lookup}
use Rattle.std.specs.declared.cmp.Ordering.{Ordering}
use Rattle.std.specs.declared.cmp.Ordering.TheVariants.{Less, Equal, Greater}
use Rattle.farkas_check.proofs.Sums.{size-add}
use Rattle.std.specs.Int.{w128}
use Rattle.wide_sums.proofs.Sizes.{size-mul, kept}
use Rattle.outline_language.specs.LinearForms.{Var, Multiple, LinearForm, variable_order, by_order, unless_zero, add_multiple}
use Rattle.nameless_forms.specs.Counts.{count_in}
use Rattle.nameless_forms.specs.Sizes.{AreWithin, IsWithin}

pub looser : (a b : ℕ) (ms : List Multiple) → a ≤ b → AreWithin a ms → AreWithin b ms
looser a b [] le within = tt
looser a b (m ∷ ms) le (here, rest) = (omega (arith, le, here), looser a b ms le rest)

pub count_within : (s : ℕ) (v : Var) (ms : List Multiple) → AreWithin s ms → unsigned_abs (count_in v ms) ≤ s
count_within s v [] within = omega arith
count_within s v (m ∷ ms) (here, rest) = pick (is_eq (variable_order v m.0)) (count_within s v ms rest)
  where
    pick : (b : Bool) → unsigned_abs (count_in v ms) ≤ s → unsigned_abs (unwrap_or (cond b (Some m.1) (lookup (is_at (variable_order v)) ms)) (pos 0)) ≤ s
    pick true behind = here
    pick false behind = behind

unless_within : (s : ℕ) (v : Var) (z : ℤ) (ms : List Multiple) → unsigned_abs z ≤ s → AreWithin s ms → AreWithin s (unless_zero v z ms)
unless_within s v z ms small within = pick (int_eq z (pos 0))
  where
    pick : (b : Bool) → AreWithin s (if b then ms else ((v, z) ∷ ms))
    pick true = within
    pick false = (small, within)

pub within_added : (s d : ℕ) (v : Var) (z : ℤ) (ms : List Multiple) → unsigned_abs z ≤ d → AreWithin s ms → AreWithin (s + d) (add_multiple v z ms)
within_added s d v z [] small within = unless_within (s + d) v z [] (omega (arith, small)) tt
within_added s d v z (m ∷ ms) small (here, rest) = pick (variable_order v m.0) (within_added s d v z ms small rest)
  where
    pick : (o : Ordering) → AreWithin (s + d) (add_multiple v z ms) → AreWithin (s + d) (by_order o (unless_zero v z (m ∷ ms)) (unless_zero v (z +ℤ m.1) ms) (m ∷ add_multiple v z ms))
    pick Less behind = unless_within (s + d) v z (m ∷ ms) (omega (arith, small)) (omega (arith, here), looser s (s + d) ms (omega arith) rest)
    pick Equal behind = unless_within (s + d) v (z +ℤ m.1) ms (let both = size-add z m.1 in omega (arith, small, here, both)) (looser s (s + d) ms (omega arith) rest)
    pick Greater behind = (omega (arith, here), behind)

product_size : (w t : ℤ) → unsigned_abs w ≤ 2 ^ 63 → unsigned_abs t ≤ 2 ^ 63 → unsigned_abs (w *ℤ t) ≤ 2 ^ 126
product_size w t small too = let size = size-mul w t (2 ^ 63) (2 ^ 63) small too in omega (arith, size)

pub within_product : (s : ℕ) (v : Var) (w t : ℤ) (ms ns : List Multiple) → unsigned_abs w ≤ 2 ^ 63 → unsigned_abs t ≤ 2 ^ 63 → ns ≡ add_multiple v (w *ℤ t) ms → AreWithin s ms → AreWithin (s + 2 ^ 126) ns
within_product s v w t ms ns small too is within = subst (AreWithin (s + 2 ^ 126)) (sym is) (within_added s (2 ^ 126) v (w *ℤ t) ms (product_size w t small too) within)

pub constant_within : (s : ℕ) (k w t now : ℤ) → unsigned_abs w ≤ 2 ^ 63 → unsigned_abs t ≤ 2 ^ 63 → now ≡ k +ℤ (to_z w128 (of_z w128 w) *ℤ to_z w128 (of_z w128 t)) → unsigned_abs k ≤ s → unsigned_abs now ≤ s + 2 ^ 185
constant_within s k w t now small too is within =
    let sum : now ≡ k +ℤ (w *ℤ t) = is ∙ rw (kept w (omega (arith, small)), kept t (omega (arith, too))) refl in
    let size = product_size w t small too in
    let both = size-add k (w *ℤ t) in
    rw sum (omega (arith, both, size, within))

pub looser_form : (a b : ℕ) (f : LinearForm) → a ≤ b → IsWithin a f → IsWithin b f
looser_form a b f le within = record { multiples = looser a b f.multiples le within.multiples; constant = omega (arith, le, within.constant) }
