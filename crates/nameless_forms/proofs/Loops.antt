-- One part more, from the last one on.
use Rattle.std.proofs.Common.{◌≡◌, ℕ, suc, ◌+◌, ◌-◌, ◌<◌, ℤ, ◌*ℤ◌, Bool, true, ◌&&◌, List, [], ◌∷◌, ◌++◌, map, append_assoc, drop, length, get_or, refl, sym, ap, ◌∙◌, arith}
use Rattle.std.specs.List.{list_all, range_with_len}
use Rattle.linear_forms.specs.Normal.{fits}
use Rattle.std.proofs.Math.Seq.{drop-cons}
use Rattle.core_language.specs.Names.{Ident}
use Rattle.linear_forms.specs.Terms.{times_of}
use Rattle.chan_syntax.specs.declared.linear.Part.{Part}
use Rattle.chan_syntax.specs.Reading.{part_of}
use Rattle.outline_language.specs.LinearForms.{Var, Multiple, LinearForm, add_multiple, add_multiples, add_times, put_multiples, of_name, form_of_term}
use Rattle.outline_language.specs.Canonical.{IsCanonical}
use Rattle.nameless_forms.proofs.Values.{spread}

pub multiples_more : (w : ℤ) (ms start now next : List Multiple) (k : ℕ) (m : Multiple) → 0 < k → k - 1 < length ms → m ≡ get_or ms (k - 1) m
    → now ≡ add_multiples w (drop k ms) start → next ≡ add_multiple m.0 (w *ℤ m.1) now → next ≡ add_multiples w (drop (k - 1) ms) start
multiples_more w ms start now next k m some less is before added =
    let here : suc (k - 1) ≡ k = omega (arith, some) in
    let rest : now ≡ add_multiples w (drop (suc (k - 1)) ms) start = before ∙ ap (λ j. add_multiples w (drop j ms) start) (sym here) in
    added ∙ ap (λ ns. add_multiple m.0 (w *ℤ m.1) ns) rest ∙ one_more
  where
    one_more : add_multiple m.0 (w *ℤ m.1) (add_multiples w (drop (suc (k - 1)) ms) start) ≡ add_multiples w (drop (k - 1) ms) start
    one_more = rw (drop-cons ms (k - 1) m less, sym is) refl

-- the last multiple so far, put before the others
pub put_more : (put : Var → LinearForm) (w c : ℤ) (ms : List Multiple) (start now next : LinearForm) (k : ℕ) (m : Multiple) → IsCanonical start → 0 < k → k - 1 < length ms → m ≡ get_or ms (k - 1) m
    → now ≡ add_times w (put_multiples put c (drop k ms)) start → next ≡ add_times (w *ℤ m.1) (put m.0) now → next ≡ add_times w (put_multiples put c (drop (k - 1) ms)) start
put_more put w c ms start now next k m canonical some less is before added =
    let here : suc (k - 1) ≡ k = omega (arith, some) in
    let rest : now ≡ add_times w (put_multiples put c (drop (suc (k - 1)) ms)) start = before ∙ ap (λ j. add_times w (put_multiples put c (drop j ms)) start) (sym here) in
    added ∙ ap (λ f. add_times (w *ℤ m.1) (put m.0) f) rest ∙ spread w m.1 (put m.0) (put_multiples put c (drop (suc (k - 1)) ms)) start canonical ∙ one_more
  where
    one_more : add_times w (add_times m.1 (put m.0) (put_multiples put c (drop (suc (k - 1)) ms))) start ≡ add_times w (put_multiples put c (drop (k - 1) ms)) start
    one_more = rw (drop-cons ms (k - 1) m less, sym is) refl

-- the last part so far, added before the others
pub parts_more : (f : Ident → LinearForm) (parts : List Part) (now next : LinearForm) (k : ℕ) (p : Part) → 0 < k → k - 1 < length parts → p ≡ get_or parts (k - 1) p
    → now ≡ form_of_term f (map part_of (drop k parts)) → next ≡ add_times (times_of (part_of p)) (of_name f p.name) now → next ≡ form_of_term f (map part_of (drop (k - 1) parts))
parts_more f parts now next k p some less is before added =
    let here : suc (k - 1) ≡ k = omega (arith, some) in
    let rest : now ≡ form_of_term f (map part_of (drop (suc (k - 1)) parts)) = before ∙ ap (λ j. form_of_term f (map part_of (drop j parts))) (sym here) in
    added ∙ ap (λ g. add_times (times_of (part_of p)) (of_name f p.name) g) rest ∙ one_more
  where
    one_more : add_times (times_of (part_of p)) (of_name f p.name) (form_of_term f (map part_of (drop (suc (k - 1)) parts))) ≡ form_of_term f (map part_of (drop (k - 1) parts))
    one_more = rw (drop-cons parts (k - 1) p less, sym is) refl

-- ---- ranges

pub range_step : (k n : ℕ) → k < n → range_with_len k (n - k) ≡ k ∷ range_with_len (k + 1) (n - (k + 1))
range_step k n less = rw (one) refl
  where
    one : n - k ≡ suc (n - (k + 1))
    one = omega arith

pub numbers_more : (f : ℕ → ℤ) (done next all : List ℤ) (k n : ℕ) (z : ℤ) → k < n → next ≡ done ++ z ∷ [] → z ≡ f k
    → done ++ map f (range_with_len k (n - k)) ≡ all → next ++ map f (range_with_len (k + 1) (n - (k + 1))) ≡ all
numbers_more f done next all k n z less more is so =
    let step = range_step k n less in
    rw (more, is, append_assoc done (f k ∷ []) (map f (range_with_len (k + 1) (n - (k + 1))))) (sym (ap (λ r. done ++ map f r) step) ∙ so)

pub narrow_more : (f : ℕ → ℤ) (k n : ℕ) (all : Bool) → k < n → fits (f k) ≡ true
    → list_all fits (map f (range_with_len k (n - k))) ≡ all → list_all fits (map f (range_with_len (k + 1) (n - (k + 1)))) ≡ all
narrow_more f k n all less fit so =
    let step = range_step k n less in
    sym (ap (λ b. b && list_all fits (map f (range_with_len (k + 1) (n - (k + 1))))) fit) ∙ sym (ap (λ r. list_all fits (map f r)) step) ∙ so
