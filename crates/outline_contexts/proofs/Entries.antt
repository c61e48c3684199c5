-- Entries of a trail: a new one, the one with a name, and the one that is taken.
use Rattle.std.proofs.Common.{◌≡◌, ℕ, suc, ◌+◌, ◌<◌, Bool, true, false, not, if◌then◌else◌, nat_eq, List, [], ◌∷◌, ◌++◌, length, map, Option, Some, None, Result, Ok, Err, refl, sym, ap, ◌∙◌, subst, arith}
use Rattle.std.specs.Cmp.Lexicographic.{bytes_decides}
use Rattle.std.specs.List.{slice_get, range_with_len}
use Rattle.std.specs.Option.{option_map}
use Rattle.std.proofs.lemmas.Bool.Decides.{nat_tests}
use Rattle.std.proofs.lemmas.Option.{none-some, same_Some}
use Rattle.core_language.specs.Names.{Ident, same}
use Rattle.linear_forms.specs.Substitution.{place_of}
use Rattle.outline_language.specs.LinearForms.{variable_form, Free}
use Rattle.outline_language.specs.Nameless.{Shape, has_end}
use Rattle.outline_language.specs.Contexts.{Entry, Why, NotHeld, Taken, and_then, or_why, entry_named, held_shape, without, take, hold, integer_named, int_entry, int_of, variable_in}
use Rattle.outline_contexts.specs.Trails.{Trail, AreBelow, is_taken, is_held, entries_from, context_in}
use Rattle.outline_contexts.specs.Kept.{entries_by}
use Rattle.outline_contexts.proofs.Trails.{trail}
use Rattle.outline_contexts.proofs.Held.{other_place, own_place, not_taken}

abbrev pub entry_at : List ℕ → ℕ → Ident → Shape → Entry
entry_at taken i x s = record { name = x; shape = s; held = is_held taken i }

same_entry : (taken : List ℕ) (i k : ℕ) (x y : Ident) (s t : Shape) → i ≡ k → x ≡ y → s ≡ t → entry_at taken i x s ≡ entry_at taken k y t
same_entry taken i k x y s t e f g = rw (e, f, g) refl

-- ---- a new one

entries-append : (taken : List ℕ) (i : ℕ) (xs : List Ident) (ss : List Shape) (x : Ident) (s : Shape) (k : ℕ) → length xs ≡ length ss → k ≡ i + length ss
    → entries_from taken i (xs ++ x ∷ []) (ss ++ s ∷ []) ≡ entries_from taken i xs ss ++ entry_at taken k x s ∷ []
entries-append taken i [] [] x s k long is = ap (λ n. entry_at taken n x s ∷ []) (omega (arith, is))
entries-append taken i [] (t ∷ ss) x s k long is = absurd (omega (arith, long))
entries-append taken i (y ∷ xs) [] x s k long is = absurd (omega (arith, long))
entries-append taken i (y ∷ xs) (t ∷ ss) x s k long is =
    ap (λ es. entry_at taken i y t ∷ es) (entries-append taken (suc i) xs ss x s k (omega (arith, long)) (omega (arith, is)))

-- an entry that comes last is held
pub held_last : (t : Trail) (x : Ident) (s : Shape) → length t.names ≡ length t.shapes → AreBelow t
    → context_in (trail t.ints t.hyps (t.names ++ x ∷ []) (t.shapes ++ s ∷ []) t.taken) ≡ hold (context_in t) x s
held_last t x s long below =
    ap (λ (es : List Entry). record { ints = t.ints; hyps = t.hyps; entries = es })
    (entries-append t.taken 0 t.names t.shapes x s (length t.shapes) long (omega arith)
    ∙ ap (λ b. entries_from t.taken 0 t.names t.shapes ++ record { name = x; shape = s; held = not b } ∷ []) (not_taken t.taken (length t.shapes) below))

-- ---- the one with a name

module _ (taken : List ℕ) (x : Ident) where
  pub no_entry : (i : ℕ) (xs : List Ident) (ss : List Shape) → place_of xs x ≡ None → entry_named (entries_from taken i xs ss) x ≡ None
  no_entry i [] ss none = refl
  no_entry i (y ∷ ys) [] none = refl
  no_entry i (y ∷ ys) (s ∷ ss) none = by (same y x) (place_of ys x) refl (no_entry (suc i) ys ss) none
    where
      by : (b : Bool) (o : Option ℕ) → place_of ys x ≡ o → (place_of ys x ≡ None → entry_named (entries_from taken (suc i) ys ss) x ≡ None)
          → (if b then Some 0 else option_map suc o) ≡ None
          → (if b then Some (entry_at taken i y s) else entry_named (entries_from taken (suc i) ys ss) x) ≡ None
      by true o at more is = absurd (none-some 0 (sym is))
      by false None at more is = more at
      by false (Some j) at more is = absurd (none-some (suc j) (sym is))

  pub entry_there : (i : ℕ) (xs : List Ident) (ss : List Shape) (p : ℕ) (s : Shape) (k : ℕ) → place_of xs x ≡ Some p → slice_get ss p ≡ Some s → k ≡ i + p
      → entry_named (entries_from taken i xs ss) x ≡ Some (entry_at taken k x s)
  entry_there i [] ss p s k is at e = absurd (none-some p is)
  entry_there i (y ∷ ys) [] p s k is at e = absurd (none-some s at)
  entry_there i (y ∷ ys) (t ∷ ss) p s k is at e = by (same y x) refl (place_of ys x) refl (entry_there (suc i) ys ss) p is at e
    where
      by : (b : Bool) → same y x ≡ b → (o : Option ℕ) → place_of ys x ≡ o
          → ((p : ℕ) (s : Shape) (k : ℕ) → place_of ys x ≡ Some p → slice_get ss p ≡ Some s → k ≡ suc i + p → entry_named (entries_from taken (suc i) ys ss) x ≡ Some (entry_at taken k x s))
          → (p : ℕ) → (if b then Some 0 else option_map suc o) ≡ Some p → slice_get (t ∷ ss) p ≡ Some s → k ≡ i + p
          → (if b then Some (entry_at taken i y t) else entry_named (entries_from taken (suc i) ys ss) x) ≡ Some (entry_at taken k x s)
      by true q o was more p is at e =
          let first : 0 ≡ p = same_Some 0 p is in
          let shape : t ≡ s = same_Some t s (subst (λ n. slice_get (t ∷ ss) n ≡ Some s) (sym first) at) in
          ap Some (same_entry taken i k y x t s (omega (arith, e, first)) ((bytes_decides y x).0 q) shape)
      by false q None was more p is at e = absurd (none-some p is)
      by false q (Some j) was more p is at e =
          let next : suc j ≡ p = same_Some (suc j) p is in
          more j s k was (subst (λ n. slice_get (t ∷ ss) n ≡ Some s) (sym next) at) (omega (arith, e, next))

  -- entries past the place stay
  later_entries : (p i : ℕ) (xs : List Ident) (ss : List Shape) → p < i → entries_from (taken ++ p ∷ []) i xs ss ≡ entries_from taken i xs ss
  later_entries p i [] ss less = refl
  later_entries p i (y ∷ ys) [] less = refl
  later_entries p i (y ∷ ys) (s ∷ ss) less =
      let differs : nat_eq p i ≡ false = grind (arith, nat_tests) in
      ap (λ b. record { name = y; shape = s; held = not b } ∷ entries_from (taken ++ p ∷ []) (suc i) ys ss) (other_place taken p i differs)
      ∙ ap (λ es. entry_at taken i y s ∷ es) (later_entries p (suc i) ys ss (omega (arith, less)))

  -- an end is no longer held
  end_taken : (i : ℕ) (xs : List Ident) (ss : List Shape) (p : ℕ) (s : Shape) (k : ℕ) → has_end s ≡ true → place_of xs x ≡ Some p → slice_get ss p ≡ Some s → k ≡ i + p
      → without x (entries_from taken i xs ss) ≡ entries_from (taken ++ k ∷ []) i xs ss
  end_taken i [] ss p s k ends is at e = absurd (none-some p is)
  end_taken i (y ∷ ys) [] p s k ends is at e = absurd (none-some s at)
  end_taken i (y ∷ ys) (t ∷ ss) p s k ends is at e = by (same y x) (place_of ys x) refl (end_taken (suc i) ys ss) p is at e
    where
      by : (b : Bool) (o : Option ℕ) → place_of ys x ≡ o
          → ((p : ℕ) (s : Shape) (k : ℕ) → has_end s ≡ true → place_of ys x ≡ Some p → slice_get ss p ≡ Some s → k ≡ suc i + p → without x (entries_from taken (suc i) ys ss) ≡ entries_from (taken ++ k ∷ []) (suc i) ys ss)
          → (p : ℕ) → (if b then Some 0 else option_map suc o) ≡ Some p → slice_get (t ∷ ss) p ≡ Some s → k ≡ i + p
          → (if b then (record { name = y; shape = t; held = not (has_end t) } ∷ entries_from taken (suc i) ys ss) else (entry_at taken i y t ∷ without x (entries_from taken (suc i) ys ss)))
          ≡ entry_at (taken ++ k ∷ []) i y t ∷ entries_from (taken ++ k ∷ []) (suc i) ys ss
      by true o was more p is at e =
          let first : 0 ≡ p = same_Some 0 p is in
          let shape : t ≡ s = same_Some t s (subst (λ n. slice_get (t ∷ ss) n ≡ Some s) (sym first) at) in
          let place : k ≡ i = omega (arith, e, first) in
          let past : k < suc i = omega (arith, place) in
          let gone : not (has_end t) ≡ is_held (taken ++ k ∷ []) i = ap (λ z. not (has_end z)) shape ∙ ap not ends ∙ ap not (sym (own_place taken k)) ∙ ap (is_held (taken ++ k ∷ [])) place in
          ap (λ b. record { name = y; shape = t; held = b } ∷ entries_from taken (suc i) ys ss) gone
          ∙ ap (λ es. entry_at (taken ++ k ∷ []) i y t ∷ es) (sym (later_entries k (suc i) ys ss past))
      by false None was more p is at e = absurd (none-some p is)
      by false (Some j) was more p is at e =
          let next : suc j ≡ p = same_Some (suc j) p is in
          let differs : nat_eq k i ≡ false = grind (arith, nat_tests) in
          ap (λ es. entry_at taken i y t ∷ es) (more j s k ends was (subst (λ n. slice_get (t ∷ ss) n ≡ Some s) (sym next) at) (omega (arith, e, next)))
          ∙ ap (λ b. record { name = y; shape = t; held = not b } ∷ entries_from (taken ++ k ∷ []) (suc i) ys ss) (sym (other_place taken k i differs))

  -- what has no end stays held
  rest_kept : (i : ℕ) (xs : List Ident) (ss : List Shape) (p : ℕ) (s : Shape) (k : ℕ) → has_end s ≡ false → is_taken taken k ≡ false → place_of xs x ≡ Some p → slice_get ss p ≡ Some s → k ≡ i + p
      → without x (entries_from taken i xs ss) ≡ entries_from taken i xs ss
  rest_kept i [] ss p s k plain free is at e = absurd (none-some p is)
  rest_kept i (y ∷ ys) [] p s k plain free is at e = absurd (none-some s at)
  rest_kept i (y ∷ ys) (t ∷ ss) p s k plain free is at e = by (same y x) (place_of ys x) refl (rest_kept (suc i) ys ss) p is at e
    where
      by : (b : Bool) (o : Option ℕ) → place_of ys x ≡ o
          → ((p : ℕ) (s : Shape) (k : ℕ) → has_end s ≡ false → is_taken taken k ≡ false → place_of ys x ≡ Some p → slice_get ss p ≡ Some s → k ≡ suc i + p → without x (entries_from taken (suc i) ys ss) ≡ entries_from taken (suc i) ys ss)
          → (p : ℕ) → (if b then Some 0 else option_map suc o) ≡ Some p → slice_get (t ∷ ss) p ≡ Some s → k ≡ i + p
          → (if b then (record { name = y; shape = t; held = not (has_end t) } ∷ entries_from taken (suc i) ys ss) else (entry_at taken i y t ∷ without x (entries_from taken (suc i) ys ss)))
          ≡ entry_at taken i y t ∷ entries_from taken (suc i) ys ss
      by true o was more p is at e =
          let first : 0 ≡ p = same_Some 0 p is in
          let shape : t ≡ s = same_Some t s (subst (λ n. slice_get (t ∷ ss) n ≡ Some s) (sym first) at) in
          let place : k ≡ i = omega (arith, e, first) in
          let stays : not (has_end t) ≡ is_held taken i = ap (λ z. not (has_end z)) shape ∙ ap not plain ∙ ap not (sym free) ∙ ap (is_held taken) place in
          ap (λ b. record { name = y; shape = t; held = b } ∷ entries_from taken (suc i) ys ss) stays
      by false None was more p is at e = absurd (none-some p is)
      by false (Some j) was more p is at e =
          let next : suc j ≡ p = same_Some (suc j) p is in
          ap (λ es. entry_at taken i y t ∷ es) (more j s k plain free was (subst (λ n. slice_get (t ∷ ss) n ≡ Some s) (sym next) at) (omega (arith, e, next)))

-- ---- taking

abbrev answered : Ident → Trail → Option Entry → List Entry → Result Taken Why
answered x t entry entries =
    and_then (or_why (held_shape entry) (NotHeld x)) (λ shape. Ok (record { shape = shape; context = record { ints = t.ints; hyps = t.hyps; entries = entries } }))

module _ (t : Trail) (x : Ident) where
  pub not_there : place_of t.names x ≡ None → take (context_in t) x ≡ Err (NotHeld x)
  not_there none = ap (λ (e : Option Entry). answered x t e (without x (entries_from t.taken 0 t.names t.shapes))) (no_entry t.taken x 0 t.names t.shapes none)

  module _ (p : ℕ) (s : Shape) (is : place_of t.names x ≡ Some p) (at : slice_get t.shapes p ≡ Some s) where
    pub found : entry_named (entries_from t.taken 0 t.names t.shapes) x ≡ Some (entry_at t.taken p x s)
    found = entry_there t.taken x 0 t.names t.shapes p s p is at (omega arith)

    pub not_held : is_taken t.taken p ≡ true → take (context_in t) x ≡ Err (NotHeld x)
    not_held gone =
        ap (λ (e : Option Entry). answered x t e (without x (entries_from t.taken 0 t.names t.shapes))) found
        ∙ ap (λ b. answered x t (Some (record { name = x; shape = s; held = not b })) (without x (entries_from t.taken 0 t.names t.shapes))) gone

    taken_so : is_taken t.taken p ≡ false → (ks : List ℕ) → without x (entries_from t.taken 0 t.names t.shapes) ≡ entries_from ks 0 t.names t.shapes
        → take (context_in t) x ≡ Ok (record { shape = s; context = context_in (trail t.ints t.hyps t.names t.shapes ks) })
    taken_so free ks rest =
        ap (λ (e : Option Entry). answered x t e (without x (entries_from t.taken 0 t.names t.shapes))) found
        ∙ ap (λ b. answered x t (Some (record { name = x; shape = s; held = not b })) (without x (entries_from t.taken 0 t.names t.shapes))) free
        ∙ ap (λ (es : List Entry). answered x t (Some (record { name = x; shape = s; held = true })) es) rest

    pub takes_end : is_taken t.taken p ≡ false → has_end s ≡ true
        → take (context_in t) x ≡ Ok (record { shape = s; context = context_in (trail t.ints t.hyps t.names t.shapes (t.taken ++ p ∷ [])) })
    takes_end free ends = taken_so free (t.taken ++ p ∷ []) (end_taken t.taken x 0 t.names t.shapes p s p ends is at (omega arith))

    pub takes_copy : is_taken t.taken p ≡ false → has_end s ≡ false → take (context_in t) x ≡ Ok (record { shape = s; context = context_in t })
    takes_copy free plain = taken_so free t.taken (rest_kept t.taken x 0 t.names t.shapes p s p plain free is at (omega arith))

    -- ---- integers

    pub integer_there : integer_named (context_in t) x ≡ int_of s
    integer_there = ap (λ (e : Option Entry). int_entry e (variable_in t.ints x)) found

  pub integer_elsewhere : place_of t.names x ≡ None → integer_named (context_in t) x ≡ option_map (λ i. variable_form (Free i)) (place_of t.ints x)
  integer_elsewhere none = ap (λ (e : Option Entry). int_entry e (variable_in t.ints x)) (no_entry t.taken x 0 t.names t.shapes none)

-- ---- by what is kept

pub by_kept : (taken : List ℕ) (i : ℕ) (xs : List Ident) (ss : List Shape) (hs : List Bool) → hs ≡ map (is_held taken) (range_with_len i (length ss))
    → entries_by hs xs ss ≡ entries_from taken i xs ss
by_kept taken i xs ss hs is = ap (λ ks. entries_by ks xs ss) is ∙ kept i xs ss
  where
    kept : (i : ℕ) (xs : List Ident) (ss : List Shape) → entries_by (map (is_held taken) (range_with_len i (length ss))) xs ss ≡ entries_from taken i xs ss
    kept i [] [] = refl
    kept i [] (s ∷ ss) = refl
    kept i (x ∷ xs) [] = refl
    kept i (x ∷ xs) (s ∷ ss) = ap (λ es. entry_at taken i x s ∷ es) (subst (λ n. entries_by (map (is_held taken) (range_with_len n (length ss))) xs ss ≡ entries_from taken (suc i) xs ss) (omega arith) (kept (suc i) xs ss))
