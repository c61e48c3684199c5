-- New names of binders stand once, and are none of the names around.
use Rattle.std.proofs.Common.{◌≡◌, ◌⊎◌, inl, inr, ℕ, suc, ◌+◌, ◌≤◌, Bool, true, false, ◌||◌, if◌then◌else◌, List, [], ◌∷◌, ◌++◌, All, flat_map, length, refl, sym, ◌∙◌, ap, arith}
use Rattle.std.specs.List.{list_any}
use Rattle.std.proofs.lemmas.List.Elements.{All-nil, All-cons, All-append, All-head, All-tail}
use Rattle.std.proofs.lemmas.List.Concat.{flat_map-append}
use Rattle.std.proofs.lemmas.List.Folds.{list_any-append}
use Rattle.core_language.specs.Names.{Ident, same}
use Rattle.core_language.specs.Terms.{Term, Limit}
use Rattle.core_language.specs.Resources.{Shape, Res, Resources}
use Rattle.core_language.specs.Resources as resource
use Rattle.linear_forms.specs.Terms.{IntVar}
use Rattle.linear_forms.specs.Normal.{names_of}
use Rattle.linear_forms.specs.Substitution.{Scoped, scoped, terms_of_limit, terms_of_shape, terms_of_res, terms_of_resources, puts, Each, times_in, names_around, IsNewName, IsRenamed}
use Rattle.linear_forms.specs.Replacing.{IsShort, IsShortTerm, IsShortLimit, IsShortShape, IsShortRes, AreShortResources, ArePutShort, AreSafe, IsLonger}
use Rattle.linear_forms.proofs.Places.{differ}
use Rattle.linear_forms.proofs.SameNames.{same_is, same-self}

-- ---- names that are long stand once among binders

too_long : (most : ℕ) (put : List IntVar) (terms : List Scoped) (n : ℕ) (ys zs : List Ident) (z : Ident) → AreSafe most put terms n ys zs → suc most + (length ys + n) ≤ length z → times_in z zs ≡ 0
too_long most put terms n [] [] z safe long = refl
too_long most put terms n [] (w ∷ ws) z safe long = absurd safe
too_long most put terms n (y ∷ ys) [] z safe long = absurd safe
too_long most put terms n (y ∷ ys) (w ∷ ws) z (head, rest) long = rw (by head.1) (too_long most put terms n ys ws z rest (omega arith))
  where
    by : ((w ≡ y) × (list_any (puts put y) terms ≡ false) ⊎ (length w ≡ suc most + (length ys + n))) → same z w ≡ false
    by (inl (kept, none)) = rw kept (differ z y (λ l. let s = head.0 in omega arith))
    by (inr made) = differ z w (λ l. omega arith)

once : (most : ℕ) (put : List IntVar) (terms : List Scoped) (n : ℕ) (ys zs : List Ident) (z : Ident) → AreSafe most put terms n ys zs → suc most ≤ length z → list_any (λ w. same z w) zs ≡ true → times_in z zs ≡ 1
once most put terms n [] [] z safe long found = absurd cc
once most put terms n [] (w ∷ ws) z safe long found = absurd safe
once most put terms n (y ∷ ys) [] z safe long found = absurd safe
once most put terms n (y ∷ ys) (w ∷ ws) z (head, rest) long found = pick (same z w) refl (once most put terms n ys ws z rest long)
  where
    pick : (b : Bool) → same z w ≡ b → (list_any (λ v. same z v) ws ≡ true → times_in z ws ≡ 1) → times_in z (w ∷ ws) ≡ 1
    pick false q again = let later : list_any (λ v. same z v) ws ≡ true = rw q at found in rw q (again later)
    pick true q again = rw q (ap suc (too_long most put terms n ys ws z rest (by head.1)))
      where
        one : length z ≡ length w
        one = ap length (same_is z w q)

        by : ((w ≡ y) × (list_any (puts put y) terms ≡ false) ⊎ (length w ≡ suc most + (length ys + n))) → suc most + (length ys + n) ≤ length z
        by (inl (kept, none)) = let s = head.0 in let short : length w ≡ length y = ap length kept in absurd (omega (arith, one))
        by (inr made) = omega (arith, one)

-- ---- short names

-- a long name is none of these
none_short : (most : ℕ) (xs : List Ident) (z : Ident) → All (IsShort most) xs → suc most ≤ length z → times_in z xs ≡ 0
none_short most [] z h long = refl
none_short most (x ∷ xs) z h long = rw (differ z x (λ l. let s = All-head (IsShort most) x xs h in omega arith)) (none_short most xs z (All-tail (IsShort most) x xs h) long)

module _ (most : ℕ) where
  short_put : (put : List IntVar) → ArePutShort most put → All (IsShort most) (flat_map (λ v. names_of v.term) put)
  short_put [] h = All-nil (IsShort most)
  short_put (v ∷ vs) h =
      All-append (IsShort most) (names_of v.term) (flat_map (λ v. names_of v.term) vs) (All-head (λ v. IsShortTerm most v.term) v vs h) (short_put vs (All-tail (λ v. IsShortTerm most v.term) v vs h))

  both : (xs ys : List Scoped) → All (IsShort most) (names_around xs) → All (IsShort most) (names_around ys) → All (IsShort most) (names_around (xs ++ ys))
  both xs ys h k = rw (flat_map-append (λ s. s.binders ++ names_of s.term) xs ys) (All-append (IsShort most) (names_around xs) (names_around ys) h k)

  module _ (binders : List Ident) (around : All (IsShort most) binders) where
    short_terms : (ts : List Term) → All (IsShortTerm most) ts → All (IsShort most) (names_around (scoped binders ts))
    short_terms [] h = All-nil (IsShort most)
    short_terms (t ∷ ts) h =
        All-append (IsShort most) (binders ++ names_of t) (names_around (scoped binders ts))
        (All-append (IsShort most) binders (names_of t) around (All-head (IsShortTerm most) t ts h))
        (short_terms ts (All-tail (IsShortTerm most) t ts h))

    terms_of_limits : (ls : List Limit) → All (IsShortLimit most) ls → All (IsShortTerm most) (flat_map terms_of_limit ls)
    terms_of_limits [] h = All-nil (IsShortTerm most)
    terms_of_limits (l ∷ ls) h =
        let here = All-head (IsShortLimit most) l ls h in
        All-cons (IsShortTerm most) l.left (l.right ∷ flat_map terms_of_limit ls) here.left (All-cons (IsShortTerm most) l.right (flat_map terms_of_limit ls) here.right (terms_of_limits ls (All-tail (IsShortLimit most) l ls h)))

    short_limits : (ls : List Limit) → All (IsShortLimit most) ls → All (IsShort most) (names_around (scoped binders (flat_map terms_of_limit ls)))
    short_limits ls h = short_terms (flat_map terms_of_limit ls) (terms_of_limits ls h)

  mutual
    short_shape : (binders : List Ident) → All (IsShort most) binders → (s : Shape) → IsShortShape most s → All (IsShort most) (names_around (terms_of_shape binders s))
    short_shape binders around resource.Unit h = All-nil (IsShort most)
    short_shape binders around (resource.Int t) h = short_terms binders around (t ∷ []) (All-cons (IsShortTerm most) t [] h (All-nil (IsShortTerm most)))
    short_shape binders around (resource.End r) h = short_terms binders around r.args h
    short_shape binders around (resource.Pair a b) h = both (terms_of_res binders a) (terms_of_res binders b) (short_res binders around a h.0) (short_res binders around b h.1)
    short_shape binders around (resource.Sum rs) h = short_resources binders around rs h

    short_res : (binders : List Ident) → All (IsShort most) binders → (r : Res) → IsShortRes most r → All (IsShort most) (names_around (terms_of_res binders r))
    short_res binders around (resource.Binds b s) h =
        let inside = All-append (IsShort most) b.names binders h.0 around in
        both (scoped (b.names ++ binders) (flat_map terms_of_limit b.limits)) (terms_of_shape (b.names ++ binders) s) (short_limits (b.names ++ binders) inside b.limits h.1) (short_shape (b.names ++ binders) inside s h.2)

    short_resources : (binders : List Ident) → All (IsShort most) binders → (rs : Resources) → AreShortResources most rs → All (IsShort most) (names_around (terms_of_resources binders rs))
    short_resources binders around resource.NoMore h = All-nil (IsShort most)
    short_resources binders around (resource.More r rs) h = both (terms_of_res binders r) (terms_of_resources binders rs) (short_res binders around r h.0) (short_resources binders around rs h.1)

-- ---- binders that are renamed

-- two lists, item by item, where the second is part of a third
each_among : (R S : Ident → Ident → Type 0) (xs ys zs : List Ident) → ((y z : Ident) → list_any (λ w. same z w) zs ≡ true → R y z → S y z) → ((z : Ident) → list_any (λ w. same z w) ys ≡ true → list_any (λ w. same z w) zs ≡ true) → Each R xs ys → Each S xs ys
each_among R S [] [] zs h among each = tt
each_among R S [] (y ∷ ys) zs h among each = absurd each
each_among R S (x ∷ xs) [] zs h among each = absurd each
each_among R S (x ∷ xs) (y ∷ ys) zs h among each = (h x y (among y first) each.0, each_among R S xs ys zs h (λ z m. among z (later z m)) each.1)
  where
    first : list_any (λ w. same y w) (y ∷ ys) ≡ true
    first = rw (same-self y) refl

    later : (z : Ident) → list_any (λ w. same z w) ys ≡ true → list_any (λ w. same z w) (y ∷ ys) ≡ true
    later z m = pick (same z y)
      where
        pick : (b : Bool) → (b || list_any (λ w. same z w) ys) ≡ true
        pick true = refl
        pick false = m

among_more : (z : Ident) (xs ys : List Ident) → list_any (λ w. same z w) xs ≡ true → list_any (λ w. same z w) (xs ++ ys) ≡ true
among_more z xs ys h = rw (list_any-append (λ w. same z w) xs ys, h) refl

-- binders of a resource that are longer where they have other names, and safe among those around
pub all_renamed : (most : ℕ) (put : List IntVar) (terms : List Scoped) (before : List Ident) (res : Res) (ys xs zs after : List Ident) → AreSafe most put terms 0 ys (zs ++ after) → IsShortRes most res → ArePutShort most put
    → Each (IsLonger most put before res) xs zs → Each (IsRenamed put before (zs ++ after) res) xs zs
all_renamed most put terms before res ys xs zs after safe in_res in_put each =
    each_among (IsLonger most put before res) (IsRenamed put before (zs ++ after) res) xs zs (zs ++ after) renamed (λ z m. among_more z zs after m) each
  where
    elsewhere : All (IsShort most) (names_around (terms_of_res [] res) ++ flat_map (λ v. names_of v.term) put)
    elsewhere = All-append (IsShort most) (names_around (terms_of_res [] res)) (flat_map (λ v. names_of v.term) put) (short_res most [] (All-nil (IsShort most)) res in_res) (short_put most put in_put)

    renamed : (y z : Ident) → list_any (λ w. same z w) (zs ++ after) ≡ true → IsLonger most put before res y z → IsRenamed put before (zs ++ after) res y z
    renamed y z among h = record {
      kept = h.kept;
      renamed = λ e one. let short = h.short in let long = h.longer e in let size : length z ≡ length y = ap length one in absurd (omega arith);
      new = λ e. record {
        once = once most put terms 0 ys (zs ++ after) z safe (h.longer e) among;
        elsewhere = none_short most (names_around (terms_of_res [] res) ++ flat_map (λ v. names_of v.term) put) z elsewhere (h.longer e);
      };
    }
