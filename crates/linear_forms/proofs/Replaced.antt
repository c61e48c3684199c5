-- A term that stands in a result has the value of the term with the terms put in.
use Rattle.std.proofs.Common.{◌≡◌, ℕ, suc, ℤ, ◌*ℤ◌, Bool, true, false, ◌&&◌, ◌||◌, List, [], ◌∷◌, ◌++◌, All, find, Option, Some, None, option_map, option_to_list, is_none, refl, sym, ◌∙◌, ap, subst, arith}
use Rattle.std.specs.List.{list_any}
use Rattle.std.proofs.lemmas.Int.{ints}
use Rattle.std.proofs.Math.IntN as Z
use Rattle.std.proofs.lemmas.List.Elements.{All-head, All-tail}
use Rattle.std.proofs.Math.Bool.{false≢true}
use Rattle.core_language.specs.Names.{Ident, same}
use Rattle.core_language.specs.Terms.{Part, Term}
use Rattle.farkas_check.proofs.Products.{distribute, times_times}
use Rattle.linear_forms.specs.Terms.{IntVar, times_of, counted, sum_of, named}
use Rattle.linear_forms.specs.Normal.{names_of}
use Rattle.linear_forms.specs.Substitution.{Var, Free, place_of, at_place, sum_under, Scoped, put_names, puts}
use Rattle.linear_forms.specs.Replacing.{scaled, replaced_name, replaced_part, replaced, IsShort, IsShortTerm, ArePutShort, AreSafe}
use Rattle.linear_forms.proofs.SameNames.{same_is, same-self}
use Rattle.linear_forms.proofs.Counts.{sum-append}
use Rattle.linear_forms.proofs.Places.{found_new, no_new, stays_free, safe_for}

-- what a name of the result counts
abbrev pub seen_at : List Ident → (Var → ℤ) → Ident → ℤ
seen_at after at z = at_place at (at (Free z)) (place_of after z)

all_named : (P : Ident → Type 0) (xs : List Ident) (w : Ident) → All P xs → list_any (λ z. same z w) xs ≡ true → P w
all_named P [] w h e = absurd (false≢true e)
all_named P (x ∷ xs) w h e = pick (same x w) refl (all_named P xs w (All-tail P x xs h))
  where
    pick : (b : Bool) → same x w ≡ b → (list_any (λ z. same z w) xs ≡ true → P w) → P w
    pick true q again = subst P (same_is x w q) (All-head P x xs h)
    pick false q again = let rest : list_any (λ z. same z w) xs ≡ true = rw q at e in again rest

-- only names of the term count
names_first : (p : Part) (ps : Term) (w : Ident) → p.name ≡ Some w → list_any (λ z. same z w) (names_of (p ∷ ps)) ≡ true
names_first p ps w e = rw (e, same-self w) refl

names_later : (p : Part) (ps : Term) (w : Ident) → list_any (λ z. same z w) (names_of ps) ≡ true → list_any (λ z. same z w) (names_of (p ∷ ps)) ≡ true
names_later p ps w e = pick p.name
  where
    pick : (o : Option Ident) → list_any (λ z. same z w) (option_to_list o ++ names_of ps) ≡ true
    pick None = e
    pick (Some x) = by (same x w)
      where
        by : (b : Bool) → (b || list_any (λ z. same z w) (names_of ps)) ≡ true
        by true = refl
        by false = e

sum-where : (u : ℤ) (f g : Ident → ℤ) (t : Term) → ((w : Ident) → list_any (λ z. same z w) (names_of t) ≡ true → f w ≡ g w) → sum_of u f t ≡ sum_of u g t
sum-where u f g [] h = refl
sum-where u f g (p ∷ ps) h = rw (one p.name refl, sum-where u f g ps (λ w m. h w (names_later p ps w m))) refl
  where
    one : (o : Option Ident) → p.name ≡ o → counted u f o ≡ counted u g o
    one None e = refl
    one (Some w) e = h w (names_first p ps w e)

sum-scaled : (u weight : ℤ) (a : Ident → ℤ) (t : Term) → sum_of u a (scaled weight t) ≡ weight *ℤ sum_of u a t
sum-scaled u weight a [] = sym (Z.*ℤ-zero weight)
sum-scaled u weight a (p ∷ ps) = omega (arith, ints, times_times weight (times_of p) (counted u a p.name), distribute weight (times_of p *ℤ counted u a p.name) (sum_of u a ps), sum-scaled u weight a ps)

-- the term at a name, and what it is where none stands there
named-none : (put : List IntVar) (u : ℤ) (a : Ident → ℤ) (x : Ident) → find (λ v. same v.name x) put ≡ None → named put u a x ≡ a x
named-none [] u a x e = refl
named-none (v ∷ vs) u a x e = pick (same v.name x) refl (named-none vs u a x)
  where
    pick : (b : Bool) → same v.name x ≡ b → (find (λ w. same w.name x) vs ≡ None → named vs u a x ≡ a x) → named (v ∷ vs) u a x ≡ a x
    pick true q again = let found : Some v ≡ None = rw q at e in absurd cc
    pick false q again = let none : find (λ w. same w.name x) vs ≡ None = rw q at e in rw q (again none)

record IsFound (most : ℕ) (put : List IntVar) (x : Ident) (var : IntVar) : Type 0 where
  pub value : (u : ℤ) (a : Ident → ℤ) → named put u a x ≡ sum_of u a var.term
  pub names : (w : Ident) → put_names put x w ≡ list_any (λ z. same z w) (names_of var.term)
  pub short : IsShortTerm most var.term

found : (most : ℕ) (put : List IntVar) (x : Ident) (var : IntVar) → ArePutShort most put → find (λ v. same v.name x) put ≡ Some var → IsFound most put x var
found most [] x var h e = absurd cc
found most (v ∷ vs) x var h e = pick (same v.name x) refl (found most vs x var (All-tail (λ v. IsShortTerm most v.term) v vs h))
  where
    pick : (b : Bool) → same v.name x ≡ b → (find (λ w. same w.name x) vs ≡ Some var → IsFound most vs x var) → IsFound most (v ∷ vs) x var
    pick true q again =
        let here : Some v ≡ Some var = rw q at e in
        let is : v ≡ var = cc in
        let it : IsFound most (v ∷ vs) x v = record { value = λ u a. rw q refl; names = λ w. rw q refl; short = All-head (λ v. IsShortTerm most v.term) v vs h } in
        subst (λ (w : IntVar). IsFound most (v ∷ vs) x w) is it
    pick false q again =
        let more : find (λ w. same w.name x) vs ≡ Some var = rw q at e in
        let rest = again more in
        record {
          value = λ u a. rw q (rest.value u a);
          names = λ w. rw q (rest.names w);
          short = rest.short;
        }

split_any : (f : Ident → Bool) (o : Option Ident) (xs : List Ident) → (list_any f (option_to_list o ++ xs) || false) ≡ false → ((list_any f (option_to_list o ++ []) || false) ≡ false) × ((list_any f xs || false) ≡ false)
split_any f None xs e = (refl, e)
split_any f (Some x) xs e = pick (f x) e
  where
    pick : (b : Bool) → ((b || list_any f xs) || false) ≡ false → (((b || false) || false) ≡ false) × ((list_any f xs || false) ≡ false)
    pick true h = absurd (false≢true (sym h))
    pick false h = (refl, h)

not_among : (ys : List Ident) (x y : Ident) → place_of ys x ≡ None → list_any (λ v. same v y) ys ≡ true → same y x ≡ false
not_among [] x y e m = absurd (false≢true m)
not_among (v ∷ vs) x y e m = pick (same v x) (same v y) refl refl (not_among vs x y)
  where
    pick : (b c : Bool) → same v x ≡ b → same v y ≡ c → (place_of vs x ≡ None → list_any (λ u. same u y) vs ≡ true → same y x ≡ false) → same y x ≡ false
    pick true c q k again = let none : ◌≡◌ {A = Option ℕ} (Some 0) None = rw q at e in absurd cc
    pick false true q k again = rw (sym (same_is v y k)) q
    pick false false q k again =
        let none : option_map suc (place_of vs x) ≡ None = rw q at e in
        let more : list_any (λ u. same u y) vs ≡ true = rw k at m in
        again (nowhere (place_of vs x) none) more
      where
        nowhere : (o : Option ℕ) → option_map suc o ≡ None → o ≡ None
        nowhere None h = refl
        nowhere (Some j) h = absurd cc

module _ (most : ℕ) (put : List IntVar) (before after : List Ident) (n : ℕ) (short : ArePutShort most put) where
  abbrev under : Term → Scoped
  under t = record { binders = before; term = t }

  abbrev Safe : Term → Type 0
  Safe t = AreSafe most put (under t ∷ []) n before after

  -- a name that is free and that a term is put in for
  put_in : (p : Part) (x w : Ident) → p.name ≡ Some x → place_of before x ≡ None → put_names put x w ≡ true → list_any (puts put w) (under (p ∷ []) ∷ []) ≡ true
  put_in p x w e f m = rw (e, f, m) refl

  kept_apart : (p : Part) (x y w : Ident) → p.name ≡ Some x → place_of before x ≡ None → put_names put x w ≡ true → list_any (puts put y) (under (p ∷ []) ∷ []) ≡ false → same y w ≡ false
  kept_apart p x y w e f m none = pick (same y w) refl
    where
      pick : (b : Bool) → same y w ≡ b → same y w ≡ false
      pick false q = q
      pick true q =
          let caught : list_any (puts put y) (under (p ∷ []) ∷ []) ≡ true = rw (sym (same_is y w q)) at (put_in p x w e f m) in
          absurd (false≢true (sym none ∙ caught))

  replaced-name : (u : ℤ) (at : Var → ℤ) (p : Part) (x : Ident) (o : Option ℕ) → p.name ≡ Some x → place_of before x ≡ o → Safe (p ∷ []) → IsShort most x → (v : Option IntVar) → find (λ v. same v.name x) put ≡ v → sum_of u (seen_at after at) (replaced_name before after put (times_of p) (Some x)) ≡ times_of p *ℤ at_place at (named put u (λ y. at (Free y)) x) o
  replaced-name u at p x (Some i) e f safe s v g =
      let new = found_new most put (under (p ∷ []) ∷ []) n before after x i safe s f in
      rw (new.1, new.2) (omega (arith, ints))
  replaced-name u at p x None e f safe s None g =
      let free : place_of after x ≡ None = stays_free most put (under (p ∷ []) ∷ []) n before after x safe s (λ y m none. not_among before x y f m) in
      rw (no_new before after x f, g, named-none put u (λ y. at (Free y)) x g, free) (omega (arith, ints))
  replaced-name u at p x None e f safe s (Some var) g =
      let var_is = found most put x var short g in
      let free : (w : Ident) → list_any (λ z. same z w) (names_of var.term) ≡ true → seen_at after at w ≡ at (Free w) = λ w m. rw (stays_free most put (under (p ∷ []) ∷ []) n before after w safe (all_named (IsShort most) (names_of var.term) w var_is.short m) (λ y k none. kept_apart p x y w e f (var_is.names w ∙ m) none)) refl in
      rw (no_new before after x f, g, var_is.value u (λ y. at (Free y))) (sum-scaled u (times_of p) (seen_at after at) var.term ∙ ap (λ z. times_of p *ℤ z) (sum-where u (seen_at after at) (λ y. at (Free y)) var.term free))

  first_safe : (p : Part) (ps : Term) → Safe (p ∷ ps) → Safe (p ∷ [])
  first_safe p ps safe = safe_for most put (under (p ∷ ps) ∷ []) (under (p ∷ []) ∷ []) n before after first safe
    where
      first : (y : Ident) → list_any (puts put y) (under (p ∷ ps) ∷ []) ≡ false → list_any (puts put y) (under (p ∷ []) ∷ []) ≡ false
      first y none = (split_any (λ x. is_none (place_of before x) && put_names put x y) p.name (names_of ps) none).0

  rest_safe : (p : Part) (ps : Term) → Safe (p ∷ ps) → Safe ps
  rest_safe p ps safe = safe_for most put (under (p ∷ ps) ∷ []) (under ps ∷ []) n before after rest safe
    where
      rest : (y : Ident) → list_any (puts put y) (under (p ∷ ps) ∷ []) ≡ false → list_any (puts put y) (under ps ∷ []) ≡ false
      rest y none = (split_any (λ x. is_none (place_of before x) && put_names put x y) p.name (names_of ps) none).1

  rest_short : (p : Part) (ps : Term) → IsShortTerm most (p ∷ ps) → IsShortTerm most ps
  rest_short p ps s = pick p.name s
    where
      pick : (o : Option Ident) → All (IsShort most) (option_to_list o ++ names_of ps) → All (IsShort most) (names_of ps)
      pick None h = h
      pick (Some x) h = All-tail (IsShort most) x (names_of ps) h

  replaced-one : (u : ℤ) (at : Var → ℤ) (p : Part) (ps : Term) → Safe (p ∷ []) → IsShortTerm most (p ∷ ps) → sum_of u (seen_at after at) (replaced_part before after put p) ≡ times_of p *ℤ counted u (λ x. at_place at (named put u (λ y. at (Free y)) x) (place_of before x)) p.name
  replaced-one u at p ps safe s = pick p.name refl
    where
      pick : (o : Option Ident) → p.name ≡ o → sum_of u (seen_at after at) (replaced_name before after put (times_of p) o) ≡ times_of p *ℤ counted u (λ x. at_place at (named put u (λ y. at (Free y)) x) (place_of before x)) o
      pick None e = omega (arith, ints)
      pick (Some x) e = replaced-name u at p x (place_of before x) e refl safe (all_named (IsShort most) (names_of (p ∷ ps)) x s (names_first p ps x e)) (find (λ v. same v.name x) put) refl

  pub replaced-value : (u : ℤ) (at : Var → ℤ) (t : Term) → Safe t → IsShortTerm most t → sum_of u (seen_at after at) (replaced before after put t) ≡ sum_under before put u at t
  replaced-value u at [] safe s = refl
  replaced-value u at (p ∷ ps) safe s =
      sum-append u (seen_at after at) (replaced_part before after put p) (replaced before after put ps)
      ∙ rw (replaced-one u at p ps (first_safe p ps safe) s, replaced-value u at ps (rest_safe p ps safe) (rest_short p ps s)) refl
