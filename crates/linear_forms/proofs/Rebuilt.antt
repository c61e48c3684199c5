-- Resources that are built again, term by term and binder by binder.
use Rattle.std.proofs.Common.{◌≡◌, inl, inr, ℕ, suc, ◌+◌, Bool, true, false, ◌||◌, List, [], ◌∷◌, ◌++◌, All, flat_map, length, refl, sym, ◌∙◌, ap, subst, arith}
use Rattle.std.specs.List.{list_any}
use Rattle.std.proofs.Math.Bool.{false≢true}
use Rattle.std.proofs.lemmas.List.{length-append}
use Rattle.std.proofs.lemmas.List.Elements.{All-nil, All-cons, All-head, All-tail}
use Rattle.core_language.specs.Names.{Ident}
use Rattle.core_language.specs.Terms.{Term, Limit}
use Rattle.core_language.specs.Resources.{Res}
use Rattle.linear_forms.specs.Terms.{IntVar}
use Rattle.linear_forms.specs.Substitution.{Scoped, scoped, terms_of_limit, puts, catches, Fits, AllFit, Each}
use Rattle.linear_forms.specs.Replacing.{IsShort, IsShortTerm, IsShortLimit, ArePutShort, IsSafe, AreSafe, IsLonger, IsReady, IsReadyLimit, FitsLimit}
use Rattle.linear_forms.proofs.Places.{safe_for}

pub each_more : {X : Type 0} (R : X → X → Type 0) (xs ys : List X) (x y : X) → Each R xs ys → R x y → Each R (xs ++ x ∷ []) (ys ++ y ∷ [])
each_more R [] [] x y e r = (r, tt)
each_more R [] (b ∷ bs) x y e r = absurd e
each_more R (a ∷ rest) [] x y e r = absurd e
each_more R (a ∷ rest) (b ∷ bs) x y e r = (e.0, each_more R rest bs x y e.1 r)

-- ---- tests of lists

pub none_left : {X : Type 0} (f : X → Bool) (xs ys : List X) → list_any f (xs ++ ys) ≡ false → list_any f xs ≡ false
none_left f [] ys e = refl
none_left f (x ∷ xs) ys e = pick (f x) e (none_left f xs ys)
  where
    pick : (b : Bool) → (b || list_any f (xs ++ ys)) ≡ false → (list_any f (xs ++ ys) ≡ false → list_any f xs ≡ false) → (b || list_any f xs) ≡ false
    pick true h again = h
    pick false h again = again h

pub none_right : {X : Type 0} (f : X → Bool) (xs ys : List X) → list_any f (xs ++ ys) ≡ false → list_any f ys ≡ false
none_right f [] ys e = e
none_right f (x ∷ xs) ys e = pick (f x) e (none_right f xs ys)
  where
    pick : (b : Bool) → (b || list_any f (xs ++ ys)) ≡ false → (list_any f (xs ++ ys) ≡ false → list_any f ys ≡ false) → list_any f ys ≡ false
    pick true h again = absurd (false≢true (sym h))
    pick false h again = again h

-- ---- binders

pub safe_more : (most : ℕ) (put : List IntVar) (terms : List Scoped) (n : ℕ) (ys zs : List Ident) (y z : Ident) → AreSafe most put terms (suc n) ys zs → IsSafe most put terms n y z → AreSafe most put terms n (ys ++ y ∷ []) (zs ++ z ∷ [])
safe_more most put terms n [] [] y z safe head = let same : n ≡ 0 + n = omega arith in (subst (λ (k : ℕ). IsSafe most put terms k y z) same head, tt)
safe_more most put terms n [] (b ∷ bs) y z safe head = absurd safe
safe_more most put terms n (a ∷ rest) [] y z safe head = absurd safe
safe_more most put terms n (a ∷ rest) (b ∷ bs) y z safe head =
    let same : length rest + suc n ≡ length (rest ++ y ∷ []) + n = omega (arith, length-append rest (y ∷ [])) in
    (subst (λ (k : ℕ). IsSafe most put terms k a b) same safe.0, safe_more most put terms n rest bs y z safe.1 head)

pub safe_join : (most : ℕ) (put : List IntVar) (terms : List Scoped) (ys zs us vs : List Ident) → AreSafe most put terms (length us) ys zs → AreSafe most put terms 0 us vs → AreSafe most put terms 0 (ys ++ us) (zs ++ vs)
safe_join most put terms [] [] us vs inner outer = outer
safe_join most put terms [] (z ∷ zs) us vs inner outer = absurd inner
safe_join most put terms (y ∷ ys) [] us vs inner outer = absurd inner
safe_join most put terms (y ∷ ys) (z ∷ zs) us vs inner outer =
    let same : length ys + length us ≡ length (ys ++ us) + 0 = omega (arith, length-append ys us) in
    (subst (λ (k : ℕ). IsSafe most put terms k y z) same inner.0, safe_join most put terms ys zs us vs inner.1 outer)

-- a name that is made of whether the binder would catch
pub binder_safe : (most : ℕ) (put : List IntVar) (terms : List Scoped) (n : ℕ) (y z : Ident) (caught : Bool) → IsShort most y → caught ≡ list_any (puts put y) terms → (caught ≡ false → z ≡ y) → (caught ≡ true → length z ≡ suc most + n) → IsSafe most put terms n y z
binder_safe most put terms n y z true short is kept made = (short, inr (made refl))
binder_safe most put terms n y z false short is kept made = (short, inl (kept refl, sym is))

pub binder_longer : (most : ℕ) (put : List IntVar) (before : List Ident) (res : Res) (n : ℕ) (y z : Ident) (caught : Bool) → IsShort most y → caught ≡ catches put before res y → (caught ≡ false → z ≡ y) → (caught ≡ true → length z ≡ suc most + n) → IsLonger most put before res y z
binder_longer most put before res n y z caught short is kept made = record {
  short = short;
  kept = λ e. kept (is ∙ e);
  longer = λ e. let long = made (is ∙ e) in omega arith;
}

-- ---- terms that are ready

first_none : (put : List IntVar) (s : Scoped) (ss : List Scoped) (y : Ident) → list_any (puts put y) (s ∷ ss) ≡ false → list_any (puts put y) (s ∷ []) ≡ false
first_none put s ss y e = none_left (puts put y) (s ∷ []) ss e

rest_none : (put : List IntVar) (s : Scoped) (ss : List Scoped) (y : Ident) → list_any (puts put y) (s ∷ ss) ≡ false → list_any (puts put y) ss ≡ false
rest_none put s ss y e = none_right (puts put y) (s ∷ []) ss e

module _ (most : ℕ) (put : List IntVar) (before after : List Ident) (put_short : ArePutShort most put) where
  pub ready_first : (t : Term) (ss : List Scoped) → AreSafe most put (record { binders = before; term = t } ∷ ss) 0 before after → IsShortTerm most t → IsReady put before after t
  ready_first t ss safe short = record {
    most = most;
    safe = safe_for most put (record { binders = before; term = t } ∷ ss) (record { binders = before; term = t } ∷ []) 0 before after (first_none put (record { binders = before; term = t }) ss) safe;
    short = short;
    put_short = put_short;
  }

  later : (t : Term) (ss : List Scoped) → AreSafe most put (record { binders = before; term = t } ∷ ss) 0 before after → AreSafe most put ss 0 before after
  later t ss safe = safe_for most put (record { binders = before; term = t } ∷ ss) ss 0 before after (rest_none put (record { binders = before; term = t }) ss) safe

  pub ready_terms : (ts : List Term) → AreSafe most put (scoped before ts) 0 before after → All (IsShortTerm most) ts → All (IsReady put before after) ts
  ready_terms [] safe short = All-nil (IsReady put before after)
  ready_terms (t ∷ ts) safe short =
      All-cons (IsReady put before after) t ts (ready_first t (scoped before ts) safe (All-head (IsShortTerm most) t ts short)) (ready_terms ts (later t (scoped before ts) safe) (All-tail (IsShortTerm most) t ts short))

  pub ready_limits : (ls : List Limit) → AreSafe most put (scoped before (flat_map terms_of_limit ls)) 0 before after → All (IsShortLimit most) ls → All (IsReadyLimit put before after) ls
  ready_limits [] safe short = All-nil (IsReadyLimit put before after)
  ready_limits (l ∷ ls) safe short =
      let here = All-head (IsShortLimit most) l ls short in
      let right_safe = later l.left (record { binders = before; term = l.right } ∷ scoped before (flat_map terms_of_limit ls)) safe in
      let both : IsReadyLimit put before after l = record {
        left = ready_first l.left (record { binders = before; term = l.right } ∷ scoped before (flat_map terms_of_limit ls)) safe here.left;
        right = ready_first l.right (scoped before (flat_map terms_of_limit ls)) right_safe here.right;
      } in
      All-cons (IsReadyLimit put before after) l ls both (ready_limits ls (later l.right (scoped before (flat_map terms_of_limit ls)) right_safe) (All-tail (IsShortLimit most) l ls short))

-- ---- terms that fit

pub fit_terms : (put : List IntVar) (before : List Ident) (ts : List Term) → AllFit put (scoped before ts) → All (Fits put before) ts
fit_terms put before [] h = All-nil (Fits put before)
fit_terms put before (t ∷ ts) h =
    All-cons (Fits put before) t ts (All-head (λ (s : Scoped). Fits put s.binders s.term) (record { binders = before; term = t }) (scoped before ts) h) (fit_terms put before ts (All-tail (λ (s : Scoped). Fits put s.binders s.term) (record { binders = before; term = t }) (scoped before ts) h))

pub fit_limits : (put : List IntVar) (before : List Ident) (ls : List Limit) → AllFit put (scoped before (flat_map terms_of_limit ls)) → All (FitsLimit put before) ls
fit_limits put before [] h = All-nil (FitsLimit put before)
fit_limits put before (l ∷ ls) h =
    let after_left = All-tail (λ (s : Scoped). Fits put s.binders s.term) (record { binders = before; term = l.left }) (record { binders = before; term = l.right } ∷ scoped before (flat_map terms_of_limit ls)) h in
    let both : FitsLimit put before l = record {
      left = All-head (λ (s : Scoped). Fits put s.binders s.term) (record { binders = before; term = l.left }) (record { binders = before; term = l.right } ∷ scoped before (flat_map terms_of_limit ls)) h;
      right = All-head (λ (s : Scoped). Fits put s.binders s.term) (record { binders = before; term = l.right }) (scoped before (flat_map terms_of_limit ls)) after_left;
    } in
    All-cons (FitsLimit put before) l ls both (fit_limits put before ls (All-tail (λ (s : Scoped). Fits put s.binders s.term) (record { binders = before; term = l.right }) (scoped before (flat_map terms_of_limit ls)) after_left))
