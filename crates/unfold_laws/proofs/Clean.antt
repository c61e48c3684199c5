-- What scopes and terms are where no fault is found.
use Rattle.std.proofs.Common.{◌≡◌, ◌⊎◌, inl, inr, Bool, true, false, ◌||◌, is_some, if◌then◌else◌, List, [], ◌∷◌, ◌++◌, All, map, flat_map, get_or, Option, Some, None, option_to_list, unwrap_or, refl, sym, subst, append_assoc, append-nil}
use Rattle.std.specs.List.{list_any}
use Rattle.std.proofs.Math.Bool.{false≢true}
use Rattle.std.proofs.lemmas.List.Elements.{All-nil, All-cons, All-append, All-head, All-tail}
use Rattle.core_language.specs.Names.{Ident, same}
use Rattle.linear_forms.specs.Normal.{names_of}
use Rattle.linear_forms.specs.Substitution.{scoped, terms_of_limit}
use Rattle.linear_forms.proofs.SameNames.{same_is, same-self}
use Rattle.linear_forms.proofs.Shorts.{all_map}
use Rattle.chan_base.specs.declared.spans.Span.{Span}
use Rattle.chan_syntax.specs.declared.linear.Part.{Part}
use Rattle.chan_syntax.specs.declared.linear.Term.{Term}
use Rattle.chan_syntax.specs.declared.linear.Limit.{Limit}
use Rattle.chan_syntax.specs.declared.linear.Bound.{Bound}
use Rattle.chan_syntax.specs.Reading.{part_of, term_of, limit_of}
use Rattle.form_faults.specs.declared.faults.IllKind.TheVariants as kind
use Rattle.form_faults.specs.declared.faults.Ill.{Ill}
use Rattle.form_faults.specs.declared.sorts.Sort.{Sort}
use Rattle.form_faults.specs.declared.sorts.Sort.TheVariants as sort
use Rattle.form_faults.specs.declared.sorts.Naming.TheVariants as naming
use Rattle.form_faults.specs.declared.sorts.Known.{Known}
use Rattle.form_faults.specs.Faults.{of_name, unless}
use Rattle.narrow_terms.specs.Numbers.{is_narrow, is_narrow_limit}
use Rattle.form_faults.specs.Scopes.{sort_of, is_usable, unscoped, Binder, bind, bind_all, twice_all, binders, most_of, names_past}
use Rattle.form_faults.specs.Terms.{name_faults, part_faults, parts_faults, term_faults, fixed_term_faults, fixed_terms_faults, limit_faults, limits_faults, limits_past, bound_binders, bound_scope, bound_faults}
use Rattle.protocols.specs.Unfolding.{NamesOnly, NamesUnder}

pub none_left : (a b : List Ill) → a ++ b ≡ [] → a ≡ []
none_left [] b is = refl
none_left (x ∷ a) b is = cc

pub none_right : (a b : List Ill) → a ++ b ≡ [] → b ≡ []
none_right [] b is = is
none_right (x ∷ a) b is = cc

pub none_of_one : (ill : Ill) → ill ∷ [] ≡ [] → ⊥
none_of_one ill is = cc

-- ---- names of a list

abbrev pub IsIn : List Ident → Ident → Type 0
IsIn names x = list_any (λ p. same p x) names ≡ true

in_later : (xs ys : List Ident) (x : Ident) → IsIn ys x → IsIn (xs ++ ys) x
in_later [] ys x is = is
in_later (z ∷ xs) ys x is = pick (same z x) (in_later xs ys x is)
  where
    pick : (b : Bool) → IsIn (xs ++ ys) x → (b || list_any (λ p. same p x) (xs ++ ys)) ≡ true
    pick true later = refl
    pick false later = later

pub all_in : (xs ys : List Ident) → All (IsIn (xs ++ ys)) xs
all_in [] ys = All-nil (IsIn ys)
all_in (x ∷ xs) ys =
    All-cons (IsIn (x ∷ xs ++ ys)) x xs (rw (same-self x) refl) (λ k d lt. in_later (x ∷ []) (xs ++ ys) (get_or xs k d) (all_in xs ys k d lt))

-- ---- scopes

-- what is in scope has the property
abbrev pub Within : (Ident → Type 0) → List Known → Type 0
Within P scope = (x : Ident) → is_some (sort_of scope x) ≡ true → P x

found_more : (scope : List Known) (k : Known) (x : Ident) → is_some (sort_of (scope ++ k ∷ []) x) ≡ true → (is_some (sort_of scope x) ≡ true) ⊎ (same k.name x ≡ true)
unfolding sort_of
found_more [] k x is = pick (same k.name x) refl is
  where
    pick : (b : Bool) → same k.name x ≡ b → is_some (if b then Some k.sort else None) ≡ true → (false ≡ true) ⊎ (same k.name x ≡ true)
    pick true q e = inr q
    pick false q e = absurd (false≢true e)
found_more (j ∷ scope) k x is = pick (same j.name x) is (found_more scope k x)
  where
    pick : (b : Bool) → is_some (if b then Some j.sort else sort_of (scope ++ k ∷ []) x) ≡ true
        → (is_some (sort_of (scope ++ k ∷ []) x) ≡ true → (is_some (sort_of scope x) ≡ true) ⊎ (same k.name x ≡ true))
        → (is_some (if b then Some j.sort else sort_of scope x) ≡ true) ⊎ (same k.name x ≡ true)
    pick true e again = inl refl
    pick false e again = again e

nothing_within : (P : Ident → Type 0) → Within P []
unfolding sort_of
nothing_within P x is = absurd (false≢true is)

bind_within : (P : Ident → Type 0) (scope : List Known) (y : Ident) (its : Sort) → Within P scope → P y → Within P (bind scope y its)
unfolding bind
bind_within P scope y its here this x = pick (is_some (sort_of scope y))
  where
    more : (is_some (sort_of scope x) ≡ true) ⊎ (same y x ≡ true) → P x
    more (inl e) = here x e
    more (inr e) = subst P (same_is y x e) this

    pick : (b : Bool) → is_some (sort_of (if b then scope else scope ++ record { name = y; sort = its } ∷ []) x) ≡ true → P x
    pick true e = here x e
    pick false e = more (found_more scope (record { name = y; sort = its }) x e)

pub all_within : (P : Ident → Type 0) (scope : List Known) (bs : List Binder) → Within P scope → All (λ b. P b.name) bs → Within P (bind_all scope bs)
unfolding bind_all
all_within P scope [] here these = here
all_within P scope (b ∷ bs) here these =
    all_within P (bind scope b.name b.sort) bs (bind_within P scope b.name b.sort here (All-head (λ (c : Binder). P c.name) b bs these)) (All-tail (λ (c : Binder). P c.name) b bs these)

pub binders_named : (P : Ident → Type 0) (its : Sort) (xs : List Ident) (spans : List Span) → All P xs → All (λ b. P b.name) (binders its xs spans)
unfolding binders
binders_named P its [] spans these = All-nil (λ (b : Binder). P b.name)
binders_named P its (x ∷ xs) [] these =
    All-cons (λ (b : Binder). P b.name) _ (binders its xs []) (All-head P x xs these) (binders_named P its xs [] (All-tail P x xs these))
binders_named P its (x ∷ xs) (s ∷ ss) these =
    All-cons (λ (b : Binder). P b.name) _ (binders its xs ss) (All-head P x xs these) (binders_named P its xs ss (All-tail P x xs these))

-- names that are bound first
pub names_within : (its : Sort) (xs : List Ident) (spans : List Span) → Within (IsIn xs) (bind_all [] (binders its xs spans))
names_within its xs spans =
    all_within (IsIn xs) [] (binders its xs spans) (nothing_within (IsIn xs))
    (binders_named (IsIn xs) its xs spans (subst (λ zs. All (IsIn zs) xs) (append-nil xs) (all_in xs [])))

-- names that are bound further in
pub bound_within : (inner outer params : List Ident) (scope : List Known) (bound : Bound) → inner ≡ bound.names → Within (IsIn (outer ++ params)) scope
    → Within (IsIn ((inner ++ outer) ++ params)) (bound_scope scope bound)
unfolding bound_scope
bound_within inner outer params scope bound is here =
    subst (λ zs. Within (IsIn zs) (bind_all scope (bound_binders bound))) (sym (append_assoc inner outer params))
    (all_within (IsIn (inner ++ (outer ++ params))) scope (bound_binders bound) (λ x e. in_later inner (outer ++ params) x (here x e))
    (binders_named (IsIn (inner ++ (outer ++ params))) sort.Integer bound.names bound.names_spans
    (subst (λ xs. All (IsIn (inner ++ (outer ++ params))) xs) is (all_in inner (outer ++ params)))))

-- ---- terms

in_scope : (scope : List Known) (x : Ident) (span : Span) → unscoped naming.Integers scope x span ≡ [] → is_some (sort_of scope x) ≡ true
unfolding unscoped
in_scope scope x span none = pick (sort_of scope x) none
  where
    pick : (o : Option Sort) → (if is_usable naming.Integers o then [] else of_name kind.Unscoped x span) ≡ [] → is_some o ≡ true
    pick None e = absurd (none_of_one _ e)
    pick (Some its) e = refl

module _ (P : Ident → Type 0) (scope : List Known) (within : Within P scope) where
  parts_named : (span : Span) (ps : List Part) → parts_faults naming.Integers scope span ps ≡ [] → All P (names_of (map part_of ps))
  unfolding parts_faults part_faults
  parts_named span [] none = All-nil P
  parts_named span (p ∷ ps) none =
      let head = part_faults naming.Integers scope span p in
      let tail = parts_faults naming.Integers scope span ps in
      All-append P (option_to_list p.name) (names_of (map part_of ps)) (by p.name (unwrap_or p.name_span span) (none_left head tail none)) (parts_named span ps (none_right head tail none))
    where
      by : (o : Option Ident) (at : Span) → name_faults naming.Integers scope o at ≡ [] → All P (option_to_list o)
      by None at e = All-nil P
      by (Some x) at e = All-cons P x [] (within x (in_scope scope x at e)) (All-nil P)

  pub term_named : (t : Term) → fixed_term_faults scope t ≡ [] → All P (names_of (term_of t))
  unfolding fixed_term_faults term_faults
  term_named t none = parts_named t.span t.parts (none_right (unless (is_narrow (term_of t)) t.span) (term_faults naming.Integers scope t) none)

  pub terms_named : (ts : List Term) → fixed_terms_faults scope ts ≡ [] → All (λ u. All P (names_of u)) (map term_of ts)
  unfolding fixed_terms_faults
  terms_named [] none = All-nil (λ u. All P (names_of u))
  terms_named (t ∷ ts) none =
      let head = fixed_term_faults scope t in
      let tail = fixed_terms_faults scope ts in
      All-cons (λ u. All P (names_of u)) (term_of t) (map term_of ts) (term_named t (none_left head tail none)) (terms_named ts (none_right head tail none))

  pub limits_named : (ls : List Limit) → limits_faults scope ls ≡ [] → All (λ u. All P (names_of u)) (flat_map terms_of_limit (map limit_of ls))
  unfolding limits_faults limit_faults
  limits_named [] none = All-nil (λ u. All P (names_of u))
  limits_named (l ∷ ls) none =
      let left = fixed_term_faults scope l.left in
      let right = fixed_term_faults scope l.right in
      let tail = limits_faults scope ls in
      let narrow = unless (is_narrow_limit (limit_of l)) l.left.span in
      let both = none_right narrow (left ++ right) (none_left (narrow ++ (left ++ right)) tail none) in
      All-cons (λ u. All P (names_of u)) (term_of l.left) (term_of l.right ∷ flat_map terms_of_limit (map limit_of ls)) (term_named l.left (none_left left right both))
      (All-cons (λ u. All P (names_of u)) (term_of l.right) (flat_map terms_of_limit (map limit_of ls)) (term_named l.right (none_right left right both))
      (limits_named ls (none_right (narrow ++ (left ++ right)) tail none)))

-- the limits of a list of binders, in the scope of what stands after them
pub bound_limits : (scope : List Known) (bound : Bound) → bound_faults scope bound ≡ [] → limits_faults (bound_scope scope bound) bound.limits ≡ []
unfolding bound_faults
bound_limits scope bound none =
    let names = twice_all scope (bound_binders bound) in
    let many = names_past (most_of bound.names) (bound_binders bound) in
    let limits = limits_faults (bound_scope scope bound) bound.limits in
    let past = limits_past (most_of bound.names) bound.limits in
    none_left limits past (none_right many (limits ++ past) (none_right names (many ++ (limits ++ past)) none))

-- terms under binders
pub all_scoped : (params outer : List Ident) (ts : List _) → All (NamesOnly (outer ++ params)) ts → All (NamesUnder params) (scoped outer ts)
all_scoped params outer ts these = all_map (NamesUnder params) (λ t. record { binders = outer; term = t }) ts these
