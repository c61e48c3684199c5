-- The numbers of terms, limits and resources in which form finds no fault.
use Rattle.std.proofs.Common.{◌≡◌, ℕ, zero, suc, ◌≤◌, Bool, true, false, ◌&&◌, if◌then◌else◌, nat_eq, List, [], ◌∷◌, ◌++◌, map, length, refl, ap, ◌∙◌, arith}
use Rattle.std.specs.List.{list_all, list_any, AllByRecursion}
use Rattle.core_language.specs.Names.{Ident}
use Rattle.core_language.specs.Resources as written
use Rattle.linear_forms.specs.Normal.{row_fits}
use Rattle.chan_base.specs.declared.spans.Span.{Span}
use Rattle.chan_syntax.specs.declared.linear.Term.{Term}
use Rattle.chan_syntax.specs.declared.linear.Limit.{Limit}
use Rattle.chan_syntax.specs.declared.linear.Bound.{Bound}
use Rattle.chan_syntax.specs.declared.resources.Ref.{Ref}
use Rattle.chan_syntax.specs.declared.resources.Shape.{Shape, Unit, Int, End, Pair', Sum', Row_of-Res, end_of-Res, more_of-Res}
use Rattle.chan_syntax.specs.declared.resources.Res.{Res}
use Rattle.chan_syntax.specs.declared.resources.Param.{Param}
use Rattle.chan_syntax.specs.Reading.{term_of, limit_of, bound_of, shape_of, res_in, resources_in, res_of}
use Rattle.form_faults.specs.declared.signatures.Signature.{Signature}
use Rattle.form_faults.specs.declared.sorts.Known.{Known}
use Rattle.form_faults.specs.declared.sorts.Naming.TheVariants as naming
use Rattle.form_faults.specs.declared.sorts.Sort.{Sort}
use Rattle.form_faults.specs.declared.sorts.Sort.TheVariants as sort
use Rattle.form_faults.specs.Faults.{unless, past}
use Rattle.form_faults.specs.Scopes.{Binder, binders, bind, twice, twice_all, most_of, names_past}
use Rattle.form_faults.specs.Terms.{term_faults, fixed_term_faults, fixed_terms_faults, bound_binders, bound_scope, limit_faults, limits_faults, limits_past, bound_faults, use_faults, fixed_ref_faults}
use Rattle.form_faults.specs.Resources.{shape_faults, res_in_faults, row_faults, res_faults, param_faults, params_faults}
use Rattle.core_programs.specs.Bodies.{param_of}
use Rattle.frame_laws.proofs.Tests.{none_left, none_right, faultless}
use Rattle.narrow_terms.specs.Numbers.{is_narrow, is_narrow_limit}
use Rattle.narrow_forms.proofs.Narrow.{narrow_terms_fit, narrow_limits_fit}
use Rattle.outline_language.specs.LinearForms.{form_fits, row_of}
use Rattle.outline_language.specs.Nameless.{nameless_term, nameless_limit, nameless_res, limit_fits, res_fits, resources_fit, nameless_resources, forms_of_limit}
use Rattle.narrow_headers.specs.Narrow.{NarrowTerm, NarrowTerms, NarrowLimits, NarrowRows, NarrowShape, NarrowRes, most}

pub and_true : (a b : Bool) → a ≡ true → b ≡ true → (a && b) ≡ true
and_true a b p q = ap (λ x. x && b) p ∙ q

-- ---- terms

fits_there : (fits : Bool) (span : Span) → unless fits span ≡ [] → fits ≡ true
unfolding unless
fits_there fits span none = faultless fits _ [] none

pub term_narrow : (scope : List Known) (t : Term) → fixed_term_faults scope t ≡ [] → NarrowTerm (term_of t)
unfolding fixed_term_faults
term_narrow scope t none ints around =
    narrow_terms_fit ints around (term_of t) (fits_there (is_narrow (term_of t)) t.span (none_left (unless (is_narrow (term_of t)) t.span) (term_faults naming.Integers scope t) none))

pub terms_narrow : (scope : List Known) (ts : List Term) → fixed_terms_faults scope ts ≡ [] → NarrowTerms (map term_of ts)
unfolding fixed_terms_faults
terms_narrow scope [] none ints around = refl
terms_narrow scope (t ∷ ts) none ints around =
    and_true (form_fits (nameless_term ints around (term_of t))) _
    (term_narrow scope t (none_left (fixed_term_faults scope t) (fixed_terms_faults scope ts) none) ints around)
    (terms_narrow scope ts (none_right (fixed_term_faults scope t) (fixed_terms_faults scope ts) none) ints around)

pub ref_narrow : (protos : List Signature) (scope : List Known) (ref : Ref) → fixed_ref_faults protos scope ref ≡ [] → NarrowTerms (map term_of ref.args)
unfolding fixed_ref_faults
ref_narrow protos scope ref none = terms_narrow scope ref.args (none_right (use_faults protos ref.name ref.name_span (length ref.args)) (fixed_terms_faults scope ref.args) none)

-- ---- limits

limit_narrow : (scope : List Known) (l : Limit) → limit_faults scope l ≡ [] → (is_narrow_limit (limit_of l) ≡ true) × (NarrowTerm (term_of l.left) × NarrowTerm (term_of l.right))
unfolding limit_faults
limit_narrow scope l none =
    let fits = unless (is_narrow_limit (limit_of l)) l.left.span in
    let one = fixed_term_faults scope l.left in
    let two = fixed_term_faults scope l.right in
    let terms = none_right fits (one ++ two) none in
    (fits_there (is_narrow_limit (limit_of l)) l.left.span (none_left fits (one ++ two) none), (term_narrow scope l.left (none_left one two terms), term_narrow scope l.right (none_right one two terms)))

pub limits_narrow : (scope : List Known) (ls : List Limit) → limits_faults scope ls ≡ [] → NarrowLimits (map limit_of ls)
unfolding limits_faults
limits_narrow scope [] none ints around = refl
limits_narrow scope (l ∷ ls) none ints around =
    let here = limit_narrow scope l (none_left (limit_faults scope l) (limits_faults scope ls) none) in
    and_true (limit_fits (nameless_limit ints around (limit_of l))) _
    (and_true (form_fits (nameless_term ints around (term_of l.left))) _ (here.1.0 ints around) (here.1.1 ints around))
    (limits_narrow scope ls (none_right (limit_faults scope l) (limits_faults scope ls) none) ints around)

pub rows_narrow : (scope : List Known) (ls : List Limit) → limits_faults scope ls ≡ [] → NarrowRows (map limit_of ls)
unfolding limits_faults
rows_narrow scope [] none ints = refl
rows_narrow scope (l ∷ ls) none ints =
    let here = limit_narrow scope l (none_left (limit_faults scope l) (limits_faults scope ls) none) in
    and_true (list_all (λ g. row_fits (row_of (length ints) g)) (forms_of_limit (nameless_limit ints [] (limit_of l)))) _
    (narrow_limits_fit ints (limit_of l) here.0)
    (rows_narrow scope ls (none_right (limit_faults scope l) (limits_faults scope ls) none) ints)

-- ---- binders

at_most : {X : Type 0} (at : X → Span) (xs : List X) (n : ℕ) → past n (map at xs) ≡ [] → length xs ≤ n
unfolding past
at_most at [] n none = omega arith
at_most at (x ∷ xs) zero none = cc
at_most at (x ∷ xs) (suc n) none = omega (arith, at_most at xs n none)

as_many : (its : Sort) (names : List Ident) (spans : List Span) → length (binders its names spans) ≡ length names
unfolding binders
as_many its [] spans = refl
as_many its (x ∷ xs) [] = ap suc (as_many its xs [])
as_many its (x ∷ xs) (s ∷ ss) = ap suc (as_many its xs ss)

few : (names : List Ident) → most_of names ≤ most
few names = by (list_any (λ x. list_any (nat_eq 46) x) names)
  where
    by : (t : Bool) → (if t then 32 else 16) ≤ 32
    by true = omega arith
    by false = omega arith

pub record Bound-narrow (bound : Bound) : Type 0 where
  pub few_names : length bound.names ≤ most
  pub few_limits : length bound.limits ≤ most
  pub limits : NarrowLimits (map limit_of bound.limits)
  pub rows : NarrowRows (map limit_of bound.limits)

pub bound_narrow : (scope : List Known) (bound : Bound) → bound_faults scope bound ≡ [] → Bound-narrow bound
unfolding bound_faults limits_past
bound_narrow scope bound none =
    let one = twice_all scope (bound_binders bound) in
    let two = names_past (most_of bound.names) (bound_binders bound) in
    let three = limits_faults (bound_scope scope bound) bound.limits in
    let four = limits_past (most_of bound.names) bound.limits in
    let later = none_right one (two ++ (three ++ four)) none in
    let last = none_right two (three ++ four) later in
    let names = at_most (λ (b : Binder). b.span) (bound_binders bound) (most_of bound.names) (none_left two (three ++ four) later) in
    let limits = at_most (λ (l : Limit). l.left.span) bound.limits (most_of bound.names) (none_right three four last) in
    record {
      few_names = omega (arith, names, as_many sort.Integer bound.names bound.names_spans, few bound.names);
      few_limits = omega (arith, limits, few bound.names);
      limits = limits_narrow (bound_scope scope bound) bound.limits (none_left three four last);
      rows = rows_narrow (bound_scope scope bound) bound.limits (none_left three four last);
    }

-- ---- shapes and resources

module _ (protos : List Signature) where
  mutual
    unfolding shape_faults res_in_faults

    pub shape_narrow : (scope : List Known) (shape : Shape) → shape_faults protos scope shape ≡ [] → NarrowShape (shape_of shape)
    shape_narrow scope Unit none ints around = refl
    shape_narrow scope (Int term) none ints around = term_narrow scope term none ints around
    shape_narrow scope (End ref) none ints around = ref_narrow protos scope ref none ints around
    shape_narrow scope (Pair' _ first _ second) none ints around =
        let one = res_in_faults protos scope first in
        let two = res_in_faults protos scope second in
        and_true (res_fits (nameless_res ints around (res_in first))) _ (row_narrow scope first (none_left one two none) ints around) (row_narrow scope second (none_right one two none) ints around)
    shape_narrow scope (Sum' _ arms) none ints around = arms_narrow scope arms none ints around

    row_narrow : {m : _} (scope : List Known) (row : Row_of-Res m) → res_in_faults protos scope row ≡ [] → NarrowRes (res_in row)
    row_narrow scope end_of-Res none ints around = refl
    row_narrow scope (more_of-Res bound shape rest) none ints around =
        let binds = bound_faults scope bound in
        let inner = shape_faults protos (bound_scope scope bound) shape in
        and_true (list_all limit_fits (map (nameless_limit ints (bound.names ++ around)) (map limit_of bound.limits))) _
        ((bound_narrow scope bound (none_left binds inner none)).limits ints (bound.names ++ around))
        (shape_narrow (bound_scope scope bound) shape (none_right binds inner none) ints (bound.names ++ around))

    arms_narrow : {m : _} (scope : List Known) (row : Row_of-Res m) → row_faults protos scope row ≡ []
        → (ints around : List Ident) → resources_fit (nameless_resources ints around (resources_in row)) ≡ true
    arms_narrow scope end_of-Res none ints around = refl
    arms_narrow scope (more_of-Res bound shape rest) none ints around =
        let binds = bound_faults scope bound in
        let inner = shape_faults protos (bound_scope scope bound) shape in
        let others = row_faults protos scope rest in
        let here = none_left (binds ++ inner) others none in
        and_true (res_fits (nameless_res ints around (written.Binds (bound_of bound) (shape_of shape)))) _
        (and_true (list_all limit_fits (map (nameless_limit ints (bound.names ++ around)) (map limit_of bound.limits))) _
        ((bound_narrow scope bound (none_left binds inner here)).limits ints (bound.names ++ around))
        (shape_narrow (bound_scope scope bound) shape (none_right binds inner here) ints (bound.names ++ around)))
        (arms_narrow scope rest (none_right (binds ++ inner) others none) ints around)

  pub res_narrow : (scope : List Known) (res : Res) → res_faults protos scope res ≡ [] → NarrowRes (res_of res)
  unfolding res_faults
  res_narrow scope res none ints around =
      let binds = bound_faults scope res.bound in
      let inner = shape_faults protos (bound_scope scope res.bound) res.shape in
      and_true (list_all limit_fits (map (nameless_limit ints (res.bound.names ++ around)) (map limit_of res.bound.limits))) _
      ((bound_narrow scope res.bound (none_left binds inner none)).limits ints (res.bound.names ++ around))
      (shape_narrow (bound_scope scope res.bound) res.shape (none_right binds inner none) ints (res.bound.names ++ around))

  pub params_narrow : (scope : List Known) (ps : List Param) → params_faults protos scope ps ≡ [] → AllByRecursion (λ p. NarrowShape p.shape) (map param_of ps)
  unfolding params_faults param_faults
  params_narrow scope [] none = tt
  params_narrow scope (p ∷ ps) none =
      let names = twice scope p.name p.name_span in
      let shape = shape_faults protos scope p.shape in
      let others = params_faults protos (bind scope p.name sort.Variable) ps in
      (shape_narrow scope p.shape (none_right names shape (none_left (names ++ shape) others none)), params_narrow (bind scope p.name sort.Variable) ps (none_right (names ++ shape) others none))
