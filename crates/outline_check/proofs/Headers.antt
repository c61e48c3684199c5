-- Headers of form begin contexts.
use Rattle.std.proofs.Common.{◌≡◌, ◌*◌, ◌≤◌, Bool, true, false, ◌&&◌, List, [], ◌∷◌, ◌++◌, map, flat_map, length, refl, arith}
use Rattle.std.proofs.lemmas.List.{length-append}
use Rattle.std.specs.List.{list_all, AllByRecursion}
use Rattle.core_language.specs.Names.{Ident}
use Rattle.core_language.specs.Terms.{Limit, Relation, AtMost, Less, Same}
use Rattle.core_language.specs.Programs.{Function, Param}
use Rattle.linear_forms.specs.Normal.{row_fits}
use Rattle.outline_language.specs.LinearForms.{LinearForm, row_of}
use Rattle.outline_language.specs.Nameless.{nameless_limit, at_most_zero, forms_of_limit, shape_fits}
use Rattle.narrow_headers.specs.Narrow.{NarrowShape, IsNarrowHeader}
use Rattle.narrow_headers.proofs.Resources.{and_true}
use Rattle.outline_contexts.specs.Starting.{IsHeader, param_shape}

two_forms : (relation : Relation) (a b : LinearForm) → length (at_most_zero relation a b) ≤ 2
two_forms AtMost a b = omega arith
two_forms Less a b = omega arith
two_forms Same a b = omega arith

few_forms : (names : List Ident) (ls : List Limit) → length (flat_map forms_of_limit (map (nameless_limit names []) ls)) ≤ 2 * length ls
few_forms names [] = omega arith
few_forms names (l ∷ ls) =
    let read = nameless_limit names [] l in
    omega (arith, length-append (forms_of_limit read) (flat_map forms_of_limit (map (nameless_limit names []) ls)), two_forms read.relation read.left read.right, few_forms names ls)

abbrev fits_row : List Ident → LinearForm → Bool
fits_row names form = row_fits (row_of (length names) form)

both : (a b : Bool) → (a && b) ≡ true → (a ≡ true) × (b ≡ true)
both true b is = (refl, is)
both false b is = absurd cc

all_joined : {A : Type 0} (test : A → Bool) (xs ys : List A) → list_all test xs ≡ true → list_all test ys ≡ true → list_all test (xs ++ ys) ≡ true
all_joined test [] ys first second = second
all_joined test (x ∷ xs) ys first second =
    let two = both (test x) (list_all test xs) first in
    and_true (test x) _ two.0 (all_joined test xs ys two.1 second)

all_rows : (names : List Ident) (ls : List Limit) → list_all (λ l. list_all (fits_row names) (forms_of_limit (nameless_limit names [] l))) ls ≡ true
    → list_all (fits_row names) (flat_map forms_of_limit (map (nameless_limit names []) ls)) ≡ true
all_rows names [] fit = refl
all_rows names (l ∷ ls) fit =
    let two = both (list_all (fits_row names) (forms_of_limit (nameless_limit names [] l))) _ fit in
    all_joined (fits_row names) (forms_of_limit (nameless_limit names [] l)) _ two.0 (all_rows names ls two.1)

all_shapes : (names : List Ident) (ps : List Param) → AllByRecursion (λ p. NarrowShape p.shape) ps → list_all (λ p. shape_fits (param_shape names p)) ps ≡ true
all_shapes names [] narrow = refl
all_shapes names (p ∷ ps) (here, more) = and_true (shape_fits (param_shape names p)) _ (here names []) (all_shapes names ps more)

pub is_header : (f : Function) → IsNarrowHeader f → IsHeader f
is_header f narrow = record {
  few_ints = omega (arith, narrow.few_names);
  few_hyps = let few = few_forms f.bound.names f.bound.limits in omega (arith, few, narrow.few_limits);
  limits = narrow.limits f.bound.names [];
  rows = all_rows f.bound.names f.bound.limits (narrow.rows f.bound.names);
  shapes = all_shapes f.bound.names f.params narrow.shapes;
}
