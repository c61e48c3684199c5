-- A variable has the shape that is its own.
use Rattle.std.proofs.Common.{◌≡◌, ℕ, ℤ, Bool, true, false, not, ◌&&◌, if◌then◌else◌, nat_eq, List, [], ◌∷◌, Result, Ok, refl, sym, ap, ◌∙◌, arith}
use Rattle.std.specs.Ordering.{int_eq}
use Rattle.std.specs.Cmp.Lexicographic.{pointwise}
use Rattle.std.proofs.lemmas.Bool.Decides.{Decides-int_eq, nat_tests}
use Rattle.core_language.specs.Names.{Ident, same}
use Rattle.core_language.specs.Terms.{Relation, AtMost, Less, Same}
use Rattle.linear_forms.proofs.SameNames.{same-self}
use Rattle.outline_language.specs.LinearForms.{Var, Free, Inside, Multiple, LinearForm, minus, same_var, same_multiple, same_form}
use Rattle.outline_language.specs.Nameless.{Ref, Limit, Shape, Res, Resources, Unit, Int, End, Pair, Sum, Binds, NoMore, More, same_bool, same_relation, same_limit, same_ref, same_shape, same_res, same_resources}
use Rattle.outline_language.specs.Contexts.{Why, WrongForm, Context, Cursor, provided, equate, equate_all, oblige_all, and_then}
use Rattle.outline_language.specs.Giving.{accept}
use Rattle.helper_outlines.proofs.Steps.{chain, holds}

both : (a b : Bool) → a ≡ true → b ≡ true → a && b ≡ true
both a b p q = ap (λ c. c && b) p ∙ q

nat_self : (n : ℕ) → nat_eq n n ≡ true
nat_self n = grind (arith, nat_tests)

int_self : (z : ℤ) → int_eq z z ≡ true
int_self z = (Decides-int_eq z z).1 refl

-- a list is like itself where each of its elements is
pointwise_self : {A : Type 0} (like : A → A → Bool) → ((a : A) → like a a ≡ true) → (xs : List A) → pointwise like xs xs ≡ true
pointwise_self like each [] = refl
pointwise_self like each (x ∷ xs) = both (like x x) (pointwise like xs xs) (each x) (pointwise_self like each xs)

bool_self : (b : Bool) → same_bool b b ≡ true
bool_self true = refl
bool_self false = refl

var_self : (v : Var) → same_var v v ≡ true
var_self (Free i) = nat_self i
var_self (Inside i) = nat_self i

multiple_self : (m : Multiple) → same_multiple m m ≡ true
multiple_self m = both (same_var m.0 m.0) (int_eq m.1 m.1) (var_self m.0) (int_self m.1)

pub form_self : (f : LinearForm) → same_form f f ≡ true
form_self f = both (pointwise same_multiple f.multiples f.multiples) (int_eq f.constant f.constant) (pointwise_self same_multiple multiple_self f.multiples) (int_self f.constant)

relation_self : (r : Relation) → same_relation r r ≡ true
relation_self AtMost = refl
relation_self Less = refl
relation_self Same = refl

limit_self : (l : Limit) → same_limit l l ≡ true
limit_self l = both (same_form l.left l.left && same_relation l.relation l.relation) (same_form l.right l.right)
    (both (same_form l.left l.left) (same_relation l.relation l.relation) (form_self l.left) (relation_self l.relation)) (form_self l.right)

ref_self : (e : Ref) → same_ref e e ≡ true
ref_self e = both (same_bool e.dual e.dual && same e.name e.name) (pointwise same_form e.args e.args)
    (both (same_bool e.dual e.dual) (same e.name e.name) (bool_self e.dual) (same-self e.name)) (pointwise_self same_form form_self e.args)

mutual
  pub shape_self : (s : Shape) → same_shape s s ≡ true
  shape_self Unit = refl
  shape_self (Int f) = form_self f
  shape_self (End e) = ref_self e
  shape_self (Pair r s) = both (same_res r r) (same_res s s) (res_self r) (res_self s)
  shape_self (Sum rs) = resources_self rs

  res_self : (r : Res) → same_res r r ≡ true
  res_self (Binds n limits s) = both (nat_eq n n && pointwise same_limit limits limits) (same_shape s s)
      (both (nat_eq n n) (pointwise same_limit limits limits) (nat_self n) (pointwise_self same_limit limit_self limits)) (shape_self s)

  resources_self : (rs : Resources) → same_resources rs rs ≡ true
  resources_self NoMore = refl
  resources_self (More r rs) = both (same_res r r) (same_resources rs rs) (res_self r) (resources_self rs)

-- ---- acceptance

equals_itself : (ctx : Context) (f : LinearForm) (cursor : Cursor) → equate ctx f f cursor ≡ Ok cursor
equals_itself ctx f cursor = ap (λ b. if b then Ok cursor else oblige_all ctx (minus f f ∷ minus f f ∷ []) cursor) (form_self f)

equal_themselves : (ctx : Context) (fs : List LinearForm) (cursor : Cursor) → equate_all ctx fs fs cursor ≡ Ok cursor
equal_themselves ctx [] cursor = refl
equal_themselves ctx (f ∷ fs) cursor = chain (equate ctx f f cursor) (equate_all ctx fs fs) cursor cursor (equals_itself ctx f cursor) (equal_themselves ctx fs cursor)

pub accepts_itself : (ctx : Context) (shape : Shape) (cursor : Cursor) → accept ctx shape shape cursor ≡ Ok cursor
accepts_itself ctx Unit cursor = refl
accepts_itself ctx (Int f) cursor = equals_itself ctx f cursor
accepts_itself ctx (End e) cursor =
    chain (provided (same_bool e.dual e.dual && same e.name e.name) WrongForm cursor) (equate_all ctx e.args e.args) cursor cursor
    (holds (same_bool e.dual e.dual && same e.name e.name) WrongForm cursor (both (same_bool e.dual e.dual) (same e.name e.name) (bool_self e.dual) (same-self e.name)))
    (equal_themselves ctx e.args cursor)
accepts_itself ctx (Pair r s) cursor = holds (same_shape (Pair r s) (Pair r s)) WrongForm cursor (shape_self (Pair r s))
accepts_itself ctx (Sum rs) cursor = holds (same_shape (Sum rs) (Sum rs)) WrongForm cursor (shape_self (Sum rs))
