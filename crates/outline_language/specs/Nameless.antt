-- Shapes and resources whose binders have no names: a bound variable is counted outwards, so that
-- two resources with the same normal form up to the names of binders are one.
use Rattle.std.specs.Prelude.{ℕ, pos, ◌+◌, ◌-◌, Bool, true, false, not, ◌&&◌, ◌||◌, if◌then◌else◌, nat_eq, nat_lt, List, [], ◌∷◌, ◌++◌, map, length, Option, Some, None, slice_get, unwrap_or}
use Rattle.std.specs.List.{list_all}
use Rattle.std.specs.Cmp.Lexicographic.{pointwise}
use Rattle.core_language.specs.Names.{Ident, same}
use Rattle.core_language.specs.Terms.{Term, Relation, AtMost, Less, Same, Limit as WrittenLimit}
use Rattle.core_language.specs.Resources as written
use Rattle.linear_forms.specs.Substitution.{place_of}
use Rattle.outline_language.specs.LinearForms.{Var, Free, Inside, LinearForm, constant_form, variable_form, minus, plus_one, form_of_term, put_form, form_fits, same_form}

-- a protocol at some arguments, or its dual
pub record Ref : Type 0 where
  pub dual : Bool
  pub name : Ident
  pub args : List LinearForm

pub record Limit : Type 0 where
  pub left : LinearForm
  pub relation : Relation
  pub right : LinearForm

mutual
  pub data Shape : Type 0 where
    Unit : Shape
    Int : LinearForm → Shape
    End : Ref → Shape
    Pair : Res → Res → Shape
    Sum : Resources → Shape

  -- so many integers within limits, and a shape that may name them
  pub data Res : Type 0 where
    Binds : (binders : ℕ) → List Limit → Shape → Res

  -- the resources of a sum, one for each arm
  pub data Resources : Type 0 where
    NoMore : Resources
    More : Res → Resources → Resources

-- the resource of the arm with this number, counted from 0
abbrev pub resource_at : Resources → ℕ → Option Res
resource_at NoMore number = None
resource_at (More res more) number = if nat_eq number 0 then Some res else resource_at more (number - 1)

abbrev pub dual_ref : Ref → Ref
dual_ref ref = record { dual = not ref.dual; name = ref.name; args = ref.args }

-- the dual, where the mark is set
abbrev pub turned_if : Bool → Ref → Ref
turned_if mark ref = if mark then dual_ref ref else ref

-- ---- reading: integer variables are given by their names, in order, and so are the binders around a place, the innermost first

-- the variable at a place, where there is one
abbrev pub at_place : Option ℕ → LinearForm → (ℕ → Var) → LinearForm
at_place None other variable = other
at_place (Some i) other variable = variable_form (variable i)

-- the innermost binder with a name, else the integer variable; a name that stands nowhere counts nothing
abbrev pub named_form : (ints around : List Ident) → Ident → LinearForm
named_form ints around x = at_place (place_of around x) (at_place (place_of ints x) (constant_form (pos 0)) Free) Inside

abbrev pub nameless_term : (ints around : List Ident) → Term → LinearForm
nameless_term ints around t = form_of_term (named_form ints around) t

abbrev pub nameless_limit : (ints around : List Ident) → WrittenLimit → Limit
nameless_limit ints around limit = record {
  left = nameless_term ints around limit.left;
  relation = limit.relation;
  right = nameless_term ints around limit.right;
}

abbrev pub nameless_ref : (ints around : List Ident) → written.Ref → Ref
nameless_ref ints around ref = record { dual = ref.dual; name = ref.name; args = map (nameless_term ints around) ref.args }

abbrev mutual
  pub nameless_shape : (ints around : List Ident) → written.Shape → Shape
  nameless_shape ints around written.Unit = Unit
  nameless_shape ints around (written.Int t) = Int (nameless_term ints around t)
  nameless_shape ints around (written.End ref) = End (nameless_ref ints around ref)
  nameless_shape ints around (written.Pair r s) = Pair (nameless_res ints around r) (nameless_res ints around s)
  nameless_shape ints around (written.Sum rs) = Sum (nameless_resources ints around rs)

  pub nameless_res : (ints around : List Ident) → written.Res → Res
  nameless_res ints around (written.Binds b s) =
      Binds (length b.names) (map (nameless_limit ints (b.names ++ around)) b.limits) (nameless_shape ints (b.names ++ around) s)

  pub nameless_resources : (ints around : List Ident) → written.Resources → Resources
  nameless_resources ints around written.NoMore = NoMore
  nameless_resources ints around (written.More r rs) = More (nameless_res ints around r) (nameless_resources ints around rs)

-- ---- instances: forms that stand for the binders around so many others

-- binders within the depth and integer variables stay; of the binders around them the first has the first instance
abbrev pub instance_for : List LinearForm → ℕ → Var → LinearForm
instance_for instances depth (Free x) = variable_form (Free x)
instance_for instances depth (Inside i) =
    if nat_lt i depth then variable_form (Inside i) else unwrap_or (slice_get instances (i - depth)) (variable_form (Inside i))

abbrev pub form_with : List LinearForm → ℕ → LinearForm → LinearForm
form_with instances depth form = put_form (instance_for instances depth) form

abbrev pub limit_with : List LinearForm → ℕ → Limit → Limit
limit_with instances depth limit = record {
  left = form_with instances depth limit.left;
  relation = limit.relation;
  right = form_with instances depth limit.right;
}

abbrev pub ref_with : List LinearForm → ℕ → Ref → Ref
ref_with instances depth ref = record { dual = ref.dual; name = ref.name; args = map (form_with instances depth) ref.args }

abbrev mutual
  pub shape_with : List LinearForm → ℕ → Shape → Shape
  shape_with instances depth Unit = Unit
  shape_with instances depth (Int form) = Int (form_with instances depth form)
  shape_with instances depth (End ref) = End (ref_with instances depth ref)
  shape_with instances depth (Pair r s) = Pair (res_with instances depth r) (res_with instances depth s)
  shape_with instances depth (Sum rs) = Sum (resources_with instances depth rs)

  pub res_with : List LinearForm → ℕ → Res → Res
  res_with instances depth (Binds n limits s) =
      Binds n (map (limit_with instances (n + depth)) limits) (shape_with instances (n + depth) s)

  pub resources_with : List LinearForm → ℕ → Resources → Resources
  resources_with instances depth NoMore = NoMore
  resources_with instances depth (More r rs) = More (res_with instances depth r) (resources_with instances depth rs)

-- ---- tests

-- 64 bits hold each number
abbrev pub limit_fits : Limit → Bool
limit_fits limit = form_fits limit.left && form_fits limit.right

abbrev mutual
  pub shape_fits : Shape → Bool
  shape_fits Unit = true
  shape_fits (Int form) = form_fits form
  shape_fits (End ref) = list_all form_fits ref.args
  shape_fits (Pair r s) = res_fits r && res_fits s
  shape_fits (Sum rs) = resources_fit rs

  pub res_fits : Res → Bool
  res_fits (Binds n limits s) = list_all limit_fits limits && shape_fits s

  pub resources_fit : Resources → Bool
  resources_fit NoMore = true
  resources_fit (More r rs) = res_fits r && resources_fit rs

-- an end stands in it
abbrev mutual
  pub has_end : Shape → Bool
  has_end Unit = false
  has_end (Int form) = false
  has_end (End ref) = true
  has_end (Pair r s) = has_end_inside r || has_end_inside s
  has_end (Sum rs) = have_end rs

  pub has_end_inside : Res → Bool
  has_end_inside (Binds n limits s) = has_end s

  pub have_end : Resources → Bool
  have_end NoMore = false
  have_end (More r rs) = has_end_inside r || have_end rs

-- ---- one normal form up to the names of binders: limits one by one, in their order

abbrev pub same_bool : Bool → Bool → Bool
same_bool a b = if a then b else not b

abbrev pub same_relation : Relation → Relation → Bool
same_relation AtMost AtMost = true
same_relation Less Less = true
same_relation Same Same = true
same_relation _ _ = false

abbrev pub same_limit : Limit → Limit → Bool
same_limit l m = same_form l.left m.left && same_relation l.relation m.relation && same_form l.right m.right

abbrev pub same_ref : Ref → Ref → Bool
same_ref e f = same_bool e.dual f.dual && same e.name f.name && pointwise same_form e.args f.args

abbrev mutual
  pub same_shape : Shape → Shape → Bool
  same_shape Unit Unit = true
  same_shape (Int f) (Int g) = same_form f g
  same_shape (End e) (End f) = same_ref e f
  same_shape (Pair r s) (Pair t u) = same_res r t && same_res s u
  same_shape (Sum rs) (Sum ts) = same_resources rs ts
  same_shape _ _ = false

  pub same_res : Res → Res → Bool
  same_res (Binds n limits s) (Binds m others t) = nat_eq n m && pointwise same_limit limits others && same_shape s t

  pub same_resources : Resources → Resources → Bool
  same_resources NoMore NoMore = true
  same_resources (More r rs) (More t ts) = same_res r t && same_resources rs ts
  same_resources _ _ = false

-- ---- limits

-- what a limit says to be at most 0: an equality says it of both differences
abbrev pub at_most_zero : Relation → LinearForm → LinearForm → List LinearForm
at_most_zero AtMost a b = minus a b ∷ []
at_most_zero Less a b = plus_one (minus a b) ∷ []
at_most_zero Same a b = minus a b ∷ minus b a ∷ []

abbrev pub forms_of_limit : Limit → List LinearForm
forms_of_limit limit = at_most_zero limit.relation limit.left limit.right
