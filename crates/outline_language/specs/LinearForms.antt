-- Linear forms over the integer variables of a context and over binders, as sorted multiples: equal forms are the same.
use Rattle.std.specs.Prelude.{ℕ, ℤ, pos, negsuc, ◌+ℤ◌, ◌*ℤ◌, Bool, false, ◌&&◌, nat_eq, if◌then◌else◌, List, [], ◌∷◌, map, Option, Some, None}
use Rattle.std.specs.List.{list_all, range_with_len}
use Rattle.std.specs.Ordering.{nat_cmp, int_eq}
use Rattle.std.specs.declared.cmp.Ordering.{Ordering}
use Rattle.std.specs.declared.cmp.Ordering.TheVariants.{Less, Equal, Greater}
use Rattle.std.specs.Cmp.Lexicographic.{pointwise}
use Rattle.core_language.specs.Names.{Ident}
use Rattle.core_language.specs.Terms.{Term}
use Rattle.farkas_check.specs.declared.cert.Row.{Row}
use Rattle.linear_forms.specs.Terms.{times_of, unit_at}
use Rattle.linear_forms.specs.Normal.{fits}

-- an integer variable by its place in the context, or a bound one counted outwards
pub data Var : Type 0 where
  Free : ℕ → Var
  Inside : ℕ → Var

-- a variable, and how often it counts
abbrev pub Multiple : Type 0
Multiple = Var × ℤ

-- a sum of multiples and a constant: the variables stand in order, each once and none 0 times,
-- so that two forms with one value everywhere are one form
pub record LinearForm : Type 0 where
  pub multiples : List Multiple
  pub constant : ℤ

-- binders stand before integer variables
abbrev pub variable_order : Var → Var → Ordering
variable_order (Inside i) (Inside j) = nat_cmp i j
variable_order (Inside i) (Free j) = Less
variable_order (Free i) (Inside j) = Greater
variable_order (Free i) (Free j) = nat_cmp i j

abbrev pub same_var : Var → Var → Bool
same_var (Inside i) (Inside j) = nat_eq i j
same_var (Free i) (Free j) = nat_eq i j
same_var _ _ = false

-- ---- sums

-- a multiple before others, unless it counts 0 times
abbrev pub unless_zero : Var → ℤ → List Multiple → List Multiple
unless_zero v z ms = if int_eq z (pos 0) then ms else ((v, z) ∷ ms)

-- one of three, by how two variables stand
abbrev pub by_order : {A : Type 0} → Ordering → (less equal greater : A) → A
by_order Less less equal greater = less
by_order Equal less equal greater = equal
by_order Greater less equal greater = greater

-- the variable so many times more, at its place
abbrev pub add_multiple : Var → ℤ → List Multiple → List Multiple
add_multiple v z [] = unless_zero v z []
add_multiple v z (m ∷ ms) =
    by_order (variable_order v m.0) (unless_zero v z (m ∷ ms)) (unless_zero v (z +ℤ m.1) ms) (m ∷ add_multiple v z ms)

-- each of the first multiples so many times, added to the second
abbrev pub add_multiples : ℤ → List Multiple → List Multiple → List Multiple
add_multiples weight [] ns = ns
add_multiples weight (m ∷ ms) ns = add_multiple m.0 (weight *ℤ m.1) (add_multiples weight ms ns)

-- the first form some times, and the second
abbrev pub add_times : ℤ → LinearForm → LinearForm → LinearForm
add_times weight f g = record {
  multiples = add_multiples weight f.multiples g.multiples;
  constant = (weight *ℤ f.constant) +ℤ g.constant;
}

abbrev pub constant_form : ℤ → LinearForm
constant_form z = record { multiples = []; constant = z }

abbrev pub variable_form : Var → LinearForm
variable_form v = record { multiples = (v, pos 1) ∷ []; constant = pos 0 }

-- the first form less the second
abbrev pub minus : LinearForm → LinearForm → LinearForm
minus f g = add_times (negsuc 0) g f

abbrev pub plus_one : LinearForm → LinearForm
plus_one f = record { multiples = f.multiples; constant = f.constant +ℤ pos 1 }

-- ---- terms

-- what a part of a term counts: the unit, where it has no name
abbrev pub of_name : (Ident → LinearForm) → Option Ident → LinearForm
of_name stands_for None = constant_form (pos 1)
of_name stands_for (Some x) = stands_for x

-- a term, where a form stands for each name
abbrev pub form_of_term : (Ident → LinearForm) → Term → LinearForm
form_of_term stands_for [] = constant_form (pos 0)
form_of_term stands_for (p ∷ ps) = add_times (times_of p) (of_name stands_for p.name) (form_of_term stands_for ps)

-- ---- variables for which forms stand

-- for each variable its form, as often as the variable counts
abbrev pub put_multiples : (Var → LinearForm) → ℤ → List Multiple → LinearForm
put_multiples put constant [] = constant_form constant
put_multiples put constant (m ∷ ms) = add_times m.1 (put m.0) (put_multiples put constant ms)

abbrev pub put_form : (Var → LinearForm) → LinearForm → LinearForm
put_form put form = put_multiples put form.constant form.multiples

-- ---- values and tests

-- what a form is where the variables have these values
abbrev pub multiples_at : (Var → ℤ) → List Multiple → ℤ
multiples_at at [] = pos 0
multiples_at at (m ∷ ms) = (m.1 *ℤ at m.0) +ℤ multiples_at at ms

abbrev pub form_at : (Var → ℤ) → LinearForm → ℤ
form_at at form = multiples_at at form.multiples +ℤ form.constant

-- 64 bits hold each number of the form: the normal form of a term with this value fits
abbrev pub form_fits : LinearForm → Bool
form_fits form = list_all (λ m. fits m.1) form.multiples && fits form.constant

-- as the forms stand in order, the same numbers are the same value
abbrev pub same_multiple : Multiple → Multiple → Bool
same_multiple m n = same_var m.0 n.0 && int_eq m.1 n.1

abbrev pub same_form : LinearForm → LinearForm → Bool
same_form f g = pointwise same_multiple f.multiples g.multiples && int_eq f.constant g.constant

-- ---- rows

-- values of integer variables alone, by their places
abbrev pub free_values : (ℕ → ℤ) → Var → ℤ
free_values values (Free i) = values i
free_values values (Inside i) = pos 0

-- how often a form counts each of so many integer variables, and the constant
abbrev pub row_of : (variables : ℕ) → LinearForm → Row
row_of variables form = record {
  coefficients = map (λ i. multiples_at (free_values (unit_at i)) form.multiples) (range_with_len 0 variables);
  constant = form.constant;
}
