-- Contexts, and what rules do with them: each operation has an answer, or the first reason why it has none.
use Rattle.std.specs.Prelude.{ℕ, zero, suc, pos, int_le, Bool, true, false, not, ◌&&◌, if◌then◌else◌, nat_eq, nat_lt, nat_le, List, [], ◌∷◌, ◌++◌, map, flat_map, length, Option, Some, None, is_some, slice_get, unwrap_or, Result, Ok, Err}
use Rattle.std.specs.List.{list_all, range_with_len}
use Rattle.std.specs.Option.{option_map}
use Rattle.std.specs.Ordering.{int_eq}
use Rattle.core_language.specs.Names.{Ident, same}
use Rattle.core_language.specs.Terms.{Term}
use Rattle.core_language.specs.Operands.{Mention, Pat, Proof}
use Rattle.core_language.specs.Programs.{Function}
use Rattle.farkas_check.specs.declared.cert.Row.{Row}
use Rattle.farkas_check.specs.declared.cert.Mention.{Mention as Mentioned}
use Rattle.farkas_check.specs.declared.cert.CertFault.{CertFault}
use Rattle.farkas_check.specs.Certificates.{faults, verdict}
use Rattle.linear_forms.specs.Normal.{names_of, row_fits}
use Rattle.linear_forms.specs.Substitution.{place_of}
use Rattle.outline_language.specs.LinearForms.{Free, LinearForm, constant_form, variable_form, form_of_term, form_fits, same_form, minus, row_of}
use Rattle.outline_language.specs.Nameless.{Limit, Shape, Res, Int, Binds, nameless_limit, nameless_shape, limit_with, shape_with, res_with, shape_fits, res_fits, has_end, forms_of_limit}

-- why a rule fails
pub data Why : Type 0 where
  NotHeld : Ident → Why
  WrongForm : Why
  Left : Ident → Why
  InstanceCount : Why
  CertCount : Why
  NotProved : (number : ℕ) → CertFault → Why
  TooLarge : Why
  ForkForm : Why
  BranchNotProved : (number : ℕ) → CertFault → Why

-- one after the other: the first reason decides
abbrev pub and_then : {A B : Type 0} → Result A Why → (A → Result B Why) → Result B Why
and_then (Ok a) go = go a
and_then (Err why) go = Err why

-- what is there, or a reason
abbrev pub or_why : {A : Type 0} → Option A → Why → Result A Why
or_why None why = Err why
or_why (Some a) why = Ok a

-- what comes of a test that holds, or the reason why it doesn't
abbrev pub provided : {A : Type 0} → Bool → Why → A → Result A Why
provided true why a = Ok a
provided false why a = Err why

-- the answer of a test that holds
abbrev pub nothing : Unit {0}
nothing = tt

-- a program variable: its shape, and whether it is held
pub record Entry : Type 0 where
  pub name : Ident
  pub shape : Shape
  pub held : Bool

-- the integer variables in order, the rows that are at most 0, and the entries in the order in which they were bound
pub record Context : Type 0 where
  pub ints : List Ident
  pub hyps : List Row
  pub entries : List Entry

-- ---- meaning

-- the integer of a shape that is one
abbrev pub int_of : Shape → Option LinearForm
int_of (Int form) = Some form
int_of _ = None

-- the first entry with this name
abbrev pub entry_named : List Entry → Ident → Option Entry
entry_named [] x = None
entry_named (e ∷ es) x = if same e.name x then Some e else entry_named es x

-- the integer variable with this name
abbrev pub variable_in : List Ident → Ident → Option LinearForm
variable_in ints x = option_map (λ i. variable_form (Free i)) (place_of ints x)

abbrev pub int_entry : Option Entry → Option LinearForm → Option LinearForm
int_entry None other = other
int_entry (Some e) other = int_of e.shape

-- the integer that a name stands for: the one that a program variable is, else an integer variable
abbrev pub integer_named : Context → Ident → Option LinearForm
integer_named ctx x = int_entry (entry_named ctx.entries x) (variable_in ctx.ints x)

-- a form whose numbers 64 bits hold
abbrev pub formed : LinearForm → Result LinearForm Why
formed form = provided (form_fits form) TooLarge form

-- the normal form of a term, whose program variables stand for their integers: each is one, and then the numbers fit
abbrev pub meaning : Context → Term → Result LinearForm Why
meaning ctx term =
    if list_all (λ x. is_some (integer_named ctx x)) (names_of term)
    then formed (form_of_term (λ x. unwrap_or (integer_named ctx x) (constant_form (pos 0))) term)
    else Err WrongForm

-- one after the other
abbrev pub meanings : Context → List Term → Result (List LinearForm) Why
meanings ctx [] = Ok []
meanings ctx (t ∷ ts) = and_then (meaning ctx t) (λ form. and_then (meanings ctx ts) (λ forms. Ok (form ∷ forms)))

-- ---- obligations: why a certificate is refused is the caller's to say, on a path or elsewhere

-- instances and certificates of a proof, and how many of each were taken
pub record Cursor : Type 0 where
  pub proof : Proof
  pub instance : ℕ
  pub cert : ℕ

abbrev pub start_of : Proof → Cursor
start_of proof = record { proof = proof; instance = 0; cert = 0 }

-- a constant at most 0
abbrev pub asks_nothing : Row → Bool
asks_nothing row = list_all (λ c. int_eq c (pos 0)) row.coefficients && int_le row.constant (pos 0)

abbrev pub mentioned : Mention → Mentioned
mentioned m = record { factor = m.factor; index = m.index }

-- a certificate that is valid is spent
abbrev pub tried : (ℕ → CertFault → Why) → Cursor → Result (Unit {0}) CertFault → Result Cursor Why
tried refused cursor (Ok _) = Ok (record cursor { cert = suc cursor.cert })
tried refused cursor (Err fault) = Err (refused cursor.cert fault)

-- the next certificate shows that the row is at most 0
abbrev pub shown : (ℕ → CertFault → Why) → List Row → Row → Cursor → Result Cursor Why
shown refused hyps row cursor =
    and_then (or_why (slice_get cursor.proof.certs cursor.cert) CertCount) (λ cert.
    tried refused cursor (verdict (faults cert.divisor (map mentioned cert.mentions) hyps row)))

-- a constant at most 0 takes no certificate
abbrev pub row_shown : (ℕ → CertFault → Why) → List Row → Row → Cursor → Result Cursor Why
row_shown refused hyps row cursor = if asks_nothing row then Ok cursor else shown refused hyps row cursor

-- the row of a form, where 64 bits hold its numbers
abbrev pub row_formed : (variables : ℕ) → LinearForm → Result Row Why
row_formed variables form = provided (row_fits (row_of variables form)) TooLarge (row_of variables form)

-- the form is at most 0: first its row, then what that asks for
abbrev pub oblige : (ℕ → CertFault → Why) → Context → LinearForm → Cursor → Result Cursor Why
oblige refused ctx form cursor = and_then (row_formed (length ctx.ints) form) (λ row. row_shown refused ctx.hyps row cursor)

-- each is at most 0, in order
abbrev pub oblige_all : Context → List LinearForm → Cursor → Result Cursor Why
oblige_all ctx [] cursor = Ok cursor
oblige_all ctx (f ∷ fs) cursor = and_then (oblige NotProved ctx f cursor) (oblige_all ctx fs)

-- two integers are equal: the same forms are; of others the first isn't more, nor the second
abbrev pub equate : Context → (first second : LinearForm) → Cursor → Result Cursor Why
equate ctx s t cursor = if same_form s t then Ok cursor else oblige_all ctx (minus s t ∷ minus t s ∷ []) cursor

-- one by one; lists of two lengths aren't equal
abbrev pub equate_all : Context → (first second : List LinearForm) → Cursor → Result Cursor Why
equate_all ctx [] [] cursor = Ok cursor
equate_all ctx (s ∷ ss) (t ∷ ts) cursor = and_then (equate ctx s t cursor) (equate_all ctx ss ts)
equate_all ctx _ _ cursor = Err WrongForm

-- ---- instances

-- instances for binders, and what is left of the proof
pub record Supplied : Type 0 where
  pub forms : List LinearForm
  pub cursor : Cursor

-- an instance that is there, and then its meaning
abbrev pub next_instance : Context → Cursor → Result LinearForm Why
next_instance ctx cursor = and_then (or_why (slice_get cursor.proof.instances cursor.instance) InstanceCount) (meaning ctx)

-- so many instances, each with its meaning
abbrev pub take_instances : Context → ℕ → Cursor → Result Supplied Why
take_instances ctx zero cursor = Ok (record { forms = []; cursor = cursor })
take_instances ctx (suc n) cursor =
    and_then (next_instance ctx cursor) (λ form.
    and_then (take_instances ctx n (record cursor { instance = suc cursor.instance })) (λ rest.
    Ok (record { forms = form ∷ rest.forms; cursor = rest.cursor })))

-- an instance for each binder, and then each row of the limits with the instances put in
abbrev pub instances : Context → ℕ → List Limit → Cursor → Result Supplied Why
instances ctx binders limits cursor =
    and_then (take_instances ctx binders cursor) (λ taken.
    and_then (oblige_all ctx (flat_map (λ l. forms_of_limit (limit_with taken.forms 0 l)) limits) taken.cursor) (λ after.
    Ok (record { forms = taken.forms; cursor = after })))

-- instances put into a shape or a resource, where there are some: 64 bits hold the numbers of each term then
abbrev pub put_in_shape : List LinearForm → Shape → Result Shape Why
put_in_shape [] shape = Ok shape
put_in_shape (f ∷ fs) shape = provided (shape_fits (shape_with (f ∷ fs) 0 shape)) TooLarge (shape_with (f ∷ fs) 0 shape)

abbrev pub put_in_res : List LinearForm → Res → Result Res Why
put_in_res [] res = Ok res
put_in_res (f ∷ fs) res = provided (res_fits (res_with (f ∷ fs) 0 res)) TooLarge (res_with (f ∷ fs) 0 res)

-- no instance is left, and then no certificate
abbrev pub leftovers : Cursor → Result (Unit {0}) Why
leftovers cursor =
    and_then (provided (nat_le (length cursor.proof.instances) cursor.instance) InstanceCount nothing) (λ _.
    provided (nat_le (length cursor.proof.certs) cursor.cert) CertCount nothing)

-- ---- entries

-- what a name had, and what is there without it
pub record Taken : Type 0 where
  pub shape : Shape
  pub context : Context

-- an end that is taken is no longer held
abbrev pub without : Ident → List Entry → List Entry
without x [] = []
without x (e ∷ es) = if same e.name x then (record e { held = not (has_end e.shape) } ∷ es) else (e ∷ without x es)

-- the shape of an entry that is there and held
abbrev pub held_shape : Option Entry → Option Shape
held_shape None = None
held_shape (Some e) = if e.held then Some e.shape else None

-- a shape with an end is taken away, another one is copied
abbrev pub take : Context → Ident → Result Taken Why
take ctx x =
    and_then (or_why (held_shape (entry_named ctx.entries x)) (NotHeld x)) (λ shape.
    Ok (record { shape = shape; context = record ctx { entries = without x ctx.entries } }))

-- a new entry behind the others
abbrev pub hold : Context → Ident → Shape → Context
hold ctx x shape = record ctx { entries = ctx.entries ++ record { name = x; shape = shape; held = true } ∷ [] }

-- no held entry has an end
abbrev pub nothing_left : List Entry → Result (Unit {0}) Why
nothing_left [] = Ok nothing
nothing_left (e ∷ es) = and_then (provided (not (e.held && has_end e.shape)) (Left e.name) nothing) (λ _. nothing_left es)

-- ---- integer variables and hypotheses

-- how many integer variables, and how many hypotheses, a context may have
abbrev pub most : ℕ
most = 256

abbrev pub add_int : Context → Ident → Result Context Why
add_int ctx x = provided (nat_lt (length ctx.ints) most) TooLarge (record ctx { ints = ctx.ints ++ x ∷ [] })

abbrev pub add_ints : Context → List Ident → Result Context Why
add_ints ctx [] = Ok ctx
add_ints ctx (x ∷ xs) = and_then (add_int ctx x) (λ more. add_ints more xs)

-- a hypothesis is added also where it is a constant
abbrev pub add_hyp : Context → LinearForm → Result Context Why
add_hyp ctx form =
    and_then (row_formed (length ctx.ints) form) (λ row. provided (nat_lt (length ctx.hyps) most) TooLarge (record ctx { hyps = ctx.hyps ++ row ∷ [] }))

abbrev pub add_hyps : Context → List LinearForm → Result Context Why
add_hyps ctx [] = Ok ctx
add_hyps ctx (f ∷ fs) = and_then (add_hyp ctx f) (λ more. add_hyps more fs)

-- so many integer variables, the first of them at this place
abbrev pub variables_from : (place many : ℕ) → List LinearForm
variables_from place many = map (λ i. variable_form (Free i)) (range_with_len place many)

-- the names of a pattern become integer variables for the binders of the resource, its limits hypotheses, and the name the value
abbrev pub bind : Context → Pat → Res → Result Context Why
bind ctx pat (Binds n limits shape) =
    and_then (provided (nat_eq (length pat.names) n) InstanceCount nothing) (λ _.
    and_then (add_ints ctx pat.names) (λ with_ints.
    and_then (add_hyps with_ints (flat_map (λ l. forms_of_limit (limit_with (variables_from (length ctx.ints) n) 0 l)) limits)) (λ with_hyps.
    and_then (put_in_shape (variables_from (length ctx.ints) n) shape) (λ here. Ok (hold with_hyps pat.name here)))))

-- the context in which a function begins: its binders, the rows of its limits, and its parameters, all held
abbrev pub start : Function → Context
start f = record {
  ints = f.bound.names;
  hyps = map (row_of (length f.bound.names)) (flat_map (λ l. forms_of_limit (nameless_limit f.bound.names [] l)) f.bound.limits);
  entries = map (λ p. record { name = p.name; shape = nameless_shape f.bound.names [] p.shape; held = true }) f.params;
}
