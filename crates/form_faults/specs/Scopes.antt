-- The names in scope, what they stand for, and the faults of a name that is bound or used.
use Rattle.std.specs.Prelude.{ℕ, Bool, true, false, is_some, if◌then◌else◌, nat_eq, List, [], ◌∷◌, ◌++◌, map, Option, Some, None}
use Rattle.std.specs.List.{list_any}
use Rattle.core_language.specs.Names.{Ident, same}
use Rattle.chan_base.specs.declared.spans.Span.{Span}
use Rattle.form_faults.specs.declared.faults.IllKind.TheVariants as kind
use Rattle.form_faults.specs.declared.faults.Ill.{Ill}
use Rattle.form_faults.specs.declared.sorts.Sort.{Sort}
use Rattle.form_faults.specs.declared.sorts.Sort.TheVariants as sort
use Rattle.form_faults.specs.declared.sorts.Naming.{Naming}
use Rattle.form_faults.specs.declared.sorts.Naming.TheVariants as naming
use Rattle.form_faults.specs.declared.sorts.Known.{Known}
use Rattle.form_faults.specs.Faults.{of_name, nowhere, past}

-- what the first with this name has
abbrev pub found : {E X : Type 0} → (E → Ident) → (E → X) → List E → Ident → Option X
found name what [] x = None
found name what (e ∷ es) x = if same (name e) x then Some (what e) else found name what es x

-- what a name stands for, where it is in scope: the names are in the order in which they were bound
unfoldable pub sort_of : List Known → Ident → Option Sort
sort_of scope x = found (λ k. k.name) (λ k. k.sort) scope x

-- ---- using a name

-- whether a name of this sort may stand there
abbrev pub allows : Naming → Sort → Bool
allows naming.Variables sort.Variable = true
allows naming.Variables sort.Integer = false
allows naming.Variables sort.Both = true
allows naming.Integers sort.Variable = false
allows naming.Integers sort.Integer = true
allows naming.Integers sort.Both = true
allows naming.Either sort.Variable = true
allows naming.Either sort.Integer = true
allows naming.Either sort.Both = true

abbrev pub is_usable : Naming → Option Sort → Bool
is_usable naming None = false
is_usable naming (Some its) = allows naming its

-- Unscoped, where the name isn't in scope or its sort may not stand there
unfoldable pub unscoped : Naming → List Known → Ident → Span → List Ill
unscoped naming scope x span = if is_usable naming (sort_of scope x) then [] else of_name kind.Unscoped x span

-- ---- binding names

-- a name that is bound at a span
pub record Binder : Type 0 where
  pub name : Ident
  pub sort : Sort
  pub span : Span

-- Twice, where the name is in scope already
unfoldable pub twice : List Known → Ident → Span → List Ill
twice scope x span = if is_some (sort_of scope x) then of_name kind.Twice x span else []

-- a name that is in scope already stays what it is
unfoldable pub bind : List Known → Ident → Sort → List Known
bind scope x its = if is_some (sort_of scope x) then scope else scope ++ record { name = x; sort = its } ∷ []

-- the names are bound one after another
unfoldable pub bind_all : List Known → List Binder → List Known
bind_all scope [] = scope
bind_all scope (b ∷ bs) = bind_all (bind scope b.name b.sort) bs

unfoldable pub twice_all : List Known → List Binder → List Ill
twice_all scope [] = []
twice_all scope (b ∷ bs) = twice scope b.name b.span ++ twice_all (bind scope b.name b.sort) bs

-- names with the spans of their tokens
unfoldable pub binders : Sort → List Ident → List Span → List Binder
binders its [] spans = []
binders its (x ∷ xs) [] = record { name = x; sort = its; span = nowhere } ∷ binders its xs []
binders its (x ∷ xs) (s ∷ ss) = record { name = x; sort = its; span = s } ∷ binders its xs ss

-- ---- lists of binders

-- no text has a name with a dot: a list with one is made from the text
abbrev pub has_dot : Ident → Bool
has_dot x = list_any (nat_eq 46) x

-- how many names, and how many limits, a list of binders may have
abbrev pub most_of : List Ident → ℕ
most_of names = if list_any has_dot names then 32 else 16

-- TooMany at the first name past so many
abbrev pub names_past : ℕ → List Binder → List Ill
names_past most bs = past most (map (λ b. b.span) bs)
