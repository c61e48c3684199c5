-- The faults of terms, limits, binders and references.
use Rattle.std.specs.Prelude.{ℕ, nat_eq, if◌then◌else◌, length, map, List, [], ◌∷◌, ◌++◌, Option, Some, None, unwrap_or}
use Rattle.core_language.specs.Names.{Ident}
use Rattle.chan_base.specs.declared.spans.Span.{Span}
use Rattle.chan_syntax.specs.declared.linear.Part.{Part}
use Rattle.chan_syntax.specs.declared.linear.Term.{Term}
use Rattle.chan_syntax.specs.declared.linear.Limit.{Limit}
use Rattle.chan_syntax.specs.declared.linear.Bound.{Bound}
use Rattle.chan_syntax.specs.declared.resources.Ref.{Ref}
use Rattle.chan_syntax.specs.Reading.{term_of, limit_of}
use Rattle.form_faults.specs.declared.faults.IllKind.TheVariants as kind
use Rattle.form_faults.specs.declared.faults.Ill.{Ill}
use Rattle.form_faults.specs.declared.sorts.Sort.TheVariants as sort
use Rattle.form_faults.specs.declared.sorts.Naming.{Naming}
use Rattle.form_faults.specs.declared.sorts.Naming.TheVariants as naming
use Rattle.form_faults.specs.declared.sorts.Known.{Known}
use Rattle.form_faults.specs.declared.signatures.Signature.{Signature}
use Rattle.form_faults.specs.Faults.{of_name, past, unless}
use Rattle.form_faults.specs.Scopes.{found, unscoped, Binder, binders, bind_all, twice_all, most_of, names_past}
use Rattle.narrow_terms.specs.Numbers.{is_narrow, is_narrow_limit}

-- ---- terms

abbrev pub name_faults : Naming → List Known → Option Ident → Span → List Ill
name_faults may scope None span = []
name_faults may scope (Some x) span = unscoped may scope x span

unfoldable pub part_faults : Naming → List Known → Span → Part → List Ill
part_faults may scope span part = name_faults may scope part.name (unwrap_or part.name_span span)

unfoldable pub parts_faults : Naming → List Known → Span → List Part → List Ill
parts_faults may scope span [] = []
parts_faults may scope span (p ∷ ps) = part_faults may scope span p ++ parts_faults may scope span ps

-- a term that may name variables of these sorts
unfoldable pub term_faults : Naming → List Known → Term → List Ill
term_faults may scope term = parts_faults may scope term.span term.parts

unfoldable pub terms_faults : Naming → List Known → List Term → List Ill
terms_faults may scope [] = []
terms_faults may scope (t ∷ ts) = term_faults may scope t ++ terms_faults may scope ts

-- a term of a header, a resource or a protocol: its numbers are within 64 bits, and it names binders and parameters
unfoldable pub fixed_term_faults : List Known → Term → List Ill
fixed_term_faults scope term = unless (is_narrow (term_of term)) term.span ++ term_faults naming.Integers scope term

unfoldable pub fixed_terms_faults : List Known → List Term → List Ill
fixed_terms_faults scope [] = []
fixed_terms_faults scope (t ∷ ts) = fixed_term_faults scope t ++ fixed_terms_faults scope ts

-- ---- binders

-- a limit: so are the numbers of its rows
unfoldable pub limit_faults : List Known → Limit → List Ill
limit_faults scope limit =
    unless (is_narrow_limit (limit_of limit)) limit.left.span ++ (fixed_term_faults scope limit.left ++ fixed_term_faults scope limit.right)

unfoldable pub limits_faults : List Known → List Limit → List Ill
limits_faults scope [] = []
limits_faults scope (l ∷ ls) = limit_faults scope l ++ limits_faults scope ls

unfoldable pub limits_past : ℕ → List Limit → List Ill
limits_past most limits = past most (map (λ l. l.left.span) limits)

abbrev pub bound_binders : Bound → List Binder
bound_binders bound = binders sort.Integer bound.names bound.names_spans

-- the scope of what stands after the binders
unfoldable pub bound_scope : List Known → Bound → List Known
bound_scope scope bound = bind_all scope (bound_binders bound)

-- binders are bound, and then their limits may name them
unfoldable pub bound_faults : List Known → Bound → List Ill
bound_faults scope bound =
    twice_all scope (bound_binders bound)
    ++ (names_past (most_of bound.names) (bound_binders bound) ++ (limits_faults (bound_scope scope bound) bound.limits ++ limits_past (most_of bound.names) bound.limits))

-- ---- references and calls

-- how many parameters a function or protocol has: of two with one name the first counts
unfoldable pub count_of : List Signature → Ident → Option ℕ
count_of signatures name = found (λ s. s.name) (λ s. s.count) signatures name

abbrev pub counted : Option ℕ → Ident → Span → ℕ → List Ill
counted None name span count = of_name kind.UnknownName name span
counted (Some its) name span count = if nat_eq its count then [] else of_name kind.Arity name span

-- UnknownName, or Arity where it takes another count
unfoldable pub use_faults : List Signature → Ident → Span → ℕ → List Ill
use_faults table name span count = counted (count_of table name) name span count

-- a reference of a header, a resource or a protocol
unfoldable pub fixed_ref_faults : List Signature → List Known → Ref → List Ill
fixed_ref_faults protos scope ref = use_faults protos ref.name ref.name_span (length ref.args) ++ fixed_terms_faults scope ref.args

-- a reference of a statement
unfoldable pub ref_faults : List Signature → List Known → Ref → List Ill
ref_faults protos scope ref = use_faults protos ref.name ref.name_span (length ref.args) ++ terms_faults naming.Either scope ref.args
