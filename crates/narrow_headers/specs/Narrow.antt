-- Headers and protocols whose numbers 64 bits hold, whatever integer variables and binders there are.
use Rattle.std.specs.Prelude.{◌≡◌, ℕ, ◌≤◌, true, List, [], map, length, Some}
use Rattle.std.specs.List.{list_all, AllByRecursion}
use Rattle.core_language.specs.Names.{Ident}
use Rattle.core_language.specs.Terms.{Term, Limit}
use Rattle.core_language.specs.Resources.{Shape, Res, Proto}
use Rattle.core_language.specs.Programs.{Function}
use Rattle.linear_forms.specs.Normal.{row_fits}
use Rattle.outline_language.specs.LinearForms.{form_fits, row_of}
use Rattle.outline_language.specs.Nameless.{nameless_term, nameless_limit, nameless_shape, nameless_res, limit_fits, shape_fits, res_fits, forms_of_limit}
use Rattle.outline_language.specs.Equations.{Direction, Fork, fork_of, written_message}

abbrev pub NarrowTerm : Term → Type 0
NarrowTerm t = (ints around : List Ident) → form_fits (nameless_term ints around t) ≡ true

abbrev pub NarrowLimits : List Limit → Type 0
NarrowLimits limits = (ints around : List Ident) → list_all limit_fits (map (nameless_limit ints around) limits) ≡ true

abbrev pub NarrowTerms : List Term → Type 0
NarrowTerms ts = (ints around : List Ident) → list_all form_fits (map (nameless_term ints around) ts) ≡ true

abbrev pub NarrowShape : Shape → Type 0
NarrowShape shape = (ints around : List Ident) → shape_fits (nameless_shape ints around shape) ≡ true

abbrev pub NarrowRes : Res → Type 0
NarrowRes res = (ints around : List Ident) → res_fits (nameless_res ints around res) ≡ true

-- the rows of limits over these integer variables
abbrev pub NarrowRows : List Limit → Type 0
NarrowRows limits =
    (ints : List Ident) → list_all (λ l. list_all (λ g. row_fits (row_of (length ints) g)) (forms_of_limit (nameless_limit ints [] l))) limits ≡ true

-- how many binders, and how many limits, a list of binders has at most
abbrev pub most : ℕ
most = 32

pub record IsNarrowHeader (f : Function) : Type 0 where
  pub few_names : length f.bound.names ≤ most
  pub few_limits : length f.bound.limits ≤ most
  pub limits : NarrowLimits f.bound.limits
  pub rows : NarrowRows f.bound.limits
  pub shapes : AllByRecursion (λ p. NarrowShape p.shape) f.params
  pub result : NarrowRes f.result

pub record IsNarrowFork (fork : Fork) : Type 0 where
  pub left : NarrowTerm fork.left
  pub right : NarrowTerm fork.right
  pub this : NarrowTerms fork.this.args
  pub other : NarrowTerms fork.other.args

pub record IsNarrowProtocol (p : Proto) : Type 0 where
  pub forks : (fork : Fork) → fork_of p.equation ≡ Some fork → IsNarrowFork fork
  pub messages : (m : Direction × Res) → written_message p.equation ≡ Some m → NarrowRes m.1
