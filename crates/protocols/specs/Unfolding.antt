-- How an end is followed past `if` equations, and the message that it has there.
use Rattle.std.specs.Prelude.{◌≡◌, ◌⊎◌, ℕ, suc, ◌≤◌, ℤ, pos, ◌≤ℤ◌, int_le, Bool, true, false, ◌&&◌, not, if◌then◌else◌, List, [], ◌∷◌, ◌++◌, All, map, length, slice_get, Option, Some, None, Result, Ok, Err}
use Rattle.std.specs.List.{list_all, list_any}
use Rattle.std.specs.Ordering.{int_eq}
use Rattle.core_language.specs.Names.{Ident, same}
use Rattle.core_language.specs.Terms.{Part, Term}
use Rattle.core_language.specs.Resources.{Ref, Res, Equation, Proto, Branch}
use Rattle.core_language.specs.Operands.{Letter, First, Second, Cert}
use Rattle.core_language.specs.Operands as operand
use Rattle.farkas_check.specs.declared.cert.Row.{Row}
use Rattle.farkas_check.specs.declared.cert.Mention.{Mention}
use Rattle.farkas_check.specs.declared.cert.CertFault.{CertFault}
use Rattle.farkas_check.specs.Certificates.{faults, verdict}
use Rattle.farkas_check.specs.Rows.{value_at}
use Rattle.outline_language.specs.Contexts.{asks_nothing, mentioned}
use Rattle.linear_forms.specs.Terms.{IntVar, by_place, normal_form, less, one, put_of}
use Rattle.linear_forms.specs.Normal.{row_fits, names_of}
use Rattle.linear_forms.specs.Substitution.{Var, Free, Inside, sum_under, Scoped, Fits, AnyNames, OnTerms, IsNormalPut, IsRefLike, IsResLike, IsSubst, AllFit, terms_of_res}
use Rattle.protocols.specs.Duals.{Message, message_of, branches_of}
use Rattle.outline_language.specs.Equations.{Direction, proto_named}
use Rattle.protocols.specs.Heads.{Head, HasHead, argument, concrete, equation_of_end, on_way}

-- why an end isn't followed, or its message not formed
pub data Fault : Type 0 where
  WrongForm : Fault
  CertCount : Fault
  BranchNotProved : ℕ → CertFault → Fault
  TooLarge : Fault

-- ---- the form of a path

abbrev pub ends_here : Equation → Bool
ends_here (Branch left right this other) = false
ends_here _ = true

-- where a letter goes on
abbrev pub picked : Letter → Equation → Option Ref
picked letter (Branch left right this other) = Some (on_way letter this other)
picked letter _ = None

abbrev pub picked_at : Letter → Option Proto → Option Ref
picked_at letter None = None
picked_at letter (Some proto) = picked letter proto.equation

abbrev pub goes_on : (Ident → Bool) → Option Ref → Bool
goes_on again None = false
goes_on again (Some ref) = again ref.name

abbrev pub stops : Option Proto → Bool
stops None = false
stops (Some proto) = ends_here proto.equation

-- one letter for each `if` equation on the way from this protocol
abbrev pub has_form : List Proto → List Letter → Ident → Bool
has_form protos [] name = stops (proto_named name protos)
has_form protos (letter ∷ letters) name = goes_on (λ x. has_form protos letters x) (picked_at letter (proto_named name protos))

-- ---- one letter

-- under what an end is followed
pub record Setting : Type 0 where
  pub protos : List Proto
  pub ints : List Ident
  pub hyps : List Row
  pub certs : List Cert

-- what a letter asks to be at most 0: the left term is at most the right one, or greater
abbrev pub asked_term : Letter → Term → Term → Term
asked_term First left right = less left right
asked_term Second left right = one ∷ less right left

abbrev pub asked_row : Setting → List IntVar → Letter → Term → Term → Row
asked_row s put letter left right = normal_form (record { ints = s.ints; vars = put }) (asked_term letter left right)

-- how many certificates are taken after one was tried, where so many were taken before
abbrev pub taken : ℕ → Result (Unit {0}) CertFault → Result ℕ Fault
taken used (Ok _) = Ok (suc used)
taken used (Err fault) = Err (BranchNotProved used fault)

abbrev pub shown : List Row → Row → ℕ → Option Cert → Result ℕ Fault
shown hyps row used None = Err CertCount
shown hyps row used (Some cert) = taken used (verdict (faults cert.divisor (map mentioned cert.mentions) hyps row))

abbrev pub obligation : Setting → ℕ → Row → Result ℕ Fault
obligation s used row = if asks_nothing row then Ok used else shown s.hyps row used (slice_get s.certs used)

-- 64 bits hold both terms of the equation, and the row that the letter asks for
pub record IsFormed (s : Setting) (put : List IntVar) (letter : Letter) (left right : Term) : Type 0 where
  pub left_fits : Fits put [] left
  pub right_fits : Fits put [] right
  pub asked_fits : row_fits (asked_row s put letter left right) ≡ true

-- where a path leads: to an end, with so many certificates taken, or to a fault
pub data Outcome : Type 0 where
  On : Ref → ℕ → Outcome
  Stop : Fault → Outcome

-- what comes of a letter: first the row, then its obligation, then the reference that it picks
abbrev pub Takes : Setting → ℕ → List IntVar → Letter → (left right : Term) → Ref → Outcome → Type 0
Takes s used put letter left right picked (On next more) =
    IsFormed s put letter left right × (obligation s used (asked_row s put letter left right) ≡ Ok more) × IsRefLike (IsNormalPut put) [] [] picked next
Takes s used put letter left right picked (Stop TooLarge) =
    (IsFormed s put letter left right → ⊥)
    ⊎ (IsFormed s put letter left right × ((more : ℕ) × (obligation s used (asked_row s put letter left right) ≡ Ok more)) × (All (Fits put []) picked.args → ⊥))
Takes s used put letter left right picked (Stop fault) =
    IsFormed s put letter left right × (obligation s used (asked_row s put letter left right) ≡ Err fault)

-- ---- a path

-- the end's equation is this one
abbrev pub HasEquationAt : List Proto → Ref → Proto → Equation → Type 0
HasEquationAt protos ref proto equation = (proto_named ref.name protos ≡ Some proto) × (equation_of_end ref.dual proto ≡ equation)

-- what comes of a letter at an end
abbrev pub Steps : Setting → ℕ → Ref → Letter → Outcome → Type 0
Steps s used ref letter outcome =
    (proto : Proto) × (left right : Term) × (this other : Ref) × HasEquationAt s.protos ref proto (Branch left right this other)
    × Takes s used (put_of proto.params ref.args) letter left right (on_way letter this other) outcome

-- what comes of the letters, one after the other
abbrev pub Follows : Setting → ℕ → Ref → List Letter → Outcome → Type 0
Follows s used ref [] outcome = outcome ≡ On ref used
Follows s used ref (letter ∷ letters) outcome =
    ((fault : Fault) × (outcome ≡ Stop fault) × Steps s used ref letter (Stop fault))
    ⊎ ((next : Ref) × (more : ℕ) × Steps s used ref letter (On next more) × Follows s more next letters outcome)

-- ---- the message

-- the message of the end, and the terms for its names
abbrev pub HasMessage : List Proto → Ref → Message → List IntVar → Type 0
HasMessage protos ref message put =
    (proto : Proto) × (equation : Equation) × HasEquationAt protos ref proto equation × (message_of equation ≡ Some message) × (put ≡ put_of proto.params ref.args)

-- the message of the end with the terms put in, and its direction
abbrev pub HasFormed : List Proto → Ref → Direction → Res → Type 0
HasFormed protos ref direction res =
    (message : Message) × (put : List IntVar) × HasMessage protos ref message put × (direction ≡ message.direction) × IsSubst put message.res res

abbrev pub IsMessageTooLarge : List Proto → Ref → Type 0
IsMessageTooLarge protos ref =
    (message : Message) × (put : List IntVar) × HasMessage protos ref message put × (AllFit put (terms_of_res [] message.res) → ⊥)

-- a message that is formed, and how many certificates were taken
pub record Found : Type 0 where
  pub direction : Direction
  pub res : Res
  pub used : ℕ

abbrev pub FormsMessage : Setting → Ref → List Letter → Found → Type 0
FormsMessage s ref letters found =
    (last : Ref) × Follows s 0 ref letters (On last found.used) × HasFormed s.protos last found.direction found.res

abbrev pub MessageTooLarge : Setting → Ref → List Letter → Type 0
MessageTooLarge s ref letters =
    (last : Ref) × (used : ℕ) × Follows s 0 ref letters (On last used) × IsMessageTooLarge s.protos last

-- what unfolding answers: first the form of the path, then its letters, then the message
abbrev pub Unfolds : Setting → Ref → List Letter → Result Found Fault → Type 0
Unfolds s ref letters (Err WrongForm) = has_form s.protos letters ref.name ≡ false
Unfolds s ref letters (Err TooLarge) = (has_form s.protos letters ref.name ≡ true) × (Follows s 0 ref letters (Stop TooLarge) ⊎ MessageTooLarge s ref letters)
Unfolds s ref letters (Err fault) = (has_form s.protos letters ref.name ≡ true) × Follows s 0 ref letters (Stop fault)
Unfolds s ref letters (Ok found) = (has_form s.protos letters ref.name ≡ true) × FormsMessage s ref letters found

-- ---- protocols that are well formed

-- each name of the term is one of these
abbrev pub NamesOnly : List Ident → Term → Type 0
NamesOnly params term = All (λ x. list_any (λ p. same p x) params ≡ true) (names_of term)

-- each name of the term is a binder around it, or one of these
abbrev pub NamesUnder : List Ident → Scoped → Type 0
NamesUnder params s = NamesOnly (s.binders ++ params) s.term

-- the terms of an `if` equation
abbrev pub branch_terms : Equation → List Term
branch_terms (Branch left right this other) = left ∷ right ∷ this.args ++ other.args
branch_terms _ = []

-- the terms of the message
abbrev pub message_terms : Option Message → List Scoped
message_terms None = []
message_terms (Some message) = terms_of_res [] message.res

-- the reference has as many terms as its protocol has parameters
abbrev pub HasArity : List Proto → Ref → Type 0
HasArity protos ref = (proto : Proto) → proto_named ref.name protos ≡ Some proto → length ref.args ≡ length proto.params

-- terms name parameters and binders around them, and references have as many terms as there are parameters
pub record AreFormed (protos : List Proto) : Type 0 where
  pub named : (x : Ident) (proto : Proto) → proto_named x protos ≡ Some proto → All (NamesOnly proto.params) (branch_terms proto.equation)
  pub scoped : (x : Ident) (proto : Proto) → proto_named x protos ≡ Some proto → All (NamesUnder proto.params) (message_terms (message_of proto.equation))
  pub arity : (x : Ident) (proto : Proto) → proto_named x protos ≡ Some proto → All (HasArity protos) (branches_of proto.equation)

-- and no divisor is 0
pub record IsWellFormed (s : Setting) : Type 0 where
  pub protos : AreFormed s.protos
  pub divisors : (k : ℕ) (cert : Cert) → slice_get s.certs k ≡ Some cert → 1 ≤ cert.divisor

-- ---- its laws

-- the hypotheses are true where the integer variables have these values
abbrev pub AreTrue : (ℕ → ℤ) → List Row → Type 0
AreTrue values hyps = All (λ row. value_at values row ≤ℤ pos 0) hyps

-- where the hypotheses are true, the end has the head that it is followed to
abbrev pub FollowsTheWays : Type 0
FollowsTheWays = (s : Setting) (values : ℕ → ℤ) (ref last : Ref) (letters : List Letter) (used : ℕ) (head : Head) → IsWellFormed s → HasArity s.protos ref → AreTrue values s.hyps → Follows s 0 ref letters (On last used) → HasHead s.protos (concrete (by_place s.ints values) last) [] head → HasHead s.protos (concrete (by_place s.ints values) ref) letters head

-- free names have these values, and those of binders by their places
abbrev pub var_at : (Ident → ℤ) → (ℕ → ℤ) → Var → ℤ
var_at free inside (Free x) = free x
var_at free inside (Inside i) = inside i

-- two terms have one value, each with values for its free names, whatever the binders have
abbrev pub HaveOneValue : (Ident → ℤ) → (Ident → ℤ) → OnTerms
HaveOneValue free other before after t u =
    (inside : ℕ → ℤ) → sum_under before [] (pos 1) (var_at free inside) t ≡ sum_under after [] (pos 1) (var_at other inside) u

-- the end has, by the ways of the letters, a head with this direction, whose message the resource is where names have these values
abbrev pub IsHeadAt : List Proto → (Ident → ℤ) → Ref → List Letter → Direction → Res → Type 0
IsHeadAt protos at ref letters direction res =
    (head : Head) × HasHead protos (concrete at ref) letters head × (head.message.direction ≡ direction)
    × IsResLike AnyNames (HaveOneValue (argument head.params head.args) at) [] [] head.message.res res

-- where the hypotheses are true, it is the head of the end
abbrev pub IsTheHead : Setting → Ref → List Letter → Found → Type 0
IsTheHead s ref letters found =
    (values : ℕ → ℤ) → AreTrue values s.hyps → IsHeadAt s.protos (by_place s.ints values) ref letters found.direction found.res

-- what unfolding answers is the head where the hypotheses are true
abbrev pub FindsTheHead : Type 0
FindsTheHead = (s : Setting) (ref : Ref) (letters : List Letter) (found : Found) → IsWellFormed s → HasArity s.protos ref → Unfolds s ref letters (Ok found) → IsTheHead s ref letters found
