-- What comes of a letter, and of all letters of a path.
use Rattle.std.proofs.Common.{◌≡◌, inl, inr, ◌++◌, ℕ, ◌+◌, ◌<◌, ◌≤◌, Bool, true, false, if◌then◌else◌, List, [], ◌∷◌, All, map, length, get_or, drop, slice_get, is_some, Option, Some, None, Result, Ok, Err, refl, sym, ◌∙◌, ap, subst, arith}
use Rattle.std.proofs.Math.Seq.{drop-length}
use Rattle.std.proofs.Math.Bool.{false≢true}
use Rattle.std.proofs.lemmas.List.FromFn.{length-map-range_with_len}
use Rattle.std.proofs.lemmas.List.Elements.{All-head, All-tail}
use Rattle.core_language.specs.Names.{Ident}
use Rattle.core_language.specs.Terms.{Term}
use Rattle.core_language.specs.Resources.{Ref, Equation, Proto, Send, Recv, Close, Wait, Branch}
use Rattle.core_language.specs.Operands.{Letter, First, Second, Cert}
use Rattle.farkas_check.specs.declared.cert.Row.{Row}
use Rattle.farkas_check.specs.declared.cert.CertFault.{CertFault}
use Rattle.farkas_check.specs.Certificates.{faults, verdict}
use Rattle.farkas_check.specs.Rows.{IsNarrow}
use Rattle.linear_forms.specs.Terms.{IntVar, coefficient_of, put_of}
use Rattle.linear_forms.specs.Substitution.{Fits, IsNormalPut, IsRefLike}
use Rattle.chan_syntax.specs.Reading.{letter_of}
use Rattle.chan_syntax.specs.declared.operands.Letter as written
use Rattle.substitution.specs.declared.faults.SubstFault.{SubstFault}
use Rattle.substitution.specs.declared.faults.SubstFault.TheVariants as cause
use Rattle.protocols.specs.Duals.{dual_equation, turned_if, branches_of}
use Rattle.outline_language.specs.Equations.{dual_written, proto_named}
use Rattle.protocols.specs.Heads.{equation_of_end, on_way}
use Rattle.protocols.specs.Unfolding.{Setting, Fault, asked_term, asked_row, taken, shown, obligation, IsFormed, Outcome, On, Stop, Steps, Follows, HasEquationAt, HasArity, AreFormed, picked, picked_at, goes_on, has_form, branch_terms, NamesOnly, Found, HasFormed, IsMessageTooLarge, Unfolds}
use Rattle.outline_language.specs.Contexts.{asks_nothing, mentioned}
use Rattle.protocols.specs.Unfolding as spec
use Rattle.protocols.specs.FaultsOf.{IsFault, fault_of}
use Rattle.protocols.specs.declared.faults.UnfoldFault.{UnfoldFault}
use Rattle.protocols.specs.declared.faults.UnfoldFault.TheVariants as answer
use Rattle.protocols.proofs.Letters.{drop_next, form_step}
use Rattle.protocols.proofs.Followed.{next_arity, picked_arity, arity_of_end}

-- ---- faults

pub fault_to : (P Q : Fault → Type 0) (f : UnfoldFault) → ((fault : Fault) → P fault → Q fault) → IsFault P f → IsFault Q f
fault_to P Q answer.WrongForm k h = k spec.WrongForm h
fault_to P Q answer.CertCount k h = k spec.CertCount h
fault_to P Q (answer.BranchNotProved n e) k h = k (spec.BranchNotProved n e) h
fault_to P Q answer.TooLarge k h = k spec.TooLarge h
fault_to P Q answer.Memory k h = h

pub large_fault : (P : Fault → Type 0) (e : SubstFault) → (e ≡ cause.TooLarge → P spec.TooLarge) → IsFault P (fault_of e)
large_fault P cause.TooLarge h = h refl
large_fault P cause.Memory h = tt

-- ---- obligations

-- no obligation fails so
abbrev IsOther : Fault → Type 0
IsOther spec.WrongForm = ⊥
IsOther spec.TooLarge = ⊥
IsOther _ = Unit {0}

taken_other : (used : ℕ) (r : Result (Unit {0}) CertFault) (fault : Fault) → taken used r ≡ Err fault → IsOther fault
taken_other used (Ok x) fault e = absurd cc
taken_other used (Err f) fault e = let is : spec.BranchNotProved used f ≡ fault = cc in subst IsOther is tt

shown_other : (hyps : List Row) (row : Row) (used : ℕ) (o : Option Cert) (fault : Fault) → shown hyps row used o ≡ Err fault → IsOther fault
shown_other hyps row used None fault e = let is : spec.CertCount ≡ fault = cc in subst IsOther is tt
shown_other hyps row used (Some cert) fault e = taken_other used (verdict (faults cert.divisor (map mentioned cert.mentions) hyps row)) fault e

obligation_other : (s : Setting) (used : ℕ) (row : Row) (fault : Fault) → obligation s used row ≡ Err fault → IsOther fault
obligation_other s used row fault e = pick (asks_nothing row) e
  where
    pick : (b : Bool) → (if b then Ok used else shown s.hyps row used (slice_get s.certs used)) ≡ Err fault → IsOther fault
    pick true f = absurd cc
    pick false f = shown_other s.hyps row used (slice_get s.certs used) fault f

-- ---- one letter

on_way_turned : (d : Bool) (letter : Letter) (this other : Ref) → on_way letter (turned_if d this) (turned_if d other) ≡ turned_if d (on_way letter this other)
on_way_turned d First this other = refl
on_way_turned d Second this other = refl

branch_of_end : (d : Bool) (proto : Proto) (left right : Term) (this other : Ref) → proto.equation ≡ Branch left right this other → equation_of_end d proto ≡ Branch left right (turned_if d this) (turned_if d other)
branch_of_end true proto left right this other e = ap dual_equation e
branch_of_end false proto left right this other e = e

args_turned : (d : Bool) (r : Ref) → (turned_if d r).args ≡ r.args
args_turned true r = refl
args_turned false r = refl

module _ (s : Setting) (used : ℕ) (ref : Ref) (proto : Proto) (letter : Letter) (left right : Term) (this other : Ref) (named : proto_named ref.name s.protos ≡ Some proto) (is : proto.equation ≡ Branch left right this other) where
  has : HasEquationAt s.protos ref proto (Branch left right (turned_if ref.dual this) (turned_if ref.dual other))
  has = (named, branch_of_end ref.dual proto left right this other is)

  pub stepped : (picked next : Ref) (more : ℕ) → IsFormed s (put_of proto.params ref.args) letter left right → obligation s used (asked_row s (put_of proto.params ref.args) letter left right) ≡ Ok more → picked ≡ on_way letter this other → IsRefLike (IsNormalPut (put_of proto.params ref.args)) [] [] (turned_if ref.dual picked) next → Steps s used ref letter (On next more)
  stepped picked next more formed met way like =
      let same : turned_if ref.dual picked ≡ on_way letter (turned_if ref.dual this) (turned_if ref.dual other) = ap (turned_if ref.dual) way ∙ sym (on_way_turned ref.dual letter this other) in
      (proto, left, right, turned_if ref.dual this, turned_if ref.dual other, has, (formed, met, subst (λ (r : Ref). IsRefLike (IsNormalPut (put_of proto.params ref.args)) [] [] r next) same like))

  pub row_too_large : (IsFormed s (put_of proto.params ref.args) letter left right → ⊥) → Steps s used ref letter (Stop spec.TooLarge)
  row_too_large none = (proto, left, right, turned_if ref.dual this, turned_if ref.dual other, has, inl none)

  pub not_met : (fault : Fault) → IsFormed s (put_of proto.params ref.args) letter left right → obligation s used (asked_row s (put_of proto.params ref.args) letter left right) ≡ Err fault → Steps s used ref letter (Stop fault)
  not_met fault formed e = by fault (obligation_other s used (asked_row s (put_of proto.params ref.args) letter left right) fault e) e
    where
      by : (fault : Fault) → IsOther fault → obligation s used (asked_row s (put_of proto.params ref.args) letter left right) ≡ Err fault → Steps s used ref letter (Stop fault)
      by spec.WrongForm o f = absurd o
      by spec.CertCount o f = (proto, left, right, turned_if ref.dual this, turned_if ref.dual other, has, (formed, f))
      by (spec.BranchNotProved n c) o f = (proto, left, right, turned_if ref.dual this, turned_if ref.dual other, has, (formed, f))
      by spec.TooLarge o f = absurd o

  pub end_too_large : (more : ℕ) → IsFormed s (put_of proto.params ref.args) letter left right → obligation s used (asked_row s (put_of proto.params ref.args) letter left right) ≡ Ok more → (All (Fits (put_of proto.params ref.args) []) (on_way letter this other).args → ⊥) → Steps s used ref letter (Stop spec.TooLarge)
  end_too_large more formed met none =
      let same : (on_way letter (turned_if ref.dual this) (turned_if ref.dual other)).args ≡ (on_way letter this other).args = ap (λ (r : Ref). r.args) (on_way_turned ref.dual letter this other) ∙ args_turned ref.dual (on_way letter this other) in
      (proto, left, right, turned_if ref.dual this, turned_if ref.dual other, has, inr (formed, (more, met), λ fit. none (subst (λ (ts : List Term). All (Fits (put_of proto.params ref.args) []) ts) same fit)))

-- the next end has as many arguments as its protocol has parameters
pub step_arity : (s : Setting) (used more : ℕ) (ref next : Ref) (letter : Letter) → AreFormed s.protos → Steps s used ref letter (On next more) → HasArity s.protos next
step_arity s used more ref next letter formed (proto, left, right, this, other, at, takes) =
    let arities : All (HasArity s.protos) (branches_of (Branch left right this other)) = subst (λ (e : Equation). All (HasArity s.protos) (branches_of e)) at.1 (arity_of_end s.protos ref.dual proto (formed.arity ref.name proto at.0)) in
    next_arity s.protos proto.params ref.args (on_way letter this other) next takes.2 (picked_arity s.protos letter left right this other arities)

-- ---- the form of a path

goes_some : (again : Ident → Bool) (o : Option Ref) → goes_on again o ≡ true → is_some o ≡ true
goes_some again None e = absurd (false≢true e)
goes_some again (Some r) e = refl

-- a path of this form goes on
pub letter_goes : (protos : List Proto) (letters : List written.Letter) (i : ℕ) (d : written.Letter) (name : Ident) → i < length letters → has_form protos (map letter_of (drop i letters)) name ≡ true → is_some (picked_at (letter_of (get_or letters i d)) (proto_named name protos)) ≡ true
letter_goes protos letters i d name h e = goes_some (λ x. has_form protos (map letter_of (drop (i + 1) letters)) x) (picked_at (letter_of (get_or letters i d)) (proto_named name protos)) (sym (form_step protos letters i d name h) ∙ e)

name_turned : (d : Bool) (letter : Letter) (this other : Ref) → (on_way letter (dual_written this) (dual_written other)).name ≡ (on_way letter this other).name
name_turned d First this other = refl
name_turned d Second this other = refl

picked_name : (again : Ident → Bool) (d : Bool) (letter : Letter) (e : Equation) (left right : Term) (this other : Ref) → (if d then dual_equation e else e) ≡ Branch left right this other → goes_on again (picked letter e) ≡ again (on_way letter this other).name
picked_name again true letter (Send res next) left right this other h = absurd cc
picked_name again true letter (Recv res next) left right this other h = absurd cc
picked_name again true letter Close left right this other h = absurd cc
picked_name again true letter Wait left right this other h = absurd cc
picked_name again true letter (Branch l r t o) left right this other h =
    let first : dual_written t ≡ this = cc in
    let second : dual_written o ≡ other = cc in
    subst (λ (x : Ref). again (on_way letter t o).name ≡ again (on_way letter x other).name) first (subst (λ (y : Ref). again (on_way letter t o).name ≡ again (on_way letter (dual_written t) y).name) second (ap again (sym (name_turned true letter t o))))
picked_name again false letter e left right this other h = ap (λ (x : Equation). goes_on again (picked letter x)) h

-- and the rest of it has this form
pub step_form : (s : Setting) (letters : List written.Letter) (i : ℕ) (d : written.Letter) (used more : ℕ) (ref next : Ref) → i < length letters → has_form s.protos (map letter_of (drop i letters)) ref.name ≡ true → Steps s used ref (letter_of (get_or letters i d)) (On next more) → has_form s.protos (map letter_of (drop (i + 1) letters)) next.name ≡ true
step_form s letters i d used more ref next h e (proto, left, right, this, other, at, takes) =
    let again : Ident → Bool = λ x. has_form s.protos (map letter_of (drop (i + 1) letters)) x in
    let letter : Letter = letter_of (get_or letters i d) in
    let at_proto : goes_on again (picked letter proto.equation) ≡ true = sym (ap (λ (o : Option Proto). goes_on again (picked_at letter o)) at.0) ∙ sym (form_step s.protos letters i d ref.name h) ∙ e in
    let name : goes_on again (picked letter proto.equation) ≡ again (on_way letter this other).name = picked_name again ref.dual letter proto.equation left right this other at.1 in
    ap again (sym takes.2.name) ∙ sym name ∙ at_proto

-- ---- all letters

-- what has been followed so far: whatever comes of the rest comes of the whole
abbrev pub Leads : Setting → Ref → List Letter → ℕ → Ref → List Letter → Type 0
Leads s from letters used ref rest = (outcome : Outcome) → Follows s used ref rest outcome → Follows s 0 from letters outcome

pub leads_on : (s : Setting) (from : Ref) (letters : List Letter) (path : List written.Letter) (i : ℕ) (d : written.Letter) (used more : ℕ) (ref next : Ref) → i < length path → Leads s from letters used ref (map letter_of (drop i path)) → Steps s used ref (letter_of (get_or path i d)) (On next more) → Leads s from letters more next (map letter_of (drop (i + 1) path))
leads_on s from letters path i d used more ref next h leads step = λ outcome rest.
    leads outcome (subst (λ (l : List written.Letter). Follows s used ref (map letter_of l) outcome) (sym (drop_next path i d h)) (inr (next, more, step, rest)))

leads_to_stop : (s : Setting) (from : Ref) (letters : List Letter) (path : List written.Letter) (i : ℕ) (d : written.Letter) (used : ℕ) (ref : Ref) (fault : Fault) → i < length path → Leads s from letters used ref (map letter_of (drop i path)) → Steps s used ref (letter_of (get_or path i d)) (Stop fault) → Follows s 0 from letters (Stop fault)
leads_to_stop s from letters path i d used ref fault h leads step =
    leads (Stop fault) (subst (λ (l : List written.Letter). Follows s used ref (map letter_of l) (Stop fault)) (sym (drop_next path i d h)) (inl (fault, refl, step)))

pub stop_fault : (s : Setting) (from : Ref) (letters : List Letter) (path : List written.Letter) (i : ℕ) (d : written.Letter) (used : ℕ) (ref : Ref) (f : UnfoldFault) → i < length path → Leads s from letters used ref (map letter_of (drop i path)) → IsFault (λ fault. Steps s used ref (letter_of (get_or path i d)) (Stop fault)) f → IsFault (λ fault. Follows s 0 from letters (Stop fault)) f
stop_fault s from letters path i d used ref f h leads failed =
    fault_to (λ fault. Steps s used ref (letter_of (get_or path i d)) (Stop fault)) (λ fault. Follows s 0 from letters (Stop fault)) f (λ fault step. leads_to_stop s from letters path i d used ref fault h leads step) failed

pub none_left : (path : List written.Letter) (i : ℕ) → i ≤ length path → length path ≤ i → drop i path ≡ []
none_left path i h k = let e : i ≡ length path = omega arith in rw (e, drop-length path) refl

pub leads_to_end : (s : Setting) (from : Ref) (letters : List Letter) (path : List written.Letter) (i : ℕ) (used : ℕ) (ref : Ref) → i ≤ length path → length path ≤ i → Leads s from letters used ref (map letter_of (drop i path)) → Follows s 0 from letters (On ref used)
leads_to_end s from letters path i used ref h k leads =
    leads (On ref used) (subst (λ (l : List written.Letter). Follows s used ref (map letter_of l) (On ref used)) (sym (none_left path i h k)) refl)

pub stops_at_end : (protos : List Proto) (path : List written.Letter) (i : ℕ) (name : Ident) → i ≤ length path → length path ≤ i → has_form protos (map letter_of (drop i path)) name ≡ true → spec.stops (proto_named name protos) ≡ true
stops_at_end protos path i name h k e = subst (λ (l : List written.Letter). has_form protos (map letter_of l) name ≡ true) (none_left path i h k) e

-- ---- the whole

step_other : (s : Setting) (used : ℕ) (ref : Ref) (letter : Letter) → Steps s used ref letter (Stop spec.WrongForm) → ⊥
step_other s used ref letter (proto, left, right, this, other, equation, takes) = obligation_other s used (asked_row s (put_of proto.params ref.args) letter left right) spec.WrongForm takes.1

follows_other : (s : Setting) (used : ℕ) (ref : Ref) (letters : List Letter) → Follows s used ref letters (Stop spec.WrongForm) → ⊥
follows_other s used ref [] e = absurd cc
follows_other s used ref (letter ∷ letters) (inl (fault, e, step)) =
    let is : fault ≡ spec.WrongForm = cc in
    step_other s used ref letter (subst (λ (f : Fault). Steps s used ref letter (Stop f)) is step)
follows_other s used ref (letter ∷ letters) (inr (next, more, step, rest)) = follows_other s more next letters rest

-- a path of this form that isn't followed
pub not_followed : (s : Setting) (ref : Ref) (letters : List Letter) (fault : Fault) → has_form s.protos letters ref.name ≡ true → Follows s 0 ref letters (Stop fault) → Unfolds s ref letters (Err fault)
not_followed s ref letters spec.WrongForm form f = absurd (follows_other s 0 ref letters f)
not_followed s ref letters spec.CertCount form f = (form, f)
not_followed s ref letters (spec.BranchNotProved n c) form f = (form, f)
not_followed s ref letters spec.TooLarge form f = (form, inl f)

-- ---- the terms of an `if` equation

pub left_named : (protos : List Proto) (x : Ident) (proto : Proto) (left right : Term) (this other : Ref) → AreFormed protos → proto_named x protos ≡ Some proto → proto.equation ≡ Branch left right this other → NamesOnly proto.params left
left_named protos x proto left right this other formed named is =
    All-head (NamesOnly proto.params) left (right ∷ this.args ++ other.args) (subst (λ (e : Equation). All (NamesOnly proto.params) (branch_terms e)) is (formed.named x proto named))

pub right_named : (protos : List Proto) (x : Ident) (proto : Proto) (left right : Term) (this other : Ref) → AreFormed protos → proto_named x protos ≡ Some proto → proto.equation ≡ Branch left right this other → NamesOnly proto.params right
right_named protos x proto left right this other formed named is =
    All-head (NamesOnly proto.params) right (this.args ++ other.args) (All-tail (NamesOnly proto.params) left (right ∷ this.args ++ other.args) (subst (λ (e : Equation). All (NamesOnly proto.params) (branch_terms e)) is (formed.named x proto named)))

-- a row that is asked for has as many coefficients as there are integer variables
pub asked_narrow : (s : Setting) (put : List IntVar) (letter : Letter) (left right : Term) (row : Row) → length s.ints ≤ 256 → row ≡ asked_row s put letter left right → IsNarrow row
asked_narrow s put letter left right row h e =
    rw (e, length-map-range_with_len (coefficient_of (record { ints = s.ints; vars = put }) (asked_term letter left right)) 0 (length s.ints)) h

-- the arguments of the reference that is picked are too large
pub args_large : (put : List IntVar) (r q : Ref) → r ≡ q → (All (Fits put []) r.args → ⊥) → All (Fits put []) q.args → ⊥
args_large put r q e none fit = none (subst (λ (x : Ref). All (Fits put []) x.args) (sym e) fit)
