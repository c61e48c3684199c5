-- Under what an end is followed, as the definitions have it.
use Rattle.std.specs.Prelude.{◌≡◌, ◌≤◌, ℕ, [], List, All, Option, Result, length, map}
use Rattle.farkas_check.specs.Rows.{IsNarrow}
use Rattle.chan_syntax.specs.Bounds.{IsBounded}
use Rattle.chan_syntax.specs.Reading.{proto_of, cert_of}
use Rattle.core_language.specs.Names.{Ident}
use Rattle.core_language.specs.Resources.{Equation, Branch}
use Rattle.core_language.specs.Resources as written
use Rattle.farkas_check.specs.declared.cert.Row.{Row}
use Rattle.chan_syntax.specs.declared.resources.Proto.{Proto}
use Rattle.chan_syntax.specs.declared.operands.WrittenCert.{WrittenCert}
use Rattle.chan_syntax.specs.Reading.{term_of, ref_of, letter_of}
use Rattle.chan_syntax.specs.declared.linear.Term.{Term}
use Rattle.chan_syntax.specs.declared.operands.Letter.{Letter}
use Rattle.chan_syntax.specs.declared.resources.Ref.{Ref}
use Rattle.linear_forms.specs.Terms.{IntVar, put_of}
use Rattle.linear_forms.specs.Substitution.{Fits, IsNormalPut, IsRefLike}
use Rattle.outline_language.specs.Equations.{proto_named}
use Rattle.protocols.specs.Duals.{turned_if}
use Rattle.protocols.specs.Unfolding.{AreFormed, Fault, Found, Outcome}
use Rattle.protocols.specs.Unfolding as spec
use Rattle.protocols.specs.declared.asking.Setting.{Setting}

abbrev pub under : List Proto → List Ident → List Row → List WrittenCert → spec.Setting
under protos ints hyps certs = record { protos = map proto_of protos; ints = ints; hyps = hyps; certs = map cert_of certs }

abbrev pub setting_of : Setting → spec.Setting
setting_of s = under s.protos.now s.ints.now s.hyps.now s.certs.now

-- what is known of it
pub record IsReady (s : Setting) : Type 0 where
  pub protos : AreFormed (map proto_of s.protos.now)
  pub ints : length s.ints.now ≤ 256
  pub hyps : All IsNarrow s.hyps.now
  pub certs : All IsBounded s.certs.now

-- ---- words of the calls

-- the arguments stand for the parameters
abbrev pub put_as : (params : List Ident) → (args : List Term) → List IntVar
put_as params args = put_of params (map term_of args)

-- 64 bits hold the term, once they are put in
abbrev pub FitsAs : (params : List Ident) → (args : List Term) → Term → Type 0
FitsAs params args term = Fits (put_as params args) [] (term_of term)

-- and all arguments of a reference
abbrev pub ArgumentsFit : (params : List Ident) → (end picked : Ref) → Type 0
ArgumentsFit params end picked = All (Fits (put_as params end.args) []) (map term_of picked.args)

-- an `if` equation
abbrev pub branch_of : (left right : Term) → (this other : Ref) → Equation
branch_of left right this other = Branch (term_of left) (term_of right) (ref_of this) (ref_of other)

-- the row that a letter asks for
abbrev pub asked_as : Setting → (params : List Ident) → (args : List Term) → Letter → (left right : Term) → Row
asked_as s params args letter left right = spec.asked_row (setting_of s) (put_as params args) (letter_of letter) (term_of left) (term_of right)

-- 64 bits hold both terms of the equation, and the row
abbrev pub IsFormedAs : Setting → (params : List Ident) → (args : List Term) → Letter → (left right : Term) → Type 0
IsFormedAs s params args letter left right = spec.IsFormed (setting_of s) (put_as params args) (letter_of letter) (term_of left) (term_of right)

-- the reference that was picked, with the arguments put in, or its dual
abbrev pub IsNext : (params : List Ident) → (end picked next : Ref) → Type 0
IsNext params end picked next = IsRefLike (IsNormalPut (put_as params end.args)) [] [] (turned_if end.dual (ref_of picked)) (ref_of next)

-- the reference that a letter picks of the protocol with this name
abbrev pub picked_in : Setting → Letter → Ident → Option written.Ref
picked_in s letter name = spec.picked_at (letter_of letter) (proto_named name (setting_of s).protos)

-- a letter leads to this
abbrev pub StepsAs : Setting → (used : ℕ) → (end : Ref) → Letter → Outcome → Type 0
StepsAs s used end letter outcome = spec.Steps (setting_of s) used (ref_of end) (letter_of letter) outcome

-- letters lead to this
abbrev pub FollowsAs : Setting → (from : Ref) → List Letter → Outcome → Type 0
FollowsAs s from path outcome = spec.Follows (setting_of s) 0 (ref_of from) (map letter_of path) outcome

-- unfolding answers this
abbrev pub UnfoldsAs : spec.Setting → (from : Ref) → List Letter → Result Found Fault → Type 0
UnfoldsAs s from path answer = spec.Unfolds s (ref_of from) (map letter_of path) answer

-- where the hypotheses are true, it is the head of the end
abbrev pub IsTheHeadAs : spec.Setting → (from : Ref) → List Letter → Found → Type 0
IsTheHeadAs s from path found = spec.IsTheHead s (ref_of from) (map letter_of path) found
