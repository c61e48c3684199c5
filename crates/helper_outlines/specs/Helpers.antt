-- What a function that sends for a session is, and that it is outlined.
use Rattle.std.specs.Prelude.{◌≡◌, ℕ, suc, pos, codes, Bool, true, false, if◌then◌else◌, List, [], ◌∷◌, ◌++◌, map, flat_map, length, Option, Some, None, Result, Ok}
use Rattle.core_language.specs.Names.{Ident, same}
use Rattle.core_language.specs.Terms.{Term}
use Rattle.core_language.specs.Resources as written
use Rattle.core_language.specs.Operands.{Letter, Cert, Proof, Supply}
use Rattle.core_language.specs.Operands as supply
use Rattle.core_language.specs.Programs.{Span, Body, Send1, Ret, Function, Program}
use Rattle.farkas_check.specs.declared.cert.Row.{Row}
use Rattle.linear_forms.specs.Substitution.{place_of}
use Rattle.outline_language.specs.LinearForms.{Free, LinearForm, variable_form}
use Rattle.outline_language.specs.Nameless.{Ref, Limit, Shape, Res, End, Pair, Binds, turned_if, nameless_term, nameless_ref, nameless_shape, form_with, limit_with, ref_with, forms_of_limit}
use Rattle.outline_language.specs.Contexts.{asks_nothing, formed, row_formed, put_in_shape, start}
use Rattle.outline_language.specs.Paths.{is_path, asked, formed_ref, message_at}
use Rattle.outline_language.specs.Equations.{Sends, Fork, fork_of, on_way, proto_named, no_bound, bare}
use Rattle.outline_language.specs.Outlined.{OutlinedFunction}

-- ---- certificates

-- {1 #i}
abbrev pub hypothesis : ℕ → Cert
hypothesis i = record { divisor = 1; mentions = record { factor = pos 1; index = i } ∷ [] }

-- each row is shown by the hypothesis that it is, where it asks for a certificate
abbrev pub hypotheses_from : ℕ → List Row → List Cert
hypotheses_from i [] = []
hypotheses_from i (r ∷ rs) = if asks_nothing r then hypotheses_from (suc i) rs else (hypothesis i ∷ hypotheses_from (suc i) rs)

-- ---- the way of a letter

-- the letter leads from one end to another, and asks that a row is at most 0
pub record Turn (protos : List written.Proto) (variables : ℕ) (letter : Letter) (end : Ref) (row : Row) (next : Ref) : Type 0 where
  pub proto : written.Proto
  pub fork : Fork
  pub left : LinearForm
  pub right : LinearForm
  pub picked : Ref
  pub declared : proto_named end.name protos ≡ Some proto
  pub branches : fork_of proto.equation ≡ Some fork
  pub left_is : formed (form_with end.args 0 (nameless_term [] proto.params fork.left)) ≡ Ok left
  pub right_is : formed (form_with end.args 0 (nameless_term [] proto.params fork.right)) ≡ Ok right
  pub row_is : row_formed variables (asked letter left right) ≡ Ok row
  pub picks : formed_ref (ref_with end.args 0 (nameless_ref [] proto.params (on_way letter fork))) ≡ Ok picked
  pub next_is : next ≡ turned_if end.dual picked

-- letters lead from one end to another, and each asks for a row
abbrev pub Way : List written.Proto → ℕ → List Letter → (from : Ref) → List Row → (to : Ref) → Type 0
Way protos variables [] from [] to = from ≡ to
Way protos variables [] from (r ∷ rs) to = ⊥
Way protos variables (l ∷ ls) from [] to = ⊥
Way protos variables (l ∷ ls) from (r ∷ rs) to = (next : Ref) × Turn protos variables l from r next × Way protos variables ls next rs to

-- ---- instances

abbrev pub named : Ident → Term
named x = record { negative = false; factor = pos 1; name = Some x } ∷ []

-- a binder of the function, which is none of its parameters
pub record IsBinder (ints : List Ident) (x : Ident) (form : LinearForm) : Type 0 where
  pub place : ℕ
  pub at_place : place_of ints x ≡ Some place
  pub form_is : form ≡ variable_form (Free place)
  pub not_end : same (codes "d") x ≡ false
  pub not_channel : same (codes "c") x ≡ false
  pub not_value : same (codes "v") x ≡ false

abbrev pub AreBinders : List Ident → List Ident → List LinearForm → Type 0
AreBinders ints [] [] = Unit {0}
AreBinders ints [] (f ∷ fs) = ⊥
AreBinders ints (x ∷ xs) [] = ⊥
AreBinders ints (x ∷ xs) (f ∷ fs) = IsBinder ints x f × AreBinders ints xs fs

-- the rows of forms, one by one
abbrev pub AreRows : ℕ → List LinearForm → List Row → Type 0
AreRows variables [] [] = Unit {0}
AreRows variables [] (r ∷ rs) = ⊥
AreRows variables (f ∷ fs) [] = ⊥
AreRows variables (f ∷ fs) (r ∷ rs) = (row_formed variables f ≡ Ok r) × AreRows variables fs rs

-- ---- helpers

abbrev pub variable : Ident → Supply
variable x = supply.Sum (named x)

abbrev pub no_proof : Proof
no_proof = record { instances = []; certs = [] }

abbrev pub unbound : Shape → Res
unbound shape = Binds 0 [] shape

-- fn H [x.., y..: C, f](d: end G', c: end E', v: S) -> unit { send1 c via p (v, d) with [y..] by [..]; ret () }
pub record IsHelper (P : Program) (f : Function) : Type 0 where
  -- the names y, and the variables that they are
  pub names : List Ident
  pub forms : List LinearForm
  pub are_binders : AreBinders f.bound.names names forms
  -- c begins at E', and its path leads to the end that sends
  pub path : List Letter
  pub own : Ref
  pub last : Ref
  pub path_rows : List Row
  pub is_path : is_path P.protos path own.name ≡ true
  pub way : Way P.protos (length f.bound.names) path own path_rows last
  -- the message there, and its limits and parts at the variables y
  pub limits : List Limit
  pub shape : Shape
  pub sends : message_at P.protos last ≡ Ok (record { direction = Sends; res = Binds (length names) limits shape })
  pub message_rows : List Row
  pub are_rows : AreRows (length f.bound.names) (flat_map (λ l. forms_of_limit (limit_with forms 0 l)) limits) message_rows
  pub value : Shape
  pub rest : Ref
  pub parts : put_in_shape forms shape ≡ Ok (Pair (unbound value) (unbound (End rest)))
  -- the header: the rows of the path and of the message are its limits
  pub hyps : (start f).hyps ≡ path_rows ++ message_rows
  pub end_shape : written.Shape
  pub channel_shape : written.Shape
  pub value_shape : written.Shape
  pub params :
      f.params
      ≡ record { name = codes "d"; shape = end_shape } ∷ record { name = codes "c"; shape = channel_shape } ∷ record { name = codes "v"; shape = value_shape } ∷ []
  pub end_is : nameless_shape f.bound.names [] end_shape ≡ End rest
  pub channel_is : nameless_shape f.bound.names [] channel_shape ≡ End own
  pub value_is : nameless_shape f.bound.names [] value_shape ≡ value
  pub result : f.result ≡ bare written.Unit
  -- the body
  pub at : Span
  pub at_last : Span
  pub body :
      f.body
      ≡ Send1 at (codes "c") path (supply.Pair (variable (codes "v")) (variable (codes "d"))) (record { instances = map named names; certs = hypotheses_from 0 (path_rows ++ message_rows) })
      (Ret at_last supply.Unit no_proof)

-- a helper meets the rules
abbrev pub HelpersAreOutlined : Type 0
HelpersAreOutlined = (P : Program) (f : Function) → IsHelper P f → OutlinedFunction P f
