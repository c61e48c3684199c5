-- The references of a program, and the protocols that they name.
use Rattle.std.specs.Prelude.{◌≡◌, List, [], ◌∷◌, ◌++◌, All, flat_map, length, Option, Some, None, option_to_list}
use Rattle.core_language.specs.Names.{Ident}
use Rattle.core_language.specs.Resources.{Ref, Shape, Res, Resources, Equation, Proto, Send, Recv, Close, Wait, Branch}
use Rattle.core_language.specs.Resources as resource
use Rattle.core_language.specs.Programs.{Body, Arms, Function, Program}
use Rattle.core_language.specs.Programs as core
use Rattle.protocols.specs.Duals.{Message}
use Rattle.outline_language.specs.Equations.{proto_named}

-- ---- references

abbrev mutual
  pub refs_of_shape : Shape → List Ref
  refs_of_shape resource.Unit = []
  refs_of_shape (resource.Int term) = []
  refs_of_shape (resource.End ref) = ref ∷ []
  refs_of_shape (resource.Pair a b) = refs_of_res a ++ refs_of_res b
  refs_of_shape (resource.Sum rs) = refs_of_resources rs

  pub refs_of_res : Res → List Ref
  refs_of_res (resource.Binds bound shape) = refs_of_shape shape

  pub refs_of_resources : Resources → List Ref
  refs_of_resources resource.NoMore = []
  refs_of_resources (resource.More r rs) = refs_of_res r ++ refs_of_resources rs

-- those of what is sent, and where the equation goes on
abbrev pub refs_of_equation : Equation → List Ref
refs_of_equation (Send res next) = refs_of_res res ++ option_to_list next
refs_of_equation (Recv res next) = refs_of_res res ++ option_to_list next
refs_of_equation Close = []
refs_of_equation Wait = []
refs_of_equation (Branch left right this other) = this ∷ other ∷ []

abbrev pub refs_of_message : Option Message → List Ref
refs_of_message None = []
refs_of_message (Some message) = refs_of_res message.res

abbrev mutual
  -- those of its forks
  pub refs_of_body : Body → List Ref
  refs_of_body (core.Let span name term next) = refs_of_body next
  refs_of_body (core.Mul span name left right next) = refs_of_body next
  refs_of_body (core.Div span name term divisor next) = refs_of_body next
  refs_of_body (core.Rem span name term divisor next) = refs_of_body next
  refs_of_body (core.Call span pat func values proof next) = refs_of_body next
  refs_of_body (core.Tail span func values proof) = []
  refs_of_body (core.Fork span name ref func values proof next) = ref ∷ refs_of_body next
  refs_of_body (core.Send1 span channel path value proof next) = refs_of_body next
  refs_of_body (core.Recv1 span pat channel path proof next) = refs_of_body next
  refs_of_body (core.Print span term next) = refs_of_body next
  refs_of_body (core.If span left right this other) = refs_of_body this ++ refs_of_body other
  refs_of_body (core.Split span first second name next) = refs_of_body next
  refs_of_body (core.Match span name arms) = refs_of_arms arms
  refs_of_body (core.Absurd span proof) = []
  refs_of_body (core.Ret span value proof) = []

  pub refs_of_arms : Arms → List Ref
  refs_of_arms core.NoArm = []
  refs_of_arms (core.Arm pat next more) = refs_of_body next ++ refs_of_arms more

-- those of its parameters, its result and its body
abbrev pub refs_of_function : Function → List Ref
refs_of_function func = flat_map (λ p. refs_of_shape p.shape) func.params ++ (refs_of_res func.result ++ refs_of_body func.body)

abbrev pub refs_of_program : Program → List Ref
refs_of_program program = flat_map (λ p. refs_of_equation p.equation) program.protos ++ flat_map refs_of_function program.funcs

-- ---- protocols

-- the reference names a protocol that is there, and has as many terms as that has parameters
abbrev pub IsKnown : List Proto → Ref → Type 0
IsKnown protos ref = (proto : Proto) × (proto_named ref.name protos ≡ Some proto) × (length ref.args ≡ length proto.params)

abbrev pub AreKnown : List Proto → List Ref → Type 0
AreKnown protos refs = All (IsKnown protos) refs

-- the protocols know the references of their equations
abbrev pub KnowTheirs : List Proto → Type 0
KnowTheirs protos = (x : Ident) (proto : Proto) → proto_named x protos ≡ Some proto → AreKnown protos (refs_of_equation proto.equation)
