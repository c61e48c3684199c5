-- What the form of a program gives, on which outlines rest: names that are bound, references that are known, and shapes that aren't too deep.
use Rattle.std.specs.Prelude.{◌≡◌, ◌⊎◌, ℕ, suc, max, ◌≤◌, true, List, [], ◌∷◌, ◌++◌, map, length, Option, Some, None}
use Rattle.std.specs.List.{list_any}
use Rattle.core_language.specs.Names.{Ident, same}
use Rattle.core_language.specs.Terms.{Term}
use Rattle.core_language.specs.Resources.{Proto}
use Rattle.core_language.specs.Resources as written
use Rattle.core_language.specs.Operands.{Supply}
use Rattle.core_language.specs.Operands as supply
use Rattle.core_language.specs.Programs.{Body, Arms, Function, Program, function_named, main_function}
use Rattle.core_language.specs.Programs as body
use Rattle.core_language.specs.Computing.{bare_name}
use Rattle.outline_language.specs.Equations.{Direction, Sends, Receives, Fork, fork_of, proto_named, written_message, Concrete}
use Rattle.outline_language.specs.Rules.{is_bare_unit}
use Rattle.good_configurations.specs.Messages.{Does}

-- ---- references that are known

-- the protocol is there, and has so many parameters
abbrev pub Knows : List Proto → Ident → ℕ → Type 0
Knows protos name many = (proto : Proto) × (proto_named name protos ≡ Some proto) × (many ≡ length proto.params)

abbrev mutual
  pub KnowsShape : List Proto → written.Shape → Type 0
  KnowsShape protos written.Unit = Unit {0}
  KnowsShape protos (written.Int t) = Unit {0}
  KnowsShape protos (written.End ref) = Knows protos ref.name (length ref.args)
  KnowsShape protos (written.Pair r s) = KnowsRes protos r × KnowsRes protos s
  KnowsShape protos (written.Sum rs) = KnowsResources protos rs

  pub KnowsRes : List Proto → written.Res → Type 0
  KnowsRes protos (written.Binds b s) = KnowsShape protos s

  pub KnowsResources : List Proto → written.Resources → Type 0
  KnowsResources protos written.NoMore = Unit {0}
  KnowsResources protos (written.More r rs) = KnowsRes protos r × KnowsResources protos rs

-- ---- how deep shapes nest

abbrev mutual
  pub nest_shape : written.Shape → ℕ
  nest_shape written.Unit = 0
  nest_shape (written.Int t) = 0
  nest_shape (written.End ref) = 0
  nest_shape (written.Pair r s) = suc (max (nest_resource r) (nest_resource s))
  nest_shape (written.Sum rs) = suc (nest_arms rs)

  pub nest_resource : written.Res → ℕ
  nest_resource (written.Binds b s) = nest_shape s

  pub nest_arms : written.Resources → ℕ
  nest_arms written.NoMore = 0
  nest_arms (written.More r rs) = max (nest_resource r) (nest_arms rs)

-- ---- names that are bound

-- each name of the term is one of these
abbrev pub IsOne : List Ident → Option Ident → Type 0
IsOne xs None = Unit {0}
IsOne xs (Some x) = list_any (λ y. same y x) xs ≡ true

abbrev pub NamesAre : List Ident → Term → Type 0
NamesAre xs [] = Unit {0}
NamesAre xs (p ∷ ps) = IsOne xs p.name × NamesAre xs ps

-- each name of a value is one of these, where it isn't the value alone
abbrev pub NamesIn : List Ident → Option Ident → Term → Type 0
NamesIn xs (Some x) term = Unit {0}
NamesIn xs None term = NamesAre xs term

abbrev pub SupplyNames : List Ident → Supply → Type 0
SupplyNames xs supply.Unit = Unit {0}
SupplyNames xs (supply.Pair s t) = SupplyNames xs s × SupplyNames xs t
SupplyNames xs (supply.Arm i s) = SupplyNames xs s
SupplyNames xs (supply.Sum term) = NamesIn xs (bare_name term) term

abbrev pub SuppliesNames : List Ident → List Supply → Type 0
SuppliesNames xs [] = Unit {0}
SuppliesNames xs (s ∷ ss) = SupplyNames xs s × SuppliesNames xs ss

-- shapes of a program are nested at most so deep
abbrev pub deepest : ℕ
deepest = 201

-- the terms, values and channels of a body name variables that are bound, forks know their protocols, and divisors are positive
abbrev mutual
  pub NamesBound : List Proto → List Ident → Body → Type 0
  NamesBound protos xs (body.Let span x term next) = NamesAre xs term × NamesBound protos (xs ++ x ∷ []) next
  NamesBound protos xs (body.Mul span x left right next) = NamesAre xs left × NamesAre xs right × NamesBound protos (xs ++ x ∷ []) next
  NamesBound protos xs (body.Div span x term divisor next) = NamesAre xs term × (1 ≤ divisor) × NamesBound protos (xs ++ x ∷ []) next
  NamesBound protos xs (body.Rem span x term divisor next) = NamesAre xs term × (1 ≤ divisor) × NamesBound protos (xs ++ x ∷ []) next
  NamesBound protos xs (body.Call span pat f values proof next) = SuppliesNames xs values × NamesBound protos (xs ++ pat.name ∷ []) next
  NamesBound protos xs (body.Tail span f values proof) = SuppliesNames xs values
  NamesBound protos xs (body.Fork span x ref f values proof next) =
      Knows protos ref.name (length ref.args) × SuppliesNames xs values × NamesBound protos (xs ++ x ∷ []) next
  NamesBound protos xs (body.Send1 span c path value proof next) = SupplyNames xs value × NamesBound protos xs next
  NamesBound protos xs (body.Recv1 span pat c path proof next) = NamesBound protos (xs ++ pat.name ∷ []) next
  NamesBound protos xs (body.Print span term next) = NamesAre xs term × NamesBound protos xs next
  NamesBound protos xs (body.If span left right this other) = NamesAre xs left × NamesAre xs right × NamesBound protos xs this × NamesBound protos xs other
  NamesBound protos xs (body.Split span first second x next) = NamesBound protos ((xs ++ first.name ∷ []) ++ second.name ∷ []) next
  NamesBound protos xs (body.Match span x arms) = ArmsBound protos xs arms
  NamesBound protos xs (body.Absurd span proof) = Unit {0}
  NamesBound protos xs (body.Ret span value proof) = SupplyNames xs value

  pub ArmsBound : List Proto → List Ident → Arms → Type 0
  ArmsBound protos xs body.NoArm = Unit {0}
  ArmsBound protos xs (body.Arm pat next more) = NamesBound protos (xs ++ pat.name ∷ []) next × ArmsBound protos xs more

-- ---- programs

-- each parameter's shape knows its references, and isn't too deep
abbrev pub ParamsFormed : List Proto → List body.Param → Type 0
ParamsFormed protos [] = Unit {0}
ParamsFormed protos (p ∷ ps) = (KnowsShape protos p.shape × (nest_shape p.shape ≤ deepest)) × ParamsFormed protos ps

pub record FunctionFormed (protos : List Proto) (f : Function) : Type 0 where
  pub params : ParamsFormed protos f.params
  pub result : KnowsRes protos f.result
  pub shallow : nest_resource f.result ≤ deepest
  pub body : NamesBound protos (map (λ p. p.name) f.params) f.body

-- the function `main` takes nothing and gives the unit
pub record MainFormed (f : Function) : Type 0 where
  pub ints : f.bound.names ≡ []
  pub limits : f.bound.limits ≡ []
  pub params : f.params ≡ []
  pub result : is_bare_unit f.result ≡ true

pub record IsFormed (P : Program) : Type 0 where
  pub main : (f : Function) × (main_function P ≡ Some f) × MainFormed f
  pub functions : (x : Ident) (f : Function) → function_named x P.funcs ≡ Some f → FunctionFormed P.protos f
  pub messages : (x : Ident) (proto : Proto) (m : Direction × written.Res) → proto_named x P.protos ≡ Some proto → written_message proto.equation ≡ Some m → KnowsRes P.protos m.1 × (nest_resource m.1 ≤ deepest)
  pub forks : (x : Ident) (proto : Proto) (fork : Fork) → proto_named x P.protos ≡ Some proto → fork_of proto.equation ≡ Some fork
      → Knows P.protos fork.this.name (length fork.this.args) × Knows P.protos fork.other.name (length fork.other.args)
  -- the table is guarded, so that each end does something next
  pub heads : (e : Concrete) (proto : Proto) → proto_named e.name P.protos ≡ Some proto → Does P.protos e Sends ⊎ Does P.protos e Receives
