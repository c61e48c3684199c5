-- Resources, and the protocols of channels.
use Rattle.std.specs.Prelude.{Bool, List, [], ◌∷◌, Option}
use Rattle.core_language.specs.Names.{Ident}
use Rattle.core_language.specs.Terms.{Term, Bound}

-- a protocol at some arguments, or its dual
pub record Ref : Type 0 where
  pub dual : Bool
  pub name : Ident
  pub args : List Term

mutual
  -- what a value is: for a pair and a sum, resources of the parts
  pub data Shape : Type 0 where
    Unit : Shape
    Int : Term → Shape
    End : Ref → Shape
    Pair : Res → Res → Shape
    Sum : Resources → Shape

  -- some integers within limits, and a shape that may name them
  pub data Res : Type 0 where
    Binds : Bound → Shape → Res

  -- the resources of a sum, one for each arm
  pub data Resources : Type 0 where
    NoMore : Resources
    More : Res → Resources → Resources

-- the resources as a list
abbrev pub resource_list : Resources → List Res
resource_list NoMore = []
resource_list (More res more) = res ∷ resource_list more

-- the resources of a list
abbrev pub resources_from : List Res → Resources
resources_from [] = NoMore
resources_from (res ∷ more) = More res (resources_from more)

-- what an end does next; `Branch` is the first reference where the first term is at most the second
pub data Equation : Type 0 where
  Send : Res → Option Ref → Equation
  Recv : Res → Option Ref → Equation
  Close : Equation
  Wait : Equation
  Branch : Term → Term → Ref → Ref → Equation

pub record Proto : Type 0 where
  pub name : Ident
  pub params : List Ident
  pub equation : Equation
