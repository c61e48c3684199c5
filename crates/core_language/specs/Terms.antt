-- Linear terms, and limits between them.
use Rattle.std.specs.Prelude.{ℤ, Bool, List, Option}
use Rattle.core_language.specs.Names.{Ident}

-- a factor, times what a name stands for where there is one, taken away where it is negative
pub record Part : Type 0 where
  pub negative : Bool
  pub factor : ℤ
  pub name : Option Ident

-- the sum of the parts
abbrev pub Term : Type 0
Term = List Part

pub data Relation : Type 0 where
  AtMost : Relation
  Less : Relation
  Same : Relation

pub record Limit : Type 0 where
  pub left : Term
  pub relation : Relation
  pub right : Term

-- integer variables, and the limits that they keep
pub record Bound : Type 0 where
  pub names : List Ident
  pub limits : List Limit
