-- What the forms of a body name: values, patterns, paths and proofs.
use Rattle.std.specs.Prelude.{ℕ, ℤ, List}
use Rattle.core_language.specs.Names.{Ident}
use Rattle.core_language.specs.Terms.{Term}

-- a value made of variables and integers
pub data Supply : Type 0 where
  Unit : Supply
  Pair : Supply → Supply → Supply
  Arm : (number : ℕ) → Supply → Supply
  Sum : Term → Supply

-- a name for a value, and names for the integers that its resource binds
pub record Pat : Type 0 where
  pub name : Ident
  pub names : List Ident

-- which way a `Branch` equation is followed
pub data Letter : Type 0 where
  First : Letter
  Second : Letter

pub record Mention : Type 0 where
  pub factor : ℤ
  pub index : ℕ

pub record Cert : Type 0 where
  pub divisor : ℕ
  pub mentions : List Mention

-- instances for binders, and certificates for obligations
pub record Proof : Type 0 where
  pub instances : List Term
  pub certs : List Cert
