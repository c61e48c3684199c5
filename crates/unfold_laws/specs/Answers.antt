-- Resources that come of one substitution, and answers of unfolding that are alike.
use Rattle.std.specs.Prelude.{◌≡◌, [], Result, Ok, Err}
use Rattle.core_language.specs.Resources.{Res}
use Rattle.linear_forms.specs.Substitution.{OnNames, OnTerms, IsResLike, IsSameRes}
use Rattle.protocols.specs.Unfolding.{Fault, Found}

abbrev pub SameNames : OnNames
SameNames before scope res y z = y ≡ z

abbrev pub AnyTerms : OnTerms
AnyTerms before after t u = Unit {0}

-- two resources of one form, in which the binders at each place have one name
abbrev pub HaveOneBinders : Res → Res → Type 0
HaveOneBinders = IsResLike SameNames AnyTerms [] []

-- they differ in the names of binders alone: where these are the same, so are the resources
pub record AreOneRes (r s : Res) : Type 0 where
  pub same : IsSameRes r s
  pub written : HaveOneBinders r s → r ≡ s

pub record AreOneFound (f g : Found) : Type 0 where
  pub direction : f.direction ≡ g.direction
  pub res : AreOneRes f.res g.res
  pub used : f.used ≡ g.used

-- both are the same fault, or found the same
abbrev pub AreAlike : (first second : Result Found Fault) → Type 0
AreAlike (Ok f) (Ok g) = AreOneFound f g
AreAlike (Ok f) (Err g) = ⊥
AreAlike (Err f) (Ok g) = ⊥
AreAlike (Err f) (Err g) = f ≡ g
