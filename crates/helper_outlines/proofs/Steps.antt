-- Answers that follow one another.
use Rattle.std.proofs.Common.{◌≡◌, Bool, true, Option, Some, ap, ◌∙◌, Result, Ok}
use Rattle.outline_language.specs.Contexts.{Why, and_then, or_why, provided}

pub chain : {A B : Type 0} (first : Result A Why) (go : A → Result B Why) (a : A) (b : B) → first ≡ Ok a → go a ≡ Ok b → and_then first go ≡ Ok b
chain first go a b is then = ap (λ r. and_then r go) is ∙ then

pub there : {A : Type 0} (found : Option A) (why : Why) (a : A) → found ≡ Some a → or_why found why ≡ Ok a
there found why a is = ap (λ o. or_why o why) is

pub holds : {A : Type 0} (test : Bool) (why : Why) (a : A) → test ≡ true → provided test why a ≡ Ok a
holds test why a is = ap (λ t. provided t why a) is
