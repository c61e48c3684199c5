-- What an answer that is Ok says.
use Rattle.std.proofs.Common.{◌≡◌, Bool, true, false, Option, Some, None, Result, Ok, Err, refl, ap}
use Rattle.outline_language.specs.Contexts.{Why, and_then, or_why, provided}

pub one_ok : {A E : Type 0} {a b : A} → ◌≡◌ {A = Result A E} (Ok a) (Ok b) → a ≡ b
one_ok e = cc

pub err_ok : {A E Z : Type 0} {why : E} {a : A} → ◌≡◌ {A = Result A E} (Err why) (Ok a) → Z
err_ok e = cc

pub and_then-ok : {A B : Type 0} (r : Result A Why) (go : A → Result B Why) (b : B) → and_then r go ≡ Ok b → (a : A) × (r ≡ Ok a) × (go a ≡ Ok b)
and_then-ok (Ok a) go b e = (a, refl, e)
and_then-ok (Err why) go b e = err_ok e

pub provided-ok : {A : Type 0} (test : Bool) (why : Why) (a c : A) → provided test why a ≡ Ok c → (test ≡ true) × (a ≡ c)
provided-ok true why a c e = (refl, one_ok e)
provided-ok false why a c e = err_ok e

pub or_why-ok : {A : Type 0} (o : Option A) (why : Why) (a : A) → or_why o why ≡ Ok a → o ≡ Some a
or_why-ok None why a e = err_ok e
or_why-ok (Some b) why a e = ap Some (one_ok e)

pub one_some : {A : Type 0} {a b : A} → Some a ≡ Some b → a ≡ b
one_some e = cc

pub none_some : {A Z : Type 0} {a : A} → None ≡ Some a → Z
none_some e = cc
