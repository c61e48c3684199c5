-- Chains of answers, and what they say where the last one is there.
use Rattle.std.proofs.Common.{◌≡◌, Bool, true, false, List, ◌∷◌, [], Option, Some, None, Result, Ok, Err, refl, ap, ◌∙◌}
use Rattle.core_language.specs.Programs.{Span}
use Rattle.outline_language.specs.Contexts.{Why, Context, and_then, or_why, provided}
use Rattle.outline_language.specs.Outlined.{Fault, faults_after}

-- a chain that has an answer has one at its first link
pub first_ok : {A B : Type 0} (first : Result A Why) (more : A → Result B Why) (b : B) → and_then first more ≡ Ok b → (a : A) × (first ≡ Ok a) × (more a ≡ Ok b)
first_ok (Ok a) more b is = (a, refl, is)
first_ok (Err why) more b is = cc

pub linked : {A B : Type 0} (first : Result A Why) (more : A → Result B Why) (a : A) (b : B) → first ≡ Ok a → more a ≡ Ok b → and_then first more ≡ Ok b
linked first more a b is after = ap (λ r. and_then r more) is ∙ after

pub there : {A : Type 0} (o : Option A) (why : Why) (a : A) → or_why o why ≡ Ok a → o ≡ Some a
there None why a is = cc
there (Some x) why a is = cc

pub holds : {A : Type 0} (test : Bool) (why : Why) (x a : A) → provided test why x ≡ Ok a → test ≡ true
holds true why x a is = refl
holds false why x a is = cc

pub same_ok : {A : Type 0} (a b : A) → ◌≡◌ {A = Result A Why} (Ok a) (Ok b) → a ≡ b
same_ok a b is = cc

-- ---- the faults of a form

-- its rule is met
pub met : {A : Type 0} (answer : Result A Why) (span : Span) (ctx : Context) (later : A → List Fault) (a : A) → answer ≡ Ok a → faults_after span ctx answer later ≡ later a
met answer span ctx later a is = ap (λ r. faults_after span ctx r later) is

-- its rule fails
pub stopped : {A : Type 0} (answer : Result A Why) (span : Span) (ctx : Context) (later : A → List Fault) (why : Why) → answer ≡ Err why
    → faults_after span ctx answer later ≡ record { span = span; why = why; names = ctx.ints } ∷ []
stopped answer span ctx later why is = ap (λ r. faults_after span ctx r later) is
