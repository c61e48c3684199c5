-- Tests, and lists of faults that are empty.
use Rattle.std.proofs.Common.{◌≡◌, Bool, true, false, not, ◌&&◌, ◌||◌, if◌then◌else◌, List, [], ◌∷◌, ◌++◌, refl, sym, ⊎_elim}
use Rattle.std.proofs.lemmas.Bool.{or_cases, or_right, and_from, and_parts, not-true, not_from_false}
use Rattle.std.specs.Cmp.Lexicographic.{same_text}
use Rattle.core_language.specs.Names.{Ident, same}
use Rattle.form_faults.specs.declared.faults.Ill.{Ill}

pub same_is : (x y : Ident) → same x y ≡ true → x ≡ y
same_is x y is = same_text x y (sym is)

-- what holds in both cases
pub either : {P : Type 0} (a b : Bool) → (a ≡ true → P) → (b ≡ true → P) → a || b ≡ true → P
either a b here there is = ⊎_elim here there (or_cases a b is)

-- where a test of more and not of what is bound holds
pub past : {P : Type 0} (more bound : Bool) → (more ≡ true → bound ≡ false → P) → more && not bound ≡ true → P
past more bound go is = let both = and_parts more (not bound) is in go both.0 (not-true bound both.1)

-- what is named later and isn't bound here
pub later : (here more bound : Bool) → more ≡ true → bound ≡ false → here || (more && not bound) ≡ true
later here more bound is other = or_right here (more && not bound) (and_from more (not bound) is (not_from_false bound other))

-- what is named here, or further on
pub or_more : (a b c : Bool) → (b ≡ true → c ≡ true) → a || b ≡ true → a || c ≡ true
or_more true b c more is = refl
or_more false b c more is = more is

pub none_left : (a b : List Ill) → a ++ b ≡ [] → a ≡ []
none_left [] b is = refl
none_left (x ∷ a) b is = cc

pub none_right : (a b : List Ill) → a ++ b ≡ [] → b ≡ []
none_right [] b is = is
none_right (x ∷ a) b is = cc

-- a test that finds no fault holds
pub faultless : (t : Bool) (ill : Ill) (rest : List Ill) → (if t then [] else ill ∷ rest) ≡ [] → t ≡ true
faultless true ill rest none = refl
faultless false ill rest none = cc
