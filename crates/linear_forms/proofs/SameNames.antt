-- The test of names.
use Rattle.std.proofs.Common.{◌≡◌, true}
use Rattle.std.specs.Cmp.Lexicographic.{bytes_decides, nat_list_eq_equiv}
use Rattle.core_language.specs.Names.{Ident, same}

pub same_is : (x y : Ident) → same x y ≡ true → x ≡ y
same_is x y e = (bytes_decides x y).0 e

pub same-self : (x : Ident) → same x x ≡ true
same-self x = nat_list_eq_equiv.refl x

pub same-turned : (x y : Ident) → same x y ≡ same y x
same-turned x y = nat_list_eq_equiv.symm x y
