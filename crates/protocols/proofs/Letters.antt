-- The form of a path, letter by letter.
use Rattle.std.proofs.Common.{◌≡◌, ℕ, suc, ◌+◌, ◌<◌, false, List, ◌∷◌, map, length, get_or, drop, None, refl, ◌∙◌, ap, arith}
use Rattle.std.proofs.Math.Seq.{drop-cons}
use Rattle.core_language.specs.Names.{Ident}
use Rattle.core_language.specs.Resources.{Proto}
use Rattle.chan_syntax.specs.Reading.{letter_of}
use Rattle.chan_syntax.specs.declared.operands.Letter.{Letter}
use Rattle.outline_language.specs.Equations.{proto_named}
use Rattle.protocols.specs.Unfolding.{picked_at, goes_on, has_form}

pub drop_next : {X : Type 0} (xs : List X) (i : ℕ) (d : X) → i < length xs → drop i xs ≡ get_or xs i d ∷ drop (i + 1) xs
drop_next xs i d h = let one : i + 1 ≡ suc i = omega arith in rw one (drop-cons xs i d h)

-- where the next letter goes on
pub form_step : (protos : List Proto) (letters : List Letter) (i : ℕ) (d : Letter) (name : Ident) → i < length letters → has_form protos (map letter_of (drop i letters)) name ≡ goes_on (λ x. has_form protos (map letter_of (drop (i + 1) letters)) x) (picked_at (letter_of (get_or letters i d)) (proto_named name protos))
form_step protos letters i d name h = rw (drop_next letters i d h) refl

-- it goes on nowhere
pub no_form : (protos : List Proto) (letters : List Letter) (i : ℕ) (d : Letter) (name : Ident) → i < length letters → picked_at (letter_of (get_or letters i d)) (proto_named name protos) ≡ None → has_form protos (map letter_of (drop i letters)) name ≡ false
no_form protos letters i d name h none = form_step protos letters i d name h ∙ ap (goes_on (λ x. has_form protos (map letter_of (drop (i + 1) letters)) x)) none
