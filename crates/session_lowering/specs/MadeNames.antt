-- Names that lowering makes: no text has a name with a dot.
use Rattle.std.specs.Prelude.{ℕ, suc, codes, List, [], ◌∷◌, ◌++◌}
use Rattle.std.specs.Fmt.{decimal}
use Rattle.core_language.specs.Names.{Ident}

-- a name, a dot and more
abbrev pub dotted : Ident → List ℕ → Ident
dotted base more = base ++ 46 ∷ more

abbrev pub numbered : Ident → ℕ → Ident
numbered base k = dotted base (decimal k)

-- as many numbered names as the list is long, from a number on
abbrev pub numbered_from : {A : Type 0} → Ident → ℕ → List A → List Ident
numbered_from base k [] = []
numbered_from base k (_ ∷ rest) = numbered base k ∷ numbered_from base (suc k) rest

-- the channel and the message that are received at once
abbrev pub received_pair : Ident → Ident
received_pair x = dotted x (codes "m")

-- the unit that closes a channel
abbrev pub received_unit : Ident → Ident
received_unit x = dotted x (codes "u")

-- the integer that a branch receives
abbrev pub received_bit : Ident → Ident
received_bit x = dotted x (codes "k")
