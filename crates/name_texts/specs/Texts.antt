-- Which texts are those of names.
use Rattle.std.specs.Prelude.{◌≡◌, ◌↔◌, ◌^◌, ◌<◌, ◌≤◌, ℕ, List, length, Option, Some}
use Rattle.std.specs.List.{AllByRecursion, flat_map}
use Rattle.chan_base.specs.Names.{name_text, part_text}

-- the name has at most 1,024 parts, each of 32 bits
abbrev pub IsShort : List ℕ → Type 0
IsShort name = (length name ≤ 1024) × AllByRecursion (λ k. k < 2 ^ 32) name

-- a name was found exactly where the text is that of a short name, and it is this name
abbrev pub IsNameOf : List ℕ → Option (List ℕ) → Type 0
IsNameOf text found = (name : List ℕ) → (found ≡ Some name) ↔ ((text ≡ name_text name) × IsShort name)

-- the same of the text behind `main`
abbrev pub ArePartsOf : List ℕ → Option (List ℕ) → Type 0
ArePartsOf text found = (name : List ℕ) → (found ≡ Some name) ↔ ((text ≡ flat_map part_text name) × IsShort name)
