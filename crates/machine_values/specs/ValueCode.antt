-- Values as lists of words from which they can be read again, by which a proof tells them apart.
use Rattle.std.specs.Prelude.{◌≡◌, ℕ, ℤ, List, [], ◌∷◌, ◌⊎◌}
use Rattle.std.proofs.Common.{inl, inr, refl, ap, ◌∙◌}
use Rattle.std.specs.Coded.{Coded, code_by, coded_ℤ, coded_ℕ, coded_list, coded×, coded⊎}
use base.Stored.{coded_unit}
use Rattle.core_language.specs.Names.{Name}
use Rattle.machine_values.specs.Cells as cells
use Rattle.machine_values.specs.Cells.{Celled}

-- a pair of the values before it, or an arm with this number
abbrev pub Whole : Type 0
Whole = Unit {0} ⊎ ℕ

abbrev pub Word : Type 0
Word = ℤ ⊎ ((Name × ℕ) ⊎ (Unit {0} ⊎ Whole))

abbrev pub number : ℤ → Word
number z = inl z

abbrev pub end : Name → ℕ → Word
end c cell = inr (inl (c, cell))

abbrev pub unit : Word
unit = inr (inr (inl tt))

abbrev pub pair : Word
pair = inr (inr (inr (inl tt)))

abbrev pub arm : ℕ → Word
arm i = inr (inr (inr (inr i)))

-- the words of a value, before other words
abbrev pub written : Celled → List Word → List Word
written (cells.Int z) rest = number z ∷ rest
written cells.Unit rest = unit ∷ rest
written (cells.Pair a b) rest = written a (written b (pair ∷ rest))
written (cells.Arm i a) rest = written a (arm i ∷ rest)
written (cells.End c cell) rest = end c cell ∷ rest

-- what a whole is made of: the values so far, the last one first
abbrev pub made : Whole → List Celled → List Celled
made (inl _) (b ∷ a ∷ values) = cells.Pair a b ∷ values
made (inr i) (a ∷ values) = cells.Arm i a ∷ values
made _ values = values

abbrev pub after : Word → List Celled → List Celled
after (inl z) values = cells.Int z ∷ values
after (inr (inl end)) values = cells.End end.0 end.1 ∷ values
after (inr (inr (inl _))) values = cells.Unit ∷ values
after (inr (inr (inr whole))) values = made whole values

abbrev pub read : List Word → List Celled → List Celled
read [] values = values
read (word ∷ words) values = read words (after word values)

abbrev pub first_of : List Celled → Celled
first_of [] = cells.Unit
first_of (value ∷ values) = value

pub read_written : (v : Celled) (rest : List Word) (values : List Celled) → read (written v rest) values ≡ read rest (v ∷ values)
read_written (cells.Int z) rest values = refl
read_written cells.Unit rest values = refl
read_written (cells.Pair a b) rest values = read_written a (written b (pair ∷ rest)) values ∙ read_written b (pair ∷ rest) (a ∷ values)
read_written (cells.Arm i a) rest values = read_written a (arm i ∷ rest) values
read_written (cells.End c cell) rest values = refl

abbrev pub value_code : Coded Celled
value_code = code_by (List Word) (coded_list (coded⊎ coded_ℤ (coded⊎ (coded× (coded_list coded_ℕ) coded_ℕ) (coded⊎ coded_unit (coded⊎ coded_unit coded_ℕ)))))
    (λ v. written v []) (λ words. first_of (read words [])) (λ v. ap first_of (read_written v [] []))
