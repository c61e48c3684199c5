-- The words that the program admits.
use Rattle.std.specs.Prelude.{◌≡◌, ℕ, ◌≤◌, ◌⊎◌, codes, List, [], ◌∷◌, ◌++◌, length}
use Rattle.std.specs.Str.Parse.{IsNumeral, digits_value}
use Rattle.chanl_words.specs.declared.Command.{Command}
use Rattle.chanl_words.specs.declared.Command.TheVariants as command

-- how many rounds a replay has at the most where no option says it
abbrev pub default_rounds : ℕ
default_rounds = 1000000

-- the greatest number of rounds that the option takes
abbrev pub most_rounds : ℕ
most_rounds = 1000000000

-- the text is one to ten decimal digits, which write n, a number that the option takes
pub record IsNumber (text : List ℕ) (n : ℕ) : Type 0 where
  pub digits : IsNumeral 10 text
  pub short : length text ≤ 10
  pub value : n ≡ digits_value 10 text
  pub some : 1 ≤ n
  pub few : n ≤ most_rounds

-- the option has this text: as the word after it, or joined by `=`
abbrev pub Gives : List (List ℕ) → List ℕ → Type 0
Gives option text = (option ≡ codes "--rounds" ∷ text ∷ []) ⊎ (option ≡ (codes "--rounds=" ++ text) ∷ [])

-- the words after `replay` say so many rounds
abbrev pub HasRounds : List (List ℕ) → ℕ → Type 0
HasRounds option rounds = ((option ≡ []) × (rounds ≡ default_rounds)) ⊎ ((text : List ℕ) × Gives option text × IsNumber text rounds)

-- the words are those of the command
abbrev pub Admits : List (List ℕ) → Command → Type 0
Admits words command.Fmt = words ≡ codes "fmt" ∷ []
Admits words (command.Replay rounds) = (option : List (List ℕ)) × (words ≡ codes "replay" ∷ option) × HasRounds option rounds

-- no command has these words
abbrev pub IsUsage : List (List ℕ) → Type 0
IsUsage words = (command : Command) → ¬ Admits words command
