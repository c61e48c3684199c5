-- Texts that are no number, and words that are no command.
use Rattle.std.proofs.Common.{◌≡◌, ℕ, ◌<◌, ◌≤◌, true, false, List, [], ◌∷◌, codes, length, get_or, ap, sym, subst, rules, arith}
use Rattle.std.specs.Char.{is_ascii_digit}
use Rattle.std.specs.List.{list_all}
use Rattle.std.specs.Str.Parse.{digits_value}
use Rattle.std.proofs.lemmas.Str.Parse.{IsNumeralModel, numerals_by_value}
use Rattle.chanl_words.specs.declared.Command.TheVariants as command
use Rattle.chanl_words.specs.Words.{IsNumber, HasRounds, IsUsage}

digits_alone : IsNumeralModel (λ text. list_all is_ascii_digit text ≡ true) (digits_value 10)
digits_alone = numerals_by_value _ (search rules)

pub no_number : (text : List ℕ) → list_all is_ascii_digit text ≡ false → (n : ℕ) → ¬ IsNumber text n
no_number text is n number =
    let digits : list_all is_ascii_digit text ≡ true = digits_alone.from text number.digits.1 in cc

pub replay_usage : (option : List (List ℕ)) → ((n : ℕ) → ¬ HasRounds option n) → IsUsage (codes "replay" ∷ option)
replay_usage option none command.Fmt is = cc
replay_usage option none (command.Replay n) (rest, is, has) =
    let same : option ≡ rest = cc in
    none n (subst (λ o. HasRounds o n) (sym same) has)

module _ {A : Type 0} where
  pub one_item : (xs : List A) (x : A) → 1 ≤ length xs → length xs < 2 → x ≡ get_or xs 0 x → xs ≡ x ∷ []
  one_item [] x some few is = absurd (omega arith)
  one_item (y ∷ []) x some few is = ap (λ z. z ∷ []) (sym is)
  one_item (y ∷ z ∷ more) x some few is = absurd (omega arith)

  pub two_items : (xs : List A) (x y : A) → 2 ≤ length xs → length xs < 3 → x ≡ get_or xs 0 x → y ≡ get_or xs 1 y → xs ≡ x ∷ y ∷ []
  two_items [] x y some few is also = absurd (omega arith)
  two_items (a ∷ []) x y some few is also = absurd (omega arith)
  two_items (a ∷ b ∷ []) x y some few is also = cc
  two_items (a ∷ b ∷ c ∷ more) x y some few is also = absurd (omega arith)
