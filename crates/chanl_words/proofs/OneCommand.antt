-- Words have one command, and a replay has few enough rounds.
use Rattle.std.proofs.Common.{◌≡◌, ◌∙◌, ℕ, ◌≤◌, List, ap, sym, subst, refl, arith, inl, inr}
use Rattle.std.specs.Str.Parse.{digits_value}
use Rattle.chanl_words.specs.declared.Command.{Command}
use Rattle.chanl_words.specs.declared.Command.TheVariants as command
use Rattle.chanl_words.specs.Words.{most_rounds, Gives, HasRounds, Admits}

one_text : (option : List (List ℕ)) (t u : List ℕ) → Gives option t → Gives option u → t ≡ u
one_text option t u (inl is) (inl also) = cc
one_text option t u (inl is) (inr also) = cc
one_text option t u (inr is) (inl also) = cc
one_text option t u (inr is) (inr also) = cc

one_number : (option : List (List ℕ)) (m n : ℕ) → HasRounds option m → HasRounds option n → m ≡ n
one_number option m n (inl (is, default)) (inl (also, same)) = default ∙ sym same
one_number option m n (inl (is, default)) (inr (u, inl also, number)) = cc
one_number option m n (inl (is, default)) (inr (u, inr also, number)) = cc
one_number option m n (inr (t, inl is, number)) (inl (also, same)) = cc
one_number option m n (inr (t, inr is, number)) (inl (also, same)) = cc
one_number option m n (inr (t, is, number)) (inr (u, also, other)) =
    number.value ∙ ap (digits_value 10) (one_text option t u is also) ∙ sym other.value

pub one_command : (words : List (List ℕ)) (c d : Command) → Admits words c → Admits words d → c ≡ d
one_command words command.Fmt command.Fmt is also = refl
one_command words command.Fmt (command.Replay n) is (option, also, has) = cc
one_command words (command.Replay m) command.Fmt (option, is, has) also = cc
one_command words (command.Replay m) (command.Replay n) (option, is, has) (rest, also, gives) =
    let same : option ≡ rest = cc in
    ap command.Replay (one_number option m n has (subst (λ o. HasRounds o n) (sym same) gives))

pub few_rounds : (words : List (List ℕ)) (rounds : ℕ) → Admits words (command.Replay rounds) → rounds ≤ most_rounds
few_rounds words rounds (option, is, inl (none, default)) = omega (arith, default)
few_rounds words rounds (option, is, inr (text, given, number)) = number.few
