-- Ways as binary numbers: the order of ways is that of their numbers.
use Rattle.std.proofs.Common.{◌≡◌, ℕ, ◌+◌, ◌*◌, ◌<◌, ◌≤◌, List, [], ◌∷◌, ◌++◌, length, refl, arith, inl, inr}
use Rattle.chan_syntax.specs.declared.operands.Letter.{Letter}
use Rattle.chan_syntax.specs.declared.operands.Letter.TheVariants as letter
use Rattle.protocol_guard.specs.Guards.{ThenFirst, IsBefore}
use Rattle.protocol_guard.specs.Searches.{bit, code_from, code}

pub bit_small : (t : Letter) → bit t ≤ 1
bit_small letter.Left = omega arith
bit_small letter.Right = omega arith

pub code-snoc : (c : ℕ) (way : List Letter) (t : Letter) → code_from c (way ++ t ∷ []) ≡ 2 * code_from c way + bit t
code-snoc c [] t = refl
code-snoc c (u ∷ us) t = code-snoc (2 * c + bit u) us t

pub code_least : (c : ℕ) (way : List Letter) → c ≤ code_from c way
code_least c [] = omega arith
code_least c (t ∷ ts) = omega (arith, code_least (2 * c + bit t) ts)

-- a greater start and no shorter way give a greater number
above : (c d : ℕ) (ts us : List Letter) → c < d → length ts ≤ length us → code_from c ts < code_from d us
above c d [] us lt le = omega (arith, lt, code_least d us)
above c d (t ∷ ts) [] lt le = absurd (omega (arith, le))
above c d (t ∷ ts) (u ∷ us) lt le =
    above (2 * c + bit t) (2 * d + bit u) ts us (let small = bit_small t in omega (arith, lt, small)) (omega (arith, le))

-- a longer way has a greater number
longer : (c d : ℕ) (ts us : List Letter) → 1 ≤ c → c < 2 * d → length ts < length us → code_from c ts < code_from d us
longer c d ts [] one lt le = absurd (omega (arith, le))
longer c d [] (u ∷ us) one lt le = omega (arith, lt, code_least (2 * d + bit u) us)
longer c d (t ∷ ts) (u ∷ us) one lt le =
    let small = bit_small t in longer (2 * c + bit t) (2 * d + bit u) ts us (omega (arith, one)) (omega (arith, lt, small)) (omega (arith, le))

then_first : (c : ℕ) (ts us : List Letter) → length ts ≡ length us → ThenFirst ts us → code_from c ts < code_from c us
then_first c [] us same first = absurd first
then_first c (letter.Left ∷ ts) [] same first = absurd first
then_first c (letter.Right ∷ ts) [] same first = absurd first
then_first c (letter.Left ∷ ts) (letter.Left ∷ us) same first = then_first (2 * c + 0) ts us (omega (arith, same)) first
then_first c (letter.Left ∷ ts) (letter.Right ∷ us) same first = above (2 * c + 0) (2 * c + 1) ts us (omega arith) (omega (arith, same))
then_first c (letter.Right ∷ ts) (letter.Left ∷ us) same first = absurd first
then_first c (letter.Right ∷ ts) (letter.Right ∷ us) same first = then_first (2 * c + 1) ts us (omega (arith, same)) first

-- a way that comes before another has the lesser number
pub before_less : (ts us : List Letter) → IsBefore ts us → code ts < code us
before_less ts us (inl shorter) = longer 1 1 ts us (omega arith) (omega arith) shorter
before_less ts us (inr (same, first)) = then_first 1 ts us same first
