-- The text of a program that is made is short.
use Rattle.std.proofs.Common.{◌≡◌, ◌∙◌, ◌+◌, ◌-◌, ◌*◌, ◌^◌, ◌<◌, ◌≤◌, ℕ, zero, suc, List, [], ◌∷◌, ◌++◌, length, codes, ap, ap₂, refl, arith, length-append}
use Rattle.std.specs.Fmt.{decimal}
use Rattle.std.specs.List.{flat_map, range_with_len}
use Rattle.std.proofs.lemmas.Fmt.{length-decimal-le}
use Rattle.made_programs.specs.Texts.{answers, declarations, delegation, for_each, lines, made_text, pass_line, pipeline, stage_line}

short_number : (i : ℕ) → i ≤ 5000 → length (decimal i) ≤ 4
short_number i few = length-decimal-le 4 i (omega arith) (omega arith) (omega arith)

-- the list has so many elements
record Long (text : List ℕ) (n : ℕ) : Type 0 where
  is : length text ≡ n

long : (text : List ℕ) → Long text (length text)
long text = record { is = refl }

sum : {a b : List ℕ} {m n : ℕ} → Long a m → Long b n → Long (a ++ b) (m + n)
sum {a} {b} one other = record { is = length-append a b ∙ ap₂ (λ x y. x + y) one.is other.is }

short_stage : (i : ℕ) → i ≤ 5000 → length (stage_line i) ≤ 100
short_stage i few =
    let own = short_number i few in
    let before = short_number (i - 1) (omega arith) in
    let whole : Long (stage_line i) ((9 + length (decimal i)) + (12 + length (decimal i)) + (9 + length (decimal (i - 1))) + (8 + length (decimal (i - 1))) + 3) =
    sum (sum (sum (sum (sum (long (codes "    let c")) (long (decimal i))) (sum (long (codes " = fork One(")) (long (decimal i))))
    (sum (long (codes ") stage(c")) (long (decimal (i - 1))))) (sum (long (codes ") with [")) (long (decimal (i - 1))))) (long (codes "];\n")) in
    omega (arith, whole.is, own, before)

short_pass : (i : ℕ) → i ≤ 5000 → length (pass_line i) ≤ 100
short_pass i few =
    let own = short_number i few in
    let before = short_number (i - 1) (omega arith) in
    let whole : Long (pass_line i) ((9 + length (decimal i)) + (21 + length (decimal (i - 1))) + 3) =
    sum (sum (sum (long (codes "    let g")) (long (decimal i))) (sum (long (codes " = fork Give() pass(g")) (long (decimal (i - 1))))) (long (codes ");\n")) in
    omega (arith, whole.is, own, before)

-- so many lines
short_lines : (line : ℕ → List ℕ) → ((i : ℕ) → i ≤ 5000 → length (line i) ≤ 100) → (a n : ℕ) → a + n ≤ 5001 → length (flat_map line (range_with_len a n)) ≤ 100 * n
short_lines line short a zero few = omega arith
short_lines line short a (suc n) few =
    let first = short a (omega arith) in
    let later = short_lines line short (a + 1) n (omega arith) in
    let is = length-append (line a) (flat_map line (range_with_len (a + 1) n)) in
    omega (arith, first, later, is)

pub made_is_short : (n : ℕ) → n ≤ 5000 → length (made_text n) ≤ 1048576
made_is_short n few =
    let number = short_number n few in
    let stages = short_lines stage_line short_stage 1 n (omega arith) in
    let passes = short_lines pass_line short_pass 1 n (omega arith) in
    let main = lines (codes "fn main() -> unit {" ∷ codes "    let c0 = fork One(0) seed(0) with [0];" ∷ []) in
    let hand = lines (codes "    let h = fork One(7) seed(7) with [7];" ∷ codes "    let g0 = fork Give() giver(h);" ∷ []) in
    let end = lines (codes ";" ∷ codes "    let x = recv1 e;" ∷ codes "    print x;" ∷ codes "    let w [s] = recv1 r;" ∷ codes "    print w;" ∷ codes "    ret ()" ∷ codes "}" ∷ []) in
    let last : Long (answers n) ((60 + length (decimal n)) + (34 + length (decimal n)) + 87) =
    sum (sum (sum (long (codes "    let r = fork Sum() tree(6) with [6];\n    let v = recv1 c")) (long (decimal n)))
    (sum (long (codes ";\n    print v;\n    let e = recv1 g")) (long (decimal n)))) (long end) in
    let whole : Long (made_text n) (879 + (63 + length (for_each stage_line n)) + (77 + length (for_each pass_line n)) + length (answers n)) =
    sum (sum (sum (long declarations) (sum (long main) (long (for_each stage_line n)))) (sum (long hand) (long (for_each pass_line n)))) (long (answers n)) in
    omega (arith, whole.is, last.is, number, stages, passes)

pub text_is_short : (text : List ℕ) (n : ℕ) → text ≡ made_text n → n ≤ 5000 → length text ≤ 1048576
text_is_short text n is few = omega (arith, made_is_short n few, ap length is)
