-- The digits of decimal numbers, and where they end.
use Rattle.std.proofs.Common.{◌≡◌, ℕ, zero, suc, ◌+◌, ◌-◌, ◌<◌, ◌≤◌, ◌^◌, ◌&&◌, Bool, true, false, cond, List, [], ◌∷◌, ◌++◌, length, take, drop, get_or, Option, Some, None, Result, Ok, Err, refl, sym, ap, subst, ◌∙◌, rules, arith, length-drop}
use Rattle.std.specs.Char.{is_ascii_digit}
use Rattle.std.specs.Fmt.{decimal}
use Rattle.std.specs.List.{flat_map, list_all, prefix_len}
use Rattle.std.specs.Option.{IfSome, IsSomeAnd}
use Rattle.std.specs.Result.{MatchResult, result_ok}
use Rattle.std.specs.Str.{IsUtf8}
use Rattle.std.specs.Str.Parse.{ParsesUnsigned, digits_value}
use Rattle.std.proofs.lemmas.Fmt.{IsAscii-decimal, decimal-digits_value, decimal_digit, digits_decimal, first_decimal, parse-decimal}
use Rattle.std.proofs.lemmas.List.{take-append-drop}
use Rattle.std.proofs.lemmas.Str.{IsUtf8-from_ascii}
use Rattle.std.proofs.lemmas.Str.Parse.{IsNumeralModel, numerals_by_value, parse_digits}
use Rattle.chan_base.specs.Names.{part_text}

pub digits_alone : IsNumeralModel (λ text. list_all is_ascii_digit text ≡ true) (digits_value 10)
digits_alone = numerals_by_value _ (search rules)

both : (a b : Bool) → (a && b) ≡ true → (a ≡ true) × (b ≡ true)
both true b e = (refl, e)
both false b e = cc

module _ {X : Type 0} (p : X → Bool) where
  pub prefix_len-append : (xs ys : List X) → list_all p xs ≡ true → prefix_len p ys ≡ 0 → prefix_len p (xs ++ ys) ≡ length xs
  prefix_len-append [] ys all none = none
  prefix_len-append (x ∷ xs) ys all none =
      let (first, more) = both (p x) (list_all p xs) all in
      let rest : 1 + prefix_len p (xs ++ ys) ≡ suc (length xs) = omega (arith, prefix_len-append xs ys more none) in
      ap (λ b. cond b (1 + prefix_len p (xs ++ ys)) 0) first ∙ rest

  -- the front that passes passes
  pub list_all-take : (xs : List X) → list_all p (take (prefix_len p xs) xs) ≡ true
  list_all-take [] = refl
  list_all-take (x ∷ xs) = by (p x) refl (list_all-take xs)
    where
      one_more : 1 + prefix_len p xs ≡ suc (prefix_len p xs)
      one_more = omega arith

      by : (b : Bool) → p x ≡ b → list_all p (take (prefix_len p xs) xs) ≡ true → list_all p (take (cond b (1 + prefix_len p xs) 0) (x ∷ xs)) ≡ true
      by true e h = ap (λ n. list_all p (take n (x ∷ xs))) one_more ∙ ap (λ b. b && list_all p (take (prefix_len p xs) xs)) e ∙ h
      by false e h = refl

take_front : (xs ys : List ℕ) → take (length xs) (xs ++ ys) ≡ xs
take_front [] ys = refl
take_front (x ∷ xs) ys = ap (λ t. x ∷ t) (take_front xs ys)

drop_front : (xs ys : List ℕ) → drop (length xs) (xs ++ ys) ≡ ys
drop_front [] ys = refl
drop_front (x ∷ xs) ys = drop_front xs ys

-- parts begin with a dot
pub no_digits : (parts : List ℕ) → prefix_len is_ascii_digit (flat_map part_text parts) ≡ 0
no_digits [] = refl
no_digits (k ∷ parts) = refl

pub digits_before : (k : ℕ) (parts : List ℕ) → k < 2 ^ 32 → prefix_len is_ascii_digit (decimal k ++ flat_map part_text parts) ≡ length (decimal k)
digits_before k parts small =
    prefix_len-append is_ascii_digit (decimal k) (flat_map part_text parts) (digits_decimal digits_alone k (omega arith)) (no_digits parts)

-- a number has no zero in front
pub no_zero : (k : ℕ) → k < 2 ^ 32 → get_or (decimal k) 0 0 ≡ 48 → length (decimal k) ≡ 1
no_zero zero small first = ap length (decimal_digit 0 (omega arith))
no_zero (suc k) small first = absurd (omega (arith, first, first_decimal (suc k) (omega arith) (omega (arith, small))))

pub number_sound : {E : Type 0} (digits : List ℕ) (r : Result ℕ E) → list_all is_ascii_digit digits ≡ true → (get_or digits 0 0 ≡ 48 → length digits ≡ 1)
    → ParsesUnsigned 32 10 digits r → IfSome (result_ok r) (λ k. (digits ≡ decimal k) × (k < 2 ^ 32))
number_sound digits (Err e) all plain parses = tt
number_sound {E} digits (Ok k) all plain parses =
    let told = parse_digits digits_alone {E = E} 32 digits (Ok k) parses all in
    let small : digits_value 10 digits < 2 ^ 32 = told.0.1 in
    let same : decimal (digits_value 10 digits) ≡ digits = decimal-digits_value digits_alone digits all told.0.0 plain (omega (arith, small)) in
    (sym same ∙ ap decimal (sym told.1), omega (arith, small, told.1))

pub number_complete : {E : Type 0} (digits : List ℕ) (r : Result ℕ E) (k : ℕ) → k < 2 ^ 32 → digits ≡ decimal k → ParsesUnsigned 32 10 digits r → result_ok r ≡ Some k
number_complete digits r k small is parses = ap result_ok (parse-decimal 32 k digits r small (omega (arith, small)) is parses)

pub number_utf8 : (k : ℕ) → k < 2 ^ 32 → IsUtf8 (decimal k)
number_utf8 k small = IsUtf8-from_ascii (decimal k) (IsAscii-decimal k (omega (arith, small)))

-- ---- parts

pub begins_with_dot : (text : List ℕ) (k : ℕ) (more : List ℕ) → text ≡ part_text k ++ more → (0 < length text) × (get_or text 0 0 ≡ 46)
begins_with_dot text k more is = (subst (λ t. 0 < length t) (sym is) (omega arith), ap (λ t. get_or t 0 0) is)

pub behind_dot : (text : List ℕ) → 0 < length text → get_or text 0 0 ≡ 46 → text ≡ 46 ∷ drop 1 text
behind_dot [] some dot = absurd (omega (arith, some))
behind_dot (c ∷ text) some dot = ap (λ b. b ∷ text) dot

-- the first part and what stands behind it
pub part_sound : (text : List ℕ) (k : ℕ) → 0 < length text → get_or text 0 0 ≡ 46 → take (prefix_len is_ascii_digit (drop 1 text)) (drop 1 text) ≡ decimal k
    → text ≡ part_text k ++ drop (prefix_len is_ascii_digit (drop 1 text)) (drop 1 text)
part_sound text k some dot is =
    let n = prefix_len is_ascii_digit (drop 1 text) in
    behind_dot text some dot ∙ ap (λ t. 46 ∷ t) (sym (take-append-drop n (drop 1 text)) ∙ ap (λ t. t ++ drop n (drop 1 text)) is)

pub part_digits : (text : List ℕ) (k : ℕ) (parts : List ℕ) → k < 2 ^ 32 → text ≡ part_text k ++ flat_map part_text parts
    → take (prefix_len is_ascii_digit (drop 1 text)) (drop 1 text) ≡ decimal k
part_digits text k parts small is =
    ap (λ t. take (prefix_len is_ascii_digit (drop 1 t)) (drop 1 t)) is ∙ ap (λ n. take n (decimal k ++ flat_map part_text parts)) (digits_before k parts small)
    ∙ take_front (decimal k) (flat_map part_text parts)

pub part_rest : (text : List ℕ) (k : ℕ) (parts : List ℕ) → k < 2 ^ 32 → text ≡ part_text k ++ flat_map part_text parts
    → drop (prefix_len is_ascii_digit (drop 1 text)) (drop 1 text) ≡ flat_map part_text parts
part_rest text k parts small is =
    ap (λ t. drop (prefix_len is_ascii_digit (drop 1 t)) (drop 1 t)) is ∙ ap (λ n. drop n (decimal k ++ flat_map part_text parts)) (digits_before k parts small)
    ∙ drop_front (decimal k) (flat_map part_text parts)

-- ---- results

pub no_err : {A E : Type 0} (r : Result A E) (P : A → Type 0) (Q : E → Type 0) → ((e : E) → Q e → ⊥) → MatchResult r P Q → result_ok r ≡ None → ⊥
no_err (Ok x) P Q none h e = cc
no_err (Err y) P Q none h e = none y h

pub some_ok : {A E : Type 0} (r : Result A E) (P : A → Type 0) (Q : E → Type 0) (x : A) → MatchResult r P Q → result_ok r ≡ Some x → P x
some_ok (Ok y) P Q x h e = let same : y ≡ x = cc in subst P same h
some_ok (Err y) P Q x h e = cc

pub some_first : (digits : List ℕ) → get_or digits 0 0 ≡ 48 → length digits ≤ 1 → length digits ≡ 1
some_first [] first short = absurd (omega (arith, first))
some_first (d ∷ digits) first short = omega (arith, short)

pub found_and : {X : Type 0} (P : X → Type 0) (o : Option X) (x : X) → IsSomeAnd o P → o ≡ Some x → P x
found_and P (Some y) x h e = let same : y ≡ x = cc in subst P same h
found_and P None x h e = cc

pub found_if : {X : Type 0} (P : X → Type 0) (o : Option X) (x : X) → IfSome o P → o ≡ Some x → P x
found_if P (Some y) x h e = let same : y ≡ x = cc in subst P same h
found_if P None x h e = cc

pub none_found : {X : Type 0} (P : X → Type 0) (o : Option X) → IsSomeAnd o P → o ≡ None → ⊥
none_found P (Some y) h e = cc
none_found P None h e = h

pub no_items : (xs : List ℕ) → length xs ≡ 0 → xs ≡ []
no_items [] e = refl
no_items (x ∷ xs) e = absurd (omega arith)

take_long : (n : ℕ) (xs : List ℕ) → length xs ≤ n → take n xs ≡ xs
take_long zero [] long = refl
take_long (suc n) [] long = refl
take_long zero (x ∷ xs) long = absurd (omega (arith, long))
take_long (suc n) (x ∷ xs) long = ap (λ t. x ∷ t) (take_long n xs (omega (arith, long)))

-- a slice to the end
pub to_the_end : (xs : List ℕ) (n : ℕ) → take (length xs - n) (drop n xs) ≡ drop n xs
to_the_end xs n = take_long (length xs - n) (drop n xs) (omega (arith, length-drop n xs))
