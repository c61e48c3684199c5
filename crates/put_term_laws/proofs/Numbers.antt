-- Lists of made names whose numbers are apart.
use Rattle.std.proofs.Common.{◌≡◌, ℕ, suc, ◌+◌, ◌<◌, ◌≤◌, ◌^◌, Bool, true, false, if◌then◌else◌, codes, List, [], ◌∷◌, ◌++◌, map, length, Option, Some, None, option_map, refl, ap, ◌∙◌, subst, arith, append_assoc}
use Rattle.std.specs.List.{AllByRecursion}
use Rattle.core_language.specs.Names.{Ident, same}
use Rattle.core_language.specs.Terms as core
use Rattle.linear_forms.specs.Substitution.{place_of}
use Rattle.linear_forms.proofs.SameNames.{same_is, same-self}
use Rattle.session_lowering.specs.MadeNames.{numbered_from}
use Rattle.session_lowering.specs.declared.puts.Put.{Put}
use Rattle.chan_syntax.specs.Reading.{term_of}
use Rattle.put_term_laws.specs.Under.{IsClear, IsClearTerm, AreClear, StandFrom, AsMany}
use Rattle.put_term_laws.specs.Shapes.{inside_name, IsOther, IsOtherTerm, ArePutOther}
use Rattle.put_term_laws.proofs.Apart.{numbered_is_one}

abbrev pub names : List ℕ → List Ident
names js = map inside_name js

abbrev NotIn : ℕ → List ℕ → Type 0
NotIn j is = AllByRecursion (λ i. i ≡ j → ⊥) is

abbrev pub AllBelow : ℕ → List ℕ → Type 0
AllBelow n js = AllByRecursion (λ j. j < n) js

abbrev pub AreApart : List ℕ → Type 0
AreApart [] = Unit {0}
AreApart (j ∷ js) = AllByRecursion (λ k. j ≡ k → ⊥) js × AreApart js

-- ---- other names

clear_name : (js : List ℕ) (o : Option Ident) → IsOther o → IsClear (names js) o
clear_name js None is = tt
clear_name [] (Some x) is = refl
clear_name (j ∷ js) (Some x) is = ap (λ b. if b then Some 0 else option_map suc (place_of (names js) x)) (is j) ∙ ap (option_map suc) (clear_name js (Some x) is)

pub clear_term : (js : List ℕ) (t : core.Term) → IsOtherTerm t → IsClearTerm (names js) t
clear_term js [] is = tt
clear_term js (p ∷ ps) (first, rest) = (clear_name js p.name first, clear_term js ps rest)

pub clear_puts : (js : List ℕ) (ps : List Put) → ArePutOther ps → AreClear (names js) ps
clear_puts js [] are = tt
clear_puts js (p ∷ ps) (first, rest) = (clear_term js (term_of p.term) first, clear_puts js ps rest)

-- ---- their own places

place_there : (before : List ℕ) (j : ℕ) (behind : List ℕ) → NotIn j before → AllBelow (2 ^ 64) before → j < 2 ^ 64
    → place_of (names (before ++ j ∷ behind)) (inside_name j) ≡ Some (length before)
place_there [] j behind not_in below small = ap (λ b. if b then Some 0 else option_map suc (place_of (names behind) (inside_name j))) (same-self (inside_name j))
place_there (i ∷ before) j behind (other, not_in) (first, below) small =
    pick (same (inside_name i) (inside_name j)) refl (place_there before j behind not_in below small)
  where
    pick : (b : Bool) → same (inside_name i) (inside_name j) ≡ b → place_of (names (before ++ j ∷ behind)) (inside_name j) ≡ Some (length before)
        → (if b then Some 0 else option_map suc (place_of (names (before ++ j ∷ behind)) (inside_name j))) ≡ Some (suc (length before))
    pick true is more = absurd (other (numbered_is_one (codes "s") i j first small (same_is (inside_name i) (inside_name j) is)))
    pick false is more = ap (option_map suc) more

one_behind : (P : ℕ → Type 0) (is : List ℕ) (j : ℕ) → AllByRecursion P is → P j → AllByRecursion P (is ++ j ∷ [])
one_behind P [] j all here = (here, tt)
one_behind P (i ∷ is) j (first, rest) here = (first, one_behind P is j rest here)

length_more : (xs : List ℕ) (x : ℕ) → length (xs ++ x ∷ []) ≡ suc (length xs)
length_more [] x = refl
length_more (y ∷ xs) x = ap suc (length_more xs x)

not_in_more : (before : List ℕ) (j : ℕ) (js : List ℕ) → AllByRecursion (λ k. NotIn k before) js → AllByRecursion (λ k. j ≡ k → ⊥) js → AllByRecursion (λ k. NotIn k (before ++ j ∷ [])) js
not_in_more before j [] all apart = tt
not_in_more before j (k ∷ ks) (first, rest) (here, others) = (one_behind (λ i. i ≡ k → ⊥) before j first here, not_in_more before j ks rest others)

stand_behind : (before js : List ℕ) → AllByRecursion (λ k. NotIn k before) js → AreApart js → AllBelow (2 ^ 64) before → AllBelow (2 ^ 64) js
    → StandFrom (names (before ++ js)) (length before) (names js)
stand_behind before [] not_in apart below small = tt
stand_behind before (j ∷ js) (first, others) (here, apart) below (one, small) = (
  place_there before j js first below one,
  subst (λ k. StandFrom (names (before ++ j ∷ js)) k (names js)) (length_more before j)
      (subst (λ all. StandFrom (names all) (length (before ++ j ∷ [])) (names js)) (append_assoc before (j ∷ []) js)
      (stand_behind (before ++ j ∷ []) js (not_in_more before j js others here) apart (one_behind (λ i. i < 2 ^ 64) before j below one) small)),
)

none_before : (js : List ℕ) → AllByRecursion (λ k. NotIn k []) js
none_before [] = tt
none_before (j ∷ js) = (tt, none_before js)

pub all_stand : (js : List ℕ) → AreApart js → AllBelow (2 ^ 64) js → StandFrom (names js) 0 (names js)
all_stand js apart small = stand_behind [] js (none_before js) apart tt small

-- ---- a group more

abbrev pub numbers_from : ℕ → List Ident → List ℕ
numbers_from n [] = []
numbers_from n (x ∷ xs) = n ∷ numbers_from (suc n) xs

pub group_names : (n : ℕ) (xs : List Ident) (js : List ℕ) → names (numbers_from n xs ++ js) ≡ numbered_from (codes "s") n xs ++ names js
group_names n [] js = refl
group_names n (x ∷ xs) js = ap (λ ys. inside_name n ∷ ys) (group_names (suc n) xs js)

apart_from : (i n : ℕ) (xs : List Ident) (js : List ℕ) → i < n → AllByRecursion (λ k. i ≡ k → ⊥) js → AllByRecursion (λ k. i ≡ k → ⊥) (numbers_from n xs ++ js)
apart_from i n [] js less all = all
apart_from i n (x ∷ xs) js less all = ((λ is. omega (arith, less, is)), apart_from i (suc n) xs js (omega (arith, less)) all)

above_all : (n : ℕ) (js : List ℕ) → AllBelow n js → AllByRecursion (λ k. n ≡ k → ⊥) js
above_all n [] all = tt
above_all n (j ∷ js) (first, rest) = ((λ is. omega (arith, first, is)), above_all n js rest)

wider : (n m : ℕ) (js : List ℕ) → n ≤ m → AllBelow n js → AllBelow m js
wider n m [] le all = tt
wider n m (j ∷ js) le (first, rest) = (omega (arith, le, first), wider n m js le rest)

pub group_apart : (n : ℕ) (xs : List Ident) (js : List ℕ) → AllBelow n js → AreApart js → AreApart (numbers_from n xs ++ js)
group_apart n [] js below apart = apart
group_apart n (x ∷ xs) js below apart = (apart_from n (suc n) xs js (omega arith) (above_all n js below), group_apart (suc n) xs js (wider n (suc n) js (omega arith) below) apart)

pub group_below : (n : ℕ) (xs : List Ident) (js : List ℕ) → AllBelow n js → AllBelow (n + length xs) (numbers_from n xs ++ js)
group_below n [] js below = wider n (n + 0) js (omega arith) below
group_below n (x ∷ xs) js below =
    (omega arith, subst (λ m. AllBelow m (numbers_from (suc n) xs ++ js)) counted (group_below (suc n) xs js (wider n (suc n) js (omega arith) below)))
  where
    counted : suc n + length xs ≡ n + suc (length xs)
    counted = omega arith

pub all_small : (n : ℕ) (js : List ℕ) → n ≤ 2 ^ 64 → AllBelow n js → AllBelow (2 ^ 64) js
all_small n js le below = wider n (2 ^ 64) js le below

pub group_many : (n : ℕ) (xs bs ns : List Ident) → AsMany bs ns → AsMany (xs ++ bs) (numbered_from (codes "s") n xs ++ ns)
group_many n [] bs ns many = many
group_many n (x ∷ xs) bs ns many = group_many (suc n) xs bs ns many
