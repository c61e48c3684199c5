-- Lists that are cut, and lists with one more.
use Rattle.std.proofs.Common.{◌≡◌, ℕ, ◌≤◌, List, [], ◌∷◌, ◌++◌, length, take, ap, ◌∙◌, arith}
use Rattle.std.specs.List.{AllByRecursion}
use Rattle.std.proofs.lemmas.List.{take-append-le, length-append}
use Rattle.outline_contexts.specs.Trails.{Begins}

-- a list that begins with another
module _ {A : Type 0} (old new : List A) (begins : Begins old new) where
  pub cut_begun : (n : ℕ) → n ≤ length old → take n new ≡ take n old
  cut_begun n le = ap (take n) begins.1 ∙ take-append-le n old begins.0 le

  pub longer : length old ≤ length new
  longer = let long = ap length begins.1 in omega (arith, long, length-append old begins.0)

pub all_last : {A : Type 0} (P : A → Type 0) (xs : List A) (x : A) → AllByRecursion P (xs ++ x ∷ []) → P x
all_last P [] x all = all.0
all_last P (y ∷ ys) x all = all_last P ys x all.1

pub all_front : {A : Type 0} (P : A → Type 0) (xs : List A) (x : A) → AllByRecursion P (xs ++ x ∷ []) → AllByRecursion P xs
all_front P [] x all = tt
all_front P (y ∷ ys) x all = (all.0, all_front P ys x all.1)

pub all_pushed : {A : Type 0} (P : A → Type 0) (xs : List A) (x : A) → AllByRecursion P xs → P x → AllByRecursion P (xs ++ x ∷ [])
all_pushed P [] x all last = (last, tt)
all_pushed P (y ∷ ys) x all last = (all.0, all_pushed P ys x all.1 last)
