-- In a round each task makes at most one fork.
use Rattle.std.proofs.Common.{◌≡◌, ℕ, suc, ◌≤◌, ◌<◌, Bool, true, false, cond, ◌||◌, List, ◌∷◌, Option, Some, None, refl, sym, ap, subst, ◌∙◌, arith}
use Rattle.std.specs.Ordering.{nat_cmp}
use Rattle.std.specs.Cmp.Lexicographic.{slice_cmp, nat_list_cmp_total}
use Rattle.std.specs.FinMap.{get, insert, get-insert}
use Rattle.core_language.specs.Names.{Name, NameMap, same_name}
use Rattle.core_language.specs.Values.{Value}
use Rattle.core_language.specs.Programs.{Program}
use Rattle.core_language.specs.Computing.{machine}
use Rattle.core_language.specs.Configurations.{Config, Task}
use Rattle.core_language.specs.Acts.{Act, act_of}
use Rattle.core_language.specs.Acts as act
use Rattle.core_language.specs.Steps.{effect, sent, received, step_at, machine_step, after_step}
use Rattle.machine_rounds.specs.Sets.{has}
use Rattle.machine_rounds.specs.Showing.{ForksUpTo, ForksWithin}
use Rattle.machine_rounds.proofs.Rounded.{same-self, same-is}

late : (a b : Bool) → b ≡ true → (a || b) ≡ true
late true b e = refl
late false b e = e

early : (a b : Bool) → a ≡ true → (a || b) ≡ true
early true b e = refl
early false b e = cc

module _ (n : ℕ) (p : Name) (rest : List Name) (off : has (slice_cmp nat_cmp) rest p ≡ false) where
  fewer : (tasks : NameMap Task) → ForksWithin n tasks (p ∷ rest) → ForksWithin n tasks rest
  fewer tasks w q t got = ((w q t got).0, λ h. (w q t got).1 (late (same_name q p) (has (slice_cmp nat_cmp) rest q) h))

  put_stepped : (tasks : NameMap Task) (t : Task) → t.forks ≤ suc n → ForksWithin n tasks (p ∷ rest) → ForksWithin n (insert tasks p t) rest
  put_stepped tasks t less w q u got = by (same_name q p) refl (sym (get-insert nat_list_cmp_total tasks p t q) ∙ got)
    where
      by : (b : Bool) → same_name q p ≡ b → cond b (Some t) (get tasks q) ≡ Some u → (u.forks ≤ suc n) × (has (slice_cmp nat_cmp) rest q ≡ true → u.forks ≤ n)
      by true e found =
          let is : t ≡ u = cc in
          (subst (λ (v : Task). v.forks ≤ suc n) is less, λ h. let both = sym h ∙ ap (has (slice_cmp nat_cmp) rest) (same-is q p e) ∙ off in let bad : ⊥ = cc in absurd bad)
      by false e found = fewer tasks w q u found

  put_made : (tasks : NameMap Task) (c : Name) (t : Task) → t.forks ≤ n → ForksWithin n tasks rest → ForksWithin n (insert tasks c t) rest
  put_made tasks c t less w q u got = by (same_name q c) (sym (get-insert nat_list_cmp_total tasks c t q) ∙ got)
    where
      by : (b : Bool) → cond b (Some t) (get tasks q) ≡ Some u → (u.forks ≤ suc n) × (has (slice_cmp nat_cmp) rest q ≡ true → u.forks ≤ n)
      by true found =
          let is : t ≡ u = cc in
          let few : u.forks ≤ n = subst (λ (v : Task). v.forks ≤ n) is less in
          (omega arith, λ h. few)
      by false found = w q u found

  module _ (C : Config) (k : ℕ) (few : k ≤ n) (w : ForksWithin n C.tasks (p ∷ rest)) where
    one_more : k ≤ suc n
    one_more = omega arith

    within_effect : (a : Act) → ForksWithin n (after_step C (effect C p k a)).tasks rest
    within_effect (act.Silent place) = put_stepped C.tasks _ one_more w
    within_effect (act.Print z place) = put_stepped C.tasks _ one_more w
    within_effect (act.Fork c parent its) =
        let more : suc k ≤ suc n = omega arith in
        let none : 0 ≤ n = omega arith in
        put_made _ c _ none (put_stepped C.tasks _ more w)
    within_effect (act.Send c v place) = by (get C.channels c)
      where
        by : (o : Option (Option Value)) → ForksWithin n (after_step C (sent C p k c v place o)).tasks rest
        by (Some None) = put_stepped C.tasks _ one_more w
        by (Some (Some u)) = fewer C.tasks w
        by None = fewer C.tasks w
    within_effect (act.Recv c place) = by (get C.channels c)
      where
        by : (o : Option (Option Value)) → ForksWithin n (after_step C (received C p k c place o)).tasks rest
        by (Some (Some v)) = put_stepped C.tasks _ one_more w
        by (Some None) = fewer C.tasks w
        by None = fewer C.tasks w
    within_effect act.End = put_stepped C.tasks _ one_more w
    within_effect act.IsEnded = fewer C.tasks w
    within_effect (act.IsHalted why) = fewer C.tasks w
    within_effect (act.IsStuck why) = fewer C.tasks w

  pub within_turn : (program : Program) (C : Config) → ForksWithin n C.tasks (p ∷ rest) → ForksWithin n (after_step C (machine_step program C p)).tasks rest
  within_turn program C w = by (get C.tasks p) refl
    where
      by : (o : Option Task) → get C.tasks p ≡ o → ForksWithin n (after_step C (step_at machine program C p o)).tasks rest
      by None e = fewer C.tasks w
      by (Some t) e = within_effect C t.forks ((w p t e).1 (early (same_name p p) (has (slice_cmp nat_cmp) rest p) (same-self p))) w (act_of machine program p t.forks t.place)
