-- The entries of one task.
use Rattle.std.proofs.Common.{◌≡◌, inl, inr, Bool, true, false, cond, List, [], ◌∷◌, ◌++◌, refl, ap, ◌∙◌}
use Rattle.core_language.specs.Names.{Name, same_name}
use Rattle.core_language.specs.Rounds.{Entry}
use Rattle.machine_rounds.proofs.Rounded.{same-self, same-is}
use Rattle.task_rounds.specs.Members.{In}
use Rattle.task_rounds.specs.Tasks.{own}
use Rattle.task_rounds.proofs.Members.{in_filter, from_filter}

module _ (p : Name) where
  pub own-append : (es fs : List Entry) → own p (es ++ fs) ≡ own p es ++ own p fs
  own-append [] fs = refl
  own-append (e ∷ es) fs = by (same_name e.name p) (own-append es fs)
    where
      by : (b : Bool) → own p (es ++ fs) ≡ own p es ++ own p fs → cond b (e ∷ own p (es ++ fs)) (own p (es ++ fs)) ≡ cond b (e ∷ own p es) (own p es) ++ own p fs
      by true rest = ap (λ l. e ∷ l) rest
      by false rest = rest

  pub in_own : (e : Entry) (es : List Entry) → In e es → e.name ≡ p → In e (own p es)
  in_own e es h is = in_filter (λ x. same_name x.name p) e es h (ap (λ q. same_name q p) is ∙ same-self p)

  pub from_own : (e : Entry) (es : List Entry) → In e (own p es) → In e es × (e.name ≡ p)
  from_own e es h = let found = from_filter (λ x. same_name x.name p) e es h in (found.0, same-is e.name p found.1)

  pub own_none : (es : List Entry) → ((e : Entry) → In e es → e.name ≡ p → ⊥) → own p es ≡ []
  own_none [] none = refl
  own_none (e ∷ es) none = by (same_name e.name p) refl (own_none es (λ x h. none x (inr h)))
    where
      by : (b : Bool) → same_name e.name p ≡ b → own p es ≡ [] → cond b (e ∷ own p es) (own p es) ≡ []
      by true h rest = absurd (none e (inl refl) (same-is e.name p h))
      by false h rest = rest
