-- Where one run ends, each run comes to the same end, with the same events of each task.
use Rattle.std.proofs.Common.{◌≡◌, ℕ, suc, ◌+◌, Bool, true, false, cond, List, [], ◌∷◌, ◌++◌, length, Option, Some, None, refl, ap, sym, subst, ◌∙◌, arith}
use Rattle.std.proofs.lemmas.List.{append-nil}
use Rattle.orders.specs.Paths.{Path, Final, Diamond, own}

module _ {S K E : Type 0} (step : S → K → Option (S × E)) (same : K → K → Bool) (same-is : (a b : K) → same a b ≡ true → a ≡ b) (same-self : (a : K) → same a a ≡ true)
    (Good : S → Type 0) (keeps : (s : S) (p : K) (t : S) (e : E) → Good s → step s p ≡ Some (t, e) → Good t) (diamond : Diamond step Good) where
  some_one : {A : Type 0} {a b : A} → Some a ≡ Some b → a ≡ b
  some_one e = cc

  none_some : {A : Type 0} {a : A} → None ≡ Some a → ⊥
  none_some e = cc

  some_first : {t u : S} {e f : E} → ◌≡◌ {A = Option (S × E)} (Some (t, e)) (Some (u, f)) → t ≡ u
  some_first h = ap (λ z. z.0) (some_one h)

  some_second : {t u : S} {e f : E} → ◌≡◌ {A = Option (S × E)} (Some (t, e)) (Some (u, f)) → e ≡ f
  some_second h = ap (λ z. z.1) (some_one h)

  -- what is left of a run to the end after one of its tasks stepped first
  abbrev Left : S → ℕ → S → List (K × E) → K → E → Type 0
  Left t n end es p e = (qs : List K) × (fs : List (K × E)) × Path step t qs end fs × (n ≡ suc (length qs)) × ((r : K) → own same r es ≡ own same r ((p, e) ∷ fs))

  pub pull : (ps : List K) (s end : S) (es : List (K × E)) → Good s → Path step s ps end es → Final step end → (p : K) (t : S) (e : E) → step s p ≡ Some (t, e) → Left t (length ps) end es p e
  pull [] s end es good (at_end, none) final p t e h = absurd (none_some (sym (final p) ∙ ap (λ x. step x p) at_end ∙ h))
  pull (q ∷ ps) s end es good (u, f, fs, g, rest, is_es) final p t e h = go (same p q) refl (λ d k. pull ps u end fs (keeps s q u f good g) rest final p d e k)
    where
      swap : (r : K) (a b : Bool) → same r p ≡ a → same r q ≡ b → (p ≡ q → ⊥) → (xs ys : List (K × E)) → xs ≡ cond a ((p, e) ∷ ys) ys → cond b ((q, f) ∷ xs) xs ≡ cond a ((p, e) ∷ cond b ((q, f) ∷ ys) ys) (cond b ((q, f) ∷ ys) ys)
      swap r true true i j apart xs ys x = absurd (apart (sym (same-is r p i) ∙ same-is r q j))
      swap r true false i j apart xs ys x = x
      swap r false true i j apart xs ys x = ap (λ z. (q, f) ∷ z) x
      swap r false false i j apart xs ys x = x

      last : (p ≡ q → ⊥) → (d : S) → step t q ≡ Some (d, f) → Left d (length ps) end fs p e → Left t (suc (length ps)) end es p e
      last apart d k (qs, gs, path, len, owns) = (q ∷ qs, (q, f) ∷ gs, (d, f, gs, k, path, refl), ap suc len, λ r. rw is_es (swap r (same r p) (same r q) refl refl apart (own same r fs) (own same r gs) (owns r)))

      go : (b : Bool) → same p q ≡ b → ((d : S) → step u p ≡ Some (d, e) → Left d (length ps) end fs p e) → Left t (suc (length ps)) end es p e
      go true is_q ih = let pq : p ≡ q = same-is p q is_q in let z = sym g ∙ ap (step s) (sym pq) ∙ h in
          (ps, fs, subst (λ x. Path step x ps end fs) (some_first z) rest, refl, λ r. ap (own same r) (is_es ∙ ap (λ x. x ∷ fs) (pairs (sym pq) (some_second z))))
        where
          pairs : {a b : K} {x y : E} → a ≡ b → x ≡ y → ◌≡◌ {A = K × E} (a, x) (b, y)
          pairs e f = λ i. (e i, f i)
      go false is_q ih = let apart : p ≡ q → ⊥ = λ e. differ e in by apart (diamond s p q t u e f good apart h g)
        where
          differ : p ≡ q → ⊥
          differ z = let y : same p q ≡ true = ap (same p) (sym z) ∙ same-self p in cc

          by : (p ≡ q → ⊥) → (v : S) × (step t q ≡ Some (v, f)) × (step u p ≡ Some (v, e)) → Left t (suc (length ps)) end es p e
          by apart (d, tq, up) = last apart d tq (ih d up)

  -- what another run has still to do
  abbrev pub Rest : S → ℕ → ℕ → S → List (K × E) → List (K × E) → Type 0
  Rest m n k end es fs = (rest : List K) × (gs : List (K × E)) × Path step m rest end gs × (n ≡ k + length rest) × ((r : K) → own same r es ≡ own same r fs ++ own same r gs)

  -- each other run has not come further than that, and can go on to the same end, with the same events of each task
  pub any_run : (qs ps : List K) (s end m : S) (es fs : List (K × E)) → Good s → Path step s ps end es → Final step end → Path step s qs m fs → Rest m (length ps) (length qs) end es fs
  any_run [] ps s end m es fs good path final (at_s, none) = (ps, es, subst (λ x. Path step x ps end es) (sym at_s) path, omega arith, λ r. rw none refl)
  any_run (q ∷ qs) ps s end m es fs good path final (t, e, hs, h, run, is_fs) = go (pull ps s end es good path final q t e h) (λ rs gs left. any_run qs rs t end m gs hs (keeps s q t e good h) left final run)
    where
      step_own : (b : Bool) (xs ys zs : List (K × E)) → zs ≡ xs ++ ys → cond b ((q, e) ∷ zs) zs ≡ cond b ((q, e) ∷ xs) xs ++ ys
      step_own true xs ys zs x = ap (λ z. (q, e) ∷ z) x
      step_own false xs ys zs x = x

      next : (rs : List K) (gs : List (K × E)) → length ps ≡ suc (length rs) → ((r : K) → own same r es ≡ own same r ((q, e) ∷ gs)) → Rest m (length rs) (length qs) end gs hs → Rest m (length ps) (suc (length qs)) end es fs
      next rs gs len owns (rest, left, path, n, owns') = (rest, left, path, omega arith, λ r. owns r ∙ step_own (same r q) (own same r hs) (own same r left) (own same r gs) (owns' r) ∙ ap (λ x. own same r x ++ own same r left) (sym is_fs))

      go : Left t (length ps) end es q e → ((rs : List K) (gs : List (K × E)) → Path step t rs end gs → Rest m (length rs) (length qs) end gs hs) → Rest m (length ps) (suc (length qs)) end es fs
      go (rs, gs, left, len, owns) ih = next rs gs len owns (ih rs gs left)

  -- One answer for all schedules, the core: two runs to an end have one length, one end, and the same events of each task
  pub one_end : (ps qs : List K) (s end m : S) (es fs : List (K × E)) → Good s → Path step s ps end es → Final step end → Path step s qs m fs → Final step m →
      (m ≡ end) × (length ps ≡ length qs) × ((r : K) → own same r es ≡ own same r fs)
  one_end ps qs s end m es fs good path final run final' = go (any_run qs ps s end m es fs good path final run)
    where
      at_end : (rest : List K) (gs : List (K × E)) → Path step m rest end gs → length ps ≡ length qs + length rest → ((r : K) → own same r es ≡ own same r fs ++ own same r gs) → (m ≡ end) × (length ps ≡ length qs) × ((r : K) → own same r es ≡ own same r fs)
      at_end [] gs (same_end, none) len owns = (sym same_end, omega arith, λ r. owns r ∙ ap (λ x. own same r fs ++ own same r x) none ∙ append-nil (own same r fs))
      at_end (p ∷ rest) gs (t, e, hs, h, run, is_gs) len owns = absurd (none_some (sym (final' p) ∙ h))

      go : Rest m (length ps) (length qs) end es fs → (m ≡ end) × (length ps ≡ length qs) × ((r : K) → own same r es ≡ own same r fs)
      go (rest, gs, path, len, owns) = at_end rest gs path len owns
