-- What a body names is what the nodes mention that stand in it.
use Rattle.std.proofs.Common.{◌≡◌, ℕ, zero, suc, ◌+◌, ◌<◌, ◌≤◌, Bool, true, false, ◌||◌, List, [], ◌∷◌, length, get_or, Some, slice_get, ⊎_elim, sym, ap, ◌∙◌, subst, arith}
use Rattle.std.specs.List.{list_any}
use Rattle.std.proofs.lemmas.Bool.{or_cases, or_left, or_right, cases_lt, false≢true}
use Rattle.std.proofs.lemmas.Option.{slice_get_cases, slice_get_within, slice_get-get_or}
use Rattle.core_language.specs.Names.{Ident, same}
use Rattle.core_language.specs.Configurations.{names}
use Rattle.core_programs.specs.declared.nodes.Node.{Node}
use Rattle.core_programs.specs.declared.nodes.Parts.{Parts}
use Rattle.core_programs.specs.Bodies.{rest}
use Rattle.core_programs.specs.Formed.{nexts, IsNumbered}
use Rattle.name_uses.specs.Uses.{is_between}
use Rattle.core_programs.specs.Uses.{mentions, uses_from, StandBefore, IsContiguous}
use Rattle.core_programs.proofs.Forests.{rest_opened}
use Rattle.core_programs.proofs.Mentioned.{names_opened}
use Rattle.name_uses.proofs.Searching.{between}
use Rattle.core_programs.proofs.Using.{Mentions, same_truth, used, uses, bounds}

module _ (parts : Parts) (numbered : IsNumbered parts) (x : Ident) where
  abbrev pub named : ℕ → Bool
  named n = names (rest parts.nodes n) x

  -- a node from one number to before another mentions the name
  abbrev Within : ℕ → ℕ → Type 0
  Within s end = (u : ℕ) × (s ≤ u) × (u < end) × Mentions parts.nodes x u

  opens : (n : ℕ) (y : Node) → n < length parts.nodes → slice_get parts.nodes n ≡ Some y → named n ≡ (list_any (same x) (mentions y) || list_any named (nexts y))
  opens n y lt is = ap (λ b. names b x) (rest_opened parts n y numbered lt is) ∙ names_opened x y (rest parts.nodes)

  here : (n : ℕ) (y : Node) → slice_get parts.nodes n ≡ Some y → Mentions parts.nodes x n → list_any (same x) (mentions y) ≡ true
  here n y is (z, at, mentioned) = let found : z ≡ y = cc in subst (λ w. list_any (same x) (mentions w) ≡ true) found mentioned

  -- ---- one node

  used_at : (numbers : List ℕ) (n : ℕ) (y : Node) → numbers ≡ uses_from 0 parts.nodes x → slice_get parts.nodes n ≡ Some y
      → list_any (is_between n n) numbers ≡ list_any (same x) (mentions y)
  used_at numbers n y are is = same_truth _ _
      (λ e.
      let (k, mentioned, passes) = used (is_between n n) x 0 parts.nodes (ap (list_any (is_between n n)) (sym are) ∙ e) in
      let (from, to) = bounds n n (0 + k) passes in
      let equal : k ≡ n = omega (arith, from, to) in
      here n y is (subst (Mentions parts.nodes x) equal mentioned))
      (λ e. ap (list_any (is_between n n)) are ∙ uses (is_between n n) x 0 parts.nodes n (y, is, e) (between n n (0 + n) (omega arith) (omega arith)))

  -- what a body names is at its node, or in the bodies that follow
  pub named_at : (numbers : List ℕ) (n : ℕ) (y : Node) → numbers ≡ uses_from 0 parts.nodes x → n < length parts.nodes → slice_get parts.nodes n ≡ Some y
      → named n ≡ (list_any (is_between n n) numbers || list_any named (nexts y))
  named_at numbers n y are lt is = opens n y lt is ∙ ap (λ b. b || list_any named (nexts y)) (sym (used_at numbers n y are is))

  -- where the node has no use
  pub unread : (numbers ns : List ℕ) (n : ℕ) (y : Node) → numbers ≡ uses_from 0 parts.nodes x → n < length parts.nodes → slice_get parts.nodes n ≡ Some y
      → list_any (is_between n n) numbers ≡ false → ns ≡ nexts y → named n ≡ list_any named ns
  unread numbers ns n y are lt is out follow = named_at numbers n y are lt is ∙ ap (λ b. b || list_any named (nexts y)) out ∙ ap (list_any named) (sym follow)

  -- ---- nodes that stand right behind the bodies that they name

  module _ (starts : List ℕ) (contiguous : IsContiguous parts.nodes starts) where
    abbrev Spans : ℕ → ℕ → Type 0
    Spans n s = (s ≤ n) × (named n ≡ true → Within s (n + 1)) × (Within s (n + 1) → named n ≡ true)

    together : (ns : List ℕ) (end s : ℕ) → StandBefore starts ns end s → ((m t : ℕ) → m < end → slice_get starts m ≡ Some t → Spans m t)
        → (s ≤ end) × (list_any named ns ≡ true → Within s end) × (Within s end → list_any named ns ≡ true)
    together [] end s is all = (omega (arith, is), λ e. absurd (false≢true e), λ w. absurd (omega (arith, is, w.1, w.2)))
    together (m ∷ ms) end s (behind, at) all =
        let (past, to, from) = together ms end (m + 1) behind all in
        let (low, into, back) = all m s (omega (arith, past)) at in (
          omega (arith, low, past),
          λ e. ⊎_elim
              (λ first. let (u, above, below, mentioned) = into first in (u, above, omega (arith, below, past), mentioned))
              (λ later. let (u, above, below, mentioned) = to later in (u, omega (arith, above, low), below, mentioned))
              (or_cases (named m) (list_any named ms) e),
          λ w. let (u, above, below, mentioned) = w in ⊎_elim
              (λ lt. or_left (named m) (list_any named ms) (back (u, above, lt, mentioned)))
              (λ ge. or_right (named m) (list_any named ms) (from (u, ge, below, mentioned)))
              (cases_lt u (m + 1)),
        )

    spans : (d n s : ℕ) → n < d → n < length parts.nodes → slice_get starts n ≡ Some s → Spans n s
    spans zero n s less lt at = absurd (omega (arith, less))
    spans (suc d) n s less lt at = ⊎_elim
        (λ found.
        let y = found.0 in
        let is = found.2 in
        let (t, begins, stands) = contiguous n y is in
        let equal : t ≡ s = cc in
        let (low, to, from) = together (nexts y) n s (subst (StandBefore starts (nexts y) n) equal stands)
        (λ m r below has. spans d m r (omega (arith, below, less)) (omega (arith, below, lt)) has) in (
          low,
          λ e. ⊎_elim
              (λ first. (n, low, omega arith, (y, is, first)))
              (λ later. let (u, above, below, mentioned) = to later in (u, above, omega (arith, below), mentioned))
              (or_cases (list_any (same x) (mentions y)) (list_any named (nexts y)) (sym (opens n y lt is) ∙ e)),
          λ w. let (u, above, below, mentioned) = w in opens n y lt is ∙ ⊎_elim
              (λ before. or_right (list_any (same x) (mentions y)) (list_any named (nexts y)) (from (u, above, before, mentioned)))
              (λ ge.
              let last : u ≡ n = omega (arith, ge, below) in
              or_left (list_any (same x) (mentions y)) (list_any named (nexts y)) (here n y is (subst (Mentions parts.nodes x) last mentioned)))
              (cases_lt u n),
        ))
        (λ past. absurd (omega (arith, past.0, lt)))
        (slice_get_cases parts.nodes n).1

    pub start_within : (n : ℕ) → n < length parts.nodes → n < length starts
    start_within n lt = ⊎_elim
        (λ found. let (s, begins, stands) = contiguous n found.0 found.2 in slice_get_within starts n s begins)
        (λ past. absurd (omega (arith, past.0, lt)))
        (slice_get_cases parts.nodes n).1

    spans_at : (n : ℕ) → n < length parts.nodes → Spans n (get_or starts n 0)
    spans_at n lt = spans (suc n) n (get_or starts n 0) (omega arith) lt (slice_get-get_or starts n 0 (start_within n lt))

    pub start_below : (n : ℕ) → n < length parts.nodes → get_or starts n 0 ≤ n
    start_below n lt = (spans_at n lt).0

    -- a body names what is used from its start on and up to its node
    pub spanned : (numbers : List ℕ) (n : ℕ) → numbers ≡ uses_from 0 parts.nodes x → n < length parts.nodes → list_any (is_between (get_or starts n 0) n) numbers ≡ named n
    spanned numbers n are lt =
        let test = is_between (get_or starts n 0) n in
        let (low, into, back) = spans_at n lt in
        same_truth _ _
        (λ e.
        let (k, mentioned, passes) = used test x 0 parts.nodes (ap (list_any test) (sym are) ∙ e) in
        let (from, to) = bounds (get_or starts n 0) n (0 + k) passes in
        back (k, omega (arith, from), omega (arith, to), mentioned))
        (λ e.
        let (u, above, below, mentioned) = into e in
        ap (list_any test) are ∙ uses test x 0 parts.nodes u mentioned (between (get_or starts n 0) n (0 + u) (omega (arith, above)) (omega (arith, below))))
