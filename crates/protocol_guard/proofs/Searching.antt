-- What a search by breadth keeps, and what it shows.
use Rattle.std.proofs.Common.{◌≡◌, ◌≢◌, ℕ, zero, suc, ◌+◌, ◌*◌, ◌<◌, ◌≤◌, Bool, true, false, true≢false, List, [], ◌∷◌, ◌++◌, length, get_or, set, replicate, Option, Some, None, slice_get, option_and_then, refl, sym, ap, ◌∙◌, subst, arith, ◌⊎◌, inl, inr, ⊎_elim}
use Rattle.std.proofs.lemmas.Option.{none-some, same_Some}
use Rattle.std.proofs.lemmas.Grind.{common_steps}
use Rattle.std.proofs.lemmas.Bool.{cases_lt}
use Rattle.chan_syntax.specs.declared.operands.Letter.{Letter}
use Rattle.chan_syntax.specs.declared.operands.Letter.TheVariants as letter
use Rattle.protocol_guard.specs.declared.graphs.Turns.{Turns}
use Rattle.protocol_guard.specs.declared.searches.Step.{Step}
use Rattle.protocol_guard.specs.Guards.{step, walk, Returns, IsShortestReturn}
use Rattle.protocol_guard.specs.Searches.{bit, code, way_to, Found, Searched, unseen}
use Rattle.protocol_guard.proofs.Codes.{bit_small, code-snoc, code_least, before_less}
use Rattle.protocol_guard.proofs.Ways.{get-left, get-last, way-kept, way-new, way_first}

-- ---- ways turn by turn, from the end

walk-snoc : (graph : List Turns) (i : ℕ) (way : List Letter) (t : Letter) → walk graph i (way ++ t ∷ []) ≡ option_and_then (λ j. step graph j t) (walk graph i way)
unfolding walk
walk-snoc graph i [] t = by (step graph i t)
  where
    by : (o : Option ℕ) → option_and_then (λ j. Some j) o ≡ o
    by None = refl
    by (Some j) = refl
walk-snoc graph i (u ∷ us) t = by (step graph i u) (λ j. walk-snoc graph j us t)
  where
    by : (o : Option ℕ) → ((j : ℕ) → walk graph j (us ++ t ∷ []) ≡ option_and_then (λ k. step graph k t) (walk graph j us))
        → option_and_then (λ j. walk graph j (us ++ t ∷ [])) o ≡ option_and_then (λ j. step graph j t) (option_and_then (λ j. walk graph j us) o)
    by None more = refl
    by (Some j) more = more j

walk-nil : (graph : List Turns) (i : ℕ) → walk graph i [] ≡ Some i
unfolding walk
walk-nil graph i = refl

abbrev backwards : List Letter → List Letter
backwards [] = []
backwards (t ∷ ts) = backwards ts ++ t ∷ []

first-last : (r : List Letter) (t : Letter) → backwards (r ++ t ∷ []) ≡ t ∷ backwards r
first-last [] t = refl
first-last (u ∷ us) t = ap (λ ts. ts ++ u ∷ []) (first-last us t)

all_backwards : (way : List Letter) → (r : List Letter) × (backwards r ≡ way)
all_backwards [] = ([], refl)
all_backwards (t ∷ ts) = let (r, is) = all_backwards ts in (r ++ t ∷ [], first-last r t ∙ ap (λ us. t ∷ us) is)

returns-walk : (graph : List Turns) (i : ℕ) (way : List Letter) → Returns graph i way → (walk graph i way ≡ Some i) × (way ≢ [])
returns-walk graph i [] back = absurd back
returns-walk graph i (t ∷ ts) back = (back, λ is. cc)

walk-returns : (graph : List Turns) (i : ℕ) (way : List Letter) (t : Letter) → walk graph i (way ++ t ∷ []) ≡ Some i → Returns graph i (way ++ t ∷ [])
walk-returns graph i [] t is = is
walk-returns graph i (u ∷ us) t is = is

same_turn : (a b : Letter) → bit a ≡ bit b → a ≡ b
same_turn letter.Left letter.Left is = refl
same_turn letter.Left letter.Right is = absurd (omega (arith, is))
same_turn letter.Right letter.Left is = absurd (omega (arith, is))
same_turn letter.Right letter.Right is = refl

set_known : (seen : List Bool) (i v : ℕ) → get_or (set seen i true) v false ≡ true → (v ≡ i) ⊎ (get_or seen v false ≡ true)
set_known [] i v is = inr is
set_known (b ∷ bs) zero zero is = inl refl
set_known (b ∷ bs) zero (suc v) is = inr is
set_known (b ∷ bs) (suc i) zero is = inr is
set_known (b ∷ bs) (suc i) (suc v) is = ⊎_elim (λ same. inl (ap suc same)) inr (set_known bs i v is)

get-push : {X : Type 0} (xs : List X) (x : X) (i : ℕ) (q : X) → slice_get (xs ++ (x ∷ [])) i ≡ Some q → (slice_get xs i ≡ Some q) ⊎ ((i ≡ length xs) × (x ≡ q))
get-push [] x zero q at = inr (refl, same_Some x q at)
get-push [] x (suc i) q at = absurd (none-some q at)
get-push (y ∷ xs) x zero q at = inl at
get-push (y ∷ xs) x (suc i) q at = ⊎_elim inl (λ new. inr (ap suc new.0, new.1)) (get-push xs x i q at)

-- ---- the search

module _ (graph : List Turns) (start : ℕ) where
  module _ (places : List ℕ) (steps : List Step) (seen : List Bool) (t : ℕ) (s : Searched graph start places steps seen t) where
    abbrev C : ℕ → ℕ
    C k = code (way_to steps k)

    some : (k : ℕ) → 1 ≤ C k
    some k = code_least 1 (way_to steps k)

    ordered : (k m : ℕ) → k < length places → C m ≤ C k → m < length places → m ≤ k
    ordered k m lt le below = ⊎_elim (λ after. absurd (let up = s.ascend k m after below in omega (arith, up, le))) (λ not. not) (cases_lt k m)

    -- where a bound shuts off what isn't yet taken, each way within it leads to a place that was found by a way that doesn't come after
    covers : (P : ℕ → Type 0) → ((n m : ℕ) → m ≤ n → P n → P m) → ((k n : ℕ) (turn : Letter) → k < length places → C k ≤ n → P (2 * n + bit turn) → 2 * k + bit turn < t)
        → (r : List Letter) (j : ℕ) → walk graph start (backwards r) ≡ Some j → P (code (backwards r))
        → ((r ≡ []) ⊎ (j ≢ start)) × (k : ℕ) × Found places k j × (C k ≤ code (backwards r))
    covers P down free [] j is within =
        let one : C 0 ≡ 1 = ap code s.empty in
        let count = s.count in
        (inl refl, 0, (omega (arith, count), s.begins ∙ same_Some start j (sym (walk-nil graph start) ∙ is)), omega (arith, one))
    covers P down free (u ∷ us) j is within = by (walk graph start (backwards us)) refl (covers P down free us) (sym (walk-snoc graph start (backwards us) u) ∙ is)
      where
        number : code (backwards us ++ u ∷ []) ≡ 2 * code (backwards us) + bit u
        number = code-snoc 1 (backwards us) u

        by : (o : Option ℕ) → walk graph start (backwards us) ≡ o
            → ((i : ℕ) → walk graph start (backwards us) ≡ Some i → P (code (backwards us)) → ((us ≡ []) ⊎ (i ≢ start)) × (k : ℕ) × Found places k i × (C k ≤ code (backwards us)))
            → option_and_then (λ i. step graph i u) o ≡ Some j → ((u ∷ us ≡ []) ⊎ (j ≢ start)) × (k : ℕ) × Found places k j × (C k ≤ code (backwards us ++ u ∷ []))
        by None at more goes = absurd (none-some j goes)
        by (Some i) at more goes =
            let (_, k, (below, there), le) = more i at (down (code (backwards us ++ u ∷ [])) (code (backwards us)) (omega (arith, number)) within) in
            let next : step graph (get_or places k 0) u ≡ Some j = ap (λ p. step graph p u) there ∙ goes in
            let (away, m, found, few) = s.taken k u j below (free k (code (backwards us)) u below le (subst P number within)) next in
            (inr away, m, found, omega (arith, number, few, le))

    -- once all turns are taken, no way leads back
    pub none_returns : 2 * length places ≤ t → (way : List Letter) → ¬ (Returns graph start way)
    none_returns all way back =
        let (r, is) = all_backwards way in
        let (leads, some_turn) = returns-walk graph start way back in
        let found = covers (λ n. Unit {0}) (λ n m le p. tt) (λ k n turn lt le p. let small = bit_small turn in omega (arith, all, lt, small)) r start (ap (walk graph start) is ∙ leads) tt in
        ⊎_elim (λ empty. some_turn (sym is ∙ ap backwards empty)) (λ away. away refl) found.0

    -- a turn that leads back ends a shortest way
    pub returns_shortest : (h : ℕ) (turn : Letter) → h < length places → 2 * h + bit turn ≡ t → step graph (get_or places h 0) turn ≡ Some start → IsShortestReturn graph start (way_to steps h ++ turn ∷ [])
    returns_shortest h turn lt now back = record {
      returns = walk-returns graph start (way_to steps h) turn (walk-snoc graph start (way_to steps h) turn ∙ ap (λ o. option_and_then (λ j. step graph j turn) o) (s.walks h lt) ∙ back);
      shortest = λ other returns before.
          let (r, is) = all_backwards other in
          let (leads, some_turn) = returns-walk graph start other returns in
          let number : code (way_to steps h ++ turn ∷ []) ≡ 2 * C h + bit turn = code-snoc 1 (way_to steps h) turn in
          let less : code other < 2 * C h + bit turn = let b = before_less other (way_to steps h ++ turn ∷ []) before in omega (arith, b, number) in
          let found = covers (λ n. n < 2 * C h + bit turn) (λ n m le p. omega (arith, le, p)) opens r start (ap (walk graph start) is ∙ leads) (subst (λ w. code w < 2 * C h + bit turn) (sym is) less) in
          ⊎_elim (λ empty. some_turn (sym is ∙ ap backwards empty)) (λ away. away refl) found.0;
    }
      where
        opens : (k n : ℕ) (u : Letter) → k < length places → C k ≤ n → 2 * n + bit u < 2 * C h + bit turn → 2 * k + bit u < t
        opens k n u below le within =
            let small = bit_small u in
            let small_turn = bit_small turn in
            let early : k ≤ h = ordered h k lt (omega (arith, le, within, small, small_turn)) below in
            ⊎_elim (λ (before : k < h). omega (arith, before, now, small)) (λ (not : h ≤ k).
            let same : k ≡ h = omega (arith, not, early) in
            let one : C k ≡ C h = ap C same in
            omega (arith, same, one, le, within, now)) (cases_lt k h)

    -- each way that was found comes before that by the next turn
    below_now : (h : ℕ) (turn : Letter) → h < length places → 2 * h + bit turn ≡ t → (m : ℕ) → m < length places → C m < 2 * C h + bit turn
    below_now h turn lt now m below = ⊎_elim
        (λ first. let one : C m ≡ 1 = ap C first ∙ ap code s.empty in let up = some h in omega (arith, one, up))
        (λ later.
        let (g, u, within, early, way) = later in
        let number : C m ≡ 2 * C g + bit u = ap code way ∙ code-snoc 1 (way_to steps g) u in
        let small = bit_small u in
        let small_turn = bit_small turn in
        ⊎_elim (λ (before : g < h). let up = s.ascend g h before lt in omega (arith, number, up, small)) (λ (not : h ≤ g).
        let same : g ≡ h = omega (arith, not, early, now, small, small_turn) in
        let one : C g ≡ C h = ap C same in
        omega (arith, number, one, same, early, now)) (cases_lt g h))
        (s.came m below)

    sooner : (k : ℕ) (u : Letter) (h : ℕ) (turn : Letter) → 2 * h + bit turn ≡ t → 2 * k + bit u < suc t → (2 * k + bit u < t) ⊎ ((k ≡ h) × (u ≡ turn))
    sooner k u h turn now lt =
        let small = bit_small u in
        let small_turn = bit_small turn in
        ⊎_elim inl (λ (not : t ≤ 2 * k + bit u).
        let same : k ≡ h = omega (arith, not, lt, now, small, small_turn) in
        inr (same, same_turn u turn (omega (arith, not, lt, now, same)))) (cases_lt (2 * k + bit u) t)

    -- a turn that leads nowhere, or to a place that was found before
    pub goes_on : (h : ℕ) (turn : Letter) → h < length places → 2 * h + bit turn ≡ t
        → ((j : ℕ) → step graph (get_or places h 0) turn ≡ Some j → (j ≢ start) × (m : ℕ) × Found places m j) → Searched graph start places steps seen (suc t)
    goes_on h turn lt now leads = record {
      count = s.count;
      marks = s.marks;
      begins = s.begins;
      inside = s.inside;
      empty = s.empty;
      came = λ k below. ⊎_elim inl (λ later. let (g, u, within, early, way) = later in inr (g, u, within, omega (arith, early), way)) (s.came k below);
      walks = s.walks;
      ascend = s.ascend;
      taken = λ k u j below early goes. ⊎_elim
          (λ old. s.taken k u j below old goes)
          (λ new.
          let (same, one) = new in
          let here : step graph (get_or places h 0) turn ≡ Some j = sym (ap (λ i. step graph (get_or places i 0) turn) same) ∙ sym (ap (step graph (get_or places k 0)) one) ∙ goes in
          let (away, m, found) = leads j here in
          let less = below_now h turn lt now m found.0 in
          let number : C k ≡ C h = ap C same in
          let bits : bit u ≡ bit turn = ap bit one in
          (away, m, found, omega (arith, less, number, bits)))
          (sooner k u h turn now early);
      known = s.known;
      backward = s.backward;
    }

    -- a turn that leads to a new place
    pub finds : (h : ℕ) (turn : Letter) (next : ℕ) → h < length places → 2 * h + bit turn ≡ t → step graph (get_or places h 0) turn ≡ Some next → next ≢ start → next < length graph
        → Searched graph start (places ++ next ∷ []) (steps ++ record { from = h; turn = turn } ∷ []) (set seen next true) (suc t)
    finds h turn next lt now goes away inside = record {
      count = let count = s.count in grind (arith, common_steps, count);
      marks = let marks = s.marks in grind (arith, common_steps, marks);
      begins = get-left places (next ∷ []) 0 0 (omega (arith, lt)) ∙ s.begins;
      inside = λ k below. ⊎_elim (λ old. subst (λ p. p < length graph) (sym (kept k old)) (s.inside k old)) (λ new. subst (λ p. p < length graph) (sym (get-last places next 0 k new)) inside) (which k below);
      empty = way k0 (omega (arith, lt)) ∙ s.empty;
      came = λ k below. ⊎_elim
          (λ old. ⊎_elim inl (λ later.
          let (g, u, within, early, is) = later in
          inr (g, u, more g within, omega (arith, early), way k old ∙ is ∙ ap (λ w. w ++ u ∷ []) (sym (way g within)))) (s.came k old))
          (λ new. inr (h, turn, more h lt, omega (arith, now), newest k new ∙ ap (λ w. w ++ turn ∷ []) (sym (way h lt))))
          (which k below);
      walks = λ k below. ⊎_elim
          (λ old. ap (walk graph start) (way k old) ∙ s.walks k old ∙ ap Some (sym (kept k old)))
          (λ new.
          ap (walk graph start) (newest k new)
          ∙ walk-snoc graph start (way_to steps h) turn
          ∙ ap (λ o. option_and_then (λ j. step graph j turn) o) (s.walks h lt)
          ∙ goes
          ∙ ap Some (sym (get-last places next 0 k new)))
          (which k below);
      ascend = λ k m before below. ⊎_elim
          (λ old.
          let up = s.ascend k m before old in
          let a : code (way_to steps' k) ≡ C k = ap code (way k (omega (arith, before, old))) in
          let b : code (way_to steps' m) ≡ C m = ap code (way m old) in
          omega (arith, up, a, b))
          (λ new.
          let early : k < length places = omega (arith, before, new) in
          let up = below_now h turn lt now k early in
          let a : code (way_to steps' k) ≡ C k = ap code (way k early) in
          let b : code (way_to steps' m) ≡ 2 * C h + bit turn = ap code (newest m new) ∙ code-snoc 1 (way_to steps h) turn in
          omega (arith, up, a, b))
          (which m below);
      taken = λ k u j below early leads.
          let old : k < length places = ⊎_elim (λ is. is) (λ is. let small = bit_small u in let small_turn = bit_small turn in absurd (omega (arith, is, early, now, lt, small))) (which k below) in
          let here : step graph (get_or places k 0) u ≡ Some j = ap (λ i. step graph i u) (sym (kept k old)) ∙ leads in
          let its : code (way_to steps' k) ≡ C k = ap code (way k old) in
          ⊎_elim
          (λ before.
          let (apart, m, (within, there), few) = s.taken k u j old before here in
          let number : code (way_to steps' m) ≡ C m = ap code (way m within) in
          (apart, m, (more m within, kept m within ∙ there), omega (arith, few, its, number)))
          (λ new.
          let (same, one) = new in
          let at : step graph (get_or places h 0) turn ≡ Some j = sym (ap (λ i. step graph (get_or places i 0) turn) same) ∙ sym (ap (step graph (get_or places k 0)) one) ∙ here in
          let found : j ≡ next = same_Some j next (sym at ∙ goes) in
          let number : code (way_to steps' (length places)) ≡ 2 * C h + bit turn = ap code (newest (length places) refl) ∙ code-snoc 1 (way_to steps h) turn in
          let equal : C k ≡ C h = ap C same in
          let bits : bit u ≡ bit turn = ap bit one in (
            λ is. away (sym found ∙ is),
            length places,
            (grind (arith, common_steps), get-last places next 0 (length places) refl ∙ sym found),
            omega (arith, number, its, equal, bits),
          ))
          (sooner k u h turn now early);
      known = λ v is. ⊎_elim
          (λ new. (length places, (grind (arith, common_steps), get-last places next 0 (length places) refl ∙ sym new)))
          (λ old. let (m, (within, there)) = s.known v old in (m, (more m within, kept m within ∙ there)))
          (set_known seen next v is);
      backward = λ k last is. ⊎_elim
          (λ old. s.backward k last old)
          (λ new.
          let count = s.count in
          let from : h ≡ last.from = ap (λ x. x.from) new.1 in
          omega (arith, lt, count, new.0, from))
          (get-push steps (record { from = h; turn = turn }) k last is);
    }
      where
        k0 : ℕ
        k0 = 0

        steps' : List Step
        steps' = steps ++ record { from = h; turn = turn } ∷ []

        which : (k : ℕ) → k < length (places ++ next ∷ []) → (k < length places) ⊎ (k ≡ length places)
        which k below = ⊎_elim inl (λ (not : length places ≤ k). inr (grind (arith, common_steps, not, below))) (cases_lt k (length places))

        more : (k : ℕ) → k < length places → k < length (places ++ next ∷ [])
        more k below = grind (arith, common_steps, below)

        kept : (k : ℕ) → k < length places → get_or (places ++ next ∷ []) k 0 ≡ get_or places k 0
        kept k below = get-left places (next ∷ []) k 0 below

        way : (k : ℕ) → k < length places → way_to steps' k ≡ way_to steps k
        way k below = let count = s.count in way-kept steps (record { from = h; turn = turn }) k (omega (arith, count, below))

        newest : (k : ℕ) → k ≡ length places → way_to steps' k ≡ way_to steps h ++ turn ∷ []
        newest k new = let count = s.count in way-new steps (record { from = h; turn = turn }) k (omega (arith, count, new))

-- ---- the beginning

none_seen : (n v : ℕ) → get_or (replicate n false) v false ≡ true → ⊥
none_seen zero v is = true≢false (sym is)
none_seen (suc n) zero is = true≢false (sym is)
none_seen (suc n) (suc v) is = none_seen n v is

no_steps : (k : ℕ) (s : Step) → slice_get [] k ≡ Some s → ⊥
no_steps zero s is = none-some s is
no_steps (suc k) s is = none-some s is

pub begun : (graph : List Turns) (start : ℕ) → start < length graph → Searched graph start (start ∷ []) [] (set (replicate (length graph) false) start true) 0
begun graph start lt = record {
  count = refl;
  marks = grind (arith, common_steps);
  begins = refl;
  inside = λ k below. let first : k ≡ 0 = omega (arith, below) in subst (λ i. get_or (start ∷ []) i 0 < length graph) (sym first) lt;
  empty = way_first [];
  came = λ k below. inl (omega (arith, below));
  walks = λ k below. let first : k ≡ 0 = omega (arith, below) in subst (λ i. walk graph start (way_to [] i) ≡ Some (get_or (start ∷ []) i 0)) (sym first) (ap (walk graph start) (way_first []) ∙ walk-nil graph start);
  ascend = λ k m before below. absurd (omega (arith, before, below));
  taken = λ k turn j below early goes. absurd (omega (arith, early));
  known = λ v is. ⊎_elim (λ same. (0, (omega arith, sym same))) (λ old. absurd (none_seen (length graph) v old)) (set_known (replicate (length graph) false) start v is);
  backward = λ k s is. absurd (no_steps k s is);
}

-- ---- how many places are not seen

pub unseen_less : (seen : List Bool) (i : ℕ) → i < length seen → get_or seen i false ≡ false → unseen (set seen i true) + 1 ≡ unseen seen
unseen_less [] i lt is = absurd (omega (arith, lt))
unseen_less (true ∷ bs) zero lt is = absurd (true≢false is)
unseen_less (false ∷ bs) zero lt is = omega arith
unseen_less (true ∷ bs) (suc i) lt is = unseen_less bs i (omega (arith, lt)) is
unseen_less (false ∷ bs) (suc i) lt is = omega (arith, unseen_less bs i (omega (arith, lt)) is)
