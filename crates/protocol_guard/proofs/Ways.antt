-- The ways of a search.
use Rattle.std.proofs.Common.{◌≡◌, ℕ, zero, suc, ◌+◌, ◌<◌, ◌≤◌, List, [], ◌∷◌, ◌++◌, length, get_or, reverse, Some, slice_get, refl, sym, ap, ◌∙◌, arith}
use Rattle.std.proofs.lemmas.Grind.{common_steps}
use Rattle.chan_syntax.specs.declared.operands.Letter.{Letter}
use Rattle.protocol_guard.specs.declared.searches.Step.{Step}
use Rattle.protocol_guard.specs.Searches.{ways_from, way_to}

-- a list that grows keeps what it has
pub get-left : {A : Type 0} (xs ys : List A) (i : ℕ) (d : A) → i < length xs → get_or (xs ++ ys) i d ≡ get_or xs i d
get-left [] ys i d lt = absurd (omega (arith, lt))
get-left (x ∷ xs) ys zero d lt = refl
get-left (x ∷ xs) ys (suc i) d lt = get-left xs ys i d (omega (arith, lt))

pub get-last : {A : Type 0} (xs : List A) (x d : A) (i : ℕ) → i ≡ length xs → get_or (xs ++ x ∷ []) i d ≡ x
get-last [] x d zero is = refl
get-last [] x d (suc i) is = absurd (omega (arith, is))
get-last (y ∷ xs) x d zero is = absurd (omega (arith, is))
get-last (y ∷ xs) x d (suc i) is = get-last xs x d i (omega (arith, is))

ways-long : (ways : List (List Letter)) (ss : List Step) → length (ways_from ways ss) ≡ length ways + length ss
unfolding ways_from
ways-long ways [] = omega arith
ways-long ways (s ∷ ss) = let more = ways-long (ways ++ (get_or ways s.from [] ++ s.turn ∷ []) ∷ []) ss in grind (arith, common_steps, more)

ways-snoc : (ways : List (List Letter)) (ss : List Step) (s : Step) → ways_from ways (ss ++ s ∷ []) ≡ ways_from ways ss ++ (get_or (ways_from ways ss) s.from [] ++ s.turn ∷ []) ∷ []
unfolding ways_from
ways-snoc ways [] s = refl
ways-snoc ways (x ∷ ss) s = ways-snoc (ways ++ (get_or ways x.from [] ++ x.turn ∷ []) ∷ []) ss s

-- an earlier place keeps its way
pub way-kept : (steps : List Step) (s : Step) (k : ℕ) → k ≤ length steps → way_to (steps ++ s ∷ []) k ≡ way_to steps k
way-kept steps s k le =
    ap (λ (ws : List (List Letter)). get_or ws k []) (ways-snoc ([] ∷ []) steps s)
    ∙ get-left (ways_from ([] ∷ []) steps) _ k [] (let long = ways-long ([] ∷ []) steps in omega (arith, long, le))

-- the new place has one turn more
pub way-new : (steps : List Step) (s : Step) (k : ℕ) → k ≡ suc (length steps) → way_to (steps ++ s ∷ []) k ≡ way_to steps s.from ++ s.turn ∷ []
way-new steps s k is =
    ap (λ (ws : List (List Letter)). get_or ws k []) (ways-snoc ([] ∷ []) steps s)
    ∙ get-last (ways_from ([] ∷ []) steps) _ [] k (let long = ways-long ([] ∷ []) steps in omega (arith, long, is))

ways-stable : (ways : List (List Letter)) (ss : List Step) (i : ℕ) → i < length ways → get_or (ways_from ways ss) i [] ≡ get_or ways i []
unfolding ways_from
ways-stable ways [] i lt = refl
ways-stable ways (s ∷ ss) i lt =
    let more : i < length (ways ++ (get_or ways s.from [] ++ s.turn ∷ []) ∷ []) = grind (arith, common_steps, lt) in
    ways-stable (ways ++ (get_or ways s.from [] ++ s.turn ∷ []) ∷ []) ss i more ∙ get-left ways _ i [] lt

way-at : (ways : List (List Letter)) (ss : List Step) (k n : ℕ) (s : Step) → slice_get ss k ≡ Some s → n ≡ length ways + k → s.from < n → get_or (ways_from ways ss) n [] ≡ get_or (ways_from ways ss) s.from [] ++ s.turn ∷ []
unfolding ways_from
way-at ways [] k n s here is lt = cc
way-at ways (x ∷ ss) zero n s here is lt =
    let same : x ≡ s = cc in
    let long : n < length (ways ++ (get_or ways x.from [] ++ x.turn ∷ []) ∷ []) = grind (arith, common_steps, is) in
    let from : x.from < length ways = let e = ap (λ (y : Step). y.from) same in omega (arith, e, lt, is) in
    let more : x.from < length (ways ++ (get_or ways x.from [] ++ x.turn ∷ []) ∷ []) = grind (arith, common_steps, from) in
    ways-stable (ways ++ (get_or ways x.from [] ++ x.turn ∷ []) ∷ []) ss n long
    ∙ get-last ways _ [] n (omega (arith, is))
    ∙ ap (λ w. w ++ x.turn ∷ []) (sym (ways-stable (ways ++ (get_or ways x.from [] ++ x.turn ∷ []) ∷ []) ss x.from more ∙ get-left ways _ x.from [] from))
    ∙ ap (λ (y : Step). get_or (ways_from (ways ++ (get_or ways x.from [] ++ x.turn ∷ []) ∷ []) ss) y.from [] ++ y.turn ∷ []) same
way-at ways (x ∷ ss) (suc k) n s here is lt =
    let long : n ≡ length (ways ++ (get_or ways x.from [] ++ x.turn ∷ []) ∷ []) + k = grind (arith, common_steps, is) in
    way-at (ways ++ (get_or ways x.from [] ++ x.turn ∷ []) ∷ []) ss k n s here long lt

-- the way to a place by its last turn
pub way_by : (steps : List Step) (k n : ℕ) (s : Step) → slice_get steps k ≡ Some s → n ≡ suc k → s.from ≤ k → way_to steps n ≡ way_to steps s.from ++ s.turn ∷ []
way_by steps k n s here is le = way-at ([] ∷ []) steps k n s here (omega (arith, is)) (omega (arith, is, le))

pub way_first : (steps : List Step) → way_to steps 0 ≡ []
way_first steps = ways-stable ([] ∷ []) steps 0 (omega arith)

pub read : (steps : List Step) (k : ℕ) (d : Step) → k < length steps → slice_get steps k ≡ Some (get_or steps k d)
read [] k d lt = absurd (omega (arith, lt))
read (s ∷ ss) zero d lt = refl
read (s ∷ ss) (suc k) d lt = read ss k d (omega (arith, lt))

pub reverse-push : (ts : List Letter) (t : Letter) → reverse (ts ++ t ∷ []) ≡ t ∷ reverse ts
reverse-push ts t = grind (arith, common_steps)
