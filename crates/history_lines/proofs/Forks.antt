-- How many forks entries have.
use Rattle.std.proofs.Common.{◌≡◌, ◌+◌, Bool, true, false, List, [], ◌∷◌, length, filter, if◌then◌else◌, arith}
use Rattle.core_language.specs.Rounds.{Entry, is_fork, forks_of}

-- one more entry
pub one_more : (e : Entry) (es : List Entry) → forks_of (e ∷ es) ≡ forks_of (e ∷ []) + forks_of es
one_more e es = go (is_fork e.event)
  where
    go : (fork : Bool) → length (if fork then e ∷ filter (λ (e : Entry). is_fork e.event) es else filter (λ (e : Entry). is_fork e.event) es)
        ≡ length (if fork then e ∷ [] else []) + forks_of es
    go true = omega arith
    go false = omega arith
