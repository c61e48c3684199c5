-- The example passes the tests, and so has the laws.
use Rattle.std.proofs.Common.{◌≡◌, true, [], ◌∷◌, refl}
use Rattle.grammar_laws.specs.Grammar.{named, below}
use Rattle.grammar_laws.specs.Laws.{name_tests, tests, Samples}
use Rattle.grammar_laws.specs.Example.{Name, Pair, body, brackets, pair, IsUnique, IsExact, IsComplete}
use Rattle.grammar_laws.proofs.Sound.{named_sound}
use Rattle.grammar_laws.proofs.Knot.{outcome_is, one_tree, whole_is}

name_passes : (x : Name) → name_tests brackets x ≡ true
unfolding pair
name_passes Pair = refl

pair_passes : tests brackets pair ≡ true
unfolding pair
pair_passes = refl

samples : Samples brackets
unfolding named below pair
samples Pair = let i = named_sound (λ t. t) (λ _. 0 ∷ []) body 1 Pair (0 ∷ 1 ∷ []) 1 [] refl in (1, 1, i.0, i.2)

pub is_unique : IsUnique
is_unique x y ts d e = one_tree brackets name_passes samples pair pair_passes x y ts d e

pub is_exact : IsExact
is_exact n ts = outcome_is brackets name_passes samples n pair pair_passes ts

pub is_complete : IsComplete
is_complete n x ts d = whole_is brackets name_passes samples n pair pair_passes x ts d
