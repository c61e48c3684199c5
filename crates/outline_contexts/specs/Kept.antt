-- What is kept of a trail: which entries are held, in order.
use Rattle.std.specs.Prelude.{◌≡◌, ℕ, ◌≤◌, Bool, true, false, List, [], ◌∷◌, All, length, map, slice_set}
use Rattle.std.specs.List.{range_with_len}
use Rattle.farkas_check.specs.Rows.{IsNarrow}
use Rattle.outline_language.specs.Nameless.{Shape}
use Rattle.outline_language.specs.Contexts.{Entry}
use Rattle.core_language.specs.Names.{Ident}
use Rattle.outline_contexts.specs.Trails.{Trail, AreBelow, is_taken, is_held}

abbrev pub held_of : List ℕ → (many : ℕ) → List Bool
held_of taken many = map (is_held taken) (range_with_len 0 many)

-- the entries at these places are held again
abbrev pub released : List ℕ → List Bool → List Bool
released [] held = held
released (k ∷ ks) held = released ks (slice_set held k true)

-- no place was taken twice
abbrev pub AreApart : List ℕ → Type 0
AreApart [] = Unit {0}
AreApart (k ∷ ks) = (is_taken ks k ≡ false) × AreApart ks

pub record IsKept (trail : Trail) (marks : List Bool) : Type 0 where
  pub few : length trail.ints ≤ 256
  pub narrow : All IsNarrow trail.hyps
  pub as_many : length trail.names ≡ length trail.shapes
  pub held : marks ≡ held_of trail.taken (length trail.shapes)
  pub below : AreBelow trail
  pub apart : AreApart trail.taken

-- the entries, by what is kept of them
abbrev pub entries_by : List Bool → List Ident → List Shape → List Entry
entries_by (h ∷ hs) (x ∷ xs) (s ∷ ss) = record { name = x; shape = s; held = h } ∷ entries_by hs xs ss
entries_by _ _ _ = []
