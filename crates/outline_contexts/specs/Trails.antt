-- Contexts as lists that only grow.
use Rattle.std.specs.Prelude.{◌≡◌, ℕ, suc, ◌<◌, Bool, not, nat_eq, List, [], ◌∷◌, ◌++◌, All, length}
use Rattle.std.specs.List.{list_any}
use Rattle.core_language.specs.Names.{Ident}
use Rattle.farkas_check.specs.declared.cert.Row.{Row}
use Rattle.outline_language.specs.Nameless.{Shape}
use Rattle.outline_language.specs.Contexts.{Entry, Context}

-- what came, in order: integer variables, hypotheses, the names of entries and their shapes;
-- and the places of the entries that are no longer held, in the order in which they were taken
pub record Trail : Type 0 where
  pub ints : List Ident
  pub hyps : List Row
  pub names : List Ident
  pub shapes : List Shape
  pub taken : List ℕ

abbrev pub is_taken : List ℕ → (place : ℕ) → Bool
is_taken taken place = list_any (λ k. nat_eq k place) taken

abbrev pub is_held : List ℕ → (place : ℕ) → Bool
is_held taken place = not (is_taken taken place)

-- the entries from a place on
abbrev pub entries_from : List ℕ → (place : ℕ) → List Ident → List Shape → List Entry
entries_from taken place [] shapes = []
entries_from taken place (x ∷ xs) [] = []
entries_from taken place (x ∷ xs) (s ∷ ss) = record { name = x; shape = s; held = is_held taken place } ∷ entries_from taken (suc place) xs ss

abbrev pub context_in : Trail → Context
context_in trail = record { ints = trail.ints; hyps = trail.hyps; entries = entries_from trail.taken 0 trail.names trail.shapes }

-- what was taken is an entry
abbrev pub AreBelow : Trail → Type 0
AreBelow trail = All (λ k. k < length trail.shapes) trail.taken

-- the second list begins with the first
abbrev pub Begins : {A : Type 0} → (old new : List A) → Type 0
Begins {A} old new = (more : List A) × (new ≡ old ++ more)

-- nothing that was there has gone
pub record IsAfter (old new : Trail) : Type 0 where
  pub ints : Begins old.ints new.ints
  pub hyps : Begins old.hyps new.hyps
  pub names : Begins old.names new.names
  pub shapes : Begins old.shapes new.shapes
  pub taken : Begins old.taken new.taken

-- how long the lists are
pub record Lengths : Type 0 where
  pub ints : ℕ
  pub hyps : ℕ
  pub names : ℕ
  pub shapes : ℕ
  pub taken : ℕ

abbrev pub mark_of : Trail → Lengths
mark_of trail = record {
  ints = length trail.ints;
  hyps = length trail.hyps;
  names = length trail.names;
  shapes = length trail.shapes;
  taken = length trail.taken;
}
