-- A context and older ones, which are what its lists were.
use Rattle.std.specs.Prelude.{◌≤◌, List, [], ◌∷◌, map, take}
use Rattle.std.specs.List.{AllByRecursion}
use Rattle.outline_contexts.specs.Trails.{Trail, Lengths, AreBelow, mark_of}

-- the context as it is now, and those that are kept, the latest last
pub record Stacked : Type 0 where
  pub current : Trail
  pub kept : List Trail

-- lists that are cut back to these lengths
abbrev pub cut : Lengths → Trail → Trail
cut l trail = record {
  ints = take l.ints trail.ints;
  hyps = take l.hyps trail.hyps;
  names = take l.names trail.names;
  shapes = take l.shapes trail.shapes;
  taken = take l.taken trail.taken;
}

abbrev pub kept_of : Trail → List Lengths → List Trail
kept_of trail lengths = map (λ l. cut l trail) lengths

-- no list is longer
pub record IsWithin (l m : Lengths) : Type 0 where
  pub ints : l.ints ≤ m.ints
  pub hyps : l.hyps ≤ m.hyps
  pub names : l.names ≤ m.names
  pub shapes : l.shapes ≤ m.shapes
  pub taken : l.taken ≤ m.taken

-- lengths to which it can be cut back
pub record IsBack (trail : Trail) (l : Lengths) : Type 0 where
  pub within : IsWithin l (mark_of trail)
  pub below : AreBelow (cut l trail)

-- each within those after it
abbrev pub AreNested : List Lengths → Trail → Type 0
AreNested [] trail = Unit {0}
AreNested (l ∷ ls) trail = IsBack trail l × AllByRecursion (IsWithin l) ls × AreNested ls trail
