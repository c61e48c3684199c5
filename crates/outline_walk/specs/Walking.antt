-- For private functions: what is left of a walk, whose first fault each of its steps keeps.
use Rattle.std.specs.Prelude.{◌≡◌, Bool, true, false, ℕ, suc, ◌+◌, ◌-◌, ◌*◌, ◌<◌, List, [], ◌∷◌, ◌++◌, length, drop, Option, Some, None, slice_get, Result, Ok, Err}
use Rattle.core_language.specs.Programs.{Body}
use Rattle.core_programs.specs.Bodies.{program_of, rest}
use Rattle.core_programs.specs.Following.{size}
use Rattle.outline_language.specs.Contexts.{Why, Context}
use Rattle.outline_language.specs.Outlined.{Fault, least, faults_of_body}
use Rattle.outline_walk.specs.declared.walking.Later.{Later}
use Rattle.outline_walk.specs.Forms.{Setting, Meets, bodies_after, picked}

-- the body at a number of a node
abbrev pub body_at : Setting → ℕ → Body
body_at s n = rest s.parts.nodes n

abbrev pub faults_of : Setting → Context → Body → List Fault
faults_of s ctx body = faults_of_body (program_of s.parts) s.own ctx body

-- the rule of a form was met, or its fault was taken
abbrev pub IsTried : Bool → Setting → (old new : Context) → Body → (before after : Option Fault) → Type 0
IsTried true s old new body before after = (after ≡ before) × Meets s old new body
IsTried false s old new body before after = after ≡ least before (faults_of s old body)

-- ---- bodies that follow a form

abbrev pub faults_in : Setting → Result Context Why → Body → List Fault
faults_in s (Ok ctx) body = faults_of s ctx body
faults_in s (Err why) body = []

-- the faults of bodies, from a number on, each in its context
abbrev pub faults_from : Setting → (ℕ → Result Context Why) → (number : ℕ) → List Body → List Fault
faults_from s pick number [] = []
faults_from s pick number (b ∷ bs) = faults_in s (pick number) b ++ faults_from s pick (suc number) bs

-- each body that follows has a context
abbrev pub AreOpen : Context → Body → Type 0
AreOpen ctx body = (number : ℕ) (b : Body) → slice_get (bodies_after body) number ≡ Some b → (after : Context) × (picked ctx body number ≡ Ok after)

-- ---- what is left

abbrev pub faults_at : Setting → Context → Option ℕ → List Fault
faults_at s ctx None = []
faults_at s ctx (Some n) = faults_of s ctx (body_at s n)

-- the bodies of a node from a turn on, in the context that its rule left
abbrev pub left_faults : Setting → Context → Later → List Fault
left_faults s ctx l = faults_from s (picked ctx (body_at s l.number)) l.turn (drop l.turn (bodies_after (body_at s l.number)))

-- the nodes that were put off, the last one first
abbrev pub later_faults : Setting → List Context → List Later → List Fault
later_faults s (ctx ∷ saved) (l ∷ ls) = later_faults s saved ls ++ left_faults s ctx l
later_faults s _ _ = []

abbrev pub IsWithin : Setting → Option ℕ → Type 0
IsWithin s None = Unit {0}
IsWithin s (Some n) = n < length s.parts.nodes

-- a context for each node that was put off, in which the bodies that follow it have theirs
abbrev pub Waiting : Setting → List Context → List Later → Type 0
Waiting s [] [] = Unit {0}
Waiting s (ctx ∷ saved) (l ∷ ls) = (l.number < length s.parts.nodes) × AreOpen ctx (body_at s l.number) × Waiting s saved ls
Waiting s _ _ = ⊥

-- the first fault of all, once what is left is walked
pub record Walking (s : Setting) (whole best : Option Fault) (ctx : Context) (saved : List Context) (at : Option ℕ) (later : List Later) : Type 0 where
  pub same : least best (faults_at s ctx at ++ later_faults s saved later) ≡ whole
  pub within : IsWithin s at
  pub waiting : Waiting s saved later

-- ---- how much is left

abbrev pub sizes : List Body → ℕ
sizes [] = 0
sizes (b ∷ bs) = size b + sizes bs

abbrev pub later_size : Setting → List Later → ℕ
later_size s [] = 0
later_size s (l ∷ ls) = (1 + 3 * sizes (drop l.turn (bodies_after (body_at s l.number)))) + later_size s ls

abbrev pub at_size : Setting → Option ℕ → ℕ
at_size s None = 0
at_size s (Some n) = 3 * size (body_at s n) - 1

abbrev pub left_size : Setting → Option ℕ → List Later → ℕ
left_size s at later = at_size s at + later_size s later
