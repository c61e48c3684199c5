-- What stands in a resource for its names and binders where terms are put in.
use Rattle.std.specs.Prelude.{◌≡◌, ◌⊎◌, ℕ, suc, ◌+◌, ◌≤◌, ℤ, ◌*ℤ◌, true, false, if◌then◌else◌, List, [], ◌∷◌, All, map, flat_map, find, length, Option, Some, None}
use Rattle.std.specs.List.{list_any}
use Rattle.core_language.specs.Names.{Ident, same}
use Rattle.core_language.specs.Terms.{Part, Term, Limit}
use Rattle.core_language.specs.Resources.{Shape, Res, Resources}
use Rattle.core_language.specs.Resources as resource
use Rattle.linear_forms.specs.Terms.{IntVar, times_of}
use Rattle.linear_forms.specs.Normal.{names_of}
use Rattle.linear_forms.specs.Substitution.{Scoped, puts, catches, Fits}

-- ---- terms

-- so often a name, or a bare number
abbrev pub counting : ℤ → Option Ident → Part
counting times name = record { negative = false; factor = times; name = name }

-- a term some times
abbrev pub scaled : ℤ → Term → Term
scaled weight term = map (λ p. counting (weight *ℤ times_of p) p.name) term

-- the new name of a binder
abbrev pub new_name : (before after : List Ident) → Ident → Option Ident
new_name [] zs x = None
new_name (y ∷ ys) [] x = None
new_name (y ∷ ys) (z ∷ zs) x = if same y x then Some z else new_name ys zs x

-- what stands for a name: a binder's new name, or a term, or the name itself
abbrev pub stands_for : Option Ident → Option IntVar → ℤ → Ident → Term
stands_for (Some z) var times x = counting times (Some z) ∷ []
stands_for None (Some v) times x = scaled times v.term
stands_for None None times x = counting times (Some x) ∷ []

abbrev pub replaced_name : (before after : List Ident) → List IntVar → ℤ → Option Ident → Term
replaced_name before after put times None = counting times None ∷ []
replaced_name before after put times (Some x) = stands_for (new_name before after x) (find (λ v. same v.name x) put) times x

abbrev pub replaced_part : (before after : List Ident) → List IntVar → Part → Term
replaced_part before after put p = replaced_name before after put (times_of p) p.name

abbrev pub replaced : (before after : List Ident) → List IntVar → Term → Term
replaced before after put term = flat_map (replaced_part before after put) term

-- ---- lengths of names

abbrev pub IsShort : ℕ → Ident → Type 0
IsShort most x = length x ≤ most

-- each name of the term is at most so long
abbrev pub IsShortTerm : ℕ → Term → Type 0
IsShortTerm most term = All (IsShort most) (names_of term)

pub record IsShortLimit (most : ℕ) (limit : Limit) : Type 0 where
  pub left : IsShortTerm most limit.left
  pub right : IsShortTerm most limit.right

abbrev mutual
  pub IsShortShape : ℕ → Shape → Type 0
  IsShortShape most resource.Unit = Unit {0}
  IsShortShape most (resource.Int t) = IsShortTerm most t
  IsShortShape most (resource.End r) = All (IsShortTerm most) r.args
  IsShortShape most (resource.Pair a b) = IsShortRes most a × IsShortRes most b
  IsShortShape most (resource.Sum rs) = AreShortResources most rs

  pub IsShortRes : ℕ → Res → Type 0
  IsShortRes most (resource.Binds b s) = All (IsShort most) b.names × All (IsShortLimit most) b.limits × IsShortShape most s

  pub AreShortResources : ℕ → Resources → Type 0
  AreShortResources most resource.NoMore = Unit {0}
  AreShortResources most (resource.More r rs) = IsShortRes most r × AreShortResources most rs

-- the terms for names have short names
abbrev pub ArePutShort : ℕ → List IntVar → Type 0
ArePutShort most put = All (λ v. IsShortTerm most v.term) put

-- ---- binders

-- a binder with so many around it: it keeps its name, which no term that is put in names, or has one longer than all others
abbrev pub IsSafe : ℕ → List IntVar → List Scoped → ℕ → Ident → Ident → Type 0
IsSafe most put terms around y z =
    IsShort most y × ((z ≡ y) × (list_any (puts put y) terms ≡ false) ⊎ (length z ≡ suc most + around))

-- the binders of a list and their new names, with so many around all of them
abbrev pub AreSafe : ℕ → List IntVar → List Scoped → ℕ → (before after : List Ident) → Type 0
AreSafe most put terms around [] [] = Unit {0}
AreSafe most put terms around [] (z ∷ zs) = ⊥
AreSafe most put terms around (y ∷ ys) [] = ⊥
AreSafe most put terms around (y ∷ ys) (z ∷ zs) = IsSafe most put terms (length ys + around) y z × AreSafe most put terms around ys zs

-- a binder keeps its name, or where it would catch a name it has one longer than all others
pub record IsLonger (most : ℕ) (put : List IntVar) (before : List Ident) (res : Res) (y z : Ident) : Type 0 where
  pub short : IsShort most y
  pub kept : catches put before res y ≡ false → z ≡ y
  pub longer : catches put before res y ≡ true → suc most ≤ length z

-- ---- places where terms are put in

-- a term under binders that are safe for it
pub record IsReady (put : List IntVar) (before after : List Ident) (term : Term) : Type 0 where
  pub most : ℕ
  pub safe : AreSafe most put (record { binders = before; term = term } ∷ []) 0 before after
  pub short : IsShortTerm most term
  pub put_short : ArePutShort most put

pub record IsReadyLimit (put : List IntVar) (before after : List Ident) (limit : Limit) : Type 0 where
  pub left : IsReady put before after limit.left
  pub right : IsReady put before after limit.right

-- the normal forms of both terms have numbers of 64 bits
pub record FitsLimit (put : List IntVar) (before : List Ident) (limit : Limit) : Type 0 where
  pub left : Fits put before limit.left
  pub right : Fits put before limit.right
