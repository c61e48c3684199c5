-- Faults of form, and which of several comes first.
use Rattle.std.specs.Prelude.{◌≡◌, ℕ, Bool, true, false, ◌||◌, ◌&&◌, if◌then◌else◌, nat_eq, nat_lt, List, [], ◌∷◌, ◌++◌, Option, Some, None, slice_get}
use Rattle.std.specs.List.{list_all, list_any}
use Rattle.core_language.specs.Names.{Ident}
use Rattle.chan_base.specs.declared.spans.Span.{Span}
use Rattle.form_faults.specs.declared.faults.IllKind.{IllKind}
use Rattle.form_faults.specs.declared.faults.IllKind.TheVariants as kind
use Rattle.form_faults.specs.declared.faults.Ill.{Ill}

abbrev pub number_of : IllKind → ℕ
number_of kind.UnknownName = 1
number_of kind.Twice = 2
number_of kind.Arity = 3
number_of kind.NoMain = 4
number_of kind.Unscoped = 5
number_of kind.Unguarded = 6
number_of kind.TooMany = 7
number_of kind.BadNumber = 8
number_of kind.WrongSession = 9

-- a fault of this kind starts before the other, or at the same start its kind has the lesser number
abbrev pub precedes : IllKind → Span → Ill → Bool
precedes why span other = nat_lt span.start other.span.start || (nat_eq span.start other.span.start && nat_lt (number_of why) (number_of other.kind))

abbrev pub is_sooner : Ill → Ill → Bool
is_sooner f g = precedes f.kind f.span g

-- ---- the first fault of a list that is in the order of the text

-- it is sooner than each before it, and none after it is sooner
abbrev pub IsFirst : List Ill → Ill → Type 0
IsFirst faults f =
    (before after : List Ill) × (faults ≡ before ++ f ∷ after) × (list_all (is_sooner f) before ≡ true) × (list_any (λ g. is_sooner g f) after ≡ false)

abbrev pub decides : Option Ill → IllKind → Span → Bool
decides None why span = true
decides (Some best) why span = precedes why span best

-- the first fault so far, and then another that stands after it
abbrev pub sooner_of : Option Ill → Ill → Option Ill
sooner_of best f = if decides best f.kind f.span then Some f else best

-- the first of a fault that was found and of those of a list
unfoldable pub least : Option Ill → List Ill → Option Ill
least best [] = best
least best (f ∷ fs) = least (sooner_of best f) fs

-- what is kept of a list is its first fault
abbrev pub LeastIsFirst : Type 0
LeastIsFirst = (faults : List Ill) (f : Ill) → least None faults ≡ Some f → IsFirst faults f

-- nothing is kept of an empty list alone
abbrev pub LeastOfNone : Type 0
LeastOfNone = (faults : List Ill) → least None faults ≡ None → faults ≡ []

-- ---- one fault, or none

-- where no text tells the place
abbrev pub nowhere : Span
nowhere = record { start = 0; stop = 0; line = 0; column = 0 }

-- a fault of a name, at a span
abbrev pub of_name : IllKind → Ident → Span → List Ill
of_name why name span = record { kind = why; names = name ∷ []; span = span } ∷ []

-- a fault that names nothing
abbrev pub at_span : IllKind → Span → List Ill
at_span why span = record { kind = why; names = []; span = span } ∷ []

abbrev pub at_element : Option Span → List Ill
at_element None = []
at_element (Some span) = at_span kind.TooMany span

-- TooMany at the first element past so many, where the elements stand at these spans
unfoldable pub past : ℕ → List Span → List Ill
past most spans = at_element (slice_get spans most)

-- BadNumber at a span, unless the test holds
unfoldable pub unless : Bool → Span → List Ill
unless fits span = if fits then [] else at_span kind.BadNumber span
