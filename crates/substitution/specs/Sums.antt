-- Sums of names and of bare numbers, and the term that they are.
use Rattle.std.specs.Prelude.{◌≡◌, ◌⊎◌, ℕ, ◌≤◌, ℤ, pos, unsigned_abs, Bool, if◌then◌else◌, List, [], ◌∷◌, ◌++◌, map, find, Option, Some, None, unwrap_or}
use Rattle.std.specs.Option.{option_map}
use Rattle.std.specs.Ordering.{nat_cmp, int_eq}
use Rattle.std.specs.Cmp.Lexicographic.{slice_cmp}
use Rattle.std.specs.BTreeMap.{get}
use Rattle.core_language.specs.Names.{Ident, same}
use Rattle.core_language.specs.Terms.{Term}
use Rattle.linear_forms.specs.Normal.{fits}
use Rattle.linear_forms.specs.NormalTerms.{Counted, count_of, bare_of}
use Rattle.chan_base.specs.declared.spans.Span.{Span}
use Rattle.chan_syntax.specs.declared.linear.Part.{Part}
use Rattle.substitution.specs.Places.{Token}
use Rattle.substitution.specs.declared.summands.Summand.{Summand}
use Rattle.substitution.specs.declared.summands.Summands.{Summands}

-- how often a name is counted
abbrev pub sum_at : Summands → Ident → ℤ
sum_at sums x = unwrap_or (option_map (λ s. s.sum) (get (slice_cmp nat_cmp) sums.named x)) (pos 0)

-- these are the sums of a term
pub record HasSums (sums : Summands) (term : Term) : Type 0 where
  pub counts : (x : Ident) → sum_at sums x ≡ count_of x term
  pub constant : sums.constant ≡ bare_of term

-- parts are added: whatever term had these sums, it has the new ones with the parts behind it
abbrev pub Adds : (old new : Summands) → Term → Type 0
Adds old new more = (term : Term) → HasSums old term → HasSums new (term ++ more)

-- each sum is at most this size
pub record IsWithin (size : ℕ) (sums : Summands) : Type 0 where
  pub counts : (x : Ident) → unsigned_abs (sum_at sums x) ≤ size
  pub constant : unsigned_abs sums.constant ≤ size

-- the names and their sums
abbrev pub sums_in : List (Ident × Summand) → List Counted
sums_in entries = map (λ e. (e.0, e.1.sum)) entries

abbrev pub entry_fits : (Ident × Summand) → Bool
entry_fits e = fits e.1.sum

-- ---- places

-- where a name of the sums stands
abbrev pub span_at : Summands → Ident → Option (Option Span)
span_at sums x = option_map (λ s. s.span) (get (slice_cmp nat_cmp) sums.named x)

-- each name of the sums stands where it is first among these
abbrev pub HasPlaces : Summands → List Token → Type 0
HasPlaces sums tokens = (x : Ident) → span_at sums x ≡ option_map (λ t. t.place) (find (λ t. same t.name x) tokens)

-- tokens are met: whichever names the sums had first, these come behind them
abbrev pub Meets : (old new : Summands) → List Token → Type 0
Meets old new more = (tokens : List Token) → HasPlaces old tokens → HasPlaces new (tokens ++ more)

-- a part's name, and where it stands
abbrev pub Where : Type 0
Where = Option Ident × Option Span

abbrev pub where_of : Part → Where
where_of part = (part.name, part.name_span)

-- a name that counts
abbrev pub where_in : (Ident × Summand) → List Where
where_in e = if int_eq e.1.sum (pos 0) then [] else ((Some e.0, e.1.span) ∷ [])

-- the same names, and maybe a bare number behind them
abbrev pub IsWithNumber : List Where → List Where → Type 0
IsWithNumber before after = (after ≡ before) ⊎ (after ≡ before ++ (None, None) ∷ [])
