-- Tables of protocols in which one reaches itself through Branch equations alone.
use Rattle.std.specs.Prelude.{◌≡◌, ◌<◌, ◌⊎◌, ℕ, length, map, List, [], ◌∷◌, ◌++◌, Option, Some, None, option_and_then, slice_get}
use Rattle.core_language.specs.Names.{Ident}
use Rattle.chan_syntax.specs.declared.resources.Equation.{Equation}
use Rattle.chan_syntax.specs.declared.resources.Equation.TheVariants as equation
use Rattle.chan_syntax.specs.declared.resources.Proto.{Proto}
use Rattle.chan_syntax.specs.declared.operands.Letter.{Letter}
use Rattle.chan_syntax.specs.declared.operands.Letter.TheVariants as letter
use Rattle.form_faults.specs.Indexed.{place_of}
use Rattle.protocol_guard.specs.declared.graphs.Turns.{Turns}

-- ---- the table as a graph

-- the name of a Branch equation's reference: Left is the one after `then`, Right the one after `else`
abbrev pub branch_of : Equation → Letter → Option Ident
branch_of (equation.Branch left right this other) letter.Left = Some this.name
branch_of (equation.Branch left right this other) letter.Right = Some other.name
branch_of (equation.Send res next) turn = None
branch_of (equation.Recv res next) turn = None
branch_of equation.Close turn = None
branch_of equation.Wait turn = None

-- the place of the first protocol with this name
abbrev pub proto_place : List Proto → Ident → Option ℕ
proto_place protos name = place_of (λ (p : Proto). p.name) protos name

-- where a protocol's turns lead: nowhere, where the name isn't declared
abbrev pub turns_of : (Ident → Option ℕ) → Proto → Turns
turns_of place p = record {
  left = option_and_then place (branch_of p.equation letter.Left);
  right = option_and_then place (branch_of p.equation letter.Right);
}

unfoldable pub graph_of : List Proto → List Turns
graph_of protos = map (turns_of (proto_place protos)) protos

-- ---- ways through it

abbrev pub turned : Option Turns → Letter → Option ℕ
turned None turn = None
turned (Some turns) letter.Left = turns.left
turned (Some turns) letter.Right = turns.right

-- where a turn leads from a place
unfoldable pub step : List Turns → ℕ → Letter → Option ℕ
step graph i turn = turned (slice_get graph i) turn

-- where a way leads, turn by turn
unfoldable pub walk : List Turns → ℕ → List Letter → Option ℕ
walk graph i [] = Some i
walk graph i (turn ∷ way) = option_and_then (λ j. walk graph j way) (step graph i turn)

-- a way of at least one turn that leads back
abbrev pub Returns : List Turns → ℕ → List Letter → Type 0
Returns graph i [] = ⊥
Returns graph i (turn ∷ way) = walk graph i (turn ∷ way) ≡ Some i

abbrev pub IsAcyclic : List Turns → Type 0
IsAcyclic graph = (i : ℕ) (way : List Letter) → ¬ (Returns graph i way)

-- no protocol reaches itself through Branch equations alone
abbrev pub IsGuarded : List Proto → Type 0
IsGuarded protos = IsAcyclic (graph_of protos)

-- ---- the cycle that is shown

-- of two ways of one length, it goes by `then` where they first differ
abbrev pub ThenFirst : List Letter → List Letter → Type 0
ThenFirst (letter.Left ∷ ts) (letter.Left ∷ us) = ThenFirst ts us
ThenFirst (letter.Left ∷ ts) (letter.Right ∷ us) = Unit {0}
ThenFirst (letter.Right ∷ ts) (letter.Left ∷ us) = ⊥
ThenFirst (letter.Right ∷ ts) (letter.Right ∷ us) = ThenFirst ts us
ThenFirst [] us = ⊥
ThenFirst (t ∷ ts) [] = ⊥

abbrev pub IsBefore : List Letter → List Letter → Type 0
IsBefore ts us = (length ts < length us) ⊎ ((length ts ≡ length us) × ThenFirst ts us)

-- a shortest way back; of these the one that goes by `then` where they first differ
pub record IsShortestReturn (graph : List Turns) (i : ℕ) (way : List Letter) : Type 0 where
  pub returns : Returns graph i way
  pub shortest : (other : List Letter) → Returns graph i other → ¬ (IsBefore other way)

-- it is that of the first place from which a way leads back
pub record IsFirstCycle (graph : List Turns) (i : ℕ) (way : List Letter) : Type 0 where
  pub first : (j : ℕ) (other : List Letter) → j < i → ¬ (Returns graph j other)
  pub returns : IsShortestReturn graph i way

-- the name at a place
abbrev pub name_of : Option Proto → List Ident
name_of None = []
name_of (Some p) = p.name ∷ []

abbrev pub name_at : List Proto → Option ℕ → List Ident
name_at protos None = []
name_at protos (Some i) = name_of (slice_get protos i)

-- the names of the protocols from which the turns go
unfoldable pub names_on : List Proto → Option ℕ → List Letter → List Ident
names_on protos at [] = []
names_on protos at (turn ∷ way) = name_at protos at ++ names_on protos (option_and_then (λ i. step (graph_of protos) i turn) at) way

-- the names of that cycle, each once
abbrev pub IsCycle : List Proto → List Ident → Type 0
IsCycle protos names = (i : ℕ) × (way : List Letter) × IsFirstCycle (graph_of protos) i way × (names ≡ names_on protos (Some i) way)
