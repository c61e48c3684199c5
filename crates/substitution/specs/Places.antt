-- Where the names of terms and resources stand in a text, as terms are put in for names.
use Rattle.std.specs.Prelude.{◌≡◌, if◌then◌else◌, List, [], ◌∷◌, ◌++◌, All, map, flat_map, find, option_to_list, Option, Some, None}
use Rattle.core_language.specs.Names.{Ident, same}
use Rattle.linear_forms.specs.Substitution.{Each}
use Rattle.linear_forms.specs.Replacing.{new_name}
use Rattle.chan_base.specs.declared.spans.Span.{Span}
use Rattle.chan_syntax.specs.declared.linear.Part.{Part}
use Rattle.chan_syntax.specs.declared.linear.Term.{Term}
use Rattle.chan_syntax.specs.declared.linear.Limit.{Limit}
use Rattle.chan_syntax.specs.declared.linear.Bound.{Bound}
use Rattle.chan_syntax.specs.declared.resources.Ref.{Ref}
use Rattle.chan_syntax.specs.declared.resources.Shape.{Shape, Unit, Int, End, Pair', Sum', Row_of-Res, end_of-Res, more_of-Res}
use Rattle.chan_syntax.specs.declared.resources.Res.{Res}
use Rattle.substitution.specs.declared.scope.Put.{Put}

-- ---- terms

-- a name, and where it stands
pub record Token : Type 0 where
  pub name : Ident
  pub place : Option Span

-- the name of a part
abbrev pub token_of : Part → List Token
token_of part = map (λ x. record { name = x; place = part.name_span }) (option_to_list part.name)

-- what stands for a name: a binder under its new name, the names of a term that is put in, or the name itself
abbrev pub tokens_for : Option Ident → Option Put → Token → List Token
tokens_for (Some z) by t = record { name = z; place = t.place } ∷ []
tokens_for None (Some by) t = flat_map token_of by.term.parts
tokens_for None None t = t ∷ []

abbrev pub token_put : (before after : List Ident) → List Put → Token → List Token
token_put before after put t = tokens_for (new_name before after t.name) (find (λ v. same v.name t.name) put) t

-- the names of a part with terms put in
abbrev pub part_put : (before after : List Ident) → List Put → Part → List Token
part_put before after put part = flat_map (token_put before after put) (token_of part)

-- the place of the first of the tokens that has this name
abbrev pub first_place : List Token → Ident → Option Span
first_place [] x = None
first_place (t ∷ ts) x = if same t.name x then t.place else first_place ts x

abbrev pub place_among : List Token → Option Ident → Option Span
place_among tokens None = None
place_among tokens (Some x) = first_place tokens x

-- each name of the parts has the place of the first of the tokens
abbrev pub StandAmong : List Token → List Part → Type 0
StandAmong tokens parts = All (λ p. p.name_span ≡ place_among tokens p.name) parts

-- the second term has the place of the first, and each of its names the place where it stands first with the terms put in
pub record IsPlacedTerm (put : List Put) (before after : List Ident) (t u : Term) : Type 0 where
  pub span : u.span ≡ t.span
  pub names : StandAmong (flat_map (part_put before after put) t.parts) u.parts

-- ---- resources

-- what stands in a text: a group of binders, each at its place, a reference, or a term under binders
pub data Piece : Type 0 where
  Binders : List Span → Piece
  Reference : (name whole : Span) → Piece
  Words : (binders : List Ident) → Term → Piece

abbrev pub pieces_of_limit : List Ident → Limit → List Piece
pieces_of_limit binders limit = Words binders limit.left ∷ Words binders limit.right ∷ []

-- the limits name the binders beside them
abbrev pub pieces_of_bound : List Ident → Bound → List Piece
pieces_of_bound binders bound = Binders bound.names_spans ∷ flat_map (pieces_of_limit (bound.names ++ binders)) bound.limits

abbrev pub pieces_of_ref : List Ident → Ref → List Piece
pieces_of_ref binders ref = Reference ref.name_span ref.span ∷ map (Words binders) ref.args

abbrev mutual
  pub pieces_of_shape : List Ident → Shape → List Piece
  pieces_of_shape binders Unit = []
  pieces_of_shape binders (Int term) = Words binders term ∷ []
  pieces_of_shape binders (End ref) = pieces_of_ref binders ref
  pieces_of_shape binders (Pair' _ first _ second) = pieces_in binders first ++ pieces_in binders second
  pieces_of_shape binders (Sum' _ arms) = pieces_in binders arms

  -- the resources of a row
  pub pieces_in : List Ident → {m : _} → Row_of-Res m → List Piece
  pieces_in binders end_of-Res = []
  pieces_in binders (more_of-Res bound shape rest) = (pieces_of_bound binders bound ++ pieces_of_shape (bound.names ++ binders) shape) ++ pieces_in binders rest

abbrev pub pieces_of_res : List Ident → Res → List Piece
pieces_of_res binders res = pieces_of_bound binders res.bound ++ pieces_of_shape (res.bound.names ++ binders) res.shape

-- a piece, and what it is with the terms put in
abbrev pub IsPlaced : List Put → Piece → Piece → Type 0
IsPlaced put (Binders spans) (Binders others) = others ≡ spans
IsPlaced put (Reference name whole) (Reference other another) = (other ≡ name) × (another ≡ whole)
IsPlaced put (Words before t) (Words after u) = IsPlacedTerm put before after t u
IsPlaced put _ _ = ⊥

-- ---- what the public calls answer

-- each name with the term at its place
abbrev pub puts_for : List Ident → List Term → List Put
puts_for [] ts = []
puts_for (x ∷ xs) [] = []
puts_for (x ∷ xs) (t ∷ ts) = record { name = x; term = t } ∷ puts_for xs ts

-- pieces, one by one, with the terms put in for the names
abbrev pub ArePlaced : List Ident → List Term → List Piece → List Piece → Type 0
ArePlaced names by = Each (IsPlaced (puts_for names by))
