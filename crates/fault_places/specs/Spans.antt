-- Where a property holds of each span in a term, a resource, a value or a proof.
use Rattle.std.specs.Prelude.{List, [], ◌∷◌, Option, Some, None}
use Rattle.core_language.specs.Names.{Ident}
use Rattle.chan_base.specs.declared.spans.Span.{Span}
use Rattle.chan_syntax.specs.declared.linear.Part.{Part}
use Rattle.chan_syntax.specs.declared.linear.Term.{Term}
use Rattle.chan_syntax.specs.declared.linear.Limit.{Limit}
use Rattle.chan_syntax.specs.declared.linear.Bound.{Bound}
use Rattle.chan_syntax.specs.declared.resources.Ref.{Ref}
use Rattle.chan_syntax.specs.declared.resources.Shape.{Shape, Unit as NoShape, Int, End, Pair', Sum', Row_of-Res, end_of-Res, more_of-Res}
use Rattle.chan_syntax.specs.declared.resources.Res.{Res}
use Rattle.chan_syntax.specs.declared.resources.Param.{Param}
use Rattle.chan_syntax.specs.declared.resources.Equation.{Equation}
use Rattle.chan_syntax.specs.declared.resources.Equation.TheVariants as equation
use Rattle.chan_syntax.specs.declared.operands.Supply.{Supply, Unit as NoSupply, Pair' as SupplyPair', Arm', Sum, Row_of-Supply, end_of-Supply, more_of-Supply}
use Rattle.chan_syntax.specs.declared.operands.Pat.{Pat}
use Rattle.chan_syntax.specs.declared.operands.WrittenMention.{WrittenMention}
use Rattle.chan_syntax.specs.declared.operands.WrittenCert.{WrittenCert}
use Rattle.chan_syntax.specs.declared.operands.Proof.{Proof}

-- it holds of each element
abbrev pub Every : {X : Type 0} → (X → Type 0) → List X → Type 0
Every Q [] = Unit {0}
Every Q (x ∷ xs) = Q x × Every Q xs

module _ (P : Span → Type 0) where
  -- of the span, where there is one
  abbrev pub OfAny : Option Span → Type 0
  OfAny None = Unit {0}
  OfAny (Some span) = P span

  -- each name has its span, and it holds of that
  abbrev pub OfNames : List Ident → List Span → Type 0
  OfNames [] [] = Unit {0}
  OfNames [] (s ∷ ss) = ⊥
  OfNames (x ∷ xs) [] = ⊥
  OfNames (x ∷ xs) (s ∷ ss) = P s × OfNames xs ss

  -- ---- terms and binders

  abbrev pub InPart : Part → Type 0
  InPart part = OfAny part.name_span

  abbrev pub InTerm : Term → Type 0
  InTerm term = Every InPart term.parts × P term.span

  abbrev pub InLimit : Limit → Type 0
  InLimit limit = InTerm limit.left × InTerm limit.right

  abbrev pub InBound : Bound → Type 0
  InBound bound = OfNames bound.names bound.names_spans × Every InLimit bound.limits

  -- ---- resources and protocols

  abbrev pub InRef : Ref → Type 0
  InRef ref = P ref.name_span × Every InTerm ref.args × P ref.span

  abbrev mutual
    pub InShape : Shape → Type 0
    InShape NoShape = Unit {0}
    InShape (Int term) = InTerm term
    InShape (End ref) = InRef ref
    InShape (Pair' _ first _ second) = InBoxedRes first × InBoxedRes second
    InShape (Sum' _ arms) = InResources arms

    -- what a box holds
    pub InBoxedRes : {m : _} → Row_of-Res m → Type 0
    InBoxedRes end_of-Res = Unit {0}
    InBoxedRes (more_of-Res bound shape rest) = InBound bound × InShape shape

    -- what a list holds
    pub InResources : {m : _} → Row_of-Res m → Type 0
    InResources end_of-Res = Unit {0}
    InResources (more_of-Res bound shape rest) = (InBound bound × InShape shape) × InResources rest

  abbrev pub InRes : Res → Type 0
  InRes res = InBound res.bound × InShape res.shape

  abbrev pub InParam : Param → Type 0
  InParam param = P param.name_span × InShape param.shape

  abbrev pub InNext : Option Ref → Type 0
  InNext None = Unit {0}
  InNext (Some ref) = InRef ref

  abbrev pub InEquation : Equation → Type 0
  InEquation (equation.Send res next) = InRes res × InNext next
  InEquation (equation.Recv res next) = InRes res × InNext next
  InEquation equation.Close = Unit {0}
  InEquation equation.Wait = Unit {0}
  InEquation (equation.Branch left right this other) = InTerm left × InTerm right × InRef this × InRef other

  -- ---- values, patterns and proofs

  abbrev mutual
    pub InSupply : Supply → Type 0
    InSupply NoSupply = Unit {0}
    InSupply (SupplyPair' _ first _ second) = InBoxedSupply first × InBoxedSupply second
    InSupply (Arm' _ _ value) = InBoxedSupply value
    InSupply (Sum term) = InTerm term

    -- what a box holds
    pub InBoxedSupply : {m : _} → Row_of-Supply m → Type 0
    InBoxedSupply end_of-Supply = Unit {0}
    InBoxedSupply (more_of-Supply value rest) = InSupply value

  abbrev pub InPat : Pat → Type 0
  InPat pat = P pat.name_span × OfNames pat.names pat.names_spans

  abbrev pub InMention : WrittenMention → Type 0
  InMention mention = P mention.factor_span × P mention.index_span × P mention.span

  abbrev pub InCert : WrittenCert → Type 0
  InCert cert = OfAny cert.divisor_span × Every InMention cert.mentions × P cert.span

  abbrev pub InProof : Proof → Type 0
  InProof proof = Every InTerm proof.instances × Every InCert proof.certs
