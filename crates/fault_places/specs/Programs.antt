-- Where a property holds of each span in the parts of a program.
use Rattle.std.specs.Prelude.{List}
use Rattle.chan_base.specs.declared.spans.Span.{Span}
use Rattle.chan_syntax.specs.declared.resources.Proto.{Proto}
use Rattle.core_programs.specs.declared.nodes.Node.{Node}
use Rattle.core_programs.specs.declared.nodes.Node.TheVariants as node
use Rattle.core_programs.specs.declared.nodes.Arm.{Arm}
use Rattle.core_programs.specs.declared.nodes.Func.{Func}
use Rattle.core_programs.specs.declared.nodes.Parts.{Parts}
use Rattle.core_programs.specs.Trees.{Tree, Nothing, Grown, Trees, NoMore, More, tree}
use Rattle.fault_places.specs.Spans.{Every, OfAny, OfNames, InTerm, InBound, InRef, InRes, InParam, InEquation, InSupply, InPat, InProof}

module _ (P : Span → Type 0) where
  abbrev pub InProto : Proto → Type 0
  InProto proto = P proto.name_span × OfNames P proto.params proto.params_spans × InEquation P proto.equation × P proto.span

  abbrev pub InArmOf : Arm → Type 0
  InArmOf arm = InPat P arm.pat

  abbrev pub InNode : Node → Type 0
  InNode (node.Let name name_at term next span) = P name_at × InTerm P term × P span
  InNode (node.Mul name name_at left right next span) = P name_at × InTerm P left × InTerm P right × P span
  InNode (node.Div name name_at term divisor divisor_at next span) = P name_at × InTerm P term × P divisor_at × P span
  InNode (node.Rem name name_at term divisor divisor_at next span) = P name_at × InTerm P term × P divisor_at × P span
  InNode (node.Call pat func func_at values proof next span) = InPat P pat × P func_at × Every (InSupply P) values × InProof P proof × P span
  InNode (node.Tail func func_at values proof span) = P func_at × Every (InSupply P) values × InProof P proof × P span
  InNode (node.Fork name name_at proto func func_at values proof next span) =
      P name_at × InRef P proto × P func_at × Every (InSupply P) values × InProof P proof × P span
  InNode (node.Send1 channel channel_at path path_at value proof next span) = P channel_at × OfAny P path_at × InSupply P value × InProof P proof × P span
  InNode (node.Recv1 pat channel channel_at path path_at proof next span) = InPat P pat × P channel_at × OfAny P path_at × InProof P proof × P span
  InNode (node.Print term next span) = InTerm P term × P span
  InNode (node.If left right this other span) = InTerm P left × InTerm P right × P span
  InNode (node.Split first second name name_at next span) = InPat P first × InPat P second × P name_at × P span
  InNode (node.Match name name_at arms span) = P name_at × Every InArmOf arms × P span
  InNode (node.Absurd proof span) = InProof P proof × P span
  InNode (node.Ret value proof span) = InSupply P value × InProof P proof × P span

  abbrev mutual
    pub InTree : Tree → Type 0
    InTree Nothing = Unit {0}
    InTree (Grown x bodies) = InNode x × InTrees bodies

    -- the bodies after a node
    pub InTrees : Trees → Type 0
    InTrees NoMore = Unit {0}
    InTrees (More body bodies) = InTree body × InTrees bodies

  -- a function, with the nodes of its body
  abbrev pub InFunc : List Node → Func → Type 0
  InFunc nodes func =
      P func.name_span × InBound P func.bound × Every (InParam P) func.params × InRes P func.result × InTree (tree nodes func.first) × P func.span

  abbrev pub InParts : Parts → Type 0
  InParts parts = Every InProto parts.protos × Every (InFunc parts.nodes) parts.funcs
