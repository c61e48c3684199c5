-- Where a property holds of each span in the tree of a text.
use Rattle.chan_base.specs.declared.spans.Span.{Span}
use Rattle.chan_syntax.specs.declared.surface_tree.Start.{Start}
use Rattle.chan_syntax.specs.declared.surface_tree.Stmt.{Stmt, Let, Mul, Div, Rem, Call, Fork, ForkDo', Send1, Recv1, Send, Recv, Close, Wait, Choose, Split, Print, Row_of-Stmt, end_of-Stmt, more_of-Stmt}
use Rattle.chan_syntax.specs.declared.surface_tree.Last.{Last, Ret, Tail, If', Match', Branch', Absurd, Loop', Again, Row_of-Last, end_of-Last, more_of-Last, Row_of-SurfaceArm, end_of-SurfaceArm, more_of-SurfaceArm, Row_of-Block, end_of-Block, more_of-Block}
use Rattle.chan_syntax.specs.declared.surface_tree.SurfaceArm.{SurfaceArm}
use Rattle.chan_syntax.specs.declared.surface_tree.Block.{Block}
use Rattle.chan_syntax.specs.declared.surface_tree.Body.{Body}
use Rattle.chan_syntax.specs.declared.surface_tree.Body.TheVariants as body
use Rattle.chan_syntax.specs.declared.surface_tree.Decl.{Decl}
use Rattle.chan_syntax.specs.declared.surface_tree.Decl.TheVariants as decl
use Rattle.chan_syntax.specs.declared.surface_tree.SurfaceProto.{SurfaceProto}
use Rattle.chan_syntax.specs.declared.surface_tree.SurfaceFunc.{SurfaceFunc}
use Rattle.chan_syntax.specs.declared.surface_tree.Surface.{Surface}
use Rattle.fault_places.specs.Spans.{Every, OfAny, OfNames, InTerm, InBound, InRef, InShape, InRes, InParam, InEquation, InSupply, InPat, InProof}

module _ (P : Span → Type 0) where
  abbrev pub InStart : Start → Type 0
  InStart start = P start.name_span × InShape P start.shape × InSupply P start.value

  -- ---- blocks

  abbrev mutual
    pub InStmt : Stmt → Type 0
    InStmt (Let _ nt t span) = P nt × InTerm P t × P span
    InStmt (Mul _ nt a b span) = P nt × InTerm P a × InTerm P b × P span
    InStmt (Div _ nt t _ kt span) = P nt × InTerm P t × P kt × P span
    InStmt (Rem _ nt t _ kt span) = P nt × InTerm P t × P kt × P span
    InStmt (Call p _ ft vs q span) = InPat P p × P ft × Every (InSupply P) vs × InProof P q × P span
    InStmt (Fork _ nt r _ ft vs q span) = P nt × InRef P r × P ft × Every (InSupply P) vs × InProof P q × P span
    InStmt (ForkDo' _ nt r _ ft b x xs q _ ss _ l span) =
        P nt × InRef P r × P ft × InBound P b × InParam P x × Every InStart xs × InProof P q × InRow ss × InBoxed l × P span
    InStmt (Send1 _ ct _ pt v q span) = P ct × OfAny P pt × InSupply P v × InProof P q × P span
    InStmt (Recv1 x _ ct _ pt q span) = InPat P x × P ct × OfAny P pt × InProof P q × P span
    InStmt (Send _ nt _ ct r _ pt v q span) = P nt × P ct × InRef P r × OfAny P pt × InSupply P v × InProof P q × P span
    InStmt (Recv x y ns ss _ ct _ pt q span) = InPat P x × InPat P y × OfNames P ns ss × P ct × OfAny P pt × InProof P q × P span
    InStmt (Close _ ct _ pt q span) = P ct × OfAny P pt × InProof P q × P span
    InStmt (Wait _ ct _ pt q span) = P ct × OfAny P pt × InProof P q × P span
    InStmt (Choose _ _ nt _ ct r _ pt q span) = P nt × P ct × InRef P r × OfAny P pt × InProof P q × P span
    InStmt (Split x y _ nt span) = InPat P x × InPat P y × P nt × P span
    InStmt (Print t span) = InTerm P t × P span

    pub InLast : Last → Type 0
    InLast (Ret v q span) = InSupply P v × InProof P q × P span
    InLast (Tail _ ft vs q span) = P ft × Every (InSupply P) vs × InProof P q × P span
    InLast (If' a b _ ss _ l _ ss' _ l' span) = InTerm P a × InTerm P b × (InRow ss × InBoxed l) × (InRow ss' × InBoxed l') × P span
    InLast (Match' _ xt _ arms span) = P xt × InArms arms × P span
    InLast (Branch' _ ct _ pt q _ bt _ zt _ blocks span) = P ct × OfAny P pt × InProof P q × P bt × P zt × InBlocks blocks × P span
    InLast (Absurd q span) = InProof P q × P span
    InLast (Loop' _ nt b xs r q _ ss _ l span) = P nt × InBound P b × Every InStart xs × InRes P r × InProof P q × (InRow ss × InBoxed l) × P span
    InLast (Again vs q span) = Every (InSupply P) vs × InProof P q × P span

    -- the statements of a block that another form holds
    pub InRow : {m : _} → Row_of-Stmt m → Type 0
    InRow end_of-Stmt = Unit {0}
    InRow (more_of-Stmt x rest) = InStmt x × InRow rest

    -- the arms of a match
    pub InArms : {m : _} → Row_of-SurfaceArm m → Type 0
    InArms end_of-SurfaceArm = Unit {0}
    InArms (more_of-SurfaceArm p _ ss _ l rest) = (InPat P p × (InRow ss × InBoxed l)) × InArms rest

    -- the blocks of a branch
    pub InBlocks : {m : _} → Row_of-Block m → Type 0
    InBlocks end_of-Block = Unit {0}
    InBlocks (more_of-Block _ ss _ l rest) = (InRow ss × InBoxed l) × InBlocks rest

    -- what a box holds
    pub InBoxed : {m : _} → Row_of-Last m → Type 0
    InBoxed end_of-Last = Unit {0}
    InBoxed (more_of-Last x rest) = InLast x

  abbrev pub InBlock : Block → Type 0
  InBlock block = Every InStmt block.stmts × InLast block.last

  abbrev pub InArm : SurfaceArm → Type 0
  InArm arm = InPat P arm.pat × InBlock arm.block

  -- ---- declarations

  abbrev pub InBody : Body → Type 0
  InBody (body.Plain e) = InEquation P e
  InBody (body.Choice _ _ nt refs) = P nt × Every (InRef P) refs

  abbrev pub InSurfaceProto : SurfaceProto → Type 0
  InSurfaceProto proto = P proto.name_span × OfNames P proto.params proto.params_spans × InBody proto.body × P proto.span

  abbrev pub InSurfaceFunc : SurfaceFunc → Type 0
  InSurfaceFunc func =
      P func.name_span × InBound P func.bound × Every (InParam P) func.params × InRes P func.result × InBlock func.block × P func.span

  abbrev pub InDecl : Decl → Type 0
  InDecl (decl.Proto proto) = InSurfaceProto proto
  InDecl (decl.Func func) = InSurfaceFunc func

  abbrev pub InSurface : Surface → Type 0
  InSurface surface = Every InDecl surface.decls
