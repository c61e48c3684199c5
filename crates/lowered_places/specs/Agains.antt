-- Where a property holds of the word of each `again`.
use Rattle.chan_base.specs.declared.spans.Span.{Span}
use Rattle.chan_syntax.specs.declared.surface_tree.Stmt.{Stmt, ForkDo', Row_of-Stmt, end_of-Stmt, more_of-Stmt}
use Rattle.chan_syntax.specs.declared.surface_tree.Last.{Last, If', Match', Branch', Loop', Again, Row_of-Last, end_of-Last, more_of-Last, Row_of-SurfaceArm, end_of-SurfaceArm, more_of-SurfaceArm, Row_of-Block, end_of-Block, more_of-Block}
use Rattle.chan_syntax.specs.declared.surface_tree.Block.{Block}
use Rattle.chan_syntax.specs.declared.surface_tree.Decl.{Decl}
use Rattle.chan_syntax.specs.declared.surface_tree.Decl.TheVariants as decl
use Rattle.chan_syntax.specs.declared.surface_tree.Surface.{Surface}
use Rattle.session_lowering.specs.Blocks.{again_word}
use Rattle.fault_places.specs.Spans.{Every}

module _ (P : Span → Type 0) where
  abbrev mutual
    pub AgainsInStmt : Stmt → Type 0
    AgainsInStmt (ForkDo' n nt r f ft b x xs q _ ss _ l span) = AgainsInRow ss × AgainsInBoxed l
    AgainsInStmt other = Unit {0}

    pub AgainsInLast : Last → Type 0
    AgainsInLast (If' a b _ ss _ l _ ss' _ l' span) = (AgainsInRow ss × AgainsInBoxed l) × (AgainsInRow ss' × AgainsInBoxed l')
    AgainsInLast (Match' x xt _ arms span) = AgainsInArms arms
    AgainsInLast (Branch' c ct p pt q b bt z zt _ blocks span) = AgainsInBlocks blocks
    AgainsInLast (Loop' n nt b xs r q _ ss _ l span) = AgainsInRow ss × AgainsInBoxed l
    AgainsInLast (Again vs q span) = P (again_word span)
    AgainsInLast other = Unit {0}

    pub AgainsInRow : {m : _} → Row_of-Stmt m → Type 0
    AgainsInRow end_of-Stmt = Unit {0}
    AgainsInRow (more_of-Stmt x rest) = AgainsInStmt x × AgainsInRow rest

    -- what a box holds; it is never empty
    pub AgainsInBoxed : {m : _} → Row_of-Last m → Type 0
    AgainsInBoxed end_of-Last = ⊥
    AgainsInBoxed (more_of-Last x rest) = AgainsInLast x

    pub AgainsInArms : {m : _} → Row_of-SurfaceArm m → Type 0
    AgainsInArms end_of-SurfaceArm = Unit {0}
    AgainsInArms (more_of-SurfaceArm p _ ss _ l rest) = (AgainsInRow ss × AgainsInBoxed l) × AgainsInArms rest

    pub AgainsInBlocks : {m : _} → Row_of-Block m → Type 0
    AgainsInBlocks end_of-Block = Unit {0}
    AgainsInBlocks (more_of-Block _ ss _ l rest) = (AgainsInRow ss × AgainsInBoxed l) × AgainsInBlocks rest

  abbrev pub AgainsInBlock : Block → Type 0
  AgainsInBlock b = Every AgainsInStmt b.stmts × AgainsInLast b.last

  abbrev pub AgainsInDecl : Decl → Type 0
  AgainsInDecl (decl.Proto p) = Unit {0}
  AgainsInDecl (decl.Func f) = AgainsInBlock f.block

  abbrev pub AgainsIn : Surface → Type 0
  AgainsIn tree = Every AgainsInDecl tree.decls
