-- The canonical spelling of a program.
use Rattle.std.specs.Prelude.{ℕ, if◌then◌else◌, codes, List, [], ◌∷◌, ◌++◌, Option, Some, None}
use Rattle.chan_syntax.specs.declared.linear.Bound.{Bound}
use Rattle.chan_syntax.specs.declared.resources.Ref.{Ref}
use Rattle.chan_syntax.specs.declared.resources.Res.{Res}
use Rattle.chan_syntax.specs.declared.resources.Param.{Param}
use Rattle.chan_syntax.specs.declared.resources.Equation.{Equation}
use Rattle.chan_syntax.specs.declared.resources.Equation.TheVariants as equation
use Rattle.chan_syntax.specs.declared.surface_tree.Body.{Body}
use Rattle.chan_syntax.specs.declared.surface_tree.Body.TheVariants as body
use Rattle.chan_syntax.specs.declared.surface_tree.SurfaceProto.{SurfaceProto}
use Rattle.chan_syntax.specs.declared.surface_tree.SurfaceFunc.{SurfaceFunc}
use Rattle.chan_syntax.specs.declared.surface_tree.Decl.{Decl}
use Rattle.chan_syntax.specs.declared.surface_tree.Decl.TheVariants as decl
use Rattle.chan_syntax.specs.declared.surface_tree.Surface.{Surface}
use Rattle.text_tokens.specs.Text.{Piece}
use Rattle.surface_spelling.specs.Layout.{keyword, mark, name, space, line, listed, in_parens, bytes}
use Rattle.surface_spelling.specs.Operands.{a_name, reference, res, param}
use Rattle.surface_spelling.specs.Blocks.{header, result_behind, condition, block}

-- ---- pbody = ("send" | "recv") res [ "then" ref ] | "close" | "wait"
-- ----       | "if" term "<=" term "then" ref "else" ref
-- ----       | ("choice" | "offer") NAME "of" ref "|" ref { "|" ref }

-- [ "then" ref ], with the space before it
unfoldable pub then_ref : Option Ref → List Piece
then_ref None = []
then_ref (Some r) = space ∷ keyword (codes "then") ∷ space ∷ reference r

-- "then" ref "else" ref
unfoldable pub two_refs : Ref → Ref → List Piece
two_refs a b = keyword (codes "then") ∷ space ∷ reference a ++ space ∷ keyword (codes "else") ∷ space ∷ reference b

-- { "|" ref }
unfoldable pub refs_behind : List Ref → List Piece
refs_behind [] = []
refs_behind (r ∷ rs) = (space ∷ mark (codes "|") ∷ space ∷ reference r) ++ refs_behind rs

-- ref "|" ref { "|" ref }
unfoldable pub alternatives : List Ref → List Piece
alternatives [] = []
alternatives (r ∷ rs) = reference r ++ refs_behind rs

unfoldable pub plain : Equation → List Piece
plain (equation.Send r next) = keyword (codes "send") ∷ space ∷ res r ++ then_ref next
plain (equation.Recv r next) = keyword (codes "recv") ∷ space ∷ res r ++ then_ref next
plain equation.Close = keyword (codes "close") ∷ []
plain equation.Wait = keyword (codes "wait") ∷ []
plain (equation.Branch a b this other) = condition a b ++ two_refs this other

unfoldable pub pbody : Body → List Piece
pbody (body.Plain e) = plain e
pbody (body.Choice offer n _ refs) =
    (if offer then keyword (codes "offer") else keyword (codes "choice")) ∷ space ∷ name n ∷ space ∷ keyword (codes "of") ∷ space ∷ alternatives refs

-- ---- declarations, each of which ends a line

-- "proto" NAME "(" [names] ")" "=", and the space behind it
unfoldable pub proto_head : List ℕ → List (List ℕ) → List Piece
proto_head n params = keyword (codes "proto") ∷ space ∷ name n ∷ in_parens (listed a_name params) ++ space ∷ mark (codes "=") ∷ space ∷ []

-- proto = "proto" NAME "(" [names] ")" "=" pbody ";"
unfoldable pub proto : SurfaceProto → List Piece
proto p = proto_head p.name p.params ++ pbody p.body ++ mark (codes ";") ∷ line 0

-- "fn" NAME [binds] "(" [ param { "," param } ] ")" "->" res, and the space behind it
unfoldable pub func_head : List ℕ → Bound → List Param → Res → List Piece
func_head n b params r = keyword (codes "fn") ∷ space ∷ header n b (listed param params) ++ result_behind r ++ space ∷ []

-- func = "fn" NAME [binds] "(" [ param { "," param } ] ")" "->" res block
unfoldable pub func : SurfaceFunc → List Piece
func f = func_head f.name f.bound f.params f.result ++ block 0 f.block ++ line 0

unfoldable pub declaration : Decl → List Piece
declaration (decl.Proto p) = proto p
declaration (decl.Func f) = func f

-- program = { proto | func }
unfoldable pub declarations : List Decl → List Piece
declarations [] = []
declarations (x ∷ xs) = declaration x ++ declarations xs

unfoldable pub program : Surface → List Piece
program s = declarations s.decls

-- the canonical text of the program
unfoldable pub spelling : Surface → List ℕ
spelling s = bytes (program s)
