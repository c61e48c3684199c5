-- Trees without the places of their parts.
use Rattle.std.specs.Prelude.{List, map, Option, None}
use Rattle.std.specs.Option.{option_map}
use Rattle.chan_base.specs.declared.spans.Span.{Span}
use Rattle.chan_syntax.specs.declared.linear.Part.{Part}
use Rattle.chan_syntax.specs.declared.linear.Term.{Term}
use Rattle.chan_syntax.specs.declared.linear.Limit.{Limit}
use Rattle.chan_syntax.specs.declared.linear.Bound.{Bound}
use Rattle.chan_syntax.specs.declared.resources.Ref.{Ref}
use Rattle.chan_syntax.specs.declared.resources.Shape.{Shape, Unit, Int, End, Pair', Sum', Row_of-Res, end_of-Res, more_of-Res}
use Rattle.chan_syntax.specs.declared.resources.Res.{Res, roll-Res}
use Rattle.chan_syntax.specs.declared.resources.Param.{Param}
use Rattle.chan_syntax.specs.declared.resources.Equation.{Equation}
use Rattle.chan_syntax.specs.declared.resources.Equation.TheVariants as equation
use Rattle.chan_syntax.specs.declared.operands.Supply.{Supply, Unit as SupplyUnit, Pair' as SupplyPair', Arm', Sum as SupplySum, Row_of-Supply, end_of-Supply, more_of-Supply}
use Rattle.chan_syntax.specs.declared.operands.Pat.{Pat}
use Rattle.chan_syntax.specs.declared.operands.WrittenMention.{WrittenMention}
use Rattle.chan_syntax.specs.declared.operands.WrittenCert.{WrittenCert}
use Rattle.chan_syntax.specs.declared.operands.Proof.{Proof}
use Rattle.chan_syntax.specs.declared.surface_tree.Start.{Start}
use Rattle.chan_syntax.specs.declared.surface_tree.Stmt.{Stmt, Let, Mul, Div, Rem, Call, Fork, ForkDo', Send1, Recv1, Send, Recv, Close, Wait, Choose, Split, Print, Row_of-Stmt, end_of-Stmt, more_of-Stmt}
use Rattle.chan_syntax.specs.declared.surface_tree.Last.{Last, Ret, Tail, If', Match', Branch', Absurd, Loop', Again, Row_of-Last, end_of-Last, more_of-Last, Row_of-SurfaceArm, end_of-SurfaceArm, more_of-SurfaceArm, Row_of-Block, end_of-Block, more_of-Block}
use Rattle.chan_syntax.specs.declared.surface_tree.Block.{Block, roll-Block}
use Rattle.chan_syntax.specs.declared.surface_tree.Body.{Body}
use Rattle.chan_syntax.specs.declared.surface_tree.Body.TheVariants as body
use Rattle.chan_syntax.specs.declared.surface_tree.Decl.{Decl}
use Rattle.chan_syntax.specs.declared.surface_tree.Decl.TheVariants as decl
use Rattle.chan_syntax.specs.declared.surface_tree.Surface.{Surface}

-- no place
abbrev pub nowhere : Span
nowhere = record { start = 0; stop = 0; line = 0; column = 0 }

-- as many places as there were
abbrev pub places : List Span → List Span
places ss = map (λ _. nowhere) ss

-- a place where there was one
abbrev pub place : Option Span → Option Span
place s = option_map (λ _. nowhere) s

-- ---- terms and binders

abbrev pub part : Part → Part
part p = record { negative = p.negative; factor = p.factor; name = p.name; name_span = place p.name_span }

abbrev pub term : Term → Term
term t = record { parts = map part t.parts; span = nowhere }

abbrev pub limit : Limit → Limit
limit l = record { left = term l.left; relation = l.relation; right = term l.right }

abbrev pub bound : Bound → Bound
bound b = record { names = b.names; names_spans = places b.names_spans; limits = map limit b.limits }

-- ---- resources

abbrev pub reference : Ref → Ref
reference r = record { dual = r.dual; name = r.name; name_span = nowhere; args = map term r.args; span = nowhere }

abbrev mutual
  pub shape : Shape → Shape
  shape Unit = Unit
  shape (Int t) = Int (term t)
  shape (End r) = End (reference r)
  shape (Pair' m a n b) = Pair' m (boxed_res a) n (boxed_res b)
  shape (Sum' m arms) = Sum' m (boxed_res arms)

  -- what a box or a list holds
  pub boxed_res : {m : _} → Row_of-Res m → Row_of-Res m
  boxed_res end_of-Res = end_of-Res
  boxed_res (more_of-Res b s rest) = more_of-Res (bound b) (shape s) (boxed_res rest)

abbrev pub res : Res → Res
res r = roll-Res (record { bound = bound r.bound; shape = shape r.shape })

abbrev pub param : Param → Param
param p = record { name = p.name; name_span = nowhere; shape = shape p.shape }

-- ---- operands

abbrev mutual
  pub value : Supply → Supply
  value SupplyUnit = SupplyUnit
  value (SupplyPair' m a n b) = SupplyPair' m (boxed_value a) n (boxed_value b)
  value (Arm' i m a) = Arm' i m (boxed_value a)
  value (SupplySum t) = SupplySum (term t)

  -- what a box holds
  pub boxed_value : {m : _} → Row_of-Supply m → Row_of-Supply m
  boxed_value end_of-Supply = end_of-Supply
  boxed_value (more_of-Supply v rest) = more_of-Supply (value v) (boxed_value rest)

abbrev pub pat : Pat → Pat
pat p = record { name = p.name; name_span = nowhere; names = p.names; names_spans = places p.names_spans }

abbrev pub mention : WrittenMention → WrittenMention
mention m = record { negative = m.negative; factor = m.factor; factor_span = nowhere; index = m.index; index_span = nowhere; span = nowhere }

-- a divisor 1 that is written is the divisor 1
abbrev pub cert : WrittenCert → WrittenCert
cert c = record { divisor = c.divisor; divisor_span = None; mentions = map mention c.mentions; span = nowhere }

abbrev pub proof : Proof → Proof
proof q = record { instances = map term q.instances; certs = map cert q.certs }

-- ---- blocks

abbrev pub start : Start → Start
start x = record { name = x.name; name_span = nowhere; shape = shape x.shape; value = value x.value }

abbrev mutual
  pub stmt : Stmt → Stmt
  stmt (Let n _ t _) = Let n nowhere (term t) nowhere
  stmt (Mul n _ a b _) = Mul n nowhere (term a) (term b) nowhere
  stmt (Div n _ t k _ _) = Div n nowhere (term t) k nowhere nowhere
  stmt (Rem n _ t k _ _) = Rem n nowhere (term t) k nowhere nowhere
  stmt (Call p f _ vs q _) = Call (pat p) f nowhere (map value vs) (proof q) nowhere
  stmt (Fork n _ r f _ vs q _) = Fork n nowhere (reference r) f nowhere (map value vs) (proof q) nowhere
  stmt (ForkDo' n _ r f _ b x xs q m ss k l _) = ForkDo' n nowhere (reference r) f nowhere (bound b) (param x) (map start xs) (proof q) m (row_of_stmts ss) k (boxed_last l) nowhere
  stmt (Send1 c _ p s v q _) = Send1 c nowhere p (place s) (value v) (proof q) nowhere
  stmt (Recv1 x c _ p s q _) = Recv1 (pat x) c nowhere p (place s) (proof q) nowhere
  stmt (Send n _ c _ r p s v q _) = Send n nowhere c nowhere (reference r) p (place s) (value v) (proof q) nowhere
  stmt (Recv x y ns ss c _ p s q _) = Recv (pat x) (pat y) ns (places ss) c nowhere p (place s) (proof q) nowhere
  stmt (Close c _ p s q _) = Close c nowhere p (place s) (proof q) nowhere
  stmt (Wait c _ p s q _) = Wait c nowhere p (place s) (proof q) nowhere
  stmt (Choose i n _ c _ r p s q _) = Choose i n nowhere c nowhere (reference r) p (place s) (proof q) nowhere
  stmt (Split x y n _ _) = Split (pat x) (pat y) n nowhere nowhere
  stmt (Print t _) = Print (term t) nowhere

  pub last : Last → Last
  last (Ret v q _) = Ret (value v) (proof q) nowhere
  last (Tail f _ vs q _) = Tail f nowhere (map value vs) (proof q) nowhere
  last (If' a b m ss k l m' ss' k' l' _) = If' (term a) (term b) m (row_of_stmts ss) k (boxed_last l) m' (row_of_stmts ss') k' (boxed_last l') nowhere
  last (Match' n _ m arms _) = Match' n nowhere m (row_of_arms arms) nowhere
  last (Branch' c _ p s q b _ z _ m blocks _) = Branch' c nowhere p (place s) (proof q) b nowhere z nowhere m (row_of_blocks blocks) nowhere
  last (Absurd q _) = Absurd (proof q) nowhere
  last (Loop' n _ b xs r q m ss k l _) = Loop' n nowhere (bound b) (map start xs) (res r) (proof q) m (row_of_stmts ss) k (boxed_last l) nowhere
  last (Again vs q _) = Again (map value vs) (proof q) nowhere

  -- the statements of a block
  pub row_of_stmts : {m : _} → Row_of-Stmt m → Row_of-Stmt m
  row_of_stmts end_of-Stmt = end_of-Stmt
  row_of_stmts (more_of-Stmt x rest) = more_of-Stmt (stmt x) (row_of_stmts rest)

  pub row_of_arms : {m : _} → Row_of-SurfaceArm m → Row_of-SurfaceArm m
  row_of_arms end_of-SurfaceArm = end_of-SurfaceArm
  row_of_arms (more_of-SurfaceArm p m ss k l rest) = more_of-SurfaceArm (pat p) m (row_of_stmts ss) k (boxed_last l) (row_of_arms rest)

  pub row_of_blocks : {m : _} → Row_of-Block m → Row_of-Block m
  row_of_blocks end_of-Block = end_of-Block
  row_of_blocks (more_of-Block m ss k l rest) = more_of-Block m (row_of_stmts ss) k (boxed_last l) (row_of_blocks rest)

  -- what a box holds
  pub boxed_last : {m : _} → Row_of-Last m → Row_of-Last m
  boxed_last end_of-Last = end_of-Last
  boxed_last (more_of-Last x rest) = more_of-Last (last x) (boxed_last rest)

abbrev pub block : Block → Block
block b = roll-Block (record { stmts = map stmt b.stmts; last = last b.last })

-- ---- declarations

abbrev pub plain : Equation → Equation
plain (equation.Send r next) = equation.Send (res r) (option_map reference next)
plain (equation.Recv r next) = equation.Recv (res r) (option_map reference next)
plain equation.Close = equation.Close
plain equation.Wait = equation.Wait
plain (equation.Branch a b this other) = equation.Branch (term a) (term b) (reference this) (reference other)

abbrev pub pbody : Body → Body
pbody (body.Plain e) = body.Plain (plain e)
pbody (body.Choice offer n _ refs) = body.Choice offer n nowhere (map reference refs)

abbrev pub declaration : Decl → Decl
declaration (decl.Proto p) =
    decl.Proto (record { name = p.name; name_span = nowhere; params = p.params; params_spans = places p.params_spans; body = pbody p.body; span = nowhere })
declaration (decl.Func f) =
    decl.Func (record { name = f.name; name_span = nowhere; bound = bound f.bound; params = map param f.params; result = res f.result; block = block f.block; span = nowhere })

-- the tree without its places
abbrev pub erase : Surface → Surface
erase s = record { decls = map declaration s.decls }
