-- What stands for each form of a block, the functions that its loops and `do` blocks make, and its sends.
use Rattle.std.specs.Prelude.{ℕ, ◌+◌, ◌-◌, ◌^◌, min, pos, Bool, true, false, List, [], ◌∷◌, ◌++◌, map, flat_map, Option, Some, None}
use Rattle.core_language.specs.Names.{Ident}
use Rattle.chan_base.specs.declared.spans.Span.{Span}
use Rattle.chan_syntax.specs.declared.linear.Bound.{Bound}
use Rattle.chan_syntax.specs.declared.resources.Ref.{Ref}
use Rattle.chan_syntax.specs.declared.resources.Res.{Res}
use Rattle.chan_syntax.specs.declared.resources.Param.{Param}
use Rattle.chan_syntax.specs.declared.operands.Supply.{Supply}
use Rattle.chan_syntax.specs.declared.operands.Supply.TheVariants as supply
use Rattle.chan_syntax.specs.declared.operands.Letter.{Letter}
use Rattle.chan_syntax.specs.declared.operands.Pat.{Pat}
use Rattle.chan_syntax.specs.declared.operands.Proof.{Proof}
use Rattle.chan_syntax.specs.declared.surface_tree.Start.{Start}
use Rattle.chan_syntax.specs.declared.surface_tree.SurfaceFunc.{SurfaceFunc}
use Rattle.chan_syntax.specs.declared.surface_tree.SurfaceArm.{SurfaceArm, roll-SurfaceArm}
use Rattle.chan_syntax.specs.declared.surface_tree.Block.{Block, roll-Block}
use Rattle.chan_syntax.specs.declared.surface_tree.Stmt.{Stmt, Fork, ForkDo', Send1, Recv1, Send, Recv, Close, Wait, Choose, Split, Row_of-Stmt, end_of-Stmt, more_of-Stmt}
use Rattle.chan_syntax.specs.declared.surface_tree.Last.{Last, Ret, Tail, If', Match', Branch', Absurd, Loop', Again, Row_of-Last, end_of-Last, more_of-Last, Row_of-SurfaceArm, end_of-SurfaceArm, more_of-SurfaceArm, Row_of-Block, end_of-Block, more_of-Block}
use Rattle.chan_syntax.specs.declared.surface_tree.Last.TheVariants as last
use Rattle.session_lowering.specs.MadeNames.{received_pair, received_unit, received_bit}
use Rattle.session_lowering.specs.PutTerms.{number_term, name_term}
use Rattle.session_lowering.specs.declared.sources.Source.{Source}
use Rattle.session_lowering.specs.declared.events.Sending.{Sending}
use Rattle.session_lowering.specs.Sends.{rest_of, helper_name}
use Rattle.session_lowering.specs.Helpers.{unit_res, no_proof}
use Rattle.session_lowering.specs.declared.events.Event.{Event}
use Rattle.session_lowering.specs.declared.events.Event.TheVariants.{Sends, Strays}

-- ---- sends

abbrev pub number_value : Span → ℕ → Supply
number_value span i = supply.Sum (number_term span (pos i))

-- a choice sends its number, which is the first instance
abbrev pub with_instance : Span → ℕ → Proof → Proof
with_instance span i q = record { instances = number_term span (pos i) ∷ q.instances; certs = q.certs }

-- let z = send c: E via p V with W by B
abbrev pub sent : Ident → Span → Ident → Span → Ref → List Letter → Option Span → Supply → Proof → Span → Sending
sent n at c ct r p pt v q span = record {
  name = n;
  name_span = at;
  channel = c;
  channel_span = ct;
  proto = r;
  path = p;
  path_span = pt;
  chooses = false;
  value = v;
  proof = q;
  span = span;
}

-- let z = #i c: E via p with W by B
abbrev pub chosen : ℕ → Ident → Span → Ident → Span → Ref → List Letter → Option Span → Proof → Span → Sending
chosen i n at c ct r p pt q span = record {
  name = n;
  name_span = at;
  channel = c;
  channel_span = ct;
  proto = r;
  path = p;
  path_span = pt;
  chooses = true;
  value = number_value span i;
  proof = with_instance span i q;
  span = span;
}

-- what a statement sends, where it goes on
abbrev pub sending_of : Stmt → Option Sending
sending_of (Send n at c ct r p pt v q span) = Some (sent n at c ct r p pt v q span)
sending_of (Choose i n at c ct r p pt q span) = Some (chosen i n at c ct r p pt q span)
sending_of other = None

-- let z = fork F H(c, V) with [t.., W] by B
abbrev pub fork_of_sending : List Source → Sending → Stmt
fork_of_sending sources s =
    Fork s.name s.name_span (rest_of sources s) (helper_name s) s.span
    (supply.Sum (name_term s.channel_span s.channel s.channel_span) ∷ s.value ∷ [])
    (record { instances = s.proto.args ++ s.proof.instances; certs = s.proof.certs }) s.span

-- ---- receives

abbrev pub made_pat : Span → Ident → Pat
made_pat span x = record { name = x; name_span = span; names = []; names_spans = [] }

abbrev pub plain_pat : Ident → Span → Pat
plain_pat x at = record { name = x; name_span = at; names = []; names_spans = [] }

-- let q.m [k..] = recv1 c via w; let (p, q) = q.m
abbrev pub receives_pair : (first second : Pat) → List Ident → List Span → Ident → Span → List Letter → Option Span → Proof → Span → List Stmt
receives_pair x y ks kts c ct p pt q span =
    Recv1 (record { name = received_pair y.name; name_span = span; names = ks; names_spans = kts }) c ct p pt q span
    ∷ Split x y (received_pair y.name) span span ∷ []

-- let z.m [b.k] = recv1 c via p; let (b, z) = z.m
abbrev pub receives_bit : Ident → Span → List Letter → Option Span → Proof → Ident → Span → Ident → Span → Span → List Stmt
receives_bit c ct p pt q b bt z zt span =
    receives_pair (plain_pat b bt) (plain_pat z zt) (received_bit b ∷ []) (span ∷ []) c ct p pt q span

-- ---- statements

-- what stands for a statement
abbrev pub core_stmts : List Source → Stmt → List Stmt
core_stmts sources (Send n at c ct r p pt v q span) = fork_of_sending sources (sent n at c ct r p pt v q span) ∷ []
core_stmts sources (Choose i n at c ct r p pt q span) = fork_of_sending sources (chosen i n at c ct r p pt q span) ∷ []
core_stmts sources (Recv x y ks kts c ct p pt q span) = receives_pair x y ks kts c ct p pt q span
core_stmts sources (Close c ct p pt q span) = Send1 c ct p pt supply.Unit q span ∷ []
core_stmts sources (Wait c ct p pt q span) = Recv1 (made_pat span (received_unit c)) c ct p pt q span ∷ []
core_stmts sources (ForkDo' n at r f ft b x xs q _ ss _ l span) = Fork n at r f ft (map (λ (y : Start). y.value) xs) q span ∷ []
core_stmts sources core = core ∷ []

-- ---- blocks, inside the loop of this name

abbrev pub block_with : List Stmt → List Stmt × Last → Block
block_with ss ended = roll-Block (record { stmts = ss ++ ended.0; last = ended.1 })

-- the word `again` at the start of its statement; 32 bits hold its places
abbrev pub again_word : Span → Span
again_word span = record { start = span.start; stop = min (span.start + 5) (2 ^ 32 - 1); line = span.line; column = span.column }

-- if b <= i X else Y, where Y alone is the rest of its block
abbrev pub if_bit : Ident → Span → Span → ℕ → Block → Block → Block
if_bit b bt span i this other =
    roll-Block (record { stmts = []; last = last.If (name_term span b bt) (number_term span (pos i)) this other span })

-- if b <= 0 X0 else, then if b <= 1 X1 else and so on, with the last one last
abbrev pub by_bit : Ident → Span → Span → ℕ → Block → List Block → Block
by_bit b bt span i x [] = x
by_bit b bt span i x (y ∷ ys) = if_bit b bt span i x (by_bit b bt span (i + 1) y ys)

abbrev pub branches : Ident → Span → Span → List Block → Block
branches b bt span [] = roll-Block (record { stmts = []; last = Absurd no_proof span })
branches b bt span (x ∷ xs) = by_bit b bt span 0 x xs

-- the tail call of the loop's function
abbrev pub again_in : Option Ident → List Supply → Proof → Span → Last
again_in None vs q span = Again vs q span
again_in (Some loop) vs q span = Tail loop (again_word span) vs q span

unfoldable mutual
  -- the statements and the last that stand for a last
  pub core_last : List Source → Option Ident → Last → List Stmt × Last
  core_last sources loop (If' a b _ ss _ l _ ss' _ l' span) =
      ([], last.If a b (block_with (core_row sources ss) (core_boxed sources loop l)) (block_with (core_row sources ss') (core_boxed sources loop l')) span)
  core_last sources loop (Match' x at _ arms span) = ([], last.Match x at (core_arms sources loop arms) span)
  core_last sources loop (Branch' c ct p pt q b bt z zt _ blocks span) =
      (receives_bit c ct p pt q b bt z zt span ++ (branches b bt span (core_blocks sources loop blocks)).stmts, (branches b bt span (core_blocks sources loop blocks)).last)
  core_last sources loop (Loop' f ft b xs r q _ ss _ l span) = ([], Tail f ft (map (λ (y : Start). y.value) xs) q span)
  core_last sources loop (Again vs q span) = ([], again_in loop vs q span)
  core_last sources loop (Ret v q span) = ([], Ret v q span)
  core_last sources loop (Tail f ft vs q span) = ([], Tail f ft vs q span)
  core_last sources loop (Absurd q span) = ([], Absurd q span)

  pub core_row : {m : _} → List Source → Row_of-Stmt m → List Stmt
  core_row sources end_of-Stmt = []
  core_row sources (more_of-Stmt x rest) = core_stmts sources x ++ core_row sources rest

  -- what a box holds; it is never empty
  pub core_boxed : {m : _} → List Source → Option Ident → Row_of-Last m → List Stmt × Last
  core_boxed sources loop end_of-Last = ([], Absurd no_proof (record { start = 0; stop = 0; line = 0; column = 0 }))
  core_boxed sources loop (more_of-Last x rest) = core_last sources loop x

  pub core_arms : {m : _} → List Source → Option Ident → Row_of-SurfaceArm m → List SurfaceArm
  core_arms sources loop end_of-SurfaceArm = []
  core_arms sources loop (more_of-SurfaceArm p _ ss _ l rest) =
      roll-SurfaceArm (record { pat = p; block = block_with (core_row sources ss) (core_boxed sources loop l) }) ∷ core_arms sources loop rest

  pub core_blocks : {m : _} → List Source → Option Ident → Row_of-Block m → List Block
  core_blocks sources loop end_of-Block = []
  core_blocks sources loop (more_of-Block _ ss _ l rest) = block_with (core_row sources ss) (core_boxed sources loop l) ∷ core_blocks sources loop rest

-- a block inside the loop of this name
unfoldable pub core_block : List Source → Option Ident → Block → Block
core_block sources loop b = block_with (flat_map (core_stmts sources) b.stmts) (core_last sources loop b.last)

-- ---- functions that are made, in the order of their words

abbrev pub param_of : Start → Param
param_of x = record { name = x.name; name_span = x.name_span; shape = x.shape }

abbrev pub made_func : Ident → Span → Bound → List Param → Res → Block → Span → SurfaceFunc
made_func f ft b xs r block span = record { name = f; name_span = ft; bound = b; params = xs; result = r; block = block; span = span }

unfoldable mutual
  -- of a `do`: its own function, and those in its block
  pub funcs_of_stmt : List Source → Option Ident → Stmt → List SurfaceFunc
  funcs_of_stmt sources loop (ForkDo' n at r f ft b x xs q _ ss _ l span) =
      made_func f ft b (x ∷ map param_of xs) unit_res (block_with (core_row sources ss) (core_boxed sources loop l)) span
      ∷ funcs_of_row sources loop ss ++ funcs_of_boxed sources loop l
  funcs_of_stmt sources loop _ = []

  -- of a `loop`: its own function, and those in its block
  pub funcs_of_last : List Source → Option Ident → Last → List SurfaceFunc
  funcs_of_last sources loop (Loop' f ft b xs r q _ ss _ l span) =
      made_func f ft b (map param_of xs) r (block_with (core_row sources ss) (core_boxed sources (Some f) l)) span
      ∷ funcs_of_row sources (Some f) ss ++ funcs_of_boxed sources (Some f) l
  funcs_of_last sources loop (If' a b _ ss _ l _ ss' _ l' span) =
      (funcs_of_row sources loop ss ++ funcs_of_boxed sources loop l) ++ (funcs_of_row sources loop ss' ++ funcs_of_boxed sources loop l')
  funcs_of_last sources loop (Match' x at _ arms span) = funcs_of_arms sources loop arms
  funcs_of_last sources loop (Branch' c ct p pt q b bt z zt _ blocks span) = funcs_of_blocks sources loop blocks
  funcs_of_last sources loop _ = []

  pub funcs_of_row : {m : _} → List Source → Option Ident → Row_of-Stmt m → List SurfaceFunc
  funcs_of_row sources loop end_of-Stmt = []
  funcs_of_row sources loop (more_of-Stmt x rest) = funcs_of_stmt sources loop x ++ funcs_of_row sources loop rest

  pub funcs_of_boxed : {m : _} → List Source → Option Ident → Row_of-Last m → List SurfaceFunc
  funcs_of_boxed sources loop end_of-Last = []
  funcs_of_boxed sources loop (more_of-Last x rest) = funcs_of_last sources loop x

  pub funcs_of_arms : {m : _} → List Source → Option Ident → Row_of-SurfaceArm m → List SurfaceFunc
  funcs_of_arms sources loop end_of-SurfaceArm = []
  funcs_of_arms sources loop (more_of-SurfaceArm p _ ss _ l rest) = (funcs_of_row sources loop ss ++ funcs_of_boxed sources loop l) ++ funcs_of_arms sources loop rest

  pub funcs_of_blocks : {m : _} → List Source → Option Ident → Row_of-Block m → List SurfaceFunc
  funcs_of_blocks sources loop end_of-Block = []
  funcs_of_blocks sources loop (more_of-Block _ ss _ l rest) = (funcs_of_row sources loop ss ++ funcs_of_boxed sources loop l) ++ funcs_of_blocks sources loop rest

unfoldable pub funcs_of_block : List Source → Option Ident → Block → List SurfaceFunc
funcs_of_block sources loop b = flat_map (funcs_of_stmt sources loop) b.stmts ++ funcs_of_last sources loop b.last

-- ---- what the first pass looks at, in the order of the text; is it inside a loop?

abbrev pub stray : (looped : Bool) → Span → List Event
stray true span = []
stray false span = Strays (again_word span) ∷ []

unfoldable mutual
  pub events_of_stmt : (looped : Bool) → Stmt → List Event
  events_of_stmt looped (Send n at c ct r p pt v q span) = Sends (sent n at c ct r p pt v q span) ∷ []
  events_of_stmt looped (Choose i n at c ct r p pt q span) = Sends (chosen i n at c ct r p pt q span) ∷ []
  events_of_stmt looped (ForkDo' n at r f ft b x xs q _ ss _ l span) = events_of_row looped ss ++ events_of_boxed looped l
  events_of_stmt looped _ = []

  pub events_of_last : (looped : Bool) → Last → List Event
  events_of_last looped (If' a b _ ss _ l _ ss' _ l' span) =
      (events_of_row looped ss ++ events_of_boxed looped l) ++ (events_of_row looped ss' ++ events_of_boxed looped l')
  events_of_last looped (Match' x at _ arms span) = events_of_arms looped arms
  events_of_last looped (Branch' c ct p pt q b bt z zt _ blocks span) = events_of_blocks looped blocks
  events_of_last looped (Loop' f ft b xs r q _ ss _ l span) = events_of_row true ss ++ events_of_boxed true l
  events_of_last looped (Again vs q span) = stray looped span
  events_of_last looped _ = []

  pub events_of_row : {m : _} → (looped : Bool) → Row_of-Stmt m → List Event
  events_of_row looped end_of-Stmt = []
  events_of_row looped (more_of-Stmt x rest) = events_of_stmt looped x ++ events_of_row looped rest

  pub events_of_boxed : {m : _} → (looped : Bool) → Row_of-Last m → List Event
  events_of_boxed looped end_of-Last = []
  events_of_boxed looped (more_of-Last x rest) = events_of_last looped x

  pub events_of_arms : {m : _} → (looped : Bool) → Row_of-SurfaceArm m → List Event
  events_of_arms looped end_of-SurfaceArm = []
  events_of_arms looped (more_of-SurfaceArm p _ ss _ l rest) = (events_of_row looped ss ++ events_of_boxed looped l) ++ events_of_arms looped rest

  pub events_of_blocks : {m : _} → (looped : Bool) → Row_of-Block m → List Event
  events_of_blocks looped end_of-Block = []
  events_of_blocks looped (more_of-Block _ ss _ l rest) = (events_of_row looped ss ++ events_of_boxed looped l) ++ events_of_blocks looped rest

unfoldable pub events_of_block : (looped : Bool) → Block → List Event
events_of_block looped b = flat_map (events_of_stmt looped) b.stmts ++ events_of_last looped b.last
