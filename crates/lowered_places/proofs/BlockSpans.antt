-- What stands for blocks, and the functions that they make, have the spans of the blocks.
use Rattle.std.proofs.Common.{ℕ, ◌+◌, pos, true, false, Option, Some, None, List, [], ◌∷◌, ◌++◌, map, flat_map}
use Rattle.core_language.specs.Names.{Ident}
use Rattle.chan_base.specs.declared.spans.Span.{Span}
use Rattle.chan_syntax.specs.declared.surface_tree.Start.{Start}
use Rattle.chan_syntax.specs.declared.surface_tree.Stmt.{Stmt, Let, Mul, Div, Rem, Call, Fork, ForkDo', Send1, Recv1, Send, Recv, Close, Wait, Choose, Split, Print, Row_of-Stmt, end_of-Stmt, more_of-Stmt}
use Rattle.chan_syntax.specs.declared.surface_tree.Last.{Last, Ret, Tail, If', Match', Branch', Absurd, Loop', Again, Row_of-Last, end_of-Last, more_of-Last, Row_of-SurfaceArm, end_of-SurfaceArm, more_of-SurfaceArm, Row_of-Block, end_of-Block, more_of-Block}
use Rattle.chan_syntax.specs.declared.surface_tree.Block.{Block}
use Rattle.session_lowering.specs.declared.sources.Source.{Source}
use Rattle.session_lowering.specs.declared.events.Sending.{Sending}
use Rattle.session_lowering.specs.declared.events.Event.{Event}
use Rattle.session_lowering.specs.declared.events.Event.TheVariants.{Sends, Strays}
use Rattle.session_lowering.specs.PutTerms.{name_term, number_term}
use Rattle.session_lowering.specs.Blocks.{sent, chosen, fork_of_sending, receives_bit, core_stmts, core_last, core_row, core_boxed, core_arms, core_blocks, core_block, block_with, if_bit, by_bit, branches, param_of, funcs_of_stmt, funcs_of_last, funcs_of_row, funcs_of_boxed, funcs_of_arms, funcs_of_blocks, funcs_of_block, events_of_stmt, events_of_last, events_of_row, events_of_boxed, events_of_arms, events_of_blocks, events_of_block}
use Rattle.fault_places.specs.Spans.{Every, InTerm, InParam, InSupply}
use Rattle.fault_places.specs.SurfaceTrees.{InStart, InStmt, InLast, InRow, InArms, InBlocks, InBoxed, InBlock, InArm, InSurfaceFunc}
use Rattle.fault_places.proofs.PlacedBlocks.{in_if, in_match}
use Rattle.lowered_places.specs.Agains.{AgainsInStmt, AgainsInLast, AgainsInRow, AgainsInBoxed, AgainsInArms, AgainsInBlocks, AgainsInBlock}
use Rattle.lowered_places.proofs.PutSpans.{every_append, every_map, name_in, number_in}
use Rattle.lowered_places.proofs.PathSpans.{InSource, InSending, rest_in}

module _ (P : Span → Type 0) where
  -- what stands for a last
  abbrev pub InEnded : List Stmt × Last → Type 0
  InEnded ended = Every (InStmt P) ended.0 × InLast P ended.1

  block_in : (ss : List Stmt) (ended : List Stmt × Last) → Every (InStmt P) ss → InEnded ended → InBlock P (block_with ss ended)
  block_in ss ended in_ss in_ended = (every_append (InStmt P) ss ended.0 in_ss in_ended.0, in_ended.1)

  values_in : (xs : List Start) → Every (InStart P) xs → Every (InSupply P) (map (λ (y : Start). y.value) xs)
  values_in xs all = every_map (InStart P) (InSupply P) (λ (y : Start). y.value) (λ y in_y. in_y.2) xs all

  -- ---- branches

  module _ (b : Ident) (bt span : Span) (at_b : P bt) (here : P span) where
    if_bit_in : (i : ℕ) (this other : Block) → InBlock P this → InBlock P other → InBlock P (if_bit b bt span i this other)
    if_bit_in i this other in_this in_other =
        (tt, in_if P (name_term span b bt) (number_term span (pos i)) this other span (name_in P span b bt here at_b) (number_in P span (pos i) here) in_this in_other here)

    by_bit_in : (i : ℕ) (x : Block) (xs : List Block) → InBlock P x → Every (InBlock P) xs → InBlock P (by_bit b bt span i x xs)
    by_bit_in i x [] in_x all = in_x
    by_bit_in i x (y ∷ ys) in_x all = if_bit_in i x (by_bit b bt span (i + 1) y ys) in_x (by_bit_in (i + 1) y ys all.0 all.1)

    branches_in : (bs : List Block) → Every (InBlock P) bs → InBlock P (branches b bt span bs)
    branches_in [] all = (tt, ((tt, tt), here))
    branches_in (x ∷ xs) all = by_bit_in 0 x xs all.0 all.1

  -- ---- what the first pass looks at

  abbrev pub InEvent : Event → Type 0
  InEvent (Sends s) = InSending P s
  InEvent (Strays span) = P span

  mutual
    unfolding events_of_stmt events_of_last events_of_row events_of_boxed events_of_arms events_of_blocks

    event_stmt : (looped : _) (s : Stmt) → InStmt P s → AgainsInStmt P s → Every InEvent (events_of_stmt looped s)
    event_stmt looped (Let _ _ _ _) p a = tt
    event_stmt looped (Mul _ _ _ _ _) p a = tt
    event_stmt looped (Div _ _ _ _ _ _) p a = tt
    event_stmt looped (Rem _ _ _ _ _ _) p a = tt
    event_stmt looped (Call _ _ _ _ _ _) p a = tt
    event_stmt looped (Fork _ _ _ _ _ _ _ _) p a = tt
    event_stmt looped (ForkDo' n nt r f ft b x xs q _ ss _ l span) p a = every_append InEvent (events_of_row looped ss) (events_of_boxed looped l) (event_row looped ss p.7 a.0) (event_boxed looped l p.8 a.1)
    event_stmt looped (Send1 _ _ _ _ _ _ _) p a = tt
    event_stmt looped (Recv1 _ _ _ _ _ _ _) p a = tt
    event_stmt looped (Send n nt c ct r path pt v q span) p a = (p, tt)
    event_stmt looped (Recv _ _ _ _ _ _ _ _ _ _) p a = tt
    event_stmt looped (Close _ _ _ _ _ _) p a = tt
    event_stmt looped (Wait _ _ _ _ _ _) p a = tt
    event_stmt looped (Choose i n nt c ct r path pt q span) p a = ((p.0, p.1, p.2, p.3, number_in P span (pos i) p.5, (((number_in P span (pos i) p.5), p.4.0), p.4.1), p.5), tt)
    event_stmt looped (Split _ _ _ _ _) p a = tt
    event_stmt looped (Print _ _) p a = tt

    event_last : (looped : _) (l : Last) → InLast P l → AgainsInLast P l → Every InEvent (events_of_last looped l)
    event_last looped (Ret _ _ _) p a = tt
    event_last looped (Tail _ _ _ _ _) p a = tt
    event_last looped (If' t u _ ss _ l _ ss' _ l' span) p a =
        every_append InEvent (events_of_row looped ss ++ events_of_boxed looped l) (events_of_row looped ss' ++ events_of_boxed looped l')
        (every_append InEvent (events_of_row looped ss) (events_of_boxed looped l) (event_row looped ss p.2.0 a.0.0) (event_boxed looped l p.2.1 a.0.1))
        (every_append InEvent (events_of_row looped ss') (events_of_boxed looped l') (event_row looped ss' p.3.0 a.1.0) (event_boxed looped l' p.3.1 a.1.1))
    event_last looped (Match' x xt _ arms span) p a = event_arms looped arms p.1 a
    event_last looped (Branch' c ct path pt q b bt z zt _ blocks span) p a = event_blocks looped blocks p.5 a
    event_last looped (Absurd _ _) p a = tt
    event_last looped (Loop' n nt b xs r q _ ss _ l span) p a = every_append InEvent (events_of_row true ss) (events_of_boxed true l) (event_row true ss p.5.0 a.0) (event_boxed true l p.5.1 a.1)
    event_last true (Again vs q span) p a = tt
    event_last false (Again vs q span) p a = (a, tt)

    event_row : {m : _} (looped : _) (r : Row_of-Stmt m) → InRow P r → AgainsInRow P r → Every InEvent (events_of_row looped r)
    event_row looped end_of-Stmt p a = tt
    event_row looped (more_of-Stmt x rest) p a = every_append InEvent (events_of_stmt looped x) (events_of_row looped rest) (event_stmt looped x p.0 a.0) (event_row looped rest p.1 a.1)

    event_boxed : {m : _} (looped : _) (r : Row_of-Last m) → InBoxed P r → AgainsInBoxed P r → Every InEvent (events_of_boxed looped r)
    event_boxed looped end_of-Last p a = tt
    event_boxed looped (more_of-Last x rest) p a = event_last looped x p a

    event_arms : {m : _} (looped : _) (r : Row_of-SurfaceArm m) → InArms P r → AgainsInArms P r → Every InEvent (events_of_arms looped r)
    event_arms looped end_of-SurfaceArm p a = tt
    event_arms looped (more_of-SurfaceArm y _ ss _ l rest) p a =
        every_append InEvent (events_of_row looped ss ++ events_of_boxed looped l) (events_of_arms looped rest)
        (every_append InEvent (events_of_row looped ss) (events_of_boxed looped l) (event_row looped ss p.0.1.0 a.0.0) (event_boxed looped l p.0.1.1 a.0.1)) (event_arms looped rest p.1 a.1)

    event_blocks : {m : _} (looped : _) (r : Row_of-Block m) → InBlocks P r → AgainsInBlocks P r → Every InEvent (events_of_blocks looped r)
    event_blocks looped end_of-Block p a = tt
    event_blocks looped (more_of-Block _ ss _ l rest) p a =
        every_append InEvent (events_of_row looped ss ++ events_of_boxed looped l) (events_of_blocks looped rest)
        (every_append InEvent (events_of_row looped ss) (events_of_boxed looped l) (event_row looped ss p.0.0 a.0.0) (event_boxed looped l p.0.1 a.0.1)) (event_blocks looped rest p.1 a.1)

  event_stmts : (looped : _) (xs : List Stmt) → Every (InStmt P) xs → Every (AgainsInStmt P) xs → Every InEvent (flat_map (events_of_stmt looped) xs)
  event_stmts looped [] p a = tt
  event_stmts looped (x ∷ xs) p a = every_append InEvent (events_of_stmt looped x) (flat_map (events_of_stmt looped) xs) (event_stmt looped x p.0 a.0) (event_stmts looped xs p.1 a.1)

  pub event_block : (looped : _) (b : Block) → InBlock P b → AgainsInBlock P b → Every InEvent (events_of_block looped b)
  unfolding events_of_block
  event_block looped b p a = every_append InEvent (flat_map (events_of_stmt looped) b.stmts) (events_of_last looped b.last) (event_stmts looped b.stmts p.0 a.0) (event_last looped b.last p.1 a.1)

  -- ---- blocks

  module _ (sources : List Source) (all : Every (InSource P) sources) where
    fork_in : (s : Sending) → InSending P s → InStmt P (fork_of_sending sources s)
    fork_in s p = (
      p.0,
      rest_in P sources all s p,
      p.6,
      (name_in P s.channel_span s.channel s.channel_span p.1 p.1, (p.4, tt)),
      (every_append (InTerm P) s.proto.args s.proof.instances p.2.1 p.5.0, p.5.1),
      p.6,
    )

    stmt_in : (s : Stmt) → InStmt P s → Every (InStmt P) (core_stmts sources s)
    stmt_in (Let _ _ _ _) p = (p, tt)
    stmt_in (Mul _ _ _ _ _) p = (p, tt)
    stmt_in (Div _ _ _ _ _ _) p = (p, tt)
    stmt_in (Rem _ _ _ _ _ _) p = (p, tt)
    stmt_in (Call _ _ _ _ _ _) p = (p, tt)
    stmt_in (Fork _ _ _ _ _ _ _ _) p = (p, tt)
    stmt_in (ForkDo' n nt r f ft b x xs q _ ss _ l span) p = ((p.0, p.1, p.2, values_in xs p.5, p.6, p.9), tt)
    stmt_in (Send1 _ _ _ _ _ _ _) p = (p, tt)
    stmt_in (Recv1 _ _ _ _ _ _ _) p = (p, tt)
    stmt_in (Send n nt c ct r path pt v q span) p = (fork_in (sent n nt c ct r path pt v q span) p, tt)
    stmt_in (Recv x y ks kts c ct path pt q span) p = (((p.6, p.2), p.3, p.4, p.5, p.6), ((p.0, p.1, p.6, p.6), tt))
    stmt_in (Close c ct path pt q span) p = ((p.0, p.1, tt, p.2, p.3), tt)
    stmt_in (Wait c ct path pt q span) p = (((p.3, tt), p.0, p.1, p.2, p.3), tt)
    stmt_in (Choose i n nt c ct r path pt q span) p =
        (fork_in (chosen i n nt c ct r path pt q span) (p.0, p.1, p.2, p.3, number_in P span (pos i) p.5, ((number_in P span (pos i) p.5, p.4.0), p.4.1), p.5), tt)
    stmt_in (Split _ _ _ _ _) p = (p, tt)
    stmt_in (Print _ _) p = (p, tt)

    stmts_in : (xs : List Stmt) → Every (InStmt P) xs → Every (InStmt P) (flat_map (core_stmts sources) xs)
    stmts_in [] p = tt
    stmts_in (x ∷ xs) p = every_append (InStmt P) (core_stmts sources x) (flat_map (core_stmts sources) xs) (stmt_in x p.0) (stmts_in xs p.1)

    row_in : {m : _} (r : Row_of-Stmt m) → InRow P r → Every (InStmt P) (core_row sources r)
    unfolding core_row
    row_in end_of-Stmt p = tt
    row_in (more_of-Stmt x rest) p = every_append (InStmt P) (core_stmts sources x) (core_row sources rest) (stmt_in x p.0) (row_in rest p.1)

    mutual
      unfolding core_last core_boxed core_arms core_blocks

      last_in : (loop : Option Ident) (l : Last) → InLast P l → AgainsInLast P l → InEnded (core_last sources loop l)
      last_in loop (Ret v q span) p a = (tt, p)
      last_in loop (Tail f ft vs q span) p a = (tt, p)
      last_in loop (If' t u _ ss _ l _ ss' _ l' span) p a = (
        tt,
        in_if P t u (block_with (core_row sources ss) (core_boxed sources loop l)) (block_with (core_row sources ss') (core_boxed sources loop l')) span p.0 p.1
            (block_in (core_row sources ss) (core_boxed sources loop l) (row_in ss p.2.0) (boxed_in loop l p.2.1 a.0.1))
            (block_in (core_row sources ss') (core_boxed sources loop l') (row_in ss' p.3.0) (boxed_in loop l' p.3.1 a.1.1)) p.4,
      )
      last_in loop (Match' x xt _ arms span) p a = (tt, in_match P x xt (core_arms sources loop arms) span p.0 (arms_in loop arms p.1 a) p.2)
      last_in loop (Branch' c ct path pt q b bt z zt _ blocks span) p a =
          let made = branches b bt span (core_blocks sources loop blocks) in
          let in_made = branches_in b bt span p.3 p.6 (core_blocks sources loop blocks) (blocks_in loop blocks p.5 a) in
          (every_append (InStmt P) (receives_bit c ct path pt q b bt z zt span) made.stmts (((p.6, (p.6, tt)), p.0, p.1, p.2, p.6), (((p.3, tt), (p.4, tt), p.6, p.6), tt)) in_made.0, in_made.1)
      last_in loop (Absurd q span) p a = (tt, p)
      last_in loop (Loop' n nt b xs r q _ ss _ l span) p a = (tt, (p.0, values_in xs p.2, p.4, p.6))
      last_in None (Again vs q span) p a = (tt, p)
      last_in (Some f) (Again vs q span) p a = (tt, (a, p.0, p.1, p.2))

      boxed_in : {m : _} (loop : Option Ident) (x : Row_of-Last m) → InBoxed P x → AgainsInBoxed P x → InEnded (core_boxed sources loop x)
      boxed_in loop end_of-Last p a = absurd a
      boxed_in loop (more_of-Last x rest) p a = last_in loop x p a

      arms_in : {m : _} (loop : Option Ident) (r : Row_of-SurfaceArm m) → InArms P r → AgainsInArms P r → Every (InArm P) (core_arms sources loop r)
      arms_in loop end_of-SurfaceArm p a = tt
      arms_in loop (more_of-SurfaceArm y _ ss _ l rest) p a =
          ((p.0.0, block_in (core_row sources ss) (core_boxed sources loop l) (row_in ss p.0.1.0) (boxed_in loop l p.0.1.1 a.0.1)), arms_in loop rest p.1 a.1)

      blocks_in : {m : _} (loop : Option Ident) (r : Row_of-Block m) → InBlocks P r → AgainsInBlocks P r → Every (InBlock P) (core_blocks sources loop r)
      blocks_in loop end_of-Block p a = tt
      blocks_in loop (more_of-Block _ ss _ l rest) p a =
          (block_in (core_row sources ss) (core_boxed sources loop l) (row_in ss p.0.0) (boxed_in loop l p.0.1 a.0.1), blocks_in loop rest p.1 a.1)

    pub core_block_in : (loop : Option Ident) (b : Block) → InBlock P b → AgainsInBlock P b → InBlock P (core_block sources loop b)
    unfolding core_block
    core_block_in loop b p a = block_in (flat_map (core_stmts sources) b.stmts) (core_last sources loop b.last) (stmts_in b.stmts p.0) (last_in loop b.last p.1 a.1)

    -- ---- functions that are made

    params_in : (xs : List Start) → Every (InStart P) xs → Every (InParam P) (map param_of xs)
    params_in xs p = every_map (InStart P) (InParam P) param_of (λ x in_x. (in_x.0, in_x.1)) xs p

    mutual
      unfolding funcs_of_stmt funcs_of_last funcs_of_row funcs_of_boxed funcs_of_arms funcs_of_blocks

      made_stmt : (loop : Option Ident) (s : Stmt) → InStmt P s → AgainsInStmt P s → Every (InSurfaceFunc P) (funcs_of_stmt sources loop s)
      made_stmt loop (Let _ _ _ _) p a = tt
      made_stmt loop (Mul _ _ _ _ _) p a = tt
      made_stmt loop (Div _ _ _ _ _ _) p a = tt
      made_stmt loop (Rem _ _ _ _ _ _) p a = tt
      made_stmt loop (Call _ _ _ _ _ _) p a = tt
      made_stmt loop (Fork _ _ _ _ _ _ _ _) p a = tt
      made_stmt loop (ForkDo' n nt r f ft b x xs q _ ss _ l span) p a = (
        (p.2, p.3, (p.4, params_in xs p.5), ((tt, tt), tt), block_in (core_row sources ss) (core_boxed sources loop l) (row_in ss p.7) (boxed_in loop l p.8 a.1), p.9),
        every_append (InSurfaceFunc P) (funcs_of_row sources loop ss) (funcs_of_boxed sources loop l) (made_row loop ss p.7 a.0) (made_boxed loop l p.8 a.1),
      )
      made_stmt loop (Send1 _ _ _ _ _ _ _) p a = tt
      made_stmt loop (Recv1 _ _ _ _ _ _ _) p a = tt
      made_stmt loop (Send _ _ _ _ _ _ _ _ _ _) p a = tt
      made_stmt loop (Recv _ _ _ _ _ _ _ _ _ _) p a = tt
      made_stmt loop (Close _ _ _ _ _ _) p a = tt
      made_stmt loop (Wait _ _ _ _ _ _) p a = tt
      made_stmt loop (Choose _ _ _ _ _ _ _ _ _ _) p a = tt
      made_stmt loop (Split _ _ _ _ _) p a = tt
      made_stmt loop (Print _ _) p a = tt

      made_last : (loop : Option Ident) (l : Last) → InLast P l → AgainsInLast P l → Every (InSurfaceFunc P) (funcs_of_last sources loop l)
      made_last loop (Ret _ _ _) p a = tt
      made_last loop (Tail _ _ _ _ _) p a = tt
      made_last loop (If' t u _ ss _ l _ ss' _ l' span) p a =
          every_append (InSurfaceFunc P) (funcs_of_row sources loop ss ++ funcs_of_boxed sources loop l) (funcs_of_row sources loop ss' ++ funcs_of_boxed sources loop l')
          (every_append (InSurfaceFunc P) (funcs_of_row sources loop ss) (funcs_of_boxed sources loop l) (made_row loop ss p.2.0 a.0.0) (made_boxed loop l p.2.1 a.0.1))
          (every_append (InSurfaceFunc P) (funcs_of_row sources loop ss') (funcs_of_boxed sources loop l') (made_row loop ss' p.3.0 a.1.0) (made_boxed loop l' p.3.1 a.1.1))
      made_last loop (Match' x xt _ arms span) p a = made_arms loop arms p.1 a
      made_last loop (Branch' c ct path pt q b bt z zt _ blocks span) p a = made_blocks loop blocks p.5 a
      made_last loop (Absurd _ _) p a = tt
      made_last loop (Loop' f ft b xs r q _ ss _ l span) p a = (
        (p.0, p.1, params_in xs p.2, p.3, block_in (core_row sources ss) (core_boxed sources (Some f) l) (row_in ss p.5.0) (boxed_in (Some f) l p.5.1 a.1), p.6),
        every_append (InSurfaceFunc P) (funcs_of_row sources (Some f) ss) (funcs_of_boxed sources (Some f) l) (made_row (Some f) ss p.5.0 a.0) (made_boxed (Some f) l p.5.1 a.1),
      )
      made_last loop (Again _ _ _) p a = tt

      made_row : {m : _} (loop : Option Ident) (r : Row_of-Stmt m) → InRow P r → AgainsInRow P r → Every (InSurfaceFunc P) (funcs_of_row sources loop r)
      made_row loop end_of-Stmt p a = tt
      made_row loop (more_of-Stmt x rest) p a = every_append (InSurfaceFunc P) (funcs_of_stmt sources loop x) (funcs_of_row sources loop rest) (made_stmt loop x p.0 a.0) (made_row loop rest p.1 a.1)

      made_boxed : {m : _} (loop : Option Ident) (x : Row_of-Last m) → InBoxed P x → AgainsInBoxed P x → Every (InSurfaceFunc P) (funcs_of_boxed sources loop x)
      made_boxed loop end_of-Last p a = tt
      made_boxed loop (more_of-Last x rest) p a = made_last loop x p a

      made_arms : {m : _} (loop : Option Ident) (r : Row_of-SurfaceArm m) → InArms P r → AgainsInArms P r → Every (InSurfaceFunc P) (funcs_of_arms sources loop r)
      made_arms loop end_of-SurfaceArm p a = tt
      made_arms loop (more_of-SurfaceArm y _ ss _ l rest) p a =
          every_append (InSurfaceFunc P) (funcs_of_row sources loop ss ++ funcs_of_boxed sources loop l) (funcs_of_arms sources loop rest)
          (every_append (InSurfaceFunc P) (funcs_of_row sources loop ss) (funcs_of_boxed sources loop l) (made_row loop ss p.0.1.0 a.0.0) (made_boxed loop l p.0.1.1 a.0.1)) (made_arms loop rest p.1 a.1)

      made_blocks : {m : _} (loop : Option Ident) (r : Row_of-Block m) → InBlocks P r → AgainsInBlocks P r → Every (InSurfaceFunc P) (funcs_of_blocks sources loop r)
      made_blocks loop end_of-Block p a = tt
      made_blocks loop (more_of-Block _ ss _ l rest) p a =
          every_append (InSurfaceFunc P) (funcs_of_row sources loop ss ++ funcs_of_boxed sources loop l) (funcs_of_blocks sources loop rest)
          (every_append (InSurfaceFunc P) (funcs_of_row sources loop ss) (funcs_of_boxed sources loop l) (made_row loop ss p.0.0 a.0.0) (made_boxed loop l p.0.1 a.0.1)) (made_blocks loop rest p.1 a.1)

    made_all : (loop : Option Ident) (xs : List Stmt) → Every (InStmt P) xs → Every (AgainsInStmt P) xs → Every (InSurfaceFunc P) (flat_map (funcs_of_stmt sources loop) xs)
    made_all loop [] p a = tt
    made_all loop (x ∷ xs) p a = every_append (InSurfaceFunc P) (funcs_of_stmt sources loop x) (flat_map (funcs_of_stmt sources loop) xs) (made_stmt loop x p.0 a.0) (made_all loop xs p.1 a.1)

    pub block_funcs_in : (loop : Option Ident) (b : Block) → InBlock P b → AgainsInBlock P b → Every (InSurfaceFunc P) (funcs_of_block sources loop b)
    unfolding funcs_of_block
    block_funcs_in loop b p a =
        every_append (InSurfaceFunc P) (flat_map (funcs_of_stmt sources loop) b.stmts) (funcs_of_last sources loop b.last) (made_all loop b.stmts p.0 a.0) (made_last loop b.last p.1 a.1)
