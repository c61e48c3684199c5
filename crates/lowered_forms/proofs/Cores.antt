-- The core tree of a tree without faults in its first pass has no session.
use Rattle.std.proofs.Common.{◌≡◌, ℕ, ◌+◌, Bool, true, false, ◌&&◌, if◌then◌else◌, Option, Some, None, Ok, List, [], ◌∷◌, ◌++◌, map, flat_map, refl, subst, ◌∙◌}
use Rattle.std.specs.List.{list_all}
use Rattle.core_language.specs.Names.{Ident}
use Rattle.chan_base.specs.declared.spans.Span.{Span}
use Rattle.chan_syntax.specs.declared.surface_tree.Stmt.{Stmt, Let, Mul, Div, Rem, Call, Fork, ForkDo', Send1, Recv1, Send, Recv, Close, Wait, Choose, Split, Print, Row_of-Stmt, end_of-Stmt, more_of-Stmt}
use Rattle.chan_syntax.specs.declared.surface_tree.Last.{Last, Ret, Tail, If', Match', Branch', Absurd, Loop', Again, Row_of-Last, end_of-Last, more_of-Last, Row_of-SurfaceArm, end_of-SurfaceArm, more_of-SurfaceArm, Row_of-Block, end_of-Block, more_of-Block}
use Rattle.chan_syntax.specs.declared.surface_tree.SurfaceFunc.{SurfaceFunc}
use Rattle.chan_syntax.specs.declared.surface_tree.Block.{Block}
use Rattle.chan_syntax.specs.declared.surface_tree.Decl.{Decl}
use Rattle.chan_syntax.specs.declared.surface_tree.Decl.TheVariants as decl
use Rattle.chan_syntax.specs.declared.surface_tree.Surface.{Surface}
use Rattle.form_faults.specs.declared.faults.Ill.{Ill}
use Rattle.form_faults.specs.Faults.{least}
use Rattle.core_trees.specs.Core.{is_core_stmt, is_core_last, is_core_block, is_core_arm, is_core_decl, is_core}
use Rattle.core_trees.proofs.CoreBlocks.{core_if, core_match, this_core, other_core}
use Rattle.session_lowering.specs.declared.sources.Source.{Source}
use Rattle.session_lowering.specs.declared.events.Sending.{Sending}
use Rattle.session_lowering.specs.declared.events.Event.{Event}
use Rattle.session_lowering.specs.declared.events.Event.TheVariants.{Sends, Strays}
use Rattle.session_lowering.specs.Choices.{sources}
use Rattle.session_lowering.specs.Sends.{Message, message_of, helper_name}
use Rattle.session_lowering.specs.FirstPass.{first_pass, event_faults, or_else}
use Rattle.session_lowering.specs.Blocks.{core_stmts, core_last, core_row, core_boxed, core_arms, core_blocks, core_block, block_with, receives_bit, if_bit, by_bit, branches, funcs_of_stmt, funcs_of_last, funcs_of_row, funcs_of_boxed, funcs_of_arms, funcs_of_blocks, funcs_of_block, events_of_stmt, events_of_last, events_of_row, events_of_boxed, events_of_arms, events_of_blocks, events_of_block}
use Rattle.session_lowering.specs.Lowered.{surface_proto, funcs_of, events_of, sendings, is_among, one_helper, helpers_but, helpers, events, core_decls, core_tree, or_fault}
use Rattle.lowered_forms.specs.Laws.{DesugarsToCore}

-- ---- tests of lists

pub both : (a b : Bool) → a ≡ true → b ≡ true → (a && b) ≡ true
both true b this other = other
both false b this other = this

module _ {X : Type 0} (test : X → Bool) where
  abbrev Each : List X → Type 0
  Each xs = list_all test xs ≡ true

  joined : (xs ys : List X) → Each xs → Each ys → Each (xs ++ ys)
  joined [] ys here there = there
  joined (x ∷ xs) ys here there = both (test x) (list_all test (xs ++ ys)) (this_core (test x) (list_all test xs) here) (joined xs ys (other_core (test x) (list_all test xs) here) there)

  front : (xs ys : List X) → Each (xs ++ ys) → Each xs
  front [] ys all = refl
  front (x ∷ xs) ys all = both (test x) (list_all test xs) (this_core (test x) (list_all test (xs ++ ys)) all) (front xs ys (other_core (test x) (list_all test (xs ++ ys)) all))

  behind : (xs ys : List X) → Each (xs ++ ys) → Each ys
  behind [] ys all = all
  behind (x ∷ xs) ys all = behind xs ys (other_core (test x) (list_all test (xs ++ ys)) all)

-- ---- no `again` outside every loop

abbrev is_send : Event → Bool
is_send (Sends s) = true
is_send (Strays span) = false

abbrev Clear : List Event → Type 0
Clear es = list_all is_send es ≡ true

pub no_first : (a b : Option Ill) → or_else a b ≡ None → a ≡ None
no_first None b is = refl
no_first (Some f) b is = is

pub no_later : (a b : Option Ill) → or_else a b ≡ None → b ≡ None
no_later None b is = is
no_later (Some f) b is = cc

-- an `again` outside every loop is a fault
strays_fail : (ss : List Source) (span : Span) → least None (event_faults ss (Strays span)) ≡ None → ⊥
unfolding least
strays_fail ss span is = cc

passed : (ss : List Source) (es : List Event) → first_pass ss es ≡ None → Clear es
passed ss [] is = refl
passed ss (Sends s ∷ es) is = passed ss es (no_later (least None (event_faults ss (Sends s))) (first_pass ss es) is)
passed ss (Strays span ∷ es) is = absurd (strays_fail ss span (no_first (least None (event_faults ss (Strays span))) (first_pass ss es) is))

-- ---- blocks

abbrev is_in : Option Ident → Bool
is_in None = false
is_in (Some f) = true

abbrev EndsCore : List Stmt × Last → Type 0
EndsCore ended = (list_all is_core_stmt ended.0 ≡ true) × (is_core_last ended.1 ≡ true)

core_of : (ss : List Stmt) (ended : List Stmt × Last) → list_all is_core_stmt ss ≡ true → EndsCore ended → is_core_block (block_with ss ended) ≡ true
unfolding is_core_block
core_of ss ended here ends = both (list_all is_core_stmt (ss ++ ended.0)) (is_core_last ended.1) (joined is_core_stmt ss ended.0 here ends.0) ends.1

ends_core : (b : Block) → is_core_block b ≡ true → EndsCore (b.stmts, b.last)
unfolding is_core_block
ends_core b is = (this_core (list_all is_core_stmt b.stmts) (is_core_last b.last) is, other_core (list_all is_core_stmt b.stmts) (is_core_last b.last) is)

module _ (b : Ident) (bt span : Span) where
  if_bit_core : (i : ℕ) (this other : Block) → is_core_block this ≡ true → is_core_block other ≡ true → is_core_block (if_bit b bt span i this other) ≡ true
  unfolding is_core_block
  if_bit_core i this other here there = core_if _ _ this other span ∙ both (is_core_block this) (is_core_block other) here there

  by_bit_core : (i : ℕ) (x : Block) (xs : List Block) → is_core_block x ≡ true → list_all is_core_block xs ≡ true → is_core_block (by_bit b bt span i x xs) ≡ true
  by_bit_core i x [] here more = here
  by_bit_core i x (y ∷ ys) here more =
      if_bit_core i x (by_bit b bt span (i + 1) y ys) here (by_bit_core (i + 1) y ys (this_core (is_core_block y) (list_all is_core_block ys) more) (other_core (is_core_block y) (list_all is_core_block ys) more))

  branches_core : (bs : List Block) → list_all is_core_block bs ≡ true → is_core_block (branches b bt span bs) ≡ true
  unfolding is_core_block is_core_last
  branches_core [] all = refl
  branches_core (x ∷ xs) all = by_bit_core 0 x xs (this_core (is_core_block x) (list_all is_core_block xs) all) (other_core (is_core_block x) (list_all is_core_block xs) all)

module _ (sources : List Source) where
  core_stmt : (s : Stmt) → list_all is_core_stmt (core_stmts sources s) ≡ true
  core_stmt (Let _ _ _ _) = refl
  core_stmt (Mul _ _ _ _ _) = refl
  core_stmt (Div _ _ _ _ _ _) = refl
  core_stmt (Rem _ _ _ _ _ _) = refl
  core_stmt (Call _ _ _ _ _ _) = refl
  core_stmt (Fork _ _ _ _ _ _ _ _) = refl
  core_stmt (ForkDo' _ _ _ _ _ _ _ _ _ _ _ _ _ _) = refl
  core_stmt (Send1 _ _ _ _ _ _ _) = refl
  core_stmt (Recv1 _ _ _ _ _ _ _) = refl
  core_stmt (Send _ _ _ _ _ _ _ _ _ _) = refl
  core_stmt (Recv _ _ _ _ _ _ _ _ _ _) = refl
  core_stmt (Close _ _ _ _ _ _) = refl
  core_stmt (Wait _ _ _ _ _ _) = refl
  core_stmt (Choose _ _ _ _ _ _ _ _ _ _) = refl
  core_stmt (Split _ _ _ _ _) = refl
  core_stmt (Print _ _) = refl

  core_all : (xs : List Stmt) → list_all is_core_stmt (flat_map (core_stmts sources) xs) ≡ true
  core_all [] = refl
  core_all (x ∷ xs) = joined is_core_stmt (core_stmts sources x) (flat_map (core_stmts sources) xs) (core_stmt x) (core_all xs)

  core_of_row : {m : _} (r : Row_of-Stmt m) → list_all is_core_stmt (core_row sources r) ≡ true
  unfolding core_row
  core_of_row end_of-Stmt = refl
  core_of_row (more_of-Stmt x rest) = joined is_core_stmt (core_stmts sources x) (core_row sources rest) (core_stmt x) (core_of_row rest)

  mutual
    unfolding core_last core_boxed core_arms core_blocks events_of_last events_of_boxed events_of_arms events_of_blocks is_core_last

    ends : (loop : Option Ident) (l : Last) → Clear (events_of_last (is_in loop) l) → EndsCore (core_last sources loop l)
    ends loop (Ret v q span) clear = (refl, refl)
    ends loop (Tail f ft vs q span) clear = (refl, refl)
    ends loop (If' a b _ ss _ l _ ss' _ l' span) clear =
        let here = front is_send (events_of_row (is_in loop) ss ++ events_of_boxed (is_in loop) l) (events_of_row (is_in loop) ss' ++ events_of_boxed (is_in loop) l') clear in
        let there = behind is_send (events_of_row (is_in loop) ss ++ events_of_boxed (is_in loop) l) (events_of_row (is_in loop) ss' ++ events_of_boxed (is_in loop) l') clear in (
          refl,
          core_if a b (block_with (core_row sources ss) (core_boxed sources loop l)) (block_with (core_row sources ss') (core_boxed sources loop l')) span
              ∙ both (is_core_block (block_with (core_row sources ss) (core_boxed sources loop l))) (is_core_block (block_with (core_row sources ss') (core_boxed sources loop l')))
              (core_of (core_row sources ss) (core_boxed sources loop l) (core_of_row ss) (ends_boxed loop l (behind is_send (events_of_row (is_in loop) ss) (events_of_boxed (is_in loop) l) here)))
              (core_of (core_row sources ss') (core_boxed sources loop l') (core_of_row ss') (ends_boxed loop l' (behind is_send (events_of_row (is_in loop) ss') (events_of_boxed (is_in loop) l') there))),
        )
    ends loop (Match' x at _ arms span) clear = (refl, core_match x at (core_arms sources loop arms) span ∙ all_arms loop arms clear)
    ends loop (Branch' c ct p pt q b bt z zt _ blocks span) clear =
        let made = branches b bt span (core_blocks sources loop blocks) in
        let core = ends_core made (branches_core b bt span (core_blocks sources loop blocks) (all_blocks loop blocks clear)) in
        (joined is_core_stmt (receives_bit c ct p pt q b bt z zt span) made.stmts refl core.0, core.1)
    ends loop (Absurd q span) clear = (refl, refl)
    ends loop (Loop' f ft b xs r q _ ss _ l span) clear = (refl, refl)
    ends None (Again vs q span) clear = cc
    ends (Some f) (Again vs q span) clear = (refl, refl)

    ends_boxed : {m : _} (loop : Option Ident) (x : Row_of-Last m) → Clear (events_of_boxed (is_in loop) x) → EndsCore (core_boxed sources loop x)
    ends_boxed loop end_of-Last clear = (refl, refl)
    ends_boxed loop (more_of-Last x rest) clear = ends loop x clear

    all_arms : {m : _} (loop : Option Ident) (r : Row_of-SurfaceArm m) → Clear (events_of_arms (is_in loop) r) → list_all is_core_arm (core_arms sources loop r) ≡ true
    all_arms loop end_of-SurfaceArm clear = refl
    all_arms loop (more_of-SurfaceArm p _ ss _ l rest) clear =
        let here = front is_send (events_of_row (is_in loop) ss ++ events_of_boxed (is_in loop) l) (events_of_arms (is_in loop) rest) clear in
        let there = behind is_send (events_of_row (is_in loop) ss ++ events_of_boxed (is_in loop) l) (events_of_arms (is_in loop) rest) clear in
        both (is_core_block (block_with (core_row sources ss) (core_boxed sources loop l))) (list_all is_core_arm (core_arms sources loop rest))
        (core_of (core_row sources ss) (core_boxed sources loop l) (core_of_row ss) (ends_boxed loop l (behind is_send (events_of_row (is_in loop) ss) (events_of_boxed (is_in loop) l) here)))
        (all_arms loop rest there)

    all_blocks : {m : _} (loop : Option Ident) (r : Row_of-Block m) → Clear (events_of_blocks (is_in loop) r) → list_all is_core_block (core_blocks sources loop r) ≡ true
    all_blocks loop end_of-Block clear = refl
    all_blocks loop (more_of-Block _ ss _ l rest) clear =
        let here = front is_send (events_of_row (is_in loop) ss ++ events_of_boxed (is_in loop) l) (events_of_blocks (is_in loop) rest) clear in
        let there = behind is_send (events_of_row (is_in loop) ss ++ events_of_boxed (is_in loop) l) (events_of_blocks (is_in loop) rest) clear in
        both (is_core_block (block_with (core_row sources ss) (core_boxed sources loop l))) (list_all is_core_block (core_blocks sources loop rest))
        (core_of (core_row sources ss) (core_boxed sources loop l) (core_of_row ss) (ends_boxed loop l (behind is_send (events_of_row (is_in loop) ss) (events_of_boxed (is_in loop) l) here)))
        (all_blocks loop rest there)

  -- ---- functions

  abbrev is_core_func : SurfaceFunc → Bool
  is_core_func f = is_core_block f.block

  module _ {m k : _} (loop : Option Ident) (ss : Row_of-Stmt m) (l : Row_of-Last k) (clear : Clear (events_of_row (is_in loop) ss ++ events_of_boxed (is_in loop) l)) where
    row_clear : Clear (events_of_row (is_in loop) ss)
    row_clear = front is_send (events_of_row (is_in loop) ss) (events_of_boxed (is_in loop) l) clear

    boxed_clear : Clear (events_of_boxed (is_in loop) l)
    boxed_clear = behind is_send (events_of_row (is_in loop) ss) (events_of_boxed (is_in loop) l) clear

    -- the functions in the block
    gathered : list_all is_core_func (funcs_of_row sources loop ss) ≡ true → list_all is_core_func (funcs_of_boxed sources loop l) ≡ true
        → list_all is_core_func (funcs_of_row sources loop ss ++ funcs_of_boxed sources loop l) ≡ true
    gathered = joined is_core_func (funcs_of_row sources loop ss) (funcs_of_boxed sources loop l)

    -- the function of a `do` or a `loop`, and those in its block
    within : list_all is_core_func (funcs_of_row sources loop ss ++ funcs_of_boxed sources loop l) ≡ true
        → (is_core_block (block_with (core_row sources ss) (core_boxed sources loop l)) && list_all is_core_func (funcs_of_row sources loop ss ++ funcs_of_boxed sources loop l)) ≡ true
    within = both (is_core_block (block_with (core_row sources ss) (core_boxed sources loop l))) (list_all is_core_func (funcs_of_row sources loop ss ++ funcs_of_boxed sources loop l))
        (core_of (core_row sources ss) (core_boxed sources loop l) (core_of_row ss) (ends_boxed loop l boxed_clear))

  mutual
    unfolding funcs_of_stmt funcs_of_last funcs_of_row funcs_of_boxed funcs_of_arms funcs_of_blocks events_of_stmt events_of_last events_of_row events_of_boxed events_of_arms events_of_blocks

    made_stmt : (loop : Option Ident) (s : Stmt) → Clear (events_of_stmt (is_in loop) s) → list_all is_core_func (funcs_of_stmt sources loop s) ≡ true
    made_stmt loop (Let _ _ _ _) clear = refl
    made_stmt loop (Mul _ _ _ _ _) clear = refl
    made_stmt loop (Div _ _ _ _ _ _) clear = refl
    made_stmt loop (Rem _ _ _ _ _ _) clear = refl
    made_stmt loop (Call _ _ _ _ _ _) clear = refl
    made_stmt loop (Fork _ _ _ _ _ _ _ _) clear = refl
    made_stmt loop (ForkDo' n at r f ft b x xs q _ ss _ l span) clear = within loop ss l clear (gathered loop ss l clear (made_row loop ss (row_clear loop ss l clear)) (made_boxed loop l (boxed_clear loop ss l clear)))
    made_stmt loop (Send1 _ _ _ _ _ _ _) clear = refl
    made_stmt loop (Recv1 _ _ _ _ _ _ _) clear = refl
    made_stmt loop (Send _ _ _ _ _ _ _ _ _ _) clear = refl
    made_stmt loop (Recv _ _ _ _ _ _ _ _ _ _) clear = refl
    made_stmt loop (Close _ _ _ _ _ _) clear = refl
    made_stmt loop (Wait _ _ _ _ _ _) clear = refl
    made_stmt loop (Choose _ _ _ _ _ _ _ _ _ _) clear = refl
    made_stmt loop (Split _ _ _ _ _) clear = refl
    made_stmt loop (Print _ _) clear = refl

    made_last : (loop : Option Ident) (l : Last) → Clear (events_of_last (is_in loop) l) → list_all is_core_func (funcs_of_last sources loop l) ≡ true
    made_last loop (Ret v q span) clear = refl
    made_last loop (Tail f ft vs q span) clear = refl
    made_last loop (If' a b _ ss _ l _ ss' _ l' span) clear =
        let here = front is_send (events_of_row (is_in loop) ss ++ events_of_boxed (is_in loop) l) (events_of_row (is_in loop) ss' ++ events_of_boxed (is_in loop) l') clear in
        let there = behind is_send (events_of_row (is_in loop) ss ++ events_of_boxed (is_in loop) l) (events_of_row (is_in loop) ss' ++ events_of_boxed (is_in loop) l') clear in
        joined is_core_func (funcs_of_row sources loop ss ++ funcs_of_boxed sources loop l) (funcs_of_row sources loop ss' ++ funcs_of_boxed sources loop l')
        (gathered loop ss l here (made_row loop ss (row_clear loop ss l here)) (made_boxed loop l (boxed_clear loop ss l here)))
        (gathered loop ss' l' there (made_row loop ss' (row_clear loop ss' l' there)) (made_boxed loop l' (boxed_clear loop ss' l' there)))
    made_last loop (Match' x at _ arms span) clear = made_arms loop arms clear
    made_last loop (Branch' c ct p pt q b bt z zt _ blocks span) clear = made_blocks loop blocks clear
    made_last loop (Absurd q span) clear = refl
    made_last loop (Loop' f ft b xs r q _ ss _ l span) clear = within (Some f) ss l clear (gathered (Some f) ss l clear (made_row (Some f) ss (row_clear (Some f) ss l clear)) (made_boxed (Some f) l (boxed_clear (Some f) ss l clear)))
    made_last loop (Again vs q span) clear = refl

    made_row : {m : _} (loop : Option Ident) (r : Row_of-Stmt m) → Clear (events_of_row (is_in loop) r) → list_all is_core_func (funcs_of_row sources loop r) ≡ true
    made_row loop end_of-Stmt clear = refl
    made_row loop (more_of-Stmt x rest) clear =
        joined is_core_func (funcs_of_stmt sources loop x) (funcs_of_row sources loop rest)
        (made_stmt loop x (front is_send (events_of_stmt (is_in loop) x) (events_of_row (is_in loop) rest) clear))
        (made_row loop rest (behind is_send (events_of_stmt (is_in loop) x) (events_of_row (is_in loop) rest) clear))

    made_boxed : {m : _} (loop : Option Ident) (x : Row_of-Last m) → Clear (events_of_boxed (is_in loop) x) → list_all is_core_func (funcs_of_boxed sources loop x) ≡ true
    made_boxed loop end_of-Last clear = refl
    made_boxed loop (more_of-Last x rest) clear = made_last loop x clear

    made_arms : {m : _} (loop : Option Ident) (r : Row_of-SurfaceArm m) → Clear (events_of_arms (is_in loop) r) → list_all is_core_func (funcs_of_arms sources loop r) ≡ true
    made_arms loop end_of-SurfaceArm clear = refl
    made_arms loop (more_of-SurfaceArm p _ ss _ l rest) clear =
        let here = front is_send (events_of_row (is_in loop) ss ++ events_of_boxed (is_in loop) l) (events_of_arms (is_in loop) rest) clear in
        joined is_core_func (funcs_of_row sources loop ss ++ funcs_of_boxed sources loop l) (funcs_of_arms sources loop rest)
        (gathered loop ss l here (made_row loop ss (row_clear loop ss l here)) (made_boxed loop l (boxed_clear loop ss l here)))
        (made_arms loop rest (behind is_send (events_of_row (is_in loop) ss ++ events_of_boxed (is_in loop) l) (events_of_arms (is_in loop) rest) clear))

    made_blocks : {m : _} (loop : Option Ident) (r : Row_of-Block m) → Clear (events_of_blocks (is_in loop) r) → list_all is_core_func (funcs_of_blocks sources loop r) ≡ true
    made_blocks loop end_of-Block clear = refl
    made_blocks loop (more_of-Block _ ss _ l rest) clear =
        let here = front is_send (events_of_row (is_in loop) ss ++ events_of_boxed (is_in loop) l) (events_of_blocks (is_in loop) rest) clear in
        joined is_core_func (funcs_of_row sources loop ss ++ funcs_of_boxed sources loop l) (funcs_of_blocks sources loop rest)
        (gathered loop ss l here (made_row loop ss (row_clear loop ss l here)) (made_boxed loop l (boxed_clear loop ss l here)))
        (made_blocks loop rest (behind is_send (events_of_row (is_in loop) ss ++ events_of_boxed (is_in loop) l) (events_of_blocks (is_in loop) rest) clear))

  made_all : (loop : Option Ident) (xs : List Stmt) → Clear (flat_map (events_of_stmt (is_in loop)) xs) → list_all is_core_func (flat_map (funcs_of_stmt sources loop) xs) ≡ true
  made_all loop [] clear = refl
  made_all loop (x ∷ xs) clear =
      joined is_core_func (funcs_of_stmt sources loop x) (flat_map (funcs_of_stmt sources loop) xs)
      (made_stmt loop x (front is_send (events_of_stmt (is_in loop) x) (flat_map (events_of_stmt (is_in loop)) xs) clear))
      (made_all loop xs (behind is_send (events_of_stmt (is_in loop) x) (flat_map (events_of_stmt (is_in loop)) xs) clear))

  block_core : (loop : Option Ident) (b : Block) → Clear (events_of_block (is_in loop) b) → is_core_block (core_block sources loop b) ≡ true
  unfolding core_block events_of_block
  block_core loop b clear =
      core_of (flat_map (core_stmts sources) b.stmts) (core_last sources loop b.last) (core_all b.stmts)
      (ends loop b.last (behind is_send (flat_map (events_of_stmt (is_in loop)) b.stmts) (events_of_last (is_in loop) b.last) clear))

  block_funcs : (loop : Option Ident) (b : Block) → Clear (events_of_block (is_in loop) b) → list_all is_core_func (funcs_of_block sources loop b) ≡ true
  unfolding funcs_of_block events_of_block
  block_funcs loop b clear =
      joined is_core_func (flat_map (funcs_of_stmt sources loop) b.stmts) (funcs_of_last sources loop b.last)
      (made_all loop b.stmts (front is_send (flat_map (events_of_stmt (is_in loop)) b.stmts) (events_of_last (is_in loop) b.last) clear))
      (made_last loop b.last (behind is_send (flat_map (events_of_stmt (is_in loop)) b.stmts) (events_of_last (is_in loop) b.last) clear))

  decl_funcs : (d : Decl) → Clear (events_of d) → list_all is_core_func (funcs_of sources d) ≡ true
  decl_funcs (decl.Proto p) clear = refl
  decl_funcs (decl.Func f) clear =
      both (is_core_block (core_block sources None f.block)) (list_all is_core_func (funcs_of_block sources None f.block)) (block_core None f.block clear) (block_funcs None f.block clear)

  text_funcs : (ds : List Decl) → Clear (flat_map events_of ds) → list_all is_core_func (flat_map (funcs_of sources) ds) ≡ true
  text_funcs [] clear = refl
  text_funcs (d ∷ ds) clear =
      joined is_core_func (funcs_of sources d) (flat_map (funcs_of sources) ds)
      (decl_funcs d (front is_send (events_of d) (flat_map events_of ds) clear))
      (text_funcs ds (behind is_send (events_of d) (flat_map events_of ds) clear))

  -- ---- helpers

  helper_core : (s : Sending) (m : Option Message) → list_all is_core_func (one_helper sources s m) ≡ true
  unfolding is_core_block is_core_last
  helper_core s None = refl
  helper_core s (Some m) = refl

  either : (known : Bool) (this other : List SurfaceFunc) → list_all is_core_func this ≡ true → list_all is_core_func other ≡ true → list_all is_core_func (if known then this else other) ≡ true
  either true this other here there = here
  either false this other here there = there

  helpers_core : (names : List Ident) (sends : List Sending) → list_all is_core_func (helpers_but names sources sends) ≡ true
  helpers_core names [] = refl
  helpers_core names (s ∷ rest) =
      either (is_among names (helper_name s)) (helpers_but names sources rest) (one_helper sources s (message_of sources s) ++ helpers_but (helper_name s ∷ names) sources rest)
      (helpers_core names rest)
      (joined is_core_func (one_helper sources s (message_of sources s)) (helpers_but (helper_name s ∷ names) sources rest) (helper_core s (message_of sources s)) (helpers_core (helper_name s ∷ names) rest))

  -- ---- trees

  protos_core : (ps : List Source) → list_all is_core_decl (map (λ s. decl.Proto (surface_proto s.proto)) ps) ≡ true
  protos_core [] = refl
  protos_core (p ∷ ps) = protos_core ps

  funcs_core : (fs : List SurfaceFunc) → list_all is_core_func fs ≡ true → list_all is_core_decl (map decl.Func fs) ≡ true
  funcs_core [] all = refl
  funcs_core (f ∷ fs) all =
      both (is_core_block f.block) (list_all is_core_decl (map decl.Func fs)) (this_core (is_core_block f.block) (list_all is_core_func fs) all)
      (funcs_core fs (other_core (is_core_block f.block) (list_all is_core_func fs) all))

  decls_core : (tree : Surface) → Clear (events tree) → list_all is_core_decl (core_decls sources tree) ≡ true
  decls_core tree clear =
      joined is_core_decl (map (λ s. decl.Proto (surface_proto s.proto)) sources) _ (protos_core sources)
      (joined is_core_decl (map decl.Func (flat_map (funcs_of sources) tree.decls)) (map decl.Func (helpers sources (sendings (events tree))))
      (funcs_core (flat_map (funcs_of sources) tree.decls) (text_funcs tree.decls clear))
      (funcs_core (helpers sources (sendings (events tree))) (helpers_core [] (sendings (events tree)))))

-- the fault, or the tree and no fault
settled : (fault : Option Ill) (made core : Surface) → or_fault fault made ≡ Ok core → (fault ≡ None) × (made ≡ core)
settled None made core is = let same : made ≡ core = cc in (refl, same)
settled (Some f) made core is = cc

pub desugars_to_core : DesugarsToCore
desugars_to_core tree core is =
    let known = settled (first_pass (sources tree.decls) (events tree)) (core_tree tree) core is in
    subst (λ t. is_core t ≡ true) known.1 (decls_core (sources tree.decls) tree (passed (sources tree.decls) (events tree) known.0))
