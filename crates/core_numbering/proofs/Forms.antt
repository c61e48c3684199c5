-- What the form passes find in the parts of a tree, whatever numbers its nodes have.
use Rattle.std.proofs.Common.{◌≡◌, ℕ, zero, suc, List, [], ◌∷◌, ◌++◌, length, map, Option, Some, None, slice_get, refl, sym, ap, ◌∙◌, subst, if◌then◌else◌, ◌||◌, inl, inr, ⊎_elim}
use Rattle.std.specs.List.{list_any}
use Rattle.chan_syntax.specs.declared.surface_tree.Stmt.{Stmt, Let, Mul, Div, Rem, Call, Fork, ForkDo', Send1, Recv1, Send, Recv, Close, Wait, Choose, Split, Print, Row_of-Stmt, end_of-Stmt, more_of-Stmt}
use Rattle.chan_syntax.specs.declared.surface_tree.Last.{Last, Ret, Tail, If', Match', Branch', Absurd, Loop', Again, Row_of-Last, end_of-Last, more_of-Last, Row_of-SurfaceArm, end_of-SurfaceArm, more_of-SurfaceArm}
use Rattle.chan_syntax.specs.declared.surface_tree.Block.{Block}
use Rattle.chan_syntax.specs.declared.surface_tree.Body.TheVariants as body
use Rattle.chan_syntax.specs.declared.surface_tree.Decl.{Decl}
use Rattle.chan_syntax.specs.declared.surface_tree.Decl.TheVariants as decl
use Rattle.chan_syntax.specs.declared.surface_tree.SurfaceFunc.{SurfaceFunc}
use Rattle.chan_syntax.specs.declared.resources.Equation.{Equation}
use Rattle.chan_syntax.specs.declared.resources.Proto.{Proto}
use Rattle.form_faults.specs.declared.sorts.Known.{Known}
use Rattle.form_faults.specs.declared.sorts.Sort.TheVariants as sort
use Rattle.form_faults.specs.declared.faults.IllKind.TheVariants as kind
use Rattle.form_faults.specs.declared.faults.Ill.{Ill}
use Rattle.form_faults.specs.declared.signatures.Signature.{Signature}
use Rattle.form_faults.specs.Faults.{IsFirst, past, at_span}
use Rattle.form_faults.specs.Scopes.{bind_all, twice_all}
use Rattle.form_faults.specs.Resources.{header_scope, header_faults}
use Rattle.protocol_guard.specs.Guards.{IsGuarded}
use Rattle.core_programs.specs.declared.nodes.Node.{Node}
use Rattle.core_programs.specs.declared.nodes.Node.TheVariants as node
use Rattle.core_programs.specs.declared.nodes.Arm.{Arm}
use Rattle.core_programs.specs.declared.nodes.Func.{Func}
use Rattle.core_programs.specs.declared.nodes.Parts.{Parts}
use Rattle.core_programs.specs.Formed.{nexts, IsNumbered}
use Rattle.core_programs.specs.Trees.{Tree, Grown, Trees, NoMore, More, all_grown, grown, tree}
use Rattle.core_programs.specs.Passes.{operand_faults, arm_binders, binders_at, body_faults, bodies_faults, func_faults, funcs_faults, func_names, func_signatures, proto_names, proto_signatures, protos_faults, is_main, no_main, twice_faults, name_faults, count_faults, main_faults}
use Rattle.core_programs.specs.Form.{IsUnguarded, Passes}
use Rattle.core_programs.proofs.Growing.{tree_grown}
use Rattle.statement_nodes.specs.Nodes.{IsNodeOf}
use Rattle.core_numbering.specs.Numbering.{At, StmtsAt, RowAt, EndsAt, ArmsAt, BoxedAt, IsBodyAt, AreOf, proto_of, func_of}
use Rattle.core_numbering.specs.Pure.{IsOneForm}
use Rattle.core_numbering.proofs.Places.{place_below}
use Rattle.core_numbering.proofs.Grown.{names_next}

-- ---- nodes without their numbers

abbrev blank_arm : Arm → Arm
blank_arm arm = record { pat = arm.pat; next = 0 }

abbrev blank : Node → Node
blank (node.Let n nt t i span) = node.Let n nt t 0 span
blank (node.Mul n nt a b i span) = node.Mul n nt a b 0 span
blank (node.Div n nt t k kt i span) = node.Div n nt t k kt 0 span
blank (node.Rem n nt t k kt i span) = node.Rem n nt t k kt 0 span
blank (node.Call p f ft vs q i span) = node.Call p f ft vs q 0 span
blank (node.Tail f ft vs q span) = node.Tail f ft vs q span
blank (node.Fork n nt r f ft vs q i span) = node.Fork n nt r f ft vs q 0 span
blank (node.Send1 c ct p pt v q i span) = node.Send1 c ct p pt v q 0 span
blank (node.Recv1 y c ct p pt q i span) = node.Recv1 y c ct p pt q 0 span
blank (node.Print t i span) = node.Print t 0 span
blank (node.If a b i j span) = node.If a b 0 0 span
blank (node.Split a b n nt i span) = node.Split a b n nt 0 span
blank (node.Match n nt arms span) = node.Match n nt (map blank_arm arms) span
blank (node.Absurd q span) = node.Absurd q span
blank (node.Ret v q span) = node.Ret v q span

blank_operands : (ps fs : List Signature) (scope : List Known) (x : Node) → operand_faults ps fs scope (blank x) ≡ operand_faults ps fs scope x
unfolding operand_faults
blank_operands ps fs scope (node.Let n nt t i span) = refl
blank_operands ps fs scope (node.Mul n nt a b i span) = refl
blank_operands ps fs scope (node.Div n nt t k kt i span) = refl
blank_operands ps fs scope (node.Rem n nt t k kt i span) = refl
blank_operands ps fs scope (node.Call p f ft vs q i span) = refl
blank_operands ps fs scope (node.Tail f ft vs q span) = refl
blank_operands ps fs scope (node.Fork n nt r f ft vs q i span) = refl
blank_operands ps fs scope (node.Send1 c ct p pt v q i span) = refl
blank_operands ps fs scope (node.Recv1 y c ct p pt q i span) = refl
blank_operands ps fs scope (node.Print t i span) = refl
blank_operands ps fs scope (node.If a b i j span) = refl
blank_operands ps fs scope (node.Split a b n nt i span) = refl
blank_operands ps fs scope (node.Match n nt arms span) = refl
blank_operands ps fs scope (node.Absurd q span) = refl
blank_operands ps fs scope (node.Ret v q span) = refl

blank_arms : (arms : List Arm) (turn : ℕ) → arm_binders (slice_get (map blank_arm arms) turn) ≡ arm_binders (slice_get arms turn)
blank_arms [] turn = refl
blank_arms (a ∷ arms) zero = refl
blank_arms (a ∷ arms) (suc turn) = blank_arms arms turn

blank_binders : (x : Node) (turn : ℕ) → binders_at (blank x) turn ≡ binders_at x turn
unfolding binders_at
blank_binders (node.Let n nt t i span) turn = refl
blank_binders (node.Mul n nt a b i span) turn = refl
blank_binders (node.Div n nt t k kt i span) turn = refl
blank_binders (node.Rem n nt t k kt i span) turn = refl
blank_binders (node.Call p f ft vs q i span) turn = refl
blank_binders (node.Tail f ft vs q span) turn = refl
blank_binders (node.Fork n nt r f ft vs q i span) turn = refl
blank_binders (node.Send1 c ct p pt v q i span) turn = refl
blank_binders (node.Recv1 y c ct p pt q i span) turn = refl
blank_binders (node.Print t i span) turn = refl
blank_binders (node.If a b i j span) turn = refl
blank_binders (node.Split a b n nt i span) turn = refl
blank_binders (node.Match n nt arms span) turn = blank_arms arms turn
blank_binders (node.Absurd q span) turn = refl
blank_binders (node.Ret v q span) turn = refl

-- nodes of one statement
blank_stmt : (s : Stmt) (i j : ℕ) (x y : Node) → IsNodeOf s i x → IsNodeOf s j y → blank x ≡ blank y
blank_stmt (Let _ _ _ _) i j x y of of' = ap blank of ∙ sym (ap blank of')
blank_stmt (Mul _ _ _ _ _) i j x y of of' = ap blank of ∙ sym (ap blank of')
blank_stmt (Div _ _ _ _ _ _) i j x y of of' = ap blank of ∙ sym (ap blank of')
blank_stmt (Rem _ _ _ _ _ _) i j x y of of' = ap blank of ∙ sym (ap blank of')
blank_stmt (Call _ _ _ _ _ _) i j x y of of' = ap blank of ∙ sym (ap blank of')
blank_stmt (Fork _ _ _ _ _ _ _ _) i j x y of of' = ap blank of ∙ sym (ap blank of')
blank_stmt (ForkDo' _ _ _ _ _ _ _ _ _ _ _ _ _ _) i j x y of of' = absurd of
blank_stmt (Send1 _ _ _ _ _ _ _) i j x y of of' = ap blank of ∙ sym (ap blank of')
blank_stmt (Recv1 _ _ _ _ _ _ _) i j x y of of' = ap blank of ∙ sym (ap blank of')
blank_stmt (Send _ _ _ _ _ _ _ _ _ _) i j x y of of' = absurd of
blank_stmt (Recv _ _ _ _ _ _ _ _ _ _) i j x y of of' = absurd of
blank_stmt (Close _ _ _ _ _ _) i j x y of of' = absurd of
blank_stmt (Wait _ _ _ _ _ _) i j x y of of' = absurd of
blank_stmt (Choose _ _ _ _ _ _ _ _ _ _) i j x y of of' = absurd of
blank_stmt (Split _ _ _ _ _) i j x y of of' = ap blank of ∙ sym (ap blank of')
blank_stmt (Print _ _) i j x y of of' = ap blank of ∙ sym (ap blank of')

-- ---- trees

abbrev SameFaults : Tree → Tree → Type 0
SameFaults t u = (ps fs : List Signature) (scope : List Known) → body_faults ps fs scope t ≡ body_faults ps fs scope u

-- one by one
abbrev SameAll : Trees → Trees → Type 0
SameAll NoMore NoMore = Unit {0}
SameAll NoMore (More u us) = ⊥
SameAll (More t ts) NoMore = ⊥
SameAll (More t ts) (More u us) = SameFaults t u × SameAll ts us

bodies_alike : (x y : Node) → blank x ≡ blank y → (turn : ℕ) (ts us : Trees) → SameAll ts us → (ps fs : List Signature) (scope : List Known) → bodies_faults ps fs scope x turn ts ≡ bodies_faults ps fs scope y turn us
unfolding bodies_faults
bodies_alike x y same turn NoMore NoMore all ps fs scope = refl
bodies_alike x y same turn NoMore (More u us) all ps fs scope = absurd all
bodies_alike x y same turn (More t ts) NoMore all ps fs scope = absurd all
bodies_alike x y same turn (More t ts) (More u us) all ps fs scope =
    let binders : binders_at x turn ≡ binders_at y turn = sym (blank_binders x turn) ∙ (ap (λ z. binders_at z turn) same ∙ blank_binders y turn) in
    (λ k. (twice_all scope (binders k) ++ body_faults ps fs (bind_all scope (binders k)) t) ++ bodies_alike x y same (suc turn) ts us all.1 ps fs scope k)
    ∙ ap (λ ills. (twice_all scope (binders_at y turn) ++ ills) ++ bodies_faults ps fs scope y (suc turn) us) (all.0 ps fs (bind_all scope (binders_at y turn)))

grown_alike : (x y : Node) (ts us : Trees) → blank x ≡ blank y → SameAll ts us → SameFaults (Grown x ts) (Grown y us)
unfolding body_faults
grown_alike x y ts us same all ps fs scope =
    let operands : operand_faults ps fs scope x ≡ operand_faults ps fs scope y = sym (blank_operands ps fs scope x) ∙ (ap (operand_faults ps fs scope) same ∙ blank_operands ps fs scope y) in
    λ k. operands k ++ bodies_alike x y same 0 ts us all ps fs scope k

-- ---- what the passes see of functions

plain_once : (e d : Equation) → body.Plain e ≡ body.Plain d → e ≡ d
plain_once e d is = cc

pushed_names : (g : SurfaceFunc) (i j : ℕ) (gs gs' : List Func) → func_names gs ≡ func_names gs' → func_names (func_of g i ∷ gs) ≡ func_names (func_of g j ∷ gs')
pushed_names g i j gs gs' same = ap (λ bs. record { name = g.name; sort = sort.Variable; span = g.name_span } ∷ bs) same

pushed_signatures : (g : SurfaceFunc) (i j : ℕ) (gs gs' : List Func) → func_signatures gs ≡ func_signatures gs' → func_signatures (func_of g i ∷ gs) ≡ func_signatures (func_of g j ∷ gs')
pushed_signatures g i j gs gs' same = ap (λ ss. record { name = g.name; count = length g.params } ∷ ss) same

pushed_mains : (g : SurfaceFunc) (i j : ℕ) (gs gs' : List Func) → list_any is_main gs ≡ list_any is_main gs' → list_any is_main (func_of g i ∷ gs) ≡ list_any is_main (func_of g j ∷ gs')
pushed_mains g i j gs gs' same = ap (λ b. is_main (func_of g i) || b) same

-- the passes see five things of the parts
passes_moved : (parts others : Parts) → twice_faults parts ≡ twice_faults others → name_faults parts ≡ name_faults others → count_faults parts ≡ count_faults others → parts.protos ≡ others.protos
    → main_faults parts ≡ main_faults others → (o : Option Ill) → Passes parts o → Passes others o
passes_moved parts others twice names counts protos mains None (a, (b, (c, (d, e)))) = (sym twice ∙ a, (sym names ∙ b, (sym counts ∙ c, (subst IsGuarded protos d, sym mains ∙ e))))
passes_moved parts others twice names counts protos mains (Some ill) passes = ⊎_elim
    (λ is. inl (subst (λ ills. IsFirst ills ill) twice is))
    (λ p. inr (
      sym twice ∙ p.0,
      ⊎_elim
          (λ is. inl (subst (λ ills. IsFirst ills ill) names is))
          (λ q. inr (
            sym names ∙ q.0,
            ⊎_elim
                (λ is. inl (subst (λ ills. IsFirst ills ill) counts is))
                (λ r. inr (
                  sym counts ∙ r.0,
                  ⊎_elim
                      (λ is. inl (subst (λ ps. IsUnguarded ps ill) protos is))
                      (λ t. inr (subst IsGuarded protos t.0, subst (λ ills. IsFirst ills ill) mains t.1))
                      r.1,
                ))
                q.1,
          ))
          p.1,
    ))
    passes

module _ (parts others : Parts) (numbered : IsNumbered parts) (renumbered : IsNumbered others) where
  -- nodes that grow alike
  at_alike : (n m : ℕ) (x y : Node) → At parts.nodes n x → At others.nodes m y → SameFaults (grown x (tree parts.nodes)) (grown y (tree others.nodes)) → SameFaults (tree parts.nodes n) (tree others.nodes m)
  at_alike n m x y here there same ps fs scope =
      ap (body_faults ps fs scope) (tree_grown parts n x numbered (place_below parts.nodes n x here) here)
      ∙ (same ps fs scope ∙ sym (ap (body_faults ps fs scope) (tree_grown others m y renumbered (place_below others.nodes m y there) there)))

  -- nodes that name none
  leaf_alike : (n m : ℕ) (x : Node) → nexts x ≡ [] → At parts.nodes n x → At others.nodes m x → SameFaults (tree parts.nodes n) (tree others.nodes m)
  leaf_alike n m x none here there = at_alike n m x x here there (λ ps fs scope.
      ap (λ ns. body_faults ps fs scope (Grown x (all_grown ns (tree parts.nodes)))) none
      ∙ sym (ap (λ ns. body_faults ps fs scope (Grown x (all_grown ns (tree others.nodes)))) none))

  -- nodes of one statement
  stmt_alike : (s : Stmt) (n m i j : ℕ) (x y : Node) → At parts.nodes n x → At others.nodes m y → IsNodeOf s i x → IsNodeOf s j y → SameFaults (tree parts.nodes i) (tree others.nodes j)
      → SameFaults (tree parts.nodes n) (tree others.nodes m)
  stmt_alike s n m i j x y here there of of' same = at_alike n m x y here there (λ ps fs scope.
      ap (λ ns. body_faults ps fs scope (Grown x (all_grown ns (tree parts.nodes)))) (names_next s i x of)
      ∙ (grown_alike x y (More (tree parts.nodes i) NoMore) (More (tree others.nodes j) NoMore) (blank_stmt s i j x y of of') (same, tt) ps fs scope
      ∙ sym (ap (λ ns. body_faults ps fs scope (Grown y (all_grown ns (tree others.nodes)))) (names_next s j y of'))))

  stmts_alike : (ss : List Stmt) (n m i j : ℕ) → StmtsAt parts.nodes ss n i → StmtsAt others.nodes ss m j → SameFaults (tree parts.nodes i) (tree others.nodes j) → SameFaults (tree parts.nodes n) (tree others.nodes m)
  stmts_alike [] n m i j at at' same = λ ps fs scope. ap (λ k. body_faults ps fs scope (tree parts.nodes k)) at ∙ (same ps fs scope ∙ sym (ap (λ k. body_faults ps fs scope (tree others.nodes k)) at'))
  stmts_alike (s ∷ ss) n m i j (x, next, here, of, more) (y, next', there, of', more') same =
      stmt_alike s n m next next' x y here there of of' (stmts_alike ss next next' i j more more' same)

  row_alike : {k : _} (ss : Row_of-Stmt k) (n m i j : ℕ) → RowAt parts.nodes ss n i → RowAt others.nodes ss m j → SameFaults (tree parts.nodes i) (tree others.nodes j) → SameFaults (tree parts.nodes n) (tree others.nodes m)
  row_alike end_of-Stmt n m i j at at' same = λ ps fs scope. ap (λ k. body_faults ps fs scope (tree parts.nodes k)) at ∙ (same ps fs scope ∙ sym (ap (λ k. body_faults ps fs scope (tree others.nodes k)) at'))
  row_alike (more_of-Stmt s ss) n m i j (x, next, here, of, more) (y, next', there, of', more') same =
      stmt_alike s n m next next' x y here there of of' (row_alike ss next next' i j more more' same)

  -- arms of one match
  arms_blank : {k : _} (r : Row_of-SurfaceArm k) (arms bs : List Arm) → ArmsAt parts.nodes r arms → ArmsAt others.nodes r bs → map blank_arm arms ≡ map blank_arm bs
  unfolding ArmsAt
  arms_blank end_of-SurfaceArm [] [] at at' = refl
  arms_blank end_of-SurfaceArm [] (b ∷ bs) at at' = absurd at'
  arms_blank end_of-SurfaceArm (a ∷ arms) bs at at' = absurd at
  arms_blank (more_of-SurfaceArm p _ ss _ l rest) [] bs at at' = absurd at
  arms_blank (more_of-SurfaceArm p _ ss _ l rest) (a ∷ arms) [] at at' = absurd at'
  arms_blank (more_of-SurfaceArm p _ ss _ l rest) (a ∷ arms) (b ∷ bs) (m, same, row, ends, at) (m', same', row', ends', at') =
      let pats = same ∙ sym same' in λ k. record { pat = pats k; next = 0 } ∷ arms_blank rest arms bs at at' k

  mutual
    unfolding EndsAt ArmsAt BoxedAt

    last_alike : (x : Last) (n m : ℕ) → EndsAt parts.nodes x n → EndsAt others.nodes x m → SameFaults (tree parts.nodes n) (tree others.nodes m)
    last_alike (Ret v q span) n m at at' = leaf_alike n m (node.Ret v q span) refl at at'
    last_alike (Tail f ft vs q span) n m at at' = leaf_alike n m (node.Tail f ft vs q span) refl at at'
    last_alike (If' a b _ ss _ l _ ss' _ l' span) n m (i, j, k, h, at, row, ends, row', ends') (i', j', k', h', at', row2, ends2, row2', ends2') =
        at_alike n m (node.If a b i j span) (node.If a b i' j' span) at at'
        (grown_alike (node.If a b i j span) (node.If a b i' j' span) (More (tree parts.nodes i) (More (tree parts.nodes j) NoMore)) (More (tree others.nodes i') (More (tree others.nodes j') NoMore)) refl
        (row_alike ss i i' k k' row row2 (boxed_alike l k k' ends ends2), (row_alike ss' j j' h h' row' row2' (boxed_alike l' h h' ends' ends2'), tt)))
    last_alike (Match' x xt _ r span) n m (arms, at, all) (arms', at', all') =
        at_alike n m (node.Match x xt arms span) (node.Match x xt arms' span) at at'
        (grown_alike (node.Match x xt arms span) (node.Match x xt arms' span) (all_grown (map (λ a. a.next) arms) (tree parts.nodes)) (all_grown (map (λ a. a.next) arms') (tree others.nodes))
        (ap (λ bs. node.Match x xt bs span) (arms_blank r arms arms' all all')) (arms_alike r arms arms' all all'))
    last_alike (Branch' _ _ _ _ _ _ _ _ _ _ _ _) n m at at' = absurd at
    last_alike (Absurd q span) n m at at' = leaf_alike n m (node.Absurd q span) refl at at'
    last_alike (Loop' _ _ _ _ _ _ _ _ _ _ _) n m at at' = absurd at
    last_alike (Again _ _ _) n m at at' = absurd at

    arms_alike : {k : _} (r : Row_of-SurfaceArm k) (arms others_arms : List Arm) → ArmsAt parts.nodes r arms → ArmsAt others.nodes r others_arms
        → SameAll (all_grown (map (λ a. a.next) arms) (tree parts.nodes)) (all_grown (map (λ a. a.next) others_arms) (tree others.nodes))
    arms_alike end_of-SurfaceArm [] [] at at' = tt
    arms_alike end_of-SurfaceArm [] (b ∷ bs) at at' = absurd at'
    arms_alike end_of-SurfaceArm (a ∷ arms) bs at at' = absurd at
    arms_alike (more_of-SurfaceArm p _ ss _ l rest) [] bs at at' = absurd at
    arms_alike (more_of-SurfaceArm p _ ss _ l rest) (a ∷ arms) [] at at' = absurd at'
    arms_alike (more_of-SurfaceArm p _ ss _ l rest) (a ∷ arms) (b ∷ bs) (m, same, row, ends, at) (m', same', row', ends', at') =
        (row_alike ss a.next b.next m m' row row' (boxed_alike l m m' ends ends'), arms_alike rest arms bs at at')

    boxed_alike : {k : _} (x : Row_of-Last k) (n m : ℕ) → BoxedAt parts.nodes x n → BoxedAt others.nodes x m → SameFaults (tree parts.nodes n) (tree others.nodes m)
    boxed_alike end_of-Last n m at at' = absurd at
    boxed_alike (more_of-Last x more) n m at at' = last_alike x n m at at'

  block_alike : (b : Block) (n m : ℕ) → IsBodyAt parts.nodes b n → IsBodyAt others.nodes b m → SameFaults (tree parts.nodes n) (tree others.nodes m)
  block_alike b n m (i, stmts, ends) (j, stmts', ends') = stmts_alike b.stmts n m i j stmts stmts' (last_alike b.last i j ends ends')

  -- ---- declarations

  -- what the passes see of protocols and functions
  record Alike (protos protos' : List Proto) (funcs funcs' : List Func) : Type 0 where
    same_protos : protos ≡ protos'
    names : func_names funcs ≡ func_names funcs'
    signatures : func_signatures funcs ≡ func_signatures funcs'
    spans : map (λ f. f.span) funcs ≡ map (λ f. f.span) funcs'
    mains : list_any is_main funcs ≡ list_any is_main funcs'
    faults : (ps fs : List Signature) → funcs_faults ps fs parts.nodes funcs ≡ funcs_faults ps fs others.nodes funcs'

  func_alike : (f : SurfaceFunc) (n m : ℕ) → SameFaults (tree parts.nodes n) (tree others.nodes m) → (ps fs : List Signature)
      → func_faults ps fs parts.nodes (func_of f n) ≡ func_faults ps fs others.nodes (func_of f m)
  unfolding func_faults
  func_alike f n m same ps fs = ap (λ ills. header_faults ps f.name_span f.bound f.params f.result ++ ills) (same ps fs (header_scope f.bound f.params))

  decls_alike : (ds : List Decl) (protos protos' : List Proto) (funcs funcs' : List Func) → AreOf parts.nodes ds protos funcs → AreOf others.nodes ds protos' funcs' → Alike protos protos' funcs funcs'
  unfolding AreOf funcs_faults
  decls_alike [] protos protos' funcs funcs' are are' =
      let same = are.1 ∙ sym are'.1 in
      record {
        same_protos = are.0 ∙ sym are'.0;
        names = ap func_names same;
        signatures = ap func_signatures same;
        spans = ap (map (λ (f : Func). f.span)) same;
        mains = ap (list_any is_main) same;
        faults = λ ps fs. ap (funcs_faults ps fs parts.nodes) are.1 ∙ sym (ap (funcs_faults ps fs others.nodes) are'.1);
      }
  decls_alike (decl.Proto p ∷ ds) protos protos' funcs funcs' (e, more, plain, is, are) (e', more', plain', is', are') =
      let rest = decls_alike ds more more' funcs funcs' are are' in
      let equation = plain_once e e' (sym plain ∙ plain') in
      record {
        same_protos = is ∙ ((λ k. proto_of p (equation k) ∷ rest.same_protos k) ∙ sym is');
        names = rest.names;
        signatures = rest.signatures;
        spans = rest.spans;
        mains = rest.mains;
        faults = rest.faults;
      }
  decls_alike (decl.Func f ∷ ds) protos protos' funcs funcs' (n, more, is, at, are) (m, more', is', at', are') =
      let rest = decls_alike ds protos protos' more more' are are' in
      let bodies = block_alike f.block n m at at' in
      record {
        same_protos = rest.same_protos;
        names = ap func_names is ∙ (pushed_names f n m more more' rest.names ∙ sym (ap func_names is'));
        signatures = ap func_signatures is ∙ (pushed_signatures f n m more more' rest.signatures ∙ sym (ap func_signatures is'));
        spans = ap (map (λ (g : Func). g.span)) is ∙ (ap (λ ss. f.span ∷ ss) rest.spans ∙ sym (ap (map (λ (g : Func). g.span)) is'));
        mains = ap (list_any is_main) is ∙ (pushed_mains f n m more more' rest.mains ∙ sym (ap (list_any is_main) is'));
        faults = λ ps fs. ap (funcs_faults ps fs parts.nodes) is
            ∙ ((λ k. func_alike f n m bodies ps fs k ++ rest.faults ps fs k) ∙ sym (ap (funcs_faults ps fs others.nodes) is'));
      }

  -- ---- passes

  passes_alike : Alike parts.protos others.protos parts.funcs others.funcs → (o : Option Ill) → Passes parts o → Passes others o
  unfolding no_main
  passes_alike alike o passes =
      let protos = alike.same_protos in
      let twice : twice_faults parts ≡ twice_faults others = λ k. twice_all [] (proto_names (protos k)) ++ twice_all [] (alike.names k) in
      let names : name_faults parts ≡ name_faults others =
      (λ k. protos_faults (proto_signatures (protos k)) (protos k) ++ funcs_faults (proto_signatures (protos k)) (alike.signatures k) parts.nodes parts.funcs)
      ∙ ap (λ ills. protos_faults (proto_signatures others.protos) others.protos ++ ills) (alike.faults (proto_signatures others.protos) (func_signatures others.funcs)) in
      let counts : count_faults parts ≡ count_faults others = λ k. past 4096 (map (λ (p : Proto). p.span) (protos k)) ++ past 4096 (alike.spans k) in
      let mains : main_faults parts ≡ main_faults others = ap (λ b. if b then [] else at_span kind.NoMain (record { start = 0; stop = 0; line = 1; column = 1 })) alike.mains in
      passes_moved parts others twice names counts protos mains o passes

pub is_one_form : IsOneForm
is_one_form surface parts others lowered other =
    passes_alike parts others lowered.numbered other.numbered
    (decls_alike parts others lowered.numbered other.numbered surface.decls parts.protos others.protos parts.funcs others.funcs lowered.declared other.declared)
