-- Nodes that are added, and the bodies that stand on them.
use Rattle.std.proofs.Common.{◌≡◌, ℕ, ◌+◌, ◌<◌, ◌^◌, List, [], ◌∷◌, ◌++◌, length, append-nil, append_assoc, slice_get, get_or, drop, sym, ap, ◌∙◌, subst, arith}
use Rattle.std.proofs.lemmas.List.{at_drop_more, length_push}
use denote.Hole.Carrier.{hidden}
use mathlib.Core.Former.{this, list_count, list_put}
use mathlib.Core.List.{map}
use Rattle.chan_base.specs.declared.spans.Span.{Span}
use Rattle.chan_syntax.specs.declared.linear.Term.{Term}
use Rattle.chan_syntax.specs.declared.operands.Proof.{Proof}
use Rattle.chan_syntax.specs.declared.operands.Supply.{Supply}
use Rattle.chan_syntax.specs.declared.surface_tree.Stmt.{Stmt, Let, Mul, Div, Rem, Call, Fork, ForkDo', Send1, Recv1, Send, Recv, Close, Wait, Choose, Split, Print, Row_of-Stmt, end_of-Stmt, more_of-Stmt}
use Rattle.chan_syntax.specs.declared.surface_tree.Last.{Last, Ret, Tail, If', Match', Branch', Absurd, Loop', Again, Row_of-Last, end_of-Last, more_of-Last, Row_of-SurfaceArm, end_of-SurfaceArm, more_of-SurfaceArm}
use Rattle.chan_syntax.specs.declared.surface_tree.Last.TheVariants as l
use Rattle.chan_syntax.specs.declared.surface_tree.Last.TheBlock.{hidden-the_row-Stmt-0, hidden-the_row-Last-1, hidden-the_row-SurfaceArm-2, back-the_row-Stmt, back-the_row-SurfaceArm}
use Rattle.chan_syntax.specs.declared.surface_tree.SurfaceArm.{SurfaceArm}
use Rattle.chan_syntax.specs.declared.surface_tree.Block.{Block}
use Rattle.core_programs.specs.declared.nodes.Node.{Node}
use Rattle.core_programs.specs.declared.nodes.Node.TheVariants as node
use Rattle.core_programs.specs.declared.nodes.Arm.{Arm}
use Rattle.core_programs.specs.Formed.{nexts}
use Rattle.statement_nodes.specs.Nodes.{IsNodeOf}
use Rattle.core_numbering.specs.Numbering.{At, StmtsAt, RowAt, EndsAt, ArmsAt, BoxedAt, IsBodyAt, AreArmsAt}
use Rattle.core_numbering.specs.Rooted.{IsRooted, Adds, AddsAll, Joins, JoinsIn}
use Rattle.core_numbering.proofs.Places.{place_below, at_left, at_end}
use Rattle.core_numbering.proofs.Roots.{grow}

-- ---- roots

pub nothing_added : (nodes : List Node) (last : ℕ) → Adds nodes nodes (last ∷ []) last
nothing_added nodes last = record { more = []; longer = sym (append-nil nodes); rooted = λ front r. r }

-- there is room for one node more
few_more : (nodes : List Node) (x : Node) (n : ℕ) → n ≡ length nodes → n + 1 < 2 ^ 32 → length (nodes ++ x ∷ []) < 2 ^ 32
few_more nodes x n at few = let more = length_push nodes x in omega (arith, at, few, more)

-- a node that names the root
pub added_before : (before mid after : List Node) (old : List ℕ) (n k : ℕ) (x : Node) → Adds before mid old n → k ≡ length mid → after ≡ mid ++ x ∷ [] → k + 1 < 2 ^ 32 → nexts x ≡ n ∷ [] → Adds before after old (length mid)
added_before before mid after old n k x adds at is few names = record {
  more = adds.more ++ x ∷ [];
  longer = is ∙ ap (λ ns. ns ++ x ∷ []) adds.longer ∙ append_assoc before adds.more (x ∷ []);
  rooted = λ front r. subst (λ ns. IsRooted ns (front ++ length mid ∷ [])) (sym is)
      (grow mid front x (subst (λ ys. IsRooted mid (front ++ ys)) (sym names) (adds.rooted front r)) (few_more mid x k at few));
}

-- a node that names none
pub added_alone : (before after : List Node) (x : Node) (n : ℕ) → n ≡ length before → after ≡ before ++ x ∷ [] → n + 1 < 2 ^ 32 → nexts x ≡ [] → Adds before after [] n
added_alone before after x n at is few names = record {
  more = x ∷ [];
  longer = is;
  rooted = λ front r. subst (λ k. IsRooted after (front ++ k ∷ [])) (sym at) (subst (λ ns. IsRooted ns (front ++ length before ∷ [])) (sym is)
      (grow before front x (subst (λ ys. IsRooted before (front ++ ys)) (sym names) r) (few_more before x n at few)));
}

-- a node that names the roots
pub joins : (mid after : List Node) (roots : List ℕ) (x : Node) (n : ℕ) → n ≡ length mid → after ≡ mid ++ x ∷ [] → n + 1 < 2 ^ 32 → nexts x ≡ roots → Joins mid after roots n
joins mid after roots x n at is few names before adds = record {
  more = adds.more ++ x ∷ [];
  longer = is ∙ ap (λ ns. ns ++ x ∷ []) adds.longer ∙ append_assoc before adds.more (x ∷ []);
  rooted = λ front r. subst (λ k. IsRooted after (front ++ k ∷ [])) (sym at) (subst (λ ns. IsRooted ns (front ++ length mid ∷ [])) (sym is)
      (grow mid front x (subst (λ ys. IsRooted mid (front ++ ys)) (sym names) (adds.rooted front (subst (IsRooted before) (append-nil front) r))) (few_more mid x n at few)));
}

-- no body
pub none_added : (nodes : List Node) → AddsAll nodes nodes []
none_added nodes = record { more = []; longer = sym (append-nil nodes); rooted = λ front r. subst (IsRooted nodes) (sym (append-nil front)) r }

-- one body more
pub added_more : (before mid after : List Node) (roots : List ℕ) (j : ℕ) → AddsAll before mid roots → Adds mid after [] j → AddsAll before after (roots ++ j ∷ [])
added_more before mid after roots j a b = record {
  more = a.more ++ b.more;
  longer = b.longer ∙ ap (λ ns. ns ++ b.more) a.longer ∙ append_assoc before a.more b.more;
  rooted = λ front r. subst (IsRooted after) (append_assoc front roots (j ∷ []))
      (b.rooted (front ++ roots) (subst (IsRooted mid) (sym (append-nil (front ++ roots))) (a.rooted front r)));
}

-- one body and then another
pub added_both : (before mid after : List Node) (i j : ℕ) → Adds before mid [] i → Adds mid after [] j → AddsAll before after (i ∷ j ∷ [])
added_both before mid after i j a b = added_more before mid after (i ∷ []) j (added_more before before mid [] i (none_added before) a) b

-- statements before a last
pub added_block : (before mid after : List Node) (last n : ℕ) → Adds before mid [] last → Adds mid after (last ∷ []) n → Adds before after [] n
added_block before mid after last n a b = record {
  more = a.more ++ b.more;
  longer = b.longer ∙ ap (λ ns. ns ++ b.more) a.longer ∙ append_assoc before a.more b.more;
  rooted = λ front r. b.rooted front (a.rooted front r);
}

-- ---- bodies

kept_at : (nodes more : List Node) (n : ℕ) (x : Node) → At nodes n x → At (nodes ++ more) n x
kept_at nodes more n x is = at_left nodes more n (place_below nodes n x is) ∙ is

pub kept_stmts : (nodes more : List Node) (ss : List Stmt) (n m : ℕ) → StmtsAt nodes ss n m → StmtsAt (nodes ++ more) ss n m
kept_stmts nodes more [] n m at = at
kept_stmts nodes more (s ∷ ss) n m (x, next, is, of, rest) = (x, next, kept_at nodes more n x is, of, kept_stmts nodes more ss next m rest)

kept_row : {k : _} (nodes more : List Node) (ss : Row_of-Stmt k) (n m : ℕ) → RowAt nodes ss n m → RowAt (nodes ++ more) ss n m
kept_row nodes more end_of-Stmt n m at = at
kept_row nodes more (more_of-Stmt s rest) n m (x, next, is, of, there) = (x, next, kept_at nodes more n x is, of, kept_row nodes more rest next m there)

-- the node of a statement names what follows alone
pub names_next : (s : Stmt) (next : ℕ) (x : Node) → IsNodeOf s next x → nexts x ≡ next ∷ []
names_next (Let _ _ _ _) next x of = ap nexts of
names_next (Mul _ _ _ _ _) next x of = ap nexts of
names_next (Div _ _ _ _ _ _) next x of = ap nexts of
names_next (Rem _ _ _ _ _ _) next x of = ap nexts of
names_next (Call _ _ _ _ _ _) next x of = ap nexts of
names_next (Fork _ _ _ _ _ _ _ _) next x of = ap nexts of
names_next (ForkDo' _ _ _ _ _ _ _ _ _ _ _ _ _ _) next x of = absurd of
names_next (Send1 _ _ _ _ _ _ _) next x of = ap nexts of
names_next (Recv1 _ _ _ _ _ _ _) next x of = ap nexts of
names_next (Send _ _ _ _ _ _ _ _ _ _) next x of = absurd of
names_next (Recv _ _ _ _ _ _ _ _ _ _) next x of = absurd of
names_next (Close _ _ _ _ _ _) next x of = absurd of
names_next (Wait _ _ _ _ _ _) next x of = absurd of
names_next (Choose _ _ _ _ _ _ _ _ _ _) next x of = absurd of
names_next (Split _ _ _ _ _) next x of = ap nexts of
names_next (Print _ _) next x of = ap nexts of

-- a statement before those that were numbered
pub stmts_before : (nodes after : List Node) (stmts : List Stmt) (left : ℕ) (s : Stmt) (x : Node) (next last : ℕ) → left < length stmts → s ≡ get_or stmts left s
    → IsNodeOf s next x → after ≡ nodes ++ x ∷ [] → StmtsAt nodes (drop (left + 1) stmts) next last → StmtsAt after (drop left stmts) (length nodes) last
stmts_before nodes after stmts left s x next last lt is of longer rest =
    subst (λ ss. StmtsAt after ss (length nodes) last) (sym (at_drop_more (λ (ss : List Stmt). ss) stmts left s lt ∙ ap (λ y. y ∷ drop (left + 1) stmts) (sym is)))
    (x, next, ap (λ ns. slice_get ns (length nodes)) longer ∙ at_end nodes x, of, subst (λ ns. StmtsAt ns (drop (left + 1) stmts) next last) (sym longer) (kept_stmts nodes (x ∷ []) (drop (left + 1) stmts) next last rest))

mutual
  unfolding EndsAt ArmsAt BoxedAt

  pub kept_last : (nodes more : List Node) (x : Last) (n : ℕ) → EndsAt nodes x n → EndsAt (nodes ++ more) x n
  kept_last nodes more (Ret v q span) n at = kept_at nodes more n (node.Ret v q span) at
  kept_last nodes more (Tail f ft vs q span) n at = kept_at nodes more n (node.Tail f ft vs q span) at
  kept_last nodes more (If' a b _ ss _ l _ ss' _ l' span) n (i, j, k, m, at, row, ends, row', ends') =
      (i, j, k, m, kept_at nodes more n (node.If a b i j span) at, kept_row nodes more ss i k row, kept_boxed nodes more l k ends, kept_row nodes more ss' j m row', kept_boxed nodes more l' m ends')
  kept_last nodes more (Match' x xt _ arms span) n (numbered, at, all) = (numbered, kept_at nodes more n (node.Match x xt numbered span) at, kept_arms nodes more arms numbered all)
  kept_last nodes more (Branch' _ _ _ _ _ _ _ _ _ _ _ _) n at = absurd at
  kept_last nodes more (Absurd q span) n at = kept_at nodes more n (node.Absurd q span) at
  kept_last nodes more (Loop' _ _ _ _ _ _ _ _ _ _ _) n at = absurd at
  kept_last nodes more (Again _ _ _) n at = absurd at

  kept_arms : {k : _} (nodes more : List Node) (r : Row_of-SurfaceArm k) (arms : List Arm) → ArmsAt nodes r arms → ArmsAt (nodes ++ more) r arms
  kept_arms nodes more end_of-SurfaceArm [] at = at
  kept_arms nodes more end_of-SurfaceArm (a ∷ arms) at = absurd at
  kept_arms nodes more (more_of-SurfaceArm p _ ss _ l rest) [] at = absurd at
  kept_arms nodes more (more_of-SurfaceArm p _ ss _ l rest) (a ∷ arms) (m, same, row, ends, at) =
      (m, same, kept_row nodes more ss a.next m row, kept_boxed nodes more l m ends, kept_arms nodes more rest arms at)

  kept_boxed : {k : _} (nodes more : List Node) (x : Row_of-Last k) (n : ℕ) → BoxedAt nodes x n → BoxedAt (nodes ++ more) x n
  kept_boxed nodes more end_of-Last n at = absurd at
  kept_boxed nodes more (more_of-Last x rest) n at = kept_last nodes more x n at

pub kept_body : (nodes after more : List Node) (b : Block) (n : ℕ) → after ≡ nodes ++ more → IsBodyAt nodes b n → IsBodyAt after b n
kept_body nodes after more b n longer (m, stmts, ends) =
    subst (λ ns. IsBodyAt ns b n) (sym longer) (m, kept_stmts nodes more b.stmts n m stmts, kept_last nodes more b.last m ends)

pub kept_bodies : (nodes after more : List Node) (xs : List SurfaceArm) (arms : List Arm) → after ≡ nodes ++ more → AreArmsAt nodes xs arms → AreArmsAt after xs arms
kept_bodies nodes after more [] [] longer at = at
kept_bodies nodes after more [] (a ∷ arms) longer at = absurd at
kept_bodies nodes after more (x ∷ xs) [] longer at = absurd at
kept_bodies nodes after more (x ∷ xs) (a ∷ arms) longer (same, body, at) = (same, kept_body nodes after more x.block a.next longer body, kept_bodies nodes after more xs arms longer at)

-- one arm more
pub arms_more : (nodes : List Node) (xs : List SurfaceArm) (arms : List Arm) (x : SurfaceArm) (a : Arm) → AreArmsAt nodes xs arms → a.pat ≡ x.pat → IsBodyAt nodes x.block a.next
    → AreArmsAt nodes (xs ++ x ∷ []) (arms ++ a ∷ [])
arms_more nodes [] [] x a at same body = (same, body, tt)
arms_more nodes [] (b ∷ arms) x a at same body = absurd at
arms_more nodes (y ∷ ys) [] x a at same body = absurd at
arms_more nodes (y ∷ ys) (b ∷ arms) x a (same', body', at) same body = (same', body', arms_more nodes ys arms x a at same body)

-- ---- what ends a block

row_at : (nodes : List Node) (xs : List Stmt) (n m : ℕ) → StmtsAt nodes xs n m → RowAt nodes (back-the_row-Stmt (list_count (this {0}) (map ((this {0}).shape Stmt) xs) 0) (list_put (this {0}) Stmt xs 0 (tt {0}))) n m
row_at nodes [] n m at = at
row_at nodes (s ∷ ss) n m (x, next, is, of, rest) = (x, next, is, of, row_at nodes ss next m rest)

-- the node that was added
stands : (nodes after : List Node) (x : Node) (n : ℕ) → n ≡ length nodes → after ≡ nodes ++ x ∷ [] → At after n x
stands nodes after x n at is = ap (λ ns. slice_get ns n) is ∙ (ap (slice_get (nodes ++ x ∷ [])) at ∙ at_end nodes x)

pub ends_ret : (nodes after : List Node) (v : Supply) (q : Proof) (span : Span) (n : ℕ) → n ≡ length nodes → after ≡ nodes ++ node.Ret v q span ∷ [] → EndsAt after (l.Ret v q span) n
unfolding EndsAt
ends_ret nodes after v q span n at is = stands nodes after (node.Ret v q span) n at is

pub ends_tail : (nodes after : List Node) (f : List ℕ) (ft : Span) (vs : List Supply) (q : Proof) (span : Span) (n : ℕ) → n ≡ length nodes → after ≡ nodes ++ node.Tail f ft vs q span ∷ []
    → EndsAt after (l.Tail f ft vs q span) n
unfolding EndsAt
ends_tail nodes after f ft vs q span n at is = stands nodes after (node.Tail f ft vs q span) n at is

pub ends_absurd : (nodes after : List Node) (q : Proof) (span : Span) (n : ℕ) → n ≡ length nodes → after ≡ nodes ++ node.Absurd q span ∷ [] → EndsAt after (l.Absurd q span) n
unfolding EndsAt
ends_absurd nodes after q span n at is = stands nodes after (node.Absurd q span) n at is

pub joins_if : (mid after : List Node) (a b : Term) (p : ℕ × ℕ) (span : Span) (n : ℕ) → n ≡ length mid → after ≡ mid ++ node.If a b p.0 p.1 span ∷ []
    → JoinsIn (λ this_block other. l.If a b this_block other span) mid after p n
unfolding hidden hidden-the_row-Stmt-0 hidden-the_row-Last-1 EndsAt BoxedAt
joins_if mid after a b p span n at is this_block other first second =
    let x = node.If a b p.0 p.1 span in
    let (k, stmts, ends) = kept_body mid after (x ∷ []) this_block p.0 is first in
    let (m, stmts', ends') = kept_body mid after (x ∷ []) other p.1 is second in
    (p.0, p.1, k, m, stands mid after x n at is, row_at after this_block.stmts p.0 k stmts, ends, row_at after other.stmts p.1 m stmts', ends')

arms_at : (nodes : List Node) (xs : List SurfaceArm) (arms : List Arm) → AreArmsAt nodes xs arms → ArmsAt nodes (back-the_row-SurfaceArm (list_count (this {0}) (map ((this {0}).shape SurfaceArm) xs) 0) (list_put (this {0}) SurfaceArm xs 0 (tt {0}))) arms
unfolding hidden hidden-the_row-Stmt-0 hidden-the_row-Last-1 EndsAt ArmsAt BoxedAt
arms_at nodes [] [] at = at
arms_at nodes [] (a ∷ arms) at = absurd at
arms_at nodes (x ∷ xs) [] at = absurd at
arms_at nodes (x ∷ xs) (a ∷ arms) (same, (m, stmts, ends), at) = (m, same, row_at nodes x.block.stmts a.next m stmts, ends, arms_at nodes xs arms at)

pub ends_match : (mid after : List Node) (y : List ℕ) (yt : Span) (arms : List Arm) (span : Span) (n : ℕ) → n ≡ length mid → after ≡ mid ++ node.Match y yt arms span ∷ []
    → (xs : List SurfaceArm) → AreArmsAt mid xs arms → EndsAt after (l.Match y yt xs span) n
unfolding hidden hidden-the_row-SurfaceArm-2 EndsAt
ends_match mid after y yt arms span n at is xs all =
    let x = node.Match y yt arms span in
    (arms, stands mid after x n at is, arms_at after xs arms (kept_bodies mid after (x ∷ []) xs arms is all))
