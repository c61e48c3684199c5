-- The words of a program stand apart.
use Rattle.std.proofs.Common.{ℕ, List, [], ◌∷◌, ◌++◌, codes, Option, Some, None, refl}
use Rattle.chan_syntax.specs.declared.linear.Bound.{Bound}
use Rattle.chan_syntax.specs.declared.resources.Ref.{Ref}
use Rattle.chan_syntax.specs.declared.resources.Res.{Res}
use Rattle.chan_syntax.specs.declared.resources.Param.{Param}
use Rattle.chan_syntax.specs.declared.resources.Equation.{Equation}
use Rattle.chan_syntax.specs.declared.resources.Equation.TheVariants as equation
use Rattle.chan_syntax.specs.declared.surface_tree.Body.{Body}
use Rattle.chan_syntax.specs.declared.surface_tree.Body.TheVariants as body
use Rattle.chan_syntax.specs.declared.surface_tree.Decl.{Decl}
use Rattle.chan_syntax.specs.declared.surface_tree.Decl.TheVariants as decl
use Rattle.chan_syntax.specs.declared.surface_tree.Surface.{Surface}
use Rattle.surface_spelling.specs.Layout.{mark, space, line}
use Rattle.surface_spelling.specs.Operands.{reference}
use Rattle.surface_spelling.specs.Blocks.{condition}
use Rattle.surface_spelling.specs.Spelling.{then_ref, two_refs, refs_behind, alternatives, plain, pbody, proto_head, proto, func_head, func, declaration, declarations, program}
use Rattle.spelling_cuts.proofs.Apart.{Next, a_word, a_mark, Apart, Soft, apart_append, apart_open}
use Rattle.spelling_cuts.proofs.ApartBlocks.{statement_rules, condition_apart}

then_soft : (next : Option Ref) → Soft a_mark (then_ref next)
unfolding then_ref
then_soft None = record { is = refl }
then_soft (Some r) = record { is = refl }

then_apart : (next : Option Ref) → Apart a_mark (then_ref next)
unfolding then_ref
then_apart None = record { is = refl }
then_apart (Some r) = search statement_rules depth 12

refs_apart : (a b : Ref) → Apart a_mark (two_refs a b)
unfolding two_refs
refs_apart a b = search statement_rules depth 12

behind_refs_soft : (rs : List Ref) → Soft a_mark (refs_behind rs)
unfolding refs_behind
behind_refs_soft [] = record { is = refl }
behind_refs_soft (r ∷ rs) = record { is = refl }

behind_refs_apart : (rs : List Ref) → Apart a_mark (refs_behind rs)
unfolding refs_behind
behind_refs_apart [] = record { is = refl }
behind_refs_apart (r ∷ rs) = apart_append a_mark (space ∷ mark (codes "|") ∷ space ∷ reference r) (refs_behind rs) (search statement_rules depth 12) (behind_refs_soft rs) (behind_refs_apart rs)

alternatives_apart : (rs : List Ref) → Apart a_mark (alternatives rs)
unfolding alternatives
alternatives_apart [] = record { is = refl }
alternatives_apart (r ∷ rs) = apart_append a_mark (reference r) (refs_behind rs) (search statement_rules depth 12) (behind_refs_soft rs) (behind_refs_apart rs)

plain_apart : (x : Equation) → Apart a_mark (plain x)
unfolding plain
plain_apart (equation.Send r next) = search (statement_rules, then_soft, then_apart) depth 12
plain_apart (equation.Recv r next) = search (statement_rules, then_soft, then_apart) depth 12
plain_apart equation.Close = record { is = refl }
plain_apart equation.Wait = record { is = refl }
plain_apart (equation.Branch a b this other) = apart_open a_mark (condition a b) (two_refs this other) (condition_apart a_word a b) (refs_apart this other)

body_apart : (x : Body) → Apart a_mark (pbody x)
unfolding pbody
body_apart (body.Plain x) = plain_apart x
body_apart (body.Choice offer n at refs) = search (statement_rules, alternatives_apart) depth 14

head_apart : (k : Next) (n : List ℕ) (params : List (List ℕ)) → Apart k (proto_head n params)
unfolding proto_head
head_apart k n params = search statement_rules depth 12

func_head_apart : (k : Next) (n : List ℕ) (b : Bound) (params : List Param) (r : Res) → Apart k (func_head n b params r)
unfolding func_head
func_head_apart k n b params r = search statement_rules depth 14

declaration_apart : (x : Decl) → Apart a_word (declaration x)
unfolding declaration proto func
declaration_apart (decl.Proto p) =
    apart_append a_word (proto_head p.name p.params ++ pbody p.body) (mark (codes ";") ∷ line 0)
    (apart_open a_mark (proto_head p.name p.params) (pbody p.body) (head_apart a_word p.name p.params) (body_apart p.body))
    (search statement_rules depth 12) (search statement_rules depth 12)
declaration_apart (decl.Func f) = search (statement_rules, func_head_apart) depth 12

declarations_apart : (xs : List Decl) → Apart a_mark (declarations xs)
unfolding declarations
declarations_apart [] = record { is = refl }
declarations_apart (x ∷ xs) = apart_open a_mark (declaration x) (declarations xs) (declaration_apart x) (declarations_apart xs)

pub program_apart : (s : Surface) → Apart a_mark (program s)
unfolding program
program_apart s = declarations_apart s.decls
