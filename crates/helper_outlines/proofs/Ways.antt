-- A path is followed where the hypotheses show what its letters ask for.
use Rattle.std.proofs.Common.{◌≡◌, ℕ, List, [], ◌∷◌, ◌++◌, length, Option, Some, Result, Ok, refl, sym, ap, ◌∙◌}
use Rattle.farkas_check.specs.declared.cert.Row.{Row}
use Rattle.core_language.specs.Resources as written
use Rattle.core_language.specs.Operands.{Letter, Proof}
use Rattle.outline_language.specs.LinearForms.{LinearForm}
use Rattle.outline_language.specs.Nameless.{Ref, turned_if, nameless_term, nameless_ref, form_with, ref_with}
use Rattle.outline_language.specs.Contexts.{Why, WrongForm, BranchNotProved, Context, Cursor, or_why, and_then, formed, oblige}
use Rattle.outline_language.specs.Paths.{asked, formed_ref, Followed, take_letter, follow_letter, follow}
use Rattle.outline_language.specs.Equations.{Fork, fork_of, on_way, proto_named}
use Rattle.helper_outlines.specs.Helpers.{Turn, Way}
use Rattle.helper_outlines.proofs.Steps.{chain, there}
use Rattle.helper_outlines.proofs.Standing.{Standing, cursor_at, obliges}

abbrev pub stands : Ref → Proof → (instance cert : ℕ) → Followed
stands end proof instance cert = record { end = end; cursor = cursor_at proof instance cert }

abbrev Takes : List written.Proto → Context → Letter → Ref → Ref → Proof → ℕ → ℕ → List Row → Type 0
Takes protos ctx letter end next_end proof instance used more =
    (next : ℕ) × (follow_letter protos ctx letter (stands end proof instance used) ≡ Ok (stands next_end proof instance next)) × Standing ctx.hyps proof.certs more next

turns : (protos : List written.Proto) (ctx : Context) (letter : Letter) (end next_end : Ref) (row : Row) (more : List Row) (proof : Proof) (instance used : ℕ)
    → Turn protos (length ctx.ints) letter end row next_end → Standing ctx.hyps proof.certs (row ∷ more) used
    → Takes protos ctx letter end next_end proof instance used more
turns protos ctx letter end next_end row more proof instance used t s = after (obliges BranchNotProved ctx (asked letter t.left t.right) proof instance used row more t.row_is s)
  where
    at : Followed
    at = stands end proof instance used

    picked_in : ℕ → Ref → Result Followed Why
    picked_in next picked = Ok (record { end = turned_if end.dual picked; cursor = cursor_at proof instance next })

    picks : (next : ℕ) → and_then (formed_ref (ref_with end.args 0 (nameless_ref [] t.proto.params (on_way letter t.fork)))) (picked_in next) ≡ Ok (stands next_end proof instance next)
    picks next =
        chain (formed_ref (ref_with end.args 0 (nameless_ref [] t.proto.params (on_way letter t.fork)))) (picked_in next) t.picked (stands next_end proof instance next) t.picks
        (ap (λ e. Ok (stands e proof instance next)) (sym t.next_is))

    obliged : Cursor → Result Followed Why
    obliged cursor =
        and_then (formed_ref (ref_with end.args 0 (nameless_ref [] t.proto.params (on_way letter t.fork)))) (λ next. Ok (record { end = turned_if end.dual next; cursor = cursor }))

    asks : LinearForm → LinearForm → Result Followed Why
    asks left right = and_then (oblige BranchNotProved ctx (asked letter left right) at.cursor) obliged

    takes : (next : ℕ) → oblige BranchNotProved ctx (asked letter t.left t.right) at.cursor ≡ Ok (cursor_at proof instance next)
        → take_letter t.proto.params ctx letter t.fork at ≡ Ok (stands next_end proof instance next)
    takes next obliged_is =
        chain (formed (form_with end.args 0 (nameless_term [] t.proto.params t.fork.left))) (λ left. and_then (formed (form_with end.args 0 (nameless_term [] t.proto.params t.fork.right))) (asks left)) t.left (stands next_end proof instance next) t.left_is
        (chain (formed (form_with end.args 0 (nameless_term [] t.proto.params t.fork.right))) (asks t.left) t.right (stands next_end proof instance next) t.right_is
        (chain (oblige BranchNotProved ctx (asked letter t.left t.right) at.cursor) obliged (cursor_at proof instance next) (stands next_end proof instance next) obliged_is (picks next)))

    follows : (next : ℕ) → take_letter t.proto.params ctx letter t.fork at ≡ Ok (stands next_end proof instance next) → follow_letter protos ctx letter at ≡ Ok (stands next_end proof instance next)
    follows next is =
        chain (or_why (proto_named end.name protos) WrongForm) (λ p. and_then (or_why (fork_of p.equation) WrongForm) (λ k. take_letter p.params ctx letter k at)) t.proto (stands next_end proof instance next) (there (proto_named end.name protos) WrongForm t.proto t.declared)
        (chain (or_why (fork_of t.proto.equation) WrongForm) (λ k. take_letter t.proto.params ctx letter k at) t.fork (stands next_end proof instance next) (there (fork_of t.proto.equation) WrongForm t.fork t.branches) is)

    after : (next : ℕ) × (oblige BranchNotProved ctx (asked letter t.left t.right) (cursor_at proof instance used) ≡ Ok (cursor_at proof instance next)) × Standing ctx.hyps proof.certs more next
        → Takes protos ctx letter end next_end proof instance used more
    after (next, is, standing) = (next, follows next (takes next is), standing)

abbrev pub Follows : List written.Proto → Context → List Letter → Ref → Ref → Proof → ℕ → ℕ → List Row → Type 0
Follows protos ctx letters from to proof instance used more =
    (next : ℕ) × (follow protos ctx letters (stands from proof instance used) ≡ Ok (stands to proof instance next)) × Standing ctx.hyps proof.certs more next

pub follows_way : (protos : List written.Proto) (ctx : Context) (letters : List Letter) (from to : Ref) (rows more : List Row) (proof : Proof) (instance used : ℕ)
    → Way protos (length ctx.ints) letters from rows to → Standing ctx.hyps proof.certs (rows ++ more) used → Follows protos ctx letters from to proof instance used more
follows_way protos ctx [] from to [] more proof instance used way s = (used, ap (λ e. Ok (stands e proof instance used)) way, s)
follows_way protos ctx [] from to (r ∷ rs) more proof instance used way s = absurd way
follows_way protos ctx (l ∷ ls) from to [] more proof instance used way s = absurd way
follows_way protos ctx (l ∷ ls) from to (r ∷ rs) more proof instance used (next, turn, way) s = after (λ middle standing. follows_way protos ctx ls next to rs more proof instance middle way standing) (turns protos ctx l from next r (rs ++ more) proof instance used turn s)
  where
    rest_of : (middle : ℕ) → follow_letter protos ctx l (stands from proof instance used) ≡ Ok (stands next proof instance middle) → Follows protos ctx ls next to proof instance middle more → Follows protos ctx (l ∷ ls) from to proof instance used more
    rest_of middle first (final, is, standing) =
        (final, chain (follow_letter protos ctx l (stands from proof instance used)) (follow protos ctx ls) (stands next proof instance middle) (stands to proof instance final) first is, standing)

    after : ((middle : ℕ) → Standing ctx.hyps proof.certs (rs ++ more) middle → Follows protos ctx ls next to proof instance middle more)
        → Takes protos ctx l from next proof instance used (rs ++ more) → Follows protos ctx (l ∷ ls) from to proof instance used more
    after others (middle, first, standing) = rest_of middle first (others middle standing)
