use Rattle.std.proofs.Common.{◌≡◌, Ok, subst}
use Rattle.chan_syntax.specs.Reading.{term_of}
use Rattle.outline_language.specs.LinearForms.{minus, plus_one}
use Rattle.outline_language.specs.Contexts.{add_hyp}
use Rattle.outline_contexts.specs.Trails.{Trail, context_in}
use Rattle.value_rules.proofs.Sides.{both_sides}
use Rattle.value_rules.proofs.branches.meet_if.Goals as goal

pub returns-clause-ok : goal.returns-clause-ok
returns-clause-ok c =
    let ctx = c.args.ctx.now in
    let a = c.in_ok-left.left in
    let b = c.in_ok-right.right in
    let first = c.in_ok-try_side.ensures.ok in
    let second = c.in_ok-try_side-2.ensures.ok in (
      (first.0, second.0),
      both_sides (context_in ctx) (term_of c.args.left.now) (term_of c.args.right.now) a b first.0 second.0 c.in_ok-left.ensures.ok c.in_ok-right.ensures.ok first.1
          (subst (λ (t : Trail). add_hyp (context_in t) (plus_one (minus b a)) ≡ Ok second.0) c.in_ok-try_side.ensures.stays second.1),
    )
