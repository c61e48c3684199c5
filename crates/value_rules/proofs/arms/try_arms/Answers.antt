use Rattle.std.proofs.Common.{◌≡◌, ◌+◌, ◌<◌, ◌≤◌, drop, get_or, length, Ok, ◌∙◌, subst, arith}
use Rattle.std.proofs.lemmas.List.{drop_more, drop_all, get_or_read}
use Rattle.chan_syntax.specs.Reading.{pat_of}
use Rattle.outline_language.specs.Nameless.{Res}
use Rattle.outline_language.specs.Contexts.{bind}
use Rattle.outline_contexts.specs.Trails.{Trail, context_in}
use Rattle.value_rules.proofs.Tried.{bound_from, arm_goes, none_left}
use Rattle.value_rules.proofs.arms.try_arms.Goals as goal

pub loop-index-preserved : goal.loop-index-preserved
loop-index-preserved c =
    let ctx = context_in c.args.ctx.now in
    let rs = c.args.resources.now in
    let arms = c.args.arms.now in
    let i = c.loop-index.index in
    let more : i < length rs = omega (arith, c.loop-index-test.true, c.requires) in
    let arm = get_or arms i c.index-arms-index.result in
    let r = c.index-resources-index.result in
    let read = get_or_read rs i r more c.index-resources-index.is r in
    let tried = c.in_ok-try_arm.ensures.ok in
    let bound = subst (λ (t : Trail). bind (context_in t) (pat_of arm.pat) (get_or rs i r) ≡ Ok tried.0) c.loop-index.invariant.stays
    (subst (λ (s : Res). bind (context_in c.loop-index.ctx) (pat_of arm.pat) s ≡ Ok tried.0) read tried.1) in
    record {
      stays = c.in_ok-try_arm.ensures.stays ∙ c.loop-index.invariant.stays;
      decides = λ at. arm_goes at ctx (drop i rs) (drop i arms) (bound_from at ctx rs arms) (get_or rs i r) (drop (i + 1) rs) arm (drop (i + 1) arms)
          (drop_more rs i r more) (drop_more arms i c.index-arms-index.result c.loop-index-test.true) (c.loop-index.invariant.decides at) tried.0 bound;
    }

pub returns-clause-ok : goal.returns-clause-ok
returns-clause-ok c = λ at.
    let i = c.loop-index.index in
    let none : length c.args.arms.now ≤ i = omega (arith, c.loop-index-test.false) in
    let no_res : length c.args.resources.now ≤ i = omega (arith, none, c.requires) in
    none_left at (context_in c.args.ctx.now) (drop i c.args.resources.now) (drop i c.args.arms.now) (bound_from at (context_in c.args.ctx.now) c.args.resources.now c.args.arms.now)
    (drop_all i c.args.resources.now no_res) (drop_all i c.args.arms.now none) (c.loop-index.invariant.decides at)
