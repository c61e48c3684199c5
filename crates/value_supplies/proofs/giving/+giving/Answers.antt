use Rattle.std.proofs.Common.{◌≡◌, refl, Ok, IfOk, IfErr, sym, subst}
use Rattle.std.proofs.lemmas.Result.{err_from_is_err_and}
use Rattle.chan_syntax.specs.Reading.{supply_of}
use Rattle.outline_obligations.specs.Reasons.{IsReason}
use Rattle.outline_obligations.proofs.Reasons.{reason_to}
use Rattle.value_supplies.specs.Reading.{given_at}
use Rattle.value_supplies.proofs.OfParts.{read_pair, read_arm, first_fails, second_gives, arm_gives}
use Rattle.value_supplies.proofs.giving.+giving.Goals as goal

pub give_shape-returns-in_err-taken-in-Some-clause-err : goal.give_shape-returns-in_err-taken-in-Some-clause-err
give_shape-returns-in_err-taken-in-Some-clause-err t c =
    let pair = read_pair c.args.value.now c.get.result.now c.in-Pair.second c.in-Pair.first c.in-Pair.second c.in-Pair.is c.get.ensures refl in
    let p = err_from_is_err_and c.from_residual.result c.from_residual.ensures.1 in
    rw (p.1, p.2) (reason_to _ _ (first_fails (supply_of c.args.value.now) c.args.shape.now (given_at c.args.ctx.now c.args.proof.now c.args.taken)
    (supply_of c.get.result.now) (supply_of c.in-Pair.second) pair c.in-Some.parts.first.now c.in-Some.parts.second.now (sym c.in-Some.ensures)) _ c.in_err-taken-in-Some.ensures.err)

pub give_shape-returns-in_ok-taken-in-Some-clause-ok : goal.give_shape-returns-in_ok-taken-in-Some-clause-ok
give_shape-returns-in_ok-taken-in-Some-clause-ok t c =
    let pair = read_pair c.args.value.now c.get.result.now c.get-in-Some.result.now c.in-Pair.first c.in-Pair.second c.in-Pair.is c.get.ensures c.get-in-Some.ensures in
    let gives = second_gives (supply_of c.args.value.now) c.args.shape.now (given_at c.args.ctx.now c.args.proof.now c.args.taken)
    (supply_of c.get.result.now) (supply_of c.get-in-Some.result.now) pair c.in-Some.parts.first.now c.in-Some.parts.second.now (sym c.in-Some.ensures)
    (given_at c.give.new.ctx c.args.proof.now c.in_ok-taken-in-Some.taken) c.in_ok-taken-in-Some.ensures.ok in
    subst (λ r. IfOk c.give-in-Some.result (λ after. r ≡ Ok (given_at c.give-in-Some.new.ctx c.args.proof.now after))) (sym gives) c.give-in-Some.ensures.ok

pub give_shape-returns-in_ok-taken-in-Some-clause-err : goal.give_shape-returns-in_ok-taken-in-Some-clause-err
give_shape-returns-in_ok-taken-in-Some-clause-err t c =
    let pair = read_pair c.args.value.now c.get.result.now c.get-in-Some.result.now c.in-Pair.first c.in-Pair.second c.in-Pair.is c.get.ensures c.get-in-Some.ensures in
    let gives = second_gives (supply_of c.args.value.now) c.args.shape.now (given_at c.args.ctx.now c.args.proof.now c.args.taken)
    (supply_of c.get.result.now) (supply_of c.get-in-Some.result.now) pair c.in-Some.parts.first.now c.in-Some.parts.second.now (sym c.in-Some.ensures)
    (given_at c.give.new.ctx c.args.proof.now c.in_ok-taken-in-Some.taken) c.in_ok-taken-in-Some.ensures.ok in
    subst (λ r. IfErr c.give-in-Some.result (IsReason r)) (sym gives) c.give-in-Some.ensures.err

pub give_shape-returns-in-Some-arm-clause-ok : goal.give_shape-returns-in-Some-arm-clause-ok
give_shape-returns-in-Some-arm-clause-ok t c =
    let tag = read_arm c.args.value.now c.in-Arm.number c.get-in-Some-arm.result.now c.in-Arm.value c.in-Arm.is c.get-in-Some-arm.ensures in
    let gives = arm_gives (supply_of c.args.value.now) c.args.shape.now (given_at c.args.ctx.now c.args.proof.now c.args.taken)
    c.in-Arm.number (supply_of c.get-in-Some-arm.result.now) tag c.in-Some-arm.res.now (sym c.in-Some-arm.ensures) in
    subst (λ r. IfOk c.give-in-Some-arm.result (λ after. r ≡ Ok (given_at c.give-in-Some-arm.new.ctx c.args.proof.now after))) (sym gives) c.give-in-Some-arm.ensures.ok

pub give_shape-returns-in-Some-arm-clause-err : goal.give_shape-returns-in-Some-arm-clause-err
give_shape-returns-in-Some-arm-clause-err t c =
    let tag = read_arm c.args.value.now c.in-Arm.number c.get-in-Some-arm.result.now c.in-Arm.value c.in-Arm.is c.get-in-Some-arm.ensures in
    let gives = arm_gives (supply_of c.args.value.now) c.args.shape.now (given_at c.args.ctx.now c.args.proof.now c.args.taken)
    c.in-Arm.number (supply_of c.get-in-Some-arm.result.now) tag c.in-Some-arm.res.now (sym c.in-Some-arm.ensures) in
    subst (λ r. IfErr c.give-in-Some-arm.result (IsReason r)) (sym gives) c.give-in-Some-arm.ensures.err
