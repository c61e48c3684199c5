use Rattle.std.proofs.Common.{◌+◌, ◌&&◌, drop, map, ap, ◌∙◌}
use Rattle.std.specs.List.{list_all}
use Rattle.std.proofs.lemmas.Result.{err_from_is_err_and}
use Rattle.core_programs.specs.Bodies.{param_of}
use Rattle.outline_language.specs.Nameless.{shape_fits}
use Rattle.nameless_shapes.proofs.Lists.{one_later, list_put_next}
use Rattle.function_headers.specs.Headers.{shape_read}
use Rattle.function_headers.proofs.Formed.{formed_is, misfits, and_false}
use Rattle.function_headers.proofs.reading.read_shapes.Goals as goal

pub returns-in_err-nameless_shape-clause-err : goal.returns-in_err-nameless_shape-clause-err
returns-in_err-nameless_shape-clause-err c =
    let p = err_from_is_err_and c.from_residual.result c.from_residual.ensures.1 in
    let next = one_later c.args.params.now c.loop-param.param-index c.param-item.result c.loop-param-test.true c.param-item.is in
    let shape = shape_read c.args.names.now (param_of c.param-item.result) in
    rw (p.1, p.2) (λ e. c.loop-param.invariant.1 (ap (λ ps. list_all shape_fits (map (shape_read c.args.names.now) (map param_of ps))) next
    ∙ ap (λ b. b && list_all shape_fits (map (shape_read c.args.names.now) (map param_of (drop (c.loop-param.param-index + 1) c.args.params.now))))
    (misfits (shape_fits shape) shape c.in_err-nameless_shape.field-0.0 c.in_err-nameless_shape.ensures.err e)))

pub loop-param-preserved : goal.loop-param-preserved
loop-param-preserved c =
    let next = one_later c.args.params.now c.loop-param.param-index c.param-item.result c.loop-param-test.true c.param-item.is in
    let shape = shape_read c.args.names.now (param_of c.param-item.result) in (
      rw c.in_ok-push.ensures.ok (list_put_next (shape_read c.args.names.now) param_of c.args.params.now c.loop-param.param-index c.param-item.result c.loop-param-test.true c.param-item.is c.loop-param.shapes _
          (formed_is (shape_fits shape) shape _ c.in_ok-nameless_shape.ensures.ok) c.loop-param.invariant.0),
      λ fails. c.loop-param.invariant.1 (ap (λ ps. list_all shape_fits (map (shape_read c.args.names.now) (map param_of ps))) next
          ∙ ap (λ b. shape_fits shape && b) fails ∙ and_false (shape_fits shape)),
    )
