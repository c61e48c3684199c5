use Rattle.std.proofs.Common.{◌+◌, ◌&&◌, [], drop, map, ap, ◌∙◌}
use Rattle.std.specs.List.{list_all}
use Rattle.std.proofs.lemmas.Result.{err_from_is_err_and}
use Rattle.core_programs.specs.Bodies.{function_of}
use Rattle.nameless_shapes.proofs.Lists.{one_later, read_put_next}
use Rattle.function_headers.specs.Headers.{header_read, header_fits}
use Rattle.function_headers.specs.Reading.{header_of}
use Rattle.function_headers.proofs.Formed.{and_false}
use Rattle.function_headers.proofs.reading.read_headers.Goals as goal

pub returns-in_err-read_header-clause-err : goal.returns-in_err-read_header-clause-err
returns-in_err-read_header-clause-err c =
    let p = err_from_is_err_and c.from_residual.result c.from_residual.ensures.1 in
    let next = one_later c.args.funcs.now c.loop-func.func-index c.func-item.result c.loop-func-test.true c.func-item.is in
    rw (p.1, p.2) (λ e. c.loop-func.invariant.1 (ap (λ fs. list_all header_fits (map header_read (map (function_of []) fs))) next
    ∙ ap (λ b. b && list_all header_fits (map header_read (map (function_of []) (drop (c.loop-func.func-index + 1) c.args.funcs.now)))) (c.in_err-read_header.ensures.err e)))

pub loop-func-preserved : goal.loop-func-preserved
loop-func-preserved c =
    let next = one_later c.args.funcs.now c.loop-func.func-index c.func-item.result c.loop-func-test.true c.func-item.is in (
      rw c.in_ok-push.ensures.ok (read_put_next header_read (function_of []) header_of c.args.funcs.now c.loop-func.func-index c.func-item.result c.loop-func-test.true c.func-item.is c.loop-func.headers _ c.in_ok-read_header.ensures.ok c.loop-func.invariant.0),
      λ fails. c.loop-func.invariant.1 (ap (λ fs. list_all header_fits (map header_read (map (function_of []) fs))) next
          ∙ ap (λ b. header_fits (header_read (function_of [] c.func-item.result)) && b) fails ∙ and_false (header_fits (header_read (function_of [] c.func-item.result)))),
    )
