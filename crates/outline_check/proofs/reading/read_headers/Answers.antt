use Rattle.std.proofs.Common.{◌≡◌, true, List, [], map, sym, ap, ◌∙◌, subst}
use Rattle.std.specs.List.{list_all}
use Rattle.core_programs.specs.declared.nodes.Func.{Func}
use Rattle.core_programs.specs.Bodies.{function_of}
use Rattle.function_headers.specs.Headers.{header_read, header_fits}
use Rattle.form_tables.proofs.Tables.{headers_fit, headers_are}
use Rattle.outline_check.proofs.Ruled.{misfits}
use Rattle.outline_check.proofs.reading.read_headers.Goals as goal

pub unreachable-requires : goal.unreachable-requires
unreachable-requires c =
    misfits _ c.in-Err-TooLarge.field-0 c.in-Err-TooLarge.field-0-is c.in-Err-TooLarge.ensures.err
    (subst (λ (fs : List Func). list_all header_fits (map header_read (map (function_of []) fs)) ≡ true) (sym c.as_slice.ensures) (headers_fit c.args.parts.now c.requires.form))

pub returns-in-Ok : goal.returns-in-Ok
returns-in-Ok c =
    c.in-Ok.ensures.ok ∙ ap (λ (fs : List Func). map header_read (map (function_of []) fs)) c.as_slice.ensures ∙ headers_are c.args.parts.now
