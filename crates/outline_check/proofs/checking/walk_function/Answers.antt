use Rattle.std.proofs.Common.{[]}
use Rattle.core_programs.specs.Bodies.{function_of}
use Rattle.outline_check.proofs.Headers.{is_header}
use Rattle.outline_check.proofs.checking.walk_function.Goals as goal

pub start-requires : goal.start-requires
start-requires c = is_header (function_of [] c.args.func.now) c.requires.narrow
