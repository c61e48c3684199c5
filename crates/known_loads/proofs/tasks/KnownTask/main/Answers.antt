use Rattle.std.proofs.Common.{refl, rules}
use Rattle.known_loads.proofs.Held.{main_made}
use Rattle.known_loads.proofs.tasks.KnownTask.main.Goals as goal

pub invariant_of-result : goal.invariant_of-result
invariant_of-result c = (main_made c.args.program.now _ c.args.rounds c.requires.never c.requires.rounds c.requires.cell refl refl c.in_ok-task.ensures.starts c.in_ok-task.ensures.ends (search rules) refl).2

pub returns : goal.returns
returns c =
    let made = main_made c.args.program.now _ c.args.rounds c.requires.never c.requires.rounds c.requires.cell refl refl c.in_ok-task.ensures.starts c.in_ok-task.ensures.ends (search rules) refl in
    (refl, made.0, refl, made.1)
