use Rattle.std.proofs.Common.{Err, arith}
use Rattle.std.proofs.lemmas.List.Sorted.{searched}
use Rattle.name_uses.proofs.Searching.{past, at_place}
use Rattle.name_uses.proofs.uses.has_between.Goals as goal

pub returns-in-Some : goal.returns-in-Some
returns-in-Some c =
    let found = searched c.args.numbers.now c.args.low (Err c.in-Err.place) c.in-Err.ensures.position (λ i j le lt. c.requires.ascending i j 0 le lt) in
    at_place c.args.numbers.now c.args.low c.args.high c.in-Err.place found c.requires.ascending c.in-Some.ensures.lookup.3.0 c.in-Some.number.now (c.in-Some.ensures.lookup.3.1 0)

pub returns-in-None : goal.returns-in-None
returns-in-None c =
    let found = searched c.args.numbers.now c.args.low (Err c.in-Err.place) c.in-Err.ensures.position (λ i j le lt. c.requires.ascending i j 0 le lt) in
    past c.args.numbers.now c.args.low c.args.high c.in-Err.place found (grind (arith, c.in-None.ensures.lookup.0))
