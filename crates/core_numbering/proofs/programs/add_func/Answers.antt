use Rattle.core_numbering.proofs.Drafted.{func_numbered}
use Rattle.core_numbering.proofs.programs.add_func.Goals as goal

pub returns : goal.returns
returns c =
    let numbered = c.in_ok-func.ensures in
    func_numbered c.args.func.now c.args.parts.now c.number_func.new.nodes c.in_ok-func.func c.push.new.self numbered.adds numbered.func numbered.body c.in_ok-push.ensures.ok
