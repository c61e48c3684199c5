use Rattle.std.proofs.lemmas.Result.{on_ok_weaker}
use Rattle.made_programs.proofs.Joined.{three}
use Rattle.made_programs.proofs.programs.put_delegation.Goals as goal

pub returns : goal.returns
returns c = on_ok_weaker c.put_passes.result (three c.args.text.now.items c.put.new.text.items c.put-2.new.text.items c.put_passes.new.text.items _ _ _ c.in_ok-put.ensures c.in_ok-put-2.ensures) c.put_passes.ensures
