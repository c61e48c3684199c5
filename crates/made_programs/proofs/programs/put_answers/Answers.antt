use Rattle.std.proofs.lemmas.Result.{on_ok_weaker}
use Rattle.made_programs.proofs.Joined.{three}
use Rattle.made_programs.proofs.programs.put_answers.Goals as goal

pub returns : goal.returns
returns c = on_ok_weaker c.put.result (three c.args.text.now.items c.put_numbered.new.text.items c.put_numbered-2.new.text.items c.put.new.text.items _ _ _ c.in_ok-put_numbered.ensures c.in_ok-put_numbered-2.ensures) c.put.ensures
