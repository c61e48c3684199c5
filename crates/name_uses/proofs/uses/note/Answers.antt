use Rattle.std.proofs.Common.{ap, sym, ◌∙◌}
use Rattle.name_uses.specs.Uses.{numbers_of}
use Rattle.name_uses.proofs.Noting.{noted}
use Rattle.name_uses.proofs.uses.note.Goals as goal
use Rattle.name_uses.proofs.uses.note.Goals.{in-Some, in-None}

pub returns : goal.returns
returns c =
    noted c.args.uses.now c.remove.new.self c.insert.new.self c.args.name c.args.number c.match-remove.numbers c.push.new.self c.remove.ensures.updates c.in_ok-insert.ensures.updates
    (elim c.match-remove.branch [
      | in-Some w ↦ ap (λ v. v.items) w.numbers-is ∙ ap numbers_of (sym w.in-Some.is ∙ c.remove.ensures.value)
      | in-None w ↦ ap (λ v. v.items) w.numbers-is ∙ w.new-numbers.ensures.items ∙ ap numbers_of (sym w.in-None.is ∙ c.remove.ensures.value)
    ])
    c.in_ok-push.ensures.items
