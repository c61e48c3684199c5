use Rattle.std.proofs.Common.{◌+◌, ◌^◌, arith}
use Rattle.nameless_forms.proofs.Sizes.{looser_form}
use Rattle.nameless_forms.proofs.limits.difference.Goals as goal

pub returns-clause-within : goal.returns-clause-within
returns-clause-within c =
    looser_form (2 ^ 246 + 2 ^ 185) (2 ^ 247) c.add.new.self (omega arith) (c.in_ok-add.ensures.within (2 ^ 246) c.in_ok-sum.ensures.within)
