use Rattle.std.proofs.Common.{◌+◌, ◌^◌, arith}
use Rattle.nameless_forms.proofs.Sizes.{looser_form}
use Rattle.nameless_forms.proofs.limits.difference_with.Goals as goal

pub returns-clause-within : goal.returns-clause-within
returns-clause-within c =
    looser_form (2 ^ 245 + (2 ^ 244 + 2 ^ 185)) (2 ^ 247) c.put.new.sum (omega arith) (c.in_ok-put.ensures.within (2 ^ 245) c.in_ok-sum.ensures.within)
