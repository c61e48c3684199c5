use Rattle.protocols.proofs.Followed.{follows_the_ways}
use Rattle.protocols.proofs.TheHead.{the_head}
use Rattle.protocols.proofs.laws.unfolding_finds_the_head.Goals as goal

pub returns-clause-ways : goal.returns-clause-ways
returns-clause-ways c = follows_the_ways

pub returns-clause-head : goal.returns-clause-head
returns-clause-head c = the_head
