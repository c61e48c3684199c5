-- The rules compute.
use Rattle.std.proofs.Common.{refl}
use Rattle.outline_language.specs.Outlined.{least}
use Rattle.outline_language.specs.Examples.{ReceivingIsOutlined, DroppingIsNot}
use Rattle.outline_language.specs.TreeExample.{TreeIsOutlined, TreeNeedsTheBranch, TreeNeedsACertificate}
use Rattle.outline_language.specs.Conditions.{IntegersFail, CallsFail, ChannelsFail, PartsFail, NumbersFail, ConstantsFail, Room}

pub receiving : ReceivingIsOutlined
unfolding least
receiving = refl

pub dropping : DroppingIsNot
unfolding least
dropping = refl

pub tree_stands : TreeIsOutlined
unfolding least
tree_stands = refl

pub tree_needs_branch : TreeNeedsTheBranch
unfolding least
tree_needs_branch = refl

pub tree_needs_cert : TreeNeedsACertificate
unfolding least
tree_needs_cert = refl

pub integers_fail : IntegersFail
integers_fail = refl

pub calls_fail : CallsFail
calls_fail = refl

pub channels_fail : ChannelsFail
channels_fail = refl

pub parts_fail : PartsFail
parts_fail = refl

pub numbers_fail : NumbersFail
numbers_fail = refl

pub constants_fail : ConstantsFail
constants_fail = refl

pub room : Room
room = record { last = refl; variables = refl; hypotheses = refl; new = refl; branch = refl }
