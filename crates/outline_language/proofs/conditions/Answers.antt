use Rattle.outline_language.proofs.Examples.{integers_fail, calls_fail, channels_fail, parts_fail, numbers_fail, constants_fail, room}
use Rattle.outline_language.proofs.conditions.Goals as goal

pub returns-clause-integers : goal.returns-clause-integers
returns-clause-integers c = integers_fail

pub returns-clause-calls : goal.returns-clause-calls
returns-clause-calls c = calls_fail

pub returns-clause-channels : goal.returns-clause-channels
returns-clause-channels c = channels_fail

pub returns-clause-parts : goal.returns-clause-parts
returns-clause-parts c = parts_fail

pub returns-clause-numbers : goal.returns-clause-numbers
returns-clause-numbers c = numbers_fail

pub returns-clause-constants : goal.returns-clause-constants
returns-clause-constants c = constants_fail

pub returns-clause-room : goal.returns-clause-room
returns-clause-room c = room
