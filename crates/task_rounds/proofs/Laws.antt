-- The laws in the words of the definitions.
use Rattle.std.proofs.Common.{◌+◌, refl}
use Rattle.task_rounds.specs.Laws.{RunsAreTold, MoversStep, OthersStay, ValuesStay}
use Rattle.task_rounds.proofs.Runs.{is_run}
use Rattle.task_rounds.proofs.Stepping.{moved_task, moved_channel, moved_entries, still_task, still_entries}
use Rattle.task_rounds.proofs.History.{put_stays}

pub runs_are_told : RunsAreTold
runs_are_told program t = ((is_run program t).reached, (is_run program t).tells)

pub movers_step : MoversStep
movers_step program t p next event never is = record {
  tasks = moved_task program never t p (record { next = next; event = event; is = is });
  channels = moved_channel program never t p (record { next = next; event = event; is = is });
  entries = moved_entries program never t p (record { next = next; event = event; is = is });
}

pub others_stay : OthersStay
others_stay program t p s never there still = (still_task program never t p s there still, still_entries program never t p s there still)

pub values_stay : ValuesStay
values_stay program r d c v never put = put_stays program never d r (d + r) c v refl put
