-- What the load and the parcel mean, in program 7 with its limit of 50 rounds.
use Rattle.std.specs.Prelude.{ℕ, List, [], ◌∷◌, Some, None}
use Rattle.std.specs.declared.option.Option as std_option
use Rattle.chan_base.specs.declared.Number.{Number}
use Rattle.cell_rules.specs.Rule.{Means}
use Rattle.one_shot_word.specs.Meaning.{LoadMeans, ParcelMeans, means}
use Rattle.cell_turns.specs.declared.job.Job.{Job}
use Rattle.cell_turns.specs.declared.job.Note.{Note}

-- what was received, and its name
abbrev pub numbers : std_option.Option Number → List ℕ
numbers None = []
numbers (Some n) = n.0 ∷ []

abbrev pub named : std_option.Option Number → List (ℕ × List ℕ)
named None = []
named (Some n) = (n.0, []) ∷ []

abbrev pub job_means : LoadMeans Job ℕ
job_means = record {
  number = λ j. j.number.0;
  title = λ j. [];
  mentions = λ j. (j.number.0, []) ∷ named j.got;
  forked = λ j. [];
  sent = λ j. [];
  received = λ j. numbers j.got;
  ended = λ j. j.ended;
  program = λ j. 7;
  rounds = λ j. 50;
}

abbrev pub note_means : ParcelMeans Note ℕ
note_means = record { channel = λ n. n.channel.0; mentions = λ n. []; program = λ n. 7; rounds = λ n. 50 }

abbrev pub meanings : Means Job Note (ℕ × ℕ)
meanings = means job_means note_means
