-- What known tasks and parcels mean to the cells.
use Rattle.std.specs.Prelude.{ℕ, List, [], ◌∷◌, ◌++◌, map, flat_map, Option, Some, None}
use Rattle.core_language.specs.Names.{Name}
use Rattle.core_programs.specs.declared.nodes.Parts.{Parts}
use Rattle.machine_values.specs.declared.values.Channel.{Channel}
use Rattle.cell_rules.specs.Rule.{Means}
use Rattle.one_shot_word.specs.Meaning.{LoadMeans, ParcelMeans, means}
use Rattle.known_tasks.specs.Nexts.{has_ended}
use Rattle.known_loads.specs.declared.notes.Deed.{Deed}
use Rattle.known_loads.specs.declared.notes.Deed.TheVariants as deed
use Rattle.known_loads.specs.declared.notes.Note.{Note}
use Rattle.known_loads.specs.declared.states.Late.{Late}
use Rattle.known_loads.specs.declared.states.State.{State}
use Rattle.known_loads.specs.declared.letters.Letter.{Letter}
use Rattle.known_loads.specs.Ends.{task_ends, value_ends}
use Rattle.known_loads.specs.Reading.{known_of}

-- the number of a channel's cell, with the channel's name
abbrev pub numbered : Channel → ℕ × Name
numbered channel = (channel.cell.0, channel.name)

-- the channels of forks, of sends and of receives
abbrev pub forked_by : Deed → List (ℕ × Name)
forked_by (deed.Fork channel) = numbered channel ∷ []
forked_by other = []

abbrev pub sent_by : Deed → List (ℕ × Name)
sent_by (deed.Send channel) = numbered channel ∷ []
sent_by other = []

abbrev pub received_by : Deed → List (ℕ × Name)
received_by (deed.Recv channel) = numbered channel ∷ []
received_by other = []

abbrev pub noted : (Deed → List (ℕ × Name)) → List Note → List (ℕ × Name)
noted reads notes = flat_map (λ n. reads n.deed) notes

abbrev pub late_channel : Option Late → List (ℕ × Name)
late_channel None = []
late_channel (Some late) = numbered late.channel ∷ []

-- what the task forked, where it sent, and where it received or a late value waits for it
abbrev pub forks : State → List (ℕ × Name)
forks s = noted forked_by s.notes.items

abbrev pub sends : State → List (ℕ × Name)
sends s = noted sent_by s.notes.items

abbrev pub receives : State → List (ℕ × Name)
receives s = noted received_by s.notes.items ++ late_channel s.late

-- itself, its ends, and all that it used
abbrev pub mentions : State → List (ℕ × Name)
mentions s = (s.cell.0, s.task.name) ∷ (task_ends s.task ++ (forks s ++ (sends s ++ receives s)))

abbrev pub numbers : List (ℕ × Name) → List ℕ
numbers pairs = map (λ e. e.0) pairs

abbrev pub task_means : LoadMeans (Parts × State) Parts
task_means = record {
  number = λ k. k.1.cell.0;
  title = λ k. k.1.task.name;
  mentions = λ k. mentions k.1;
  forked = λ k. numbers (forks k.1);
  sent = λ k. numbers (sends k.1);
  received = λ k. numbers (receives k.1);
  ended = λ k. has_ended (known_of k);
  program = λ k. k.0;
  rounds = λ k. k.1.limit;
}

-- its channel, and the ends of its value
abbrev pub names_in : Letter → List (ℕ × Name)
names_in letter = numbered letter.channel ∷ value_ends letter.value

abbrev pub parcel_means : ParcelMeans (Parts × Letter) Parts
parcel_means = record {
  channel = λ q. q.1.channel.cell.0;
  mentions = λ q. names_in q.1;
  program = λ q. q.0;
  rounds = λ q. q.1.limit;
}

abbrev pub meanings : Means (Parts × State) (Parts × Letter) (Parts × ℕ)
meanings = means task_means parcel_means
