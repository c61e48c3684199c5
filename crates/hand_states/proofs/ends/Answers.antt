use Rattle.hand_states.proofs.Closing as closing
use Rattle.hand_states.proofs.ends.Goals as goal

pub returns : goal.returns
returns g c = record {
  receives = λ x about s. closing.receives x about s;
  parks = λ x about s. closing.parks x about s;
  comes_back = λ x about s. closing.comes_back x about s;
  sees = λ x about s. closing.sees x about s;
  retires = λ x about s. closing.retires x about s;
  reopens = λ x about s. closing.reopens x about s;
  starts = λ x about s. closing.starts x about s;
  joins = λ x about s. closing.joins x about s;
  closes = λ x about s. closing.closes x about s;
  notes = λ x about s. closing.notes x about s;
}
