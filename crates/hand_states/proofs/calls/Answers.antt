use Rattle.hand_states.proofs.Having as having
use Rattle.hand_states.proofs.calls.Goals as goal

pub returns : goal.returns
returns g c = record {
  takes = λ x about s. having.takes x about s;
  goes_home = λ x about s. having.goes_home x about s;
  continues = λ x about s. having.continues x about s;
  sends = λ x about s. having.sends x about s;
  sends_to = λ x about s. having.sends_to x about s;
  collects = λ x about s. having.collects x about s;
  keeps = λ x about s. having.keeps x about s;
  begins = λ x about s. having.begins x about s;
}
