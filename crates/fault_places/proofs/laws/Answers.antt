use Rattle.std.proofs.Common.{IsTrue}
use Rattle.fault_places.proofs.FaultSpans.{stands_in_parts}
use Rattle.fault_places.proofs.ReadPlaces.{spans_stand_in_text}
use Rattle.fault_places.proofs.LoweredSpans.{stands_in_text}
use Rattle.fault_places.proofs.laws.Goals as goal

pub returns : goal.returns
returns c =
    record {
      parts = λ holds parts ill p fault. stands_in_parts (λ span. IsTrue (holds span)) parts ill p fault;
      tree = spans_stand_in_text;
      text = stands_in_text;
    }
