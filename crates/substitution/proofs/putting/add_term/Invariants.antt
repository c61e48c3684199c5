use Rattle.std.proofs.Common.{ℕ, ◌+◌, ◌*◌, ◌^◌, ◌++◌, List, map, flat_map, take}
use Rattle.core_language.specs.Terms.{Term}
use Rattle.chan_syntax.specs.Reading.{part_of}
use Rattle.linear_forms.specs.Replacing.{scaled}
use Rattle.substitution.specs.Places.{Token, token_of}
use Rattle.substitution.specs.Sums.{HasSums, HasPlaces, IsWithin}
use Rattle.substitution.proofs.putting.add_term.Given as goal

abbrev pub invariant-loop-part : goal.invariant-loop-part
invariant-loop-part l = record {
  sums : (sum : Term) → HasSums l.initial.sums sum → HasSums l.sums (sum ++ scaled l.fn.weight (map part_of (take l.part-index l.fn.parts)));
  within : (size : ℕ) → IsWithin size l.initial.sums → IsWithin (size + l.part-index * 2 ^ 126) l.sums;
  places : (tokens : List Token) → HasPlaces l.initial.sums tokens → HasPlaces l.sums (tokens ++ flat_map token_of (take l.part-index l.fn.parts));
}
