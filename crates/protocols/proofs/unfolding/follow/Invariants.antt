use Rattle.std.proofs.Common.{◌≡◌, true, map, drop}
use Rattle.chan_syntax.specs.Reading.{ref_of, letter_of}
use Rattle.protocols.specs.Unfolding as spec
use Rattle.protocols.specs.Settings.{setting_of}
use Rattle.protocols.proofs.Placing.{AreLeft}
use Rattle.protocols.proofs.Stepping.{Leads}
use Rattle.protocols.proofs.unfolding.follow.Given as goal

abbrev pub invariant-loop-letter : goal.invariant-loop-letter
invariant-loop-letter l = record {
  leads : Leads (setting_of l.setting) (ref_of l.from) (map letter_of l.path) l.at.used (ref_of l.at.end) (map letter_of (drop l.letter-index l.path));
  places : AreLeft l.setting.protos.now l.from l.path l.at.end (drop l.letter-index l.path);
  arity : spec.HasArity (setting_of l.setting).protos (ref_of l.at.end);
  form : spec.has_form (setting_of l.setting).protos (map letter_of (drop l.letter-index l.path)) l.at.end.name ≡ true;
}
