use Rattle.std.proofs.Common.{map, take}
use Rattle.chan_syntax.specs.Reading.{term_of}
use Rattle.linear_forms.specs.Substitution.{Each, IsNormalPut}
use Rattle.substitution.specs.Places.{IsPlaced, Words}
use Rattle.substitution.specs.Scopes.{put_in, before_of, after_of}
use Rattle.substitution.proofs.substituting.subst_terms_in.Given as goal

abbrev pub invariant-loop-term : goal.invariant-loop-term
invariant-loop-term l = record {
  normal : Each (IsNormalPut (map put_in l.put) (before_of l.scope) (after_of l.scope)) (map term_of (take l.term-index l.terms)) (map term_of l.all);
  places : Each (IsPlaced l.put) (map (Words (before_of l.scope)) (take l.term-index l.terms)) (map (Words (after_of l.scope)) l.all);
}
