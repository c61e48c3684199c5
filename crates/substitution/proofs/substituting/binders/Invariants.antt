use Rattle.std.proofs.Common.{◌≡◌, ◌+◌, ◌-◌, map, take, length}
use Rattle.chan_syntax.specs.Reading.{res_of}
use Rattle.linear_forms.specs.Substitution.{Each, terms_of_res}
use Rattle.linear_forms.specs.Replacing.{AreSafe, IsLonger}
use Rattle.substitution.specs.Scopes.{put_in, before_of, after_of}
use Rattle.substitution.proofs.substituting.binders.Given as goal

abbrev pub invariant-loop-index : goal.invariant-loop-index
invariant-loop-index l = record {
  before : before_of l.group ≡ take l.index l.names;
  safe : AreSafe l.longest (map put_in l.put) (terms_of_res (before_of l.scope) (res_of l.res)) (length l.scope + (length l.names - l.index)) (before_of l.group) (after_of l.group);
  longer : Each (IsLonger l.longest (map put_in l.put) (before_of l.scope) (res_of l.res)) (take l.index l.names) (after_of l.group);
}
