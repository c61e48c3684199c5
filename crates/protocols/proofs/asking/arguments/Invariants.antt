use Rattle.std.proofs.Common.{◌≡◌, map, take}
use Rattle.linear_forms.specs.Terms.{put_of}
use Rattle.chan_syntax.specs.Reading.{term_of}
use Rattle.outline_rules.specs.Naming.{int_var_of}
use Rattle.protocols.proofs.asking.arguments.Given as goal

abbrev pub invariant-loop-index : goal.invariant-loop-index
invariant-loop-index l = map int_var_of l.vars ≡ put_of (take l.index l.params) (map term_of (take l.index l.args))
