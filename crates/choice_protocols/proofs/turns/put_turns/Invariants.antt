use Rattle.std.proofs.Common.{◌≡◌, ◌++◌, ◌-◌, ◌≤◌, map, length, drop}
use Rattle.session_lowering.specs.Choices.{turns, unchosen}
use Rattle.choice_protocols.proofs.turns.put_turns.Given as goal

abbrev pub invariant-turns : goal.invariant-turns
invariant-turns l =
    (l.index ≤ length l.refs)
    × (l.sources ++ map unchosen (turns l.proto l.next l.name l.at l.index (drop l.index l.refs))
    ≡ l.initial.sources ++ map unchosen (turns l.proto l.next l.next l.fn.next_span 0 l.refs))

abbrev pub decreases-turns : goal.decreases-turns
decreases-turns l = length l.refs - l.index
