use Rattle.std.proofs.Common.{◌≡◌, ◌∷◌, [], ◌++◌}
use Rattle.text_tokens.specs.Text.{bad_byte, bad_token, number_too_large}
use Rattle.chan_lexer.specs.Place.{span}
use Rattle.chan_lexer.proofs.Turns.{blank_turn, line_turn, token_turn, small, fault_here}
use Rattle.chan_lexer.proofs.cut.cut.Goals as goal

pub loop-list-preserved-in-LineEnd : goal.loop-list-preserved-in-LineEnd
loop-list-preserved-in-LineEnd c =
    let at = line_turn c.args.text.now c.loop-list.place c.loop-list.list c.loop-list.rest.now c.loop-list.invariant.at c.in-LineEnd.ensures.front in
    rw c.next_line-place.ensures (record { at = at; small = small _ _ _ _ at })

pub loop-list-preserved-in-Blank : goal.loop-list-preserved-in-Blank
loop-list-preserved-in-Blank c =
    let front = c.in-Blank.ensures.front in
    let at = blank_turn c.args.text.now c.loop-list.place c.loop-list.list c.loop-list.rest.now front.0 c.in-Blank.len c.loop-list.invariant.at front.1 front.2 in
    rw c.along-place.ensures (record { at = at; small = small _ _ _ _ at })

pub loop-list-preserved : goal.loop-list-preserved
loop-list-preserved c =
    let at = token_turn c.args.text.now c.loop-list.place c.loop-list.list c.loop-list.rest.now c.in-Token.kind c.in-Token.len c.loop-list.invariant.at c.in-Token.ensures.front in
    let pushed : c.push.new.self ≡ c.loop-list.list ++ record { kind = c.in-Token.kind; span = span c.loop-list.place c.in-Token.len } ∷ [] = rw c.span-span.ensures at c.in_ok-push-in-Token.ensures.ok in
    rw (c.along-place-in-Token.ensures, pushed) (record { at = at; small = small _ _ _ _ at })

pub returns-in-BadByte : goal.returns-in-BadByte
returns-in-BadByte c =
    rw c.span.ensures (fault_here c.args.text.now c.loop-list.place c.loop-list.list c.loop-list.rest.now bad_byte 1 c.loop-list.invariant.at c.in-BadByte.ensures.within c.in-BadByte.ensures.front)

pub returns-in-BadToken : goal.returns-in-BadToken
returns-in-BadToken c =
    rw c.span-in-BadToken.ensures (fault_here c.args.text.now c.loop-list.place c.loop-list.list c.loop-list.rest.now bad_token 1 c.loop-list.invariant.at c.in-BadToken.ensures.within c.in-BadToken.ensures.front)

pub returns-in-NumberTooLarge : goal.returns-in-NumberTooLarge
returns-in-NumberTooLarge c =
    rw c.span-in-NumberTooLarge.ensures (fault_here c.args.text.now c.loop-list.place c.loop-list.list c.loop-list.rest.now number_too_large c.in-NumberTooLarge.len c.loop-list.invariant.at c.in-NumberTooLarge.ensures.within c.in-NumberTooLarge.ensures.front.1)
