use Rattle.std.proofs.Common.{ap, sym, ◌∙◌}
use Rattle.grammar_laws.specs.Grammar.{Got, Bad, Deep}
use Rattle.chan_lexer.specs.Lexed.{tokens_of}
use Rattle.chan_parser.specs.declared.parse_fault.ParseFault.TheVariants.{Unexpected, TooDeep}
use Rattle.chan_parser.specs.Parse.{unexpected, too_deep, place_of}
use Rattle.chan_parser.proofs.Outcomes.{started, all_read, the_tree, some_left, refused_at, deep_at, no_fault, says_it}
use Rattle.chan_parser.proofs.parser.parse.Goals as goal

pub returns-then-left-eq0-clause-ok : goal.returns-then-left-eq0-clause-ok
returns-then-left-eq0-clause-ok c =
    all_read (tokens_of c.args.tokens.now) c.in-Ok.tree c.program.new.cursor
    (started c.args.tokens.now.source c.args.tokens.now.list c.as_slice.result.now c.source-source.result.now c.new-cursor.result (Got c.in-Ok.tree c.program.new.cursor)
    c.source-source.ensures.value (c.as_slice.ensures ∙ c.list.ensures.value) c.new-cursor.ensures c.in-Ok.ensures)
    (sym c.left.ensures ∙ c.if-left-eq0.true)

pub returns-then-left-eq0-clause-accepted : goal.returns-then-left-eq0-clause-accepted
returns-then-left-eq0-clause-accepted c = λ t d.
    the_tree (tokens_of c.args.tokens.now) c.in-Ok.tree t c.program.new.cursor
    (started c.args.tokens.now.source c.args.tokens.now.list c.as_slice.result.now c.source-source.result.now c.new-cursor.result (Got c.in-Ok.tree c.program.new.cursor)
    c.source-source.ensures.value (c.as_slice.ensures ∙ c.list.ensures.value) c.new-cursor.ensures c.in-Ok.ensures)
    (sym c.left.ensures ∙ c.if-left-eq0.true) d

pub returns-then-left-eq0-clause-refused : goal.returns-then-left-eq0-clause-refused
returns-then-left-eq0-clause-refused c = λ fault i.
    no_fault c.args.tokens.now.source (tokens_of c.args.tokens.now) c.in-Ok.tree
    (all_read (tokens_of c.args.tokens.now) c.in-Ok.tree c.program.new.cursor
    (started c.args.tokens.now.source c.args.tokens.now.list c.as_slice.result.now c.source-source.result.now c.new-cursor.result (Got c.in-Ok.tree c.program.new.cursor)
    c.source-source.ensures.value (c.as_slice.ensures ∙ c.list.ensures.value) c.new-cursor.ensures c.in-Ok.ensures)
    (sym c.left.ensures ∙ c.if-left-eq0.true))
    fault i

pub returns-else-left-eq0-clause-err : goal.returns-else-left-eq0-clause-err
returns-else-left-eq0-clause-err c =
    some_left c.args.tokens.now.source (tokens_of c.args.tokens.now) c.in-Ok.tree c.program.new.cursor c.place.result
    (started c.args.tokens.now.source c.args.tokens.now.list c.as_slice.result.now c.source-source.result.now c.new-cursor.result (Got c.in-Ok.tree c.program.new.cursor)
    c.source-source.ensures.value (c.as_slice.ensures ∙ c.list.ensures.value) c.new-cursor.ensures c.in-Ok.ensures)
    (λ n. c.if-left-eq0.false (c.left.ensures ∙ n)) (c.place.ensures ∙ ap (λ s. place_of s c.program.new.cursor) c.source-source.ensures.value)

pub returns-else-left-eq0-clause-accepted : goal.returns-else-left-eq0-clause-accepted
returns-else-left-eq0-clause-accepted c = λ t d.
    no_fault c.args.tokens.now.source (tokens_of c.args.tokens.now) t d (unexpected c.place.result) (returns-else-left-eq0-clause-err c)

pub returns-else-left-eq0-clause-refused : goal.returns-else-left-eq0-clause-refused
returns-else-left-eq0-clause-refused c = λ fault i.
    says_it c.args.tokens.now.source (tokens_of c.args.tokens.now) (Unexpected c.place.result) fault (returns-else-left-eq0-clause-err c) i

pub returns-in-Err-Unexpected-clause-err : goal.returns-in-Err-Unexpected-clause-err
returns-in-Err-Unexpected-clause-err c =
    refused_at c.args.tokens.now.source (tokens_of c.args.tokens.now) c.program.new.cursor c.place-in-Err-Unexpected.result
    (started c.args.tokens.now.source c.args.tokens.now.list c.as_slice.result.now c.source-source.result.now c.new-cursor.result (Bad c.program.new.cursor)
    c.source-source.ensures.value (c.as_slice.ensures ∙ c.list.ensures.value) c.new-cursor.ensures (rw c.in-Err-Unexpected.field-0-is at c.in-Err-Unexpected.ensures))
    (c.place-in-Err-Unexpected.ensures ∙ ap (λ s. place_of s c.program.new.cursor) c.source-source.ensures.value)

pub returns-in-Err-Unexpected-clause-accepted : goal.returns-in-Err-Unexpected-clause-accepted
returns-in-Err-Unexpected-clause-accepted c = λ t d.
    no_fault c.args.tokens.now.source (tokens_of c.args.tokens.now) t d (unexpected c.place-in-Err-Unexpected.result) (returns-in-Err-Unexpected-clause-err c)

pub returns-in-Err-Unexpected-clause-refused : goal.returns-in-Err-Unexpected-clause-refused
returns-in-Err-Unexpected-clause-refused c = λ fault i.
    says_it c.args.tokens.now.source (tokens_of c.args.tokens.now) (Unexpected c.place-in-Err-Unexpected.result) fault (returns-in-Err-Unexpected-clause-err c) i

pub returns-in-Err-TooDeep-clause-err : goal.returns-in-Err-TooDeep-clause-err
returns-in-Err-TooDeep-clause-err c =
    deep_at c.args.tokens.now.source (tokens_of c.args.tokens.now) c.program.new.cursor c.place-in-Err-TooDeep.result
    (started c.args.tokens.now.source c.args.tokens.now.list c.as_slice.result.now c.source-source.result.now c.new-cursor.result (Deep c.program.new.cursor)
    c.source-source.ensures.value (c.as_slice.ensures ∙ c.list.ensures.value) c.new-cursor.ensures (rw c.in-Err-TooDeep.field-0-is at c.in-Err-TooDeep.ensures))
    (c.place-in-Err-TooDeep.ensures ∙ ap (λ s. place_of s c.program.new.cursor) c.source-source.ensures.value)

pub returns-in-Err-TooDeep-clause-accepted : goal.returns-in-Err-TooDeep-clause-accepted
returns-in-Err-TooDeep-clause-accepted c = λ t d.
    no_fault c.args.tokens.now.source (tokens_of c.args.tokens.now) t d (too_deep c.place-in-Err-TooDeep.result) (returns-in-Err-TooDeep-clause-err c)

pub returns-in-Err-TooDeep-clause-refused : goal.returns-in-Err-TooDeep-clause-refused
returns-in-Err-TooDeep-clause-refused c = λ fault i.
    says_it c.args.tokens.now.source (tokens_of c.args.tokens.now) (TooDeep c.place-in-Err-TooDeep.result) fault (returns-in-Err-TooDeep-clause-err c) i
