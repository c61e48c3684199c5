use Rattle.std.proofs.Common.{◌∙◌}
use Rattle.surface_grammar.specs.Words.{code}
use Rattle.surface_grammar.specs.Grammar.{yes}
use Rattle.chan_lexer.specs.Spelled.{spelled_token}
use Rattle.token_cursor.proofs.Places.{next_is}
use Rattle.token_cursor.proofs.Turns.{any_is}
use Rattle.token_cursor.proofs.cursor.Cursor.sees_any.Goals as goal

pub returns-in-Some : goal.returns-in-Some
returns-in-Some c =
    c.is_among.ensures
    ∙ any_is (code (spelled_token c.self.inside.source.now c.in-Some.first.now)) c.args.words.now
    ∙ next_is (spelled_token c.self.inside.source.now) c.self.inside.rest.now c.in-Some.field-0-1.now c.in-Some.first.now c.args.self.now (yes c.args.words.now)
    c.in-Some.ensures.cases.0 c.self.view_is
