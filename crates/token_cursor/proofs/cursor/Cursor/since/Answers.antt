use Rattle.std.proofs.Common.{◌∙◌}
use Rattle.chan_lexer.specs.Spelled.{spelled_token}
use Rattle.token_cursor.proofs.Places.{placed}
use Rattle.token_cursor.proofs.cursor.Cursor.since.Goals as goal

pub returns : goal.returns
returns c =
    c.span_of.ensures c.start.inside.source.now
    ∙ placed (spelled_token c.start.inside.source.now) (spelled_token c.self.inside.source.now) c.start.inside.rest.now c.self.inside.rest.now
    c.args.start.now c.args.self.now c.saturating_sub.result c.start.view_is c.self.view_is c.saturating_sub.ensures
