-- Places of a text.
use Rattle.std.specs.Prelude.{ℕ, ◌+◌, List, length}
use Rattle.std.specs.List.{count_by, suffix_len}
use Rattle.chan_base.specs.declared.spans.Span.{Span}
use Rattle.text_tokens.specs.Text.{is_line_end, is_in_line}
use Rattle.chan_lexer.specs.declared.place.Place.{Place}

-- the place behind this front of a text
abbrev pub place_behind : List ℕ → Place
place_behind front =
    record { at = length front; line = 1 + count_by is_line_end front; column = 1 + suffix_len is_in_line front }

-- the span of a word of this many bytes
abbrev pub span : Place → ℕ → Span
span p len = record { start = p.at; stop = p.at + len; line = p.line; column = p.column }

-- the place this many bytes further in the line
abbrev pub along : Place → ℕ → Place
along p len = record { at = p.at + len; line = p.line; column = p.column + len }

-- the place behind a line end
abbrev pub next_line : Place → Place
next_line p = record { at = p.at + 1; line = p.line + 1; column = 1 }
