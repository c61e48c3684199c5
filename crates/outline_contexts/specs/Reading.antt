-- Answers of the code as the definitions have them.
use Rattle.outline_language.specs.Nameless.{Shape}
use Rattle.outline_language.specs.Contexts as definition
use Rattle.outline_contexts.specs.Trails.{Trail, Lengths, context_in}
use Rattle.outline_contexts.specs.declared.marks.Mark.{Mark}

abbrev pub marked : Mark → Lengths
marked mark = record { ints = mark.ints; hyps = mark.hyps; names = mark.entries; shapes = mark.entries; taken = mark.taken }

-- a shape that was taken, and what is there then
abbrev pub taken_as : Shape → Trail → definition.Taken
taken_as shape trail = record { shape = shape; context = context_in trail }
