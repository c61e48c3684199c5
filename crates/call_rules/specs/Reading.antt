-- Tables and answers of the code as the definitions have them.
use Rattle.std.specs.Prelude.{List}
use Rattle.core_language.specs.Programs.{Program}
use Rattle.chan_syntax.specs.declared.operands.Proof.{Proof}
use Rattle.core_programs.specs.Bodies.{program_of}
use Rattle.outline_language.specs.Nameless.{Ref, Shape, Res}
use Rattle.outline_language.specs.Rules as rules
use Rattle.nameless_shapes.specs.Parts.{ref_of}
use Rattle.outline_obligations.specs.Cursors.{cursor_at}
use Rattle.outline_contexts.specs.Trails.{Trail, context_in}
use Rattle.outline_paths.specs.declared.unfolding.Unfolded.{Unfolded}
use Rattle.protocol_tables.specs.Reading.{message_of}
use Rattle.call_rules.specs.declared.tables.Tables.{Tables}
use Rattle.call_rules.specs.declared.children.Beginning.{Beginning}

-- the program whose headers and protocols these are
abbrev pub program_in : Tables → Program
program_in tables = program_of tables.program.now

-- what a call leaves, and what it gives back
abbrev pub called_as : Trail → Res → rules.Called
called_as trail res = record { context = context_in trail; result = res }

abbrev pub beginning_of : Beginning → Ref × List Shape
beginning_of beginning = (ref_of beginning.end.now, beginning.shapes.now)

-- the message of an end that was taken, and what is left
abbrev pub opened_as : Trail → Proof → Unfolded → rules.Opened
opened_as trail proof found = record {
  message = message_of found.message;
  context = context_in trail;
  cursor = cursor_at proof found.taken;
}
