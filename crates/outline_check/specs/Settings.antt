-- Where rules are met: in a program of which tables were read, in a function that gives a resource back.
use Rattle.outline_language.specs.Nameless.{Res}
use Rattle.outline_walk.specs.Forms.{Setting}
use Rattle.call_rules.specs.declared.tables.Tables.{Tables}

abbrev pub setting_of : Tables → Res → Setting
setting_of tables own = record { parts = tables.program.now; own = own }
