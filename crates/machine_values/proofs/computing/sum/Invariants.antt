use Rattle.std.proofs.Common.{◌≡◌, drop, map}
use Rattle.core_language.specs.Computing.{machine, sum_from, sum_of}
use Rattle.chan_syntax.specs.Reading.{term_of, part_of}
use Rattle.machine_values.specs.Reading.{env_of}
use Rattle.machine_values.proofs.computing.sum.Given as goal

abbrev pub invariant-parts : goal.invariant-parts
invariant-parts l = sum_from machine (env_of l.binds) l.total (map part_of (drop l.part-index l.fn.term.parts)) ≡ sum_of machine (env_of l.binds) (term_of l.fn.term)
