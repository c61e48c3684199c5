use Rattle.std.proofs.Common.{◌≡◌, drop}
use Rattle.core_language.specs.Computing.{value_of}
use Rattle.machine_values.specs.Reading.{env_of}
use Rattle.machine_values.proofs.computing.lookup.Given as goal

abbrev pub invariant-binds : goal.invariant-binds
invariant-binds l = value_of (env_of (drop l.bind-index l.fn.binds)) l.name ≡ value_of (env_of l.fn.binds) l.name
