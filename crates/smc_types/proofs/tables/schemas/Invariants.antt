use Rattle.std.proofs.Common.{◌≡◌, take, map}
use Rattle.smc_types.specs.Written.{schema_of}
use Rattle.smc_types.proofs.tables.schemas.Given as goal

abbrev pub invariant-loop-written : goal.invariant-loop-written
invariant-loop-written l = l.schemas.items ≡ map schema_of (take l.written-index l.tables)
