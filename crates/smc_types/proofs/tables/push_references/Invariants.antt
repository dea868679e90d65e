use Rattle.std.proofs.Common.{◌≡◌, take, ◌++◌, map}
use Rattle.smc_types.specs.Written.{reference_column}
use Rattle.smc_types.proofs.tables.push_references.Given as goal

abbrev pub invariant-loop-name : goal.invariant-loop-name
invariant-loop-name l = l.columns.items ≡ l.initial.columns.items ++ map reference_column (take l.name-index l.references)
