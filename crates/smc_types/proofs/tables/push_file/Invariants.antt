use Rattle.std.proofs.Common.{◌≡◌, take, ◌++◌, map}
use Rattle.smc_types.specs.Written.{file_column}
use Rattle.smc_types.proofs.tables.push_file.Given as goal

abbrev pub invariant-loop-name : goal.invariant-loop-name
invariant-loop-name l = l.columns.items ≡ l.initial.columns.items ++ map file_column (take l.name-index l.file)
