use Rattle.std.proofs.Common.{◌≡◌, ◌++◌, map, take, Some}
use Rattle.smc_meaning.specs.Cells.{column_seen}
use Rattle.smc_meaning.specs.Groups.{values_at}
use Rattle.smc_meaning.proofs.answering.push_values.Given as goal

-- the values so far
abbrev pub invariant-loop-place : goal.invariant-loop-place
invariant-loop-place l = map column_seen l.columns.items ≡ map column_seen l.fn.columns.items ++ map Some (values_at l.leaves (take l.place-index l.places) l.row)
