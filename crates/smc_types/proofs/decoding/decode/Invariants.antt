use Rattle.smc_types.proofs.RowLaws.{Read}
use Rattle.smc_types.proofs.decoding.decode.Given as goal

abbrev pub invariant-loop-column : goal.invariant-loop-column
invariant-loop-column l = Read l.columns l.words l.column-index l.at l.values.items
