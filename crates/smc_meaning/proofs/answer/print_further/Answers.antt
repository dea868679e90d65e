use Rattle.smc_meaning.specs.Cells.{CanPrint, column_seen}
use Rattle.smc_meaning.proofs.PieceLaws.{seen-all}
use Rattle.smc_meaning.proofs.answer.print_further.Goals as goal

pub print_column-requires : goal.print_column-requires
print_column-requires c = seen-all CanPrint column_seen c.args.columns.now c.loop-column.column-index c.column-item.result c.loop-column-test.true c.column-item.is c.requires
