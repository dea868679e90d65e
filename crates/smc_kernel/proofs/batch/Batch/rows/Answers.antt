use Rattle.std.proofs.Common.{◌∙◌, ap, sym, length}
use Rattle.smc_meaning.specs.Rows.{RowList}
use Rattle.smc_kernel.proofs.Columns.{length-rows_of_columns}
use Rattle.smc_kernel.proofs.batch.Batch.rows.Goals as goal

pub returns-clause-rows : goal.returns-clause-rows
returns-clause-rows c = sym (length-rows_of_columns c.self.inside.width c.self.inside.cells.items c.self.inside.count) ∙ ap (λ (r : RowList). length r.rows) c.self.view_is
