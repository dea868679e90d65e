use Rattle.std.proofs.Common.{List, sym, subst}
use Rattle.smc_types.specs.Columns.{value_kinds}
use Rattle.smc_types.specs.declared.row.Value.{Value}
use Rattle.smc_tbl.specs.TableText.{FitsColumns}
use Rattle.smc_tbl.proofs.RowFits.{row-of-fits}
use Rattle.smc_desk.proofs.reply.object_reply.Goals as goal

pub print_row-requires : goal.print_row-requires
print_row-requires c =
    let columns = c.args.schema.now.columns in
    subst (λ (row : List Value). FitsColumns (value_kinds columns) row) (sym c.in_ok-row.ensures) (row-of-fits columns c.args.words.now)
