use Rattle.std.proofs.Common.{map, replicate, to_z-of_z, ap, ◌∙◌}
use Rattle.smc_kernel.specs.Columns.{cell_in}
use Rattle.smc_kernel.proofs.ColumnLaws.{map-replicate}
use Rattle.smc_kernel.proofs.column.constant.Goals as goal

pub returns-clause-values : goal.returns-clause-values
returns-clause-values c = ap (map (cell_in c.args.unit)) c.repeated.ensures ∙ map-replicate (cell_in c.args.unit) c.args.count _
    ∙ ap (λ units. replicate c.args.count (cell_in c.args.unit units)) (to_z-of_z c.ranges.units)
