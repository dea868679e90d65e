use Rattle.std.proofs.Common.{◌≡◌, ◌+◌, rules}
use Rattle.smc_kernel.proofs.ColumnLaws.{times-seen}
use Rattle.smc_kernel.proofs.column.times.Goals as goal

pub returns-in_ok-units-in-Number-Number-clause-values : goal.returns-in_ok-units-in-Number-Number-clause-values
returns-in_ok-units-in-Number-Number-clause-values c =
    let scale_is : c.in_ok-scale-in-Number-Number.scale ≡ c.in-Number-Number.left + c.in-Number-Number.right = search rules in
    times-seen c.args.one.now.unit c.args.other.now.unit c.in-Number-Number.left c.in-Number-Number.right c.in_ok-scale-in-Number-Number.scale c.args.one.now.units c.as_slice.result.now
    c.args.other.now.units c.as_slice-in-Number-Number.result.now c.in_ok-units-in-Number-Number.units c.in-Number-Number.is-0 c.in-Number-Number.is-1 scale_is
    c.as_slice.ensures.units c.as_slice-in-Number-Number.ensures.units c.in_ok-units-in-Number-Number.ensures.made
