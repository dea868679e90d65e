use Rattle.std.proofs.Common.{rules, w32}
use Rattle.std.proofs.Math.Facts.{to_z-of_z}
use Rattle.smc_meaning.proofs.DateLaws.{day_text-says}
use Rattle.smc_meaning.proofs.cell.print_day.Goals as goal

pub returns : goal.returns
returns c =
    rw (← day_text-says c.in-Some.bytes c.args.day (rw (to_z-of_z {w = w32} {z = c.args.day} c.ranges.day) at c.in-Some.ensures.some))
    (search rules)
