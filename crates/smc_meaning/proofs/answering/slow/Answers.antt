use Rattle.std.proofs.Common.{◌≡◌, length, ap, arith}
use Rattle.smc_plan.specs.Planned.{plan_tree}
use Rattle.smc_meaning.specs.Kept.{is_kept, kept_rows}
use Rattle.smc_meaning.specs.Rows.{RowList}
use Rattle.smc_meaning.proofs.AnswerLaws.{length-filter-le}
use Rattle.smc_meaning.proofs.answering.slow.Goals as goal

pub all_rows-requires-clause-count : goal.all_rows-requires-clause-count
all_rows-requires-clause-count g c =
    let same : length c.in_ok-kept.kept.rows ≡ length (kept_rows (plan_tree c.args.plan.now) c.args.rows.now.rows) = ap (λ (all : RowList). length all.rows) c.in_ok-kept.ensures in
    omega (arith, same, length-filter-le (is_kept (plan_tree c.args.plan.now)) c.args.rows.now.rows, c.requires.count)
