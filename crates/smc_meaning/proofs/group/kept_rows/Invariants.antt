use Rattle.std.proofs.Common.{◌≡◌, take}
use Rattle.smc_plan.specs.Planned.{plan_tree}
use Rattle.smc_meaning.specs.Kept.{kept_rows}
use Rattle.smc_meaning.proofs.group.kept_rows.Given as goal

-- those of the rows so far
abbrev pub invariant-loop-place : goal.invariant-loop-place
invariant-loop-place l = l.all ≡ record l.rows { rows = kept_rows (plan_tree l.plan) (take l.place l.rows.rows) }
