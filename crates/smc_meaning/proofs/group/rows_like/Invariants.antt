use Rattle.std.proofs.Common.{◌≡◌, take}
use Rattle.smc_plan.specs.Planned.{plan_tree}
use Rattle.smc_meaning.specs.Groups.{rows_like}
use Rattle.smc_meaning.proofs.group.rows_like.Given as goal

-- those of the rows so far
abbrev pub invariant-loop-place : goal.invariant-loop-place
invariant-loop-place l = l.group ≡ record l.rows { rows = rows_like (plan_tree l.plan) l.first (take l.place l.rows.rows) }
