use Rattle.std.proofs.Common.{◌≡◌, [], take}
use Rattle.smc_plan.specs.Planned.{plan_tree}
use Rattle.smc_meaning.specs.Groups.{first_rows}
use Rattle.smc_meaning.proofs.group.first_rows.Given as goal

-- those of the rows so far
abbrev pub invariant-loop-place : goal.invariant-loop-place
invariant-loop-place l = l.firsts ≡ record l.rows { rows = first_rows (plan_tree l.plan) [] (take l.place l.rows.rows) }
