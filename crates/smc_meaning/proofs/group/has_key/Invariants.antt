use Rattle.std.proofs.Common.{◌≡◌, false, take}
use Rattle.std.specs.List.{list_any}
use Rattle.smc_plan.specs.Planned.{plan_tree}
use Rattle.smc_meaning.specs.Groups.{same_key}
use Rattle.smc_meaning.proofs.group.has_key.Given as goal

-- none of the rows so far
abbrev pub invariant-loop-place : goal.invariant-loop-place
invariant-loop-place l = list_any (λ other. same_key (plan_tree l.plan) other l.row) (take l.place l.rows.rows) ≡ false
