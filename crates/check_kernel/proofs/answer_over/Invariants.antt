use Rattle.std.proofs.Common.{◌≡◌}
use Rattle.smc_plan.specs.Leaves.{leaves_words}
use Rattle.smc_plan.specs.Planned.{plan_tree}
use Rattle.smc_kernel.specs.Taken.{IsReady}
use Rattle.check_kernel.proofs.answer_over.Given as goal

abbrev pub invariant-loop-place : goal.invariant-loop-place
invariant-loop-place l = record {
  words : l.batch.width ≡ leaves_words l.plan.leaves;
  ready : IsReady (plan_tree l.plan) l.kernel;
}
