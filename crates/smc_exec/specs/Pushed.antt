-- Rows that go into a kernel, a batch at a time.
use Rattle.std.specs.Prelude.{◌≡◌, ℕ, List, [], ◌++◌}
use Rattle.smc_plan.specs.Kinds.{IsPlan}
use Rattle.smc_plan.specs.Leaves.{leaves_words}
use Rattle.smc_plan.specs.Planned.{plan_tree}
use Rattle.smc_plan.specs.declared.plan.Plan.{Plan}
use Rattle.smc_meaning.specs.Rows.{RowList}
use Rattle.smc_kernel.specs.Plain.{IsPlain}
use Rattle.smc_kernel.specs.Taken.{HasTaken, IsReady}
use Rattle.smc_kernel.specs.declared.kernel.Kernel.{Kernel}

-- what is seen of them: the plan, its kernel, and the last rows, which are not in the kernel yet
pub record Pushed : Type 0 where
  pub plan : Plan
  pub kernel : Kernel
  pub batch : RowList

-- a plan without groups and folds, a kernel that was made for it, and a batch of such rows
pub record CanPush (plan : Plan) (kernel : Kernel) (batch : RowList) : Type 0 where
  pub sound : IsPlan plan.leaves (plan_tree plan)
  pub plain : IsPlain (plan_tree plan)
  pub one : plan.by ≡ []
  pub ready : IsReady (plan_tree plan) kernel
  pub words : batch.width ≡ leaves_words plan.leaves

-- these rows were taken: the first of them are in the kernel, and the last in the batch
pub record HasPushed (pushed : Pushed) (rows : List (List ℕ)) : Type 0 where
  pub before : List (List ℕ)
  pub taken : HasTaken (plan_tree pushed.plan) before pushed.kernel
  pub rows_are : rows ≡ before ++ pushed.batch.rows
