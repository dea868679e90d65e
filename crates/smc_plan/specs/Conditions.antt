-- Conditions of a plan as trees alone, without where in memory their parts stand.
use Rattle.smc_query.specs.declared.cond.Op.{Op}
use Rattle.smc_plan.specs.Typed.{TypedTree, typed_tree}
use Rattle.smc_plan.specs.declared.condition.TypedCond.{TypedCond}
use Rattle.smc_plan.specs.declared.condition.TypedCond.TheVariants.{Or', And', Not', Compare, Between}

-- a condition on the leaves of a row
pub data ConditionTree : Type 0 where
  either both : ConditionTree → ConditionTree → ConditionTree
  negation : ConditionTree → ConditionTree
  comparison : Op → TypedTree → TypedTree → ConditionTree
  within : (value low high : TypedTree) → ConditionTree

-- the tree of a condition
abbrev pub condition_tree : TypedCond → ConditionTree
condition_tree (Or' p left q right) = either (condition_tree left) (condition_tree right)
condition_tree (And' p left q right) = both (condition_tree left) (condition_tree right)
condition_tree (Not' p of) = negation (condition_tree of)
condition_tree (Compare op left right) = comparison op (typed_tree left) (typed_tree right)
condition_tree (Between value low high) = within (typed_tree value) (typed_tree low) (typed_tree high)
