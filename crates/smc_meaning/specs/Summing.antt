-- Numbers of which sums are taken.
use Rattle.std.specs.Prelude.{◌≡◌, ◌<◌, List, Ok}
use Rattle.smc_plan.specs.Kinds.{kind_in}
use Rattle.smc_plan.specs.Typed.{TypedTree}
use Rattle.smc_plan.specs.declared.kind.Extent.{Extent}
use Rattle.smc_plan.specs.declared.kind.Kind.TheVariants.{Number}
use Rattle.smc_plan.specs.declared.kind.TheConstants.{SUM_LIMIT}
use Rattle.smc_plan.specs.declared.leaf.Leaf.{Leaf}

-- a number of not too many units for a sum
pub record IsSummable (leaves : List Leaf) (typed : TypedTree) : Type 0 where
  pub extent : Extent
  pub kind_is : kind_in leaves typed ≡ Ok (Number extent)
  pub small : extent.bound < SUM_LIMIT
