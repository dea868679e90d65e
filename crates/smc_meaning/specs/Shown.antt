-- What a column can show.
use Rattle.std.specs.Prelude.{◌≡◌, true, ◌||◌, List, Ok}
use Rattle.smc_plan.specs.Bounds.{is_number}
use Rattle.smc_plan.specs.Kinds.{kind_in}
use Rattle.smc_plan.specs.Typed.{TypedTree, is_leaf}
use Rattle.smc_plan.specs.declared.kind.Kind.{Kind}
use Rattle.smc_plan.specs.declared.leaf.Leaf.{Leaf}

-- the expression is a number or a path
pub record IsShowable (leaves : List Leaf) (of : TypedTree) : Type 0 where
  pub kind : Kind
  pub kind_is : kind_in leaves of ≡ Ok kind
  pub fits : (is_number kind || is_leaf of) ≡ true
