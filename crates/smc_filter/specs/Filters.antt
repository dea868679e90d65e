-- What a plan keeps, made ready.
use Rattle.std.specs.Prelude.{◌≡◌, ℕ, Bool, true, List, length, Option, None, Some, IfSome}
use Rattle.smc_plan.specs.Leaves.{leaves_words}
use Rattle.smc_plan.specs.Planned.{filter_condition}
use Rattle.smc_plan.specs.declared.condition.TypedCond.{TypedCond}
use Rattle.smc_plan.specs.declared.leaf.Leaf.{Leaf}
use Rattle.smc_meaning.specs.Kept.{meets_filter}
use Rattle.smc_filter.specs.Tests.{FitsTest, passes}
use Rattle.smc_filter.specs.declared.test.Test.{Test}

-- the condition of a plan, which may be absent, over the plan's leaves
pub record Filtered : Type 0 where
  pub leaves : List Leaf
  pub condition : Option TypedCond

-- whether a row passes a test that may be absent
abbrev pub passes_filter : List Leaf → Option Test → List ℕ → Bool
passes_filter leaves None words = true
passes_filter leaves (Some test) words = passes leaves test words

-- the test can be made of rows of these leaves, of which those pass it that meet the condition
pub record IsReady (leaves : List Leaf) (condition : Option TypedCond) (test : Option Test) : Type 0 where
  pub fits : IfSome test (FitsTest leaves)
  pub same : (words : List ℕ) → length words ≡ leaves_words leaves
      → passes_filter leaves test words ≡ meets_filter leaves (filter_condition condition) words

-- whether a row is kept
abbrev pub keeps : Filtered → List ℕ → Bool
keeps filtered words = meets_filter filtered.leaves (filter_condition filtered.condition) words
