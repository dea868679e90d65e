-- Plans without folds.
use Rattle.std.specs.Prelude.{◌≡◌, Bool, true, false, List}
use Rattle.std.specs.List.{AllByRecursion}
use Rattle.smc_plan.specs.Outputs.{OutputTree, count, aggregate, fold}
use Rattle.smc_plan.specs.Planned.{Planned}

-- whether an output column is no fold
abbrev pub is_plain : OutputTree → Bool
is_plain count = true
is_plain (aggregate call of) = true
is_plain (fold name of) = false

-- no output column is a fold
abbrev pub ArePlain : List OutputTree → Type 0
ArePlain items = AllByRecursion (λ item. is_plain item ≡ true) items

-- a plan has no fold
abbrev pub IsPlain : Planned → Type 0
IsPlain plan = ArePlain plan.items
