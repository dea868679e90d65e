-- What is known of rows that were taken.
use Rattle.std.specs.Prelude.{◌≡◌, ⊤, ℕ, ◌+◌, ◌-◌, ◌*◌, ◌≤◌, ◌==◌, if◌then◌else◌, unsigned_abs, List, [], ◌∷◌, length, Option, None, Some}
use Rattle.std.specs.List.{AllByRecursion}
use Rattle.smc_query.specs.Trees.{Aggregate, total, average, least, greatest}
use Rattle.smc_plan.specs.Leaves.{leaves_words}
use Rattle.smc_plan.specs.Outputs.{OutputTree, count, aggregate, fold}
use Rattle.smc_plan.specs.Planned.{Planned}
use Rattle.smc_plan.specs.Typed.{TypedTree}
use Rattle.smc_plan.specs.declared.kind.TheConstants.{SUM_LIMIT}
use Rattle.smc_plan.specs.declared.leaf.Leaf.{Leaf}
use Rattle.smc_meaning.specs.Groups.{chosen_of, greater, lesser, sum_of, values_of}
use Rattle.smc_meaning.specs.Kept.{kept_rows}
use Rattle.smc_meaning.specs.Values.{Cell, value_of}
use Rattle.smc_meaning.specs.declared.rows.TheConstants.{ROWS_MAX}
use Rattle.smc_kernel.specs.declared.kernel.Kernel.{Kernel}
use Rattle.smc_kernel.specs.declared.total.Total.{Total}

-- ---- one output column

-- the value of an expression in a row that has the best, where there are rows
abbrev pub end_found : List Leaf → TypedTree → (kept : ℕ) → (best : List ℕ) → Option Cell
end_found leaves of kept best = if kept == 0 then None else Some (value_of leaves of best)

-- a total is that of an aggregate over these rows
abbrev pub IsTotalOf : List Leaf → Aggregate → TypedTree → Total → List (List ℕ) → Type 0
IsTotalOf leaves total of so_far rows = so_far.sum ≡ sum_of (values_of leaves of rows)
IsTotalOf leaves average of so_far rows = so_far.sum ≡ sum_of (values_of leaves of rows)
IsTotalOf leaves least of so_far rows = end_found leaves of (length rows) so_far.best.items ≡ chosen_of lesser (values_of leaves of rows)
IsTotalOf leaves greatest of so_far rows = end_found leaves of (length rows) so_far.best.items ≡ chosen_of greater (values_of leaves of rows)

-- a total is that of an output column over these rows; rows are counted beside it, and a fold has none
abbrev pub IsTotal : List Leaf → OutputTree → Total → List (List ℕ) → Type 0
IsTotal leaves count so_far rows = ⊤
IsTotal leaves (aggregate call of) so_far rows = IsTotalOf leaves call of.typed so_far rows
IsTotal leaves (fold name of) so_far rows = ⊥

-- a total of so many rows of so many words is not too large
pub record FitsTotal (words kept : ℕ) (so_far : Total) : Type 0 where
  pub small : unsigned_abs so_far.sum ≤ kept * (SUM_LIMIT - 1)
  pub wide : length so_far.best.items ≡ words

-- ---- all output columns

-- each total is that of its output column
abbrev pub AreTotals : List Leaf → List OutputTree → List Total → List (List ℕ) → Type 0
AreTotals leaves [] [] rows = ⊤
AreTotals leaves (item ∷ items) (so_far ∷ totals) rows = IsTotal leaves item so_far rows × AreTotals leaves items totals rows
AreTotals leaves items totals rows = ⊥

-- what a kernel knows is that of the rows which the plan keeps of these
pub record HasTaken (plan : Planned) (rows : List (List ℕ)) (kernel : Kernel) : Type 0 where
  pub kept : kernel.kept ≡ length (kept_rows plan rows)
  pub totals : AreTotals plan.leaves plan.items kernel.totals.items (kept_rows plan rows)

-- a kernel was made for this plan, and its totals are not too large
pub record IsReady (plan : Planned) (kernel : Kernel) : Type 0 where
  pub many : length kernel.totals.items ≡ length plan.items
  pub fit : AllByRecursion (FitsTotal (leaves_words plan.leaves) kernel.kept) kernel.totals.items
  pub few : kernel.kept ≤ ROWS_MAX
  pub row : length kernel.row.items ≡ leaves_words plan.leaves
