-- The leaves of paths read within their records.
use Rattle.std.specs.Prelude.{◌≡◌, ℕ, List, Ok}
use Rattle.std.specs.List.{AllByRecursion}
use Rattle.smc_query.specs.Trees.{PathTree}
use Rattle.smc_types.specs.declared.catalog.Catalog.{Catalog}
use Rattle.smc_plan.specs.declared.leaf.Leaf.{Leaf}
use Rattle.smc_plan.specs.Leaves.{leaf_of}
use Rattle.smc_plan.specs.Planning.{placed}
use Rattle.smc_visits.specs.Rows.{FitsRecord}

-- what a path comes to reads within its records
abbrev pub PathsFit : Type 0
PathsFit = (catalog : Catalog) (table : ℕ) (path : PathTree) (leaf : Leaf) → leaf_of catalog table path ≡ Ok leaf → FitsRecord leaf

-- with one such leaf more, all leaves do
abbrev pub PlacedFit : Type 0
PlacedFit = (leaves : List Leaf) (leaf : Leaf) → AllByRecursion FitsRecord leaves → FitsRecord leaf → AllByRecursion FitsRecord (placed leaves leaf).leaves
