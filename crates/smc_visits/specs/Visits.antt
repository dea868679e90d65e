-- Scans that read the row of each object that they come to.
use Rattle.std.specs.Prelude.{◌≡◌, ℕ, Option, Some, None, List, ◌++◌, option_to_list, flat_map}
use Rattle.std.specs.List.{AllByRecursion}
use Rattle.smc_shape.specs.Layout.{Layout}
use Rattle.smc_core.specs.declared.local.Held.{Held}
use Rattle.smc_plan.specs.declared.leaf.Leaf.{Leaf}
use Rattle.smc_trace.specs.Named.{begins, comes_to}
use Rattle.smc_trace.specs.Trace.{CallEnd}
use Rattle.smc_visits.specs.Rows.{RowOfVisit}

-- a collection is scanned to its end: each of these visits is as it should be, and is made by these calls
pub record Scans (Visit : Type 0) (calls_of : ℕ → Visit → List CallEnd) (Is : Visit → Type 0) (coll : ℕ) (visits : List Visit) (calls : List CallEnd) : Type 0 where
  pub scan : ℕ
  pub each : AllByRecursion Is visits
  pub made : calls ≡ begins scan coll ++ (flat_map (calls_of scan) visits ++ comes_to scan None)

-- an object that a scan came to, its row where it is whole, and the calls that read it
pub record Visited : Type 0 where
  pub held : Held
  pub row : Option (List ℕ)
  pub calls : List CallEnd

-- the row was read by these calls
abbrev pub IsVisit : Layout → List Leaf → Visited → Type 0
IsVisit shape leaves visit = RowOfVisit shape visit.held.number leaves visit.row visit.calls

-- the calls of a visit: the scan comes to the object, and its row is read
abbrev pub visit_calls : ℕ → Visited → List CallEnd
visit_calls scan visit = comes_to scan (Some visit.held) ++ visit.calls

-- the rows that are whole, in the order of the visits
abbrev pub rows_in : List Visited → List (List ℕ)
rows_in visits = flat_map (λ visit. option_to_list visit.row) visits

-- the row of each object is read that a scan comes to, and the whole ones are taken behind those that were taken before
pub record TakesRows (shape : Layout) (coll : ℕ) (leaves : List Leaf) (Had Has : List (List ℕ) → Type 0) (calls : List CallEnd) : Type 0 where
  pub visits : List Visited
  pub scans : Scans Visited visit_calls (IsVisit shape leaves) coll visits calls
  pub taken : (before : List (List ℕ)) → Had before → Has (before ++ rows_in visits)
