-- The passes of a region before anything was done with them.
use Rattle.std.specs.Prelude.{◌≡◌, ℕ, ◌<◌, List, Some, length, slice_get}
use Rattle.smc_region.specs.Callers.{Caller, new_caller}
use Rattle.smc_region.specs.declared.region.Region.{Region}

-- they are the first passes of the region, in order, and have done nothing
abbrev pub AreNew : Region → List Caller → Type 0
AreNew region passes = (k : ℕ) → k < length passes → slice_get passes k ≡ Some (new_caller region.table.shared.table_id region.about.shape k)
