-- What packing a collection does.
use Rattle.std.specs.Prelude.{◌≡◌, ℕ, List, ◌++◌}
use Rattle.smc_trace.specs.Named.{surveys}
use Rattle.smc_trace.specs.Trace.{CallEnd}
use Rattle.smc_compact.specs.declared.counting.Census.{Census}
use Rattle.smc_compact.specs.declared.packing.Packed.{Packed}
use Rattle.smc_compact.specs.Drives.{Drives, in_section}

-- packing the collection with so many turns is a drive, and then a survey in a section of its own, which counted so
pub record Packs (coll turns : ℕ) (packed : Packed) (calls : List CallEnd) : Type 0 where
  pub driven : List CallEnd
  pub epoch : ℕ
  pub drives : Drives coll turns packed.outcome driven
  pub made : calls ≡ driven ++ in_section epoch (surveys coll packed.census.objects packed.census.blocks)

-- these calls are a survey in a section of its own, which counted so
pub record HasSurveyed (coll : ℕ) (census : Census) (calls : List CallEnd) : Type 0 where
  pub epoch : ℕ
  pub made : calls ≡ in_section epoch (surveys coll census.objects census.blocks)
