-- The epochs that the answers of a pass name.
use Rattle.std.specs.Prelude.{ℕ, ◌<◌, ◌≤◌, max, Option, Some, None, List, [], ◌∷◌}
use Rattle.smc_core.specs.declared.done.Done.{Done}
use Rattle.smc_core.specs.declared.done.Done.TheVariants as done
use Rattle.smc_core.specs.declared.local.Answer.{Answer}
use Rattle.smc_core.specs.declared.local.Local.{Local}
use Rattle.smc_core.specs.declared.section.TheConstants.{LAST_EPOCH}
use Rattle.smc_region.specs.declared.advance.Advance.{Advance}
use Rattle.smc_region.specs.declared.advance.Advance.TheVariants.{Advanced, NotYet, Overtaken, Spent}

-- the epoch that an answer names, or 0
abbrev pub named : Done → ℕ
named (done.At epoch) = epoch
named (done.Advanced epoch) = epoch
named (done.Overtaken epoch) = epoch
named _ = 0

-- the latest epoch that the kept answers name
abbrev pub latest : List Answer → ℕ
latest [] = 0
latest (first ∷ later) = max (named first.done) (latest later)

-- the epoch that an answer names, if there is one
abbrev pub named_in : Option Done → ℕ
named_in None = 0
named_in (Some answer) = named answer

-- an epoch that an advance names is later than all that the pass was told before
abbrev pub Rises : Local → Advance → Type 0
Rises old (Advanced epoch) = latest old.answers < epoch
Rises old (Overtaken epoch) = latest old.answers < epoch
Rises old (NotYet pass seen) = Unit {0}
Rises old Spent = Unit {0}

-- no epoch that an advance names is past the last one
abbrev pub IsLow : Advance → Type 0
IsLow (Advanced epoch) = epoch ≤ LAST_EPOCH
IsLow (Overtaken epoch) = epoch ≤ LAST_EPOCH
IsLow (NotYet pass seen) = Unit {0}
IsLow Spent = Unit {0}
