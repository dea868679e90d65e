use Rattle.std.proofs.Common.{◌≡◌, List, [], ◌++◌, length}
use Rattle.smc_region.specs.Callers.{Caller}
use Rattle.smc_region.specs.Ends.{locals_of}
use Rattle.smc_region.specs.Views.{holding}
use Rattle.smc_region.proofs.region.Region.close.Given as goal

-- the seat has all passes that are no longer in the list
abbrev pub invariant-loop-pass : goal.invariant-loop-pass
invariant-loop-pass l = (rest : List Caller)
    × (l.fn.passes.items ≡ l.passes.items ++ rest)
    × (l.seat.me ≡ (holding l.about.shape (length l.passes.items) (locals_of rest), []))
    × (l.seat.table_id ≡ l.table.shared.table_id)

abbrev pub decreases-loop-pass : goal.decreases-loop-pass
decreases-loop-pass l = goal.left-loop-pass l
