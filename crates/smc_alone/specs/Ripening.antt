-- Calls behind which what was free before can be used again.
use Rattle.std.specs.Prelude.{ℕ, ◌+◌, ◌≤◌, List, [], ◌∷◌}
use Rattle.std.specs.List.{AllByRecursion}
use Rattle.smc_core.specs.declared.done.Done.{Done}
use Rattle.smc_core.specs.declared.done.Done.TheVariants as done
use Rattle.smc_trace.specs.Trace.{CallEnd}

-- a call that leaves no slot and no entry for later use: no remove, and nothing of a round
abbrev pub LeavesNone : Done → Type 0
LeavesNone done.First = ⊥
LeavesNone done.Late = ⊥
LeavesNone (done.Round coll bound moves) = ⊥
LeavesNone (done.Nothing coll) = ⊥
LeavesNone (done.Busy bound pass other) = ⊥
LeavesNone (done.Finished moved abandoned gone) = ⊥
LeavesNone (done.Early epoch bound) = ⊥
LeavesNone done.Cancelled = ⊥
LeavesNone _ = Unit {0}

-- whether it is an advance behind which the epoch is a later one than before it
abbrev pub turn_by : Done → ℕ
turn_by (done.Advanced epoch) = 1
turn_by (done.Overtaken epoch) = 1
turn_by _ = 0

-- how many of these calls are
abbrev pub turns_in : List CallEnd → ℕ
turns_in [] = 0
turns_in (end ∷ later) = turn_by end.done + turns_in later

-- none of the calls leaves a slot or an entry, and three times the epoch has gone on: all that was free before has become ripe
pub record LetsRipen (calls : List CallEnd) : Type 0 where
  pub tame : AllByRecursion (λ end. LeavesNone end.done) calls
  pub turns : 3 ≤ turns_in calls
