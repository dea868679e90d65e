use Rattle.std.proofs.Common.{◌≡◌, take}
use Rattle.smc_runner.specs.Runs.{colls_asked}
use Rattle.smc_runner.proofs.opened.shape_of.Given as goal

-- the rooms before this one have their collections
abbrev pub invariant-loop-room : goal.invariant-loop-room
invariant-loop-room l = l.colls.items ≡ colls_asked (take l.room-index l.rooms)
