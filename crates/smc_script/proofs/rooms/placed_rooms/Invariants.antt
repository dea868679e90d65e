use Rattle.std.specs.Prelude.{◌≡◌, map, take}
use Rattle.smc_script.specs.States.{placed}
use Rattle.smc_script.proofs.rooms.placed_rooms.Given as goal

abbrev pub invariant-loop-asked : goal.invariant-loop-asked
invariant-loop-asked l = l.all.items ≡ map (placed l.rooms) (take l.asked-index l.rooms)
