use Rattle.std.specs.Prelude.{◌≡◌, map, take}
use Rattle.smc_script.specs.States.{coll_asked}
use Rattle.smc_script.proofs.rooms.colls_of.Given as goal

abbrev pub invariant-loop-room : goal.invariant-loop-room
invariant-loop-room l = l.colls.items ≡ map (coll_asked l.catalog) (take l.room-index l.rooms)
