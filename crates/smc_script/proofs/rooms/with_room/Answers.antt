use Rattle.std.proofs.Common.{arith, rules}
use Rattle.std.proofs.lemmas.List.Sums.{prefix_len-le-length}
use Rattle.smc_script.proofs.rooms.with_room.Goals as goal

pub insert-requires : goal.insert-requires
insert-requires c = first_of (search (rules, prefix_len-le-length), grind (arith, prefix_len-le-length))
