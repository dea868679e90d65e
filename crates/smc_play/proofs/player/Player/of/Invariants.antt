use Rattle.std.specs.Prelude.{◌≡◌, replicate}
use Rattle.smc_play.specs.Texts.{empty_seat}
use Rattle.smc_play.proofs.player.Player.of.Given as goal

abbrev pub invariant-loop : goal.invariant-loop
invariant-loop l = l.seats.items ≡ replicate l.counter empty_seat
