use Rattle.smc_inv_bound.specs.Left.{left_of, widest}
use Rattle.smc_play.specs.Plays.{playing, RunsOn, StopsOn}
use Rattle.smc_play.specs.Turns.{Playing}
use Rattle.smc_play.proofs.player.Player.run_on.Given as goal

-- wherever the pass runs on to from here, it runs on to from the beginning, and where it stops from here, it stops
abbrev pub invariant-loop-self : goal.invariant-loop-self
invariant-loop-self l = record {
  onward : (q : Playing) → RunsOn (playing l.self) l.pass q → RunsOn (playing l.fn.self) l.pass q;
  stops : StopsOn (playing l.self) l.pass → StopsOn (playing l.fn.self) l.pass;
}

abbrev pub decreases-loop-self : goal.decreases-loop-self
decreases-loop-self l = left_of l.self.machine.shape widest l.self.machine.machine l.pass
