use Rattle.std.proofs.Common.{sym, ◌∙◌}
use Rattle.smc_play.specs.Plays.{playing, GoesOn, HasEnded, StopsNow, StopsLater}
use Rattle.smc_play.proofs.RunLaws.{turn-falls}
use Rattle.smc_play.proofs.player.Player.run_on.Goals as goal

pub loop-self-smaller : goal.loop-self-smaller
loop-self-smaller c = turn-falls (playing c.loop-self.self) (playing c.take.new.self) c.args.pass c.loop-self.self.valid c.in-Ok.ensures.done

pub loop-self-preserved : goal.loop-self-preserved
loop-self-preserved c = record {
  onward = λ q later. c.loop-self.invariant.onward q
      (GoesOn (playing c.loop-self.self) (playing c.take.new.self) q c.args.pass (sym c.goes_on.ensures ∙ c.loop-self-test.true) c.in-Ok.ensures.done later);
  stops = λ later. c.loop-self.invariant.stops
      (StopsLater (playing c.loop-self.self) (playing c.take.new.self) c.args.pass (sym c.goes_on.ensures ∙ c.loop-self-test.true) c.in-Ok.ensures.done later);
}

pub returns-in-Err-clause-refused : goal.returns-in-Err-clause-refused
returns-in-Err-clause-refused c is = c.loop-self.invariant.stops
    (StopsNow (playing c.loop-self.self) c.args.pass (sym c.goes_on.ensures ∙ c.loop-self-test.true) (c.in-Err.ensures.refused is))

pub returns-clause-done : goal.returns-clause-done
returns-clause-done c = c.loop-self.invariant.onward (playing c.loop-self.self)
    (HasEnded (playing c.loop-self.self) c.args.pass (sym c.goes_on.ensures ∙ c.loop-self-test.false))
