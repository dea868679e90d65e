use Rattle.std.proofs.Common.{◌∙◌, subst}
use Rattle.smc_shape.specs.Layout.{Layout}
use Rattle.smc_machine.specs.Plays.{PlaysOne}
use Rattle.smc_machine.proofs.PlayLaws.{Plays-next, StopsAt-next}
use Rattle.smc_machine.proofs.schedule.play.Goals as goal

pub returns-in-Err-clause-refused : goal.returns-in-Err-clause-refused
returns-in-Err-clause-refused c =
    StopsAt-next c.args.machine.now c.loop-at.machine c.play_step.new.machine c.args.schedule.now c.loop-at.at c.index-schedule-at.result c.loop-at.events.items
    c.in-Err.fault c.loop-at-test.true c.index-schedule-at.is c.loop-at.invariant.played c.in-Err.ensures.kept c.in-Err.ensures.cause

pub loop-at-preserved : goal.loop-at-preserved
loop-at-preserved c = record {
  shape = c.play_step.ensures.shape ∙ c.loop-at.invariant.shape;
  played = Plays-next c.args.machine.now.shape c.args.machine.now.machine c.loop-at.machine.machine c.play_step.new.machine.machine c.args.schedule.now c.loop-at.at
      c.index-schedule-at.result c.loop-at.events.items c.play_step.new.events.items c.loop-at-test.true c.index-schedule-at.is c.loop-at.invariant.played
      (subst (λ (shape : Layout). PlaysOne shape c.loop-at.machine.machine c.index-schedule-at.result.0 c.index-schedule-at.result.1 c.loop-at.events.items
      c.play_step.new.events.items c.play_step.new.machine.machine) c.loop-at.invariant.shape c.in_default.ensures.done);
}
