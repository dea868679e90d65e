use Rattle.smc_objects.specs.Alone.{CountsObjects}
use Rattle.smc_objects.proofs.AloneLaws.{in-section}
use Rattle.smc_objects.proofs.alone.count_objects.Goals as goal

pub returns-clause-done : goal.returns-clause-done
returns-clause-done c =
    let does = c.count-objects.ensures.done in
    in-section c.args.pass c.enter-section.result c.count-objects.new.s c.leave.result (CountsObjects c.args.c c.count-objects.result) does.0
    c.enter-section.ensures.same c.enter-section.ensures.entered does.1 does.2 c.leave.ensures.same c.leave.ensures.left

pub returns-clause-home : goal.returns-clause-home
returns-clause-home c = (returns-clause-done c).1.same
