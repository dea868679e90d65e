use Rattle.smc_objects.specs.Alone.{RemovesObject}
use Rattle.smc_objects.proofs.AloneLaws.{in-section}
use Rattle.smc_objects.proofs.alone.remove_one.Goals as goal

pub returns-clause-done : goal.returns-clause-done
returns-clause-done c =
    let does = c.remove_found-gone.ensures.done in
    in-section c.args.pass c.enter-section.result c.remove_found-gone.new.s c.leave.result (RemovesObject c.args.number c.remove_found-gone.result) does.0
    c.enter-section.ensures.same c.enter-section.ensures.entered does.1 does.2 c.leave.ensures.same c.leave.ensures.left

pub returns-clause-home : goal.returns-clause-home
returns-clause-home c = (returns-clause-done c).1.same
