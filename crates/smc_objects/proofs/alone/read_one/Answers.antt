use Rattle.smc_objects.specs.Alone.{ReadsObject}
use Rattle.smc_objects.proofs.AloneLaws.{in-section}
use Rattle.smc_objects.proofs.alone.read_one.Goals as goal

pub returns-clause-done : goal.returns-clause-done
returns-clause-done c =
    let does = c.read_found-found.ensures.done in
    in-section c.args.pass c.enter-section.result c.read_found-found.new.s c.leave.result (ReadsObject c.args.number c.read_found-found.result c.read_found-found.new.words) does.0
    c.enter-section.ensures.same c.enter-section.ensures.entered does.1 does.2 c.leave.ensures.same c.leave.ensures.left

pub returns-clause-home : goal.returns-clause-home
returns-clause-home c = (returns-clause-done c).1.same
