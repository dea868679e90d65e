use Rattle.std.proofs.Common.{refl}
use Rattle.smc_objects.specs.Alone.{TriesAdd}
use Rattle.smc_objects.specs.Fulls.{adds}
use Rattle.smc_objects.proofs.AloneLaws.{in-section}
use Rattle.smc_objects.proofs.alone.try_one.Goals as goal

pub returns-clause-done : goal.returns-clause-done
returns-clause-done c =
    let done = c.add-answer.ensures.done in
    in-section c.args.pass c.enter-section.result c.add-answer.new.s c.leave.result (TriesAdd c.args.c c.args.words.now c.add-answer.result) (adds c.args.c c.args.words.now c.add-answer.result done.0)
    c.enter-section.ensures.same c.enter-section.ensures.entered done.1 (done.0, refl) c.leave.ensures.same c.leave.ensures.left

pub returns-clause-home : goal.returns-clause-home
returns-clause-home c = (returns-clause-done c).1.same
