use Rattle.smc_core.specs.declared.done.Done.TheVariants as done
use Rattle.smc_core.specs.Section.{epoch_of, is_calm}
use Rattle.smc_compact.proofs.DriveLaws.{has-ended, section-keeps}
use Rattle.smc_compact.proofs.driving.finish_round.Goals as goal

pub returns-clause-ended : goal.returns-clause-ended
returns-clause-ended c =
    let section = c.enter-section.result.local.stand.section in
    has-ended c.args.p c.enter-section.result c.finish.new.s c.leave.result (epoch_of section) (is_calm section)
    (done.Finished c.in-Done.moved c.in-Done.abandoned c.in-Done.gone) c.enter-section.ensures.entered c.in-Done.ensures.done c.in-Done.ensures.ends.1 c.leave.ensures.left

pub returns-clause-keeps : goal.returns-clause-keeps
returns-clause-keeps c =
    let section = c.enter-section.result.local.stand.section in
    section-keeps c.args.p.local c.enter-section.result.local c.finish.new.s.local c.leave.result.local (epoch_of section) (is_calm section)
    c.enter-section.ensures.entered c.in-Done.ensures.keeps c.leave.ensures.left
