use Rattle.smc_core.specs.Section.{epoch_of, is_calm}
use Rattle.smc_compact.proofs.DriveLaws.{has-opened, section-keeps}
use Rattle.smc_compact.proofs.driving.open.Goals as goal

pub returns-clause-opened : goal.returns-clause-opened
returns-clause-opened c =
    let section = c.enter-section.result.local.stand.section in
    has-opened c.args.c c.args.p c.enter-section.result c.begin-begun.new.s c.leave.result (epoch_of section) (is_calm section) c.begin-begun.result
    c.enter-section.ensures.same c.leave.ensures.same c.enter-section.ensures.entered c.begin-begun.ensures.done c.begin-begun.ensures.owns
    c.begin-begun.ensures.bound c.begin-begun.ensures.busy c.leave.ensures.left

pub returns-clause-keeps : goal.returns-clause-keeps
returns-clause-keeps c =
    let section = c.enter-section.result.local.stand.section in
    section-keeps c.args.p.local c.enter-section.result.local c.begin-begun.new.s.local c.leave.result.local (epoch_of section) (is_calm section)
    c.enter-section.ensures.entered c.begin-begun.ensures.keeps c.leave.ensures.left
