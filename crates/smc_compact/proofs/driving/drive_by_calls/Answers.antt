use Rattle.std.proofs.Common.{[], refl, subst, arith}
use Rattle.smc_region.specs.declared.advance.Advance.TheVariants as advance
use Rattle.smc_compact.specs.declared.begun.Begun.TheVariants as begun
use Rattle.smc_compact.specs.declared.outcome.Outcome.TheVariants as outcome
use Rattle.smc_compact.specs.declared.outcome.Waited.TheVariants as waited
use Rattle.smc_trace.specs.Named.{rounds}
use Rattle.smc_compact.specs.Calls.{begun_done}
use Rattle.smc_compact.specs.Drives.{in_section}
use Rattle.smc_compact.specs.Parts.{HasOpened}
use Rattle.smc_compact.proofs.DriveLaws.{cause-before, drives-on, drives-out, drives-round, wait-by}
use Rattle.smc_trace.proofs.TraceSteps.{tells-nothing}
use Rattle.smc_compact.proofs.driving.drive_by_calls.Goals as goal

pub returns-in-Later-clause-driven : goal.returns-in-Later-clause-driven
returns-in-Later-clause-driven c =
    drives-out c.args.c c.args.turns c.args.p c.wait.new.p (waited.Later c.in-Later.pass c.in-Later.seen)
    (outcome.Later c.in-Later.pass c.in-Later.seen) c.in-Later.ensures.waited (refl, refl)
    (λ waits cause. wait-by c.args.p c.wait.new.p waits (advance.NotYet c.in-Later.pass c.in-Later.seen) cause)

pub returns-in-Spent-clause-driven : goal.returns-in-Spent-clause-driven
returns-in-Spent-clause-driven c =
    drives-out c.args.c c.args.turns c.args.p c.wait.new.p waited.Spent outcome.Spent c.in-Spent.ensures.waited (refl, refl)
    (λ waits cause. wait-by c.args.p c.wait.new.p waits advance.Spent cause)

pub returns-in-Round-clause-driven : goal.returns-in-Round-clause-driven
returns-in-Round-clause-driven c =
    let next = c.open-p.result.0 in
    let opened = subst (HasOpened c.args.c c.wait.new.p next) c.in-Round.is c.open-p.ensures.opened in
    drives-round c.args.c c.args.turns c.in-Named.left c.args.p c.wait.new.p next c.close.result.0 c.in-Round.round c.close.result.1
    c.in-Named.ensures.waited opened c.close.ensures.closed c.open-p.ensures.same

pub returns-in-Nothing-clause-driven : goal.returns-in-Nothing-clause-driven
returns-in-Nothing-clause-driven c =
    let next = c.open-p.result.0 in
    let opened = subst (HasOpened c.args.c c.wait.new.p next) c.in-Nothing.is c.open-p.ensures.opened in
    drives-on c.args.c c.args.turns c.in-Named.left c.args.p c.wait.new.p next next begun.Nothing outcome.Nothing []
    c.in-Named.ensures.waited opened (tells-nothing next.local) (omega arith) (refl, refl, refl) tt

pub returns-in-Busy-clause-driven : goal.returns-in-Busy-clause-driven
returns-in-Busy-clause-driven c =
    let next = c.open-p.result.0 in
    let opened = subst (HasOpened c.args.c c.wait.new.p next) c.in-Busy.is c.open-p.ensures.opened in
    drives-on c.args.c c.args.turns c.in-Named.left c.args.p c.wait.new.p next next (begun.Busy c.in-Busy.seen) (outcome.Busy c.in-Busy.seen) []
    c.in-Named.ensures.waited opened (tells-nothing next.local) (omega arith) (refl, refl)
    (cause-before c.wait.new.p (in_section opened.epoch (rounds (begun_done c.args.c (begun.Busy c.in-Busy.seen)))) [] (outcome.Busy c.in-Busy.seen) opened.cause)
