use Rattle.smc_core.specs.Section.{epoch_of}
use Rattle.smc_compact.specs.Calls.{finished_done}
use Rattle.smc_compact.proofs.RoundLaws.{finish-ends, finish-is, finished_round, keeps-by, scans-by, stays-by, tells-by}
use Rattle.smc_compact.proofs.ending.finish.Goals as goal

pub returns-clause-done : goal.returns-clause-done
returns-clause-done c =
    let old = c.args.s.now in
    let new = c.finish_by_steps.new.s in
    let epoch = epoch_of old.local.stand.section in
    let answer = c.finish_by_steps.result in
    tells-by old new (finished_round old.local.stand.round answer) (finished_done epoch answer) (finish-is epoch c.args.r old new answer c.finish_by_steps.ensures.ends)

pub returns-clause-ends : goal.returns-clause-ends
returns-clause-ends c =
    finish-ends (epoch_of c.args.s.now.local.stand.section) c.args.r c.args.s.now c.finish_by_steps.new.s c.finish_by_steps.result
    c.finish_by_steps.ensures.same c.requires.round c.finish_by_steps.ensures.ends

pub returns-clause-stays : goal.returns-clause-stays
returns-clause-stays c =
    let old = c.args.s.now in
    let new = c.finish_by_steps.new.s in
    let epoch = epoch_of old.local.stand.section in
    let answer = c.finish_by_steps.result in
    stays-by old new (finished_round old.local.stand.round answer) (finished_done epoch answer) (finish-is epoch c.args.r old new answer c.finish_by_steps.ensures.ends)

pub returns-clause-scans : goal.returns-clause-scans
returns-clause-scans c =
    let old = c.args.s.now in
    let new = c.finish_by_steps.new.s in
    let epoch = epoch_of old.local.stand.section in
    let answer = c.finish_by_steps.result in
    scans-by old new (finished_round old.local.stand.round answer) (finished_done epoch answer) (finish-is epoch c.args.r old new answer c.finish_by_steps.ensures.ends)

pub returns-clause-keeps : goal.returns-clause-keeps
returns-clause-keeps c =
    let old = c.args.s.now in
    let new = c.finish_by_steps.new.s in
    let epoch = epoch_of old.local.stand.section in
    let answer = c.finish_by_steps.result in
    keeps-by old new (finished_round old.local.stand.round answer) (finished_done epoch answer) (finish-is epoch c.args.r old new answer c.finish_by_steps.ensures.ends)
