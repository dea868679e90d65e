use Rattle.smc_core.specs.Section.{epoch_of}
use Rattle.smc_compact.specs.Calls.{begun_done}
use Rattle.smc_compact.proofs.RoundLaws.{begin-bound, begin-is, begin-owns, begun_round, keeps-by, scans-by, stays-by, tells-by}
use Rattle.smc_compact.proofs.rounds.begin.Goals as goal

pub returns-clause-done : goal.returns-clause-done
returns-clause-done c =
    let old = c.args.s.now in
    let new = c.begin_by_steps.new.s in
    let answer = c.begin_by_steps.result in
    tells-by old new (begun_round c.args.c old.local.stand.round answer) (begun_done c.args.c answer)
    (begin-is c.args.c (epoch_of old.local.stand.section) old new answer c.begin_by_steps.ensures.begun)

pub returns-clause-owns : goal.returns-clause-owns
returns-clause-owns c =
    begin-owns c.args.c (epoch_of c.args.s.now.local.stand.section) c.args.s.now c.begin_by_steps.new.s c.begin_by_steps.result
    c.requires.coll c.begin_by_steps.ensures.same c.begin_by_steps.ensures.begun

pub returns-clause-bound : goal.returns-clause-bound
returns-clause-bound c =
    begin-bound c.args.c (epoch_of c.args.s.now.local.stand.section) c.args.s.now.local c.begin_by_steps.new.s.local c.begin_by_steps.result c.begin_by_steps.ensures.begun

pub returns-clause-stays : goal.returns-clause-stays
returns-clause-stays c =
    let old = c.args.s.now in
    let new = c.begin_by_steps.new.s in
    let answer = c.begin_by_steps.result in
    stays-by old new (begun_round c.args.c old.local.stand.round answer) (begun_done c.args.c answer)
    (begin-is c.args.c (epoch_of old.local.stand.section) old new answer c.begin_by_steps.ensures.begun)

pub returns-clause-scans : goal.returns-clause-scans
returns-clause-scans c =
    let old = c.args.s.now in
    let new = c.begin_by_steps.new.s in
    let answer = c.begin_by_steps.result in
    scans-by old new (begun_round c.args.c old.local.stand.round answer) (begun_done c.args.c answer)
    (begin-is c.args.c (epoch_of old.local.stand.section) old new answer c.begin_by_steps.ensures.begun)

pub returns-clause-keeps : goal.returns-clause-keeps
returns-clause-keeps c =
    let old = c.args.s.now in
    let new = c.begin_by_steps.new.s in
    let answer = c.begin_by_steps.result in
    keeps-by old new (begun_round c.args.c old.local.stand.round answer) (begun_done c.args.c answer)
    (begin-is c.args.c (epoch_of old.local.stand.section) old new answer c.begin_by_steps.ensures.begun)
