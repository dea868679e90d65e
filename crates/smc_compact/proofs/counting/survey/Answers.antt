use Rattle.std.proofs.Common.{◌∙◌}
use Rattle.smc_core.specs.declared.done.Done.TheVariants as done
use Rattle.smc_compact.proofs.RoundLaws.{keeps-by, owns-by, scans-by, stays-by, tells-by}
use Rattle.smc_compact.proofs.counting.survey.Goals as goal

pub returns-clause-done : goal.returns-clause-done
returns-clause-done c =
    let old = c.args.s.now in
    let new = c.survey_by_steps.new.s in
    let count = c.survey_by_steps.result in
    let answer = done.Surveyed c.args.c count.objects count.blocks in
    record {
      same = c.survey_by_steps.ensures.same;
      tells = tells-by old new old.local.stand.round answer c.survey_by_steps.ensures.answered;
      free = λ none. owns-by old new old.local.stand.round answer c.survey_by_steps.ensures.answered ∙ none;
    }

pub returns-clause-stays : goal.returns-clause-stays
returns-clause-stays c =
    let old = c.args.s.now in
    let count = c.survey_by_steps.result in
    stays-by old c.survey_by_steps.new.s old.local.stand.round (done.Surveyed c.args.c count.objects count.blocks) c.survey_by_steps.ensures.answered

pub returns-clause-scans : goal.returns-clause-scans
returns-clause-scans c =
    let old = c.args.s.now in
    let count = c.survey_by_steps.result in
    scans-by old c.survey_by_steps.new.s old.local.stand.round (done.Surveyed c.args.c count.objects count.blocks) c.survey_by_steps.ensures.answered

pub returns-clause-keeps : goal.returns-clause-keeps
returns-clause-keeps c =
    let old = c.args.s.now in
    let count = c.survey_by_steps.result in
    keeps-by old c.survey_by_steps.new.s old.local.stand.round (done.Surveyed c.args.c count.objects count.blocks) c.survey_by_steps.ensures.answered
