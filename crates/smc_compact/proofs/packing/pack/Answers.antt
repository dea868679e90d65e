use Rattle.std.proofs.Common.{ap, ◌++◌, List}
use Rattle.smc_trace.specs.Trace.{CallEnd}
use Rattle.smc_does.proofs.DoesLaws.{does-then}
use Rattle.smc_compact.proofs.packing.pack.Goals as goal

pub returns-clause-done : goal.returns-clause-done
returns-clause-done c =
    let drive = c.drive-p.ensures.done in
    let survey = c.survey_alone-p.ensures.done in (
      drive.0 ++ survey.0,
      does-then drive.1 survey.1,
      record { driven = drive.0; epoch = survey.2.epoch; drives = drive.2; made = ap (λ (calls : List CallEnd). drive.0 ++ calls) survey.2.made },
    )
