use Rattle.smc_script.specs.Scripts.{LinesGive}
use Rattle.smc_script.specs.States.{start}
use Rattle.smc_script.proofs.ScriptLaws.{ended-answers, ended-inside}
use Rattle.smc_script.proofs.read.script_of_lines.Goals as goal

pub returns-in-Err-clause-gives : goal.returns-in-Err-clause-gives
returns-in-Err-clause-gives c = ended-answers (LinesGive c.args.catalog.now c.args.folds start 0 c.args.lines.now) c.args.folds c.in-Err.fault c.in-Err.ensures

pub returns-in-Err-clause-inside : goal.returns-in-Err-clause-inside
returns-in-Err-clause-inside c = ended-inside (LinesGive c.args.catalog.now c.args.folds start 0 c.args.lines.now) c.args.folds c.in-Err.fault c.in-Err.ensures
