use Rattle.std.proofs.Common.{Err, ap, sym, ◌∙◌}
use Rattle.smc_lines.specs.declared.fault.LinesFault.{LinesFault}
use Rattle.smc_script.specs.declared.script.Script.{Script}
use Rattle.smc_script.specs.declared.fault.ScriptFault.TheVariants.{ReadFault}
use Rattle.smc_script.proofs.ScriptLaws.{answer-fault, inside-only, left-answers, limit-answers, lines-answer, read-fault}
use Rattle.smc_script.proofs.SoundLaws.{answer-sound}
use Rattle.smc_script.proofs.read.read_script.Goals as goal

pub returns-in-Err-clause-gives : goal.returns-in-Err-clause-gives
returns-in-Err-clause-gives g c =
    rw c.limit_fault.ensures (limit-answers c.args.catalog.now c.args.folds (g.S.Source.left c.args.source.now) (g.S.Source.left c.read_lines.new.source)
    c.in-Err.fault c.in-Err.ensures.reads)

pub returns-in-Err-clause-failed : goal.returns-in-Err-clause-failed
returns-in-Err-clause-failed g c is =
    c.in-Err.ensures.failed (ap (λ (f : LinesFault). Err f) (read-fault c.in-Err.fault (sym c.limit_fault.ensures ∙ answer-fault {T = Script} (Err c.limit_fault.result) ReadFault is)))

pub returns-clause-gives : goal.returns-clause-gives
returns-clause-gives g c =
    lines-answer c.args.catalog.now c.args.folds (g.S.Source.left c.args.source.now) (g.S.Source.left c.read_lines.new.source) c.in-Ok.lines
    c.script_of_lines.result c.in-Ok.ensures.reads c.script_of_lines.ensures.gives

pub returns-clause-end : goal.returns-clause-end
returns-clause-end g c =
    left-answers (g.S.Source.left c.args.source.now) (g.S.Source.left c.read_lines.new.source) c.in-Ok.lines c.script_of_lines.result c.in-Ok.ensures.reads

pub returns-clause-failed : goal.returns-clause-failed
returns-clause-failed g c is = absurd (inside-only c.script_of_lines.result c.script_of_lines.ensures.inside is)

pub returns-clause-sound : goal.returns-clause-sound
returns-clause-sound g c =
    answer-sound (record { row = c.what_is_spelled_fits.ensures.row; texts = c.what_is_spelled_fits.ensures.texts; value = c.what_is_spelled_fits.ensures.value })
    c.args.catalog.now c.args.folds c.in-Ok.lines c.script_of_lines.result c.script_of_lines.ensures.gives
