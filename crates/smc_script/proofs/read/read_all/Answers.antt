use Rattle.std.proofs.Common.{◌≡◌, Option, Ok, Err, ap, ◌∙◌, subst}
use Rattle.std.specs.Prelude.{IfOk}
use Rattle.std.specs.declared.result.Result.{Result}
use Rattle.smc_lines.specs.Ahead.{Gives}
use Rattle.smc_lines.specs.declared.cursor.Numbered.{Numbered}
use Rattle.smc_lines.specs.declared.fault.BadLine.{BadLine}
use Rattle.smc_words.specs.declared.NoMemory.{NoMemory}
use Rattle.smc_script.specs.Faults.{LineGives, line_answer}
use Rattle.smc_script.specs.Scripts.{LinesGive, end_gives}
use Rattle.smc_script.specs.States.{reading, start}
use Rattle.smc_script.specs.declared.fault.ScriptFault.TheVariants.{Bad}
use Rattle.smc_script.specs.declared.fault.ScriptKind.{ScriptKind}
use Rattle.smc_script.specs.declared.fault.ScriptKind.TheVariants.{Grammar}
use Rattle.smc_script.proofs.ScriptLaws.{ends-from, line-refused, line-taken, none-left, text-refused}
use Rattle.smc_script.proofs.read.read_all.Goals as goal

pub returns-in-Ok-None : goal.returns-in-Ok-None
returns-in-Ok-None c =
    let gives = subst (λ (r : Result (Option Numbered) BadLine). Gives r c.loop-next.cursor c.next_line.new.self)
    (c.in-Ok-None.is ∙ ap (λ (o : Option Numbered). Ok o) c.in-Ok-None.field-0-is) c.next_line.ensures in
    ends-from c.ended.result c.args.folds.now (λ outcome. outcome ≡ end_gives c.args.folds.now (reading c.loop-next.reader) c.line.result)
    (LinesGive c.args.catalog.now c.args.folds.now start 0 c.args.lines.now)
    (λ outcome is. c.loop-next.invariant outcome
    (none-left c.args.catalog.now c.args.folds.now (reading c.loop-next.reader) c.loop-next.cursor c.next_line.new.self outcome gives
    (is ∙ ap (end_gives c.args.folds.now (reading c.loop-next.reader)) c.line.ensures.value)))
    (c.ended.ensures c.args.folds.now)

pub returns-in-Err : goal.returns-in-Err
returns-in-Err c =
    let gives = subst (λ (r : Result (Option Numbered) BadLine). Gives r c.loop-next.cursor c.next_line.new.self) c.in-Err.is c.next_line.ensures in
    c.loop-next.invariant (Err (Bad c.in-Err.bad.line Grammar))
    (text-refused c.args.catalog.now c.args.folds.now (reading c.loop-next.reader) c.loop-next.cursor c.next_line.new.self c.in-Err.bad gives)

pub loop-next-preserved : goal.loop-next-preserved
loop-next-preserved c outcome rest =
    let gives = subst (λ (r : Result (Option Numbered) BadLine). Gives r c.loop-next.cursor c.next_line.new.self)
    (c.in-Ok-Some.is ∙ ap (λ (o : Option Numbered). Ok o) c.in-Ok-Some.field-0-is) c.next_line.ensures in
    let given = subst (λ (r : Result (Option ScriptKind) NoMemory). IfOk r (λ kind.
    LineGives c.args.catalog.now c.args.folds.now (reading c.loop-next.reader) c.in-Ok-Some.next.line c.in-Ok-Some.next.text.now (line_answer kind (reading c.line-in-loop-next.new.self))))
    (c.in-Ok-None-line.is ∙ ap (λ (o : Option ScriptKind). Ok o) c.in-Ok-None-line.field-0-is) c.line-in-loop-next.ensures in
    c.loop-next.invariant outcome
    (line-taken c.args.catalog.now c.args.folds.now (reading c.loop-next.reader) (reading c.line-in-loop-next.new.self) c.loop-next.cursor c.next_line.new.self c.in-Ok-Some.next outcome
    gives given rest)

pub returns-in-Ok-Some-line : goal.returns-in-Ok-Some-line
returns-in-Ok-Some-line c =
    let gives = subst (λ (r : Result (Option Numbered) BadLine). Gives r c.loop-next.cursor c.next_line.new.self)
    (c.in-Ok-Some.is ∙ ap (λ (o : Option Numbered). Ok o) c.in-Ok-Some.field-0-is) c.next_line.ensures in
    let given = subst (λ (r : Result (Option ScriptKind) NoMemory). IfOk r (λ kind.
    LineGives c.args.catalog.now c.args.folds.now (reading c.loop-next.reader) c.in-Ok-Some.next.line c.in-Ok-Some.next.text.now (line_answer kind (reading c.line-in-loop-next.new.self))))
    (c.in-Ok-Some-line.is ∙ ap (λ (o : Option ScriptKind). Ok o) c.in-Ok-Some-line.field-0-is) c.line-in-loop-next.ensures in
    c.loop-next.invariant (Err (Bad c.in-Ok-Some.next.line c.in-Ok-Some-line.kind))
    (line-refused c.args.catalog.now c.args.folds.now (reading c.loop-next.reader) c.loop-next.cursor c.next_line.new.self c.in-Ok-Some.next c.in-Ok-Some-line.kind gives given)
