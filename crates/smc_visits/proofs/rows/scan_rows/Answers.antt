use Rattle.std.proofs.Common.{List, subst}
use Rattle.std.proofs.lemmas.Result.{on_ok_weaker}
use Rattle.smc_shape.specs.Layout.{Layout}
use Rattle.smc_trace.specs.Trace.{CallEnd}
use Rattle.smc_does.specs.Does.{DoesSome}
use Rattle.smc_objects.specs.Alone.{InSection}
use Rattle.smc_objects.proofs.AloneLaws.{in-section}
use Rattle.smc_visits.specs.Visits.{TakesRows}
use Rattle.smc_visits.proofs.rows.scan_rows.Goals as goal

pub returns-clause-done : goal.returns-clause-done
returns-clause-done g c =
    let start = c.enter-section.result in
    let end = c.take_rows-done.new.s in
    let Takes : Layout → List CallEnd → Type 0 = λ shape calls.
    TakesRows shape c.args.c c.args.leaves.now (g.T.TakeRow.has c.args.rows.now) (g.T.TakeRow.has c.take_rows-done.new.rows) calls in
    on_ok_weaker c.take_rows-done.result
    (λ (done : DoesSome start end (Takes start.shape)).
    subst (λ (k : Layout). DoesSome c.args.pass c.leave.result (InSection (Takes k))) c.enter-section.ensures.same.1
    (in-section c.args.pass start end c.leave.result (Takes start.shape) done.0 c.enter-section.ensures.same c.enter-section.ensures.entered done.1 done.2
    c.leave.ensures.same c.leave.ensures.left)) c.take_rows-done.ensures.done
