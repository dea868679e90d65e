use Rattle.std.proofs.Common.{List, subst}
use Rattle.smc_shape.specs.Layout.{Layout}
use Rattle.smc_trace.specs.Trace.{CallEnd}
use Rattle.smc_does.specs.Does.{DoesSome}
use Rattle.smc_objects.specs.Alone.{InSection}
use Rattle.smc_objects.proofs.AloneLaws.{in-section}
use Rattle.smc_visits.specs.Edits.{EditsRows}
use Rattle.smc_visits.proofs.edits.edit_rows.Goals as goal

pub returns-clause-done : goal.returns-clause-done
returns-clause-done g c =
    let start = c.enter-section.result in
    let Does : Layout → List CallEnd → Type 0 = λ shape calls. EditsRows shape c.args.c c.args.leaves.now (g.E.DecideEdit.edit c.args.by.now) c.edit_all-edits.result calls in
    let done = c.edit_all-edits.ensures.done in
    subst (λ (k : Layout). DoesSome c.args.pass c.leave.result (InSection (Does k))) c.enter-section.ensures.same.1
    (in-section c.args.pass start c.edit_all-edits.new.s c.leave.result (Does start.shape) done.0 c.enter-section.ensures.same c.enter-section.ensures.entered
    done.1 done.2 c.leave.ensures.same c.leave.ensures.left)

pub returns-clause-home : goal.returns-clause-home
returns-clause-home g c = (returns-clause-done g c).1.same
