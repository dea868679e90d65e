use Rattle.std.proofs.Common.{Some}
use Rattle.smc_does.proofs.DoesLaws.{does-then}
use Rattle.smc_visits.proofs.edits.edit_one.Goals as goal

pub returns-clause-done : goal.returns-clause-done
returns-clause-done g c =
    let r = c.if-not-read_row.ensures.done in
    (Some c.read_row.new.row, r.0, r.2, c.decide-edit.ensures.edit, does-then r.1 c.apply.ensures.done)
