use Rattle.smc_exec.proofs.FieldLaws.{field-within}
use Rattle.smc_exec.proofs.PlacedLaws.{edit-fits}
use Rattle.smc_exec.proofs.laws.edits_can_run.Goals as goal

pub returns : goal.returns
returns c plan of = record {
  fits = edit-fits plan of;
  typed = c.parts_are_typed.ensures.of_edits of.catalog of.table of.field of.value of.cond plan of.is;
  field = field-within plan of;
}
