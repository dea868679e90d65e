use Rattle.smc_agreement.specs.Records.{RecordsAgree}
use Rattle.smc_agreement.proofs.EachKind.{is_kept}
use Rattle.smc_inv_slot.proofs.EachRecords.{records-each}
use Rattle.smc_inv_slot.proofs.laws.records_are_kept.Goals as goal

pub returns : goal.returns
returns c opened = is_kept (RecordsAgree opened) (RecordsAgree opened) (records-each opened)
