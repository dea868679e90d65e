use Rattle.smc_agreement.specs.Agreement.{ObjectsAgree}
use Rattle.smc_agreement.specs.Kept.{Nothing}
use Rattle.smc_agreement.proofs.EachKind.{is_kept}
use Rattle.smc_inv_slot.proofs.EachObjects.{objects-each}
use Rattle.smc_inv_slot.proofs.laws.objects_are_kept.Goals as goal

pub returns : goal.returns
returns c = is_kept Nothing ObjectsAgree objects-each
