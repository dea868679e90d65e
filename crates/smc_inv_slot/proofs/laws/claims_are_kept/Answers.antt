use Rattle.smc_agreement.specs.Agreement.{ClaimsAgree}
use Rattle.smc_agreement.specs.Kept.{Nothing}
use Rattle.smc_agreement.proofs.EachKind.{is_kept}
use Rattle.smc_inv_slot.proofs.EachClaims.{claims-each}
use Rattle.smc_inv_slot.proofs.laws.claims_are_kept.Goals as goal

pub returns : goal.returns
returns c = is_kept Nothing ClaimsAgree claims-each
