use Rattle.smc_agreement.specs.Agreement.{CopiesAgree}
use Rattle.smc_agreement.specs.Kept.{Nothing}
use Rattle.smc_agreement.proofs.EachKind.{is_kept}
use Rattle.smc_inv_move.proofs.EachCopies.{copies-each}
use Rattle.smc_inv_move.proofs.laws.copies_are_kept.Goals as goal

pub returns : goal.returns
returns c = is_kept Nothing CopiesAgree copies-each
