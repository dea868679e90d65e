use Rattle.smc_agreement.specs.Agreement.{MovesAgree}
use Rattle.smc_agreement.specs.Kept.{Nothing}
use Rattle.smc_agreement.proofs.EachKind.{is_kept}
use Rattle.smc_inv_move.proofs.EachMoves.{moves-each}
use Rattle.smc_inv_move.proofs.laws.moves_are_kept.Goals as goal

pub returns : goal.returns
returns c = is_kept Nothing MovesAgree moves-each
