use Rattle.smc_agreement.specs.Agreement.{CallsAgree}
use Rattle.smc_agreement.specs.Kept.{Nothing}
use Rattle.smc_agreement.proofs.EachKind.{is_kept}
use Rattle.smc_inv_move.proofs.EachCalls.{calls-each}
use Rattle.smc_inv_move.proofs.laws.calls_are_kept.Goals as goal

pub returns : goal.returns
returns c = is_kept Nothing CallsAgree calls-each
