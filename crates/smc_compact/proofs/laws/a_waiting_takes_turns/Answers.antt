use Rattle.smc_compact.proofs.TurnLaws.{takes-turns}
use Rattle.smc_compact.proofs.laws.a_waiting_takes_turns.Goals as goal

pub returns : goal.returns
returns _ = takes-turns
