use Rattle.smc_plain.proofs.CommandTurns.{shown-plain}
use Rattle.smc_plain.proofs.laws.commands_are_plain.Goals as goal

pub returns : goal.returns
returns c = shown-plain c.answer_of_a_bag.ensures c.queries_can_run.ensures
