use Rattle.smc_machine.proofs.PlayLaws.{Plays-told}
use Rattle.smc_machine.proofs.laws.plays_lead.Goals as goal

pub returns : goal.returns
returns c = λ shape first last steps events played. Plays-told shape first steps events last played
