use Rattle.smc_meaning.proofs.BagTurns.{answer-bag}
use Rattle.smc_meaning.proofs.laws.answer_of_a_bag.Goals as goal

pub returns : goal.returns
returns c = λ plan kinds rows others sound same. answer-bag plan kinds sound rows others same
