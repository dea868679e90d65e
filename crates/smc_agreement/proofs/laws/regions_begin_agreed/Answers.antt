use Rattle.smc_agreement.proofs.Begun.{agreement-first, records-first}
use Rattle.smc_agreement.proofs.laws.regions_begin_agreed.Goals as goal

pub returns : goal.returns
returns c shape opening world memory q = (agreement-first shape opening world memory q, records-first shape opening world memory q)
