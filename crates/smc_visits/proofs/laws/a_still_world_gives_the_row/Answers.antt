use Rattle.smc_visits.proofs.StillLaws.{row-read}
use Rattle.smc_visits.proofs.laws.a_still_world_gives_the_row.Goals as goal

pub returns : goal.returns
returns c shape world number leaves row calls reads are = row-read world reads are
