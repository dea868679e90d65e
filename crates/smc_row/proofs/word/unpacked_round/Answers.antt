use Rattle.smc_row.proofs.BackLaws.{round-read}
use Rattle.smc_row.proofs.word.unpacked_round.Goals as goal

pub returns : goal.returns
returns c = round-read c.args.number c.unpack.result c.unpack.ensures.some c.unpack.ensures.none
