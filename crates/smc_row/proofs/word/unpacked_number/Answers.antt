use Rattle.smc_row.proofs.BackLaws.{number-read}
use Rattle.smc_row.proofs.word.unpacked_number.Goals as goal

pub returns : goal.returns
returns c = number-read c.args.number c.unpack.result c.unpack.ensures.some c.unpack.ensures.none
