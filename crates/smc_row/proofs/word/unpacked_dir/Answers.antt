use Rattle.std.proofs.Common.{sym}
use Rattle.smc_row.proofs.BackLaws.{dir-none}
use Rattle.smc_row.proofs.word.unpacked_dir.Goals as goal

pub returns-in-None : goal.returns-in-None
returns-in-None c = sym (dir-none c.args.number c.in-None.ensures.none)
