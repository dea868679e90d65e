use Rattle.std.proofs.Common.{sym}
use Rattle.smc_meaning.proofs.RowLaws.{length-seen}
use Rattle.smc_meaning.proofs.rows.Rows.len.Goals as goal

pub returns : goal.returns
returns c = sym (length-seen c.self.inside.width c.self.inside.count c.self.inside.words.items c.args.self.now c.self.view_is)
