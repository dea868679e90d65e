use Rattle.smc_lines.proofs.WordLaws.{is_none-words}
use Rattle.smc_lines.proofs.words.Words.is_empty.Goals as goal

pub returns : goal.returns
returns c = rw (← c.self.view_is) (is_none-words c.self.inside.rest c.is_none.result c.is_none.ensures)
