use Rattle.smc_schedule.proofs.GrammarLaws.{reads-value}
use Rattle.smc_schedule.proofs.line.read_line.Goals as goal

pub returns-clause-reads : goal.returns-clause-reads
returns-clause-reads c = reads-value c.args.width c.args.text.now c.read_words.result c.read_words.ensures
