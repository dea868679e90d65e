use Rattle.smc_lang.specs.Texts.{as_tokens}
use Rattle.smc_lang.specs.Laws.{PrintedIsRead}
use Rattle.smc_print.specs.Laws.{PrintedIsRead as IsReadAgain}
use Rattle.smc_lang.proofs.laws.printed_is_read.Goals as goal

read-again : IsReadAgain → PrintedIsRead
read-again again query text (as_tokens falls spells) within = let (list, (falls', spells')) = again query _ _ text (_, (falls, spells)) within in as_tokens falls' spells'

pub returns : goal.returns
returns c = read-again c.printed_is_read.ensures
