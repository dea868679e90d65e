use Rattle.smc_print.proofs.laws.text_falls_into_its_tokens.Goals as goal
use Rattle.smc_print.proofs.TextFalls.{text_falls}

pub returns : goal.returns
returns c = text_falls
