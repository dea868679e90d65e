use Rattle.std.proofs.Common.{sym, ◌∙◌}
use Rattle.smc_script.proofs.SaysLaws.{cond-none}
use Rattle.smc_script.proofs.query.read_cond.Goals as goal

pub returns : goal.returns
returns c = cond-none c.one_thing.ensures c.args.text.now c.in-Err.fault c.in-Err.ensures.fault (sym c.is_memory.ensures ∙ c.if-is_memory.false)
