use Rattle.std.proofs.Common.{sym, ◌∙◌}
use Rattle.smc_script.proofs.SaysLaws.{fault-none}
use Rattle.smc_script.proofs.query.read_query.Goals as goal

pub returns : goal.returns
returns c = fault-none c.one_thing.ensures c.args.text.now c.in-Err.fault c.in-Err.ensures.fault (sym c.is_memory.ensures ∙ c.if-is_memory.false)
