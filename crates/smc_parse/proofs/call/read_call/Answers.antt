use Rattle.std.proofs.Common.{sym}
use Rattle.smc_query.specs.Trees.{call_tree}
use Rattle.smc_query.specs.Machine.{call}
use Rattle.smc_parse.proofs.LeadLaws.{in-place}
use Rattle.smc_parse.proofs.CallLaws.{call-stops}
use Rattle.smc_parse.proofs.call.read_call.Goals as goal

pub returns-then-is_word : goal.returns-then-is_word
returns-then-is_word c = in-place (call c.args.depth) call_tree c.args.tokens.now c.args.at c.read_count.result c.read_count.ensures

pub returns-in-None : goal.returns-in-None
returns-in-None c = call-stops c.args.tokens.now c.args.at c.args.depth c.requires (sym c.if-is_word.ensures) (sym c.if-is_word-2.ensures) c.in-None.ensures
