use Rattle.std.proofs.Common.{rules, ◌≡◌, true, IfOk, is_ok, option_copied, Bool, false}
use Rattle.smc_query.specs.Trees.{expr_tree, filter_tree}
use Rattle.smc_types.specs.Tables.{the_tables}
use Rattle.smc_replies.specs.Commands as commands
use Rattle.smc_replies.specs.Edits.{update_plan}
use Rattle.smc_desk.proofs.edits.can_update.Goals.{in-Ok, in-Err-NoMemory, in-Err}
use Rattle.smc_desk.proofs.edits.can_update.Goals as goal

pub returns : goal.returns
returns c = elim c.match-plan_edit.branch [ in-Ok w ↦ search rules | in-Err-NoMemory w ↦ search rules | in-Err w ↦ search rules ]
