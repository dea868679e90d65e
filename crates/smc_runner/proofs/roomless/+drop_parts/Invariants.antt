use Rattle.std.proofs.Common.{length}
use Rattle.smc_runner.proofs.roomless.+drop_parts.Given as goal

abbrev pub decreases-drop_parts : goal.decreases-drop_parts
decreases-drop_parts g l = length l.parts.now
