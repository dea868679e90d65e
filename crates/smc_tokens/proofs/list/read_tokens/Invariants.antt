use Rattle.std.proofs.Common.{length}
use Rattle.smc_tokens.proofs.ListLaws.{SoFar}
use Rattle.smc_tokens.proofs.list.read_tokens.Given as goal

abbrev pub invariant-loop-rest : goal.invariant-loop-rest
invariant-loop-rest l = SoFar l.text l.placed.items l.rest

abbrev pub decreases-loop-rest : goal.decreases-loop-rest
decreases-loop-rest l = length l.rest
