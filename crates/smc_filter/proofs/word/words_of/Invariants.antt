use Rattle.std.proofs.Common.{◌≡◌, take}
use Rattle.smc_plan.specs.Leaves.{leaves_words}
use Rattle.smc_filter.proofs.word.words_of.Given as goal

abbrev pub invariant-loop-leaf : goal.invariant-loop-leaf
invariant-loop-leaf l = l.words ≡ leaves_words (take l.leaf-index l.leaves)
