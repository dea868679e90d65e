use Rattle.std.proofs.Common.{◌≡◌, drop, map}
use Rattle.smc_script.specs.Trees.{part_tree}
use Rattle.smc_replies.specs.Scripts.{unknown_line}
use Rattle.smc_desk.proofs.known.unknown_line.Given as goal

-- the parts before this one are run
abbrev pub invariant-loop-part : goal.invariant-loop-part
invariant-loop-part l = unknown_line l.folds (map part_tree l.parts) ≡ unknown_line l.folds (map part_tree (drop l.part-index l.parts))
