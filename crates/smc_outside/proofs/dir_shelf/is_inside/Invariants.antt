use Rattle.std.proofs.Common.{◌≡◌}
use Rattle.std.specs.Path.{components_remaining}
use Rattle.smc_outside.specs.Folder.{is_inside, stay_inside}
use Rattle.smc_outside.proofs.dir_shelf.is_inside.Given as goal

-- no part before this one leads out
abbrev pub invariant-loop-part : goal.invariant-loop-part
invariant-loop-part l = is_inside l.name ≡ stay_inside (components_remaining l.part-iterator)
