use Rattle.std.proofs.Common.{◌≡◌, map, take}
use Rattle.std.specs.String.{string_bytes}
use Rattle.smc_desk.proofs.folds.names_of.Given as goal

-- the words before this one are named
abbrev pub invariant-loop-word : goal.invariant-loop-word
invariant-loop-word l = l.names.items ≡ map string_bytes (take l.word-index l.words)
