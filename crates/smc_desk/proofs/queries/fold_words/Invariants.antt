use Rattle.std.proofs.Common.{◌≡◌, take}
use Rattle.smc_plan.specs.Items.{names_of}
use Rattle.smc_desk.proofs.queries.fold_words.Given as goal

-- the names before this one are words
abbrev pub invariant-loop-name : goal.invariant-loop-name
invariant-loop-name l = names_of l.words.items ≡ take l.name-index l.folds
