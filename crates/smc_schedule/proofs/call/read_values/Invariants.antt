use Rattle.std.proofs.Common.{◌≡◌, ◌++◌, length}
use Rattle.std.specs.Option.{option_map}
use Rattle.smc_schedule.specs.Calls.{values_of}
use Rattle.smc_schedule.proofs.call.read_values.Given as goal

-- the values so far stand before those of the words that are left
abbrev pub invariant-loop-word : goal.invariant-loop-word
invariant-loop-word l = values_of l.initial.words ≡ option_map (λ values. l.values.items ++ values) (values_of l.words)

-- the words that are left
abbrev pub decreases-loop-word : goal.decreases-loop-word
decreases-loop-word l = length l.words
