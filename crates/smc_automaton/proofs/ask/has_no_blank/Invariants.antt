use Rattle.std.proofs.Common.{◌≡◌, drop}
use Rattle.smc_core.specs.Add.{has_no_blank}
use Rattle.smc_automaton.proofs.ask.has_no_blank.Given as goal

-- those that were passed are none of them blank
abbrev pub invariant-loop-word : goal.invariant-loop-word
invariant-loop-word l = has_no_blank l.words ≡ has_no_blank (drop l.word-index l.words)
