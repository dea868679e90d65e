use Rattle.std.proofs.Common.{◌≡◌, ◌++◌}
use Rattle.smc_types.specs.Texts.{text_words}
use Rattle.smc_types.proofs.text.push_text.Given as goal

abbrev pub invariant-loop-place : goal.invariant-loop-place
invariant-loop-place l = l.words.items ≡ l.fn.words.items ++ text_words l.place l.text
