use Rattle.std.proofs.Common.{◌≡◌, take}
use Rattle.smc_types.specs.Texts.{bytes_of}
use Rattle.smc_types.proofs.text.word_bytes.Given as goal

abbrev pub invariant-loop-word : goal.invariant-loop-word
invariant-loop-word l = l.bytes.items ≡ bytes_of (take l.word-index l.words)
