use Rattle.std.proofs.Common.{◌≡◌, ◌+◌, drop}
use Rattle.std.specs.List.{prefix_len}
use Rattle.smc_types.specs.Texts.{is_text_byte}
use Rattle.smc_types.proofs.text.text_length.Given as goal

abbrev pub invariant-loop-place : goal.invariant-loop-place
invariant-loop-place l = prefix_len is_text_byte l.bytes ≡ l.place + prefix_len is_text_byte (drop l.place l.bytes)
