use Rattle.std.proofs.Common.{◌≡◌, ℕ, ◌<◌, true, get_or}
use Rattle.smc_types.specs.Texts.{is_text_byte, bytes_of}
use Rattle.smc_types.proofs.cells.text_len.Given as goal

-- each byte that was passed is one of a text
abbrev pub invariant-loop-place : goal.invariant-loop-place
invariant-loop-place l = (k : ℕ) → k < l.place → is_text_byte (get_or (bytes_of l.words) k 0) ≡ true
