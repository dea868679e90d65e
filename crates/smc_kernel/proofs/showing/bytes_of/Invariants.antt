use Rattle.std.proofs.Common.{◌≡◌, take}
use Rattle.smc_types.specs.Texts.{text_of}
use Rattle.smc_kernel.proofs.showing.bytes_of.Given as goal

-- the bytes so far
abbrev pub invariant-loop-place : goal.invariant-loop-place
invariant-loop-place l = l.bytes.items ≡ take l.place (text_of l.width l.words)
