use Rattle.std.proofs.Common.{◌≡◌, take}
use Rattle.smc_meaning.specs.Texts.{bytes_in}
use Rattle.smc_meaning.proofs.text.TextIn.copied.Given as goal

-- the bytes so far
abbrev pub invariant-loop-place : goal.invariant-loop-place
invariant-loop-place l = l.bytes.items ≡ take l.place (bytes_in l.self)
