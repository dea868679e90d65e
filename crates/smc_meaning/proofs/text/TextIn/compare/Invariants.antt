use Rattle.std.proofs.Common.{◌≡◌, drop}
use Rattle.std.specs.Ordering.{nat_cmp}
use Rattle.std.specs.Cmp.Lexicographic.{slice_cmp}
use Rattle.smc_meaning.specs.Texts.{bytes_in}
use Rattle.smc_meaning.proofs.text.TextIn.compare.Given as goal

-- the bytes so far are the same
abbrev pub invariant-loop-place : goal.invariant-loop-place
invariant-loop-place l = slice_cmp nat_cmp (drop l.place (bytes_in l.self)) (drop l.place (bytes_in l.other)) ≡ slice_cmp nat_cmp (bytes_in l.self) (bytes_in l.other)
