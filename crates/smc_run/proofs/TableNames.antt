-- A name that is none of the eight.
use Rattle.std.proofs.Common.{◌≡◌, ◌≢◌, ℕ, false, List, arith}
use Rattle.std.specs.Str.{bytes_eq}
use Rattle.std.proofs.lemmas.Bool.Decides.{nat_tests}
use Rattle.std.proofs.lemmas.Slice.Eq.{bytes_eq-Decides}

-- names that differ are told apart
pub other_name : (name other : List ℕ) → name ≢ other → bytes_eq name other ≡ false
other_name name other differ = grind (arith, nat_tests, bytes_eq-Decides name other)
