-- The word of a round.
use Rattle.std.specs.Prelude.{ℕ, ◌+◌, ◌*◌, ◌<◌, ◌≤◌}
use Rattle.smc_words.specs.declared.layout.TheConstants.{COLLECTIONS, EPOCHS, PASSES}
use Rattle.smc_words.specs.declared.round.RoundWord.{RoundWord}
use Rattle.smc_words.specs.declared.round.TheConstants.RoundWord.{PASS, COLL}

-- each part of the round fits its bits, and the bound is not 0
pub record FitsRound (round : RoundWord) : Type 0 where
  pub begun : 1 ≤ round.bound
  pub bound : round.bound < EPOCHS
  pub pass : round.pass < PASSES
  pub coll : round.coll < COLLECTIONS

-- from bit 41 the collection, from bit 36 the pass, then the bound
abbrev pub packed_round : RoundWord → ℕ
packed_round round = round.coll * COLL + round.pass * PASS + round.bound
