-- The directory word of a slot.
use Rattle.std.specs.Prelude.{ℕ, ◌+◌, ◌*◌, ◌<◌}
use Rattle.smc_words.specs.declared.layout.TheConstants.{EPOCHS}
use Rattle.smc_words.specs.declared.dir.Dir.{Dir}
use Rattle.smc_words.specs.declared.dir.Dir.TheVariants.{Free, Claimed, Incoming, Valid, Limbo}
use Rattle.smc_words.specs.declared.dir.TheConstants.Dir.{FREE, CLAIMED, INCOMING, VALID, LIMBO, STAMP}

-- the stamp, if there is one, fits its bits
abbrev pub FitsDir : Dir → Type 0
FitsDir (Limbo stamp) = stamp < EPOCHS
FitsDir _ = Unit {0}

-- from bit 3 the stamp, which is 0 outside limbo, then the kind
abbrev pub packed_dir : Dir → ℕ
packed_dir Free = FREE
packed_dir Claimed = CLAIMED
packed_dir Incoming = INCOMING
packed_dir Valid = VALID
packed_dir (Limbo stamp) = stamp * STAMP + LIMBO
