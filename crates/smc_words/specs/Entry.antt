-- The word of an entry.
use Rattle.std.specs.Prelude.{ℕ, ◌+◌, ◌*◌, ◌<◌}
use Rattle.std.specs.Int.{from_bool}
use Rattle.smc_words.specs.declared.layout.TheConstants.{EPOCHS, INCARNATIONS}
use Rattle.smc_words.specs.declared.entry.Entry.{Entry}
use Rattle.smc_words.specs.declared.entry.TheConstants.Entry.{FREE, GONE, LOCKED, FROZEN, PAYLOAD, INCARNATION}

-- each part of the entry fits its bits
pub record FitsEntry (entry : Entry) : Type 0 where
  pub incarnation : entry.incarnation < INCARNATIONS
  pub payload : entry.payload < EPOCHS

-- from bit 40 the incarnation, from bit 4 the payload, then the marks from bit 3 down to bit 0
abbrev pub packed_entry : Entry → ℕ
packed_entry entry =
    entry.incarnation * INCARNATION + entry.payload * PAYLOAD
    + from_bool entry.frozen * FROZEN + from_bool entry.locked * LOCKED
    + from_bool entry.gone * GONE + from_bool entry.free * FREE
