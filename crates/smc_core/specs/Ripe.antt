-- What may be used again, and the order in which an add looks at slots and entries.
use Rattle.std.specs.Prelude.{ℕ, ◌+◌, ◌&&◌, nat_lt, nat_le, Bool, true, false, if◌then◌else◌}
use Rattle.smc_words.specs.declared.layout.TheConstants.{INCARNATIONS}
use Rattle.smc_words.specs.declared.dir.Dir.{Dir}
use Rattle.smc_words.specs.declared.dir.Dir.TheVariants as dir

-- whether a section at this epoch may use what was left with this stamp
abbrev pub is_ripe : ℕ → ℕ → Bool
is_ripe epoch stamp = nat_le (stamp + 2) epoch

-- whether it may claim the slot
abbrev pub is_ripe_slot : ℕ → Dir → Bool
is_ripe_slot epoch dir.Free = true
is_ripe_slot epoch (dir.Limbo stamp) = is_ripe epoch stamp
is_ripe_slot epoch _ = false

-- whether it may claim the free entry: one with the last incarnation is spent
abbrev pub is_ripe_entry : ℕ → ℕ → ℕ → Bool
is_ripe_entry epoch incarnation stamp = is_ripe epoch stamp && nat_lt (incarnation + 1) INCARNATIONS

-- the index behind this one, of so many, round to the front
abbrev pub next_round : ℕ → ℕ → ℕ
next_round many index = if nat_lt (index + 1) many then index + 1 else 0
