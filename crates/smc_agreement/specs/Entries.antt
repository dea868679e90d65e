-- What the state of an entry, or a directory word, says of an object with this incarnation, at this epoch or in this slot.
use Rattle.std.specs.Prelude.{ℕ, ◌<◌, ◌≤◌, ◌≢◌, ◌≡◌, Option, Some, None}
use Rattle.smc_words.specs.declared.dir.Dir.{Dir}
use Rattle.smc_words.specs.declared.dir.Dir.TheVariants as dir
use Rattle.smc_words.specs.declared.round.RoundWord.{RoundWord}
use Rattle.smc_core.specs.declared.word.State.{State}
use Rattle.smc_core.specs.declared.word.State.TheVariants as state

-- the incarnation and the slot of the object that the entry has, present or removed
abbrev pub stands_at : State → Option (ℕ × ℕ)
stands_at (state.Present incarnation slot) = Some (incarnation, slot)
stands_at (state.Frozen incarnation slot) = Some (incarnation, slot)
stands_at (state.Locked incarnation slot) = Some (incarnation, slot)
stands_at (state.Removed incarnation slot frozen locked) = Some (incarnation, slot)
stands_at _ = None

-- of one that is present
abbrev pub present_at : State → Option (ℕ × ℕ)
present_at (state.Present incarnation slot) = Some (incarnation, slot)
present_at (state.Frozen incarnation slot) = Some (incarnation, slot)
present_at (state.Locked incarnation slot) = Some (incarnation, slot)
present_at _ = None

-- of one that is present and not locked
abbrev pub unlocked_at : State → Option (ℕ × ℕ)
unlocked_at (state.Present incarnation slot) = Some (incarnation, slot)
unlocked_at (state.Frozen incarnation slot) = Some (incarnation, slot)
unlocked_at _ = None

-- the object was removed, and its entry is not free yet
abbrev pub IsRemoved : ℕ → State → Type 0
IsRemoved incarnation (state.Removed own slot frozen locked) = own ≡ incarnation
IsRemoved incarnation _ = ⊥

-- it was removed from this slot
abbrev pub IsRemovedFrom : ℕ → ℕ → State → Type 0
IsRemovedFrom incarnation slot (state.Removed own there frozen locked) = (own ≡ incarnation) × (there ≡ slot)
IsRemovedFrom incarnation slot _ = ⊥

-- the incarnation was given out before, and no add has claimed it now
abbrev pub WasGiven : ℕ → State → Type 0
WasGiven incarnation (state.Claimed own) = incarnation < own
WasGiven incarnation (state.Free last stamp) = incarnation ≤ last
WasGiven incarnation (state.Present own slot) = incarnation ≤ own
WasGiven incarnation (state.Frozen own slot) = incarnation ≤ own
WasGiven incarnation (state.Locked own slot) = incarnation ≤ own
WasGiven incarnation (state.Removed own slot frozen locked) = incarnation ≤ own

-- the source of a begin: if its object is still present, it is in this slot without marks
abbrev pub IsUnmarkedIn : ℕ → ℕ → State → Type 0
IsUnmarkedIn incarnation slot (state.Present own there) = (incarnation ≤ own) × (own ≡ incarnation → there ≡ slot)
IsUnmarkedIn incarnation slot (state.Frozen own there) = incarnation < own
IsUnmarkedIn incarnation slot (state.Locked own there) = incarnation < own
IsUnmarkedIn incarnation slot (state.Removed own there frozen locked) = incarnation ≤ own
IsUnmarkedIn incarnation slot (state.Free last stamp) = incarnation ≤ last
IsUnmarkedIn incarnation slot (state.Claimed own) = incarnation < own

-- the object is not frozen, locked or not
abbrev pub IsThawed : ℕ → State → Type 0
IsThawed incarnation (state.Frozen own slot) = own ≢ incarnation
IsThawed incarnation (state.Locked own slot) = own ≢ incarnation
IsThawed incarnation _ = Unit {0}

-- it is frozen in this slot, if at all, and not locked
abbrev pub IsFrozenIn : ℕ → ℕ → State → Type 0
IsFrozenIn incarnation slot (state.Frozen own there) = own ≡ incarnation → there ≡ slot
IsFrozenIn incarnation slot (state.Locked own there) = own ≢ incarnation
IsFrozenIn incarnation slot _ = Unit {0}

-- it has moved away from this slot, and may have been removed since, not before this epoch
abbrev pub HasMoved : ℕ → ℕ → ℕ → State → Type 0
HasMoved epoch incarnation slot (state.Present own there) = (own ≡ incarnation) × (there ≢ slot)
HasMoved epoch incarnation slot (state.Removed own there frozen locked) = (own ≡ incarnation) × (there ≢ slot)
HasMoved epoch incarnation slot (state.Free last stamp) = (last ≡ incarnation) × (epoch ≤ stamp)
HasMoved epoch incarnation slot _ = ⊥

-- it is not in this slot, unless it is locked there
abbrev pub IsElsewhere : ℕ → ℕ → State → Type 0
IsElsewhere incarnation slot (state.Present own there) = (incarnation ≤ own) × (own ≡ incarnation → there ≢ slot)
IsElsewhere incarnation slot (state.Frozen own there) = (incarnation ≤ own) × (own ≡ incarnation → there ≢ slot)
IsElsewhere incarnation slot (state.Removed own there frozen locked) = (incarnation ≤ own) × (own ≡ incarnation → there ≢ slot)
IsElsewhere incarnation slot (state.Claimed own) = incarnation < own
IsElsewhere incarnation slot (state.Locked own there) = incarnation ≤ own
IsElsewhere incarnation slot (state.Free last stamp) = incarnation ≤ last

-- a section at this epoch copies it from this slot: it is locked there, or has moved since
abbrev pub IsCopiedFrom : ℕ → ℕ → ℕ → State → Type 0
IsCopiedFrom epoch incarnation slot (state.Locked own there) = (own ≡ incarnation) × (there ≡ slot)
IsCopiedFrom epoch incarnation slot (state.Present own there) = (own ≡ incarnation) × (there ≢ slot)
IsCopiedFrom epoch incarnation slot (state.Frozen own there) = (own ≡ incarnation) × (there ≢ slot)
IsCopiedFrom epoch incarnation slot (state.Removed own there frozen locked) = (own ≡ incarnation) × (there ≢ slot)
IsCopiedFrom epoch incarnation slot (state.Free last stamp) = (last ≡ incarnation) × (epoch ≤ stamp)
IsCopiedFrom epoch incarnation slot (state.Claimed own) = ⊥

-- a slot that was left for later use
abbrev pub IsLimbo : Dir → Type 0
IsLimbo (dir.Limbo stamp) = Unit {0}
IsLimbo _ = ⊥

-- a slot that an object has, or is to have
abbrev pub IsPlaced : Dir → Type 0
IsPlaced dir.Valid = Unit {0}
IsPlaced dir.Incoming = Unit {0}
IsPlaced _ = ⊥

-- a section at this epoch holds the object in this slot, with this directory word
abbrev pub IsHeldEntry : ℕ → ℕ → ℕ → Dir → State → Type 0
IsHeldEntry epoch incarnation slot d (state.Present own there) = (own ≡ incarnation) × (there ≡ slot)
IsHeldEntry epoch incarnation slot d (state.Frozen own there) = (own ≡ incarnation) × (there ≡ slot)
IsHeldEntry epoch incarnation slot d (state.Removed own there frozen locked) = (own ≡ incarnation) × (there ≡ slot)
IsHeldEntry epoch incarnation slot d (state.Free last stamp) = (last ≡ incarnation) × (epoch ≤ stamp) × IsLimbo d
IsHeldEntry epoch incarnation slot d _ = ⊥

-- there is a round, of this collection
abbrev pub IsRoundOf : ℕ → Option RoundWord → Type 0
IsRoundOf coll None = ⊥
IsRoundOf coll (Some round) = round.coll ≡ coll
