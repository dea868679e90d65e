-- The slot rule: who owns each slot and entry, and which objects are where.
use Rattle.std.specs.Prelude.{◌≡◌, ◌↔◌, ◌⊎◌, ℕ, ◌+◌, ◌<◌, ◌≤◌, ⊤, IsTrue, IsSome, Some, None, List, slice_index}
use Rattle.smc_words.specs.declared.dir.Dir.TheVariants as dir
use Rattle.smc_words.specs.declared.number.Number.{Number}
use Rattle.smc_shape.specs.Layout.{Layout, slots_of, entries_of, width_of}
use Rattle.smc_model.specs.World.{World, Present, object_of}
use Rattle.smc_core.specs.declared.local.Opening.{Opening}
use Rattle.smc_core.specs.declared.local.Stand.{Stand}
use Rattle.smc_core.specs.declared.phase.Phase.{Phase}
use Rattle.smc_core.specs.declared.phase.Phase.TheVariants as phase
use Rattle.smc_core.specs.declared.phase.moves.BeginPhase.{BeginPhase}
use Rattle.smc_core.specs.declared.phase.moves.BeginPhase.TheVariants as begin
use Rattle.smc_core.specs.declared.phase.moves.Walk.{Walk}
use Rattle.smc_core.specs.declared.phase.objects.AddPhase.{AddPhase}
use Rattle.smc_core.specs.declared.phase.objects.AddPhase.TheVariants as add
use Rattle.smc_core.specs.declared.word.State.{State}
use Rattle.smc_core.specs.declared.word.State.TheVariants as state
use Rattle.smc_core.specs.Words.{has_object, has_object_at}
use Rattle.smc_rules.specs.Calls.{Slot, claimed_slot, claimed_number, owed_slot, owed_number, walk_over_sources, walk_over_targets}
use Rattle.smc_rules.specs.Memory.{Memory}
use Rattle.smc_rules.specs.Reads.{epoch_of_region, state_in, state_for, dir_in, back_in, forward_in, field_in, object, IsIncoming, IsClaimed, IsOwnedBy, HasRecord, IsBlankBelow}
use Rattle.smc_rules.specs.State as S

-- one pass of the region, and no other, has this in progress
pub record IsOneOf (shape : Layout) (stands : ℕ → Stand) (P : Phase → Type 0) : Type 0 where
  pub pass : ℕ
  pub within : pass < shape.passes
  pub has : P (stands pass).phase
  pub only : (other : ℕ) → other < shape.passes → P (stands other).phase → other ≡ pass

-- no two passes of the region have this in progress
abbrev pub AtMostOne : Layout → (ℕ → Stand) → (Phase → Type 0) → Type 0
AtMostOne shape stands P = (a b : ℕ) → a < shape.passes → b < shape.passes → P (stands a).phase → P (stands b).phase → a ≡ b

-- the first fields of the slot, so many of them, are these words
abbrev pub HasWordsBelow : Memory → ℕ → ℕ → List ℕ → ℕ → Type 0
HasWordsBelow memory coll slot words many = (field : ℕ) → field < many → field_in memory coll slot field ≡ slice_index words field

-- what an add has stored in its slot stands as stored, until its object is live
abbrev pub AddStands : Layout → Memory → List ℕ → AddPhase → Type 0
AddStands shape memory words (add.FindEntry coll slot entry tried) = IsClaimed memory coll slot
AddStands shape memory words (add.ClaimEntry coll slot entry tried incarnation stamp) = IsClaimed memory coll slot
AddStands shape memory words (add.DropSlot coll slot) = IsClaimed memory coll slot
AddStands shape memory words (add.StoreBack slot number) = IsClaimed memory number.coll slot
AddStands shape memory words (add.StoreField slot number field) =
    IsClaimed memory number.coll slot × IsOwnedBy memory slot number × HasWordsBelow memory number.coll slot words field
AddStands shape memory words (add.StoreValid slot number) =
    IsClaimed memory number.coll slot × IsOwnedBy memory slot number × HasWordsBelow memory number.coll slot words (width_of shape number.coll)
AddStands shape memory words (add.StoreLive slot number) =
    (dir_in memory number.coll slot ≡ dir.Valid) × IsOwnedBy memory slot number × HasWordsBelow memory number.coll slot words (width_of shape number.coll)
AddStands shape memory words _ = ⊤

-- all fields of a begin's target are blank
abbrev pub IsBlankTarget : Layout → Memory → Walk → Type 0
IsBlankTarget shape memory moves = IsBlankBelow memory moves.coll moves.target (width_of shape moves.coll)

-- what a begin has stored in its target, and in the forwarding word of its source, stands as stored, until it freezes the
-- entry or gives the target up
abbrev pub BeginStands : Layout → Memory → BeginPhase → Type 0
BeginStands shape memory (begin.BlankField moves number field) =
    IsClaimed memory moves.coll moves.target × IsBlankBelow memory moves.coll moves.target field
BeginStands shape memory (begin.StoreBack moves number) =
    IsClaimed memory moves.coll moves.target × IsBlankTarget shape memory moves
BeginStands shape memory (begin.StoreForward moves number) =
    IsClaimed memory moves.coll moves.target × IsBlankTarget shape memory moves × (back_in memory moves.coll moves.target ≡ Some number)
BeginStands shape memory (begin.StoreIncoming moves number) =
    IsClaimed memory moves.coll moves.target × IsBlankTarget shape memory moves × (back_in memory moves.coll moves.target ≡ Some number)
    × (forward_in memory moves.coll moves.source ≡ moves.target)
BeginStands shape memory (begin.Freeze moves number) =
    IsIncoming memory moves.coll moves.target × IsBlankTarget shape memory moves × (back_in memory moves.coll moves.target ≡ Some number)
    × (forward_in memory moves.coll moves.source ≡ moves.target)
BeginStands shape memory (begin.GiveUp moves) =
    IsIncoming memory moves.coll moves.target × IsBlankTarget shape memory moves × (forward_in memory moves.coll moves.source ≡ moves.target)
BeginStands shape memory _ = ⊤

-- what a call has stored stands as stored
abbrev pub StandsAsStored : Layout → Memory → List ℕ → Phase → Type 0
StandsAsStored shape memory words (phase.Add next) = AddStands shape memory words next
StandsAsStored shape memory words (phase.Begin next) = BeginStands shape memory next
StandsAsStored shape memory words _ = ⊤

-- the entry in this state has given out the incarnation, after the one with which the region opened; one that is claimed
-- has not given out its own yet
abbrev pub HasGiven : ℕ → State → ℕ → Type 0
HasGiven opened (state.Free last stamp) incarnation = (opened < incarnation) × (incarnation ≤ last)
HasGiven opened (state.Claimed own) incarnation = (opened < incarnation) × (incarnation < own)
HasGiven opened (state.Present last slot) incarnation = (opened < incarnation) × (incarnation ≤ last)
HasGiven opened (state.Frozen last slot) incarnation = (opened < incarnation) × (incarnation ≤ last)
HasGiven opened (state.Locked last slot) incarnation = (opened < incarnation) × (incarnation ≤ last)
HasGiven opened (state.Removed last slot frozen locked) incarnation = (opened < incarnation) × (incarnation ≤ last)

-- a slot in which an object is present
pub record IsHome (shape : Layout) (world : World) (memory : Memory) (slot : ℕ) (number : Number) : Type 0 where
  pub in_use : (dir_in memory number.coll slot ≡ dir.Valid) ⊎ IsIncoming memory number.coll slot
  pub owner : IsOwnedBy memory slot number
  pub record_of_it : HasRecord shape world memory slot number

-- the call has claimed the entry, or owes it, under some incarnation
abbrev pub ClaimsEntry : ℕ → ℕ → Phase → Type 0
ClaimsEntry coll entry call = (incarnation : ℕ) × (claimed_number call ≡ Some (object incarnation entry coll))

abbrev pub OwesEntry : ℕ → ℕ → Phase → Type 0
OwesEntry coll entry call = (incarnation : ℕ) × (owed_number call ≡ Some (object incarnation entry coll))

-- what holds of slots, entries and objects in every state of a region that opened so
pub record SlotRule (shape : Layout) (opening : Opening) (s : S.State) : Type 0 where
  -- a claimed slot belongs to one add or begin in progress
  pub slot_claim : (coll slot : ℕ) → slot < slots_of shape coll → IsClaimed s.memory coll slot
      → IsOneOf shape s.stands (λ call. claimed_slot call ≡ Some (coll, slot))
  -- a claimed entry belongs to one add in progress
  pub entry_claim : (coll entry incarnation : ℕ) → entry < entries_of shape coll → state_in s.memory coll entry ≡ state.Claimed incarnation
      → IsOneOf shape s.stands (λ call. claimed_number call ≡ Some (object incarnation entry coll))
  -- and no entry to two, whatever their incarnations
  pub one_claim : (coll entry : ℕ) → AtMostOne shape s.stands (ClaimsEntry coll entry)
  -- a slot or an entry that is to be left for later use is owed by one call
  pub slot_owed : (slot : Slot) → AtMostOne shape s.stands (λ call. owed_slot call ≡ Some slot)
  pub entry_owed : (coll entry : ℕ) → AtMostOne shape s.stands (OwesEntry coll entry)
  -- what adds and begins in progress have stored stands as stored
  pub stored : (pass : ℕ) → pass < shape.passes
      → StandsAsStored shape s.memory (s.stands pass).words (s.stands pass).phase
  -- the sources of a begin are above the kept blocks, and its targets in them
  pub sources : (pass : ℕ) (moves : Walk) → pass < shape.passes → walk_over_sources (s.stands pass).phase ≡ Some moves → moves.kept ≤ moves.source
  pub targets : (pass : ℕ) (moves : Walk) → pass < shape.passes → walk_over_targets (s.stands pass).phase ≡ Some moves → moves.target < moves.kept
  -- the numbers of an entry in the world are those that it has given out; others there are none
  pub numbers : (number : Number) → number.entry < entries_of shape number.coll
      → IsSome (object_of s.world number) ↔ HasGiven opening.incarnation (state_for s.memory number) number.incarnation
  pub no_others : (number : Number) → entries_of shape number.coll ≤ number.entry → object_of s.world number ≡ None
  -- a number is present exactly where its entry is its own, and not marked gone
  pub present : (number : Number) → number.entry < entries_of shape number.coll
      → Present s.world number ↔ IsTrue (has_object number.incarnation (state_for s.memory number))
  -- the slot of a present object is in use, names it, and has its record
  pub home : (number : Number) (slot : ℕ) → number.entry < entries_of shape number.coll
      → IsTrue (has_object_at number.incarnation slot (state_for s.memory number)) → IsHome shape s.world s.memory slot number
  -- no stamp is more than one epoch ahead
  pub slot_stamp : (coll slot stamp : ℕ) → slot < slots_of shape coll → dir_in s.memory coll slot ≡ dir.Limbo stamp
      → stamp ≤ epoch_of_region s.memory + 1
  pub entry_stamp : (coll entry incarnation stamp : ℕ) → entry < entries_of shape coll → state_in s.memory coll entry ≡ state.Free incarnation stamp
      → stamp ≤ epoch_of_region s.memory + 1
