-- What else holds of words and calls in every state, so that the slot rule and the relocation rule are kept by each step.
--
-- Nobody has to believe these: they are here because the rules do not follow from themselves alone.
use Rattle.std.specs.Prelude.{◌≡◌, ◌≢◌, ◌⊎◌, ℕ, ◌+◌, ◌<◌, ◌≤◌, Some}
use Rattle.smc_words.specs.declared.dir.Dir.TheVariants as dir
use Rattle.smc_words.specs.declared.round.RoundWord.{RoundWord}
use Rattle.smc_shape.specs.Layout.{Layout, slots_of}
use Rattle.smc_core.specs.declared.phase.objects.CopyPhase.{CopyPhase}
use Rattle.smc_core.specs.declared.section.Section.{Section}
use Rattle.smc_core.specs.declared.section.Section.TheVariants.{Inside}
use Rattle.smc_core.specs.declared.word.State.TheVariants as state
use Rattle.smc_core.specs.Offer.{held_slot}
use Rattle.smc_core.specs.Section.{epoch_of}
use Rattle.smc_rules.specs.Calls.{claimed_slot, claimed_number, copying_of}
use Rattle.smc_rules.specs.Memory.{Memory}
use Rattle.smc_rules.specs.Reads.{epoch_of_region, round_in, state_in, dir_in, back_in, forward_in, object}
use Rattle.smc_rules.specs.RelocationRule.{MayBeRead, IsLeft}
use Rattle.smc_rules.specs.State.{State}
use Rattle.smc_agreement.specs.Entries.{stands_at, present_at, unlocked_at, IsRemoved, IsRemovedFrom, WasGiven, IsUnmarkedIn, IsThawed, IsFrozenIn, HasMoved, IsElsewhere, IsCopiedFrom, IsPlaced, IsHeldEntry, IsRoundOf}
use Rattle.smc_agreement.specs.Parts.{Owns, CallKnows, named_by, target_of, lives_in, leads_from, origin_of, unled_source, given_up_by, tried_by, removed_by, leaving_of, freeing_of, source_left, swung_source, settled_by, settled_target, moving_to, locks_of, copied_by, abandons_from, aim_of, HasMet, MayMeet}

-- a section at this epoch holds the object in this slot: the slot names it, may still be read, and the entry is still its own
abbrev pub IsHeldIn : Memory → ℕ → ℕ → ℕ → ℕ → ℕ → Type 0
IsHeldIn memory epoch coll incarnation entry slot =
    (back_in memory coll slot ≡ Some (object incarnation entry coll)) × MayBeRead epoch (dir_in memory coll slot)
    × IsHeldEntry epoch incarnation slot (dir_in memory coll slot) (state_in memory coll entry)

-- only a section in which calls are made holds objects
abbrev pub IsHeldBy : Memory → Section → ℕ → ℕ → ℕ → ℕ → Type 0
IsHeldBy memory (Inside epoch calm) coll incarnation entry slot = IsHeldIn memory epoch coll incarnation entry slot
IsHeldBy memory _ coll incarnation entry slot = ⊥

-- a frozen object has a round, and its target below it, which names it
abbrev pub HasAim : Memory → ℕ → ℕ → ℕ → ℕ → Type 0
HasAim memory coll incarnation entry slot =
    IsRoundOf coll (round_in memory) × (dir_in memory coll (forward_in memory coll slot) ≡ dir.Incoming)
    × (back_in memory coll (forward_in memory coll slot) ≡ Some (object incarnation entry coll)) × (forward_in memory coll slot < slot)

-- what a call in progress knows of words, for each pass
pub record CallsAgree (shape : Layout) (s : State) : Type 0 where
  -- a call is made in a section; the owner's calls are those of its round; what is to be claimed was ripe
  pub calls : (i : ℕ) → i < shape.passes → CallKnows (s.stands i).section (s.stands i).round (s.stands i).phase
  -- what a call has claimed is claimed
  pub c_slot : (i c slot : ℕ) → i < shape.passes → claimed_slot (s.stands i).phase ≡ Some (c, slot) → dir_in s.memory c slot ≡ dir.Claimed
  pub c_entry : (i c a e : ℕ) → i < shape.passes → claimed_number (s.stands i).phase ≡ Some (object a e c) → state_in s.memory c e ≡ state.Claimed a
  -- what it has stored or seen of owners, targets and forwarding words still stands
  pub c_named : (i c slot a e : ℕ) → i < shape.passes → named_by (s.stands i).phase ≡ Some (slot, object a e c) → back_in s.memory c slot ≡ Some (object a e c)
  pub c_target : (i c slot : ℕ) → i < shape.passes → target_of (s.stands i).phase ≡ Some (c, slot) → dir_in s.memory c slot ≡ dir.Incoming
  pub c_lives : (i c slot a e : ℕ) → i < shape.passes → lives_in (s.stands i).phase ≡ Some (slot, object a e c) → dir_in s.memory c slot ≡ dir.Valid
  pub c_leads : (i c slot target : ℕ) → i < shape.passes → leads_from (s.stands i).phase ≡ Some ((c, slot), target) → forward_in s.memory c slot ≡ target
  -- the source of a begin is not claimed by others, and its object gets no mark but this begin's
  pub c_origin : (i c slot a e : ℕ) → i < shape.passes → origin_of (s.stands i).phase ≡ Some (slot, object a e c) → IsUnmarkedIn a slot (state_in s.memory c e)
  pub c_source : (i c slot a e : ℕ) → i < shape.passes → origin_of (s.stands i).phase ≡ Some (slot, object a e c) → back_in s.memory c slot ≡ Some (object a e c)
  pub c_resting : (i c slot a e : ℕ) → i < shape.passes → origin_of (s.stands i).phase ≡ Some (slot, object a e c) → IsLeft (epoch_of (s.stands i).section) (dir_in s.memory c slot)
  -- a target is given up only where its object is not frozen; one that was seen frozen is frozen there, if at all
  pub c_loose : (i c slot a e : ℕ) → i < shape.passes → given_up_by (s.stands i).phase ≡ Some (c, slot) → back_in s.memory c slot ≡ Some (object a e c) → IsThawed a (state_in s.memory c e)
  pub c_tries : (i c slot a e : ℕ) → i < shape.passes → tried_by (s.stands i).phase ≡ Some (slot, object a e c) → IsFrozenIn a slot (state_in s.memory c e)
  -- a first remove has its object removed, in a slot that it has left or has still to leave
  pub c_removes : (i c a e : ℕ) → i < shape.passes → removed_by (s.stands i).phase ≡ Some (object a e c) → IsRemoved a (state_in s.memory c e)
  pub c_leaving : (i c slot a e : ℕ) → i < shape.passes → leaving_of (s.stands i).phase ≡ Some (slot, object a e c) → IsRemovedFrom a slot (state_in s.memory c e)
  pub c_limbos : (i c slot a e : ℕ) → i < shape.passes → leaving_of (s.stands i).phase ≡ Some (slot, object a e c) → IsPlaced (dir_in s.memory c slot)
  pub c_frees : (i c slot a e : ℕ) → i < shape.passes → freeing_of (s.stands i).phase ≡ Some (object a e c) → stands_at (state_in s.memory c e) ≡ Some (a, slot) → dir_in s.memory c slot ≡ dir.Limbo (epoch_of (s.stands i).section + 1)
  -- the source of a locked move stays valid until its finish leaves it, and its owner is not in it but while it is locked
  pub c_leaves : (i c slot : ℕ) → i < shape.passes → source_left (s.stands i).phase ≡ Some (c, slot) → dir_in s.memory c slot ≡ dir.Valid
  pub c_apart : (i c slot a e : ℕ) → i < shape.passes → source_left (s.stands i).phase ≡ Some (c, slot) → back_in s.memory c slot ≡ Some (object a e c) → IsElsewhere a slot (state_in s.memory c e)
  pub c_moved : (i c slot a e : ℕ) → i < shape.passes → swung_source (s.stands i).phase ≡ Some (c, slot) → back_in s.memory c slot ≡ Some (object a e c) → HasMoved (epoch_of (s.stands i).section) a slot (state_in s.memory c e)
  -- the target of a move that is to be settled may still be read, is another slot, and names the same owner while it is a target
  pub c_ends : (i c slot target : ℕ) → i < shape.passes → settled_by (s.stands i).phase ≡ Some ((c, slot), target) → MayBeRead (epoch_of (s.stands i).section) (dir_in s.memory c target) × (slot ≢ target) × (dir_in s.memory c target ≡ dir.Incoming → back_in s.memory c target ≡ back_in s.memory c slot)
  pub c_passed : (i c slot : ℕ) → i < shape.passes → settled_target (s.stands i).phase ≡ Some (c, slot) → dir_in s.memory c slot ≢ dir.Incoming

-- what one who copies knows
pub record CopiesAgree (shape : Layout) (s : State) : Type 0 where
  pub j_named : (i c a e slot : ℕ) (next : CopyPhase) → i < shape.passes → copying_of (s.stands i).phase ≡ Some (record { number = object a e c; source = slot; next = next }) → back_in s.memory c slot ≡ Some (object a e c)
  pub j_led : (i c a e slot : ℕ) (next : CopyPhase) → i < shape.passes → copying_of (s.stands i).phase ≡ Some (record { number = object a e c; source = slot; next = next }) → (forward_in s.memory c slot ≡ aim_of s.memory c slot next) × (slot ≢ forward_in s.memory c slot)
  pub j_entry : (i c a e slot : ℕ) (next : CopyPhase) → i < shape.passes → copying_of (s.stands i).phase ≡ Some (record { number = object a e c; source = slot; next = next }) → IsCopiedFrom (epoch_of (s.stands i).section) a slot (state_in s.memory c e)
  pub j_locked : (i c a e slot : ℕ) (next : CopyPhase) → i < shape.passes → copying_of (s.stands i).phase ≡ Some (record { number = object a e c; source = slot; next = next }) → state_in s.memory c e ≡ state.Locked a slot → (dir_in s.memory c slot ≡ dir.Valid) × (dir_in s.memory c (forward_in s.memory c slot) ≡ dir.Incoming)
  pub j_left : (i c a e slot : ℕ) (next : CopyPhase) → i < shape.passes → copying_of (s.stands i).phase ≡ Some (record { number = object a e c; source = slot; next = next }) → IsLeft (epoch_of (s.stands i).section) (dir_in s.memory c slot)
  pub j_for : (i c a e slot : ℕ) (next : CopyPhase) → i < shape.passes → copying_of (s.stands i).phase ≡ Some (record { number = object a e c; source = slot; next = next }) → MayBeRead (epoch_of (s.stands i).section) (dir_in s.memory c (forward_in s.memory c slot))
  pub j_back : (i c a e slot : ℕ) (next : CopyPhase) → i < shape.passes → copying_of (s.stands i).phase ≡ Some (record { number = object a e c; source = slot; next = next }) → dir_in s.memory c (forward_in s.memory c slot) ≡ dir.Incoming → back_in s.memory c (forward_in s.memory c slot) ≡ Some (object a e c)

-- what is claimed or removed belongs to one call
pub record ClaimsAgree (shape : Layout) (s : State) : Type 0 where
  pub one_slot : (i j c slot : ℕ) → i < shape.passes → j < shape.passes → claimed_slot (s.stands i).phase ≡ Some (c, slot) → claimed_slot (s.stands j).phase ≡ Some (c, slot) → i ≡ j
  pub one_entry : (i j c a b e : ℕ) → i < shape.passes → j < shape.passes → claimed_number (s.stands i).phase ≡ Some (object a e c) → claimed_number (s.stands j).phase ≡ Some (object b e c) → i ≡ j
  pub one_gone : (i j c a b e : ℕ) → i < shape.passes → j < shape.passes → removed_by (s.stands i).phase ≡ Some (object a e c) → removed_by (s.stands j).phase ≡ Some (object b e c) → i ≡ j
  pub claimed : (c slot : ℕ) → dir_in s.memory c slot ≡ dir.Claimed → (i : ℕ) × (i < shape.passes) × (claimed_slot (s.stands i).phase ≡ Some (c, slot))
  pub taken : (c a e : ℕ) → state_in s.memory c e ≡ state.Claimed a → (i : ℕ) × (i < shape.passes) × (claimed_number (s.stands i).phase ≡ Some (object a e c))
  pub removed : (c a e : ℕ) → IsRemoved a (state_in s.memory c e) → (i : ℕ) × (i < shape.passes) × (removed_by (s.stands i).phase ≡ Some (object a e c))

-- where objects stand, and who holds them
pub record ObjectsAgree (shape : Layout) (s : State) : Type 0 where
  -- the slot of an object names it, until its entry is free; that of a present one is in use
  pub standing : (c a e slot : ℕ) → stands_at (state_in s.memory c e) ≡ Some (a, slot) → back_in s.memory c slot ≡ Some (object a e c)
  pub placed : (c a e slot : ℕ) → present_at (state_in s.memory c e) ≡ Some (a, slot) → IsPlaced (dir_in s.memory c slot)
  -- what a section holds keeps its place, also for two sections
  pub held : (i c a e slot : ℕ) → i < shape.passes → held_slot (s.stands i).held (object a e c) ≡ Some slot → IsHeldBy s.memory (s.stands i).section c a e slot
  pub one_held : (i j c a e slot there : ℕ) → i < shape.passes → j < shape.passes → held_slot (s.stands i).held (object a e c) ≡ Some slot → held_slot (s.stands j).held (object a e c) ≡ Some there → slot ≡ there
  -- no stamp is more than one epoch ahead
  pub stamp_dir : (c slot stamp : ℕ) → dir_in s.memory c slot ≡ dir.Limbo stamp → stamp ≤ epoch_of_region s.memory + 1
  pub stamp_entry : (c e a stamp : ℕ) → state_in s.memory c e ≡ state.Free a stamp → stamp ≤ epoch_of_region s.memory + 1

-- what becomes of the targets of a round
pub record MovesAgree (shape : Layout) (s : State) : Type 0 where
  -- an object that stands in a target is there by the finish that has not settled it yet
  pub standing_in : (i c a e slot : ℕ) → i < shape.passes → Owns (s.stands i).round → stands_at (state_in s.memory c e) ≡ Some (a, slot) → dir_in s.memory c slot ≡ dir.Incoming → moving_to (s.stands i).phase ≡ Some (c, slot)
  -- a target is one of the round's collection, and of an object that was given its number
  pub incoming_round : (c slot : ℕ) → dir_in s.memory c slot ≡ dir.Incoming → IsRoundOf c (round_in s.memory)
  pub incoming_in : (c slot : ℕ) → dir_in s.memory c slot ≡ dir.Incoming → slot < slots_of shape c
  pub incoming_known : (c slot a e : ℕ) → dir_in s.memory c slot ≡ dir.Incoming → back_in s.memory c slot ≡ Some (object a e c) → WasGiven a (state_in s.memory c e)
  -- the forwarding word of its object, if that is present elsewhere, names the target
  pub incoming_fwd : (c target a e slot : ℕ) → dir_in s.memory c target ≡ dir.Incoming → back_in s.memory c target ≡ Some (object a e c) → present_at (state_in s.memory c e) ≡ Some (a, slot) → (forward_in s.memory c slot ≡ target) ⊎ (slot ≡ target)
  -- the owner of the round may still meet it, and a begin has passed its source
  pub unpassed : (i c slot : ℕ) → i < shape.passes → Owns (s.stands i).round → dir_in s.memory c slot ≡ dir.Incoming → MayMeet (s.stands i).phase slot
  pub ahead : (i c target a e slot : ℕ) → i < shape.passes → dir_in s.memory c target ≡ dir.Incoming → back_in s.memory c target ≡ Some (object a e c) → unlocked_at (state_in s.memory c e) ≡ Some (a, slot) → HasMet (s.stands i).phase slot
  -- a frozen object has its target; whoever holds it, copies it, or means to abandon its move from another slot is not past the bound of the round
  pub frozen : (c a e slot : ℕ) → state_in s.memory c e ≡ state.Frozen a slot → HasAim s.memory c a e slot
  pub frozen_held : (i c a e slot there : ℕ) (round : RoundWord) → i < shape.passes → state_in s.memory c e ≡ state.Frozen a slot → round_in s.memory ≡ Some round → held_slot (s.stands i).held (object a e c) ≡ Some there → epoch_of (s.stands i).section ≤ round.bound
  pub frozen_copy : (i c a e slot : ℕ) (round : RoundWord) → i < shape.passes → state_in s.memory c e ≡ state.Frozen a slot → round_in s.memory ≡ Some round → copied_by (s.stands i).phase ≡ Some (object a e c) → epoch_of (s.stands i).section ≤ round.bound
  pub abandon : (i c a e slot there : ℕ) (round : RoundWord) → i < shape.passes → abandons_from (s.stands i).phase ≡ Some (there, object a e c) → state_in s.memory c e ≡ state.Frozen a slot → round_in s.memory ≡ Some round → (slot ≡ there) ⊎ (epoch_of (s.stands i).section ≤ round.bound)
  -- a locked one too, and it is locked by the finish of the round's owner
  pub locked : (c a e slot : ℕ) → state_in s.memory c e ≡ state.Locked a slot → HasAim s.memory c a e slot
  pub locked_owner : (i c a e slot : ℕ) → i < shape.passes → Owns (s.stands i).round → state_in s.memory c e ≡ state.Locked a slot → locks_of (s.stands i).phase ≡ Some (forward_in s.memory c slot, object a e c)
  -- nobody copies from a source whose forwarding word is still to be stored
  pub begin_copy : (i j c slot a e source : ℕ) (next : CopyPhase) → i < shape.passes → j < shape.passes → unled_source (s.stands i).phase ≡ Some (c, slot) → copying_of (s.stands j).phase ≡ Some (record { number = object a e c; source = source; next = next }) → slot ≢ source

-- all parts together
pub record Agreement (shape : Layout) (s : State) : Type 0 where
  pub calls : CallsAgree shape s
  pub copies : CopiesAgree shape s
  pub claims : ClaimsAgree shape s
  pub objects : ObjectsAgree shape s
  pub moves : MovesAgree shape s
