-- The relocation rule: what becomes of objects that a round moves, and of those who read them meanwhile.
use Rattle.std.specs.Prelude.{◌≡◌, ◌≢◌, ◌⊎◌, ℕ, ◌+◌, ◌<◌, ◌≤◌, ⊤, true, IsTrue, IsFalse, Option, Some, None, Contains}
use Rattle.smc_words.specs.declared.dir.Dir.{Dir}
use Rattle.smc_words.specs.declared.dir.Dir.TheVariants as dir
use Rattle.smc_words.specs.declared.layout.TheConstants.{BLANK}
use Rattle.smc_words.specs.declared.number.Number.{Number}
use Rattle.smc_words.specs.declared.round.RoundWord.{RoundWord}
use Rattle.smc_shape.specs.Layout.{Layout, slots_of, entries_of, width_of}
use Rattle.smc_core.specs.declared.local.Owned.{Owned}
use Rattle.smc_core.specs.declared.local.Scan.{Scan}
use Rattle.smc_core.specs.declared.local.Stand.{Stand}
use Rattle.smc_core.specs.declared.phase.Phase.TheVariants as phase
use Rattle.smc_core.specs.declared.phase.moves.FinishPhase.{FinishPhase}
use Rattle.smc_core.specs.declared.phase.moves.FinishPhase.TheVariants as finish
use Rattle.smc_core.specs.declared.section.Section.TheVariants.{Inside}
use Rattle.smc_core.specs.declared.word.State.{State}
use Rattle.smc_core.specs.declared.word.State.TheVariants as state
use Rattle.smc_core.specs.Offer.{held_slot}
use Rattle.smc_core.specs.Section.{epoch_of}
use Rattle.smc_core.specs.Words.{has_object_at}
use Rattle.smc_rules.specs.Calls.{Copying, is_counting, has_passed, locked_target, is_finish, copying_of, loaded_target, copied, loaded_field}
use Rattle.smc_rules.specs.Reads.{round_in, state_in, state_for, dir_in, back_in, forward_in, field_in, object, IsIncoming, IsOwnedBy, HasRecord, IsBlankBelow}
use Rattle.smc_rules.specs.State as S

-- the section of this pass holds the object in this slot
abbrev pub Holds : Stand → Number → ℕ → Type 0
Holds stand number slot = held_slot stand.held number ≡ Some slot

-- no section of the region holds the object
abbrev pub IsHeldByNone : Layout → (ℕ → Stand) → Number → Type 0
IsHeldByNone shape stands number = (pass : ℕ) → pass < shape.passes → held_slot (stands pass).held number ≡ None

-- a slot with this directory word may still be read by a section at the epoch
abbrev pub MayBeRead : ℕ → Dir → Type 0
MayBeRead epoch dir.Valid = ⊤
MayBeRead epoch dir.Incoming = ⊤
MayBeRead epoch (dir.Limbo stamp) = epoch ≤ stamp
MayBeRead epoch dir.Free = ⊥
MayBeRead epoch dir.Claimed = ⊥

-- a slot that a section at the epoch has seen left
abbrev pub IsLeft : ℕ → Dir → Type 0
IsLeft epoch dir.Valid = ⊤
IsLeft epoch (dir.Limbo stamp) = epoch ≤ stamp
IsLeft epoch dir.Incoming = ⊥
IsLeft epoch dir.Free = ⊥
IsLeft epoch dir.Claimed = ⊥

-- the entry of an object that a section at the epoch holds in this slot: it is still the object's
abbrev pub IsStillOf : ℕ → ℕ → ℕ → State → Type 0
IsStillOf epoch incarnation slot (state.Free last stamp) = (last ≡ incarnation) × (epoch ≤ stamp)
IsStillOf epoch incarnation slot (state.Claimed own) = ⊥
IsStillOf epoch incarnation slot (state.Present own there) = (own ≡ incarnation) × (there ≡ slot)
IsStillOf epoch incarnation slot (state.Frozen own there) = (own ≡ incarnation) × (there ≡ slot)
IsStillOf epoch incarnation slot (state.Locked own there) = (own ≡ incarnation) × (there ≡ slot)
IsStillOf epoch incarnation slot (state.Removed own there frozen locked) = (own ≡ incarnation) × (there ≡ slot)

-- the slot in which the state says that a present object is frozen, locked or not
abbrev pub frozen_in : State → Option (ℕ × ℕ)
frozen_in (state.Frozen incarnation slot) = Some (incarnation, slot)
frozen_in (state.Locked incarnation slot) = Some (incarnation, slot)
frozen_in _ = None

-- while a calm section lasts, there is no round whose bound it is past
abbrev pub CalmBound : Layout → S.State → Type 0
CalmBound shape s = (pass own : ℕ) (round : RoundWord) → pass < shape.passes → (s.stands pass).section ≡ Inside own true
    → round_in s.memory ≡ Some round → own ≤ round.bound

-- the round word names the one pass that owns a round
pub record NamesOwner (shape : Layout) (s : S.State) : Type 0 where
  pub owner : (round : RoundWord) → round_in s.memory ≡ Some round
      → (round.pass < shape.passes) × ((s.stands round.pass).round ≡ Some (record { bound = round.bound; coll = round.coll }))
  pub only : (round : RoundWord) (pass : ℕ) (owned : Owned) → round_in s.memory ≡ Some round → pass < shape.passes
      → (s.stands pass).round ≡ Some owned → pass ≡ round.pass

-- objects are to move in the collection of the round alone, and to slots that its owner has not yet passed
pub record RoundOwner (shape : Layout) (s : S.State) : Type 0 where
  pub names : NamesOwner shape s
  pub no_round : (coll slot : ℕ) → slot < slots_of shape coll → round_in s.memory ≡ None → dir_in s.memory coll slot ≢ dir.Incoming
  pub of_its_coll : (round : RoundWord) (coll slot : ℕ) → slot < slots_of shape coll → round_in s.memory ≡ Some round
      → IsIncoming s.memory coll slot → coll ≡ round.coll
  pub none_while_it_counts : (round : RoundWord) (slot : ℕ) → slot < slots_of shape round.coll → round_in s.memory ≡ Some round
      → IsTrue (is_counting (s.stands round.pass).phase) → dir_in s.memory round.coll slot ≢ dir.Incoming
  pub none_passed : (round : RoundWord) (slot : ℕ) → slot < slots_of shape round.coll → round_in s.memory ≡ Some round
      → IsIncoming s.memory round.coll slot → IsFalse (has_passed (s.stands round.pass).phase slot)
  pub no_object_yet : (round : RoundWord) (number : Number) (slot : ℕ) → number.entry < entries_of shape number.coll
      → round_in s.memory ≡ Some round → IsIncoming s.memory number.coll slot
      → IsTrue (has_object_at number.incarnation slot (state_for s.memory number)) → locked_target (s.stands round.pass).phase ≡ Some slot

-- the one target of a frozen object, and the round that means to move it
pub record HasTarget (shape : Layout) (s : S.State) (number : Number) (slot : ℕ) : Type 0 where
  pub round : RoundWord
  pub in_progress : round_in s.memory ≡ Some round
  pub of_its_coll : round.coll ≡ number.coll
  pub below : forward_in s.memory number.coll slot < slot
  pub incoming : IsIncoming s.memory number.coll (forward_in s.memory number.coll slot)
  pub owner : IsOwnedBy s.memory (forward_in s.memory number.coll slot) number
  pub only : (target : ℕ) → target < slots_of shape number.coll → IsIncoming s.memory number.coll target → IsOwnedBy s.memory target number
      → target ≡ forward_in s.memory number.coll slot
  pub blank : state_for s.memory number ≡ state.Frozen number.incarnation slot
      → IsBlankBelow s.memory number.coll (forward_in s.memory number.coll slot) (width_of shape number.coll)
  pub holders : (pass there : ℕ) → pass < shape.passes → Holds (s.stands pass) number there → epoch_of (s.stands pass).section ≤ round.bound

-- an object that is frozen has one target, and none of its holders is past the bound of the round
abbrev pub FrozenMove : Layout → S.State → Type 0
FrozenMove shape s = (coll entry incarnation slot : ℕ) → entry < entries_of shape coll
    → frozen_in (state_in s.memory coll entry) ≡ Some (incarnation, slot) → HasTarget shape s (object incarnation entry coll) slot

-- a move that is locked
pub record IsLockedMove (shape : Layout) (s : S.State) (number : Number) (slot : ℕ) : Type 0 where
  pub round : RoundWord
  pub in_progress : round_in s.memory ≡ Some round
  pub finishes : IsTrue (is_finish (s.stands round.pass).phase)
  pub late : round.bound + 2 ≤ epoch_of (s.stands round.pass).section
  pub unheld : IsHeldByNone shape s.stands number
  pub source : HasRecord shape s.world s.memory slot number
  pub target : (field : ℕ) → field < width_of shape number.coll
      → let target : ℕ = forward_in s.memory number.coll slot in
      (field_in s.memory number.coll target field ≡ BLANK) ⊎ (field_in s.memory number.coll target field ≡ field_in s.memory number.coll slot field)

-- an object is locked by a finish that is late enough, no section holds it, and what is copied of it is its record
abbrev pub LockedMove : Layout → S.State → Type 0
LockedMove shape s = (coll entry incarnation slot : ℕ) → entry < entries_of shape coll
    → state_in s.memory coll entry ≡ state.Locked incarnation slot → IsLockedMove shape s (object incarnation entry coll) slot

-- a slot in which a section at this epoch holds an object
pub record IsHeldPlace (shape : Layout) (s : S.State) (epoch : ℕ) (number : Number) (slot : ℕ) : Type 0 where
  pub entry : IsStillOf epoch number.incarnation slot (state_for s.memory number)
  pub readable : MayBeRead epoch (dir_in s.memory number.coll slot)
  pub owner : IsOwnedBy s.memory slot number
  pub record_of_it : HasRecord shape s.world s.memory slot number

-- what a section holds keeps its place, its owner and its record while the section lasts, also once it is removed
abbrev pub HeldPlace : Layout → S.State → Type 0
HeldPlace shape s = (pass slot : ℕ) (number : Number) → pass < shape.passes → Holds (s.stands pass) number slot
    → IsHeldPlace shape s (epoch_of (s.stands pass).section) number slot

-- a move that is still to be completed, seen by one who copies
pub record StillLocked (s : S.State) (c : Copying) : Type 0 where
  pub locked : state_for s.memory c.number ≡ state.Locked c.number.incarnation c.source
  pub word : (field value : ℕ) → loaded_field c.next ≡ Some (field, value) → value ≡ field_in s.memory c.number.coll c.source field

-- a move that was completed, seen by one who copies, in a section at this epoch
pub record IsCompleted (shape : Layout) (s : S.State) (epoch : ℕ) (c : Copying) : Type 0 where
  pub moved : state_for s.memory c.number ≢ state.Locked c.number.incarnation c.source
  pub full : (field : ℕ) → field < width_of shape c.number.coll
      → field_in s.memory c.number.coll (forward_in s.memory c.number.coll c.source) field ≢ BLANK
  pub source : IsLeft epoch (dir_in s.memory c.number.coll c.source)
  pub target : MayBeRead epoch (dir_in s.memory c.number.coll (forward_in s.memory c.number.coll c.source))

-- one who copies, in a section at this epoch: its target is that of the source, and what it has passed is copied
pub record IsCopying (shape : Layout) (s : S.State) (epoch : ℕ) (c : Copying) : Type 0 where
  pub one_target : (target : ℕ) → loaded_target c.next ≡ Some target → target ≡ forward_in s.memory c.number.coll c.source
  pub passed : (field : ℕ) → field < copied (width_of shape c.number.coll) c.next
      → field_in s.memory c.number.coll (forward_in s.memory c.number.coll c.source) field ≢ BLANK
  pub either : StillLocked s c ⊎ IsCompleted shape s epoch c

-- each look-up or finish that copies does so for a locked move, or for one that was completed meanwhile
abbrev pub CopyingRule : Layout → S.State → Type 0
CopyingRule shape s = (pass : ℕ) (c : Copying) → pass < shape.passes → copying_of (s.stands pass).phase ≡ Some c
    → IsCopying shape s (epoch_of (s.stands pass).section) c

-- the source that a finish has seen swung, or whose entry another has swung for it
abbrev pub Swung : S.State → FinishPhase → ℕ → ℕ → Type 0
Swung s (finish.Move targets number source next) coll slot =
    (targets.coll ≡ coll) × (source ≡ slot) × (state_for s.memory number ≢ state.Locked number.incarnation source)
Swung s (finish.Settle targets source) coll slot = (targets.coll ≡ coll) × (source ≡ slot)
Swung s (finish.LeaveSource targets source) coll slot = (targets.coll ≡ coll) × (source ≡ slot)
Swung s _ coll slot = ⊥

-- a slot that a swing left stays valid until the finish that owes it stores limbo; no section holds an object in it
pub record SwungSource (shape : Layout) (s : S.State) : Type 0 where
  pub valid : (pass coll slot : ℕ) (next : FinishPhase) → pass < shape.passes → (s.stands pass).phase ≡ phase.Finish next
      → Swung s next coll slot → dir_in s.memory coll slot ≡ dir.Valid
  pub unheld : (pass coll slot : ℕ) (next : FinishPhase) → pass < shape.passes → (s.stands pass).phase ≡ phase.Finish next
      → Swung s next coll slot → (other : ℕ) (number : Number) → other < shape.passes → number.coll ≡ coll
      → held_slot (s.stands other).held number ≢ Some slot

-- a scan that has passed the target of a frozen object, which still has another slot, is not past the bound of the round
abbrev pub PassedTarget : Layout → S.State → Type 0
PassedTarget shape s = (pass incarnation entry slot target : ℕ) (begun : Scan) (round : RoundWord) → pass < shape.passes
    → Contains (s.stands pass).scans begun → target < begun.place → round_in s.memory ≡ Some round
    → IsIncoming s.memory begun.coll target → back_in s.memory begun.coll target ≡ Some (object incarnation entry begun.coll)
    → frozen_in (state_in s.memory begun.coll entry) ≡ Some (incarnation, slot) → slot ≢ target
    → epoch_of (s.stands pass).section ≤ round.bound

-- all parts hold together
pub record RelocationRule (shape : Layout) (s : S.State) : Type 0 where
  pub calm_bound : CalmBound shape s
  pub round_owner : RoundOwner shape s
  pub frozen_move : FrozenMove shape s
  pub locked_move : LockedMove shape s
  pub held_place : HeldPlace shape s
  pub copying : CopyingRule shape s
  pub swung_source : SwungSource shape s
  pub passed_target : PassedTarget shape s
