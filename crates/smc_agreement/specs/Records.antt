-- What the fields of slots have to do with the records of the plain world, beside the slot rule and the relocation rule.
use Rattle.std.specs.Prelude.{◌≡◌, ◌≢◌, ◌⊎◌, ℕ, ◌<◌, ◌≤◌, Option, Some, None, IsSome, length, slice_index}
use Rattle.smc_words.specs.declared.layout.TheConstants.{BLANK}
use Rattle.smc_words.specs.declared.number.Number.{Number}
use Rattle.smc_shape.specs.Layout.{Layout, entries_of, width_of}
use Rattle.smc_model.specs.World.{object_of, is_present, word_of}
use Rattle.smc_core.specs.declared.phase.Phase.{Phase}
use Rattle.smc_core.specs.declared.phase.Phase.TheVariants as phase
use Rattle.smc_core.specs.declared.phase.moves.BeginPhase.TheVariants as begin
use Rattle.smc_core.specs.declared.phase.objects.AddPhase.TheVariants as add
use Rattle.smc_core.specs.declared.phase.objects.CopyPhase.{CopyPhase}
use Rattle.smc_core.specs.declared.word.State as E
use Rattle.smc_core.specs.declared.word.State.TheVariants as state
use Rattle.smc_core.specs.Offer.{held_slot}
use Rattle.smc_core.specs.Words.{has_object}
use Rattle.smc_rules.specs.Calls.{Slot, copying_of, copied, loaded_field}
use Rattle.smc_rules.specs.Reads.{state_in, forward_in, field_in, object}
use Rattle.smc_rules.specs.SlotRule.{HasGiven}
use Rattle.smc_rules.specs.State.{State}
use Rattle.smc_agreement.specs.Entries.{present_at}

-- the collection to which a call adds a record
abbrev pub adds_to : Phase → Option ℕ
adds_to (phase.Add (add.FindSlot coll from slot tried)) = Some coll
adds_to (phase.Add (add.ClaimSlot coll from slot tried seen)) = Some coll
adds_to (phase.Add (add.FindEntry coll slot entry tried)) = Some coll
adds_to (phase.Add (add.ClaimEntry coll slot entry tried incarnation stamp)) = Some coll
adds_to (phase.Add (add.StoreBack slot number)) = Some number.coll
adds_to (phase.Add (add.StoreField slot number field)) = Some number.coll
adds_to (phase.Add (add.StoreValid slot number)) = Some number.coll
adds_to (phase.Add (add.StoreLive slot number)) = Some number.coll
adds_to _ = None

-- the slot in which it has stored fields of an object, and how many
abbrev pub stored_by : Layout → Phase → Option ((ℕ × Number) × ℕ)
stored_by shape (phase.Add (add.StoreField slot number field)) = Some ((slot, number), field)
stored_by shape (phase.Add (add.StoreValid slot number)) = Some ((slot, number), width_of shape number.coll)
stored_by shape (phase.Add (add.StoreLive slot number)) = Some ((slot, number), width_of shape number.coll)
stored_by shape _ = None

-- the target in which a begin has blanked fields, and how many
abbrev pub blanked_by : Layout → Phase → Option (Slot × ℕ)
blanked_by shape (phase.Begin (begin.BlankField moves number field)) = Some ((moves.coll, moves.target), field)
blanked_by shape (phase.Begin (begin.StoreBack moves number)) = Some ((moves.coll, moves.target), width_of shape moves.coll)
blanked_by shape (phase.Begin (begin.StoreForward moves number)) = Some ((moves.coll, moves.target), width_of shape moves.coll)
blanked_by shape (phase.Begin (begin.StoreIncoming moves number)) = Some ((moves.coll, moves.target), width_of shape moves.coll)
blanked_by shape (phase.Begin (begin.Freeze moves number)) = Some ((moves.coll, moves.target), width_of shape moves.coll)
blanked_by shape (phase.Begin (begin.GiveUp moves)) = Some ((moves.coll, moves.target), width_of shape moves.coll)
blanked_by shape _ = None

-- the last incarnation of an entry is not before the one with which the region opened
abbrev pub IsSince : ℕ → E.State → Type 0
IsSince opened (state.Free last stamp) = opened ≤ last
IsSince opened (state.Claimed own) = opened < own
IsSince opened (state.Present own slot) = opened < own
IsSince opened (state.Frozen own slot) = opened < own
IsSince opened (state.Locked own slot) = opened < own
IsSince opened (state.Removed own slot frozen locked) = opened < own

-- fields, records and the numbers that were given, in a region whose entries opened with this incarnation
pub record RecordsAgree (opened : ℕ) (shape : Layout) (s : State) : Type 0 where
  -- the numbers of the world are those that entries have given out
  pub given_in : (c a e : ℕ) → IsSome (object_of s.world (object a e c)) → HasGiven opened (state_in s.memory c e) a
  pub given_of : (c a e : ℕ) → HasGiven opened (state_in s.memory c e) a → IsSome (object_of s.world (object a e c))
  pub no_others : (c a e : ℕ) → entries_of shape c ≤ e → object_of s.world (object a e c) ≡ None
  pub is_here : (c a e : ℕ) → is_present s.world (object a e c) ≡ has_object a (state_in s.memory c e)
  pub since : (c e : ℕ) → IsSince opened (state_in s.memory c e)
  -- no word of a record is blank
  pub values : (c a e k value : ℕ) → word_of s.world (object a e c) k ≡ Some value → value ≢ BLANK
  -- an add has a record of its collection, without blanks, and what it has stored of it stands
  pub c_record : (i c : ℕ) → i < shape.passes → adds_to (s.stands i).phase ≡ Some c → length (s.stands i).words ≡ width_of shape c
  pub c_values : (i c k : ℕ) → i < shape.passes → adds_to (s.stands i).phase ≡ Some c → k < width_of shape c → slice_index (s.stands i).words k ≢ BLANK
  pub c_stored : (i c slot a e many k : ℕ) → i < shape.passes → stored_by shape (s.stands i).phase ≡ Some ((slot, object a e c), many) → k < many → field_in s.memory c slot k ≡ slice_index (s.stands i).words k
  pub c_blanks : (i c slot many k : ℕ) → i < shape.passes → blanked_by shape (s.stands i).phase ≡ Some ((c, slot), many) → k < many → field_in s.memory c slot k ≡ BLANK
  -- the slot of an object, present or held, has its record
  pub placed_record : (c a e slot k : ℕ) → present_at (state_in s.memory c e) ≡ Some (a, slot) → k < width_of shape c → word_of s.world (object a e c) k ≡ Some (field_in s.memory c slot k)
  pub held_record : (i c a e slot k : ℕ) → i < shape.passes → held_slot (s.stands i).held (object a e c) ≡ Some slot → k < width_of shape c → word_of s.world (object a e c) k ≡ Some (field_in s.memory c slot k)
  -- the target of a frozen object is blank, that of a locked one is blank or copied
  pub frozen_blank : (c a e slot k : ℕ) → state_in s.memory c e ≡ state.Frozen a slot → k < width_of shape c → field_in s.memory c (forward_in s.memory c slot) k ≡ BLANK
  pub locked_fields : (c a e slot k : ℕ) → state_in s.memory c e ≡ state.Locked a slot → k < width_of shape c
      → (field_in s.memory c (forward_in s.memory c slot) k ≡ BLANK) ⊎ (field_in s.memory c (forward_in s.memory c slot) k ≡ field_in s.memory c slot k)
  -- one who copies has copied what it has passed, has the source's word while the move is locked, and nothing is blank once it is not
  pub j_passed : (i c a e slot k : ℕ) (next : CopyPhase) → i < shape.passes → copying_of (s.stands i).phase ≡ Some (record { number = object a e c; source = slot; next = next })
      → k < copied (width_of shape c) next → field_in s.memory c (forward_in s.memory c slot) k ≢ BLANK
  pub j_word : (i c a e slot field value : ℕ) (next : CopyPhase) → i < shape.passes → copying_of (s.stands i).phase ≡ Some (record { number = object a e c; source = slot; next = next })
      → state_in s.memory c e ≡ state.Locked a slot → loaded_field next ≡ Some (field, value) → value ≡ field_in s.memory c slot field
  pub j_fields : (i c a e slot k : ℕ) (next : CopyPhase) → i < shape.passes → copying_of (s.stands i).phase ≡ Some (record { number = object a e c; source = slot; next = next })
      → k < width_of shape c → (state_in s.memory c e ≡ state.Locked a slot) ⊎ (field_in s.memory c (forward_in s.memory c slot) k ≢ BLANK)
