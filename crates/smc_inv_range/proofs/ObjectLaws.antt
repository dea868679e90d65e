-- An add, a remove and a scan stay within the region.
use Rattle.std.proofs.Common.{◌≡◌, ℕ, ◌+◌, ◌<◌, ◌≤◌, zero, suc, true, false, nat_lt, Option, Some, None, List, [], ◌∷◌, slice_index, refl, arith}
use Rattle.std.specs.Prelude.{◌^◌, IsTrue}
use Rattle.std.proofs.lemmas.Bool.Decides.{nat_tests}
use Rattle.std.proofs.lemmas.Bool.{ltb-true}
use Rattle.smc_words.specs.declared.layout.TheConstants.{INCARNATIONS}
use Rattle.smc_words.specs.declared.dir.Dir.{Dir}
use Rattle.smc_words.specs.declared.number.Number.{Number}
use Rattle.smc_words.specs.Dir.{FitsDir}
use Rattle.smc_shape.specs.Layout.{Layout, IsShape, width_of, slots_of, entries_of}
use Rattle.smc_core.specs.declared.done.Done.TheVariants as done
use Rattle.smc_core.specs.declared.phase.Phase.TheVariants as phase
use Rattle.smc_core.specs.declared.phase.objects.AddPhase.{AddPhase}
use Rattle.smc_core.specs.declared.phase.objects.AddPhase.TheVariants as add
use Rattle.smc_core.specs.declared.phase.objects.RemovePhase.{RemovePhase}
use Rattle.smc_core.specs.declared.phase.objects.RemovePhase.TheVariants as remove
use Rattle.smc_core.specs.declared.phase.objects.ScanPhase.{ScanPhase}
use Rattle.smc_core.specs.declared.phase.objects.ScanPhase.TheVariants as scan
use Rattle.smc_core.specs.declared.section.TheConstants.{LAST_EPOCH}
use Rattle.smc_core.specs.declared.word.State.{State}
use Rattle.smc_core.specs.declared.word.State.TheVariants as state
use Rattle.smc_core.specs.declared.word.Word.{Word}
use Rattle.smc_core.specs.declared.word.Word.TheVariants as word
use Rattle.smc_core.specs.Add.{has_no_blank, add_offer, add_change, slot_seen, entry_seen, next_slot, next_entry, store_field, refuses}
use Rattle.smc_core.specs.Look.{passes}
use Rattle.smc_core.specs.Remove.{remove_offer, remove_change, mark_seen}
use Rattle.smc_core.specs.Ripe.{is_ripe_entry, is_ripe_slot, next_round}
use Rattle.smc_core.specs.Scan.{is_scanned, owner_seen, scan_change, scan_offer}
use Rattle.smc_core.specs.Step.{goes, tells, goes_telling}
use Rattle.smc_core.specs.Words.{dir_of, state_of, back_of, is_gone, same_word}
use Rattle.smc_inv_range.specs.Ranges.{IsNamed, IsNumberOf, IsSlot, InState, InOp, InShown}
use Rattle.smc_inv_range.specs.Calls.{IsRecordOf, InAdd, InRemove, InScan}
use Rattle.smc_inv_range.proofs.Memories.{InBack, dir_in, state_in, back_in, slot_entry, either}
use Rattle.smc_model.specs.declared.event.Cause.TheVariants.{Slots}
use Rattle.smc_model.specs.declared.event.Event.TheVariants as event
use Rattle.smc_inv_range.proofs.LookLaws.{InChange, passes-in}

-- an add
value_small : (words : List ℕ) (k : ℕ) → IsTrue (has_no_blank words) → slice_index words k < 2 ^ 64
value_small [] k f = omega arith
value_small (v ∷ later) zero f = grind (arith, nat_tests, f)
value_small (v ∷ later) (suc k) f = value_small later k (grind (arith, nat_tests, f))

pub add_op : (shape : Layout) (words : List ℕ) (next : AddPhase) → InAdd shape words next → InOp shape (add_offer words next).op
add_op shape words (add.FindSlot coll from slot tried) f = f.2
add_op shape words (add.ClaimSlot coll from slot tried seen) f = (f.2, f.3, tt)
add_op shape words (add.DropSlot coll slot) f = (f, tt)
add_op shape words (add.FindEntry coll slot entry tried) f = f.2
add_op shape words (add.ClaimEntry coll slot entry tried incarnation stamp) f = (f.2, (omega (arith, f.3), f.4), f.3)
add_op shape words (add.StoreBack slot number) f = (f.1, f.2)
add_op shape words (add.StoreField slot number field) f = ((f.1, f.3), value_small words field f.0.values)
add_op shape words (add.StoreValid slot number) f = (f.0, tt)
add_op shape words (add.StoreLive slot number) f = (f.1.entry, (f.1.incarnation, f.0))

next_round_lt : (many index : ℕ) → index < many → next_round many index < many
next_round_lt many index lt = either (λ n. n < many) (nat_lt (index + 1) many) (index + 1) 0 (λ t. ltb-true (index + 1) many t) (λ n. omega (arith, lt))

module _ (shape : Layout) (words : List ℕ) (valid : IsShape shape) where
  next_slot-in : (coll from slot tried : ℕ) → IsRecordOf shape coll words → IsSlot shape coll from → IsSlot shape coll slot
      → InChange shape words (next_slot shape coll from slot tried)
  next_slot-in coll from slot tried r a s =
      either (InChange shape words) (nat_lt (tried + 1) (slots_of shape coll))
      (goes (phase.Add (add.FindSlot coll from (next_round (slots_of shape coll) slot) (tried + 1)))) (refuses coll Slots)
      (λ t. ((r, a, next_round_lt (slots_of shape coll) slot s), tt)) (λ n. (tt, tt))

  next_entry-in : (coll slot entry tried : ℕ) → IsRecordOf shape coll words → IsSlot shape coll slot → entry < entries_of shape coll
      → InChange shape words (next_entry shape coll slot entry tried)
  next_entry-in coll slot entry tried r s e =
      either (InChange shape words) (nat_lt (tried + 1) (entries_of shape coll))
      (goes (phase.Add (add.FindEntry coll slot (next_round (entries_of shape coll) entry) (tried + 1)))) (goes (phase.Add (add.DropSlot coll slot)))
      (λ t. ((r, s, next_round_lt (entries_of shape coll) entry e), tt)) (λ n. (s, tt))

  pub slot_seen-in : (epoch coll from slot tried : ℕ) (seen : Dir) → IsRecordOf shape coll words → IsSlot shape coll from → IsSlot shape coll slot → FitsDir seen
      → InChange shape words (slot_seen shape epoch coll from slot tried seen)
  slot_seen-in epoch coll from slot tried seen r a s d =
      either (InChange shape words) (is_ripe_slot epoch seen) (goes (phase.Add (add.ClaimSlot coll from slot tried seen))) (next_slot shape coll from slot tried)
      (λ t. ((r, a, s, d), tt)) (λ n. next_slot-in coll from slot tried r a s)

  ripe_low : (epoch incarnation stamp : ℕ) → is_ripe_entry epoch incarnation stamp ≡ true → incarnation + 1 < INCARNATIONS
  ripe_low epoch incarnation stamp t = grind (arith, nat_tests, t)

  entry_seen-in : (epoch coll slot entry tried : ℕ) (seen : State) → IsRecordOf shape coll words → IsSlot shape coll slot → entry < entries_of shape coll → InState shape coll seen
      → InChange shape words (entry_seen shape epoch coll slot entry tried seen)
  entry_seen-in epoch coll slot entry tried (state.Free incarnation stamp) r s e d =
      either (InChange shape words) (is_ripe_entry epoch incarnation stamp) (goes (phase.Add (add.ClaimEntry coll slot entry tried incarnation stamp))) (next_entry shape coll slot entry tried)
      (λ t. ((r, s, e, ripe_low epoch incarnation stamp t, d.1), tt)) (λ n. next_entry-in coll slot entry tried r s e)
  entry_seen-in epoch coll slot entry tried (state.Claimed incarnation) r s e d = next_entry-in coll slot entry tried r s e
  entry_seen-in epoch coll slot entry tried (state.Present incarnation there) r s e d = next_entry-in coll slot entry tried r s e
  entry_seen-in epoch coll slot entry tried (state.Frozen incarnation there) r s e d = next_entry-in coll slot entry tried r s e
  entry_seen-in epoch coll slot entry tried (state.Locked incarnation there) r s e d = next_entry-in coll slot entry tried r s e
  entry_seen-in epoch coll slot entry tried (state.Removed incarnation there frozen locked) r s e d = next_entry-in coll slot entry tried r s e

  store_field-in : (slot : ℕ) (number : Number) (field : ℕ) → IsRecordOf shape number.coll words → IsSlot shape number.coll slot → IsNumberOf shape number.coll number
      → InAdd shape words (store_field shape slot number field)
  store_field-in slot number field r s n =
      either (InAdd shape words) (nat_lt field (width_of shape number.coll)) (add.StoreField slot number field) (add.StoreValid slot number)
      (λ t. (r, s, n, ltb-true field (width_of shape number.coll) t)) (λ u. (s, n))

  new_number : (coll entry incarnation : ℕ) → incarnation + 1 < INCARNATIONS → entry < entries_of shape coll
      → IsNumberOf shape coll (record { incarnation = incarnation + 1; entry = entry; coll = coll })
  new_number coll entry incarnation low e = record { given = omega arith; incarnation = low; entry = e; home = refl }

  pub add-in : (epoch : ℕ) (next : AddPhase) (w : Word) → InAdd shape words next → InShown shape (add_offer words next).op w
      → InChange shape words (add_change shape epoch words next w)
  add-in epoch (add.FindSlot coll from slot tried) w f s = slot_seen-in epoch coll from slot tried (dir_of w) f.0 f.1 f.2 (dir_in shape coll slot w s)
  add-in epoch (add.ClaimSlot coll from slot tried seen) w f s =
      either (InChange shape words) (same_word w (word.Directory seen)) (goes (phase.Add (add.FindEntry coll slot from 0))) (next_slot shape coll from slot tried)
      (λ t. ((f.0, f.2, slot_entry shape coll from valid f.1), tt)) (λ n. next_slot-in coll from slot tried f.0 f.1 f.2)
  add-in epoch (add.DropSlot coll slot) w f s = (tt, tt)
  add-in epoch (add.FindEntry coll slot entry tried) w f s = entry_seen-in epoch coll slot entry tried (state_of w) f.0 f.1 f.2 (state_in shape coll entry w s)
  add-in epoch (add.ClaimEntry coll slot entry tried incarnation stamp) w f s =
      either (InChange shape words) (same_word w (word.Entry (state.Free incarnation stamp)))
      (goes (phase.Add (add.StoreBack slot (record { incarnation = incarnation + 1; entry = entry; coll = coll })))) (next_entry shape coll slot entry tried)
      (λ t. ((f.0, f.1, new_number coll entry incarnation f.3 f.2), tt)) (λ n. next_entry-in coll slot entry tried f.0 f.1 f.2)
  add-in epoch (add.StoreBack slot number) w f s = (store_field-in slot number 0 f.0 f.1 f.2, tt)
  add-in epoch (add.StoreField slot number field) w f s = (store_field-in slot number (field + 1) f.0 f.1 f.2, tt)
  add-in epoch (add.StoreValid slot number) w f s = (f, tt)
  add-in epoch (add.StoreLive slot number) w f s = (tt, tt)

-- a remove
pub remove_op : (shape : Layout) (epoch : ℕ) (next : RemovePhase) → epoch ≤ LAST_EPOCH → InRemove shape next → InOp shape (remove_offer epoch next).op
remove_op shape epoch (remove.LeaveSlot slot number) low f = (f.0, omega (arith, low))
remove_op shape epoch (remove.FreeEntry number) low f = (f.entry, (f.incarnation, omega (arith, low)))

pub remove-in : (shape : Layout) (words : List ℕ) (next : RemovePhase) → InRemove shape next → InChange shape words (remove_change next)
remove-in shape words (remove.LeaveSlot slot number) f = (f.1, tt)
remove-in shape words (remove.FreeEntry number) f = (tt, tt)

pub mark_seen-in : (shape : Layout) (words : List ℕ) (number : Number) (slot : ℕ) (seen : State) → IsNamed shape number → IsSlot shape number.coll slot
    → InChange shape words (mark_seen number slot seen)
mark_seen-in shape words number slot seen n s =
    either (InChange shape words) (is_gone seen) (tells (event.Remove number false) done.Late) (goes_telling (event.Remove number true) (phase.Remove (remove.LeaveSlot slot number)))
    (λ t. (tt, tt)) (λ u. ((s, n), tt))

-- a scan on its way
pub scan_op : (shape : Layout) (pass : ℕ) (next : ScanPhase) → pass < shape.passes → InScan shape next → InOp shape (scan_offer pass next).op
scan_op shape pass (scan.Directory k coll slot) within f = f
scan_op shape pass (scan.Back k coll slot) within f = f
scan_op shape pass (scan.End k) within f = within

owner_seen-in : (shape : Layout) (words : List ℕ) (k coll slot : ℕ) (owner : Option Number) → IsSlot shape coll slot → InBack shape coll owner
    → InChange shape words (owner_seen shape k coll slot owner)
owner_seen-in shape words k coll slot None s b = (passes-in shape words k coll slot, tt)
owner_seen-in shape words k coll slot (Some owner) s b = ((s, b.entry), tt)

pub scan-in : (shape : Layout) (words : List ℕ) (pass : ℕ) (next : ScanPhase) (w : Word) → InScan shape next → InShown shape (scan_offer pass next).op w
    → InChange shape words (scan_change shape next w)
scan-in shape words pass (scan.Directory k coll slot) w f s =
    either (InChange shape words) (is_scanned (dir_of w)) (goes (phase.Scan (scan.Back k coll slot))) (goes (passes shape k coll slot))
    (λ t. (f, tt)) (λ n. (passes-in shape words k coll slot, tt))
scan-in shape words pass (scan.Back k coll slot) w f s = owner_seen-in shape words k coll slot (back_of w) f (back_in shape coll slot w s)
scan-in shape words pass (scan.End k) w f s = (tt, tt)
