-- A step of an add, a remove or a scan leaves the call in its ranges.
use Rattle.std.proofs.Common.{◌≡◌, ◌<◌, ◌+◌, ℕ, true, false, not, nat_lt, Option, Some, None, List, arith}
use Rattle.std.proofs.lemmas.Bool.{ltb-true, and_parts, cond_both}
use Rattle.smc_words.specs.declared.layout.TheConstants.{COLLECTIONS, ENTRIES, INCARNATIONS}
use Rattle.smc_words.specs.declared.dir.Dir.{Dir}
use Rattle.smc_words.specs.declared.number.Number.{Number}
use Rattle.smc_words.specs.Dir.{FitsDir}
use Rattle.smc_words.specs.Number.{FitsNumber}
use Rattle.smc_shape.proofs.PlaceLaws.{coll-small}
use Rattle.smc_shape.specs.Layout.{Layout, IsShape, slots_of, entries_of, width_of}
use Rattle.smc_core.specs.declared.local.Scan.{Scan}
use Rattle.smc_core.specs.declared.phase.objects.AddPhase.{AddPhase}
use Rattle.smc_core.specs.declared.phase.objects.AddPhase.TheVariants as add
use Rattle.smc_core.specs.declared.phase.objects.RemovePhase.{RemovePhase}
use Rattle.smc_core.specs.declared.phase.objects.RemovePhase.TheVariants as remove
use Rattle.smc_core.specs.declared.phase.objects.ScanPhase.{ScanPhase}
use Rattle.smc_core.specs.declared.phase.objects.ScanPhase.TheVariants as scan
use Rattle.smc_core.specs.declared.word.State.{State}
use Rattle.smc_core.specs.declared.word.State.TheVariants as state
use Rattle.smc_core.specs.declared.word.Word.{Word}
use Rattle.smc_core.specs.declared.word.Word.TheVariants as word
use Rattle.smc_core.specs.Row.{FitsState}
use Rattle.smc_core.specs.Words.{state_of, dir_of, back_of, same_word}
use Rattle.smc_core.specs.Ripe.{is_ripe_slot, is_ripe_entry, is_ripe}
use Rattle.smc_automaton.specs.FitsPhase.{HasIncarnation, HasWords, FitsAdd, FitsRemove, FitsScan}
use Rattle.smc_automaton.specs.FitsWord.{FitsSeen}
use Rattle.smc_automaton.proofs.SeenLaws.{slot-index, entry-index, field-index, round-index, state-fits, dir-fits, ChangeFits}
use Rattle.std.proofs.lemmas.Bool.{or_parts, not-false}
use Rattle.smc_core.specs.Add.{add_offer, next_slot, next_entry, slot_seen, entry_seen, store_field, add_change}
use Rattle.smc_core.specs.Remove.{mark_seen, remove_change}
use Rattle.smc_core.specs.Scan.{owner_seen, scan_change, next_change, is_over, is_scanned}
use Rattle.smc_core.specs.Words.{is_gone}
use Rattle.smc_automaton.proofs.LookLaws.{passes-fits}

module _ (shape : Layout) (words : List ℕ) (valid : IsShape shape) where
  next_slot-fits : (coll from slot tried : ℕ) → coll < COLLECTIONS → HasWords shape words coll → from < ENTRIES → ChangeFits shape words (next_slot shape coll from slot tried)
  next_slot-fits coll from slot tried known has first =
      cond_both (nat_lt (tried + 1) (slots_of shape coll)) _ _ (ChangeFits shape words)
      (λ less. ((known, has, first, round-index (slots_of shape coll) slot (coll-small shape coll valid).0, slot-index shape coll (tried + 1) valid less), tt)) (λ _. (tt, tt))

  next_entry-fits : (coll slot entry tried : ℕ) → coll < COLLECTIONS → HasWords shape words coll → slot < ENTRIES → ChangeFits shape words (next_entry shape coll slot entry tried)
  next_entry-fits coll slot entry tried known has here =
      cond_both (nat_lt (tried + 1) (entries_of shape coll)) _ _ (ChangeFits shape words)
      (λ less. ((known, has, here, round-index (entries_of shape coll) entry (coll-small shape coll valid).1, entry-index shape coll (tried + 1) valid less), tt)) (λ _. (here, tt))

  pub slot_seen-fits : (epoch coll from slot tried : ℕ) (seen : Dir) → coll < COLLECTIONS → HasWords shape words coll → from < ENTRIES → slot < ENTRIES → tried < ENTRIES
      → FitsDir seen → ChangeFits shape words (slot_seen shape epoch coll from slot tried seen)
  slot_seen-fits epoch coll from slot tried seen known has first here few fits =
      cond_both (is_ripe_slot epoch seen) _ _ (ChangeFits shape words) (λ _. ((known, has, first, here, few, fits), tt)) (λ _. next_slot-fits coll from slot tried known has first)

  entry_seen-fits : (epoch coll slot entry tried : ℕ) (seen : State) → coll < COLLECTIONS → HasWords shape words coll → slot < ENTRIES → entry < ENTRIES → tried < ENTRIES
      → FitsState seen → ChangeFits shape words (entry_seen shape epoch coll slot entry tried seen)
  entry_seen-fits epoch coll slot entry tried (state.Free incarnation stamp) known has here there few fits =
      cond_both (is_ripe_entry epoch incarnation stamp) _ _ (ChangeFits shape words)
      (λ ripe. ((known, has, here, there, few, ltb-true (incarnation + 1) INCARNATIONS (and_parts (is_ripe epoch stamp) (nat_lt (incarnation + 1) INCARNATIONS) ripe).1, fits.1), tt))
      (λ _. next_entry-fits coll slot entry tried known has here)
  entry_seen-fits epoch coll slot entry tried (state.Claimed incarnation) known has here there few fits = next_entry-fits coll slot entry tried known has here
  entry_seen-fits epoch coll slot entry tried (state.Present incarnation other) known has here there few fits = next_entry-fits coll slot entry tried known has here
  entry_seen-fits epoch coll slot entry tried (state.Frozen incarnation other) known has here there few fits = next_entry-fits coll slot entry tried known has here
  entry_seen-fits epoch coll slot entry tried (state.Locked incarnation other) known has here there few fits = next_entry-fits coll slot entry tried known has here
  entry_seen-fits epoch coll slot entry tried (state.Removed incarnation other frozen locked) known has here there few fits = next_entry-fits coll slot entry tried known has here

  store_field-fits : (slot : ℕ) (number : Number) (field : ℕ) → slot < ENTRIES → FitsNumber number → HasWords shape words number.coll → FitsAdd shape words (store_field shape slot number field)
  store_field-fits slot number field here fits has =
      cond_both (nat_lt field (width_of shape number.coll)) _ _ (FitsAdd shape words)
      (λ less. (here, fits, has, field-index shape number.coll field valid less, omega (arith, ltb-true field (width_of shape number.coll) less, has))) (λ _. (here, fits))

  pub add-fits : (epoch : ℕ) (next : AddPhase) (w : Word) → FitsAdd shape words next → FitsSeen (add_offer words next).op w → ChangeFits shape words (add_change shape epoch words next w)
  add-fits epoch (add.FindSlot coll from slot tried) w fits seen = slot_seen-fits epoch coll from slot tried (dir_of w) fits.0 fits.1 fits.2 fits.3 fits.4 (dir-fits coll slot w seen)
  add-fits epoch (add.ClaimSlot coll from slot tried free) w fits seen =
      cond_both (same_word w (word.Directory free)) _ _ (ChangeFits shape words) (λ _. ((fits.0, fits.1, fits.3, fits.2, omega arith), tt)) (λ _. next_slot-fits coll from slot tried fits.0 fits.1 fits.2)
  add-fits epoch (add.DropSlot coll slot) w fits seen = (tt, tt)
  add-fits epoch (add.FindEntry coll slot entry tried) w fits seen =
      entry_seen-fits epoch coll slot entry tried (state_of w) fits.0 fits.1 fits.2 fits.3 fits.4 (state-fits coll entry w seen)
  add-fits epoch (add.ClaimEntry coll slot entry tried incarnation stamp) w fits seen =
      cond_both (same_word w (word.Entry (state.Free incarnation stamp))) _ _ (ChangeFits shape words)
      (λ _. ((fits.2, record { given = omega arith; incarnation = fits.5; entry = fits.3; coll = fits.0 }, fits.1), tt)) (λ _. next_entry-fits coll slot entry tried fits.0 fits.1 fits.2)
  add-fits epoch (add.StoreBack slot number) w fits seen = (store_field-fits slot number 0 fits.0 fits.1 fits.2, tt)
  add-fits epoch (add.StoreField slot number field) w fits seen = (store_field-fits slot number (field + 1) fits.0 fits.1 fits.2, tt)
  add-fits epoch (add.StoreValid slot number) w fits seen = ((fits.0, fits.1), tt)
  add-fits epoch (add.StoreLive slot number) w fits seen = (tt, tt)

  pub mark_seen-fits : (number : Number) (slot : ℕ) (seen : State) → HasIncarnation number → ChangeFits shape words (mark_seen number slot seen)
  mark_seen-fits number slot seen has = cond_both (is_gone seen) _ _ (ChangeFits shape words) (λ _. (tt, tt)) (λ _. (has, tt))

  pub remove-fits : (next : RemovePhase) → FitsRemove next → ChangeFits shape words (remove_change next)
  remove-fits (remove.LeaveSlot slot number) fits = (fits, tt)
  remove-fits (remove.FreeEntry number) fits = (tt, tt)

  owner_seen-fits : (number_of_scan coll slot : ℕ) (owner : Option Number) → slot < ENTRIES → ChangeFits shape words (owner_seen shape number_of_scan coll slot owner)
  owner_seen-fits number_of_scan coll slot None here = (passes-fits shape words valid number_of_scan coll slot, tt)
  owner_seen-fits number_of_scan coll slot (Some owner) here = (here, tt)

  pub scan-fits : (next : ScanPhase) (w : Word) → FitsScan next → ChangeFits shape words (scan_change shape next w)
  scan-fits (scan.Directory number_of_scan coll slot) w fits =
      cond_both (is_scanned (dir_of w)) _ _ (ChangeFits shape words) (λ _. (fits, tt)) (λ _. (passes-fits shape words valid number_of_scan coll slot, tt))
  scan-fits (scan.Back number_of_scan coll slot) w fits = owner_seen-fits number_of_scan coll slot (back_of w) fits
  scan-fits (scan.End number_of_scan) w fits = (tt, tt)

  -- a scan that is not over is at a slot
  place-index : (begun : Scan) → is_over shape begun ≡ false → begun.place < ENTRIES
  place-index begun goes_on =
      let left : nat_lt begun.place (slots_of shape begun.coll) ≡ true = not-false _ (or_parts begun.ended (not (nat_lt begun.place (slots_of shape begun.coll))) goes_on).1 in
      slot-index shape begun.coll begun.place valid left

  pub next_change-fits : (begun : Scan) (w : Word) → ChangeFits shape words (next_change shape begun w)
  next_change-fits begun w =
      cond_both begun.ended _ _ (ChangeFits shape words) (λ _. (tt, tt))
      (λ _. cond_both (is_over shape begun) _ _ (ChangeFits shape words) (λ _. (tt, tt)) (λ goes_on. scan-fits (scan.Directory begun.number begun.coll begun.place) w (place-index begun goes_on)))
