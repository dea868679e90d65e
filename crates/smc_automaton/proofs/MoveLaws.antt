-- A step of a survey, a begin, a finish or a cancel leaves the call in its ranges.
use Rattle.std.proofs.Common.{◌<◌, ◌≤◌, ◌+◌, ◌*◌, ◌==◌, ℕ, Bool, true, false, nat_lt, nat_le, Option, Some, None, List, arith}
use Rattle.std.proofs.lemmas.Bool.{ltb-true, eqb-true, cond_both}
use Rattle.smc_words.specs.declared.layout.TheConstants.{ENTRIES}
use Rattle.smc_words.specs.declared.number.Number.{Number}
use Rattle.smc_words.specs.Number.{FitsNumber}
use Rattle.smc_shape.specs.Layout.{Layout, IsShape, slots_of, width_of}
use Rattle.smc_shape.specs.declared.coll.TheConstants.{BLOCK_SLOTS}
use Rattle.smc_core.specs.declared.phase.moves.BeginPhase.{BeginPhase}
use Rattle.smc_core.specs.declared.phase.moves.BeginPhase.TheVariants as begin
use Rattle.smc_core.specs.declared.phase.moves.CancelPhase.{CancelPhase}
use Rattle.smc_core.specs.declared.phase.moves.CancelPhase.TheVariants as cancel
use Rattle.smc_core.specs.declared.phase.moves.Count.{Count}
use Rattle.smc_core.specs.declared.phase.moves.Counting.{Counting}
use Rattle.smc_core.specs.declared.phase.moves.Counting.TheVariants.{Walks, Counted}
use Rattle.smc_core.specs.declared.phase.moves.CountPhase.{CountPhase}
use Rattle.smc_core.specs.declared.phase.moves.CountPhase.TheVariants as walk
use Rattle.smc_core.specs.declared.phase.moves.FinishPhase.{FinishPhase}
use Rattle.smc_core.specs.declared.phase.moves.FinishPhase.TheVariants as finish
use Rattle.smc_core.specs.declared.phase.moves.Targets.{Targets}
use Rattle.smc_core.specs.declared.phase.moves.Walk.{Walk}
use Rattle.smc_core.specs.declared.phase.objects.CopyPhase.{CopyPhase}
use Rattle.smc_core.specs.declared.phase.objects.CopyPhase.TheVariants as copy
use Rattle.smc_core.specs.declared.word.State.{State}
use Rattle.smc_core.specs.declared.word.State.TheVariants as state
use Rattle.smc_core.specs.declared.word.Word.{Word}
use Rattle.smc_core.specs.declared.word.Word.TheVariants as word
use Rattle.smc_core.specs.Row.{FitsState}
use Rattle.smc_core.specs.Words.{state_of, dir_of, back_of, same_word, has_object_at}
use Rattle.smc_core.specs.Ripe.{is_ripe_slot}
use Rattle.smc_automaton.specs.FitsPhase.{HasIncarnation, FitsCount, FitsCounting, FitsWalk, FitsTarget, FitsBegin, FitsTargets, FitsFinish, FitsCancel}
use Rattle.smc_automaton.specs.FitsWord.{FitsSeen}
use Rattle.smc_automaton.proofs.SeenLaws.{slot-index, field-index, state-fits, dir-fits, OwnerFits, back-fits, ChangeFits}
use Rattle.smc_core.specs.Begin.{begin_offer, to_source, next_source, to_target, past_target, with_move, first_walk, begin_counting, source_owner, blank_field, begin_change, is_source}
use Rattle.smc_core.specs.Cancel.{cancel_offer, next_cancelled, cancel_owner, unfreeze, cancel_change}
use Rattle.smc_core.specs.Count.{block_of, blocks_for, with_object, count_next, count_owner, counting, survey_change, is_valid}
use Rattle.smc_core.specs.Finish.{finish_offer, next_target, with_moved, with_given_up, target_owner, frozen_slot, lock, «move», finish_next, finish_change, is_incoming}
use Rattle.smc_automaton.proofs.LookLaws.{copy_next-fits}

count-weaker : (slot : ℕ) (count : Count) → FitsCount slot count → FitsCount (slot + 1) count
count-weaker slot count fits = (omega (arith, fits.0), fits.1)

with_object-fits : (slot : ℕ) (count : Count) → FitsCount slot count → FitsCount (slot + 1) (with_object slot count)
with_object-fits slot count fits =
    (omega (arith, fits.0), cond_both (nat_lt (block_of slot) count.next) count.blocks (count.blocks + 1) (λ blocks. blocks ≤ count.objects + 1) (λ _. omega (arith, fits.1)) (λ _. omega (arith, fits.1)))

-- a walk that goes on fits
abbrev pub WalkFits : Counting → Type 0
WalkFits (Walks next) = FitsCounting next
WalkFits (Counted coll count) = Unit {0}

-- the slot in which an object is frozen, if it is, is an index, and its number has its incarnation
abbrev FrozenFits : Number → Option ℕ → Type 0
FrozenFits number None = Unit {0}
FrozenFits number (Some source) = HasIncarnation number × (source < ENTRIES)

frozen_slot-fits : (number : Number) (seen : State) → FitsState seen → FrozenFits number (frozen_slot number seen)
frozen_slot-fits number (state.Frozen incarnation slot) fits =
    cond_both (incarnation == number.incarnation) (Some slot) None (FrozenFits number)
    (λ same. (omega (arith, fits.0, eqb-true incarnation number.incarnation same), fits.1)) (λ _. tt)
frozen_slot-fits number (state.Free incarnation stamp) fits = tt
frozen_slot-fits number (state.Claimed incarnation) fits = tt
frozen_slot-fits number (state.Present incarnation slot) fits = tt
frozen_slot-fits number (state.Locked incarnation slot) fits = tt
frozen_slot-fits number (state.Removed incarnation slot frozen locked) fits = tt

past-fits : (moves : Walk) → FitsTarget moves → FitsWalk (past_target moves)
past-fits moves fits = (fits.0, fits.1, omega (arith, fits.2), omega (arith, fits.3))

module _ (shape : Layout) (words : List ℕ) (valid : IsShape shape) where
  count_next-fits : (coll slot : ℕ) (count : Count) → FitsCount (slot + 1) count → WalkFits (count_next shape coll slot count)
  count_next-fits coll slot count fits =
      cond_both (nat_lt (slot + 1) (slots_of shape coll)) _ _ WalkFits (λ less. (slot-index shape coll (slot + 1) valid less, fits)) (λ _. tt)

  count_owner-fits : (coll slot : ℕ) (count : Count) (owner : Option Number) → slot < ENTRIES → FitsCount slot count → WalkFits (count_owner shape coll slot count owner)
  count_owner-fits coll slot count None here fits = count_next-fits coll slot count (count-weaker slot count fits)
  count_owner-fits coll slot count (Some number) here fits = (here, fits)

  pub counting-fits : (next : CountPhase) (w : Word) → FitsCounting next → WalkFits (counting shape next w)
  counting-fits (walk.Directory coll slot count) w fits =
      cond_both (is_valid (dir_of w)) _ _ WalkFits (λ _. fits) (λ _. count_next-fits coll slot count (count-weaker slot count fits.1))
  counting-fits (walk.Back coll slot count) w fits = count_owner-fits coll slot count (back_of w) fits.0 fits.1
  counting-fits (walk.Entry coll slot count number) w fits =
      count_next-fits coll slot _ (cond_both (has_object_at number.incarnation slot (state_of w)) (with_object slot count) count (FitsCount (slot + 1))
      (λ _. with_object-fits slot count fits.1) (λ _. count-weaker slot count fits.1))

  pub survey-fits : (walked : Counting) → WalkFits walked → ChangeFits shape words (survey_change walked)
  survey-fits (Walks next) fits = (fits, tt)
  survey-fits (Counted coll count) fits = (tt, tt)

  to_source-fits : (epoch : ℕ) (moves : Walk) → moves.kept ≤ moves.source → moves.target ≤ moves.kept → moves.moves ≤ moves.target → ChangeFits shape words (to_source shape epoch moves)
  to_source-fits epoch moves kept target taken =
      cond_both (nat_lt moves.source (slots_of shape moves.coll)) _ _ (ChangeFits shape words) (λ less. ((slot-index shape moves.coll moves.source valid less, kept, target, taken), tt)) (λ _. (tt, tt))

  next_source-fits : (epoch : ℕ) (moves : Walk) → FitsWalk moves → ChangeFits shape words (next_source shape epoch moves)
  next_source-fits epoch moves fits = to_source-fits epoch (record moves { source = moves.source + 1 }) (omega (arith, fits.1)) fits.2 fits.3

  to_target-fits : (epoch : ℕ) (moves : Walk) (number : Number) → FitsWalk moves → FitsNumber number → ChangeFits shape words (to_target epoch moves number)
  to_target-fits epoch moves number fits named =
      cond_both (nat_lt moves.target moves.kept) _ _ (ChangeFits shape words) (λ less. (((fits.0, fits.1, ltb-true moves.target moves.kept less, fits.3), named), tt)) (λ _. (tt, tt))

  blank_field-fits : (moves : Walk) (number : Number) (field : ℕ) → FitsTarget moves → FitsNumber number → FitsBegin (blank_field shape moves number field)
  blank_field-fits moves number field fits named =
      cond_both (nat_lt field (width_of shape moves.coll)) _ _ FitsBegin (λ less. (fits, named, field-index shape moves.coll field valid less)) (λ _. (fits, named))

  source_owner-fits : (epoch : ℕ) (moves : Walk) (owner : Option Number) → FitsWalk moves → OwnerFits owner → ChangeFits shape words (source_owner shape epoch moves owner)
  source_owner-fits epoch moves None fits named = next_source-fits epoch moves fits
  source_owner-fits epoch moves (Some number) fits named = ((fits, named), tt)

  begin_counting-fits : (epoch : ℕ) (walked : Counting) → WalkFits walked → ChangeFits shape words (begin_counting shape epoch walked)
  begin_counting-fits epoch (Walks next) fits = (fits, tt)
  begin_counting-fits epoch (Counted coll count) fits =
      cond_both (nat_le count.blocks (blocks_for count.objects)) _ _ (ChangeFits shape words) (λ _. (tt, tt))
      (λ _. to_source-fits epoch (first_walk coll (blocks_for count.objects * BLOCK_SLOTS)) (omega arith) (omega arith) (omega arith))

  pub begin-fits : (epoch : ℕ) (next : BeginPhase) (w : Word) → FitsBegin next → FitsSeen (begin_offer epoch next).op w → ChangeFits shape words (begin_change shape epoch next w)
  begin-fits epoch (begin.Count next) w fits seen = begin_counting-fits epoch (counting shape next w) (counting-fits next w fits)
  begin-fits epoch (begin.Nothing coll) w fits seen = (tt, tt)
  begin-fits epoch (begin.SourceDirectory moves) w fits seen = cond_both (is_valid (dir_of w)) _ _ (ChangeFits shape words) (λ _. (fits, tt)) (λ _. next_source-fits epoch moves fits)
  begin-fits epoch (begin.SourceBack moves) w fits seen = source_owner-fits epoch moves (back_of w) fits (back-fits moves.coll moves.source w seen)
  begin-fits epoch (begin.SourceEntry moves number) w fits seen =
      cond_both (is_source number moves.source (state_of w)) _ _ (ChangeFits shape words) (λ _. to_target-fits epoch moves number fits.0 fits.1) (λ _. next_source-fits epoch moves fits.0)
  begin-fits epoch (begin.TargetDirectory moves number) w fits seen =
      cond_both (is_ripe_slot epoch (dir_of w)) _ _ (ChangeFits shape words) (λ _. ((fits.0, fits.1, dir-fits moves.coll moves.target w seen), tt)) (λ _. to_target-fits epoch (past_target moves) number (past-fits moves fits.0) fits.1)
  begin-fits epoch (begin.ClaimTarget moves number free) w fits seen =
      cond_both (same_word w (word.Directory free)) _ _ (ChangeFits shape words) (λ _. (blank_field-fits moves number 0 fits.0 fits.1, tt)) (λ _. to_target-fits epoch (past_target moves) number (past-fits moves fits.0) fits.1)
  begin-fits epoch (begin.BlankField moves number field) w fits seen = (blank_field-fits moves number (field + 1) fits.0 fits.1, tt)
  begin-fits epoch (begin.StoreBack moves number) w fits seen = (fits, tt)
  begin-fits epoch (begin.StoreForward moves number) w fits seen = (fits, tt)
  begin-fits epoch (begin.StoreIncoming moves number) w fits seen = (fits, tt)
  begin-fits epoch (begin.Freeze moves number) w fits seen =
      cond_both (same_word w (word.Entry (state.Present number.incarnation moves.source))) _ _ (ChangeFits shape words)
      (λ _. next_source-fits epoch (with_move (past_target moves)) (fits.0.0, fits.0.1, omega (arith, fits.0.2), omega (arith, fits.0.3))) (λ _. (fits.0, tt))
  begin-fits epoch (begin.GiveUp moves) w fits seen = next_source-fits epoch (past_target moves) (past-fits moves fits)

  pub next_target-fits : (targets : Targets) → targets.moved + targets.abandoned + targets.gone ≤ targets.slot + 1 → FitsFinish (next_target shape targets)
  next_target-fits targets few =
      cond_both (nat_lt (targets.slot + 1) (slots_of shape targets.coll)) _ _ FitsFinish (λ less. (slot-index shape targets.coll (targets.slot + 1) valid less, few)) (λ _. tt)

  given_up-fits : (gone : Bool) (targets : Targets) → FitsTargets targets → FitsFinish (next_target shape (with_given_up gone targets))
  given_up-fits true targets fits = next_target-fits (record targets { gone = targets.gone + 1 }) (omega (arith, fits.1))
  given_up-fits false targets fits = next_target-fits (record targets { abandoned = targets.abandoned + 1 }) (omega (arith, fits.1))

  target_owner-fits : (targets : Targets) (owner : Option Number) → FitsTargets targets → OwnerFits owner → FitsFinish (target_owner targets owner)
  target_owner-fits targets None fits named = fits
  target_owner-fits targets (Some number) fits named = (fits, named.incarnation)

  lock-fits : (targets : Targets) (number : Number) (seen : State) (source : Option ℕ) → FitsTargets targets → FrozenFits number source → FitsFinish (lock targets number seen source)
  lock-fits targets number seen None fits frozen = fits
  lock-fits targets number seen (Some source) fits frozen = (fits, frozen.0, frozen.1)

  move-fits : (targets : Targets) (number : Number) (source : ℕ) (next : CopyPhase) (w : Word) → FitsFinish (finish.Move targets number source next)
      → FitsSeen (finish_offer 0 (finish.Move targets number source next)).op w → FitsFinish («move» shape targets number source next w)
  move-fits targets number source copy.Target w fits seen = (fits.0, fits.1, fits.2, copy_next-fits shape number source copy.Target w valid fits.3 seen)
  move-fits targets number source (copy.Load target field) w fits seen = (fits.0, fits.1, fits.2, copy_next-fits shape number source (copy.Load target field) w valid fits.3 seen)
  move-fits targets number source (copy.Put target field value) w fits seen = (fits.0, fits.1, fits.2, copy_next-fits shape number source (copy.Put target field value) w valid fits.3 seen)
  move-fits targets number source (copy.Swing target) w fits seen = fits.0

  finish_next-fits : (epoch : ℕ) (next : FinishPhase) (w : Word) → FitsFinish next → FitsSeen (finish_offer epoch next).op w → FitsFinish (finish_next shape next w)
  finish_next-fits epoch (finish.Directory targets) w fits seen = cond_both (is_incoming (dir_of w)) _ _ FitsFinish (λ _. fits) (λ _. next_target-fits targets (omega (arith, fits.1)))
  finish_next-fits epoch (finish.Back targets) w fits seen = target_owner-fits targets (back_of w) fits (back-fits targets.coll targets.slot w seen)
  finish_next-fits epoch (finish.Entry targets number) w fits seen =
      lock-fits targets number (state_of w) (frozen_slot number (state_of w)) fits.0 (frozen_slot-fits number (state_of w) (state-fits number.coll number.entry w seen))
  finish_next-fits epoch (finish.Lock targets number source) w fits seen =
      cond_both (same_word w (word.Entry (state.Frozen number.incarnation source))) _ _ FitsFinish (λ _. (fits.0, fits.1, fits.2, tt)) (λ _. fits.0)
  finish_next-fits epoch (finish.Move targets number source next) w fits seen = move-fits targets number source next w fits seen
  finish_next-fits epoch (finish.Settle targets source) w fits seen = fits
  finish_next-fits epoch (finish.LeaveSource targets source) w fits seen = next_target-fits (with_moved targets) (omega (arith, fits.1))
  finish_next-fits epoch (finish.GiveUp targets gone) w fits seen = given_up-fits gone targets fits
  finish_next-fits epoch (finish.End targets) w fits seen = tt

  pub finish-fits : (epoch : ℕ) (next : FinishPhase) (w : Word) → FitsFinish next → FitsSeen (finish_offer epoch next).op w → ChangeFits shape words (finish_change shape next w)
  finish-fits epoch (finish.End targets) w fits seen = (tt, tt)
  finish-fits epoch (finish.Directory targets) w fits seen = (finish_next-fits epoch (finish.Directory targets) w fits seen, tt)
  finish-fits epoch (finish.Back targets) w fits seen = (finish_next-fits epoch (finish.Back targets) w fits seen, tt)
  finish-fits epoch (finish.Entry targets number) w fits seen = (finish_next-fits epoch (finish.Entry targets number) w fits seen, tt)
  finish-fits epoch (finish.Lock targets number source) w fits seen = (finish_next-fits epoch (finish.Lock targets number source) w fits seen, tt)
  finish-fits epoch (finish.Move targets number source next) w fits seen = (finish_next-fits epoch (finish.Move targets number source next) w fits seen, tt)
  finish-fits epoch (finish.Settle targets source) w fits seen = (fits, tt)
  finish-fits epoch (finish.LeaveSource targets source) w fits seen = (finish_next-fits epoch (finish.LeaveSource targets source) w fits seen, tt)
  finish-fits epoch (finish.GiveUp targets gone) w fits seen = (finish_next-fits epoch (finish.GiveUp targets gone) w fits seen, tt)

  pub next_cancelled-fits : (coll slot : ℕ) → FitsCancel (next_cancelled shape coll slot)
  next_cancelled-fits coll slot = cond_both (nat_lt (slot + 1) (slots_of shape coll)) _ _ FitsCancel (slot-index shape coll (slot + 1) valid) (λ _. tt)

  cancel_owner-fits : (coll slot : ℕ) (owner : Option Number) → slot < ENTRIES → OwnerFits owner → FitsCancel (cancel_owner coll slot owner)
  cancel_owner-fits coll slot None here named = here
  cancel_owner-fits coll slot (Some number) here named = (here, named.incarnation)

  unfreeze-fits : (coll slot : ℕ) (number : Number) (source : Option ℕ) → slot < ENTRIES → FrozenFits number source → FitsCancel (unfreeze coll slot number source)
  unfreeze-fits coll slot number None here frozen = here
  unfreeze-fits coll slot number (Some source) here frozen = (here, frozen.0, frozen.1)

  pub cancel-fits : (epoch : ℕ) (next : CancelPhase) (w : Word) → FitsCancel next → FitsSeen (cancel_offer epoch next).op w → ChangeFits shape words (cancel_change shape next w)
  cancel-fits epoch (cancel.Directory coll slot) w fits seen = (cond_both (is_incoming (dir_of w)) _ _ FitsCancel (λ _. fits) (λ _. next_cancelled-fits coll slot), tt)
  cancel-fits epoch (cancel.Back coll slot) w fits seen = (cancel_owner-fits coll slot (back_of w) fits (back-fits coll slot w seen), tt)
  cancel-fits epoch (cancel.Entry coll slot number) w fits seen =
      (unfreeze-fits coll slot number (frozen_slot number (state_of w)) fits.0 (frozen_slot-fits number (state_of w) (state-fits number.coll number.entry w seen)), tt)
  cancel-fits epoch (cancel.Unfreeze coll slot number source) w fits seen = (fits.0, tt)
  cancel-fits epoch (cancel.GiveUp coll slot) w fits seen = (next_cancelled-fits coll slot, tt)
  cancel-fits epoch cancel.End w fits seen = (tt, tt)
