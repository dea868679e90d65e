-- A count, a begin, a finish and a cancel stay within the region.
use Rattle.std.proofs.Common.{ℕ, ◌+◌, ◌*◌, ◌<◌, ◌≤◌, ◌==◌, Bool, true, false, nat_lt, Option, Some, None, List, sym, subst, arith}
use Rattle.std.specs.Prelude.{if◌then◌else◌}
use Rattle.std.proofs.lemmas.Bool.{ltb-true}
use Rattle.smc_words.specs.declared.number.Number.{Number}
use Rattle.smc_shape.specs.Layout.{Layout, width_of, slots_of}
use Rattle.smc_shape.specs.declared.place.Place.TheVariants as place
use Rattle.smc_core.specs.declared.phase.Phase.TheVariants as phase
use Rattle.smc_core.specs.declared.phase.moves.BeginPhase.{BeginPhase}
use Rattle.smc_core.specs.declared.phase.moves.BeginPhase.TheVariants as begin
use Rattle.smc_core.specs.declared.phase.moves.CancelPhase.{CancelPhase}
use Rattle.smc_core.specs.declared.phase.moves.CancelPhase.TheVariants as cancel
use Rattle.smc_core.specs.declared.phase.moves.Count.{Count}
use Rattle.smc_core.specs.declared.phase.moves.Counting.{Counting}
use Rattle.smc_core.specs.declared.phase.moves.Counting.TheVariants.{Walks, Counted}
use Rattle.smc_core.specs.declared.phase.moves.CountPhase.{CountPhase}
use Rattle.smc_core.specs.declared.phase.moves.CountPhase.TheVariants as walk
use Rattle.smc_core.specs.declared.phase.moves.FinishPhase.{FinishPhase}
use Rattle.smc_core.specs.declared.phase.moves.FinishPhase.TheVariants as finish
use Rattle.smc_core.specs.declared.phase.moves.Targets.{Targets}
use Rattle.smc_core.specs.declared.phase.moves.Walk.{Walk}
use Rattle.smc_core.specs.declared.phase.objects.CopyPhase.{CopyPhase}
use Rattle.smc_core.specs.declared.phase.objects.CopyPhase.TheVariants as copy
use Rattle.smc_core.specs.declared.section.TheConstants.{LAST_EPOCH}
use Rattle.smc_core.specs.declared.word.State.{State}
use Rattle.smc_core.specs.declared.word.State.TheVariants as state
use Rattle.smc_core.specs.declared.word.Word.{Word}
use Rattle.smc_core.specs.declared.word.Word.TheVariants as word
use Rattle.smc_core.specs.Begin.{begin_offer, begin_change, begin_counted, begin_counting, blank_field, ends_round, first_walk, is_source, next_source, past_target, source_owner, to_source, to_target, with_move}
use Rattle.smc_core.specs.Cancel.{cancel_offer, cancel_change, cancel_next, cancel_owner, next_cancelled, unfreeze}
use Rattle.smc_core.specs.Count.{blocks_for, count_offer, count_next, count_owner, counting, is_valid, survey_change, with_object}
use Rattle.smc_core.specs.Finish.{finish_offer, finish_change, finish_next, frozen_slot, give_up, is_incoming, lock, move, next_target, target_owner, with_given_up, with_moved}
use Rattle.smc_core.specs.Look.{copy_offer}
use Rattle.smc_core.specs.Ripe.{is_ripe_slot}
use Rattle.smc_core.specs.Step.{goes}
use Rattle.smc_core.specs.Words.{dir_of, state_of, back_of, has_object_at, same_word}
use Rattle.smc_inv_range.specs.Ranges.{IsNumberOf, IsSlot, InState, InWord, InOp, InShown}
use Rattle.smc_inv_range.specs.Calls.{InCopy, InCount, AtSource, WithObject, AtTarget, InBegin, AtSlot, InFinish, InCancel}
use Rattle.smc_inv_range.proofs.Memories.{InBack, dir_in, state_in, back_in, either}
use Rattle.std.specs.Prelude.{nat_le}
use Rattle.smc_shape.specs.declared.coll.TheConstants.{BLOCK_SLOTS}
use Rattle.smc_inv_range.proofs.LookLaws.{InChange, named_of, copy_op, copy-next}

-- a walk that counts
pub count_op : (shape : Layout) (next : CountPhase) → InCount shape next → InOp shape (count_offer next).op
count_op shape (walk.Directory coll slot count) f = f
count_op shape (walk.Back coll slot count) f = f
count_op shape (walk.Entry coll slot count number) f = f.1.entry

abbrev pub InCounting : Layout → Counting → Type 0
InCounting shape (Walks next) = InCount shape next
InCounting shape (Counted coll count) = Unit {0}

count_next-in : (shape : Layout) (coll slot : ℕ) (count : Count) → InCounting shape (count_next shape coll slot count)
count_next-in shape coll slot count =
    either (InCounting shape) (nat_lt (slot + 1) (slots_of shape coll)) (Walks (walk.Directory coll (slot + 1) count)) (Counted coll count)
    (λ t. ltb-true (slot + 1) (slots_of shape coll) t) (λ n. tt)

count_owner-in : (shape : Layout) (coll slot : ℕ) (count : Count) (owner : Option Number) → IsSlot shape coll slot → InBack shape coll owner
    → InCounting shape (count_owner shape coll slot count owner)
count_owner-in shape coll slot count None s b = count_next-in shape coll slot count
count_owner-in shape coll slot count (Some number) s b = (s, b)

pub counting-in : (shape : Layout) (next : CountPhase) (w : Word) → InCount shape next → InShown shape (count_offer next).op w → InCounting shape (counting shape next w)
counting-in shape (walk.Directory coll slot count) w f s =
    either (InCounting shape) (is_valid (dir_of w)) (Walks (walk.Back coll slot count)) (count_next shape coll slot count) (λ t. f) (λ n. count_next-in shape coll slot count)
counting-in shape (walk.Back coll slot count) w f s = count_owner-in shape coll slot count (back_of w) f (back_in shape coll slot w s)
counting-in shape (walk.Entry coll slot count number) w f s =
    count_next-in shape coll slot (if has_object_at number.incarnation slot (state_of w) then with_object slot count else count)

pub survey-in : (shape : Layout) (words : List ℕ) (counting : Counting) → InCounting shape counting → InChange shape words (survey_change counting)
survey-in shape words (Walks next) f = (f, tt)
survey-in shape words (Counted coll count) f = (tt, tt)

-- a begin
target_slot : (shape : Layout) (moves : Walk) → AtSource shape moves → moves.target < moves.kept → IsSlot shape moves.coll moves.target
target_slot shape moves f lt = omega (arith, f.0, f.1, lt)

pub begin_op : (shape : Layout) (epoch : ℕ) (next : BeginPhase) → epoch ≤ LAST_EPOCH → InBegin shape next → InOp shape (begin_offer epoch next).op
begin_op shape epoch (begin.Count next) low f = count_op shape next f
begin_op shape epoch (begin.Nothing coll) low f = (tt, tt)
begin_op shape epoch (begin.SourceDirectory moves) low f = f.0
begin_op shape epoch (begin.SourceBack moves) low f = f.0
begin_op shape epoch (begin.SourceEntry moves number) low f = f.1.entry
begin_op shape epoch (begin.TargetDirectory moves number) low f = target_slot shape moves f.0.0 f.1
begin_op shape epoch (begin.ClaimTarget moves number seen) low f = (target_slot shape moves f.0.0.0 f.0.1, f.1, tt)
begin_op shape epoch (begin.BlankField moves number field) low f = ((target_slot shape moves f.0.0.0 f.0.1, f.1), omega arith)
begin_op shape epoch (begin.StoreBack moves number) low f = (target_slot shape moves f.0.0 f.1, f.0.1)
begin_op shape epoch (begin.StoreForward moves number) low f = (f.0.0.0, target_slot shape moves f.0.0 f.1)
begin_op shape epoch (begin.StoreIncoming moves number) low f = (target_slot shape moves f.0.0 f.1, tt)
begin_op shape epoch (begin.Freeze moves number) low f =
    let s : IsSlot shape number.coll moves.source = subst (λ c. IsSlot shape c moves.source) (sym f.0.1.home) f.0.0.0 in
    (f.0.1.entry, (f.0.1.incarnation, s), (f.0.1.incarnation, s))
begin_op shape epoch (begin.GiveUp moves) low f = (target_slot shape moves f.0 f.1, omega (arith, low))

module _ (shape : Layout) (words : List ℕ) (epoch : ℕ) where
  to_source-in : (moves : Walk) → moves.kept ≤ moves.source → InChange shape words (to_source shape epoch moves)
  to_source-in moves le =
      either (InChange shape words) (nat_lt moves.source (slots_of shape moves.coll)) (goes (phase.Begin (begin.SourceDirectory moves))) (ends_round epoch moves)
      (λ t. ((ltb-true moves.source (slots_of shape moves.coll) t, le), tt)) (λ n. (tt, tt))

  next_source-in : (moves : Walk) → moves.kept ≤ moves.source → InChange shape words (next_source shape epoch moves)
  next_source-in moves le = to_source-in (record moves { source = moves.source + 1 }) (omega (arith, le))

  to_target-in : (moves : Walk) (number : Number) → WithObject shape moves number → InChange shape words (to_target epoch moves number)
  to_target-in moves number f =
      either (InChange shape words) (nat_lt moves.target moves.kept) (goes (phase.Begin (begin.TargetDirectory moves number))) (ends_round epoch moves)
      (λ t. ((f, ltb-true moves.target moves.kept t), tt)) (λ n. (tt, tt))

  begin_counted-in : (coll : ℕ) (count : Count) → InChange shape words (begin_counted shape epoch coll count)
  begin_counted-in coll count =
      either (InChange shape words) (nat_le count.blocks (blocks_for count.objects)) (goes (phase.Begin (begin.Nothing coll)))
      (to_source shape epoch (first_walk coll (blocks_for count.objects * BLOCK_SLOTS)))
      (λ t. (tt, tt)) (λ n. to_source-in (first_walk coll (blocks_for count.objects * BLOCK_SLOTS)) (omega arith))

  begin_counting-in : (counting : Counting) → InCounting shape counting → InChange shape words (begin_counting shape epoch counting)
  begin_counting-in (Walks next) f = (f, tt)
  begin_counting-in (Counted coll count) f = begin_counted-in coll count

  source_owner-in : (moves : Walk) (owner : Option Number) → AtSource shape moves → InBack shape moves.coll owner → InChange shape words (source_owner shape epoch moves owner)
  source_owner-in moves None f b = next_source-in moves f.1
  source_owner-in moves (Some number) f b = ((f, b), tt)

  blank_field-in : (moves : Walk) (number : Number) (field : ℕ) → AtTarget shape moves number → InBegin shape (blank_field shape moves number field)
  blank_field-in moves number field f =
      either (InBegin shape) (nat_lt field (width_of shape moves.coll)) (begin.BlankField moves number field) (begin.StoreBack moves number)
      (λ t. (f, ltb-true field (width_of shape moves.coll) t)) (λ n. f)

  pub begin-in : (next : BeginPhase) (w : Word) → InBegin shape next → InShown shape (begin_offer epoch next).op w → InChange shape words (begin_change shape epoch next w)
  begin-in (begin.Count next) w f s = begin_counting-in (counting shape next w) (counting-in shape next w f s)
  begin-in (begin.Nothing coll) w f s = (tt, tt)
  begin-in (begin.SourceDirectory moves) w f s =
      either (InChange shape words) (is_valid (dir_of w)) (goes (phase.Begin (begin.SourceBack moves))) (next_source shape epoch moves) (λ t. (f, tt)) (λ n. next_source-in moves f.1)
  begin-in (begin.SourceBack moves) w f s = source_owner-in moves (back_of w) f (back_in shape moves.coll moves.source w s)
  begin-in (begin.SourceEntry moves number) w f s =
      either (InChange shape words) (is_source number moves.source (state_of w)) (to_target epoch moves number) (next_source shape epoch moves)
      (λ t. to_target-in moves number f) (λ n. next_source-in moves f.0.1)
  begin-in (begin.TargetDirectory moves number) w f s =
      either (InChange shape words) (is_ripe_slot epoch (dir_of w)) (goes (phase.Begin (begin.ClaimTarget moves number (dir_of w)))) (to_target epoch (past_target moves) number)
      (λ t. ((f, dir_in shape moves.coll moves.target w s), tt)) (λ n. to_target-in (past_target moves) number f.0)
  begin-in (begin.ClaimTarget moves number seen) w f s =
      either (InChange shape words) (same_word w (word.Directory seen)) (goes (phase.Begin (blank_field shape moves number 0))) (to_target epoch (past_target moves) number)
      (λ t. (blank_field-in moves number 0 f.0, tt)) (λ n. to_target-in (past_target moves) number f.0.0)
  begin-in (begin.BlankField moves number field) w f s = (blank_field-in moves number (field + 1) f.0, tt)
  begin-in (begin.StoreBack moves number) w f s = (f, tt)
  begin-in (begin.StoreForward moves number) w f s = (f, tt)
  begin-in (begin.StoreIncoming moves number) w f s = (f, tt)
  begin-in (begin.Freeze moves number) w f s =
      either (InChange shape words) (same_word w (word.Entry (state.Present number.incarnation moves.source))) (next_source shape epoch (with_move (past_target moves))) (goes (phase.Begin (begin.GiveUp moves)))
      (λ t. next_source-in (with_move (past_target moves)) f.0.0.1) (λ n. ((f.0.0, f.1), tt))
  begin-in (begin.GiveUp moves) w f s = next_source-in (past_target moves) f.0.1

-- a finish
home_slot : (shape : Layout) (coll slot : ℕ) (number : Number) → IsNumberOf shape coll number → IsSlot shape coll slot → IsSlot shape number.coll slot
home_slot shape coll slot number n s = subst (λ c. IsSlot shape c slot) (sym n.home) s

pub finish_op : (shape : Layout) (epoch : ℕ) (next : FinishPhase) → epoch ≤ LAST_EPOCH → InFinish shape next → InOp shape (finish_offer epoch next).op
finish_op shape epoch (finish.Directory targets) low f = f
finish_op shape epoch (finish.Back targets) low f = f
finish_op shape epoch (finish.Entry targets number) low f = f.1.entry
finish_op shape epoch (finish.Lock targets number source) low f =
    let s : IsSlot shape number.coll source = home_slot shape targets.coll source number f.1 f.2 in
    (f.1.entry, (f.1.incarnation, s), (f.1.incarnation, s))
finish_op shape epoch (finish.Move targets number source next) low f =
    copy_op shape number source next (named_of shape targets.coll number f.1) (home_slot shape targets.coll source number f.1 f.2) f.3
finish_op shape epoch (finish.Settle targets source) low f = (f.0, tt, tt)
finish_op shape epoch (finish.LeaveSource targets source) low f = (f.1, omega (arith, low))
finish_op shape epoch (finish.GiveUp targets gone) low f = (f, omega (arith, low))
finish_op shape epoch (finish.End targets) low f = (tt, tt)

next_target-in : (shape : Layout) (targets : Targets) → InFinish shape (next_target shape targets)
next_target-in shape targets =
    either (InFinish shape) (nat_lt (targets.slot + 1) (slots_of shape targets.coll)) (finish.Directory (record targets { slot = targets.slot + 1 })) (finish.End targets)
    (λ t. ltb-true (targets.slot + 1) (slots_of shape targets.coll) t) (λ n. tt)

given_up-in : (shape : Layout) (targets : Targets) (gone : Bool) → InFinish shape (next_target shape (with_given_up gone targets))
given_up-in shape targets true = next_target-in shape (with_given_up true targets)
given_up-in shape targets false = next_target-in shape (with_given_up false targets)

target_owner-in : (shape : Layout) (targets : Targets) (owner : Option Number) → AtSlot shape targets → InBack shape targets.coll owner → InFinish shape (target_owner targets owner)
target_owner-in shape targets None f b = f
target_owner-in shape targets (Some number) f b = (f, b)

-- the slot in which an entry has an object frozen
abbrev pub InSource : Layout → ℕ → Option ℕ → Type 0
InSource shape coll None = Unit {0}
InSource shape coll (Some source) = IsSlot shape coll source

frozen_slot-in : (shape : Layout) (coll : ℕ) (number : Number) (s : State) → InState shape coll s → InSource shape coll (frozen_slot number s)
frozen_slot-in shape coll number (state.Frozen incarnation slot) f =
    either (InSource shape coll) (incarnation == number.incarnation) (Some slot) None (λ t. f.1) (λ n. tt)
frozen_slot-in shape coll number (state.Free incarnation stamp) f = tt
frozen_slot-in shape coll number (state.Claimed incarnation) f = tt
frozen_slot-in shape coll number (state.Present incarnation slot) f = tt
frozen_slot-in shape coll number (state.Locked incarnation slot) f = tt
frozen_slot-in shape coll number (state.Removed incarnation slot frozen locked) f = tt

-- the entry that a number of a collection names is one of the collection
home_state : (shape : Layout) (coll entry : ℕ) (number : Number) (w : Word) → IsNumberOf shape coll number → InWord shape (place.Entry number.coll entry) w → InState shape coll (state_of w)
home_state shape coll entry number w n s = subst (λ c. InState shape c (state_of w)) n.home (state_in shape number.coll entry w s)

lock-in : (shape : Layout) (targets : Targets) (number : Number) (seen : State) (source : Option ℕ) → AtSlot shape targets → IsNumberOf shape targets.coll number → InSource shape targets.coll source
    → InFinish shape (lock targets number seen source)
lock-in shape targets number seen None f n s = f
lock-in shape targets number seen (Some source) f n s = (f, n, s)

move-in : (shape : Layout) (targets : Targets) (number : Number) (source : ℕ) (next : CopyPhase) (w : Word) → AtSlot shape targets → IsNumberOf shape targets.coll number → IsSlot shape targets.coll source
    → InCopy shape number.coll next → InShown shape (copy_offer number source next).op w → InFinish shape (move shape targets number source next w)
move-in shape targets number source copy.Target w f n s c shown = (f, n, s, copy-next shape number source copy.Target w c shown)
move-in shape targets number source (copy.Load target field) w f n s c shown = (f, n, s, copy-next shape number source (copy.Load target field) w c shown)
move-in shape targets number source (copy.Put target field value) w f n s c shown = (f, n, s, copy-next shape number source (copy.Put target field value) w c shown)
move-in shape targets number source (copy.Swing target) w f n s c shown = (f, s)

pub finish_next-in : (shape : Layout) (epoch : ℕ) (next : FinishPhase) (w : Word) → InFinish shape next → InShown shape (finish_offer epoch next).op w → InFinish shape (finish_next shape next w)
finish_next-in shape epoch (finish.Directory targets) w f s =
    either (InFinish shape) (is_incoming (dir_of w)) (finish.Back targets) (next_target shape targets) (λ t. f) (λ n. next_target-in shape targets)
finish_next-in shape epoch (finish.Back targets) w f s = target_owner-in shape targets (back_of w) f (back_in shape targets.coll targets.slot w s)
finish_next-in shape epoch (finish.Entry targets number) w f s =
    lock-in shape targets number (state_of w) (frozen_slot number (state_of w)) f.0 f.1
    (frozen_slot-in shape targets.coll number (state_of w) (home_state shape targets.coll number.entry number w f.1 s))
finish_next-in shape epoch (finish.Lock targets number source) w f s =
    either (InFinish shape) (same_word w (word.Entry (state.Frozen number.incarnation source))) (finish.Move targets number source copy.Target) (give_up targets number (state_of w))
    (λ t. (f.0, f.1, f.2, tt)) (λ n. f.0)
finish_next-in shape epoch (finish.Move targets number source next) w f s = move-in shape targets number source next w f.0 f.1 f.2 f.3 s
finish_next-in shape epoch (finish.Settle targets source) w f s = f
finish_next-in shape epoch (finish.LeaveSource targets source) w f s = next_target-in shape (with_moved targets)
finish_next-in shape epoch (finish.GiveUp targets gone) w f s = given_up-in shape targets gone
finish_next-in shape epoch (finish.End targets) w f s = tt

pub finish-in : (shape : Layout) (words : List ℕ) (epoch : ℕ) (next : FinishPhase) (w : Word) → InFinish shape next → InShown shape (finish_offer epoch next).op w
    → InChange shape words (finish_change shape next w)
finish-in shape words epoch (finish.End targets) w f s = (tt, tt)
finish-in shape words epoch (finish.Directory targets) w f s = (finish_next-in shape epoch (finish.Directory targets) w f s, tt)
finish-in shape words epoch (finish.Back targets) w f s = (finish_next-in shape epoch (finish.Back targets) w f s, tt)
finish-in shape words epoch (finish.Entry targets number) w f s = (finish_next-in shape epoch (finish.Entry targets number) w f s, tt)
finish-in shape words epoch (finish.Lock targets number source) w f s = (finish_next-in shape epoch (finish.Lock targets number source) w f s, tt)
finish-in shape words epoch (finish.Move targets number source next) w f s = (finish_next-in shape epoch (finish.Move targets number source next) w f s, tt)
finish-in shape words epoch (finish.Settle targets source) w f s = (finish_next-in shape epoch (finish.Settle targets source) w f s, tt)
finish-in shape words epoch (finish.LeaveSource targets source) w f s = (finish_next-in shape epoch (finish.LeaveSource targets source) w f s, tt)
finish-in shape words epoch (finish.GiveUp targets gone) w f s = (finish_next-in shape epoch (finish.GiveUp targets gone) w f s, tt)

-- a cancel
pub cancel_op : (shape : Layout) (epoch : ℕ) (next : CancelPhase) → epoch ≤ LAST_EPOCH → InCancel shape next → InOp shape (cancel_offer epoch next).op
cancel_op shape epoch (cancel.Directory coll slot) low f = f
cancel_op shape epoch (cancel.Back coll slot) low f = f
cancel_op shape epoch (cancel.Entry coll slot number) low f = f.1.entry
cancel_op shape epoch (cancel.Unfreeze coll slot number source) low f =
    let s : IsSlot shape number.coll source = home_slot shape coll source number f.1 f.2 in
    (f.1.entry, (f.1.incarnation, s), (f.1.incarnation, s))
cancel_op shape epoch (cancel.GiveUp coll slot) low f = (f, omega (arith, low))
cancel_op shape epoch cancel.End low f = (tt, tt)

next_cancelled-in : (shape : Layout) (coll slot : ℕ) → InCancel shape (next_cancelled shape coll slot)
next_cancelled-in shape coll slot =
    either (InCancel shape) (nat_lt (slot + 1) (slots_of shape coll)) (cancel.Directory coll (slot + 1)) cancel.End (λ t. ltb-true (slot + 1) (slots_of shape coll) t) (λ n. tt)

cancel_owner-in : (shape : Layout) (coll slot : ℕ) (owner : Option Number) → IsSlot shape coll slot → InBack shape coll owner → InCancel shape (cancel_owner coll slot owner)
cancel_owner-in shape coll slot None f b = f
cancel_owner-in shape coll slot (Some number) f b = (f, b)

unfreeze-in : (shape : Layout) (coll slot : ℕ) (number : Number) (source : Option ℕ) → IsSlot shape coll slot → IsNumberOf shape coll number → InSource shape coll source
    → InCancel shape (unfreeze coll slot number source)
unfreeze-in shape coll slot number None f n s = f
unfreeze-in shape coll slot number (Some source) f n s = (f, n, s)

cancel_next-in : (shape : Layout) (epoch : ℕ) (next : CancelPhase) (w : Word) → InCancel shape next → InShown shape (cancel_offer epoch next).op w → InCancel shape (cancel_next shape next w)
cancel_next-in shape epoch (cancel.Directory coll slot) w f s =
    either (InCancel shape) (is_incoming (dir_of w)) (cancel.Back coll slot) (next_cancelled shape coll slot) (λ t. f) (λ n. next_cancelled-in shape coll slot)
cancel_next-in shape epoch (cancel.Back coll slot) w f s = cancel_owner-in shape coll slot (back_of w) f (back_in shape coll slot w s)
cancel_next-in shape epoch (cancel.Entry coll slot number) w f s =
    unfreeze-in shape coll slot number (frozen_slot number (state_of w)) f.0 f.1 (frozen_slot-in shape coll number (state_of w) (home_state shape coll number.entry number w f.1 s))
cancel_next-in shape epoch (cancel.Unfreeze coll slot number source) w f s = f.0
cancel_next-in shape epoch (cancel.GiveUp coll slot) w f s = next_cancelled-in shape coll slot
cancel_next-in shape epoch cancel.End w f s = tt

pub cancel-in : (shape : Layout) (words : List ℕ) (epoch : ℕ) (next : CancelPhase) (w : Word) → InCancel shape next → InShown shape (cancel_offer epoch next).op w
    → InChange shape words (cancel_change shape next w)
cancel-in shape words epoch cancel.End w f s = (tt, tt)
cancel-in shape words epoch (cancel.Directory coll slot) w f s = (cancel_next-in shape epoch (cancel.Directory coll slot) w f s, tt)
cancel-in shape words epoch (cancel.Back coll slot) w f s = (cancel_next-in shape epoch (cancel.Back coll slot) w f s, tt)
cancel-in shape words epoch (cancel.Entry coll slot number) w f s = (cancel_next-in shape epoch (cancel.Entry coll slot number) w f s, tt)
cancel-in shape words epoch (cancel.Unfreeze coll slot number source) w f s = (cancel_next-in shape epoch (cancel.Unfreeze coll slot number source) w f s, tt)
cancel-in shape words epoch (cancel.GiveUp coll slot) w f s = (cancel_next-in shape epoch (cancel.GiveUp coll slot) w f s, tt)
