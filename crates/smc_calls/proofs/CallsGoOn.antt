-- Which call a phase belongs to, and that each step goes on with the call or ends it.
use Rattle.std.proofs.Common.{◌≡◌, ℕ, ◌+◌, ◌*◌, ◌==◌, Bool, true, false, ◌||◌, Option, Some, None, List, [], ◌∷◌, ◌++◌, refl, sym, ap, ◌∙◌, subst, inl, inr}
use Rattle.std.specs.Prelude.{nat_lt, nat_le, if◌then◌else◌}
use Rattle.std.proofs.lemmas.Option.{none-some, same_Some}
use Rattle.std.proofs.lemmas.Bool.{eqb-true}
use Rattle.smc_words.specs.declared.dir.Dir.{Dir}
use Rattle.smc_words.specs.declared.number.Number.{Number}
use Rattle.smc_words.specs.declared.round.RoundWord.{RoundWord}
use Rattle.smc_shape.specs.Layout.{Layout, slots_of, entries_of, width_of}
use Rattle.smc_shape.specs.declared.coll.TheConstants.{BLOCK_SLOTS}
use Rattle.smc_shape.specs.declared.place.Place.TheVariants as place
use Rattle.smc_model.specs.declared.event.Event.{Event}
use Rattle.smc_model.specs.declared.event.Event.TheVariants as event
use Rattle.smc_core.specs.declared.call.Call.{Call}
use Rattle.smc_core.specs.declared.call.Call.TheVariants as call
use Rattle.smc_core.specs.declared.call.Choice.TheVariants.{Start}
use Rattle.smc_core.specs.declared.change.Change.{Change}
use Rattle.smc_core.specs.declared.done.Done.{Done}
use Rattle.smc_core.specs.declared.done.Done.TheVariants as done
use Rattle.smc_core.specs.declared.local.Owned.{Owned}
use Rattle.smc_core.specs.declared.local.Scan.{Scan}
use Rattle.smc_core.specs.declared.local.Stand.{Stand}
use Rattle.smc_core.specs.declared.op.Offer.{Offer}
use Rattle.smc_core.specs.declared.phase.Phase.{Phase}
use Rattle.smc_core.specs.declared.phase.Phase.TheVariants as phase
use Rattle.smc_core.specs.declared.phase.moves.BeginPhase.{BeginPhase}
use Rattle.smc_core.specs.declared.phase.moves.BeginPhase.TheVariants as begin
use Rattle.smc_core.specs.declared.phase.moves.CancelPhase.{CancelPhase}
use Rattle.smc_core.specs.declared.phase.moves.CancelPhase.TheVariants as cancel
use Rattle.smc_core.specs.declared.phase.moves.Count.{Count}
use Rattle.smc_core.specs.declared.phase.moves.CountPhase.{CountPhase}
use Rattle.smc_core.specs.declared.phase.moves.CountPhase.TheVariants as walk
use Rattle.smc_core.specs.declared.phase.moves.Counting.{Counting}
use Rattle.smc_core.specs.declared.phase.moves.Counting.TheVariants.{Walks, Counted}
use Rattle.smc_core.specs.declared.phase.moves.FinishPhase.{FinishPhase}
use Rattle.smc_core.specs.declared.phase.moves.FinishPhase.TheVariants as finish
use Rattle.smc_core.specs.declared.phase.moves.Walk.{Walk}
use Rattle.smc_core.specs.declared.phase.objects.AddPhase.{AddPhase}
use Rattle.smc_core.specs.declared.phase.objects.AddPhase.TheVariants as add
use Rattle.smc_core.specs.declared.phase.objects.Finding.{Finding}
use Rattle.smc_core.specs.declared.phase.objects.Finding.TheVariants.{Absent, Stays, Abandons, Helps}
use Rattle.smc_core.specs.declared.phase.objects.LookPhase.{LookPhase}
use Rattle.smc_core.specs.declared.phase.objects.LookPhase.TheVariants as look
use Rattle.smc_core.specs.declared.phase.objects.RemovePhase.{RemovePhase}
use Rattle.smc_core.specs.declared.phase.objects.RemovePhase.TheVariants as remove
use Rattle.smc_core.specs.declared.phase.objects.ScanPhase.{ScanPhase}
use Rattle.smc_core.specs.declared.phase.objects.ScanPhase.TheVariants as scan
use Rattle.smc_core.specs.declared.phase.objects.Seeker.{Seeker}
use Rattle.smc_core.specs.declared.phase.objects.Seeker.TheVariants as seeker
use Rattle.smc_core.specs.declared.section.Section.{Section}
use Rattle.smc_core.specs.declared.section.Section.TheVariants.{Outside, Loaded, Announced, Again, Lasting, Inside}
use Rattle.smc_core.specs.declared.section.TheConstants.{LAST_EPOCH}
use Rattle.smc_core.specs.declared.word.State.{State}
use Rattle.smc_core.specs.declared.word.State.TheVariants as state
use Rattle.smc_core.specs.declared.word.Word.{Word}
use Rattle.smc_core.specs.declared.word.Word.TheVariants as word
use Rattle.smc_core.specs.Add.{add_change, slot_seen, entry_seen, next_slot, next_entry, store_field}
use Rattle.smc_core.specs.Begin.{begin_change, begin_counting, begin_counted, round_seen, source_owner, blank_field, is_source, past_target, with_move, first_walk, to_source, to_target}
use Rattle.smc_core.specs.Cancel.{cancel_change, cancel_offer}
use Rattle.smc_core.specs.Change.{go_change, start_change, advance_next, section_seen, ready_seen, remove_started, next_started, finish_owned, cancel_owned, look_started}
use Rattle.smc_core.specs.Count.{blocks_for, counting, count_next, count_owner, survey_change, no_count, with_object, is_valid}
use Rattle.smc_core.specs.Finish.{finish_change, finish_start, is_early, first_target}
use Rattle.smc_core.specs.Local.{words_after}
use Rattle.smc_core.specs.Look.{look_change, looking_change, look_finding, seeker_of, sought_number, passes, visits}
use Rattle.smc_core.specs.Offer.{go_offer, start_offer, held_slot, when_inside, when_held, when_begun, when_owned}
use Rattle.smc_core.specs.Ripe.{is_ripe_slot, is_ripe_entry}
use Rattle.smc_core.specs.Row.{has_place}
use Rattle.smc_core.specs.Scan.{scan_change, scan_number, scan_of, next_change, next_offer, owner_seen, is_over, is_scanned}
use Rattle.smc_core.specs.Section.{epoch_of, is_calm, entering_change, entering_offer}
use Rattle.smc_core.specs.Step.{goes, goes_telling, ends, tells}
use Rattle.smc_core.specs.Words.{plain_of, dir_of, back_of, state_of, round_of, same_word, is_gone, has_object_at}
use Rattle.smc_trace.specs.Trace.{event_in}
use Rattle.smc_calls.specs.Ends.{EndsSo}

-- the collection of an add in progress
abbrev pub coll_added : AddPhase → ℕ
coll_added (add.FindSlot coll from slot tried) = coll
coll_added (add.ClaimSlot coll from slot tried seen) = coll
coll_added (add.FindEntry coll slot entry tried) = coll
coll_added (add.ClaimEntry coll slot entry tried incarnation stamp) = coll
coll_added (add.DropSlot coll slot) = coll
coll_added (add.StoreBack slot number) = number.coll
coll_added (add.StoreField slot number field) = number.coll
coll_added (add.StoreValid slot number) = number.coll
coll_added (add.StoreLive slot number) = number.coll

-- the object of a remove in progress
abbrev pub removed_in : RemovePhase → Number
removed_in (remove.LeaveSlot slot number) = number
removed_in (remove.FreeEntry number) = number

-- the scan that is on its way
abbrev pub scan_in : ScanPhase → ℕ
scan_in (scan.Directory number coll slot) = number
scan_in (scan.Back number coll slot) = number
scan_in (scan.End number) = number

-- the collection of a count in progress
abbrev pub coll_counted : CountPhase → ℕ
coll_counted (walk.Directory coll slot count) = coll
coll_counted (walk.Back coll slot count) = coll
coll_counted (walk.Entry coll slot count number) = coll

-- the collection of a begin in progress
abbrev pub coll_begun : BeginPhase → ℕ
coll_begun (begin.Count next) = coll_counted next
coll_begun (begin.Nothing coll) = coll
coll_begun (begin.SourceDirectory moves) = moves.coll
coll_begun (begin.SourceBack moves) = moves.coll
coll_begun (begin.SourceEntry moves number) = moves.coll
coll_begun (begin.TargetDirectory moves number) = moves.coll
coll_begun (begin.ClaimTarget moves number seen) = moves.coll
coll_begun (begin.BlankField moves number field) = moves.coll
coll_begun (begin.StoreBack moves number) = moves.coll
coll_begun (begin.StoreForward moves number) = moves.coll
coll_begun (begin.StoreIncoming moves number) = moves.coll
coll_begun (begin.Freeze moves number) = moves.coll
coll_begun (begin.GiveUp moves) = moves.coll

-- the call of a look-up, by who looks
abbrev pub IsSought : Seeker → Number → Call → Type 0
IsSought seeker.Caller number made = made ≡ call.Look number
IsSought (seeker.Scan scan coll slot) number made = made ≡ call.Next scan

-- the call that a phase belongs to, by the words of the latest add
abbrev pub InCall : Phase → List ℕ → Call → Type 0
InCall phase.Idle words made = ⊥
InCall phase.Entering words made = made ≡ call.Enter
InCall (phase.Advancing epoch other) words made = made ≡ call.Advance
InCall (phase.Ready epoch) words made = made ≡ call.Advance
InCall (phase.Look next) words made = IsSought (seeker_of next) (sought_number next) made
InCall (phase.Add next) words made = (from : ℕ) × (made ≡ call.Add (coll_added next) from words)
InCall (phase.Remove next) words made = made ≡ call.Remove (removed_in next)
InCall (phase.Scan next) words made = made ≡ call.Next (scan_in next)
InCall (phase.Begin next) words made = made ≡ call.Begin (coll_begun next)
InCall (phase.Finish next) words made = made ≡ call.Finish
InCall (phase.Cancel next) words made = made ≡ call.Cancel
InCall (phase.Survey next) words made = made ≡ call.Survey (coll_counted next)

-- what the call in progress has told: only a remove tells before it ends
abbrev pub told_in : Phase → Option Event
told_in (phase.Remove next) = Some (event.Remove (removed_in next) true)
told_in _ = None

-- the call, which has told this in all, goes on or has ended
abbrev pub GoesOn : Call → List ℕ → Option Event → Option Done → Phase → Type 0
GoesOn made words all None next = InCall next words made × (told_in next ≡ all)
GoesOn made words all (Some answer) next = (next ≡ phase.Idle) × EndsSo answer all made

-- so it does by a change, where it has told nothing before
abbrev pub By : Call → List ℕ → Change → Type 0
By made words c = GoesOn made words c.event c.answer c.phase

-- or it has told this before
pub record Comes (made : Call) (words : List ℕ) (told : Option Event) (c : Change) : Type 0 where
  pub all : Option Event
  pub joins : event_in told ++ event_in c.event ≡ event_in all
  pub goes_on : GoesOn made words all c.answer c.phase

module _ (shape : Layout) (words : List ℕ) where
  -- one change or another
  either : (made : Call) (b : Bool) (x y : Change) → By made words x → By made words y → By made words (if b then x else y)
  either made true x y here there = here
  either made false x y here there = there

  -- a scan passes a slot
  passes-on : (number coll slot : ℕ) → By (call.Next number) words (goes (passes shape number coll slot))
  passes-on number coll slot = go (nat_lt (slot + 1) (slots_of shape coll))
    where
      go : (b : Bool) → By (call.Next number) words (goes (if b then phase.Scan (scan.Directory number coll (slot + 1)) else phase.Scan (scan.End number)))
      go true = (refl, refl)
      go false = (refl, refl)

  look-on : (made : Call) (who : Seeker) (number : Number) (finding : Finding) → IsSought who number made → By made words (look_change shape who number finding)
  look-on made seeker.Caller number Absent is = (refl, (number, refl, is))
  look-on made seeker.Caller number (Stays slot) is = (refl, (number, refl, is))
  look-on made seeker.Caller number (Abandons slot) is = (is, refl)
  look-on made seeker.Caller number (Helps slot copy) is = (is, refl)
  look-on made (seeker.Scan k coll place) number Absent is = subst (λ (c : Call). By c words (goes (passes shape k coll place))) (sym is) (passes-on k coll place)
  look-on made (seeker.Scan k coll place) number (Stays slot) is =
      either made (slot == place) (visits k number slot) (goes (passes shape k coll place)) (refl, (k, refl, is))
      (subst (λ (c : Call). By c words (goes (passes shape k coll place))) (sym is) (passes-on k coll place))
  look-on made (seeker.Scan k coll place) number (Abandons slot) is = (is, refl)
  look-on made (seeker.Scan k coll place) number (Helps slot copy) is = (is, refl)

  looking-on : (made : Call) (calm : Bool) (next : LookPhase) (w : Word) → IsSought (seeker_of next) (sought_number next) made → By made words (looking_change shape calm next w)
  looking-on made calm next w is = look-on made (seeker_of next) (sought_number next) (look_finding shape calm next w) is

  look_started-on : (calm : Bool) (number : Number) (w : Word) → By (call.Look number) words (look_started shape calm number w)
  look_started-on calm number w =
      either (call.Look number) (has_place shape (place.Entry number.coll number.entry)) (looking_change shape calm (look.Load seeker.Caller number) w) (tells (event.Look number false) done.Null)
      (looking-on (call.Look number) calm (look.Load seeker.Caller number) w refl) (refl, (number, refl, refl))

  -- an add
  next_slot-on : (coll at from slot tried : ℕ) → By (call.Add coll at words) words (next_slot shape coll from slot tried)
  next_slot-on coll at from slot tried = either (call.Add coll at words) (nat_lt (tried + 1) (slots_of shape coll)) _ _ ((at, refl), refl) (refl, (coll, at, words, refl, refl))

  next_entry-on : (coll at slot entry tried : ℕ) → By (call.Add coll at words) words (next_entry shape coll slot entry tried)
  next_entry-on coll at slot entry tried = either (call.Add coll at words) (nat_lt (tried + 1) (entries_of shape coll)) _ _ ((at, refl), refl) ((at, refl), refl)

  slot_seen-on : (epoch coll at from slot tried : ℕ) (seen : Dir) → By (call.Add coll at words) words (slot_seen shape epoch coll from slot tried seen)
  slot_seen-on epoch coll at from slot tried seen = either (call.Add coll at words) (is_ripe_slot epoch seen) _ _ ((at, refl), refl) (next_slot-on coll at from slot tried)

  entry_seen-on : (epoch coll at slot entry tried : ℕ) (seen : State) → By (call.Add coll at words) words (entry_seen shape epoch coll slot entry tried seen)
  entry_seen-on epoch coll at slot entry tried (state.Free incarnation stamp) = either (call.Add coll at words) (is_ripe_entry epoch incarnation stamp) _ _ ((at, refl), refl) (next_entry-on coll at slot entry tried)
  entry_seen-on epoch coll at slot entry tried _ = next_entry-on coll at slot entry tried

  store_field-on : (at slot : ℕ) (number : Number) (field : ℕ) → By (call.Add number.coll at words) words (goes (phase.Add (store_field shape slot number field)))
  store_field-on at slot number field = go (nat_lt field (width_of shape number.coll))
    where
      go : (b : Bool) → By (call.Add number.coll at words) words (goes (phase.Add (if b then add.StoreField slot number field else add.StoreValid slot number)))
      go true = ((at, refl), refl)
      go false = ((at, refl), refl)

  add-on : (epoch at : ℕ) (next : AddPhase) (w : Word) → By (call.Add (coll_added next) at words) words (add_change shape epoch words next w)
  add-on epoch at (add.FindSlot coll from slot tried) w = slot_seen-on epoch coll at from slot tried (dir_of w)
  add-on epoch at (add.ClaimSlot coll from slot tried seen) w = either (call.Add coll at words) (same_word w (word.Directory seen)) _ _ ((at, refl), refl) (next_slot-on coll at from slot tried)
  add-on epoch at (add.DropSlot coll slot) w = (refl, (coll, at, words, refl, refl))
  add-on epoch at (add.FindEntry coll slot entry tried) w = entry_seen-on epoch coll at slot entry tried (state_of w)
  add-on epoch at (add.ClaimEntry coll slot entry tried incarnation stamp) w = either (call.Add coll at words) (same_word w (word.Entry (state.Free incarnation stamp))) _ _ ((at, refl), refl) (next_entry-on coll at slot entry tried)
  add-on epoch at (add.StoreBack slot number) w = store_field-on at slot number 0
  add-on epoch at (add.StoreField slot number field) w = store_field-on at slot number (field + 1)
  add-on epoch at (add.StoreValid slot number) w = ((at, refl), refl)
  add-on epoch at (add.StoreLive slot number) w = (refl, (number, at, words, refl, refl))

  -- going on with a scan
  scan-on : (next : ScanPhase) (w : Word) → By (call.Next (scan_in next)) words (scan_change shape next w)
  scan-on (scan.Directory number coll slot) w = either (call.Next number) (is_scanned (dir_of w)) _ _ (refl, refl) (passes-on number coll slot)
  scan-on (scan.Back number coll slot) w = go (back_of w)
    where
      go : (owner : Option Number) → By (call.Next number) words (owner_seen shape number coll slot owner)
      go None = passes-on number coll slot
      go (Some owner) = (refl, refl)
  scan-on (scan.End number) w = (refl, (number, inl refl, refl))

  next-on : (begun : Scan) (w : Word) → By (call.Next begun.number) words (next_change shape begun w)
  next-on begun w =
      either (call.Next begun.number) begun.ended _ _ (refl, (begun.number, inr refl, refl))
      (either (call.Next begun.number) (is_over shape begun) _ _ (scan-on (scan.End begun.number) w) (scan-on (scan.Directory begun.number begun.coll begun.place) w))

  -- a count, for any call that goes on by it
  count_next-at : (coll slot : ℕ) (count : Count) (P : Counting → Type 0)
      → ((next : CountPhase) → coll_counted next ≡ coll → P (Walks next)) → ((all : Count) → P (Counted coll all)) → P (count_next shape coll slot count)
  count_next-at coll slot count P walks counted = go (nat_lt (slot + 1) (slots_of shape coll))
    where
      go : (b : Bool) → P (if b then Walks (walk.Directory coll (slot + 1) count) else Counted coll count)
      go true = walks (walk.Directory coll (slot + 1) count) refl
      go false = counted count

  counting-at : (next : CountPhase) (w : Word) (P : Counting → Type 0)
      → ((after : CountPhase) → coll_counted after ≡ coll_counted next → P (Walks after)) → ((all : Count) → P (Counted (coll_counted next) all)) → P (counting shape next w)
  counting-at (walk.Directory coll slot count) w P walks counted = go (is_valid (dir_of w))
    where
      go : (b : Bool) → P (if b then Walks (walk.Back coll slot count) else count_next shape coll slot count)
      go true = walks (walk.Back coll slot count) refl
      go false = count_next-at coll slot count P walks counted
  counting-at (walk.Back coll slot count) w P walks counted = go (back_of w)
    where
      go : (owner : Option Number) → P (count_owner shape coll slot count owner)
      go None = count_next-at coll slot count P walks counted
      go (Some number) = walks (walk.Entry coll slot count number) refl
  counting-at (walk.Entry coll slot count number) w P walks counted =
      count_next-at coll slot (if has_object_at number.incarnation slot (state_of w) then with_object slot count else count) P walks counted

  survey-on : (next : CountPhase) (w : Word) → By (call.Survey (coll_counted next)) words (survey_change (counting shape next w))
  survey-on next w = counting-at next w (λ k. By (call.Survey (coll_counted next)) words (survey_change k)) (λ after is. (ap call.Survey (sym is), refl)) (λ all. (refl, (refl, refl)))

  -- a begin
  source-on : (epoch : ℕ) (moves : Walk) → By (call.Begin moves.coll) words (to_source shape epoch moves)
  source-on epoch moves = either (call.Begin moves.coll) (nat_lt moves.source (slots_of shape moves.coll)) _ _ (refl, refl) (refl, (refl, refl))

  target-on : (epoch : ℕ) (moves : Walk) (number : Number) → By (call.Begin moves.coll) words (to_target epoch moves number)
  target-on epoch moves number = either (call.Begin moves.coll) (nat_lt moves.target moves.kept) _ _ (refl, refl) (refl, (refl, refl))

  blank-on : (moves : Walk) (number : Number) (field : ℕ) → By (call.Begin moves.coll) words (goes (phase.Begin (blank_field shape moves number field)))
  blank-on moves number field = go (nat_lt field (width_of shape moves.coll))
    where
      go : (b : Bool) → By (call.Begin moves.coll) words (goes (phase.Begin (if b then begin.BlankField moves number field else begin.StoreBack moves number)))
      go true = (refl, refl)
      go false = (refl, refl)

  counted-on : (epoch coll : ℕ) (all : Count) → By (call.Begin coll) words (begin_counted shape epoch coll all)
  counted-on epoch coll all =
      either (call.Begin coll) (nat_le all.blocks (blocks_for all.objects)) (goes (phase.Begin (begin.Nothing coll))) (to_source shape epoch (first_walk coll (blocks_for all.objects * BLOCK_SLOTS))) (refl, refl) (source-on epoch (first_walk coll (blocks_for all.objects * BLOCK_SLOTS)))

  begin-on : (epoch : ℕ) (next : BeginPhase) (w : Word) → By (call.Begin (coll_begun next)) words (begin_change shape epoch next w)
  begin-on epoch (begin.Count next) w =
      counting-at next w (λ k. By (call.Begin (coll_counted next)) words (begin_counting shape epoch k)) (λ after is. (ap call.Begin (sym is), refl)) (λ all. counted-on epoch (coll_counted next) all)
  begin-on epoch (begin.Nothing coll) w = (refl, (refl, refl))
  begin-on epoch (begin.SourceDirectory moves) w = either (call.Begin moves.coll) (is_valid (dir_of w)) _ _ (refl, refl) (source-on epoch (record moves { source = moves.source + 1 }))
  begin-on epoch (begin.SourceBack moves) w = go (back_of w)
    where
      go : (owner : Option Number) → By (call.Begin moves.coll) words (source_owner shape epoch moves owner)
      go None = source-on epoch (record moves { source = moves.source + 1 })
      go (Some number) = (refl, refl)
  begin-on epoch (begin.SourceEntry moves number) w = either (call.Begin moves.coll) (is_source number moves.source (state_of w)) _ _ (target-on epoch moves number) (source-on epoch (record moves { source = moves.source + 1 }))
  begin-on epoch (begin.TargetDirectory moves number) w = either (call.Begin moves.coll) (is_ripe_slot epoch (dir_of w)) _ _ (refl, refl) (target-on epoch (past_target moves) number)
  begin-on epoch (begin.ClaimTarget moves number seen) w = either (call.Begin moves.coll) (same_word w (word.Directory seen)) _ _ (blank-on moves number 0) (target-on epoch (past_target moves) number)
  begin-on epoch (begin.BlankField moves number field) w = blank-on moves number (field + 1)
  begin-on epoch (begin.StoreBack moves number) w = (refl, refl)
  begin-on epoch (begin.StoreForward moves number) w = (refl, refl)
  begin-on epoch (begin.StoreIncoming moves number) w = (refl, refl)
  begin-on epoch (begin.Freeze moves number) w =
      either (call.Begin moves.coll) (same_word w (word.Entry (state.Present number.incarnation moves.source))) _ _ (source-on epoch (record (with_move (past_target moves)) { source = moves.source + 1 })) (refl, refl)
  begin-on epoch (begin.GiveUp moves) w = source-on epoch (record (past_target moves) { source = moves.source + 1 })

  round_seen-on : (coll : ℕ) (seen : Option RoundWord) → By (call.Begin coll) words (round_seen coll seen)
  round_seen-on coll None = (refl, refl)
  round_seen-on coll (Some round) = (refl, (coll, refl, refl))

  -- a finish, a cancel
  finish-on : (next : FinishPhase) (w : Word) → By call.Finish words (finish_change shape next w)
  finish-on (finish.End targets) w = (refl, (refl, refl))
  finish-on (finish.Directory targets) w = (refl, refl)
  finish-on (finish.Back targets) w = (refl, refl)
  finish-on (finish.Entry targets number) w = (refl, refl)
  finish-on (finish.Lock targets number source) w = (refl, refl)
  finish-on (finish.Move targets number source next) w = (refl, refl)
  finish-on (finish.Settle targets source) w = (refl, refl)
  finish-on (finish.LeaveSource targets source) w = (refl, refl)
  finish-on (finish.GiveUp targets gone) w = (refl, refl)

  cancel-on : (next : CancelPhase) (w : Word) → By call.Cancel words (cancel_change shape next w)
  cancel-on cancel.End w = (refl, (refl, refl))
  cancel-on (cancel.Directory coll slot) w = (refl, refl)
  cancel-on (cancel.Back coll slot) w = (refl, refl)
  cancel-on (cancel.Entry coll slot number) w = (refl, refl)
  cancel-on (cancel.Unfreeze coll slot number source) w = (refl, refl)
  cancel-on (cancel.GiveUp coll slot) w = (refl, refl)

  -- an advance
  advance-on : (epoch other : ℕ) → By call.Advance words (goes (advance_next shape epoch other))
  advance-on epoch other = go (nat_lt other shape.passes)
    where
      go : (b : Bool) → By call.Advance words (goes (if b then phase.Advancing epoch other else phase.Ready epoch))
      go true = (refl, refl)
      go false = (refl, refl)

  section_seen-on : (epoch other seen : ℕ) → By call.Advance words (section_seen shape epoch other seen)
  section_seen-on epoch other seen = either call.Advance (seen == 0 || seen == epoch) _ _ (advance-on epoch (other + 1)) (refl, (refl, refl))

  ready_seen-on : (epoch seen : ℕ) → By call.Advance words (ready_seen epoch seen)
  ready_seen-on epoch seen = either call.Advance (seen == epoch) _ _ (refl, (refl, refl)) (refl, (refl, refl))

  -- an enter
  entering-on : (pass : ℕ) (o : Offer) (section : Section) → entering_offer pass section ≡ Some o → By call.Enter words (entering_change section)
  entering-on pass o (Loaded seen) is = (refl, refl)
  entering-on pass o (Announced seen) is = (refl, refl)
  entering-on pass o (Again seen epoch) is = (refl, refl)
  entering-on pass o (Lasting epoch) is = (refl, (refl, refl))
  entering-on pass o Outside is = absurd (none-some o is)
  entering-on pass o (Inside epoch calm) is = absurd (none-some o is)

-- a call that has told nothing before
plainly : (made : Call) (words : List ℕ) (c : Change) → By made words c → Comes made words None c
plainly made words c by = record { all = c.event; joins = refl; goes_on = by }

-- the scan that is found has this number
scan-number : (scans : List Scan) (k : ℕ) (begun : Scan) → scan_of scans k ≡ Some begun → begun.number ≡ k
scan-number [] k begun is = absurd (none-some begun is)
scan-number (first ∷ later) k begun is = go (first.number == k) refl is (scan-number later k begun)
  where
    go : (b : Bool) → (first.number == k) ≡ b → (if b then Some first else scan_of later k) ≡ Some begun → (scan_of later k ≡ Some begun → begun.number ≡ k) → begun.number ≡ k
    go true same is rest = ap (λ (x : Scan). x.number) (sym (same_Some first begun is)) ∙ eqb-true first.number k same
    go false same is rest = rest is

inside-offer : (section : Section) (x : Option Offer) (o : Offer) → when_inside section x ≡ Some o → x ≡ Some o
inside-offer (Inside epoch calm) x o is = is
inside-offer Outside x o is = absurd (none-some o is)
inside-offer (Loaded seen) x o is = absurd (none-some o is)
inside-offer (Announced seen) x o is = absurd (none-some o is)
inside-offer (Again seen epoch) x o is = absurd (none-some o is)
inside-offer (Lasting epoch) x o is = absurd (none-some o is)

module _ (shape : Layout) (pass : ℕ) (stand : Stand) (o : Offer) (told : ℕ) (w : Word) where
  -- a step of the call in progress
  pub comes-go : (section : Section) (next : Phase) (made : Call) → go_offer pass stand section next ≡ Some o → InCall next stand.words made
      → Comes made stand.words (told_in next) (go_change shape stand section next w)
  comes-go section phase.Idle made offers is = absurd is
  comes-go section phase.Entering made offers is =
      plainly made stand.words _ (subst (λ (c : Call). By c stand.words (entering_change section)) (sym is) (entering-on shape stand.words pass o section offers))
  comes-go section (phase.Advancing epoch other) made offers is =
      plainly made stand.words _ (subst (λ (c : Call). By c stand.words (section_seen shape epoch other (plain_of w))) (sym is) (section_seen-on shape stand.words epoch other (plain_of w)))
  comes-go section (phase.Ready epoch) made offers is =
      plainly made stand.words _ (subst (λ (c : Call). By c stand.words (ready_seen epoch (plain_of w))) (sym is) (ready_seen-on shape stand.words epoch (plain_of w)))
  comes-go section (phase.Look next) made offers is = plainly made stand.words _ (looking-on shape stand.words made (is_calm section) next w is)
  comes-go section (phase.Add next) made offers is =
      plainly made stand.words _ (subst (λ (c : Call). By c stand.words (add_change shape (epoch_of section) stand.words next w)) (sym is.1) (add-on shape stand.words (epoch_of section) is.0 next w))
  comes-go section (phase.Remove (remove.LeaveSlot slot number)) made offers is = record { all = Some (event.Remove number true); joins = refl; goes_on = (is, refl) }
  comes-go section (phase.Remove (remove.FreeEntry number)) made offers is = record { all = Some (event.Remove number true); joins = refl; goes_on = (refl, (number, refl, is)) }
  comes-go section (phase.Scan next) made offers is =
      plainly made stand.words _ (subst (λ (c : Call). By c stand.words (scan_change shape next w)) (sym is) (scan-on shape stand.words next w))
  comes-go section (phase.Begin next) made offers is =
      plainly made stand.words _ (subst (λ (c : Call). By c stand.words (begin_change shape (epoch_of section) next w)) (sym is) (begin-on shape stand.words (epoch_of section) next w))
  comes-go section (phase.Finish next) made offers is =
      plainly made stand.words _ (subst (λ (c : Call). By c stand.words (finish_change shape next w)) (sym is) (finish-on shape stand.words next w))
  comes-go section (phase.Cancel next) made offers is =
      plainly made stand.words _ (subst (λ (c : Call). By c stand.words (cancel_change shape next w)) (sym is) (cancel-on shape stand.words next w))
  comes-go section (phase.Survey next) made offers is =
      plainly made stand.words _ (subst (λ (c : Call). By c stand.words (survey_change (counting shape next w))) (sym is) (survey-on shape stand.words next w))

  -- by the first step of a call
  begins : (section : Section) (made : Call) → start_offer shape pass stand section made ≡ Some o → By made (words_after stand.words (Start made)) (start_change shape pass stand section made told w)
  begins section call.Enter offers = (refl, refl)
  begins section call.Leave offers = (refl, (refl, refl))
  begins section call.Advance offers =
      either shape stand.words call.Advance (plain_of w == LAST_EPOCH) (ends done.Spent) (goes (advance_next shape (plain_of w) 0)) (refl, (refl, refl)) (advance-on shape stand.words (plain_of w) 0)
  begins section (call.Add coll from added) offers = slot_seen-on shape added (epoch_of section) coll from from from 0 (dir_of w)
  begins section (call.Look number) offers = look_started-on shape stand.words (is_calm section) number w
  begins section (call.Read number field) offers = (refl, (number, field, refl, refl))
  begins section (call.Write number field value) offers = (refl, (number, field, value, refl, refl))
  begins section (call.Remove number) offers = go _ (held_slot stand.held number) (inside-offer section _ o offers)
    where
      marks : (slot : ℕ) (gone : Bool) → By (call.Remove number) stand.words (if gone then tells (event.Remove number false) done.Late else goes_telling (event.Remove number true) (phase.Remove (remove.LeaveSlot slot number)))
      marks slot true = (refl, (number, refl, refl))
      marks slot false = (refl, refl)

      go : (offered : ℕ → Option Offer) (held : Option ℕ) → when_held held offered ≡ Some o → By (call.Remove number) stand.words (remove_started number held (state_of w))
      go offered None is = absurd (none-some o is)
      go offered (Some slot) is = marks slot (is_gone (state_of w))
  begins section (call.Scan coll) offers = (refl, (scan_number pass stand.begun, coll, refl, refl))
  begins section (call.Next k) offers = go (scan_of stand.scans k) refl (inside-offer section _ o offers)
    where
      go : (found : Option Scan) → scan_of stand.scans k ≡ found → when_begun found (λ begun. next_offer shape pass begun) ≡ Some o → By (call.Next k) stand.words (next_started shape found w)
      go None found is = absurd (none-some o is)
      go (Some begun) found is = subst (λ (n : ℕ). By (call.Next n) stand.words (next_change shape begun w)) (scan-number stand.scans k begun found) (next-on shape stand.words begun w)
  begins section (call.Begin coll) offers = round_seen-on shape stand.words coll (round_of w)
  begins section call.Finish offers = go stand.round (inside-offer section _ o offers)
    where
      go : (owned : Option Owned) → when_owned owned (λ owned. finish_start pass (epoch_of section) owned) ≡ Some o → By call.Finish stand.words (finish_owned shape (epoch_of section) owned w)
      go None is = absurd (none-some o is)
      go (Some owned) is = either shape stand.words call.Finish (is_early (epoch_of section) owned.bound) (ends (done.Early (epoch_of section) owned.bound)) (finish_change shape (finish.Directory (first_target owned.coll)) w) (refl, (refl, refl))
          (finish-on shape stand.words (finish.Directory (first_target owned.coll)) w)
  begins section call.Cancel offers = go stand.round (inside-offer section _ o offers)
    where
      go : (owned : Option Owned) → when_owned owned (λ owned. cancel_offer (epoch_of section) (cancel.Directory owned.coll 0)) ≡ Some o → By call.Cancel stand.words (cancel_owned shape owned w)
      go None is = absurd (none-some o is)
      go (Some owned) is = cancel-on shape stand.words (cancel.Directory owned.coll 0) w
  begins section (call.Survey coll) offers = survey-on shape stand.words (walk.Directory coll 0 no_count) w
  begins section call.Note offers = (refl, (refl, refl))
  begins section (call.Learn other note) offers = (refl, (other, note, told, refl, refl))

  pub comes-start : (section : Section) (made : Call) → start_offer shape pass stand section made ≡ Some o
      → Comes made (words_after stand.words (Start made)) None (start_change shape pass stand section made told w)
  comes-start section made offers = plainly made (words_after stand.words (Start made)) (start_change shape pass stand section made told w) (begins section made offers)
