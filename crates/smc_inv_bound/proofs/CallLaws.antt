-- Each step of each call leaves fewer steps.
use Rattle.std.proofs.Common.{◌≡◌, ℕ, ◌+◌, ◌*◌, ◌<◌, ◌≤◌, ◌==◌, Bool, true, false, nat_lt, Option, Some, None, List, length, refl, sym, ap, subst, arith}
use Rattle.std.specs.Prelude.{IsFalse, if◌then◌else◌}
use Rattle.std.proofs.lemmas.Bool.{cond_both, ltb-true}
use Rattle.smc_words.specs.declared.number.Number.{Number}
use Rattle.smc_shape.specs.Layout.{Layout, IsShape, width_of, slots_of, entries_of}
use Rattle.smc_core.specs.declared.phase.Phase.{Phase}
use Rattle.smc_core.specs.declared.phase.Phase.TheVariants as phase
use Rattle.smc_core.specs.declared.phase.moves.BeginPhase.{BeginPhase}
use Rattle.smc_core.specs.declared.phase.moves.BeginPhase.TheVariants as begin
use Rattle.smc_core.specs.declared.phase.moves.CancelPhase.{CancelPhase}
use Rattle.smc_core.specs.declared.phase.moves.CancelPhase.TheVariants as cancel
use Rattle.smc_core.specs.declared.phase.moves.Count.{Count}
use Rattle.smc_core.specs.declared.phase.moves.Counting.{Counting}
use Rattle.smc_core.specs.declared.phase.moves.Counting.TheVariants.{Walks, Counted}
use Rattle.smc_core.specs.declared.phase.moves.CountPhase.{CountPhase}
use Rattle.smc_core.specs.declared.phase.moves.CountPhase.TheVariants as walk
use Rattle.smc_core.specs.declared.phase.moves.FinishPhase.{FinishPhase}
use Rattle.smc_core.specs.declared.phase.moves.FinishPhase.TheVariants as finish
use Rattle.smc_core.specs.declared.phase.moves.Targets.{Targets}
use Rattle.smc_core.specs.declared.phase.moves.Walk.{Walk}
use Rattle.smc_core.specs.declared.phase.objects.AddPhase.{AddPhase}
use Rattle.smc_core.specs.declared.phase.objects.AddPhase.TheVariants as add
use Rattle.smc_core.specs.declared.phase.objects.CopyPhase.{CopyPhase}
use Rattle.smc_core.specs.declared.phase.objects.CopyPhase.TheVariants as copy
use Rattle.smc_core.specs.declared.phase.objects.Finding.{Finding}
use Rattle.smc_core.specs.declared.phase.objects.Finding.TheVariants.{Absent, Stays, Abandons, Helps}
use Rattle.smc_core.specs.declared.phase.objects.LookPhase.{LookPhase}
use Rattle.smc_core.specs.declared.phase.objects.LookPhase.TheVariants as look
use Rattle.smc_core.specs.declared.phase.objects.RemovePhase.{RemovePhase}
use Rattle.smc_core.specs.declared.phase.objects.RemovePhase.TheVariants as remove
use Rattle.smc_core.specs.declared.phase.objects.ScanPhase.{ScanPhase}
use Rattle.smc_core.specs.declared.phase.objects.ScanPhase.TheVariants as scan
use Rattle.smc_core.specs.declared.phase.objects.Seeker.{Seeker}
use Rattle.smc_core.specs.declared.phase.objects.Seeker.TheVariants as seeker
use Rattle.smc_core.specs.declared.word.State.{State}
use Rattle.smc_core.specs.declared.word.State.TheVariants as state
use Rattle.smc_core.specs.declared.word.Word.{Word}
use Rattle.smc_core.specs.declared.word.Word.TheVariants as word
use Rattle.smc_core.specs.Add.{add_change, entry_seen, next_slot, next_entry, store_field, refuses}
use Rattle.smc_core.specs.Begin.{begin_change, begin_counted, begin_counting, blank_field, ends_round, first_walk, is_source, next_source, past_target, source_owner, to_source, to_target, with_move}
use Rattle.smc_core.specs.Cancel.{cancel_change, cancel_owner, next_cancelled, unfreeze}
use Rattle.smc_core.specs.Count.{blocks_for, count_next, count_owner, counting, is_valid, survey_change, with_object}
use Rattle.smc_core.specs.Finish.{finish_change, finish_next, frozen_slot, give_up, is_incoming, lock, move, next_target, target_owner, with_given_up, with_moved}
use Rattle.smc_core.specs.Look.{copy_field, find, find_after_abandon, find_after_swing, help_finding, look_change, look_finding, looking_change, passes, seeker_of, sought_number, visits}
use Rattle.smc_core.specs.Remove.{remove_change}
use Rattle.smc_core.specs.Ripe.{is_ripe_entry, is_ripe_slot, next_round}
use Rattle.smc_core.specs.Scan.{is_scanned, owner_seen, scan_change}
use Rattle.smc_core.specs.Step.{goes}
use Rattle.smc_core.specs.Words.{dir_of, state_of, back_of, forward_of, has_object_at, same_word}
use Rattle.std.specs.Prelude.{◌-◌, nat_le}
use Rattle.std.proofs.Common.{inl, inr}
use Rattle.std.proofs.lemmas.Bool.{cases_lt}
use Rattle.std.proofs.lemmas.List.{get_or_past}
use Rattle.smc_shape.specs.Layout.{no_coll, Collection}
use Rattle.smc_shape.specs.declared.coll.TheConstants.{BLOCK_SLOTS, MAX_WIDTH}
use Rattle.smc_model.specs.declared.event.Cause.TheVariants.{Slots}
use Rattle.smc_core.specs.declared.section.Section.{Section}
use Rattle.smc_inv_bound.specs.Left.{slots_behind, copy_left, scan_rest, seeker_left, look_left, scan_left, store_left, entry_left, add_left, remove_left, count_left, counted_coll, moves_left, sources_left, source_left, begin_left, targets_left, finish_left, cancel_left, steps_left, CountsWidths, CountsOwners}

-- no record is wider than the greatest width
pub width_low : (shape : Layout) (coll : ℕ) → IsShape shape → width_of shape coll ≤ MAX_WIDTH
width_low shape coll valid = elim (cases_lt coll (length shape.colls)) [
  | inl l ↦ (valid.coll coll l).width
  | inr past ↦ omega (arith, ap (λ (c : Collection). c.width) (get_or_past shape.colls coll no_coll past))
]

-- fewer steps of a call that goes on in this phase are left than so many
abbrev pub Falls : Layout → (ℕ → ℕ) → ℕ → Phase → Type 0
Falls shape wide bound next = (section : Section) → steps_left shape wide section next < bound

module _ (shape : Layout) (wide : ℕ → ℕ) (widths : CountsWidths shape wide) where
  -- copying
  copy_field-falls : (coll target field bound : ℕ) → (field < wide coll → 2 * (wide coll - (field + 1)) + 3 < bound) → 1 < bound → copy_left (wide coll) (copy_field shape coll target field) < bound
  copy_field-falls coll target field bound more one = cond_both (nat_lt field (width_of shape coll)) (copy.Load target field) (copy.Swing target) (λ c. copy_left (wide coll) c < bound)
      (λ t. more (omega (arith, ltb-true field (width_of shape coll) t, widths coll))) (λ n. one)

  -- so much for each slot behind: of one slot more, so much more
  behind_on : (coll slot each : ℕ) → slot + 1 < slots_of shape coll → each * slots_behind shape coll slot ≡ each * slots_behind shape coll (slot + 1) + each
  behind_on coll slot each on =
      let one : slots_behind shape coll slot ≡ slots_behind shape coll (slot + 1) + 1 = omega (arith, on) in
      omega (arith, ap (λ (n : ℕ). each * n) one)

  -- a scan that passes a slot
  pub passes-falls : (k coll slot bound : ℕ) → scan_rest shape wide coll slot < bound → Falls shape wide bound (passes shape k coll slot)
  passes-falls k coll slot bound less section =
      cond_both (nat_lt (slot + 1) (slots_of shape coll)) (phase.Scan (scan.Directory k coll (slot + 1))) (phase.Scan (scan.End k)) (λ p. steps_left shape wide section p < bound)
      (λ t. omega (arith, less, behind_on coll slot (2 * wide coll + 6) (ltb-true (slot + 1) (slots_of shape coll) t))) (λ n. omega (arith, less))

  -- what a look-up learns leaves fewer steps
  abbrev LessFinding : ℕ → ℕ → Finding → Type 0
  LessFinding width bound Absent = 0 < bound
  LessFinding width bound (Stays slot) = 0 < bound
  LessFinding width bound (Abandons slot) = 2 * width + 3 < bound
  LessFinding width bound (Helps slot next) = (0 < bound) × (copy_left width next < bound)

  less_absent : (width bound : ℕ) (b : Bool) (finding : Finding) → 0 < bound → LessFinding width bound finding → LessFinding width bound (if b then finding else Absent)
  less_absent width bound b finding some less = cond_both b finding Absent (LessFinding width bound) (λ t. less) (λ n. some)

  find-less : (width : ℕ) (calm : Bool) (incarnation : ℕ) (s : State) → LessFinding width (2 * width + 4) (find calm incarnation s)
  find-less width calm a (state.Free other stamp) = omega arith
  find-less width calm a (state.Claimed other) = omega arith
  find-less width calm a (state.Present other slot) = less_absent width _ (other == a) (Stays slot) (omega arith) (omega arith)
  find-less width calm a (state.Frozen other slot) = less_absent width _ (other == a) (if calm then Stays slot else Abandons slot) (omega arith)
      (cond_both calm (Stays slot) (Abandons slot) (LessFinding width (2 * width + 4)) (λ t. omega arith) (λ n. omega arith))
  find-less width calm a (state.Locked other slot) = less_absent width _ (other == a) (if calm then Stays slot else Helps slot copy.Target) (omega arith)
      (cond_both calm (Stays slot) (Helps slot copy.Target) (LessFinding width (2 * width + 4)) (λ t. omega arith) (λ n. (omega arith, omega arith)))
  find-less width calm a (state.Removed other slot frozen locked) = omega arith

  find_after_abandon-less : (width : ℕ) (incarnation : ℕ) (s : State) → LessFinding width (2 * width + 3) (find_after_abandon incarnation s)
  find_after_abandon-less width a (state.Free other stamp) = omega arith
  find_after_abandon-less width a (state.Claimed other) = omega arith
  find_after_abandon-less width a (state.Present other slot) = less_absent width _ (other == a) (Stays slot) (omega arith) (omega arith)
  find_after_abandon-less width a (state.Frozen other slot) = less_absent width _ (other == a) (Stays slot) (omega arith) (omega arith)
  find_after_abandon-less width a (state.Locked other slot) = less_absent width _ (other == a) (Helps slot copy.Target) (omega arith) (omega arith, omega arith)
  find_after_abandon-less width a (state.Removed other slot frozen locked) = omega arith

  find_after_swing-less : (width : ℕ) (incarnation : ℕ) (s : State) → LessFinding width 1 (find_after_swing incarnation s)
  find_after_swing-less width a (state.Free other stamp) = omega arith
  find_after_swing-less width a (state.Claimed other) = omega arith
  find_after_swing-less width a (state.Present other slot) = less_absent width _ (other == a) (Stays slot) (omega arith) (omega arith)
  find_after_swing-less width a (state.Frozen other slot) = less_absent width _ (other == a) (Stays slot) (omega arith) (omega arith)
  find_after_swing-less width a (state.Locked other slot) = less_absent width _ (other == a) (Stays slot) (omega arith) (omega arith)
  find_after_swing-less width a (state.Removed other slot frozen locked) = omega arith

  help-less : (number : Number) (slot : ℕ) (next : CopyPhase) (w : Word) → LessFinding (wide number.coll) (copy_left (wide number.coll) next) (help_finding shape number slot next w)
  help-less number slot copy.Target w = (omega arith, copy_field-falls number.coll (forward_of w) 0 (copy_left (wide number.coll) copy.Target) (λ m. omega arith) (omega arith))
  help-less number slot (copy.Load target field) w = (omega arith, omega arith)
  help-less number slot (copy.Put target field value) w =
      (omega arith, copy_field-falls number.coll target (field + 1) (copy_left (wide number.coll) (copy.Put target field value)) (λ m. omega (arith, m)) (omega arith))
  help-less number slot (copy.Swing target) w =
      cond_both (same_word w (word.Entry (state.Locked number.incarnation slot))) (Stays target) (find_after_swing number.incarnation (state_of w)) (LessFinding (wide number.coll) 1)
      (λ t. omega arith) (λ n. find_after_swing-less (wide number.coll) number.incarnation (state_of w))

  -- what a look-up itself has left
  abbrev alone_left : LookPhase → ℕ
  alone_left (look.Load who number) = 2 * wide number.coll + 4
  alone_left (look.Abandon who number slot) = 2 * wide number.coll + 3
  alone_left (look.Help who number slot next) = copy_left (wide number.coll) next

  look_finding-less : (calm : Bool) (next : LookPhase) (w : Word) → LessFinding (wide (sought_number next).coll) (alone_left next) (look_finding shape calm next w)
  look_finding-less calm (look.Load who number) w = find-less (wide number.coll) calm number.incarnation (state_of w)
  look_finding-less calm (look.Abandon who number slot) w =
      cond_both (same_word w (word.Entry (state.Frozen number.incarnation slot))) (Stays slot) (find_after_abandon number.incarnation (state_of w)) (LessFinding (wide number.coll) (2 * wide number.coll + 3))
      (λ t. omega arith) (λ n. find_after_abandon-less (wide number.coll) number.incarnation (state_of w))
  look_finding-less calm (look.Help who number slot next) w = help-less number slot next w

  some_left : (width bound : ℕ) (finding : Finding) → LessFinding width bound finding → 0 < bound
  some_left width bound Absent less = less
  some_left width bound (Stays slot) less = less
  some_left width bound (Abandons slot) less = omega (arith, less)
  some_left width bound (Helps slot next) less = less.0

  look_change-falls : (who : Seeker) (number : Number) (finding : Finding) (bound : ℕ) → LessFinding (wide number.coll) bound finding
      → Falls shape wide (bound + seeker_left shape wide who) (look_change shape who number finding).phase
  look_change-falls seeker.Caller number Absent bound less section = omega (arith, less)
  look_change-falls seeker.Caller number (Stays slot) bound less section = omega (arith, less)
  look_change-falls seeker.Caller number (Abandons slot) bound less section = omega (arith, less)
  look_change-falls seeker.Caller number (Helps slot next) bound less section = omega (arith, less.1)
  look_change-falls (seeker.Scan k coll place) number Absent bound less section = passes-falls k coll place (bound + scan_rest shape wide coll place) (omega (arith, less)) section
  look_change-falls (seeker.Scan k coll place) number (Stays slot) bound less section =
      cond_both (slot == place) (visits k number slot) (goes (passes shape k coll place)) (λ c. steps_left shape wide section c.phase < bound + scan_rest shape wide coll place)
      (λ t. omega (arith, less)) (λ n. passes-falls k coll place (bound + scan_rest shape wide coll place) (omega (arith, less)) section)
  look_change-falls (seeker.Scan k coll place) number (Abandons slot) bound less section = omega (arith, less)
  look_change-falls (seeker.Scan k coll place) number (Helps slot next) bound less section = omega (arith, less.1)

  look_left-alone : (next : LookPhase) → look_left shape wide next ≡ alone_left next + seeker_left shape wide (seeker_of next)
  look_left-alone (look.Load who number) = refl
  look_left-alone (look.Abandon who number slot) = refl
  look_left-alone (look.Help who number slot next) = refl

  pub looking-falls : (calm : Bool) (next : LookPhase) (w : Word) → Falls shape wide (look_left shape wide next) (looking_change shape calm next w).phase
  looking-falls calm next w section =
      subst (λ (n : ℕ). steps_left shape wide section (looking_change shape calm next w).phase < n) (sym (look_left-alone next))
      (look_change-falls (seeker_of next) (sought_number next) (look_finding shape calm next w) (alone_left next) (look_finding-less calm next w) section)

  -- a scan on its way
  owner_seen-falls : (k coll slot : ℕ) (owner : Option Number) → ((number : Number) → owner ≡ Some number → wide number.coll ≤ wide coll)
      → Falls shape wide (2 * wide coll + 5 + scan_rest shape wide coll slot) (owner_seen shape k coll slot owner).phase
  owner_seen-falls k coll slot None counts section = passes-falls k coll slot _ (omega arith) section
  owner_seen-falls k coll slot (Some owner) counts section = omega (arith, counts owner refl)

  pub scan-falls : (next : ScanPhase) (w : Word) → CountsOwners wide (phase.Scan next) w → Falls shape wide (scan_left shape wide next) (scan_change shape next w).phase
  scan-falls (scan.Directory k coll slot) w counts section =
      cond_both (is_scanned (dir_of w)) (goes (phase.Scan (scan.Back k coll slot))) (goes (passes shape k coll slot)) (λ c. steps_left shape wide section c.phase < scan_left shape wide (scan.Directory k coll slot))
      (λ t. omega arith) (λ n. passes-falls k coll slot _ (omega arith) section)
  scan-falls (scan.Back k coll slot) w counts section = owner_seen-falls k coll slot (back_of w) counts section
  scan-falls (scan.End k) w counts section = omega arith

  -- an add
  pub next_slot-falls : (coll from slot tried bound : ℕ) → 2 * (slots_of shape coll - (tried + 1)) + (2 + entry_left shape coll 0) < bound
      → Falls shape wide bound (next_slot shape coll from slot tried).phase
  next_slot-falls coll from slot tried bound less section =
      cond_both (nat_lt (tried + 1) (slots_of shape coll)) (goes (phase.Add (add.FindSlot coll from (next_round (slots_of shape coll) slot) (tried + 1)))) (refuses coll Slots)
      (λ c. steps_left shape wide section c.phase < bound)
      (λ t. omega (arith, less, ltb-true (tried + 1) (slots_of shape coll) t)) (λ n. omega (arith, less))

  next_entry-falls : (coll slot entry tried bound : ℕ) → entry_left shape coll tried < bound → Falls shape wide bound (next_entry shape coll slot entry tried).phase
  next_entry-falls coll slot entry tried bound less section =
      cond_both (nat_lt (tried + 1) (entries_of shape coll)) (goes (phase.Add (add.FindEntry coll slot (next_round (entries_of shape coll) entry) (tried + 1)))) (goes (phase.Add (add.DropSlot coll slot)))
      (λ c. steps_left shape wide section c.phase < bound)
      (λ t. omega (arith, less, ltb-true (tried + 1) (entries_of shape coll) t)) (λ n. omega (arith, less))

  entry_seen-falls : (epoch coll slot entry tried : ℕ) (seen : State) → Falls shape wide (entry_left shape coll tried + 2) (entry_seen shape epoch coll slot entry tried seen).phase
  entry_seen-falls epoch coll slot entry tried (state.Free incarnation stamp) section =
      cond_both (is_ripe_entry epoch incarnation stamp) (goes (phase.Add (add.ClaimEntry coll slot entry tried incarnation stamp))) (next_entry shape coll slot entry tried)
      (λ c. steps_left shape wide section c.phase < entry_left shape coll tried + 2)
      (λ t. omega arith) (λ n. next_entry-falls coll slot entry tried _ (omega arith) section)
  entry_seen-falls epoch coll slot entry tried (state.Claimed incarnation) section = next_entry-falls coll slot entry tried _ (omega arith) section
  entry_seen-falls epoch coll slot entry tried (state.Present incarnation there) section = next_entry-falls coll slot entry tried _ (omega arith) section
  entry_seen-falls epoch coll slot entry tried (state.Frozen incarnation there) section = next_entry-falls coll slot entry tried _ (omega arith) section
  entry_seen-falls epoch coll slot entry tried (state.Locked incarnation there) section = next_entry-falls coll slot entry tried _ (omega arith) section
  entry_seen-falls epoch coll slot entry tried (state.Removed incarnation there frozen locked) section = next_entry-falls coll slot entry tried _ (omega arith) section

  store_field-falls : (slot : ℕ) (number : Number) (field bound : ℕ) → (field < width_of shape number.coll → store_left shape number.coll (field + 1) + 1 < bound) → 2 < bound
      → add_left shape (store_field shape slot number field) < bound
  store_field-falls slot number field bound more two =
      cond_both (nat_lt field (width_of shape number.coll)) (add.StoreField slot number field) (add.StoreValid slot number) (λ a. add_left shape a < bound)
      (λ t. more (ltb-true field (width_of shape number.coll) t)) (λ n. two)

  pub add-falls : (epoch : ℕ) (words : List ℕ) (next : AddPhase) (w : Word) → Falls shape wide (add_left shape next) (add_change shape epoch words next w).phase
  add-falls epoch words (add.FindSlot coll from slot tried) w section =
      cond_both (is_ripe_slot epoch (dir_of w)) (goes (phase.Add (add.ClaimSlot coll from slot tried (dir_of w)))) (next_slot shape coll from slot tried)
      (λ c. steps_left shape wide section c.phase < add_left shape (add.FindSlot coll from slot tried))
      (λ t. omega arith) (λ n. next_slot-falls coll from slot tried _ (omega arith) section)
  add-falls epoch words (add.ClaimSlot coll from slot tried seen) w section =
      cond_both (same_word w (word.Directory seen)) (goes (phase.Add (add.FindEntry coll slot from 0))) (next_slot shape coll from slot tried)
      (λ c. steps_left shape wide section c.phase < add_left shape (add.ClaimSlot coll from slot tried seen))
      (λ t. omega arith) (λ n. next_slot-falls coll from slot tried _ (omega arith) section)
  add-falls epoch words (add.DropSlot coll slot) w section = omega arith
  add-falls epoch words (add.FindEntry coll slot entry tried) w section = entry_seen-falls epoch coll slot entry tried (state_of w) section
  add-falls epoch words (add.ClaimEntry coll slot entry tried incarnation stamp) w section =
      cond_both (same_word w (word.Entry (state.Free incarnation stamp)))
      (goes (phase.Add (add.StoreBack slot (record { incarnation = incarnation + 1; entry = entry; coll = coll })))) (next_entry shape coll slot entry tried)
      (λ c. steps_left shape wide section c.phase < add_left shape (add.ClaimEntry coll slot entry tried incarnation stamp))
      (λ t. omega arith) (λ n. next_entry-falls coll slot entry tried _ (omega arith) section)
  add-falls epoch words (add.StoreBack slot number) w section = store_field-falls slot number 0 _ (λ m. omega (arith, m)) (omega arith)
  add-falls epoch words (add.StoreField slot number field) w section = store_field-falls slot number (field + 1) _ (λ m. omega (arith, m)) (omega arith)
  add-falls epoch words (add.StoreValid slot number) w section = omega arith
  add-falls epoch words (add.StoreLive slot number) w section = omega arith

  -- a remove
  pub remove-falls : (next : RemovePhase) → Falls shape wide (remove_left next) (remove_change next).phase
  remove-falls (remove.LeaveSlot slot number) section = omega arith
  remove-falls (remove.FreeEntry number) section = omega arith

  -- a walk that counts
  abbrev LessCounting : ℕ → ℕ → Counting → Type 0
  LessCounting coll bound (Walks next) = (count_left shape next < bound) × (counted_coll next ≡ coll)
  LessCounting coll bound (Counted other count) = (0 < bound) × (other ≡ coll)

  count_next-less : (coll slot : ℕ) (count : Count) (bound : ℕ) → 3 * slots_behind shape coll slot < bound → LessCounting coll bound (count_next shape coll slot count)
  count_next-less coll slot count bound less =
      cond_both (nat_lt (slot + 1) (slots_of shape coll)) (Walks (walk.Directory coll (slot + 1) count)) (Counted coll count) (LessCounting coll bound)
      (λ t. (omega (arith, less, ltb-true (slot + 1) (slots_of shape coll) t), refl)) (λ n. (omega (arith, less), refl))

  count_owner-less : (coll slot : ℕ) (count : Count) (owner : Option Number) → LessCounting coll (3 * slots_behind shape coll slot + 2) (count_owner shape coll slot count owner)
  count_owner-less coll slot count None = count_next-less coll slot count _ (omega arith)
  count_owner-less coll slot count (Some number) = (omega arith, refl)

  counting-less : (next : CountPhase) (w : Word) → LessCounting (counted_coll next) (count_left shape next) (counting shape next w)
  counting-less (walk.Directory coll slot count) w =
      cond_both (is_valid (dir_of w)) (Walks (walk.Back coll slot count)) (count_next shape coll slot count) (LessCounting coll (3 * slots_behind shape coll slot + 3))
      (λ t. (omega arith, refl)) (λ n. count_next-less coll slot count _ (omega arith))
  counting-less (walk.Back coll slot count) w = count_owner-less coll slot count (back_of w)
  counting-less (walk.Entry coll slot count number) w =
      count_next-less coll slot (if has_object_at number.incarnation slot (state_of w) then with_object slot count else count) _ (omega arith)

  survey_change-falls : (coll bound : ℕ) (counting : Counting) → LessCounting coll bound counting → Falls shape wide bound (survey_change counting).phase
  survey_change-falls coll bound (Walks next) less section = less.0
  survey_change-falls coll bound (Counted other count) less section = less.0

  pub survey-falls : (next : CountPhase) (w : Word) → Falls shape wide (count_left shape next) (survey_change (counting shape next w)).phase
  survey-falls next w = survey_change-falls (counted_coll next) (count_left shape next) (counting shape next w) (counting-less next w)

  -- a begin
  module _ (epoch : ℕ) where
    to_source-falls : (moves : Walk) (bound : ℕ) → (moves.source < slots_of shape moves.coll → source_left shape wide moves + (wide moves.coll + 8) < bound) → 0 < bound
        → Falls shape wide bound (to_source shape epoch moves).phase
    to_source-falls moves bound more some section =
        cond_both (nat_lt moves.source (slots_of shape moves.coll)) (goes (phase.Begin (begin.SourceDirectory moves))) (ends_round epoch moves) (λ c. steps_left shape wide section c.phase < bound)
        (λ t. more (ltb-true moves.source (slots_of shape moves.coll) t)) (λ n. some)

    next_source-falls : (moves : Walk) (bound : ℕ) → source_left shape wide moves < bound → Falls shape wide bound (next_source shape epoch moves).phase
    next_source-falls moves bound less = to_source-falls (record moves { source = moves.source + 1 }) bound (λ lt. omega (arith, less, behind_on moves.coll moves.source (wide moves.coll + 8) lt)) (omega (arith, less))

    to_target-falls : (moves : Walk) (number : Number) (bound : ℕ) → source_left shape wide moves + (wide moves.coll + 5) < bound → Falls shape wide bound (to_target epoch moves number).phase
    to_target-falls moves number bound less section =
        cond_both (nat_lt moves.target moves.kept) (goes (phase.Begin (begin.TargetDirectory moves number))) (ends_round epoch moves) (λ c. steps_left shape wide section c.phase < bound)
        (λ t. omega (arith, less, ltb-true moves.target moves.kept t)) (λ n. omega (arith, less))

    first_source : (coll kept : ℕ) → kept < slots_of shape coll
        → (wide coll + 8) * slots_behind shape coll kept + 2 * kept + (wide coll + 8) ≤ (wide coll + 10) * slots_of shape coll
    first_source coll kept lt =
        let behind : slots_behind shape coll kept + (kept + 1) ≡ slots_of shape coll = omega (arith, lt) in
        omega (arith, ap (λ (n : ℕ). wide coll * n) behind, behind)

    begin_counted-falls : (coll : ℕ) (count : Count) (bound : ℕ) → moves_left shape wide coll ≤ bound → Falls shape wide (bound + 1) (begin_counted shape epoch coll count).phase
    begin_counted-falls coll count bound le section =
        cond_both (nat_le count.blocks (blocks_for count.objects)) (goes (phase.Begin (begin.Nothing coll)))
        (to_source shape epoch (first_walk coll (blocks_for count.objects * BLOCK_SLOTS))) (λ c. steps_left shape wide section c.phase < bound + 1)
        (λ t. omega (arith, le)) (λ n. to_source-falls (first_walk coll (blocks_for count.objects * BLOCK_SLOTS)) (bound + 1)
        (λ lt. omega (arith, le, first_source coll (blocks_for count.objects * BLOCK_SLOTS) lt)) (omega arith) section)

    begin_counting-falls : (coll bound : ℕ) (counting : Counting) → LessCounting coll bound counting → Falls shape wide (bound + moves_left shape wide coll) (begin_counting shape epoch counting).phase
    begin_counting-falls coll bound (Walks next) less section =
        omega (arith, less.0, ap (moves_left shape wide) less.1)
    begin_counting-falls coll bound (Counted other count) less section =
        omega (arith, less.0, begin_counted-falls other count (moves_left shape wide other) (omega arith) section, ap (moves_left shape wide) less.1)

    source_owner-falls : (moves : Walk) (owner : Option Number) → Falls shape wide (source_left shape wide moves + (wide moves.coll + 7)) (source_owner shape epoch moves owner).phase
    source_owner-falls moves None section = next_source-falls moves _ (omega arith) section
    source_owner-falls moves (Some number) section = omega arith

    blank_field-falls : (moves : Walk) (number : Number) (field bound : ℕ) → (field < wide moves.coll → sources_left shape wide moves + (wide moves.coll - (field + 1)) + 6 < bound)
        → sources_left shape wide moves + 5 < bound → begin_left shape wide (blank_field shape moves number field) < bound
    blank_field-falls moves number field bound more five =
        cond_both (nat_lt field (width_of shape moves.coll)) (begin.BlankField moves number field) (begin.StoreBack moves number) (λ b. begin_left shape wide b < bound)
        (λ t. more (omega (arith, ltb-true field (width_of shape moves.coll) t, widths moves.coll))) (λ n. five)

    pub begin-falls : (next : BeginPhase) (w : Word) → Falls shape wide (begin_left shape wide next) (begin_change shape epoch next w).phase
    begin-falls (begin.Count next) w section = begin_counting-falls (counted_coll next) (count_left shape next) (counting shape next w) (counting-less next w) section
    begin-falls (begin.Nothing coll) w section = omega arith
    begin-falls (begin.SourceDirectory moves) w section =
        cond_both (is_valid (dir_of w)) (goes (phase.Begin (begin.SourceBack moves))) (next_source shape epoch moves) (λ c. steps_left shape wide section c.phase < begin_left shape wide (begin.SourceDirectory moves))
        (λ t. omega arith) (λ n. next_source-falls moves _ (omega arith) section)
    begin-falls (begin.SourceBack moves) w section = source_owner-falls moves (back_of w) section
    begin-falls (begin.SourceEntry moves number) w section =
        cond_both (is_source number moves.source (state_of w)) (to_target epoch moves number) (next_source shape epoch moves) (λ c. steps_left shape wide section c.phase < begin_left shape wide (begin.SourceEntry moves number))
        (λ t. to_target-falls moves number _ (omega arith) section) (λ n. next_source-falls moves _ (omega arith) section)
    begin-falls (begin.TargetDirectory moves number) w section =
        cond_both (is_ripe_slot epoch (dir_of w)) (goes (phase.Begin (begin.ClaimTarget moves number (dir_of w)))) (to_target epoch (past_target moves) number)
        (λ c. steps_left shape wide section c.phase < begin_left shape wide (begin.TargetDirectory moves number))
        (λ t. omega arith) (λ n. to_target-falls (past_target moves) number _ (omega arith) section)
    begin-falls (begin.ClaimTarget moves number seen) w section =
        cond_both (same_word w (word.Directory seen)) (goes (phase.Begin (blank_field shape moves number 0))) (to_target epoch (past_target moves) number)
        (λ c. steps_left shape wide section c.phase < begin_left shape wide (begin.ClaimTarget moves number seen))
        (λ t. blank_field-falls moves number 0 _ (λ m. omega (arith, m)) (omega arith)) (λ n. to_target-falls (past_target moves) number _ (omega arith) section)
    begin-falls (begin.BlankField moves number field) w section = blank_field-falls moves number (field + 1) _ (λ m. omega (arith, m)) (omega arith)
    begin-falls (begin.StoreBack moves number) w section = omega arith
    begin-falls (begin.StoreForward moves number) w section = omega arith
    begin-falls (begin.StoreIncoming moves number) w section = omega arith
    begin-falls (begin.Freeze moves number) w section =
        cond_both (same_word w (word.Entry (state.Present number.incarnation moves.source))) (next_source shape epoch (with_move (past_target moves))) (goes (phase.Begin (begin.GiveUp moves)))
        (λ c. steps_left shape wide section c.phase < begin_left shape wide (begin.Freeze moves number))
        (λ t. next_source-falls (with_move (past_target moves)) _ (omega arith) section) (λ n. omega arith)
    begin-falls (begin.GiveUp moves) w section = next_source-falls (past_target moves) _ (omega arith) section

  -- a finish
  abbrev is_end : FinishPhase → Bool
  is_end (finish.End targets) = true
  is_end _ = false

  next_target-falls : (targets : Targets) (bound : ℕ) → targets_left shape wide targets < bound → finish_left shape wide (next_target shape targets) < bound
  next_target-falls targets bound less =
      cond_both (nat_lt (targets.slot + 1) (slots_of shape targets.coll)) (finish.Directory (record targets { slot = targets.slot + 1 })) (finish.End targets) (λ f. finish_left shape wide f < bound)
      (λ t. omega (arith, less, behind_on targets.coll targets.slot (2 * wide targets.coll + 8) (ltb-true (targets.slot + 1) (slots_of shape targets.coll) t)))
      (λ n. omega (arith, less))

  given_up-falls : (gone : Bool) (targets : Targets) → finish_left shape wide (next_target shape (with_given_up gone targets)) < targets_left shape wide targets + 1
  given_up-falls true targets = next_target-falls (with_given_up true targets) _ (omega arith)
  given_up-falls false targets = next_target-falls (with_given_up false targets) _ (omega arith)

  target_owner-falls : (targets : Targets) (owner : Option Number) → ((number : Number) → owner ≡ Some number → wide number.coll ≤ wide targets.coll)
      → finish_left shape wide (target_owner targets owner) < targets_left shape wide targets + (2 * wide targets.coll + 7)
  target_owner-falls targets None counts = omega arith
  target_owner-falls targets (Some number) counts = omega (arith, counts number refl)

  lock-falls : (targets : Targets) (number : Number) (seen : State) (source : Option ℕ) → finish_left shape wide (lock targets number seen source) < targets_left shape wide targets + (2 * wide number.coll + 6)
  lock-falls targets number seen None = omega arith
  lock-falls targets number seen (Some source) = omega arith

  move-falls : (targets : Targets) (number : Number) (source : ℕ) (next : CopyPhase) (w : Word) → finish_left shape wide (move shape targets number source next w) < targets_left shape wide targets + 2 + copy_left (wide number.coll) next
  move-falls targets number source copy.Target w = omega (arith, copy_field-falls number.coll (forward_of w) 0 (copy_left (wide number.coll) copy.Target) (λ m. omega arith) (omega arith))
  move-falls targets number source (copy.Load target field) w = omega arith
  move-falls targets number source (copy.Put target field value) w =
      omega (arith, copy_field-falls number.coll target (field + 1) (copy_left (wide number.coll) (copy.Put target field value)) (λ m. omega (arith, m)) (omega arith))
  move-falls targets number source (copy.Swing target) w = omega arith

  -- but for the last step, which finish_change takes by itself
  pub finish_next-falls : (next : FinishPhase) (w : Word) → CountsOwners wide (phase.Finish next) w → IsFalse (is_end next) → finish_left shape wide (finish_next shape next w) < finish_left shape wide next
  finish_next-falls (finish.Directory targets) w counts u =
      cond_both (is_incoming (dir_of w)) (finish.Back targets) (next_target shape targets) (λ f. finish_left shape wide f < finish_left shape wide (finish.Directory targets))
      (λ t. omega arith) (λ n. next_target-falls targets _ (omega arith))
  finish_next-falls (finish.Back targets) w counts u = target_owner-falls targets (back_of w) counts
  finish_next-falls (finish.Entry targets number) w counts u = lock-falls targets number (state_of w) (frozen_slot number (state_of w))
  finish_next-falls (finish.Lock targets number source) w counts u =
      cond_both (same_word w (word.Entry (state.Frozen number.incarnation source))) (finish.Move targets number source copy.Target) (give_up targets number (state_of w))
      (λ f. finish_left shape wide f < finish_left shape wide (finish.Lock targets number source)) (λ t. omega arith) (λ n. omega arith)
  finish_next-falls (finish.Move targets number source next) w counts u = move-falls targets number source next w
  finish_next-falls (finish.Settle targets source) w counts u = omega arith
  finish_next-falls (finish.LeaveSource targets source) w counts u = next_target-falls (with_moved targets) _ (omega arith)
  finish_next-falls (finish.GiveUp targets gone) w counts u = given_up-falls gone targets
  finish_next-falls (finish.End targets) w counts u = cc

  pub finish-falls : (section : Section) (next : FinishPhase) (w : Word) → CountsOwners wide (phase.Finish next) w → steps_left shape wide section (finish_change shape next w).phase < finish_left shape wide next
  finish-falls section (finish.End targets) w counts = omega arith
  finish-falls section (finish.Directory targets) w counts = finish_next-falls (finish.Directory targets) w counts refl
  finish-falls section (finish.Back targets) w counts = finish_next-falls (finish.Back targets) w counts refl
  finish-falls section (finish.Entry targets number) w counts = finish_next-falls (finish.Entry targets number) w counts refl
  finish-falls section (finish.Lock targets number source) w counts = finish_next-falls (finish.Lock targets number source) w counts refl
  finish-falls section (finish.Move targets number source next) w counts = finish_next-falls (finish.Move targets number source next) w counts refl
  finish-falls section (finish.Settle targets source) w counts = finish_next-falls (finish.Settle targets source) w counts refl
  finish-falls section (finish.LeaveSource targets source) w counts = finish_next-falls (finish.LeaveSource targets source) w counts refl
  finish-falls section (finish.GiveUp targets gone) w counts = finish_next-falls (finish.GiveUp targets gone) w counts refl

  -- a cancel
  next_cancelled-falls : (coll slot bound : ℕ) → 5 * slots_behind shape coll slot + 1 < bound → cancel_left shape (next_cancelled shape coll slot) < bound
  next_cancelled-falls coll slot bound less =
      cond_both (nat_lt (slot + 1) (slots_of shape coll)) (cancel.Directory coll (slot + 1)) cancel.End (λ c. cancel_left shape c < bound)
      (λ t. omega (arith, less, ltb-true (slot + 1) (slots_of shape coll) t)) (λ n. omega (arith, less))

  cancel_owner-falls : (coll slot : ℕ) (owner : Option Number) → cancel_left shape (cancel_owner coll slot owner) < 5 * slots_behind shape coll slot + 5
  cancel_owner-falls coll slot None = omega arith
  cancel_owner-falls coll slot (Some number) = omega arith

  unfreeze-falls : (coll slot : ℕ) (number : Number) (source : Option ℕ) → cancel_left shape (unfreeze coll slot number source) < 5 * slots_behind shape coll slot + 4
  unfreeze-falls coll slot number None = omega arith
  unfreeze-falls coll slot number (Some source) = omega arith

  pub cancel-falls : (section : Section) (next : CancelPhase) (w : Word) → steps_left shape wide section (cancel_change shape next w).phase < cancel_left shape next
  cancel-falls section (cancel.Directory coll slot) w =
      cond_both (is_incoming (dir_of w)) (cancel.Back coll slot) (next_cancelled shape coll slot) (λ c. cancel_left shape c < cancel_left shape (cancel.Directory coll slot))
      (λ t. omega arith) (λ n. next_cancelled-falls coll slot _ (omega arith))
  cancel-falls section (cancel.Back coll slot) w = cancel_owner-falls coll slot (back_of w)
  cancel-falls section (cancel.Entry coll slot number) w = unfreeze-falls coll slot number (frozen_slot number (state_of w))
  cancel-falls section (cancel.Unfreeze coll slot number source) w = omega arith
  cancel-falls section (cancel.GiveUp coll slot) w = next_cancelled-falls coll slot _ (omega arith)
  cancel-falls section cancel.End w = omega arith
