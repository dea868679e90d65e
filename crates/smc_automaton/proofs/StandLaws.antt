-- A step that is offered leaves the pass in its ranges.
use Rattle.std.proofs.Common.{◌≡◌, ◌<◌, ◌≤◌, ◌+◌, ◌==◌, ◌&&◌, ◌||◌, ℕ, Bool, true, false, nat_lt, Option, Some, None, List, [], ◌∷◌, length, refl, sym, subst, arith, if◌then◌else◌}
use Rattle.std.proofs.lemmas.Bool.{ltb-true, eqb-true, and_parts, cond_both}
use Rattle.std.proofs.lemmas.List.Elements.{All-nil, All-cons, All-head, All-tail}
use Rattle.smc_words.specs.declared.layout.TheConstants.{ENTRIES}
use Rattle.smc_words.specs.declared.number.Number.{Number}
use Rattle.smc_words.specs.declared.round.RoundWord.{RoundWord}
use Rattle.smc_shape.specs.Layout.{Layout, IsShape, slots_of, width_of}
use Rattle.smc_shape.specs.declared.place.Place.TheVariants as place
use Rattle.smc_core.specs.declared.call.Call.{Call}
use Rattle.smc_core.specs.declared.call.Call.TheVariants as call
use Rattle.smc_core.specs.declared.call.Choice.{Choice}
use Rattle.smc_core.specs.declared.call.Choice.TheVariants.{Start, Go}
use Rattle.smc_core.specs.declared.local.Held.{Held}
use Rattle.smc_core.specs.declared.local.Owned.{Owned}
use Rattle.smc_core.specs.declared.local.Scan.{Scan}
use Rattle.smc_core.specs.declared.local.Stand.{Stand}
use Rattle.smc_core.specs.declared.op.Offer.{Offer}
use Rattle.smc_core.specs.declared.phase.Phase.{Phase}
use Rattle.smc_core.specs.declared.phase.Phase.TheVariants as phase
use Rattle.smc_core.specs.declared.phase.moves.BeginPhase.TheVariants as begin
use Rattle.smc_core.specs.declared.phase.moves.CancelPhase.TheVariants as cancel
use Rattle.smc_core.specs.declared.phase.moves.CountPhase.TheVariants as walk
use Rattle.smc_core.specs.declared.phase.moves.FinishPhase.TheVariants as finish
use Rattle.smc_core.specs.declared.phase.objects.LookPhase.TheVariants as look
use Rattle.smc_core.specs.declared.phase.objects.Seeker.TheVariants as seeker
use Rattle.smc_core.specs.declared.section.Section.{Section}
use Rattle.smc_core.specs.declared.section.Section.TheVariants.{Outside, Loaded, Announced, Again, Lasting, Inside}
use Rattle.smc_core.specs.declared.section.TheConstants.{LAST_EPOCH}
use Rattle.smc_core.specs.declared.word.State.{State}
use Rattle.smc_core.specs.declared.word.Word.{Word}
use Rattle.smc_core.specs.Row.{has_place}
use Rattle.smc_core.specs.Words.{plain_of, state_of, dir_of}
use Rattle.smc_core.specs.Look.{look_offer, looking_change}
use Rattle.smc_automaton.specs.Fits.{FitsSection, FitHeld, FitsOwned, FitsStand}
use Rattle.smc_automaton.specs.FitsPhase.{HasIncarnation, FitsFinish, FitsCancel, FitsPhase}
use Rattle.smc_automaton.specs.FitsWord.{FitsWord, FitsSeen}
use Rattle.smc_automaton.proofs.SeenLaws.{slot-index, dir-fits, epoch-fits, HoldsFit, ChangeFits}
use Rattle.smc_core.specs.Add.{has_no_blank, slot_seen, takes}
use Rattle.smc_core.specs.Change.{advance_next, section_seen, ready_seen, go_change, remove_started, next_started, finish_owned, cancel_owned, look_started, start_change, change}
use Rattle.smc_core.specs.Count.{counting, no_count}
use Rattle.smc_core.specs.Finish.{is_early, is_incoming, first_target, finish_started}
use Rattle.smc_core.specs.Local.{section_after, held_after, words_after, round_begun, round_after, stand_after}
use Rattle.smc_core.specs.Offer.{offer, go_offer, start_offer, when_idle, when_outside, when_inside, held_slot, look_start}
use Rattle.smc_core.specs.Scan.{scan_of}
use Rattle.smc_core.specs.Section.{epoch_of, is_calm, entering_offer, entering_section, entering_change}
use Rattle.std.proofs.lemmas.Bool.{eqb-false}
use Rattle.smc_model.specs.declared.event.Event.TheVariants as event
use Rattle.smc_core.specs.declared.done.Done.TheVariants as done
use Rattle.smc_core.specs.declared.kind.Kind.TheVariants as kind
use Rattle.smc_core.specs.declared.op.Op.TheVariants.{Load}
use Rattle.smc_core.specs.Step.{step, when, goes, ends, tells}
use Rattle.smc_core.specs.Begin.{round_seen}
use Rattle.smc_core.specs.Words.{round_of, same_number}
use Rattle.smc_automaton.proofs.LookLaws.{looking-fits}
use Rattle.smc_automaton.proofs.MoveLaws.{counting-fits, survey-fits, begin-fits, next_target-fits, finish-fits, next_cancelled-fits, cancel-fits}
use Rattle.smc_automaton.proofs.ObjectLaws.{slot_seen-fits, add-fits, mark_seen-fits, remove-fits, scan-fits, next_change-fits}
use Rattle.smc_automaton.proofs.WordLaws.{epoch-last}

-- something is offered, and its operation is shown a word that fits
abbrev IsSeen : Option Offer → Word → Type 0
IsSeen None w = ⊥
IsSeen (Some offered) w = FitsSeen offered.op w

idle-seen : (now : Phase) (offered : Option Offer) (w : Word) → IsSeen (when_idle now offered) w → (now ≡ phase.Idle) × IsSeen offered w
idle-seen phase.Idle offered w seen = (refl, seen)
idle-seen _ offered w seen = absurd seen

outside-seen : (section : Section) (offered : Option Offer) (w : Word) → IsSeen (when_outside section offered) w → IsSeen offered w
outside-seen Outside offered w seen = seen
outside-seen (Loaded epoch) offered w seen = absurd seen
outside-seen (Announced epoch) offered w seen = absurd seen
outside-seen (Again first epoch) offered w seen = absurd seen
outside-seen (Lasting epoch) offered w seen = absurd seen
outside-seen (Inside epoch calm) offered w seen = absurd seen

inside-seen : (section : Section) (offered : Option Offer) (w : Word) → IsSeen (when_inside section offered) w → IsSeen offered w
inside-seen Outside offered w seen = absurd seen
inside-seen (Loaded epoch) offered w seen = absurd seen
inside-seen (Announced epoch) offered w seen = absurd seen
inside-seen (Again first epoch) offered w seen = absurd seen
inside-seen (Lasting epoch) offered w seen = absurd seen
inside-seen (Inside epoch calm) offered w seen = seen

when-seen : (test : Bool) (offered : Offer) (w : Word) → IsSeen (when test offered) w → (test ≡ true) × FitsSeen offered.op w
when-seen true offered w seen = (refl, seen)
when-seen false offered w seen = absurd seen

-- sections
entering-section : (pass : ℕ) (section : Section) (w : Word) → FitsSection section → IsSeen (entering_offer pass section) w → FitsSection (entering_section section w)
entering-section pass Outside w fits seen = tt
entering-section pass (Loaded epoch) w fits seen = fits
entering-section pass (Announced epoch) w fits seen = (fits, epoch-fits w seen)
entering-section pass (Again first epoch) w fits seen = fits.1
entering-section pass (Lasting epoch) w fits seen = fits
entering-section pass (Inside epoch calm) w fits seen = fits

go-section : (pass : ℕ) (stand : Stand) (section : Section) (phase : Phase) (w : Word) → FitsSection section → IsSeen (go_offer pass stand section phase) w
    → FitsSection (section_after section phase Go w)
go-section pass stand section phase.Entering w fits seen = entering-section pass section w fits seen
go-section pass stand section _ w fits seen = fits

start-section : (shape : Layout) (pass : ℕ) (stand : Stand) (section : Section) (call : Call) (w : Word) → FitsSection section
    → IsSeen (start_offer shape pass stand section call) w → FitsSection (section_after section phase.Idle (Start call) w)
start-section shape pass stand section call.Enter w fits seen = epoch-fits w (outside-seen section _ w seen)
start-section shape pass stand section call.Leave w fits seen = tt
start-section shape pass stand section _ w fits seen = fits

-- rounds
round_begun-fits : (epoch coll : ℕ) (seen : Option RoundWord) (owned : Option Owned) → epoch ≤ LAST_EPOCH → FitsOwned owned → FitsOwned (round_begun epoch coll seen owned)
round_begun-fits epoch coll None owned last fits = omega (arith, last)
round_begun-fits epoch coll (Some round) owned last fits = fits

go-round : (owned : Option Owned) (section : Section) (phase : Phase) (w : Word) → FitsOwned owned → FitsOwned (round_after owned section phase Go w)
go-round owned section (phase.Begin (begin.Nothing coll)) w fits = tt
go-round owned section (phase.Finish (finish.End targets)) w fits = tt
go-round owned section (phase.Cancel cancel.End) w fits = tt
go-round owned section _ w fits = fits

start-round : (owned : Option Owned) (section : Section) (call : Call) (w : Word) → FitsSection section → FitsOwned owned → FitsOwned (round_after owned section phase.Idle (Start call) w)
start-round owned section (call.Begin coll) w here fits = round_begun-fits (epoch_of section) coll (round_of w) owned (epoch-last section here) fits
start-round owned section _ w here fits = fits

-- what a section holds
held-fits : (held : List Held) (choice : Choice) (holds : Option Held) → FitHeld held → HoldsFit holds → FitHeld (held_after held choice holds)
held-fits held (Start call.Leave) holds fits more = All-nil (λ pair. HasIncarnation pair.number)
held-fits held _ None fits more = fits
held-fits held _ (Some pair) fits more = All-cons (λ pair. HasIncarnation pair.number) pair held more fits

-- the number of a held object has its incarnation
abbrev SlotFits : Number → Option ℕ → Type 0
SlotFits number None = Unit {0}
SlotFits number (Some slot) = HasIncarnation number

same-incarnation : (a b : Number) → same_number a b ≡ true → HasIncarnation a → HasIncarnation b
same-incarnation a b same has =
    let equal : (a.incarnation == b.incarnation) ≡ true = (and_parts (a.incarnation == b.incarnation) (a.entry == b.entry) (and_parts (a.incarnation == b.incarnation && a.entry == b.entry) (a.coll == b.coll) same).0).0 in
    omega (arith, has, eqb-true a.incarnation b.incarnation equal)

held_slot-fits : (held : List Held) (number : Number) → FitHeld held → SlotFits number (held_slot held number)
held_slot-fits [] number fits = tt
held_slot-fits (first ∷ later) number fits =
    cond_both (same_number first.number number) _ _ (SlotFits number)
    (λ same. same-incarnation first.number number same (All-head (λ pair. HasIncarnation pair.number) first later fits))
    (λ _. held_slot-fits later number (All-tail (λ pair. HasIncarnation pair.number) first later fits))

module _ (shape : Layout) (pass : ℕ) (stand : Stand) (valid : IsShape shape) where
  advance_next-fits : (epoch other : ℕ) → epoch < LAST_EPOCH → FitsPhase shape stand.words (advance_next shape epoch other)
  advance_next-fits epoch other below =
      cond_both (nat_lt other shape.passes) _ _ (FitsPhase shape stand.words) (λ less. (below, omega (arith, ltb-true other shape.passes less, valid.passes))) (λ _. below)

  section_seen-fits : (epoch other seen : ℕ) → epoch < LAST_EPOCH → ChangeFits shape stand.words (section_seen shape epoch other seen)
  section_seen-fits epoch other seen below =
      cond_both (seen == 0 || seen == epoch) _ _ (ChangeFits shape stand.words) (λ _. (advance_next-fits epoch (other + 1) below, tt)) (λ _. (tt, tt))

  ready_seen-fits : (epoch seen : ℕ) → ChangeFits shape stand.words (ready_seen epoch seen)
  ready_seen-fits epoch seen = cond_both (seen == epoch) _ _ (ChangeFits shape stand.words) (λ _. (tt, tt)) (λ _. (tt, tt))

  entering_change-fits : (section : Section) → ChangeFits shape stand.words (entering_change section)
  entering_change-fits Outside = (tt, tt)
  entering_change-fits (Loaded seen) = (tt, tt)
  entering_change-fits (Announced seen) = (tt, tt)
  entering_change-fits (Again seen epoch) = (tt, tt)
  entering_change-fits (Lasting epoch) = (tt, tt)
  entering_change-fits (Inside epoch calm) = (tt, tt)

  go-fits : (section : Section) (phase : Phase) (w : Word) → FitsPhase shape stand.words phase → IsSeen (go_offer pass stand section phase) w
      → ChangeFits shape stand.words (go_change shape stand section phase w)
  go-fits section phase.Idle w fits seen = (tt, tt)
  go-fits section phase.Entering w fits seen = entering_change-fits section
  go-fits section (phase.Advancing epoch other) w fits seen = section_seen-fits epoch other (plain_of w) fits.0
  go-fits section (phase.Ready epoch) w fits seen = ready_seen-fits epoch (plain_of w)
  go-fits section (phase.Look next) w fits seen = looking-fits shape stand.words valid (is_calm section) next w fits seen
  go-fits section (phase.Add next) w fits seen = add-fits shape stand.words valid (epoch_of section) next w fits seen
  go-fits section (phase.Remove next) w fits seen = remove-fits shape stand.words valid next fits
  go-fits section (phase.Scan next) w fits seen = scan-fits shape stand.words valid next w fits
  go-fits section (phase.Begin next) w fits seen = begin-fits shape stand.words valid (epoch_of section) next w fits seen
  go-fits section (phase.Finish next) w fits seen = finish-fits shape stand.words valid (epoch_of section) next w fits seen
  go-fits section (phase.Cancel next) w fits seen = cancel-fits shape stand.words valid (epoch_of section) next w fits seen
  go-fits section (phase.Survey next) w fits seen = survey-fits shape stand.words valid (counting shape next w) (counting-fits shape stand.words valid next w fits)

  advance-fits : (seen : ℕ) → seen ≤ LAST_EPOCH → ChangeFits shape stand.words (if seen == LAST_EPOCH then ends done.Spent else goes (advance_next shape seen 0))
  advance-fits seen last =
      cond_both (seen == LAST_EPOCH) _ _ (ChangeFits shape stand.words) (λ _. (tt, tt))
      (λ other. (advance_next-fits seen 0 (omega (arith, last, eqb-false seen LAST_EPOCH other)), tt))

  remove_started-fits : (number : Number) (slot : Option ℕ) (seen : State) → SlotFits number slot → ChangeFits shape stand.words (remove_started number slot seen)
  remove_started-fits number None seen fits = (tt, tt)
  remove_started-fits number (Some slot) seen fits = mark_seen-fits shape stand.words valid number slot seen fits

  next_started-fits : (begun : Option Scan) (w : Word) → ChangeFits shape stand.words (next_started shape begun w)
  next_started-fits None w = (tt, tt)
  next_started-fits (Some begun) w = next_change-fits shape stand.words valid begun w

  finish_started-fits : (epoch : ℕ) (owned : Owned) (w : Word) → ChangeFits shape stand.words (finish_started shape epoch owned w)
  finish_started-fits epoch owned w =
      cond_both (is_early epoch owned.bound) _ _ (ChangeFits shape stand.words) (λ _. (tt, tt))
      (λ _. (cond_both (is_incoming (dir_of w)) _ _ FitsFinish (λ _. (omega arith, omega arith)) (λ _. next_target-fits shape stand.words valid (first_target owned.coll) (omega arith)), tt))

  finish_owned-fits : (epoch : ℕ) (owned : Option Owned) (w : Word) → ChangeFits shape stand.words (finish_owned shape epoch owned w)
  finish_owned-fits epoch None w = (tt, tt)
  finish_owned-fits epoch (Some owned) w = finish_started-fits epoch owned w

  cancel_owned-fits : (owned : Option Owned) (w : Word) → ChangeFits shape stand.words (cancel_owned shape owned w)
  cancel_owned-fits None w = (tt, tt)
  cancel_owned-fits (Some owned) w = (cond_both (is_incoming (dir_of w)) _ _ FitsCancel (λ _. omega arith) (λ _. next_cancelled-fits shape stand.words valid owned.coll 0), tt)

  look_started-fits : (calm : Bool) (number : Number) (w : Word) → FitsSeen (look_start shape pass number).op w → ChangeFits shape stand.words (look_started shape calm number w)
  look_started-fits calm number w seen = by_place (has_place shape (place.Entry number.coll number.entry)) seen
    where
      by_place : (here : Bool) → FitsSeen (if here then look_offer (look.Load seeker.Caller number) else step kind.LoadSection (Load (place.Section pass))).op w
          → ChangeFits shape stand.words (if here then looking_change shape calm (look.Load seeker.Caller number) w else tells (event.Look number false) done.Null)
      by_place true there = looking-fits shape stand.words valid calm (look.Load seeker.Caller number) w tt there
      by_place false there = (tt, tt)

  round_seen-fits : (coll : ℕ) (seen : Option RoundWord) → ChangeFits shape stand.words (round_seen coll seen)
  round_seen-fits coll None = ((omega arith, (omega arith, omega arith)), tt)
  round_seen-fits coll (Some round) = (tt, tt)

  -- what a collection that takes such words keeps
  add_started-fits : (epoch coll from : ℕ) (added : List ℕ) (w : Word) → takes shape coll from added ≡ true → FitsWord (place.Directory coll from) w
      → ChangeFits shape added (slot_seen shape epoch coll from from 0 (dir_of w))
  add_started-fits epoch coll from added w accepted seen =
      let front : (nat_lt coll (length shape.colls) && nat_lt from (slots_of shape coll) && length added == width_of shape coll) ≡ true = (and_parts _ (has_no_blank added) accepted).0 in
      let room : (nat_lt coll (length shape.colls) && nat_lt from (slots_of shape coll)) ≡ true = (and_parts _ (length added == width_of shape coll) front).0 in
      let long : length added ≡ width_of shape coll = eqb-true (length added) (width_of shape coll) (and_parts (nat_lt coll (length shape.colls) && nat_lt from (slots_of shape coll)) _ front).1 in
      let known : coll < length shape.colls = ltb-true coll (length shape.colls) (and_parts _ (nat_lt from (slots_of shape coll)) room).0 in
      let first : from < ENTRIES = slot-index shape coll from valid (and_parts (nat_lt coll (length shape.colls)) _ room).1 in
      slot_seen-fits shape added valid epoch coll from from 0 (dir_of w) (omega (arith, known, valid.colls)) long first first (omega arith) (dir-fits coll from w seen)

  start-fits : (section : Section) (call : Call) (told : ℕ) (w : Word) → FitHeld stand.held → IsSeen (start_offer shape pass stand section call) w
      → ChangeFits shape (words_after stand.words (Start call)) (start_change shape pass stand section call told w)
  start-fits section call.Enter told w fits seen = (tt, tt)
  start-fits section call.Leave told w fits seen = (tt, tt)
  start-fits section call.Advance told w fits seen = advance-fits (plain_of w) (epoch-fits w (outside-seen section _ w seen))
  start-fits section (call.Add coll from added) told w fits seen =
      let there : (takes shape coll from added ≡ true) × FitsWord (place.Directory coll from) w = when-seen (takes shape coll from added) _ w (inside-seen section _ w seen) in
      add_started-fits (epoch_of section) coll from added w there.0 there.1
  start-fits section (call.Look number) told w fits seen = look_started-fits (is_calm section) number w (inside-seen section _ w seen)
  start-fits section (call.Read number field) told w fits seen = (tt, tt)
  start-fits section (call.Write number field value) told w fits seen = (tt, tt)
  start-fits section (call.Remove number) told w fits seen = remove_started-fits number (held_slot stand.held number) (state_of w) (held_slot-fits stand.held number fits)
  start-fits section (call.Scan coll) told w fits seen = (tt, tt)
  start-fits section (call.Next number) told w fits seen = next_started-fits (scan_of stand.scans number) w
  start-fits section (call.Begin coll) told w fits seen = round_seen-fits coll (round_of w)
  start-fits section call.Finish told w fits seen = finish_owned-fits (epoch_of section) stand.round w
  start-fits section call.Cancel told w fits seen = cancel_owned-fits stand.round w
  start-fits section (call.Survey coll) told w fits seen =
      survey-fits shape stand.words valid (counting shape (walk.Directory coll 0 no_count) w) (counting-fits shape stand.words valid (walk.Directory coll 0 no_count) w (omega arith, (omega arith, omega arith)))
  start-fits section call.Note told w fits seen = (tt, tt)
  start-fits section (call.Learn other note) told w fits seen = (tt, tt)

  step-fits : (choice : Choice) (told : ℕ) (w : Word) → FitsStand shape stand → IsSeen (offer shape pass stand stand.section stand.phase choice) w
      → FitsStand shape (stand_after shape pass stand choice w (change shape pass stand stand.section stand.phase choice told w))
  step-fits Go told w fits seen =
      let made : ChangeFits shape stand.words (go_change shape stand stand.section stand.phase w) = go-fits stand.section stand.phase w fits.phase seen in
      record {
        section = go-section pass stand stand.section stand.phase w fits.section seen;
        phase = made.0;
        held = held-fits stand.held Go (go_change shape stand stand.section stand.phase w).holds fits.held made.1;
        round = go-round stand.round stand.section stand.phase w fits.round;
      }
  step-fits (Start call) told w fits seen =
      let idle : (stand.phase ≡ phase.Idle) × IsSeen (start_offer shape pass stand stand.section call) w = idle-seen stand.phase _ w seen in
      let made : ChangeFits shape (words_after stand.words (Start call)) (start_change shape pass stand stand.section call told w) = start-fits stand.section call told w fits.held idle.1 in
      record {
        section = subst (λ (phase : Phase). FitsSection (section_after stand.section phase (Start call) w)) (sym idle.0) (start-section shape pass stand stand.section call w fits.section idle.1);
        phase = made.0;
        held = held-fits stand.held (Start call) (start_change shape pass stand stand.section call told w).holds fits.held made.1;
        round = subst (λ (phase : Phase). FitsOwned (round_after stand.round stand.section phase (Start call) w)) (sym idle.0) (start-round stand.round stand.section call w fits.section fits.round);
      }

  -- a step that is offered, and is shown a word that fits, leaves the pass in its ranges
  pub offered-fits : (choice : Choice) (told : ℕ) (offered : Offer) (w : Word) → FitsStand shape stand
      → offer shape pass stand stand.section stand.phase choice ≡ Some offered → FitsSeen offered.op w
      → FitsStand shape (stand_after shape pass stand choice w (change shape pass stand stand.section stand.phase choice told w))
  offered-fits choice told offered w fits offers seen = step-fits choice told w fits (subst (λ (found : Option Offer). IsSeen found w) (sym offers) seen)
