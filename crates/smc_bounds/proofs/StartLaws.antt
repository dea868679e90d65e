-- The first step of a call is one of those that it may take.
use Rattle.std.proofs.Common.{◌≡◌, ℕ, ◌+◌, ◌-◌, ◌*◌, ◌<◌, ◌==◌, ◌&&◌, Bool, true, false, nat_lt, Option, Some, None, length, sym, subst, ap, arith}
use Rattle.std.specs.Prelude.{IfSome, if◌then◌else◌}
use Rattle.std.proofs.lemmas.Bool.{cond_both, ltb-true}
use Rattle.std.proofs.lemmas.Bool.Decides.{nat_tests}
use Rattle.smc_words.specs.declared.round.RoundWord.{RoundWord}
use Rattle.smc_shape.specs.Layout.{Layout, IsShape, slots_of, width_of}
use Rattle.smc_shape.specs.declared.place.Place.TheVariants as place
use Rattle.smc_model.specs.declared.event.Event.TheVariants as event
use Rattle.smc_core.specs.declared.call.Call.{Call}
use Rattle.smc_core.specs.declared.call.Call.TheVariants as call
use Rattle.smc_core.specs.declared.call.Choice.TheVariants.{Start}
use Rattle.smc_core.specs.declared.change.Change.{Change}
use Rattle.smc_core.specs.declared.done.Done.TheVariants as done
use Rattle.smc_core.specs.declared.local.Owned.{Owned}
use Rattle.smc_core.specs.declared.local.Scan.{Scan}
use Rattle.smc_core.specs.declared.local.Stand.{Stand}
use Rattle.smc_core.specs.declared.op.Offer.{Offer}
use Rattle.smc_core.specs.declared.phase.Phase.{Phase}
use Rattle.smc_core.specs.declared.phase.Phase.TheVariants as phase
use Rattle.smc_core.specs.declared.phase.moves.CancelPhase.TheVariants as cancel
use Rattle.smc_core.specs.declared.phase.moves.CountPhase.TheVariants as walk
use Rattle.smc_core.specs.declared.phase.moves.FinishPhase.TheVariants as finish
use Rattle.smc_core.specs.declared.phase.objects.AddPhase.TheVariants as add
use Rattle.smc_core.specs.declared.phase.objects.LookPhase.TheVariants as look
use Rattle.smc_core.specs.declared.phase.objects.RemovePhase.TheVariants as remove
use Rattle.smc_core.specs.declared.phase.objects.ScanPhase.TheVariants as scan
use Rattle.smc_core.specs.declared.phase.objects.Seeker.TheVariants as seeker
use Rattle.smc_core.specs.declared.section.Section.{Section}
use Rattle.smc_core.specs.declared.section.TheConstants.{LAST_EPOCH}
use Rattle.smc_core.specs.declared.word.Word.{Word}
use Rattle.smc_core.specs.Add.{is_value, next_slot, takes}
use Rattle.smc_core.specs.Begin.{round_seen}
use Rattle.smc_core.specs.Change.{advance_next, cancel_owned, finish_owned, next_started, remove_started, start_change}
use Rattle.smc_core.specs.Count.{no_count}
use Rattle.smc_core.specs.Finish.{finish_change, first_target, is_early}
use Rattle.smc_core.specs.Local.{section_after}
use Rattle.smc_core.specs.Look.{looking_change}
use Rattle.smc_core.specs.Offer.{held_slot, offer, start_offer}
use Rattle.smc_core.specs.Ripe.{is_ripe_slot}
use Rattle.smc_core.specs.Row.{has_place}
use Rattle.smc_core.specs.Scan.{is_over, scan_change, scan_of}
use Rattle.smc_core.specs.Section.{epoch_of, is_calm}
use Rattle.smc_core.specs.Step.{ends, goes, goes_telling, tells}
use Rattle.smc_core.specs.Words.{dir_of, is_gone, plain_of, round_of, state_of}
use Rattle.smc_rules.proofs.OfferLaws.{if_idle, if_outside, if_inside, if_test, if_held, if_begun, if_owned}
use Rattle.smc_inv_range.specs.Calls.{InOwned}
use Rattle.smc_inv_bound.specs.Left.{CountsWidths, steps_left}
use Rattle.smc_inv_bound.proofs.CallLaws.{cancel-falls, finish-falls, looking-falls, next_slot-falls, scan-falls, survey-falls}
use Rattle.smc_bounds.specs.Bounds.{add_steps, cancel_steps, finish_steps, most_steps, next_steps, scan_steps}

-- each record counts by its width
pub by_width : (shape : Layout) → CountsWidths shape (width_of shape)
by_width shape coll = omega arith

module _ (shape : Layout) (valid : IsShape shape) (pass : ℕ) (stand : Stand) (round : InOwned shape stand.round) where
  -- what the first step leaves, and that step, are within the bound
  abbrev FirstFits : Section → Call → Offer → Type 0
  FirstFits section k o = (next : Phase) (told : ℕ) (w : Word)
      → steps_left shape (width_of shape) (section_after section next (Start k) w) (start_change shape pass stand section k told w).phase < most_steps shape stand k

  -- of two changes, by one test
  by_test : (section : Section) (b : Bool) (x y : Change) (m n : ℕ) → steps_left shape (width_of shape) section x.phase < m → steps_left shape (width_of shape) section y.phase < n
      → steps_left shape (width_of shape) section (if b then x else y).phase < (if b then m else n)
  by_test section true x y m n f g = f
  by_test section false x y m n f g = g

  -- the slots behind the first one
  first_behind : (coll : ℕ) → coll < length shape.colls → slots_of shape coll ≡ slots_of shape coll - (0 + 1) + 1
  first_behind coll lt = omega (arith, (valid.coll coll lt).some_slots)

  next-fits : (section : Section) (begun : Scan) (w : Word) → steps_left shape (width_of shape) section (next_started shape (Some begun) w).phase < next_steps shape (Some begun)
  next-fits section begun w =
      cond_both begun.ended (ends done.End) _ (λ (c : Change). steps_left shape (width_of shape) section c.phase < scan_steps shape begun) (λ t. omega arith)
      (λ n. cond_both (is_over shape begun) (scan_change shape (scan.End begun.number) w) (scan_change shape (scan.Directory begun.number begun.coll begun.place) w)
      (λ (c : Change). steps_left shape (width_of shape) section c.phase < scan_steps shape begun) (λ t. omega arith)
      (λ u. let at : begun.place < slots_of shape begun.coll = grind (arith, nat_tests, u) in
      let one : slots_of shape begun.coll - begun.place ≡ slots_of shape begun.coll - (begun.place + 1) + 1 = omega (arith, at) in
      omega (
        arith,
        scan-falls shape (width_of shape) (by_width shape) (scan.Directory begun.number begun.coll begun.place) w tt section,
        ap (λ (k : ℕ). k * width_of shape begun.coll) one,
        one,
      )))

  round_seen-fits : (section : Section) (coll : ℕ) (seen : Option RoundWord) → coll < length shape.colls
      → steps_left shape (width_of shape) section (round_seen coll seen).phase < most_steps shape stand (call.Begin coll)
  round_seen-fits section coll None lt = omega (arith, (valid.coll coll lt).some_slots)
  round_seen-fits section coll (Some seen) lt = omega arith

  finish-fits : (section : Section) (owned : Owned) (w : Word) → owned.coll < length shape.colls
      → steps_left shape (width_of shape) section (finish_owned shape (epoch_of section) (Some owned) w).phase < finish_steps shape (Some owned)
  finish-fits section owned w lt =
      cond_both (is_early (epoch_of section) owned.bound) (ends (done.Early (epoch_of section) owned.bound)) (finish_change shape (finish.Directory (first_target owned.coll)) w)
      (λ (c : Change). steps_left shape (width_of shape) section c.phase < finish_steps shape (Some owned)) (λ t. omega arith)
      (λ n. omega (
        arith,
        finish-falls shape (width_of shape) (by_width shape) section (finish.Directory (first_target owned.coll)) w tt,
        ap (λ (k : ℕ). k * width_of shape owned.coll) (first_behind owned.coll lt),
        first_behind owned.coll lt,
      ))

  cancel-fits : (section : Section) (owned : Owned) (w : Word) → owned.coll < length shape.colls
      → steps_left shape (width_of shape) section (cancel_owned shape (Some owned) w).phase < cancel_steps shape (Some owned)
  cancel-fits section owned w lt =
      omega (arith, cancel-falls shape (width_of shape) (by_width shape) section (cancel.Directory owned.coll 0) w, first_behind owned.coll lt)

  start-fits : (section : Section) (k : Call) → IfSome (start_offer shape pass stand section k) (FirstFits section k)
  start-fits section call.Enter = if_outside (FirstFits section call.Enter) section _ (λ e next told w. omega arith)
  start-fits section call.Leave = if_inside (FirstFits section call.Leave) section _ (λ own calm e next told w. omega arith)
  start-fits section call.Advance = if_outside (FirstFits section call.Advance) section _ (λ e next told w.
      cond_both (plain_of w == LAST_EPOCH) (ends done.Spent) (goes (advance_next shape (plain_of w) 0)) (λ (c : Change). steps_left shape (width_of shape) section c.phase < shape.passes + 2)
      (λ t. omega arith)
      (λ n. cond_both (nat_lt 0 shape.passes) (phase.Advancing (plain_of w) 0) (phase.Ready (plain_of w)) (λ (p : Phase). steps_left shape (width_of shape) section p < shape.passes + 2)
      (λ u. omega (arith, ltb-true 0 shape.passes u)) (λ u. omega arith)))
  start-fits section (call.Add coll from words) =
      if_inside (FirstFits section (call.Add coll from words)) section _ (λ own calm e.
      if_test (FirstFits section (call.Add coll from words)) (takes shape coll from words) _ (λ t next told w.
      let at : from < slots_of shape coll = grind (arith, nat_tests, t) in
      let lt : coll < length shape.colls = grind (arith, nat_tests, t) in
      cond_both (is_ripe_slot (epoch_of section) (dir_of w)) (goes (phase.Add (add.ClaimSlot coll from from 0 (dir_of w)))) (next_slot shape coll from from 0)
      (λ (c : Change). steps_left shape (width_of shape) section c.phase < add_steps shape coll)
      (λ u. omega (arith, at, (valid.coll coll lt).room))
      (λ u. next_slot-falls shape (width_of shape) (by_width shape) coll from from 0 (add_steps shape coll) (omega (arith, at, (valid.coll coll lt).room)) section)))
  start-fits section (call.Look number) = if_inside (FirstFits section (call.Look number)) section _ (λ own calm e next told w.
      by_test section (has_place shape (place.Entry number.coll number.entry)) (looking_change shape (is_calm section) (look.Load seeker.Caller number) w) (tells (event.Look number false) done.Null)
      (4 + 2 * width_of shape number.coll) 1
      (omega (arith, looking-falls shape (width_of shape) (by_width shape) (is_calm section) (look.Load seeker.Caller number) w section)) (omega arith))
  start-fits section (call.Read number field) = if_inside (FirstFits section (call.Read number field)) section _ (λ own calm e.
      if_held (FirstFits section (call.Read number field)) (held_slot stand.held number) _ (λ slot is.
      if_test (FirstFits section (call.Read number field)) (nat_lt field (width_of shape number.coll)) _ (λ t next told w. omega arith)))
  start-fits section (call.Write number field value) = if_inside (FirstFits section (call.Write number field value)) section _ (λ own calm e.
      if_held (FirstFits section (call.Write number field value)) (held_slot stand.held number) _ (λ slot is.
      if_test (FirstFits section (call.Write number field value)) (nat_lt field (width_of shape number.coll) && is_value value) _ (λ t next told w. omega arith)))
  start-fits section (call.Remove number) = if_inside (FirstFits section (call.Remove number)) section _ (λ own calm e.
      if_held (FirstFits section (call.Remove number)) (held_slot stand.held number) _ (λ slot is next told w.
      subst (λ (held : Option ℕ). steps_left shape (width_of shape) section (remove_started number held (state_of w)).phase < 3) (sym is)
      (cond_both (is_gone (state_of w)) (tells (event.Remove number false) done.Late) (goes_telling (event.Remove number true) (phase.Remove (remove.LeaveSlot slot number)))
      (λ (c : Change). steps_left shape (width_of shape) section c.phase < 3) (λ t. omega arith) (λ n. omega arith))))
  start-fits section (call.Scan coll) = if_inside (FirstFits section (call.Scan coll)) section _ (λ own calm e.
      if_test (FirstFits section (call.Scan coll)) (nat_lt coll (length shape.colls)) _ (λ t next told w. omega arith))
  start-fits section (call.Next number) = if_inside (FirstFits section (call.Next number)) section _ (λ own calm e.
      if_begun (FirstFits section (call.Next number)) (scan_of stand.scans number) _ (λ begun is next told w.
      subst (λ (one : Option Scan). steps_left shape (width_of shape) section (next_started shape one w).phase < next_steps shape one) (sym is) (next-fits section begun w)))
  start-fits section (call.Begin coll) = if_inside (FirstFits section (call.Begin coll)) section _ (λ own calm e.
      if_test (FirstFits section (call.Begin coll)) (nat_lt coll (length shape.colls)) _ (λ t next told w.
      round_seen-fits section coll (round_of w) (ltb-true coll (length shape.colls) t)))
  start-fits section call.Finish = if_inside (FirstFits section call.Finish) section _ (λ own calm e.
      if_owned (FirstFits section call.Finish) stand.round _ (λ owned is next told w.
      subst (λ (one : Option Owned). steps_left shape (width_of shape) section (finish_owned shape (epoch_of section) one w).phase < finish_steps shape one) (sym is)
      (finish-fits section owned w (subst (InOwned shape) is round))))
  start-fits section call.Cancel = if_inside (FirstFits section call.Cancel) section _ (λ own calm e.
      if_owned (FirstFits section call.Cancel) stand.round _ (λ owned is next told w.
      subst (λ (one : Option Owned). steps_left shape (width_of shape) section (cancel_owned shape one w).phase < cancel_steps shape one) (sym is)
      (cancel-fits section owned w (subst (InOwned shape) is round))))
  start-fits section (call.Survey coll) = if_inside (FirstFits section (call.Survey coll)) section _ (λ own calm e.
      if_test (FirstFits section (call.Survey coll)) (nat_lt coll (length shape.colls)) _ (λ t next told w.
      omega (arith, survey-falls shape (width_of shape) (by_width shape) (walk.Directory coll 0 no_count) w section, first_behind coll (ltb-true coll (length shape.colls) t))))
  start-fits section call.Note = if_outside (FirstFits section call.Note) section _ (λ e next told w. omega arith)
  start-fits section (call.Learn other note) = if_outside (FirstFits section (call.Learn other note)) section _ (λ e next told w. omega arith)

  -- of a call that is offered
  pub started-fits : (section : Section) (next : Phase) (k : Call) (o : Offer) (told : ℕ) (w : Word) → offer shape pass stand section next (Start k) ≡ Some o
      → steps_left shape (width_of shape) (section_after section next (Start k) w) (start_change shape pass stand section k told w).phase < most_steps shape stand k
  started-fits section next k o told w is =
      subst (λ (one : Option Offer). IfSome one (FirstFits section k)) is (if_idle (FirstFits section k) next (start_offer shape pass stand section k) (λ e. start-fits section k)) next told w
