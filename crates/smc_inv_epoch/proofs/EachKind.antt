-- Each step of each kind pays what it owes to the epoch rule.
use Rattle.std.proofs.Common.{◌≡◌, ℕ, ◌<◌, ◌&&◌, false, length, refl, sym, subst}
use Rattle.std.specs.Prelude.{IfSome, IsTrue, nat_lt}
use Rattle.std.proofs.lemmas.Bool.{ltb-true}
use Rattle.smc_shape.specs.Layout.{Layout, IsShape, width_of}
use Rattle.smc_core.specs.declared.call.Call.{Call}
use Rattle.smc_core.specs.declared.call.Call.TheVariants as call
use Rattle.smc_core.specs.declared.call.Choice.{Choice}
use Rattle.smc_core.specs.declared.call.Choice.TheVariants.{Start, Go}
use Rattle.smc_core.specs.declared.local.Stand.{Stand}
use Rattle.smc_core.specs.declared.op.Offer.{Offer}
use Rattle.smc_core.specs.declared.phase.Phase.{Phase}
use Rattle.smc_core.specs.declared.phase.Phase.TheVariants as phase
use Rattle.smc_core.specs.declared.phase.moves.CountPhase.TheVariants as walk
use Rattle.smc_core.specs.declared.section.Section.{Section}
use Rattle.smc_core.specs.declared.word.Word.{Word}
use Rattle.smc_core.specs.Add.{add_offer, is_value, takes}
use Rattle.smc_core.specs.Begin.{begin_offer}
use Rattle.smc_core.specs.Cancel.{cancel_offer}
use Rattle.smc_core.specs.Change.{change}
use Rattle.smc_core.specs.Count.{count_offer, counting, no_count}
use Rattle.smc_core.specs.Finish.{finish_offer}
use Rattle.smc_core.specs.Local.{section_after}
use Rattle.smc_core.specs.Look.{look_offer}
use Rattle.smc_core.specs.Offer.{offer, go_offer, start_offer, held_slot}
use Rattle.smc_core.specs.Remove.{remove_offer}
use Rattle.smc_core.specs.Row.{place_of}
use Rattle.smc_core.specs.Scan.{scan_offer, scan_of}
use Rattle.smc_core.specs.Section.{epoch_of, is_calm}
use Rattle.smc_core.specs.Words.{round_of, dir_of, state_of}
use Rattle.smc_rules.specs.Memory.{Memory}
use Rattle.smc_rules.specs.Reads.{epoch_of_region}
use Rattle.smc_rules.specs.State.{State}
use Rattle.smc_inv_epoch.specs.Epochs.{Epochs, is_first}
use Rattle.smc_inv_epoch.proofs.Quiet as Q
use Rattle.smc_rules.proofs.OfferLaws.{if_idle, if_outside, if_inside, if_test, if_held, if_begun, if_owned}
use Rattle.smc_inv_epoch.proofs.Offers.{Fits, look-far, add-far, remove-far, count-far, scan-leaves, begin-leaves, finish-leaves, cancel-leaves, scan-fits, begin-fits, finish-fits, cancel-fits}
use Rattle.smc_inv_epoch.proofs.Pays.{Pays, quiet, far, own_load, look_start-bears, next_offer-bears, finish_start-bears, round-fits}
use Rattle.smc_inv_epoch.proofs.Enters.{entering, begins_enter, begins_leave}
use Rattle.smc_inv_epoch.proofs.Advances.{advancing, ready, begins_advance}

module _ (shape : Layout) (state : State) (pass : ℕ) (h : Epochs shape state) (within : pass < shape.passes) (valid : IsShape shape) where
  abbrev memory : Memory
  memory = state.memory

  abbrev stand : Stand
  stand = state.stands pass

  abbrev epoch : ℕ
  epoch = epoch_of_region memory

  -- what a step that goes on with a call pays, and what the first step of a call does
  abbrev Goes : Section → Phase → Offer → Type 0
  Goes section call = Pays shape state pass section call Go

  abbrev Starts : Section → Call → Offer → Type 0
  Starts section call = Pays shape state pass section phase.Idle (Start call)

  -- steps of calls that have nothing to do with epochs: on a word of an object or a slot, and on another
  far_go : (section : Section) (call : Phase) (o : Offer) → stand.section ≡ section
      → is_first (place_of o.op) ≡ false → ((w : Word) → section_after section call Go w ≡ section)
      → ((told : ℕ) (w : Word) → Q.Calm (change shape pass stand section call Go told w)) → Goes section call o
  far_go section call o at away same calm = far shape state pass h within valid section call Go o at away same calm

  quiet_go : (section : Section) (call : Phase) (o : Offer) → stand.section ≡ section
      → Fits shape o → IsTrue (Q.leaves o.op) → ((w : Word) → section_after section call Go w ≡ section)
      → ((told : ℕ) (w : Word) → Q.Calm (change shape pass stand section call Go told w)) → Goes section call o
  quiet_go section call o at fits left same calm = quiet shape state pass h within valid section call Go o at fits left same calm

  far_start : (section : Section) (call : Call) (o : Offer) → stand.section ≡ section
      → is_first (place_of o.op) ≡ false → ((w : Word) → section_after section phase.Idle (Start call) w ≡ section)
      → ((told : ℕ) (w : Word) → Q.Calm (change shape pass stand section phase.Idle (Start call) told w)) → Starts section call o
  far_start section call o at away same calm = far shape state pass h within valid section phase.Idle (Start call) o at away same calm

  quiet_start : (section : Section) (call : Call) (o : Offer) → stand.section ≡ section
      → Fits shape o → IsTrue (Q.leaves o.op) → ((w : Word) → section_after section phase.Idle (Start call) w ≡ section)
      → ((told : ℕ) (w : Word) → Q.Calm (change shape pass stand section phase.Idle (Start call) told w)) → Starts section call o
  quiet_start section call o at fits left same calm = quiet shape state pass h within valid section phase.Idle (Start call) o at fits left same calm

  -- a step that goes on with a call
  going : (section : Section) (call : Phase) → stand.section ≡ section → stand.phase ≡ call → IfSome (go_offer pass stand section call) (Goes section call)
  going section phase.Idle at at_phase = tt
  going section phase.Entering at at_phase = entering shape state pass h within valid section at
  going section (phase.Advancing from other) at at_phase = advancing shape state pass h within valid section from other at at_phase
  going section (phase.Ready from) at at_phase = ready shape state pass h within valid section from at at_phase
  going section (phase.Look next) at at_phase = far_go section (phase.Look next) (look_offer next) at (look-far next) (λ w. refl)
      (λ told w. Q.looking-calm shape (is_calm section) next w)
  going section (phase.Add next) at at_phase = far_go section (phase.Add next) (add_offer stand.words next) at (add-far stand.words next) (λ w. refl)
      (λ told w. Q.add-calm shape (epoch_of section) stand.words next w)
  going section (phase.Remove next) at at_phase = far_go section (phase.Remove next) (remove_offer (epoch_of section) next) at (remove-far (epoch_of section) next) (λ w. refl)
      (λ told w. Q.remove-calm shape next)
  going section (phase.Scan next) at at_phase = quiet_go section (phase.Scan next) (scan_offer pass next) at (scan-fits shape pass within next) (scan-leaves pass next) (λ w. refl)
      (λ told w. Q.scan-calm shape next w)
  going section (phase.Begin next) at at_phase = quiet_go section (phase.Begin next) (begin_offer (epoch_of section) next) at (begin-fits shape (epoch_of section) next) (begin-leaves (epoch_of section) next) (λ w. refl)
      (λ told w. Q.begin-calm shape (epoch_of section) next w)
  going section (phase.Finish next) at at_phase = quiet_go section (phase.Finish next) (finish_offer (epoch_of section) next) at (finish-fits shape (epoch_of section) next) (finish-leaves (epoch_of section) next) (λ w. refl)
      (λ told w. Q.finish-calm shape next w)
  going section (phase.Cancel next) at at_phase = quiet_go section (phase.Cancel next) (cancel_offer (epoch_of section) next) at (cancel-fits shape (epoch_of section) next) (cancel-leaves (epoch_of section) next) (λ w. refl)
      (λ told w. Q.cancel-calm shape next w)
  going section (phase.Survey next) at at_phase = far_go section (phase.Survey next) (count_offer next) at (count-far next) (λ w. refl)
      (λ told w. Q.survey-calm shape (counting shape next w))

  -- the first step of a call
  starting : (section : Section) → stand.section ≡ section → (call : Call) → IfSome (start_offer shape pass stand section call) (Starts section call)
  starting section at call.Enter = begins_enter shape state pass h within valid section at
  starting section at call.Leave = begins_leave shape state pass h within valid section at
  starting section at call.Advance = begins_advance shape state pass h within valid section at
  starting section at (call.Add coll from words) = if_inside (Starts section (call.Add coll from words)) section _ (λ own calm is.
      if_test (Starts section (call.Add coll from words)) (takes shape coll from words) _ (λ t.
      far_start section (call.Add coll from words) _ at refl (λ w. refl) (λ told w. Q.slot_seen-calm shape (epoch_of section) coll from from 0 (dir_of w))))
  starting section at (call.Look number) = if_inside (Starts section (call.Look number)) section _ (λ own calm is. let bears = look_start-bears shape state pass h within valid number in
      quiet_start section (call.Look number) _ at bears.0 bears.1 (λ w. refl) (λ told w. Q.look_started-calm shape (is_calm section) number w))
  starting section at (call.Read number field) = if_inside (Starts section (call.Read number field)) section _ (λ own calm is.
      if_held (Starts section (call.Read number field)) (held_slot stand.held number) _ (λ slot _.
      if_test (Starts section (call.Read number field)) (nat_lt field (width_of shape number.coll)) _ (λ t.
      far_start section (call.Read number field) _ at refl (λ w. refl) (λ told w. refl))))
  starting section at (call.Write number field value) = if_inside (Starts section (call.Write number field value)) section _ (λ own calm is.
      if_held (Starts section (call.Write number field value)) (held_slot stand.held number) _ (λ slot _.
      if_test (Starts section (call.Write number field value)) (nat_lt field (width_of shape number.coll) && is_value value) _ (λ t.
      far_start section (call.Write number field value) _ at refl (λ w. refl) (λ told w. refl))))
  starting section at (call.Remove number) = if_inside (Starts section (call.Remove number)) section _ (λ own calm is.
      if_held (Starts section (call.Remove number)) (held_slot stand.held number) _ (λ slot _.
      far_start section (call.Remove number) _ at refl (λ w. refl) (λ told w. Q.remove_started-calm shape number (held_slot stand.held number) (state_of w))))
  starting section at (call.Scan coll) = if_inside (Starts section (call.Scan coll)) section _ (λ own calm is.
      if_test (Starts section (call.Scan coll)) (nat_lt coll (length shape.colls)) _ (λ t.
      quiet_start section (call.Scan coll) _ at (own_load shape state pass h within valid).0 refl (λ w. refl) (λ told w. refl)))
  starting section at (call.Next scan) = if_inside (Starts section (call.Next scan)) section _ (λ own calm is.
      if_begun (Starts section (call.Next scan)) (scan_of stand.scans scan) _ (λ one _. let bears = next_offer-bears shape state pass h within valid one in
      quiet_start section (call.Next scan) _ at bears.0 bears.1 (λ w. refl) (λ told w. Q.next_started-calm shape (scan_of stand.scans scan) w)))
  starting section at (call.Begin coll) = if_inside (Starts section (call.Begin coll)) section _ (λ own calm is.
      if_test (Starts section (call.Begin coll)) (nat_lt coll (length shape.colls)) _ (λ t.
      quiet_start section (call.Begin coll) _ at (round-fits shape state pass h within valid section own coll calm at is (ltb-true coll (length shape.colls) t)) refl (λ w. refl)
      (λ told w. Q.round_seen-calm shape coll (round_of w))))
  starting section at call.Finish = if_inside (Starts section call.Finish) section _ (λ own calm is.
      if_owned (Starts section call.Finish) stand.round _ (λ owned _. let bears = finish_start-bears shape state pass h within valid (epoch_of section) owned in
      quiet_start section call.Finish _ at bears.0 bears.1 (λ w. refl) (λ told w. Q.finish_owned-calm shape (epoch_of section) stand.round w)))
  starting section at call.Cancel = if_inside (Starts section call.Cancel) section _ (λ own calm is.
      if_owned (Starts section call.Cancel) stand.round _ (λ owned _.
      far_start section call.Cancel _ at refl (λ w. refl) (λ told w. Q.cancel_owned-calm shape stand.round w)))
  starting section at (call.Survey coll) = if_inside (Starts section (call.Survey coll)) section _ (λ own calm is.
      if_test (Starts section (call.Survey coll)) (nat_lt coll (length shape.colls)) _ (λ t.
      far_start section (call.Survey coll) _ at refl (λ w. refl) (λ told w. Q.survey-calm shape (counting shape (walk.Directory coll 0 no_count) w))))
  starting section at call.Note = if_outside (Starts section call.Note) section _ (λ is.
      quiet_start section call.Note _ at (λ u. tt) refl (λ w. refl) (λ told w. refl))
  starting section at (call.Learn other note) = if_outside (Starts section (call.Learn other note)) section _ (λ is.
      quiet_start section (call.Learn other note) _ at (λ u. tt) refl (λ w. refl) (λ told w. refl))

  -- each offered step pays
  pub pays : (choice : Choice) → IfSome (offer shape pass stand stand.section stand.phase choice) (Pays shape state pass stand.section stand.phase choice)
  pays Go = going stand.section stand.phase refl refl
  pays (Start call) = if_idle (Pays shape state pass stand.section stand.phase (Start call)) stand.phase (start_offer shape pass stand stand.section call)
      (λ is. subst (λ f. IfSome (start_offer shape pass stand stand.section call) (Pays shape state pass stand.section f (Start call))) (sym is) (starting stand.section refl call))
