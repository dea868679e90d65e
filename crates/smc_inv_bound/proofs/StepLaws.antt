-- Each step that goes on with a call leaves fewer steps.
use Rattle.std.proofs.Common.{◌≡◌, ℕ, ◌+◌, ◌<◌, ◌==◌, ◌||◌, zero, suc, nat_lt, Some, List, [], ◌∷◌, refl, ap, ◌∙◌, arith}
use Rattle.std.proofs.lemmas.Bool.{cond_both, ltb-true}
use Rattle.smc_shape.specs.Layout.{Layout, IsShape}
use Rattle.smc_core.specs.declared.done.Done.TheVariants as done
use Rattle.smc_core.specs.declared.phase.Phase.{Phase}
use Rattle.smc_core.specs.declared.phase.Phase.TheVariants as phase
use Rattle.smc_core.specs.declared.phase.moves.FinishPhase.TheVariants as finish
use Rattle.smc_core.specs.declared.phase.objects.ScanPhase.TheVariants as scan
use Rattle.smc_core.specs.declared.word.Word.{Word}
use Rattle.smc_core.specs.Step.{goes, ends}
use Rattle.smc_core.specs.Words.{plain_of}
use Rattle.std.specs.Prelude.{◌-◌, slice_get}
use Rattle.smc_core.specs.declared.section.Section.{Section}
use Rattle.smc_core.specs.declared.section.Section.TheVariants.{Outside, Loaded, Announced, Again, Lasting, Inside}
use Rattle.smc_inv_bound.specs.Left.{enter_left, steps_left}
use Rattle.std.specs.Prelude.{slice_set}
use Rattle.smc_core.specs.declared.call.Choice.TheVariants.{Go}
use Rattle.smc_core.specs.declared.local.Local.{Local}
use Rattle.smc_core.specs.declared.local.Stand.{Stand}
use Rattle.smc_core.specs.declared.op.Offer.{Offer}
use Rattle.smc_core.specs.Change.{go_change, advance_next, section_seen, ready_seen}
use Rattle.smc_core.specs.Local.{after, section_after}
use Rattle.smc_core.specs.Machine.{Machine, Steps}
use Rattle.smc_core.specs.Offer.{go_offer}
use Rattle.smc_core.specs.Row.{row_shows}
use Rattle.smc_core.specs.Section.{epoch_of, is_calm, entering_offer, entering_change, entering_section}
use Rattle.smc_inv_bound.specs.Left.{left_in, left_of, widest, CountsWidths, CountsOwner, CountsOwners}
use Rattle.smc_inv_bound.proofs.CallLaws.{width_low, looking-falls, scan-falls, add-falls, remove-falls, survey-falls, begin-falls, finish-falls, cancel-falls}

module _ (shape : Layout) (wide : ℕ → ℕ) where
  -- an enter
  entering-falls : (pass : ℕ) (section : Section) (offered : Offer) (w : Word) → entering_offer pass section ≡ Some offered
      → steps_left shape wide (entering_section section w) (entering_change section).phase < enter_left section
  entering-falls pass Outside offered w is = cc
  entering-falls pass (Inside epoch calm) offered w is = cc
  entering-falls pass (Loaded seen) offered w is = omega arith
  entering-falls pass (Announced seen) offered w is = omega arith
  entering-falls pass (Again seen epoch) offered w is = omega arith
  entering-falls pass (Lasting epoch) offered w is = omega arith

  -- an advance
  section_seen-falls : (section : Section) (from other seen : ℕ) → steps_left shape wide section (section_seen shape from other seen).phase < shape.passes - (other + 1) + 2
  section_seen-falls section from other seen =
      cond_both (seen == 0 || seen == from) (goes (advance_next shape from (other + 1))) (ends (done.NotYet other seen)) (λ c. steps_left shape wide section c.phase < shape.passes - (other + 1) + 2)
      (λ t. cond_both (nat_lt (other + 1) shape.passes) (phase.Advancing from (other + 1)) (phase.Ready from) (λ p. steps_left shape wide section p < shape.passes - (other + 1) + 2)
      (λ u. omega (arith, ltb-true (other + 1) shape.passes u)) (λ u. omega arith)) (λ n. omega arith)

  ready_seen-falls : (section : Section) (from seen : ℕ) → steps_left shape wide section (ready_seen from seen).phase < 1
  ready_seen-falls section from seen =
      cond_both (seen == from) (ends (done.Advanced (from + 1))) (ends (done.Overtaken seen)) (λ c. steps_left shape wide section c.phase < 1) (λ t. omega arith) (λ n. omega arith)

  -- going on with a call
  pub go-falls : (pass : ℕ) (stand : Stand) (section : Section) (next : Phase) (offered : Offer) (w : Word) → CountsWidths shape wide → CountsOwners wide next w
      → go_offer pass stand section next ≡ Some offered
      → steps_left shape wide (section_after section next Go w) (go_change shape stand section next w).phase < steps_left shape wide section next
  go-falls pass stand section phase.Idle offered w widths owners is = cc
  go-falls pass stand section phase.Entering offered w widths owners is = entering-falls pass section offered w is
  go-falls pass stand section (phase.Advancing from other) offered w widths owners is = section_seen-falls section from other (plain_of w)
  go-falls pass stand section (phase.Ready from) offered w widths owners is = ready_seen-falls section from (plain_of w)
  go-falls pass stand section (phase.Look next) offered w widths owners is = looking-falls shape wide widths (is_calm section) next w section
  go-falls pass stand section (phase.Add next) offered w widths owners is = add-falls shape wide widths (epoch_of section) stand.words next w section
  go-falls pass stand section (phase.Remove next) offered w widths owners is = remove-falls shape wide widths next section
  go-falls pass stand section (phase.Scan next) offered w widths owners is = scan-falls shape wide widths next w owners section
  go-falls pass stand section (phase.Begin next) offered w widths owners is = begin-falls shape wide widths (epoch_of section) next w section
  go-falls pass stand section (phase.Finish next) offered w widths owners is = finish-falls shape wide widths section next w owners
  go-falls pass stand section (phase.Cancel next) offered w widths owners is = cancel-falls shape wide widths section next w
  go-falls pass stand section (phase.Survey next) offered w widths owners is = survey-falls shape wide widths next w section

  -- what is found where it was put
  get-set : (locals : List Local) (pass : ℕ) (l new : Local) → slice_get locals pass ≡ Some l → slice_get (slice_set locals pass new) pass ≡ Some new
  get-set [] pass l new is = cc
  get-set (first ∷ later) zero l new is = refl
  get-set (first ∷ later) (suc pass) l new is = get-set later pass l new is

  -- a step of the machine that goes on with a call
  pub step_by-falls : (m next : Machine) (pass : ℕ) (step : Steps shape m pass Go next) → CountsWidths shape wide
      → CountsOwners wide step.local.stand.phase (row_shows shape step.offered.op m.row) → left_of shape wide next pass < left_of shape wide m pass
  step_by-falls m next pass step widths owners =
      let l : Local = step.local in
      let w : Word = row_shows shape step.offered.op m.row in
      let new : Local = after shape pass l Go step.told w in
      let now : left_of shape wide next pass ≡ steps_left shape wide new.stand.section new.stand.phase =
      ap (λ (k : Machine). left_of shape wide k pass) step.leads ∙ ap (left_in shape wide) (get-set m.locals pass l new step.here) in
      let before : left_of shape wide m pass ≡ steps_left shape wide l.stand.section l.stand.phase = ap (left_in shape wide) step.here in
      omega (arith, now, before, go-falls pass l.stand l.stand.section l.stand.phase step.offered w widths owners step.offers)

-- where the owner that a word names counts as no wider than any collection's record, it does so wherever it is shown
pub any_owners : (wide : ℕ → ℕ) (next : Phase) (w : Word) → ((coll : ℕ) → CountsOwner wide coll w) → CountsOwners wide next w
any_owners wide phase.Idle w counts = tt
any_owners wide phase.Entering w counts = tt
any_owners wide (phase.Advancing epoch other) w counts = tt
any_owners wide (phase.Ready epoch) w counts = tt
any_owners wide (phase.Look next) w counts = tt
any_owners wide (phase.Add next) w counts = tt
any_owners wide (phase.Remove next) w counts = tt
any_owners wide (phase.Scan (scan.Directory k coll slot)) w counts = tt
any_owners wide (phase.Scan (scan.Back k coll slot)) w counts = counts coll
any_owners wide (phase.Scan (scan.End k)) w counts = tt
any_owners wide (phase.Begin next) w counts = tt
any_owners wide (phase.Finish (finish.Directory targets)) w counts = tt
any_owners wide (phase.Finish (finish.Back targets)) w counts = counts targets.coll
any_owners wide (phase.Finish (finish.Entry targets number)) w counts = tt
any_owners wide (phase.Finish (finish.Lock targets number source)) w counts = tt
any_owners wide (phase.Finish (finish.Move targets number source next)) w counts = tt
any_owners wide (phase.Finish (finish.Settle targets source)) w counts = tt
any_owners wide (phase.Finish (finish.LeaveSource targets source)) w counts = tt
any_owners wide (phase.Finish (finish.GiveUp targets gone)) w counts = tt
any_owners wide (phase.Finish (finish.End targets)) w counts = tt
any_owners wide (phase.Cancel next) w counts = tt
any_owners wide (phase.Survey next) w counts = tt

-- a step of any machine that goes on with a call
pub step-falls : (shape : Layout) (valid : IsShape shape) (m next : Machine) (pass : ℕ) → Steps shape m pass Go next
    → left_of shape widest next pass < left_of shape widest m pass
step-falls shape valid m next pass step =
    step_by-falls shape widest m next pass step (λ coll. width_low shape coll valid) (any_owners widest step.local.stand.phase (row_shows shape step.offered.op m.row) (λ coll owner is. omega arith))
