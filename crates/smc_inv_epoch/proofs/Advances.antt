-- The steps of an advance pay what they owe.
use Rattle.std.proofs.Common.{◌≡◌, ◌≢◌, ℕ, ◌+◌, ◌<◌, ◌≤◌, ◌==◌, ◌||◌, Bool, true, false, Some, None, refl, sym, ap, ◌∙◌, arith}
use Rattle.std.specs.Prelude.{IfSome, if◌then◌else◌}
use Rattle.std.proofs.lemmas.Bool.Decides.{nat_tests}
use Rattle.std.proofs.lemmas.Bool.{eqb-false, lt-ltb}
use Rattle.smc_shape.specs.Layout.{Layout, IsShape}
use Rattle.smc_shape.specs.declared.place.Place.TheVariants as place
use Rattle.smc_core.specs.declared.call.Call.TheVariants as call
use Rattle.smc_core.specs.declared.call.Choice.TheVariants.{Start, Go}
use Rattle.smc_core.specs.declared.done.Done.TheVariants as done
use Rattle.smc_core.specs.declared.local.Stand.{Stand}
use Rattle.smc_core.specs.declared.op.Op.TheVariants.{Load, Exchange}
use Rattle.smc_core.specs.declared.phase.Phase.{Phase}
use Rattle.smc_core.specs.declared.phase.Phase.TheVariants as phase
use Rattle.smc_core.specs.declared.section.Section.{Section}
use Rattle.smc_core.specs.declared.section.TheConstants.{LAST_EPOCH}
use Rattle.smc_core.specs.declared.word.Word.{Word}
use Rattle.smc_core.specs.declared.word.Word.TheVariants as word
use Rattle.smc_core.specs.Change.{advance_next, ready_seen}
use Rattle.smc_core.specs.Offer.{go_offer, start_offer}
use Rattle.smc_core.specs.Step.{goes, ends}
use Rattle.smc_core.specs.Words.{plain_of, same_word}
use Rattle.smc_rules.specs.EpochRule.{own_epoch, advance_from, has_loaded}
use Rattle.smc_rules.specs.Memory.{Memory, apply}
use Rattle.smc_rules.specs.Reads.{epoch_of_region, announced_by}
use Rattle.smc_rules.specs.State.{State}
use Rattle.smc_rules.proofs.CarryLaws.{by_pass}
use Rattle.smc_rules.proofs.MirrorLaws.{same_word-eq}
use Rattle.smc_inv_epoch.specs.Epochs.{Epochs}
use Rattle.smc_inv_epoch.proofs.Moves.{Moves, section_fits}
use Rattle.smc_inv_epoch.proofs.Owed.{word_own, advance_moves, quiet_moves, next_moves, calm_advance, calm_passed}
use Rattle.smc_rules.proofs.OfferLaws.{if_outside}
use Rattle.smc_inv_epoch.proofs.Pays.{Pays}

module _ (shape : Layout) (state : State) (pass : ℕ) (h : Epochs shape state) (within : pass < shape.passes) (valid : IsShape shape) where
  abbrev memory : Memory
  memory = state.memory

  abbrev stand : Stand
  stand = state.stands pass

  abbrev epoch : ℕ
  epoch = epoch_of_region memory

  -- an advance looks at the section word of a pass (8)
  pub advancing : (section : Section) (from other : ℕ) → stand.section ≡ section → stand.phase ≡ phase.Advancing from other
      → IfSome (go_offer pass stand section (phase.Advancing from other)) (Pays shape state pass section (phase.Advancing from other) Go)
  advancing section from other at at_phase = record {
    fits = λ u. there;
    moves = λ told w is. by_word w (is refl) (plain_of w == 0 || plain_of w == from) refl;
  }
    where
      there : other < shape.passes
      there = h.agrees.next_pass pass from other within at_phase

      low : from ≤ epoch
      low = h.rule.advance pass from within (ap advance_from at_phase)

      last : from < LAST_EPOCH
      last = h.agrees.low_advance pass from within (ap advance_from at_phase)

      -- the sections that it has passed, this one included
      passed : (w : Word) → w ≡ memory (place.Section other) → (plain_of w == 0 || plain_of w == from) ≡ true
          → (i own : ℕ) → i < shape.passes → own_epoch (state.stands i).section ≡ Some own → i < other + 1 → from ≤ own
      passed w is test i own lt own_is below = by_pass i other
          (λ e. let says : plain_of w ≡ announced_by memory i = ap plain_of is ∙ ap (announced_by memory) (sym e) in
          let known = word_own epoch (announced_by memory i) own (state.stands i).section (section_fits shape state i h lt) own_is in
          grind (arith, nat_tests, says, known.0, known.1, test))
          (λ ne. let earlier : i < other = omega (arith, below, ne) in
          h.rule.passed i own pass from lt within own_is (ap advance_from at_phase) (ap (λ p. has_loaded p i) at_phase ∙ lt-ltb i other earlier))

      by_word : (w : Word) → w ≡ memory (place.Section other) → (b : Bool) → (plain_of w == 0 || plain_of w == from) ≡ b
          → Moves shape state pass memory section (if b then goes (advance_next shape from (other + 1)) else ends (done.NotYet other (plain_of w))).phase
      by_word w is true test = next_moves shape state pass h within section from (other + 1) at low last (passed w is test)
      by_word w is false test = quiet_moves shape state pass h within (Load (place.Section other)) section phase.Idle at refl refl

  -- an advance moves the epoch on, or was overtaken (9)
  pub ready : (section : Section) (from : ℕ) → stand.section ≡ section → stand.phase ≡ phase.Ready from
      → IfSome (go_offer pass stand section (phase.Ready from)) (Pays shape state pass section (phase.Ready from) Go)
  ready section from at at_phase = record {
    fits = λ u. (tt, omega (arith, last), omega (arith, last));
    moves = λ told w is. by_epoch (ready_seen from (plain_of w)).phase (idle (plain_of w) (plain_of w == from)) (same_word (memory place.Epoch) (word.Plain from)) refl;
  }
    where
      last : from < LAST_EPOCH
      last = h.agrees.low_advance pass from within (ap advance_from at_phase)

      passed : (i own : ℕ) → i < shape.passes → own_epoch (state.stands i).section ≡ Some own → from ≤ own
      passed i own lt own_is = h.rule.passed i own pass from lt within own_is (ap advance_from at_phase) (ap (λ p. has_loaded p i) at_phase)

      idle : (w : ℕ) (b : Bool) → advance_from (if b then ends (done.Advanced (from + 1)) else ends (done.Overtaken w)).phase ≡ None
      idle w true = refl
      idle w false = refl

      raised : Memory
      raised = apply (Exchange place.Epoch (word.Plain from) (word.Plain (from + 1))) memory

      by_epoch : (next : Phase) → advance_from next ≡ None → (b : Bool) → same_word (memory place.Epoch) (word.Plain from) ≡ b
          → Moves shape state pass (apply (Exchange place.Epoch (word.Plain from) (word.Plain (from + 1))) memory) section next
      by_epoch next calm true e =
          let old : epoch ≡ from = ap plain_of (same_word-eq (memory place.Epoch) (word.Plain from) e) in
          let now : epoch_of_region raised ≡ from + 1 = rw e refl in
          advance_moves shape state pass h within raised section next at (λ i. refl)
          (omega (arith, old, now)) (omega (arith, now, last)) (λ i own lt is. omega (arith, now, passed i own lt is))
          (calm_advance shape (epoch_of_region raised) next calm) (λ i lt. calm_passed i (state.stands i).section next calm)
      by_epoch next calm false e =
          let now : epoch_of_region raised ≡ epoch = rw e refl in
          advance_moves shape state pass h within raised section next at (λ i. refl)
          (omega (arith, now)) (omega (arith, now, h.rule.last)) (λ i own lt is. let near = h.rule.near i own lt is in omega (arith, now, near.1))
          (calm_advance shape (epoch_of_region raised) next calm) (λ i lt. calm_passed i (state.stands i).section next calm)

  -- the first step of an advance (7)
  pub begins_advance : (section : Section) → stand.section ≡ section → IfSome (start_offer shape pass stand section call.Advance) (Pays shape state pass section phase.Idle (Start call.Advance))
  begins_advance section at = if_outside (Pays shape state pass section phase.Idle (Start call.Advance)) section _ (λ is. record {
    fits = λ u. tt;
    moves = λ told w is. by_word w (is refl) (plain_of w == LAST_EPOCH) refl;
  })
    where
      by_word : (w : Word) → w ≡ memory place.Epoch → (b : Bool) → (plain_of w == LAST_EPOCH) ≡ b
          → Moves shape state pass memory section (if b then ends done.Spent else goes (advance_next shape (plain_of w) 0)).phase
      by_word w is true test = quiet_moves shape state pass h within (Load place.Epoch) section phase.Idle at refl refl
      by_word w is false test =
          let now : plain_of w ≡ epoch = ap plain_of is in
          let below : plain_of w ≢ LAST_EPOCH = eqb-false (plain_of w) LAST_EPOCH test in
          next_moves shape state pass h within section (plain_of w) 0 at (omega (arith, now)) (omega (arith, now, below, h.rule.last)) (λ i own lt own_is none. absurd (omega (arith, none)))
