-- What one step owes to the epoch rule, and that the rule is kept where it is paid.
use Rattle.std.proofs.Common.{◌≡◌, ◌≢◌, ℕ, ◌+◌, ◌<◌, ◌≤◌, Some, sym, ◌∙◌, subst, arith}
use Rattle.std.specs.Prelude.{IsTrue}
use Rattle.smc_shape.specs.Layout.{Layout}
use Rattle.smc_model.specs.World.{World}
use Rattle.smc_core.specs.declared.local.Stand.{Stand}
use Rattle.smc_core.specs.declared.phase.Phase.{Phase}
use Rattle.smc_core.specs.declared.phase.Phase.TheVariants as phase
use Rattle.smc_core.specs.declared.section.Section.{Section}
use Rattle.smc_core.specs.declared.section.Section.TheVariants.{Again}
use Rattle.smc_core.specs.declared.section.TheConstants.{FIRST_EPOCH, LAST_EPOCH}
use Rattle.smc_rules.specs.EpochAgreement.{word_of_section}
use Rattle.smc_rules.specs.EpochRule.{first_load, own_epoch, advance_from, has_loaded}
use Rattle.smc_rules.specs.Memory.{Memory}
use Rattle.smc_rules.specs.Reads.{epoch_of_region, announced_by}
use Rattle.smc_rules.specs.State.{State, put_stand}
use Rattle.smc_rules.proofs.CarryLaws.{by_pass, put_stand-same, put_stand-other}
use Rattle.smc_inv_epoch.specs.Epochs.{Epochs}

-- what the rule and the agreement say of one section, its word and the epoch
pub record SectionFits (epoch word : ℕ) (section : Section) : Type 0 where
  pub loaded : (seen : ℕ) → first_load section ≡ Some seen → seen ≤ epoch
  pub again : (seen own : ℕ) → section ≡ Again seen own → seen ≤ own
  pub near : (own : ℕ) → own_epoch section ≡ Some own → (own ≤ epoch) × (epoch ≤ own + 1)
  pub own_word : word ≡ word_of_section section
  pub least_load : (seen : ℕ) → first_load section ≡ Some seen → FIRST_EPOCH ≤ seen
  pub least_own : (own : ℕ) → own_epoch section ≡ Some own → FIRST_EPOCH ≤ own

-- what they say of one advance and the epoch
pub record AdvanceFits (shape : Layout) (epoch : ℕ) (call : Phase) : Type 0 where
  pub advance : (from : ℕ) → advance_from call ≡ Some from → from ≤ epoch
  pub low : (from : ℕ) → advance_from call ≡ Some from → from < LAST_EPOCH
  pub next : (from other : ℕ) → call ≡ phase.Advancing from other → other < shape.passes

-- what they say of a section of this pass and an advance
abbrev pub PassedFits : ℕ → Section → Phase → Type 0
PassedFits pass section call = (own from : ℕ) → own_epoch section ≡ Some own → advance_from call ≡ Some from → IsTrue (has_loaded call pass) → from ≤ own

-- what one step of this pass owes: the memory, its section and its phase after the step are these
pub record Moves (shape : Layout) (state : State) (pass : ℕ) (memory : Memory) (then_section : Section) (then_phase : Phase) : Type 0 where
  pub first : FIRST_EPOCH ≤ epoch_of_region memory
  pub last : epoch_of_region memory ≤ LAST_EPOCH
  pub rises : epoch_of_region state.memory ≤ epoch_of_region memory
  pub words : (i : ℕ) → i ≢ pass → announced_by memory i ≡ announced_by state.memory i
  pub section : SectionFits (epoch_of_region memory) (announced_by memory pass) then_section
  pub advance : AdvanceFits shape (epoch_of_region memory) then_phase
  pub reach : (i own : ℕ) → i < shape.passes → own_epoch (state.stands i).section ≡ Some own → epoch_of_region memory ≤ own + 1
  pub settles : (i : ℕ) → i < shape.passes → PassedFits pass then_section (state.stands i).phase
  pub passes : (i : ℕ) → i < shape.passes → PassedFits i (state.stands i).section then_phase
  pub self : PassedFits pass then_section then_phase

module _ (shape : Layout) (state : State) (pass : ℕ) (h : Epochs shape state) (within : pass < shape.passes) where
  -- what is known of the section of a pass
  pub section_fits : SectionFits (epoch_of_region state.memory) (announced_by state.memory pass) (state.stands pass).section
  section_fits = record {
    loaded = λ seen is. h.rule.loaded pass seen within is;
    again = λ seen own is. h.rule.again pass seen own within is;
    near = λ own is. h.rule.near pass own within is;
    own_word = h.agrees.own_word pass within;
    least_load = λ seen is. h.agrees.least_load pass seen within is;
    least_own = λ own is. h.agrees.least_own pass own within is;
  }

  -- what is known of its advance
  pub advance_fits : AdvanceFits shape (epoch_of_region state.memory) (state.stands pass).phase
  advance_fits = record {
    advance = λ from is. h.rule.advance pass from within is;
    low = λ from is. h.agrees.low_advance pass from within is;
    next = λ from other is. h.agrees.next_pass pass from other within is;
  }

  module _ (memory : Memory) (stand : Stand) (world : World) (m : Moves shape state pass memory stand.section stand.phase) where
    abbrev moved : State
    moved = record { memory = memory; stands = put_stand state.stands pass stand; world = world }

    here : (i : ℕ) → i ≡ pass → moved.stands i ≡ stand
    here i e = put_stand-same state.stands pass i stand e

    there : (i : ℕ) → i ≢ pass → moved.stands i ≡ state.stands i
    there i ne = put_stand-other state.stands pass i stand ne

    -- a fact of each pass: of the stepping pass by what the step owes, of another as it was
    each : (P : ℕ → Stand → Type 0) → P pass stand → ((i : ℕ) → i ≢ pass → i < shape.passes → P i (state.stands i)) → (i : ℕ) → i < shape.passes → P i (moved.stands i)
    each P own other i lt = by_pass i pass
        (λ e. subst (P i) (sym (here i e)) (subst (λ (j : ℕ). P j stand) (sym e) own))
        (λ ne. subst (P i) (sym (there i ne)) (other i ne lt))

    sections : (i : ℕ) → i < shape.passes → SectionFits (epoch_of_region memory) (announced_by memory i) (moved.stands i).section
    sections = each (λ i s. SectionFits (epoch_of_region memory) (announced_by memory i) s.section) m.section
        (λ i ne lt. record {
          loaded = λ seen is. omega (arith, h.rule.loaded i seen lt is, m.rises);
          again = λ seen own is. h.rule.again i seen own lt is;
          near = λ own is. let old = h.rule.near i own lt is in (omega (arith, old.0, m.rises), m.reach i own lt is);
          own_word = m.words i ne ∙ h.agrees.own_word i lt;
          least_load = λ seen is. h.agrees.least_load i seen lt is;
          least_own = λ own is. h.agrees.least_own i own lt is;
        })

    advances : (i : ℕ) → i < shape.passes → AdvanceFits shape (epoch_of_region memory) (moved.stands i).phase
    advances = each (λ i s. AdvanceFits shape (epoch_of_region memory) s.phase) m.advance
        (λ i ne lt. record {
          advance = λ from is. omega (arith, h.rule.advance i from lt is, m.rises);
          low = λ from is. h.agrees.low_advance i from lt is;
          next = λ from other is. h.agrees.next_pass i from other lt is;
        })

    passed : (i j : ℕ) → i < shape.passes → j < shape.passes → PassedFits i (moved.stands i).section (moved.stands j).phase
    passed i j li lj = each (λ i s. PassedFits i s.section (moved.stands j).phase)
        (each (λ j s. PassedFits pass stand.section s.phase) m.self (λ j ne lt. m.settles j lt) j lj)
        (λ i ne lt. each (λ j s. PassedFits i (state.stands i).section s.phase) (m.passes i lt)
        (λ j nj l. λ own from is at loaded. h.rule.passed i own j from lt l is at loaded) j lj) i li

    -- a step that pays what it owes keeps the rule
    pub kept : Epochs shape moved
    kept = record {
      rule = record {
        first = m.first;
        last = m.last;
        advance = λ i from lt is. (advances i lt).advance from is;
        loaded = λ i seen lt is. (sections i lt).loaded seen is;
        again = λ i seen own lt is. (sections i lt).again seen own is;
        near = λ i own lt is. (sections i lt).near own is;
        passed = λ i own j from li lj is at loaded. passed i j li lj own from is at loaded;
      };
      agrees = record {
        own_word = λ i lt. (sections i lt).own_word;
        least_load = λ i seen lt is. (sections i lt).least_load seen is;
        least_own = λ i own lt is. (sections i lt).least_own own is;
        low_advance = λ i from lt is. (advances i lt).low from is;
        next_pass = λ i from other lt is. (advances i lt).next from other is;
      };
    }
