-- What the section words and the local states say alike, and what else the epoch rule needs to be kept.
--
-- Nobody has to believe these: they are here because the rule does not follow from itself alone.
use Rattle.std.specs.Prelude.{◌≡◌, ℕ, ◌<◌, ◌≤◌, Some}
use Rattle.smc_shape.specs.Layout.{Layout}
use Rattle.smc_core.specs.declared.phase.Phase.TheVariants as phase
use Rattle.smc_core.specs.declared.section.Section.{Section}
use Rattle.smc_core.specs.declared.section.Section.TheVariants.{Outside, Loaded, Announced, Again, Lasting, Inside}
use Rattle.smc_core.specs.declared.section.TheConstants.{FIRST_EPOCH, LAST_EPOCH}
use Rattle.smc_rules.specs.EpochRule.{first_load, own_epoch, advance_from}
use Rattle.smc_rules.specs.Reads.{announced_by}
use Rattle.smc_rules.specs.State.{State}

-- what the section word says of a section: the first epoch from its first store to its second, then the section's own
abbrev pub word_of_section : Section → ℕ
word_of_section Outside = 0
word_of_section (Loaded seen) = 0
word_of_section (Announced seen) = seen
word_of_section (Again seen epoch) = seen
word_of_section (Lasting epoch) = epoch
word_of_section (Inside epoch calm) = epoch

-- the words agree with the local states, as far as epochs go
pub record EpochAgreement (shape : Layout) (state : State) : Type 0 where
  -- the section word of a pass says what its section says
  pub own_word : (pass : ℕ) → pass < shape.passes → announced_by state.memory pass ≡ word_of_section (state.stands pass).section
  -- no section has an epoch below the first, and so no word that is announced is 0
  pub least_load : (pass seen : ℕ) → pass < shape.passes → first_load (state.stands pass).section ≡ Some seen → FIRST_EPOCH ≤ seen
  pub least_own : (pass own : ℕ) → pass < shape.passes → own_epoch (state.stands pass).section ≡ Some own → FIRST_EPOCH ≤ own
  -- no advance means to move on from the last epoch
  pub low_advance : (pass from : ℕ) → pass < shape.passes → advance_from (state.stands pass).phase ≡ Some from → from < LAST_EPOCH
  -- the pass whose section word an advance loads next is one of the region's
  pub next_pass : (pass from other : ℕ) → pass < shape.passes → (state.stands pass).phase ≡ phase.Advancing from other → other < shape.passes
