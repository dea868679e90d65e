-- What the round word and the local states say alike, and what else is needed to keep what the relocation rule says of them.
--
-- Nobody has to believe these: they are here because the rule does not follow from itself alone.
use Rattle.std.specs.Prelude.{◌≡◌, ℕ, ◌<◌, Bool, true, false, IsTrue, IsSome, None}
use Rattle.smc_shape.specs.Layout.{Layout}
use Rattle.smc_shape.specs.declared.place.Place.TheVariants as place
use Rattle.smc_core.specs.declared.phase.Phase.{Phase}
use Rattle.smc_core.specs.declared.phase.Phase.TheVariants as phase
use Rattle.smc_core.specs.declared.word.Word.TheVariants as word
use Rattle.smc_rules.specs.Reads.{round_in}
use Rattle.smc_rules.specs.State.{State}

-- whether only the owner of a round makes this call, once it goes on
abbrev pub is_owners : Phase → Bool
is_owners (phase.Begin next) = true
is_owners (phase.Finish next) = true
is_owners (phase.Cancel next) = true
is_owners _ = false

-- the round word agrees with the local states
pub record RoundAgreement (shape : Layout) (state : State) : Type 0 where
  -- it is a round word
  pub is_round : state.memory place.Round ≡ word.Round (round_in state.memory)
  -- where it tells of no round no pass owns one
  pub none_owned : (pass : ℕ) → pass < shape.passes → round_in state.memory ≡ None → (state.stands pass).round ≡ None
  -- a begin, a finish or a cancel that goes on is its owner's
  pub owners : (pass : ℕ) → pass < shape.passes → IsTrue (is_owners (state.stands pass).phase) → IsSome (state.stands pass).round
