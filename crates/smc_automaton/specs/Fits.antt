-- The ranges that a pass keeps, so that no sum of a step passes its type.
use Rattle.std.specs.Prelude.{◌<◌, ◌≤◌, Option, Some, None, List}
use Rattle.std.specs.List.{All}
use Rattle.smc_words.specs.declared.layout.TheConstants.{EPOCHS}
use Rattle.smc_shape.specs.Layout.{Layout}
use Rattle.smc_core.specs.declared.local.Held.{Held}
use Rattle.smc_core.specs.declared.local.Owned.{Owned}
use Rattle.smc_core.specs.declared.local.Stand.{Stand}
use Rattle.smc_core.specs.declared.section.Section.{Section}
use Rattle.smc_core.specs.declared.section.Section.TheVariants.{Outside, Loaded, Announced, Again, Lasting, Inside}
use Rattle.smc_core.specs.declared.section.TheConstants.{LAST_EPOCH}
use Rattle.smc_automaton.specs.FitsPhase.{HasIncarnation, FitsPhase}

-- no epoch that a section has seen is above the last one
abbrev pub FitsSection : Section → Type 0
FitsSection Outside = Unit {0}
FitsSection (Loaded seen) = seen ≤ LAST_EPOCH
FitsSection (Announced seen) = seen ≤ LAST_EPOCH
FitsSection (Again seen epoch) = (seen ≤ LAST_EPOCH) × (epoch ≤ LAST_EPOCH)
FitsSection (Lasting epoch) = epoch ≤ LAST_EPOCH
FitsSection (Inside epoch calm) = epoch ≤ LAST_EPOCH

-- the entry of each object that a section holds has had its incarnation
abbrev pub FitHeld : List Held → Type 0
FitHeld held = All (λ pair. HasIncarnation pair.number) held

-- the bound of a round that a pass owns fits the round word
abbrev pub FitsOwned : Option Owned → Type 0
FitsOwned None = Unit {0}
FitsOwned (Some owned) = owned.bound < EPOCHS

-- where a pass stands, each part keeps its range
pub record FitsStand (shape : Layout) (stand : Stand) : Type 0 where
  pub section : FitsSection stand.section
  pub phase : FitsPhase shape stand.words stand.phase
  pub held : FitHeld stand.held
  pub round : FitsOwned stand.round
