-- What a machine that runs shows, and what a step of it tells.
use Rattle.std.specs.Prelude.{◌≡◌, ℕ, Some, List, length, slice_get}
use Rattle.smc_shape.specs.Layout.{Layout}
use Rattle.smc_core.specs.declared.local.Local.{Local}
use Rattle.smc_core.specs.Local.{logged, answered}
use Rattle.smc_core.specs.Machine.{Machine}
use Rattle.smc_automaton.specs.Fits.{FitsStand}
use Rattle.smc_machine.specs.declared.step.Step.{Step}

-- the shape of the region, and the machine of the definitions
pub record Running : Type 0 where
  pub shape : Layout
  pub machine : Machine

-- the machine of this shape with these numbers and these passes
abbrev pub running : Layout → List ℕ → List Local → Running
running shape row locals = record { shape = shape; machine = record { row = row; locals = locals } }

-- each pass of the shape is there, and keeps its ranges
pub record IsRunning (shape : Layout) (locals : List Local) : Type 0 where
  pub here : length locals ≡ shape.passes
  pub fits : (pass : ℕ) (l : Local) → slice_get locals pass ≡ Some l → FitsStand shape l.stand

-- the log of a pass and its answers have grown by what the step tells
pub record Tells (old new : Local) (step : Step) : Type 0 where
  pub log : new.log ≡ logged old.log step.event
  pub answers : new.answers ≡ answered old.answers (length new.log) step.done
