-- What a region comes to when it is closed.
use Rattle.std.specs.Prelude.{◌≡◌, ℕ, Some, List, [], ◌∷◌, length, slice_get}
use Rattle.smc_shape.specs.Layout.{Layout}
use Rattle.smc_core.specs.declared.local.Local.{Local}
use Rattle.smc_core.specs.declared.local.Opening.{Opening}
use Rattle.smc_region.specs.declared.region.Region.{Region}
use Rattle.smc_region.specs.Callers.{Caller, IsPassOf}

-- a region that is closed: its words, and what each of its passes knows
pub record Ended : Type 0 where
  pub shape : Layout
  pub opening : Opening
  pub words : List ℕ
  pub locals : List Local

-- the local states of these passes
abbrev pub locals_of : List Caller → List Local
locals_of [] = []
locals_of (pass ∷ later) = pass.local ∷ locals_of later

-- the local states that a view has
abbrev pub states_of : List (ℕ × Local) → List Local
states_of [] = []
states_of (x ∷ later) = x.1 ∷ states_of later

-- these are all passes of the region, in order
abbrev pub AreAll : Region → List Caller → Type 0
AreAll region passes = (length passes ≡ region.about.shape.passes) × ((k : ℕ) (pass : Caller) → slice_get passes k ≡ Some pass → IsPassOf region pass × (pass.number ≡ k))
