-- What each step keeps, and what it comes to.
use Rattle.std.specs.Prelude.{◌≡◌, ℕ, Some, slice_get}
use Rattle.smc_shape.specs.Layout.{Layout, IsShape}
use Rattle.smc_core.specs.declared.call.Choice.{Choice}
use Rattle.smc_core.specs.declared.local.Local.{Local}
use Rattle.smc_core.specs.declared.local.Opening.{Opening}
use Rattle.smc_core.specs.declared.op.Offer.{Offer}
use Rattle.smc_core.specs.Machine.{Machine, local_offer}
use Rattle.smc_model.specs.World.{World}
use Rattle.smc_rules.specs.History.{History}
use Rattle.smc_core.specs.Row.{OpFits}
use Rattle.smc_rules.specs.Mirror.{anywhere}
use Rattle.smc_rules.specs.State.{State, IsKept}
use Rattle.smc_inv_range.specs.Calls.{Ranges}

-- each step of each kind is on a word of the region, and keeps the ranges
abbrev pub RangesAreKept : Type 0
RangesAreKept = (shape : Layout) → IsShape shape → IsKept shape anywhere (Ranges shape)

-- what a pass offers behind a history fits the row
abbrev pub OffersFit : Type 0
OffersFit = (shape : Layout) (opening : Opening) (first : World) (m : Machine) (pass : ℕ) (l : Local) (choice : Choice) (offered : Offer)
    → IsShape shape → History shape opening first m
    → slice_get m.locals pass ≡ Some l → local_offer shape pass l choice ≡ Some offered → OpFits shape offered.op

-- the ranges do not speak of the opening
abbrev pub InRanges : Layout → Opening → State → Type 0
InRanges shape opening s = Ranges shape s
