-- The fields of an object that is held, as they lie in the row of the region.
use Rattle.std.specs.Prelude.{◌≡◌, ℕ, ◌+◌, ◌*◌, ◌<◌}
use Rattle.smc_shape.specs.declared.coll.TheConstants.{BLOCK_SLOTS}
use Rattle.smc_shape.specs.declared.place.Place.TheVariants as place
use Rattle.smc_shape.specs.declared.shape.TheConstants.{MAX_WORDS}
use Rattle.smc_shape.specs.Layout.{Layout, width_of}
use Rattle.smc_shape.specs.Places.{at}
use Rattle.smc_objects.specs.declared.field.HeldFields.{HeldFields}

-- in a region of this shape the object has so many fields, the first of them there, and each within the row
pub record AreFieldsOf (shape : Layout) (fields : HeldFields) : Type 0 where
  pub first : fields.first ≡ at shape (place.Field fields.held.number.coll fields.held.place 0)
  pub within : (f : ℕ) → f < fields.width → fields.first + f * BLOCK_SLOTS < MAX_WORDS
  pub width : fields.width ≡ width_of shape fields.held.number.coll
