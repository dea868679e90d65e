-- Places that are the same, and places that a region has.
use Rattle.std.proofs.Common.{◌≡◌, true, arith}
use Rattle.std.proofs.lemmas.Bool.Decides.{nat_tests}
use Rattle.smc_shape.specs.Layout.{Layout}
use Rattle.smc_shape.specs.Places.{InRange}
use Rattle.smc_shape.specs.declared.place.Place.{Place}
use Rattle.smc_shape.specs.declared.place.Place.TheVariants as place
use Rattle.smc_core.specs.Row.{has_place}
use Rattle.smc_rules.specs.Memory.{same_place}

-- a place is the same as itself
pub same_place-refl : (p : Place) → same_place p p ≡ true
same_place-refl p = grind (arith, nat_tests)

-- places that are the same are one
pub same_place-eq : (p q : Place) → same_place p q ≡ true → p ≡ q
same_place-eq p q t = grind (arith, nat_tests)

-- a place of the region is one that the region has
pub in_range-has : (shape : Layout) (p : Place) → InRange shape p → has_place shape p ≡ true
in_range-has shape p r = grind (arith, nat_tests)

-- a place that the region has is one of it
pub has-in_range : (shape : Layout) (p : Place) → has_place shape p ≡ true → InRange shape p
has-in_range shape place.Epoch t = tt
has-in_range shape place.Round t = tt
has-in_range shape (place.Section pass) t = grind (arith, nat_tests)
has-in_range shape (place.Entry coll entry) t = grind (arith, nat_tests)
has-in_range shape (place.Directory coll slot) t = grind (arith, nat_tests)
has-in_range shape (place.Back coll slot) t = grind (arith, nat_tests)
has-in_range shape (place.Forward coll slot) t = grind (arith, nat_tests)
has-in_range shape (place.Field coll slot field) t = grind (arith, nat_tests)
