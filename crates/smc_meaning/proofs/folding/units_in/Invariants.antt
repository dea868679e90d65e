use Rattle.std.proofs.Common.{◌≡◌, All, map, take}
use Rattle.smc_folds.specs.Takings.{IsNumber}
use Rattle.smc_plan.specs.Typed.{typed_tree}
use Rattle.smc_meaning.specs.Groups.{units_of, values_of}
use Rattle.smc_meaning.proofs.folding.units_in.Given as goal

-- the units so far
abbrev pub invariant-loop-place : goal.invariant-loop-place
invariant-loop-place l = record {
  units : l.units.items ≡ map units_of (values_of l.leaves (typed_tree l.of) (take l.place l.rows.rows));
  small : All IsNumber l.units.items;
}
