use Rattle.std.proofs.Common.{◌≡◌, ℤ, to_z, of_z, ◌∙◌, rules}
use Rattle.std.specs.Int.{w64}
use Rattle.smc_filter.proofs.WordLaws.{compares-brought}
use Rattle.smc_filter.proofs.word.brought.Goals as goal

pub returns-then-scale-larger : goal.returns-then-scale-larger
returns-then-scale-larger c =
    let units : ℤ = c.args.units in
    let factor : ℤ = c.ten_to.result in
    let units_is : to_z w64 (of_z w64 units) ≡ units = search rules in
    let factor_is : to_z w64 (of_z w64 factor) ≡ factor = search rules in
    compares-brought units (to_z w64 (of_z w64 units)) (to_z w64 (of_z w64 factor)) c.args.scale c.args.larger c.checked_mul.result c.if-scale-larger.true
    units_is (factor_is ∙ c.ten_to.ensures) c.checked_mul.ensures
