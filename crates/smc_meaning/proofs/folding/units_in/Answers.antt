use Rattle.std.proofs.Common.{◌≡◌, [], ◌∷◌, ◌++◌, to_z, of_z, ap, ◌∙◌, arith}
use Rattle.std.specs.Int.{w128}
use Rattle.std.proofs.lemmas.Int.{ints}
use Rattle.smc_plan.specs.Typed.{typed_tree}
use Rattle.smc_meaning.proofs.SumLaws.{few-more, units-next}
use Rattle.smc_meaning.proofs.folding.units_in.Goals as goal

pub loop-place-preserved : goal.loop-place-preserved
loop-place-preserved c =
    let units = c.number_at-number.result.units in
    let same : to_z w128 (of_z w128 c.number_at-number.result.units) ≡ c.number_at-number.result.units = omega (arith, ints, c.number_at-number.ensures.small) in
    let grown : c.push.new.self.items ≡ c.loop-place.units.items ++ c.number_at-number.result.units ∷ [] =
    c.in_ok-push.ensures.items ∙ ap (λ u. c.loop-place.units.items ++ u ∷ []) same in
    record {
      units = units-next c.args.leaves.now (typed_tree c.args.of.now) c.args.rows.now.rows c.loop-place.place c.get.result.now c.loop-place.units.items c.push.new.self.items
          c.number_at-number.result c.get.ensures.row c.loop-place.invariant.units c.number_at-number.ensures.value grown;
      small = few-more c.loop-place.units.items c.push.new.self.items units c.loop-place.invariant.small c.number_at-number.ensures.small grown;
    }
