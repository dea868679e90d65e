use Rattle.std.proofs.Common.{ap, ◌∙◌, arith}
use Rattle.std.specs.List.{range_with_len}
use Rattle.std.proofs.lemmas.Grind.{common_steps}
use Rattle.std.proofs.lemmas.List.FromFn.{length-range_with_len}
use Rattle.smc_plan.specs.Planned.{plan_tree}
use Rattle.smc_meaning.specs.Kept.{is_kept}
use Rattle.smc_kernel.specs.Batches.{row_at}
use Rattle.smc_kernel.proofs.PickLaws.{kept-few, kept-more}
use Rattle.smc_kernel.proofs.filter.kept_places.Goals as goal

pub offer-requires : goal.offer-requires
offer-requires c =
    grind (
      arith,
      c.loop-place.invariant.chosen,
      c.loop-place-test.true,
      c.rows-place-end.ensures.few,
      length-range_with_len 0 c.loop-place.place,
      kept-few (λ place. is_kept (plan_tree c.args.plan.now) (row_at c.args.batch.now.rows place)) (range_with_len 0 c.loop-place.place),
    )

pub loop-place-preserved : goal.loop-place-preserved
loop-place-preserved c =
    record {
      chosen = kept-more (λ place. is_kept (plan_tree c.args.plan.now) (row_at c.args.batch.now.rows place)) c.loop-place.chosen c.offer.new.self c.loop-place.place c.kept.result
          c.loop-place.invariant.chosen (c.kept.ensures ∙ ap (is_kept (plan_tree c.args.plan.now)) c.read_row.ensures.row) c.offer.ensures;
      row = c.read_row.ensures.long ∙ c.loop-place.invariant.row;
    }
