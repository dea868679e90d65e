use Rattle.std.proofs.Common.{◌≡◌, ◌≤◌, ◌+◌, ◌++◌, ℕ, List, length, ap, refl, sym, subst, ◌∙◌, arith}
use Rattle.std.specs.List.{AllByRecursion}
use Rattle.smc_plan.specs.Kinds.{IsOutput}
use Rattle.smc_plan.specs.Leaves.{leaves_words}
use Rattle.smc_plan.specs.Outputs.{OutputTree}
use Rattle.smc_plan.specs.Planned.{output_trees, plan_tree}
use Rattle.smc_plan.specs.declared.leaf.Leaf.{Leaf}
use Rattle.smc_meaning.specs.Kept.{is_kept, kept_rows}
use Rattle.smc_kernel.specs.Batches.{row_at, rows_at}
use Rattle.smc_kernel.specs.Taken.{FitsTotal}
use Rattle.smc_kernel.proofs.KeptLaws.{are-places, kept-both, places-few, rows_at-kept}
use Rattle.smc_kernel.proofs.PickLaws.{length-rows_at}
use Rattle.smc_kernel.proofs.TotalLaws.{totals-same}
use Rattle.smc_kernel.proofs.kernel.take_batch.Goals as goal

pub take_all-requires-clause-places : goal.take_all-requires-clause-places
take_all-requires-clause-places c =
    are-places (λ place. is_kept (plan_tree c.args.plan.now) (row_at c.args.batch.now.rows place)) c.args.batch.now.rows c.as_slice-places.result.now
    (c.as_slice-places.ensures.places ∙ c.kept_places-chosen.ensures.places) (subst (λ (xs : List ℕ). length xs ≤ 64) (sym c.as_slice-places.ensures.places) c.as_slice-places.ensures.few)

pub take_all-requires-clause-items : goal.take_all-requires-clause-items
take_all-requires-clause-items c =
    subst (λ (leaves : List Leaf). AllByRecursion (IsOutput leaves) (output_trees c.as_slice.result.now)) (sym c.leaves.ensures)
    (subst (λ (items : List OutputTree). AllByRecursion (IsOutput c.args.plan.now.leaves) items) (ap output_trees (sym c.as_slice.ensures)) c.requires.sound.items)

pub returns-clause-taken : goal.returns-clause-taken
returns-clause-taken c = λ rows counted all.
    let plan = c.args.plan.now in
    let tree = plan_tree plan in
    let kept = kept_rows tree rows in
    let batch = c.args.batch.now.rows in
    let places = c.as_slice-places.result.now in
    let both : kept ++ rows_at batch places ≡ kept_rows tree (rows ++ batch) =
    ap (λ (more : List (List ℕ)). kept ++ more) (rows_at-kept (is_kept tree) batch places (c.as_slice-places.ensures.places ∙ c.kept_places-chosen.ensures.places)) ∙ sym (kept-both tree rows batch) in
    let here = totals-same plan.leaves c.leaves.result.now (output_trees plan.items) (output_trees c.as_slice.result.now) c.args.totals.now c.args.totals.now kept kept
    (sym c.leaves.ensures) (ap output_trees (sym c.as_slice.ensures)) refl refl all in
    totals-same c.leaves.result.now plan.leaves (output_trees c.as_slice.result.now) (output_trees plan.items) c.take_all.new.totals c.take_all.new.totals (kept ++ rows_at batch places)
    (kept_rows tree (rows ++ batch)) c.leaves.ensures (ap output_trees c.as_slice.ensures) refl both (c.take_all.ensures.taken kept counted here)

pub returns-clause-count : goal.returns-clause-count
returns-clause-count c =
    let batch = c.args.batch.now.rows in
    let places = c.as_slice-places.result.now in
    sym (length-rows_at batch places)
    ∙ ap (λ (rows : List (List ℕ)). length rows) (rows_at-kept (is_kept (plan_tree c.args.plan.now)) batch places (c.as_slice-places.ensures.places ∙ c.kept_places-chosen.ensures.places))

pub returns-clause-few : goal.returns-clause-few
returns-clause-few c =
    places-few (λ place. is_kept (plan_tree c.args.plan.now) (row_at c.args.batch.now.rows place)) c.args.batch.now.rows c.as_slice-places.result.now
    (c.as_slice-places.ensures.places ∙ c.kept_places-chosen.ensures.places)
