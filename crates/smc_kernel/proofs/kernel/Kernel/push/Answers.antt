use Rattle.std.proofs.Common.{◌≡◌, ◌++◌, List, ℕ, length, length-append, ap, refl, sym, ◌∙◌, arith}
use Rattle.std.specs.Vec.{with_items}
use Rattle.std.proofs.lemmas.List.{with_items_is}
use Rattle.smc_plan.specs.Planned.{output_trees, plan_tree}
use Rattle.smc_meaning.specs.Kept.{kept_rows}
use Rattle.smc_kernel.proofs.KeptLaws.{kept-both}
use Rattle.smc_kernel.proofs.TotalLaws.{totals-same}
use Rattle.smc_kernel.proofs.kernel.Kernel.push.Goals as goal

pub returns-clause-taken : goal.returns-clause-taken
returns-clause-taken c = λ rows so.
    let plan = c.args.plan.now in
    let tree = plan_tree plan in
    let batch = c.args.batch.now.rows in
    let all = output_trees plan.items in
    let totals_are : (with_items c.args.self.now.totals c.take_batch.new.totals).items ≡ c.take_batch.new.totals =
    with_items_is c.args.self.now.totals c.take_batch.new.totals (c.take_batch.ensures.many ∙ c.deref_mut.ensures.len) in
    let here = totals-same plan.leaves plan.leaves all all c.args.self.now.totals.items c.deref_mut.result.now (kept_rows tree rows) (kept_rows tree rows) refl refl
    (sym c.deref_mut.ensures.value) refl so.totals in
    record {
      kept = omega (arith, so.kept, c.take_batch.ensures.count, ap (λ (kept : List (List ℕ)). length kept) (kept-both tree rows batch), length-append (kept_rows tree rows) (kept_rows tree batch));
      totals = totals-same plan.leaves plan.leaves all all c.take_batch.new.totals (with_items c.args.self.now.totals c.take_batch.new.totals).items (kept_rows tree (rows ++ batch))
          (kept_rows tree (rows ++ batch)) refl refl (sym totals_are) refl (c.take_batch.ensures.taken rows so.kept here);
    }
