use Rattle.std.proofs.Common.{◌≡◌, ◌∷◌, ◌++◌, [], List, true, length, length-append, ap, sym, subst, arith}
use Rattle.std.specs.List.{AllByRecursion}
use Rattle.std.proofs.lemmas.List.Elements.{All-from_recursion}
use Rattle.smc_plan.specs.Outputs.{OutputTree, output_tree}
use Rattle.smc_plan.specs.Planned.{output_trees}
use Rattle.smc_kernel.specs.Plain.{is_plain}
use Rattle.smc_kernel.specs.Taken.{FitsTotal}
use Rattle.smc_kernel.specs.declared.total.Total.{Total}
use Rattle.smc_kernel.proofs.TotalLaws.{all-more, none-next, seen-all}
use Rattle.smc_kernel.proofs.kernel.totals_of_none.Goals as goal

pub loop-item-preserved : goal.loop-item-preserved
loop-item-preserved c =
    let plain : OutputTree → Type 0 = λ item. is_plain item ≡ true in
    let here = seen-all plain output_tree c.args.items.now c.loop-item._item-index c._item-item.result c.loop-item-test.true c._item-item.is
    (All-from_recursion plain (output_trees c.args.items.now) c.requires.plain) in
    let made : c.push.new.self.items ≡ c.loop-item.totals.items ++ c.in_ok-new.field-0 ∷ [] = c.in_ok-push.ensures.items in
    record {
      none = λ leaves. none-next leaves c.args.items.now c.loop-item._item-index c._item-item.result c.loop-item.totals.items c.in_ok-new.field-0 c.push.new.self.items
          c.loop-item-test.true c._item-item.is made (c.loop-item.invariant.none leaves) (c.in_ok-new.ensures.none leaves (output_tree c._item-item.result) here);
      fit = subst (λ (totals : List Total). AllByRecursion (FitsTotal c.args.words 0) totals) (sym made)
          (all-more (FitsTotal c.args.words 0) c.loop-item.totals.items c.in_ok-new.field-0 c.loop-item.invariant.fit c.in_ok-new.ensures.fits);
      many = omega (arith, ap (λ (totals : List Total). length totals) made, length-append c.loop-item.totals.items (c.in_ok-new.field-0 ∷ []), c.loop-item.invariant.many);
    }
