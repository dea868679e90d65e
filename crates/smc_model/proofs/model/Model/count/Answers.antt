use Rattle.std.proofs.Common.{length, arith, ap, sym, ◌∙◌, zero-add}
use Rattle.std.specs.Prelude.{filter}
use Rattle.smc_words.proofs.NumberLaws.{numbers_total}
use Rattle.smc_model.specs.World.{count_of, is_present_in}
use Rattle.smc_model.proofs.MapLaws.{values-from_entries}
use Rattle.smc_model.proofs.model.Model.count.Goals as goal

pub loop-object-init : goal.loop-object-init
loop-object-init c =
    let objects = c.into_iter-object-iterator.ensures.into_iter_gives ∙ c.values-object-items.ensures.rest
    ∙ sym (values-from_entries numbers_total c.self.inside.objects.entries c.values-object-items.ensures.ordered) in
    record {
      so_far = zero-add _ ∙ ap (λ os. length (filter (is_present_in c.args.coll) os)) objects ∙ ap (λ world. count_of world c.args.coll) c.self.view_is;
      few = omega (arith, ap length c.into_iter-object-iterator.ensures.into_iter_gives, c.values-object-items.ensures.len, c.values-object-items.ensures.fits);
    }
