use Rattle.std.proofs.Common.{◌≡◌, ◌<◌, ℕ, ◌∷◌, cond, length, arith, ap, sym, ◌∙◌, zero-add}
use Rattle.std.specs.Prelude.{filter, sum_by, slice_index}
use Rattle.std.proofs.lemmas.List.Elements.{All-same, All-tail}
use Rattle.std.proofs.lemmas.List.Sums.{sum_by-cons}
use Rattle.std.proofs.lemmas.Map.Iter.{rest_more}
use Rattle.std.specs.Map.Iter.{deref}
use Rattle.smc_words.proofs.NumberLaws.{numbers_total}
use Rattle.smc_model.specs.declared.object.Object.{Object}
use Rattle.smc_model.specs.World.{present_in, is_present_in}
use Rattle.smc_model.proofs.MapLaws.{values-from_entries}
use Rattle.smc_model.proofs.model.Model.total.Goals as goal

pub loop-object-init : goal.loop-object-init
loop-object-init c =
    let objects = c.into_iter-object-iterator.ensures.into_iter_gives ∙ c.values-object-items.ensures.rest
    ∙ sym (values-from_entries numbers_total c.self.inside.objects.entries c.values-object-items.ensures.ordered) in
    let present = ap (filter (is_present_in c.args.coll)) objects ∙ ap (λ world. present_in world c.args.coll) c.self.view_is in
    record {
      so_far = zero-add _ ∙ ap (sum_by (λ object. slice_index object.words c.args.field)) present;
      long = All-same (λ (object : Object). c.args.field < length object.words) _ _ present c.requires;
      few = omega (arith, ap length c.into_iter-object-iterator.ensures.into_iter_gives, c.values-object-items.ensures.len, c.values-object-items.ensures.fits);
    }

pub loop-object-preserved-then-is_present_in : goal.loop-object-preserved-then-is_present_in
loop-object-preserved-then-is_present_in c =
    let object = c.in-Some.object.now in
    let word : Object → ℕ = λ o. slice_index o.words c.args.field in
    let left : c.loop-object.object-iterator ≡ object ∷ c.next.new.self = rest_more deref _ _ _ _ c.in-Some.is c.next.ensures.steps in
    let chosen : filter (is_present_in c.args.coll) c.loop-object.object-iterator ≡ object ∷ filter (is_present_in c.args.coll) c.next.new.self =
    ap (filter (is_present_in c.args.coll)) left
    ∙ ap (λ b. cond b (object ∷ filter (is_present_in c.args.coll) c.next.new.self) (filter (is_present_in c.args.coll) c.next.new.self)) (sym c.is_present_in.ensures ∙ c.if-is_present_in.true) in
    let one : c.from-total.result ≡ word object = c.from-total.ensures ∙ ap (λ words. slice_index words c.args.field) c.words.ensures in
    record {
      so_far = omega (arith, c.loop-object.invariant.so_far, ap (sum_by word) chosen, sum_by-cons word object (filter (is_present_in c.args.coll) c.next.new.self), one);
      long = All-tail (λ (o : Object). c.args.field < length o.words) object _ (All-same (λ (o : Object). c.args.field < length o.words) _ _ (sym chosen) c.loop-object.invariant.long);
      few = omega (arith, c.loop-object.invariant.few, ap length left);
    }
