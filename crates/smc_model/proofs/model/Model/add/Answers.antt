use Rattle.std.proofs.Common.{rules, ◌≡◌, None, is_some, ap, sym, ◌∙◌}
use Rattle.std.specs.FinMap.{insert}
use Rattle.std.proofs.lemmas.Result.{on_err_weaker}
use Rattle.smc_model.specs.World.{new_object, object_of}
use Rattle.smc_model.specs.Tree.{world_of}
use Rattle.smc_model.proofs.TreeLaws.{object_of-tree, world_of-set}
use Rattle.smc_model.proofs.model.Model.add.Goals as goal

pub returns-clause-done : goal.returns-clause-done
returns-clause-done c fits =
    let same : c.args.number.coll ≡ c.args.coll = search rules in
    let tree = c.self.inside.objects in
    let absent : object_of c.args.self.now c.args.number ≡ None =
    ap (λ world. object_of world c.args.number) (sym c.self.view_is) ∙ object_of-tree tree c.args.number ∙ c.put_new.ensures.absent fits in (
      (absent, same),
      world_of-set tree c.put_new.new.objects c.args.number _ (c.put_new.ensures.done fits)
          ∙ ap (λ coll. insert (world_of tree) c.args.number (new_object coll c.args.words.now)) same
          ∙ ap (λ world. insert world c.args.number (new_object c.args.coll c.args.words.now)) c.self.view_is,
    )

pub returns-clause-allowed : goal.returns-clause-allowed
returns-clause-allowed c =
    let same : c.args.number.coll ≡ c.args.coll = search rules in
    on_err_weaker c.put_new.result (λ absent.
    (ap (λ world. object_of world c.args.number) (sym c.self.view_is) ∙ object_of-tree c.self.inside.objects c.args.number ∙ absent, same)) c.put_new.ensures.absent_at_err

pub returns-clause-cause : goal.returns-clause-cause
returns-clause-cause c unfit allowed =
    let none = sym (object_of-tree c.self.inside.objects c.args.number) ∙ ap (λ world. object_of world c.args.number) c.self.view_is ∙ allowed.0 in
    let here = c.put_new.ensures.cause unfit in
    let both = ap is_some none in
    cc
