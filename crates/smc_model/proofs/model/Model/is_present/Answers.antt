use Rattle.std.proofs.Common.{◌≡◌, false, Some, None, sym, ap, ◌∙◌}
use Rattle.std.specs.Option.{option_map_or}
use Rattle.smc_model.specs.World.{object_of}
use Rattle.smc_model.proofs.TreeLaws.{object_of-tree}
use Rattle.smc_model.proofs.model.Model.is_present.Goals as goal

pub returns-in-Some : goal.returns-in-Some
returns-in-Some c =
    let found : Some c.in-Some.object.now ≡ object_of c.args.self.now c.args.number =
    rw c.in-Some.is at c.get.ensures.value ∙ sym (object_of-tree c.self.inside.objects c.args.number) ∙ ap (λ world. object_of world c.args.number) c.self.view_is in
    ap (λ o. option_map_or (λ object. object.present) o false) found

pub returns-in-None : goal.returns-in-None
returns-in-None c =
    let found : None ≡ object_of c.args.self.now c.args.number =
    rw c.in-None.is at c.get.ensures.value ∙ sym (object_of-tree c.self.inside.objects c.args.number) ∙ ap (λ world. object_of world c.args.number) c.self.view_is in
    ap (λ o. option_map_or (λ object. object.present) o false) found
