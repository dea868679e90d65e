use Rattle.std.proofs.Common.{rules, ◌≡◌, ap, ◌∙◌}
use Rattle.smc_model.specs.World.{new_object}
use Rattle.smc_model.proofs.tree.put_new.Goals as goal

pub returns-in_ok-words-in-Vacant-clause-done : goal.returns-in_ok-words-in-Vacant-clause-done
returns-in_ok-words-in-Vacant-clause-done c _ other =
    let put : c.insert.result.now ≡ new_object c.args.number.coll c.args.words.now =
    c.insert.ensures.value ∙ ap (new_object c.args.number.coll) (c.in_ok-words-in-Vacant.ensures.done ∙ c.words.ensures) in
    let sets = (rw c.in-Vacant.is at c.in_ok-objects.ensures.update).0 (new_object c.args.number.coll c.args.words.now) in
    search (rules, sets.0 other, put)
