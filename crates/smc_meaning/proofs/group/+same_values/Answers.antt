use Rattle.std.proofs.Common.{arith}
use Rattle.smc_meaning.proofs.GroupLaws.{first_leaf, later_leaves}
use Rattle.smc_meaning.proofs.group.+same_values.Goals as goal

pub compare_rows-requires-clause-typed : goal.compare_rows-requires-clause-typed
compare_rows-requires-clause-typed t c =
    let parts = c.in-Some.ensures.cases in
    first_leaf c.args.leaves.now c.args.places.now c.in-Some.place.now c.in-Some.rest.now parts.0 c.requires.places

pub same_values-requires : goal.same_values-requires
same_values-requires t c =
    let parts = c.in-Some.ensures.cases in (
      omega (arith, parts.1),
      (c.requires.one, (c.requires.other, later_leaves c.args.leaves.now c.args.places.now c.in-Some.place.now c.in-Some.rest.now parts.0 c.requires.places)),
    )
