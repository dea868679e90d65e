use Rattle.std.proofs.Common.{ap, arith}
use Rattle.std.proofs.lemmas.Int.{ints}
use Rattle.smc_plan.specs.Typed.{typed_tree}
use Rattle.smc_plan.specs.declared.typed.Typed.{Typed}
use Rattle.smc_meaning.proofs.OperandLaws.{day_left, day_right, earlier_small, later_small}
use Rattle.smc_meaning.proofs.TreeSizes.{parts_of}
use Rattle.smc_meaning.proofs.value.+day_at.Goals as goal

-- ---- a sum

pub day_at-from-requires : goal.day_at-from-requires
day_at-from-requires t c =
    let kind = rw c.in-Add.is at c.requires.day.kind_is in
    let parts = ap (λ (e : Typed). parts_of (typed_tree e)) c.in-Add.is in
    let day = day_left c.args.leaves.now (typed_tree c.in-Add.left.value) (typed_tree c.in-Add.right.value) c.requires.day.bound kind in
    (rw c.deref.ensures (omega (arith, parts)), (c.requires.words, rw c.deref.ensures day))

pub number_at-days-requires-clause-number : goal.number_at-days-requires-clause-number
number_at-days-requires-clause-number t c =
    let kind = rw c.in-Add.is at c.requires.day.kind_is in
    let number = day_right c.args.leaves.now (typed_tree c.in-Add.left.value) (typed_tree c.in-Add.right.value) c.requires.day.bound kind in
    rw c.deref-in-Add.ensures number

pub returns-in-Add-clause-small : goal.returns-in-Add-clause-small
returns-in-Add-clause-small t c =
    let kind = rw c.in-Add.is at c.requires.day.kind_is in
    let from = rw c.deref.ensures at c.day_at-from.ensures.value in
    let days = rw c.deref-in-Add.ensures at c.number_at-days.ensures.value in
    let small = later_small c.args.leaves.now (typed_tree c.in-Add.left.value) (typed_tree c.in-Add.right.value) c.args.row.now c.requires.day.bound c.day_at-from.result c.number_at-days.result kind from days in
    omega (arith, ints)

-- ---- a difference

pub day_at-from-requires-in-Sub : goal.day_at-from-requires-in-Sub
day_at-from-requires-in-Sub t c =
    let kind = rw c.in-Sub.is at c.requires.day.kind_is in
    let parts = ap (λ (e : Typed). parts_of (typed_tree e)) c.in-Sub.is in
    let day = day_left c.args.leaves.now (typed_tree c.in-Sub.left.value) (typed_tree c.in-Sub.right.value) c.requires.day.bound kind in
    (rw c.deref-in-Sub.ensures (omega (arith, parts)), (c.requires.words, rw c.deref-in-Sub.ensures day))

pub number_at-days-requires-in-Sub-clause-number : goal.number_at-days-requires-in-Sub-clause-number
number_at-days-requires-in-Sub-clause-number t c =
    let kind = rw c.in-Sub.is at c.requires.day.kind_is in
    let number = day_right c.args.leaves.now (typed_tree c.in-Sub.left.value) (typed_tree c.in-Sub.right.value) c.requires.day.bound kind in
    rw c.deref-in-Sub-2.ensures number

pub returns-in-Sub-clause-small : goal.returns-in-Sub-clause-small
returns-in-Sub-clause-small t c =
    let kind = rw c.in-Sub.is at c.requires.day.kind_is in
    let from = rw c.deref-in-Sub.ensures at c.day_at-from-in-Sub.ensures.value in
    let days = rw c.deref-in-Sub-2.ensures at c.number_at-days-in-Sub.ensures.value in
    let small = earlier_small c.args.leaves.now (typed_tree c.in-Sub.left.value) (typed_tree c.in-Sub.right.value) c.args.row.now c.requires.day.bound c.day_at-from-in-Sub.result c.number_at-days-in-Sub.result kind from days in
    omega (arith, ints)
