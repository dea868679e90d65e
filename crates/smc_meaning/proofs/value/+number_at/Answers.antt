use Rattle.std.proofs.Common.{ap, arith}
use Rattle.smc_plan.specs.Typed.{typed_tree}
use Rattle.smc_plan.specs.declared.typed.Typed.{Typed}
use Rattle.smc_plan.specs.declared.kind.Kind.TheVariants.{Number}
use Rattle.smc_meaning.proofs.OperandLaws.{can_add, can_multiply, minus_of, number_small, product_left, product_right, sum_left, sum_right}
use Rattle.smc_meaning.proofs.TreeSizes.{parts_of}
use Rattle.smc_meaning.proofs.value.+number_at.Goals as goal

-- ---- a sum

pub number_at-left-requires : goal.number_at-left-requires
number_at-left-requires t c =
    let kind = rw c.in-Add.is at c.requires.number.kind_is in
    let parts = ap (λ (e : Typed). parts_of (typed_tree e)) c.in-Add.is in
    let number = sum_left c.args.leaves.now (typed_tree c.in-Add.left.value) (typed_tree c.in-Add.right.value) c.requires.number.extent kind in
    (rw c.deref.ensures (omega (arith, parts)), (c.requires.words, rw c.deref.ensures number))

pub number_at-right-requires : goal.number_at-right-requires
number_at-right-requires t c =
    let kind = rw c.in-Add.is at c.requires.number.kind_is in
    let parts = ap (λ (e : Typed). parts_of (typed_tree e)) c.in-Add.is in
    let number = sum_right c.args.leaves.now (typed_tree c.in-Add.left.value) (typed_tree c.in-Add.right.value) c.requires.number.extent kind in
    (rw c.deref-in-Add.ensures (omega (arith, parts)), (c.requires.words, rw c.deref-in-Add.ensures number))

pub plus-requires : goal.plus-requires
plus-requires t c =
    let kind = rw c.in-Add.is at c.requires.number.kind_is in
    let left = rw c.deref.ensures at c.number_at-left.ensures.value in
    let right = rw c.deref-in-Add.ensures at c.number_at-right.ensures.value in
    can_add c.args.leaves.now (typed_tree c.in-Add.left.value) (typed_tree c.in-Add.right.value) c.args.row.now c.requires.number.extent c.number_at-left.result c.number_at-right.result kind left right

-- ---- a difference

pub number_at-left-requires-in-Sub : goal.number_at-left-requires-in-Sub
number_at-left-requires-in-Sub t c =
    let kind = rw c.in-Sub.is at c.requires.number.kind_is in
    let parts = ap (λ (e : Typed). parts_of (typed_tree e)) c.in-Sub.is in
    let number = sum_left c.args.leaves.now (typed_tree c.in-Sub.left.value) (typed_tree c.in-Sub.right.value) c.requires.number.extent kind in
    (rw c.deref-in-Sub.ensures (omega (arith, parts)), (c.requires.words, rw c.deref-in-Sub.ensures number))

pub number_at-right-requires-in-Sub : goal.number_at-right-requires-in-Sub
number_at-right-requires-in-Sub t c =
    let kind = rw c.in-Sub.is at c.requires.number.kind_is in
    let parts = ap (λ (e : Typed). parts_of (typed_tree e)) c.in-Sub.is in
    let number = sum_right c.args.leaves.now (typed_tree c.in-Sub.left.value) (typed_tree c.in-Sub.right.value) c.requires.number.extent kind in
    (rw c.deref-in-Sub-2.ensures (omega (arith, parts)), (c.requires.words, rw c.deref-in-Sub-2.ensures number))

pub less-requires : goal.less-requires
less-requires t c =
    let kind = rw c.in-Sub.is at c.requires.number.kind_is in
    let left = rw c.deref-in-Sub.ensures at c.number_at-left-in-Sub.ensures.value in
    let right = rw c.deref-in-Sub-2.ensures at c.number_at-right-in-Sub.ensures.value in
    can_add c.args.leaves.now (typed_tree c.in-Sub.left.value) (typed_tree c.in-Sub.right.value) c.args.row.now c.requires.number.extent c.number_at-left-in-Sub.result c.number_at-right-in-Sub.result kind left right

-- ---- a product

pub number_at-left-requires-in-Mul : goal.number_at-left-requires-in-Mul
number_at-left-requires-in-Mul t c =
    let kind = rw c.in-Mul.is at c.requires.number.kind_is in
    let parts = ap (λ (e : Typed). parts_of (typed_tree e)) c.in-Mul.is in
    let number = product_left c.args.leaves.now (typed_tree c.in-Mul.left.value) (typed_tree c.in-Mul.right.value) (Number c.requires.number.extent) kind in
    (rw c.deref-in-Mul.ensures (omega (arith, parts)), (c.requires.words, rw c.deref-in-Mul.ensures number))

pub number_at-right-requires-in-Mul : goal.number_at-right-requires-in-Mul
number_at-right-requires-in-Mul t c =
    let kind = rw c.in-Mul.is at c.requires.number.kind_is in
    let parts = ap (λ (e : Typed). parts_of (typed_tree e)) c.in-Mul.is in
    let number = product_right c.args.leaves.now (typed_tree c.in-Mul.left.value) (typed_tree c.in-Mul.right.value) (Number c.requires.number.extent) kind in
    (rw c.deref-in-Mul-2.ensures (omega (arith, parts)), (c.requires.words, rw c.deref-in-Mul-2.ensures number))

pub times-requires : goal.times-requires
times-requires t c =
    let kind = rw c.in-Mul.is at c.requires.number.kind_is in
    let left = rw c.deref-in-Mul.ensures at c.number_at-left-in-Mul.ensures.value in
    let right = rw c.deref-in-Mul-2.ensures at c.number_at-right-in-Mul.ensures.value in
    can_multiply c.args.leaves.now (typed_tree c.in-Mul.left.value) (typed_tree c.in-Mul.right.value) c.args.row.now (Number c.requires.number.extent) c.number_at-left-in-Mul.result c.number_at-right-in-Mul.result kind left right

-- ---- a minus

pub number_at-requires : goal.number_at-requires
number_at-requires t c =
    let kind = rw c.in-Minus.is at c.requires.number.kind_is in
    let parts = ap (λ (e : Typed). parts_of (typed_tree e)) c.in-Minus.is in
    let number = minus_of c.args.leaves.now (typed_tree c.in-Minus.of.value) (Number c.requires.number.extent) kind in
    (rw c.deref-in-Minus.ensures (omega (arith, parts)), (c.requires.words, rw c.deref-in-Minus.ensures number))

pub negative-requires : goal.negative-requires
negative-requires t c =
    let kind = rw c.in-Minus.is at c.requires.number.kind_is in
    let number = minus_of c.args.leaves.now (typed_tree c.in-Minus.of.value) (Number c.requires.number.extent) kind in
    let value = rw c.deref-in-Minus.ensures at c.number_at.ensures.value in
    number_small c.args.leaves.now (typed_tree c.in-Minus.of.value) c.args.row.now c.number_at.result number value
