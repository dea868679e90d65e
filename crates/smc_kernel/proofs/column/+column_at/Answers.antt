use Rattle.std.proofs.Common.{◌≡◌, ℤ, pos, length, replicate, to_z, of_z, ap, sym, ◌∙◌, rules}
use Rattle.std.specs.Int.{w32}
use Rattle.smc_plan.specs.Typed.{typed_tree}
use Rattle.smc_meaning.specs.Groups.{values_of}
use Rattle.smc_meaning.specs.Values.{day, less, number, plus, times}
use Rattle.smc_kernel.specs.Batches.{rows_at}
use Rattle.smc_kernel.specs.Columns.{pairs, values_in}
use Rattle.smc_kernel.specs.declared.column.Column.{Column}
use Rattle.smc_kernel.proofs.ColumnLaws.{difference-values, each-some, product-values, sum-values, values-day, values-number}
use Rattle.smc_kernel.proofs.PickLaws.{length-rows_at}
use Rattle.smc_kernel.proofs.column.+column_at.Goals as goal

pub returns-in_ok-right-in-Add-clause-values : goal.returns-in_ok-right-in-Add-clause-values
returns-in_ok-right-in-Add-clause-values t c =
    let rows = rows_at c.args.batch.now.rows c.args.places.now in
    each-some (λ (made : Column). values_in made ≡ pairs plus (values_in c.in_ok-left-in-Add.left) (values_in c.in_ok-right-in-Add.right))
    (λ (made : Column). values_of c.args.leaves.now (typed_tree c.args.expr.now) rows ≡ values_in made) c.plus.result
    (λ made is. sum-values c.args.leaves.now (typed_tree c.args.expr.now) (typed_tree c.in-Add.left.value) (typed_tree c.in-Add.right.value) (typed_tree c.deref.result.now) (typed_tree c.deref-in-Add.result.now) rows
    (values_in c.in_ok-left-in-Add.left) (values_in c.in_ok-right-in-Add.right) (values_in made) (ap typed_tree c.in-Add.is) (ap typed_tree c.deref.ensures) (ap typed_tree c.deref-in-Add.ensures)
    c.in_ok-left-in-Add.ensures.values c.in_ok-right-in-Add.ensures.values is)
    c.plus.ensures.values

pub returns-in_ok-right-in-Sub-clause-values : goal.returns-in_ok-right-in-Sub-clause-values
returns-in_ok-right-in-Sub-clause-values t c =
    let rows = rows_at c.args.batch.now.rows c.args.places.now in
    each-some (λ (made : Column). values_in made ≡ pairs less (values_in c.in_ok-left-in-Sub.left) (values_in c.in_ok-right-in-Sub.right))
    (λ (made : Column). values_of c.args.leaves.now (typed_tree c.args.expr.now) rows ≡ values_in made) c.less.result
    (λ made is. difference-values c.args.leaves.now (typed_tree c.args.expr.now) (typed_tree c.in-Sub.left.value) (typed_tree c.in-Sub.right.value) (typed_tree c.deref-in-Sub.result.now) (typed_tree c.deref-in-Sub-2.result.now) rows
    (values_in c.in_ok-left-in-Sub.left) (values_in c.in_ok-right-in-Sub.right) (values_in made) (ap typed_tree c.in-Sub.is) (ap typed_tree c.deref-in-Sub.ensures) (ap typed_tree c.deref-in-Sub-2.ensures)
    c.in_ok-left-in-Sub.ensures.values c.in_ok-right-in-Sub.ensures.values is)
    c.less.ensures.values

pub returns-in_ok-right-in-Mul-clause-values : goal.returns-in_ok-right-in-Mul-clause-values
returns-in_ok-right-in-Mul-clause-values t c =
    let rows = rows_at c.args.batch.now.rows c.args.places.now in
    each-some (λ (made : Column). values_in made ≡ pairs times (values_in c.in_ok-left-in-Mul.left) (values_in c.in_ok-right-in-Mul.right))
    (λ (made : Column). values_of c.args.leaves.now (typed_tree c.args.expr.now) rows ≡ values_in made) c.times.result
    (λ made is. product-values c.args.leaves.now (typed_tree c.args.expr.now) (typed_tree c.in-Mul.left.value) (typed_tree c.in-Mul.right.value) (typed_tree c.deref-in-Mul.result.now) (typed_tree c.deref-in-Mul-2.result.now) rows
    (values_in c.in_ok-left-in-Mul.left) (values_in c.in_ok-right-in-Mul.right) (values_in made) (ap typed_tree c.in-Mul.is) (ap typed_tree c.deref-in-Mul.ensures) (ap typed_tree c.deref-in-Mul-2.ensures)
    c.in_ok-left-in-Mul.ensures.values c.in_ok-right-in-Mul.ensures.values is)
    c.times.ensures.values

pub returns-in-Number-clause-values : goal.returns-in-Number-clause-values
returns-in-Number-clause-values t c =
    let rows = rows_at c.args.batch.now.rows c.args.places.now in
    let count = length c.args.places.now in
    each-some (λ (made : Column). values_in made ≡ replicate count (number (pos c.in-Number.units) c.in-Number.scale))
    (λ (made : Column). values_of c.args.leaves.now (typed_tree c.args.expr.now) rows ≡ values_in made) c.number_column.result
    (λ made is. ap (λ tree. values_of c.args.leaves.now tree rows) (ap typed_tree c.in-Number.is)
    ∙ values-number c.args.leaves.now c.in-Number.units c.in-Number.scale rows count (length-rows_at c.args.batch.now.rows c.args.places.now) ∙ sym is)
    c.number_column.ensures.values

pub returns-in-Day-clause-values : goal.returns-in-Day-clause-values
returns-in-Day-clause-values t c =
    let days_is : to_z w32 (of_z w32 c.in-Day.days) ≡ c.in-Day.days = search rules in
    let rows = rows_at c.args.batch.now.rows c.args.places.now in
    let count = length c.args.places.now in
    ap (λ tree. values_of c.args.leaves.now tree rows) (ap typed_tree c.in-Day.is)
    ∙ values-day c.args.leaves.now c.in-Day.days rows count (length-rows_at c.args.batch.now.rows c.args.places.now) ∙ sym (c.day_column.ensures.values ∙ ap (λ (d : ℤ). replicate count (day d)) days_is)
