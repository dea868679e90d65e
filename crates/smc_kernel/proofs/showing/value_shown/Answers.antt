use Rattle.std.proofs.Common.{◌≡◌, to_z, of_z, FitsSigned, sym, ◌∙◌, arith}
use Rattle.std.specs.Int.{w32, w128}
use Rattle.std.proofs.lemmas.Int.{ints, to_z-of_z}
use Rattle.smc_plan.specs.Typed.{typed_tree}
use Rattle.smc_meaning.proofs.Printable.{day-fits}
use Rattle.smc_meaning.proofs.SideLaws.{own_day, own_number, own_text}
use Rattle.smc_kernel.proofs.showing.value_shown.Goals as goal

pub number_at-requires-clause-number : goal.number_at-requires-clause-number
number_at-requires-clause-number c = own_number c.args.leaves.now (typed_tree c.args.expr.now) c.requires.showable.kind c.requires.showable.kind_is (sym c.sort_at.ensures ∙ c.in-Number.is)

pub day_at-requires-clause-day : goal.day_at-requires-clause-day
day_at-requires-clause-day c = own_day c.args.leaves.now (typed_tree c.args.expr.now) c.requires.showable.kind c.requires.showable.kind_is (sym c.sort_at.ensures ∙ c.in-Day.is)

pub text_at-requires-clause-text : goal.text_at-requires-clause-text
text_at-requires-clause-text c = own_text c.args.leaves.now (typed_tree c.args.expr.now) c.requires.showable.kind c.requires.showable.kind_is (sym c.sort_at.ensures ∙ c.in-Text.is)

pub overflow_cast-result : goal.overflow_cast-result
overflow_cast-result c =
    let same : to_z w128 (of_z w128 c.day_at.result) ≡ c.day_at.result = omega (arith, ints, c.day_at.ensures.small) in
    rw same (day-fits c.args.leaves.now (typed_tree c.args.expr.now) c.args.row.now c.day_at.result c.requires.showable c.day_at.ensures.value)

pub returns-in-Day : goal.returns-in-Day
returns-in-Day c =
    let same : to_z w128 (of_z w128 c.day_at.result) ≡ c.day_at.result = omega (arith, ints, c.day_at.ensures.small) in
    let fits : FitsSigned w32 c.day_at.result =
    day-fits c.args.leaves.now (typed_tree c.args.expr.now) c.args.row.now c.day_at.result c.requires.showable c.day_at.ensures.value in
    rw (same, to_z-of_z w32 c.day_at.result fits) (sym c.day_at.ensures.value)
