use Rattle.std.proofs.Common.{sym, ◌∙◌}
use Rattle.smc_plan.specs.Typed.{typed_tree}
use Rattle.smc_meaning.proofs.SideLaws.{can_meet, left_day, left_number, left_text, right_day, right_number, right_text}
use Rattle.smc_meaning.proofs.comparing.compare_at.Goals as goal

pub number_at-requires-clause-number : goal.number_at-requires-clause-number
number_at-requires-clause-number c = left_number c.args.leaves.now (typed_tree c.args.left.now) (typed_tree c.args.right.now) c.requires.sides (sym c.sort_at.ensures ∙ c.in-Number.is)

pub number_at-requires-in-Number-clause-number : goal.number_at-requires-in-Number-clause-number
number_at-requires-in-Number-clause-number c = right_number c.args.leaves.now (typed_tree c.args.left.now) (typed_tree c.args.right.now) c.requires.sides (sym c.sort_at.ensures ∙ c.in-Number.is)

pub compare-requires : goal.compare-requires
compare-requires c =
    can_meet c.args.leaves.now (typed_tree c.args.left.now) (typed_tree c.args.right.now) c.args.row.now c.args.other_row.now c.number_at.result c.number_at-in-Number.result
    c.requires.sides (sym c.sort_at.ensures ∙ c.in-Number.is) c.number_at.ensures.value c.number_at-in-Number.ensures.value

pub day_at-requires-clause-day : goal.day_at-requires-clause-day
day_at-requires-clause-day c = left_day c.args.leaves.now (typed_tree c.args.left.now) (typed_tree c.args.right.now) c.requires.sides (sym c.sort_at.ensures ∙ c.in-Day.is)

pub day_at-requires-in-Day-clause-day : goal.day_at-requires-in-Day-clause-day
day_at-requires-in-Day-clause-day c = right_day c.args.leaves.now (typed_tree c.args.left.now) (typed_tree c.args.right.now) c.requires.sides (sym c.sort_at.ensures ∙ c.in-Day.is)

pub text_at-requires-clause-text : goal.text_at-requires-clause-text
text_at-requires-clause-text c = left_text c.args.leaves.now (typed_tree c.args.left.now) (typed_tree c.args.right.now) c.requires.sides (sym c.sort_at.ensures ∙ c.in-Text.is)

pub text_at-requires-in-Text-clause-text : goal.text_at-requires-in-Text-clause-text
text_at-requires-in-Text-clause-text c = right_text c.args.leaves.now (typed_tree c.args.left.now) (typed_tree c.args.right.now) c.requires.sides (sym c.sort_at.ensures ∙ c.in-Text.is)
