use Rattle.smc_plan.proofs.PlanLaws.{edits-are-typed, queries-are-typed}
use Rattle.smc_plan.proofs.laws.parts_are_typed.Goals as goal

pub returns : goal.returns
returns c = record {
  of_queries = queries-are-typed c.a_text_says_a_day_in_range.ensures;
  of_edits = edits-are-typed c.a_text_says_a_day_in_range.ensures;
}
