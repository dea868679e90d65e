use Rattle.std.proofs.Common.{ap, ◌∙◌}
use Rattle.smc_types.specs.Columns.{width_of}
use Rattle.smc_plan.specs.declared.kind.Kind.TheVariants.{Day}
use Rattle.smc_meaning.proofs.OperandLaws.{day_column, leaf_is}
use Rattle.smc_meaning.proofs.value.leaf_day.Goals as goal

pub column_day-requires : goal.column_day-requires
column_day-requires c =
    let is = leaf_is c.args.leaves.now c.args.place (Day c.requires.day.bound) c.requires.day.kind_is in
    c.leaf_words.ensures.width is.leaf is.found ∙ ap width_of (day_column is.leaf.kind c.requires.day.bound is.kind_is)
