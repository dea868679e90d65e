use Rattle.std.proofs.Common.{◌≡◌, map, rules}
use Rattle.std.proofs.lemmas.List.Elements.{All-same}
use Rattle.smc_plan.specs.Planned.{plan_tree}
use Rattle.smc_meaning.specs.Answers.{columns_of}
use Rattle.smc_meaning.specs.Cells.{CanPrint, column_seen}
use Rattle.smc_meaning.proofs.AnswerLaws.{columns-print}
use Rattle.smc_meaning.proofs.answering.group_row.Goals as goal

pub of-requires : goal.of-requires
of-requires g c =
    let kinds = (map (λ b. (goal.Fold-dyn g (b.fold.vtable, b.fold.value)).kind b.fold.value) c.args.bench.now.boxes.items) in
    let made : map column_seen c.push_outputs.new.columns.items ≡ columns_of (plan_tree c.args.plan.now) kinds c.args.group.now.rows = search rules in
    All-same CanPrint (map column_seen c.push_outputs.new.columns.items) (columns_of (plan_tree c.args.plan.now) kinds c.args.group.now.rows) made
    (columns-print (plan_tree c.args.plan.now) kinds c.args.group.now.rows c.requires.sound)
