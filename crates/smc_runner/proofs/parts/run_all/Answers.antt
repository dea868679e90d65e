use Rattle.std.proofs.Common.{map, subst}
use Rattle.smc_script.specs.Trees.{part_tree}
use Rattle.smc_replies.specs.Books.{Books}
use Rattle.smc_desk.specs.Scenes.{scene_of}
use Rattle.smc_runner.specs.Runs.{PartsEnd}
use Rattle.smc_runner.proofs.parts.run_all.Goals as goal

pub returns-clause-ends : goal.returns-clause-ends
returns-clause-ends g c =
    let scene = scene_of (g.F.Shelf.files c.args.shelf.now) c.args.region.now.about.shape c.args.folds.now in
    let kinds = map (λ b. (goal.Fold-dyn g (b.fold.vtable, b.fold.value)).kind b.fold.value) c.args.bench.now.boxes.items in
    subst (λ (b : Books). PartsEnd scene c.run_parts.result.1 (map part_tree c.args.parts.now) b c.args.pass c.run_parts.result.0 (g.O.Sink.held c.args.out.now) (g.O.Sink.held c.run_parts.new.out))
    (c.new-books.ensures kinds) c.run_parts.ensures.ends
