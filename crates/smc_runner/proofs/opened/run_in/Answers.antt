use Rattle.std.proofs.Common.{map, Option, sym, subst}
use Rattle.smc_shape.specs.Layout.{Layout}
use Rattle.smc_region.specs.Ends.{Ended}
use Rattle.smc_replies.specs.Books.{books_of}
use Rattle.smc_script.specs.Trees.{part_tree}
use Rattle.smc_runner.specs.declared.ending.RunEnd.{RunEnd}
use Rattle.smc_runner.specs.declared.ending.RunEnd.TheVariants.{NoMemory}
use Rattle.smc_desk.specs.Scenes.{scene_of}
use Rattle.smc_runner.specs.Runs.{HasClosed, PartsEnd, RunsAs}
use Rattle.smc_runner.proofs.RunLaws.{ends-unclosed}
use Rattle.smc_runner.proofs.opened.run_in.Goals as goal

pub returns-in-Err-clause-ends : goal.returns-in-Err-clause-ends
returns-in-Err-clause-ends g c =
    let held = g.O.Sink.held in
    let files = g.F.Shelf.files c.args.shelf.now in
    let closed = HasClosed c.args.shape in
    let parts = map part_tree c.args.parts.now in
    let old = held c.args.out.now in
    let new = held c.run_all-pass.new.out in
    let folds = c.args.folds.now in
    let kinds = map (λ b. (goal.Fold-dyn g (b.fold.vtable, b.fold.value)).kind b.fold.value) c.args.bench.now.boxes.items in
    let scene = scene_of files c.args.shape folds in
    let made = subst (λ (k : Layout). PartsEnd (scene_of files k folds) c.run_all-pass.result.1 parts (books_of kinds) c.in-Ok.pass c.run_all-pass.result.0 old new) c.in-Ok.ensures.shape c.run_all-pass.ensures.ends in
    let ends = ends-unclosed closed scene kinds c.run_all-pass.result.1 parts c.in-Ok.pass c.run_all-pass.result.0 old new made in
    subst (λ (e : RunEnd). RunsAs closed scene kinds e parts c.without-in-Err.result.quiet old new) (sym c.without-in-Err.ensures.end)
    (subst (λ (q : Option Ended). RunsAs closed scene kinds NoMemory parts q old new) (sym c.without-in-Err.ensures.quiet) ends)
