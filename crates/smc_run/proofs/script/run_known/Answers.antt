use Rattle.std.proofs.Common.{◌≡◌, List, map, None, sym, subst, ◌∙◌}
use Rattle.smc_script.specs.declared.script.Part.{Part}
use Rattle.smc_script.specs.Trees.{part_tree}
use Rattle.smc_replies.specs.Scripts.{unknown_line}
use Rattle.smc_desk.specs.Scenes.{scene_of}
use Rattle.smc_runner.specs.Runs.{shape_asked}
use Rattle.smc_run.proofs.ScriptLaws.{lawful-run}
use Rattle.smc_run.proofs.script.run_known.Goals as goal

pub run_script-end-requires-clause-known : goal.run_script-end-requires-clause-known
run_script-end-requires-clause-known g c =
    let script = c.args.script.now in
    subst (λ (parts : List Part). unknown_line script.folds (map part_tree parts) ≡ None) c.as_slice.ensures (sym c.in-Ok.ensures ∙ c.in-None.is)

pub returns-in-None-clause-lawful : goal.returns-in-None-clause-lawful
returns-in-None-clause-lawful g c =
    let script = c.args.script.now in
    let held = g.O.Sink.held in
    let scene = scene_of (g.F.Shelf.files c.args.shelf.now) (shape_asked script.rooms) script.folds in
    let kinds = map (λ b. (goal.Fold-dyn g (b.fold.vtable, b.fold.value)).kind b.fold.value) c.args.bench.now.boxes.items in
    let ran = c.run_script-end in
    lawful-run c.what_happened_is_lawful.ensures ran.result.end scene kinds script.rooms (map part_tree script.parts) ran.result.quiet (held c.args.out.now) (held ran.new.out) ran.ensures.ends
