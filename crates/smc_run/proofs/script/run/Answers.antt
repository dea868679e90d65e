use Rattle.std.proofs.Common.{map, Option, sym, subst, ◌∙◌}
use Rattle.smc_region.specs.Ends.{Ended}
use Rattle.smc_script.specs.Trees.{script_tree}
use Rattle.smc_run.specs.declared.status.Status.{Status}
use Rattle.smc_run.specs.Ending.{refused_at}
use Rattle.smc_run.specs.Inputs.{RunEnds}
use Rattle.smc_run.proofs.ScriptLaws.{ends-known, ends-refused, told-spells}
use Rattle.smc_run.proofs.script.run.Goals as goal

pub returns-in-Ok-read_script-clause-ends : goal.returns-in-Ok-read_script-clause-ends
returns-in-Ok-read_script-clause-ends g c =
    let left = g.I.Source.left in
    let held = g.O.Sink.held in
    let kinds = map (λ b. (goal.Fold-dyn g (b.fold.vtable, b.fold.value)).kind b.fold.value) c.args.bench.now.boxes.items in
    let ran = c.run_known.result in
    let script = script_tree c.in-Ok-read_script.script in
    let old = left c.args.input.now in
    let spells = told-spells kinds c.in-Ok.catalog c.in-Ok-fold_names.folds script old (left c.read_script.new.source) c.in-Ok.ensures c.in-Ok-fold_names.ensures c.in-Ok-read_script.ensures.gives in
    ends-known ran.status script old (g.F.Shelf.files c.args.shelf.now) kinds ran.quiet (held c.args.out.now) (held c.run_known.new.out) spells c.run_known.ensures.opened c.run_known.ensures.ends

pub returns-clause-ends : goal.returns-clause-ends
returns-clause-ends g c =
    let left = g.I.Source.left in
    let old = left c.args.input.now in
    let out = g.O.Sink.held c.args.out.now in
    let files = g.F.Shelf.files c.args.shelf.now in
    let kinds = map (λ b. (goal.Fold-dyn g (b.fold.vtable, b.fold.value)).kind b.fold.value) c.args.bench.now.boxes.items in
    let why = c.in-Err.fault in
    let none = c.at-in-Err in
    let ends = ends-refused c.in-Ok.catalog c.in-Ok-fold_names.folds why files kinds old (left c.read_script.new.source) out c.in-Ok.ensures c.in-Ok-fold_names.ensures c.in-Err.ensures.gives in
    subst (λ (s : Status). RunEnds s old files kinds none.result.quiet out out) (sym (none.ensures.status ∙ c.refused_at.ensures))
    (subst (λ (q : Option Ended). RunEnds (refused_at why) old files kinds q out out) (sym none.ensures.quiet) ends)
