use Rattle.std.proofs.Common.{◌≡◌, List, map, None, sym, subst, ◌∙◌}
use Rattle.smc_script.specs.declared.script.Part.{Part}
use Rattle.smc_script.specs.Trees.{part_tree}
use Rattle.smc_replies.specs.Scripts.{unknown_line}
use Rattle.check_faults.proofs.run.run_known.Goals as goal

pub run_script-end-requires-clause-known : goal.run_script-end-requires-clause-known
run_script-end-requires-clause-known g c =
    let script = c.args.script.now in
    subst (λ (parts : List Part). unknown_line script.folds (map part_tree parts) ≡ None) c.as_slice.ensures (sym c.in_ok-unknown.ensures ∙ c.in-None.is)
