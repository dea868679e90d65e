use Rattle.std.proofs.Common.{◌≡◌, subst}
use Rattle.smc_plan.specs.Kinds.{IsOutput}
use Rattle.smc_plan.specs.Outputs.{output_tree}
use Rattle.smc_plan.specs.Typed.{kinded_tree, typed_tree}
use Rattle.smc_plan.specs.declared.output.Output.{Output}
use Rattle.smc_meaning.specs.Cells.{CanPrint, column_seen}
use Rattle.smc_kernel.specs.Taken.{end_found}
use Rattle.smc_meaning.specs.Groups.{average_scale, divided, scale_in}
use Rattle.smc_meaning.specs.Values.{units_at}
use Rattle.smc_meaning.proofs.Printable.{showable}
use Rattle.smc_kernel.proofs.PrintLaws.{average-prints, each-ok, end-prints, sum-prints}
use Rattle.smc_kernel.proofs.showing.column_shown.Goals as goal

pub returns-in-Sum-clause-printable : goal.returns-in-Sum-clause-printable
returns-in-Sum-clause-printable c =
    let output = subst (λ (item : Output). IsOutput c.args.leaves.now (output_tree item)) c.in-Sum.is c.requires.output in
    sum-prints c.args.leaves.now (kinded_tree c.in-Sum.of) c.args.total.now.sum (column_seen c.sum_shown.result) output c.sum_shown.ensures

pub returns-in-Avg-clause-printable : goal.returns-in-Avg-clause-printable
returns-in-Avg-clause-printable c =
    let output = subst (λ (item : Output). IsOutput c.args.leaves.now (output_tree item)) c.in-Avg.is c.requires.output in
    let scale = scale_in c.in-Avg.of.kind in
    average-prints c.args.leaves.now (kinded_tree c.in-Avg.of) c.args.kept (divided (units_at (average_scale scale) c.args.total.now.sum scale) c.args.kept) (column_seen c.average_shown.result) output
    c.average_shown.ensures.none c.average_shown.ensures.some

pub returns-in-Min-clause-printable : goal.returns-in-Min-clause-printable
returns-in-Min-clause-printable c =
    let output = subst (λ (item : Output). IsOutput c.args.leaves.now (output_tree item)) c.in-Min.is c.requires.output in
    each-ok (λ made. column_seen made ≡ end_found c.args.leaves.now (typed_tree c.in-Min.of.typed) c.args.kept c.args.total.now.best.items) (λ made. CanPrint (column_seen made)) c.end_shown.result
    (λ made is. end-prints c.args.leaves.now (typed_tree c.in-Min.of.typed) c.args.kept c.args.total.now.best.items (column_seen made)
    (showable c.args.leaves.now (kinded_tree c.in-Min.of) output.0 output.1) is) c.end_shown.ensures

pub returns-in-Max-clause-printable : goal.returns-in-Max-clause-printable
returns-in-Max-clause-printable c =
    let output = subst (λ (item : Output). IsOutput c.args.leaves.now (output_tree item)) c.in-Max.is c.requires.output in
    each-ok (λ made. column_seen made ≡ end_found c.args.leaves.now (typed_tree c.in-Max.of.typed) c.args.kept c.args.total.now.best.items) (λ made. CanPrint (column_seen made)) c.end_shown-in-Max.result
    (λ made is. end-prints c.args.leaves.now (typed_tree c.in-Max.of.typed) c.args.kept c.args.total.now.best.items (column_seen made)
    (showable c.args.leaves.now (kinded_tree c.in-Max.of) output.0 output.1) is) c.end_shown-in-Max.ensures
