use Rattle.std.proofs.Common.{[]}
use Rattle.smc_does.proofs.DoesLaws.{does-nothing, does-then}
use Rattle.smc_visits.specs.Rows.{drops}
use Rattle.smc_visits.proofs.RowLaws.{row-more, row-none}
use Rattle.smc_visits.proofs.row.+read_leaves.Goals as goal

pub returns-in_default-clause-done : goal.returns-in_default-clause-done
returns-in_default-clause-done t c = ([], does-nothing _, row-none c.args.leaves.now c.args.row.now c.in_default.ensures.cases c.requires.long)

pub returns-then-not-read_leaf-clause-done : goal.returns-then-not-read_leaf-clause-done
returns-then-not-read_leaf-clause-done t c =
    let f = c.if-not-read_leaf.ensures.done in
    (f.0, f.1, rw c.in-Some.ensures.cases.0 (drops f.2))

pub returns-clause-done : goal.returns-clause-done
returns-clause-done t c =
    let f = c.if-not-read_leaf.ensures.done in
    let r = c.read_leaves.ensures.done in
    (_, does-then f.1 r.1, rw c.in-Some.ensures.cases.0 (row-more c.read_leaf.new.words c.read_leaves.new.row c.read_leaves.result f.1.same.1 f.2 r.2))
