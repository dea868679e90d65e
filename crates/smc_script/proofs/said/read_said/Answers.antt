use Rattle.std.proofs.Common.{sym, ◌∙◌}
use Rattle.smc_script.proofs.SaysLaws.{line-answered, no-verb}
use Rattle.smc_script.proofs.said.read_said.Goals as goal

pub returns : goal.returns
returns c =
    line-answered c.args.catalog.now c.args.names.now c.args.line.now c.split_word.result.0.now c.in-Some.text.now c.in-Some-verb_of.verb c.read_behind.result
    (rw c.in-Some.is at c.split_word.ensures) (sym c.in-Some-verb_of.ensures) c.read_behind.ensures

pub returns-in_default-verb_of : goal.returns-in_default-verb_of
returns-in_default-verb_of c =
    no-verb c.args.catalog.now c.args.names.now c.args.line.now c.split_word.result.0.now c.in-Some.text.now (rw c.in-Some.is at c.split_word.ensures)
    (sym c.verb_of.ensures ∙ c.in_default-verb_of.is)
