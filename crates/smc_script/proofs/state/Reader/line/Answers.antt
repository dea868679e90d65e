use Rattle.std.proofs.Common.{Option, Ok, ap, ◌∙◌, subst}
use Rattle.std.specs.Prelude.{IfOk}
use Rattle.std.specs.declared.result.Result.{Result}
use Rattle.smc_words.specs.declared.NoMemory.{NoMemory}
use Rattle.smc_script.specs.Says.{IsSaid, said_tree}
use Rattle.smc_script.specs.States.{reading}
use Rattle.smc_script.specs.declared.said.Said.{Said}
use Rattle.smc_script.proofs.ScriptLaws.{nothing-given, said-given}
use Rattle.smc_script.proofs.state.Reader.line.Goals as goal

pub returns-in-Ok-Some : goal.returns-in-Ok-Some
returns-in-Ok-Some c =
    let says = subst (λ (r : Result (Option Said) NoMemory). IfOk r (IsSaid c.args.catalog.now c.args.self.now.names c.args.text.now))
    (c.in-Ok-Some.is ∙ ap (λ (o : Option Said). Ok o) c.in-Ok-Some.field-0-is) c.read_said.ensures in
    said-given c.args.catalog.now c.args.folds.now (reading c.args.self.now) (reading c.said_line.new.self) c.args.line c.args.text.now
    (said_tree c.in-Ok-Some.said) c.said_line.result c.requires says c.said_line.ensures

pub returns-in-Ok-None : goal.returns-in-Ok-None
returns-in-Ok-None c =
    let says = subst (λ (r : Result (Option Said) NoMemory). IfOk r (IsSaid c.args.catalog.now c.args.self.now.names c.args.text.now))
    (c.in-Ok-None.is ∙ ap (λ (o : Option Said). Ok o) c.in-Ok-None.field-0-is) c.read_said.ensures in
    nothing-given c.args.catalog.now c.args.folds.now (reading c.args.self.now) (reading c.args.self.now) c.args.line c.args.text.now c.requires says
