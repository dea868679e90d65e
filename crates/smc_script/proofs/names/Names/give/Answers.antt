use Rattle.std.proofs.Common.{List, ap, ◌∙◌}
use Rattle.smc_query.specs.Trees.{Word}
use Rattle.smc_script.specs.Names.{Given, Naming, given_in, with_name}
use Rattle.smc_script.proofs.NameLaws.{given-insert}
use Rattle.smc_script.specs.declared.names.Origin.{Origin}
use Rattle.smc_script.proofs.names.Names.give.Goals as goal

pub returns : goal.returns
returns c =
    let entries = c.self.inside.origins.entries in
    let origin : Origin = record { table = c.args.table; line = c.args.line } in
    let given = ap given_in c.in_ok-insert.ensures.entries ∙ given-insert entries c.in_ok-key.key origin
    ∙ ap (λ (word : Word). with_name word origin (given_in entries)) c.in_ok-key.ensures.ok in
    ap (λ (all : List Given). record { given = all; from = c.self.inside.from; before = c.self.inside.before }) given
    ∙ ap (λ (names : Naming). record names { given = with_name c.args.name.now origin names.given }) c.self.view_is
