use Rattle.std.proofs.Common.{◌∙◌, ap}
use Rattle.smc_script.specs.Names.{Naming, origin_of}
use Rattle.smc_script.proofs.NameLaws.{origin-of}
use Rattle.smc_script.proofs.names.Names.origin.Goals as goal

pub returns : goal.returns
returns c =
    c.copied.ensures ∙ c.get.ensures.value ∙ origin-of c.self.inside.origins.entries c.args.name.now
    ∙ ap (λ (names : Naming). origin_of names.given c.args.name.now) c.self.view_is
