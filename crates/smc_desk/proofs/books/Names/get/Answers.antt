use Rattle.std.proofs.Common.{List, ap, ◌∙◌}
use Rattle.smc_replies.specs.Books.{Named, named}
use Rattle.smc_desk.proofs.NameLaws.{named-in}
use Rattle.smc_desk.proofs.books.Names.get.Goals as goal

pub returns : goal.returns
returns c =
    c.copied.ensures ∙ c.get.ensures.value ∙ named-in c.self.inside.objects.entries c.args.name.now
    ∙ ap (λ (known : List Named). named known c.args.name.now) c.self.view_is
