use Rattle.std.proofs.Common.{List, ℕ, ap, ◌∙◌}
use Rattle.smc_query.specs.Trees.{Word}
use Rattle.smc_replies.specs.Books.{names_in, with_name}
use Rattle.smc_desk.proofs.NameLaws.{named-insert}
use Rattle.smc_desk.proofs.books.Names.put.Goals as goal

pub returns : goal.returns
returns c =
    let entries = c.self.inside.objects.entries in
    ap names_in c.in_ok-insert.ensures.entries
    ∙ named-insert entries c.in_ok-key.key c.args.object
    ∙ ap (λ (word : Word). with_name word c.args.object (names_in entries)) c.in_ok-key.ensures.ok
    ∙ ap (with_name c.args.name.now c.args.object) c.self.view_is
