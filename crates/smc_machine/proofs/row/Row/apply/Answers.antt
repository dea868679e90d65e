use Rattle.std.proofs.Common.{◌≡◌, ◌<◌, Some, length, sym, ap, ◌∙◌, subst}
use Rattle.smc_core.specs.Row.{place_of}
use Rattle.smc_machine.specs.Rows.{Numbers, index_of}
use Rattle.smc_machine.proofs.RowLaws.{IsRow-applied}
use Rattle.smc_machine.proofs.row.Row.apply.Goals as goal

pub invariant_of-self : goal.invariant_of-self
invariant_of-self c =
    let found : index_of c.self.inside.shape (place_of c.args.op) ≡ Some c.in-Some.index =
    ap (λ (n : Numbers). index_of n.shape (place_of c.args.op)) c.self.view_is ∙ ap (index_of c.args.self.now.shape) (sym c.place_of.ensures)
    ∙ sym c.in-Some.ensures.index in
    IsRow-applied c.self.inside.shape c.self.inside.numbers.items c.args.op c.in-Some.index c.index.result.now c.put.result
    c.self.invariant c.requires found (subst (λ (n : Numbers). c.in-Some.index < length n.row) (sym c.self.view_is) c.in-Some.ensures.within) c.index.ensures c.put.ensures
