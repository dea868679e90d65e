use Rattle.std.proofs.Common.{◌≡◌, true, sym, ap, ◌∙◌}
use Rattle.smc_core.specs.Row.{has_place}
use Rattle.smc_machine.specs.Rows.{Numbers}
use Rattle.smc_machine.proofs.RowLaws.{at-within}
use Rattle.smc_machine.proofs.row.Row.index_of.Goals as goal

pub returns-then-has_place-clause-within : goal.returns-then-has_place-clause-within
returns-then-has_place-clause-within c =
    let has : has_place c.self.inside.shape c.args.place ≡ true =
    ap (λ (n : Numbers). has_place n.shape c.args.place) c.self.view_is ∙ sym c.has_place.ensures ∙ c.if-has_place.true in
    rw (← c.self.view_is) (rw c.at.ensures (at-within c.self.inside.shape c.self.inside.numbers.items c.args.place c.self.invariant has))
