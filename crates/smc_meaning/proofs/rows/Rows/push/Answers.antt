use Rattle.std.proofs.Common.{◌≡◌, ◌+◌, arith}
use Rattle.smc_meaning.proofs.RowLaws.{seen-append}
use Rattle.smc_meaning.proofs.rows.Rows.push.Goals as goal

pub returns-clause-put : goal.returns-clause-put
returns-clause-put c =
    let counted : c.in-Some.count ≡ c.self.inside.count + 1 = omega (arith, c.in-Some.ensures) in
    seen-append c.self.inside.width c.self.inside.count c.in-Some.count c.self.inside.words.items c.extend_from_slice.new.self.items c.args.row.now c.args.self.now
    c.self.view_is c.in_ok-extend_from_slice.ensures.items counted c.self.invariant c.requires
