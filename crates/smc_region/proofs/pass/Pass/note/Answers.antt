use Rattle.std.proofs.Common.{ap, ◌∙◌, subst, arith}
use Rattle.smc_region.specs.Callers.{Caller, IsOutside}
use Rattle.smc_region.proofs.Closes.{caller_seat}
use Rattle.smc_region.proofs.Deals.{some_words}
use Rattle.smc_region.proofs.Tells.{seat_notes}
use Rattle.smc_region.proofs.pass.Pass.note.Goals as goal

pub split_seat-seat-requires : goal.split_seat-seat-requires
split_seat-seat-requires c =
    let x = c.self.inside in
    let v = c.args.self.now in
    let region = c.args.region.now in
    let key = region.table.shared.key in
    let seat = caller_seat x.number x.seat.table_id x.seat.me v c.self.view_is c.self.invariant.0 in
    let here = ap (λ (y : Caller). y.table) c.self.view_is ∙ c.requires.here.0 in
    let out = subst (λ (y : Caller). IsOutside y.local) c.self.view_is c.self.invariant.1 in
    let sized = region.sized in
    let some = some_words region.about.shape in
    (here, omega (arith, sized, some), seat_notes key.shape key.opening x.seat.id v x.seat.me seat out)
