use Rattle.std.proofs.Common.{ap, ◌∙◌, subst, arith}
use Rattle.smc_region.specs.Callers.{Caller, IsOutside}
use Rattle.smc_region.specs.Notes.{Noted}
use Rattle.smc_region.proofs.Closes.{caller_seat}
use Rattle.smc_region.proofs.Deals.{some_words}
use Rattle.smc_region.proofs.Tells.{note_seat, seat_learns}
use Rattle.smc_region.proofs.pass.Pass.learn.Goals as goal

pub join_seat-requires : goal.join_seat-requires
join_seat-requires c =
    let x = c.self.inside in
    let v = c.args.self.now in
    let n = c.args.note in
    let it = c.note.inside in
    let region = c.args.region.now in
    let key = region.table.shared.key in
    let seat = caller_seat x.number x.seat.table_id x.seat.me v c.self.view_is c.self.invariant.0 in
    let here = ap (λ (y : Caller). y.table) c.self.view_is ∙ c.requires.here.0 in
    let out = subst (λ (y : Caller). IsOutside y.local) c.self.view_is c.self.invariant.1 in
    let note = note_seat it.pass it.seat.table_id it.seat.me n c.note.view_is c.note.invariant in
    let there = ap (λ (y : Noted). y.table) c.note.view_is ∙ c.requires.note in
    let sized = region.sized in
    let some = some_words region.about.shape in
    (here, there, ap (λ m. m.1) note, omega (arith, sized, some), seat_learns key.shape key.opening x.seat.id v x.seat.me it.seat.id n it.seat.me seat note out c.requires.other)
