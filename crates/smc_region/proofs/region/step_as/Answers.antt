-- Each operation that is offered keeps the rule.
use Rattle.std.proofs.Common.{ap, sym, ◌∙◌, subst}
use Rattle.std.specs.Prelude.{Some}
use Rattle.smc_core.specs.declared.op.Op.{Op}
use Rattle.smc_core.specs.declared.op.Op.TheVariants.{Load, Store, Exchange, MarkGone}
use Rattle.smc_core.specs.Row.{OpFits}
use Rattle.smc_region.specs.Choices.{seat_choice}
use Rattle.smc_region.specs.Reached.{Saw, Showed, answered_number}
use Rattle.smc_region.proofs.Keeps.{saw-showed}
use Rattle.smc_region.proofs.Allowed.{allowed, stores, exchanges, index_below, suits-parts}
use Rattle.smc_region.proofs.region.step_as.Goals as goal

pub load-found-requires : goal.load-found-requires
load-found-requires g c =
    let op : Op = Load c.in-Load.place in
    let shape = c.args.region.now.about.shape in
    let fits : OpFits shape op = subst (OpFits shape) c.in-Load.is c.requires.fits in
    let key = c.args.region.now.table.shared.key in
    let table = c.args.region.now.table.shared.table_id in
    let seat = c.args.seat.now in (
      c.requires.here,
      index_below shape op c.at.result table.words c.requires.valid fits c.at.ensures c.args.region.now.sized,
      allowed key.shape shape key.opening table.slots seat.id seat.me g.C.Choosing.choice (seat_choice seat.me.0 c.args.chosen) g.C.Choosing.op op c.at.result c.requires.chosen (c.requires.named ∙ c.in-Load.is) c.requires.shape c.at.ensures c.requires.own c.requires.alone (c.requires.offers ∙ ap (λ (x : Op). Some x) c.in-Load.is),
    )

pub packed-requires : goal.packed-requires
packed-requires g c =
    let op : Op = Store c.in-Store.place c.in-Store.word in
    let shape = c.args.region.now.about.shape in
    let fits : OpFits shape op = subst (OpFits shape) c.in-Store.is c.requires.fits in
    let key = c.args.region.now.table.shared.key in
    let table = c.args.region.now.table.shared.table_id in
    let seat = c.args.seat.now in
    suits-parts c.in-Store.place c.in-Store.word fits.1

pub store-requires : goal.store-requires
store-requires g c =
    let op : Op = Store c.in-Store.place c.in-Store.word in
    let shape = c.args.region.now.about.shape in
    let fits : OpFits shape op = subst (OpFits shape) c.in-Store.is c.requires.fits in
    let key = c.args.region.now.table.shared.key in
    let table = c.args.region.now.table.shared.table_id in
    let seat = c.args.seat.now in (
      c.requires.here,
      index_below shape op c.at-in-Store.result table.words c.requires.valid fits c.at-in-Store.ensures c.args.region.now.sized,
      stores key.shape shape key.opening table.slots seat.id seat.me g.C.Choosing.choice (seat_choice seat.me.0 c.args.chosen) g.C.Choosing.op c.in-Store.place c.in-Store.word c.at-in-Store.result c.packed.result c.requires.chosen (c.requires.named ∙ c.in-Store.is) c.requires.shape c.at-in-Store.ensures c.packed.ensures c.requires.own c.requires.alone (c.requires.offers ∙ ap (λ (x : Op). Some x) c.in-Store.is),
    )

pub packed-expect-requires : goal.packed-expect-requires
packed-expect-requires g c =
    let op : Op = Exchange c.in-Exchange.place c.in-Exchange.expect c.in-Exchange.put in
    let shape = c.args.region.now.about.shape in
    let fits : OpFits shape op = subst (OpFits shape) c.in-Exchange.is c.requires.fits in
    let key = c.args.region.now.table.shared.key in
    let table = c.args.region.now.table.shared.table_id in
    let seat = c.args.seat.now in
    suits-parts c.in-Exchange.place c.in-Exchange.expect fits.1

pub packed-put-requires : goal.packed-put-requires
packed-put-requires g c =
    let op : Op = Exchange c.in-Exchange.place c.in-Exchange.expect c.in-Exchange.put in
    let shape = c.args.region.now.about.shape in
    let fits : OpFits shape op = subst (OpFits shape) c.in-Exchange.is c.requires.fits in
    let key = c.args.region.now.table.shared.key in
    let table = c.args.region.now.table.shared.table_id in
    let seat = c.args.seat.now in
    suits-parts c.in-Exchange.place c.in-Exchange.put fits.2

pub compare_exchange-found-requires : goal.compare_exchange-found-requires
compare_exchange-found-requires g c =
    let op : Op = Exchange c.in-Exchange.place c.in-Exchange.expect c.in-Exchange.put in
    let shape = c.args.region.now.about.shape in
    let fits : OpFits shape op = subst (OpFits shape) c.in-Exchange.is c.requires.fits in
    let key = c.args.region.now.table.shared.key in
    let table = c.args.region.now.table.shared.table_id in
    let seat = c.args.seat.now in (
      c.requires.here,
      index_below shape op c.at-in-Exchange.result table.words c.requires.valid fits c.at-in-Exchange.ensures c.args.region.now.sized,
      exchanges key.shape shape key.opening table.slots seat.id seat.me g.C.Choosing.choice (seat_choice seat.me.0 c.args.chosen) g.C.Choosing.op c.in-Exchange.place c.in-Exchange.expect c.in-Exchange.put c.at-in-Exchange.result c.packed-expect.result c.packed-put.result c.requires.chosen (c.requires.named ∙ c.in-Exchange.is) c.requires.shape c.at-in-Exchange.ensures c.packed-expect.ensures c.packed-put.ensures c.requires.own c.requires.alone (c.requires.offers ∙ ap (λ (x : Op). Some x) c.in-Exchange.is),
    )

pub fetch_or-found-requires : goal.fetch_or-found-requires
fetch_or-found-requires g c =
    let op : Op = MarkGone c.in-MarkGone.coll c.in-MarkGone.entry in
    let shape = c.args.region.now.about.shape in
    let fits : OpFits shape op = subst (OpFits shape) c.in-MarkGone.is c.requires.fits in
    let key = c.args.region.now.table.shared.key in
    let table = c.args.region.now.table.shared.table_id in
    let seat = c.args.seat.now in (
      c.requires.here,
      index_below shape op c.at-in-MarkGone.result table.words c.requires.valid fits c.at-in-MarkGone.ensures c.args.region.now.sized,
      allowed key.shape shape key.opening table.slots seat.id seat.me g.C.Choosing.choice (seat_choice seat.me.0 c.args.chosen) g.C.Choosing.op op c.at-in-MarkGone.result c.requires.chosen (c.requires.named ∙ c.in-MarkGone.is) c.requires.shape c.at-in-MarkGone.ensures c.requires.own c.requires.alone (c.requires.offers ∙ ap (λ (x : Op). Some x) c.in-MarkGone.is),
    )

pub returns-in-Load-clause-saw : goal.returns-in-Load-clause-saw
returns-in-Load-clause-saw g c =
    let op : Op = Load c.in-Load.place in
    let view = c.args.seat.now.me.0 in
    let found = c.load-found.result in
    let showed = subst (λ (o : Op). Showed view o (answered_number o found)) (c.requires.named ∙ c.in-Load.is) c.load-found.ensures.2.1 in
    subst (λ (o : Op). Saw view o c.unpacked.result) (sym c.in-Load.is) (saw-showed view op found c.unpacked.result c.unpacked.ensures showed)

pub returns-in-Exchange-clause-saw : goal.returns-in-Exchange-clause-saw
returns-in-Exchange-clause-saw g c =
    let op : Op = Exchange c.in-Exchange.place c.in-Exchange.expect c.in-Exchange.put in
    let view = c.args.seat.now.me.0 in
    let found = c.compare_exchange-found.result in
    let showed = subst (λ (o : Op). Showed view o (answered_number o found)) (c.requires.named ∙ c.in-Exchange.is) c.compare_exchange-found.ensures.2.1 in
    subst (λ (o : Op). Saw view o c.unpacked-in-Exchange.result) (sym c.in-Exchange.is) (saw-showed view op found c.unpacked-in-Exchange.result c.unpacked-in-Exchange.ensures showed)

pub returns-in-MarkGone-clause-saw : goal.returns-in-MarkGone-clause-saw
returns-in-MarkGone-clause-saw g c =
    let op : Op = MarkGone c.in-MarkGone.coll c.in-MarkGone.entry in
    let view = c.args.seat.now.me.0 in
    let found = c.fetch_or-found.result in
    let showed = subst (λ (o : Op). Showed view o (answered_number o found)) (c.requires.named ∙ c.in-MarkGone.is) c.fetch_or-found.ensures.2.1 in
    subst (λ (o : Op). Saw view o c.unpacked-in-MarkGone.result) (sym c.in-MarkGone.is) (saw-showed view op found c.unpacked-in-MarkGone.result c.unpacked-in-MarkGone.ensures showed)
