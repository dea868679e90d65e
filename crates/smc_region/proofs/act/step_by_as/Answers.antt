-- Each act that is offered keeps the rule.
use Rattle.std.proofs.Common.{◌≡◌, sym, ◌∙◌}
use Rattle.smc_core.specs.declared.kind.Deed.TheVariants as deed
use Rattle.smc_core.specs.declared.op.Op.{Op}
use Rattle.smc_region.specs.Choices.{seat_choice}
use Rattle.smc_region.proofs.ActLaws.{answers_found, loads_by, stores_by, exchanges_by, marks_by, word-at}
use Rattle.smc_region.proofs.Allowed.{index_below}
use Rattle.smc_region.proofs.act.step_by_as.Goals as goal

pub load-requires : goal.load-requires
load-requires g c =
    let shape = c.args.region.now.about.shape in
    let key = c.args.region.now.table.shared.key in
    let table = c.args.region.now.table.shared.table_id in
    let seat = c.args.seat.now in
    let op : Op = g.C.Choosing.op in
    let does = sym c.requires.deed.0 ∙ (sym c.deed.ensures ∙ c.in-Load.is) in (
      c.requires.here,
      index_below shape op c.args.act.word table.words c.args.region.now.valid c.requires.fits (word-at shape c.args.act.kind c.args.act op c.requires.is) c.args.region.now.sized,
      loads_by key.shape shape key.opening table.slots seat.id seat.me g.C.Choosing.choice (seat_choice seat.me.0 c.args.chosen) c.args.act.kind c.args.act c.requires.chosen c.requires.shape c.requires.own c.requires.alone op c.requires.is does c.requires.offers,
    )

pub store-requires : goal.store-requires
store-requires g c =
    let shape = c.args.region.now.about.shape in
    let key = c.args.region.now.table.shared.key in
    let table = c.args.region.now.table.shared.table_id in
    let seat = c.args.seat.now in
    let op : Op = g.C.Choosing.op in
    let does = sym c.requires.deed.0 ∙ (sym c.deed.ensures ∙ c.in-Store.is) in (
      c.requires.here,
      index_below shape op c.args.act.word table.words c.args.region.now.valid c.requires.fits (word-at shape c.args.act.kind c.args.act op c.requires.is) c.args.region.now.sized,
      stores_by key.shape shape key.opening table.slots seat.id seat.me g.C.Choosing.choice (seat_choice seat.me.0 c.args.chosen) c.args.act.kind c.args.act c.requires.chosen c.requires.shape c.requires.own c.requires.alone op c.requires.is does c.requires.offers,
    )

pub compare_exchange-requires : goal.compare_exchange-requires
compare_exchange-requires g c =
    let shape = c.args.region.now.about.shape in
    let key = c.args.region.now.table.shared.key in
    let table = c.args.region.now.table.shared.table_id in
    let seat = c.args.seat.now in
    let op : Op = g.C.Choosing.op in
    let does = sym c.requires.deed.0 ∙ (sym c.deed.ensures ∙ c.in-Exchange.is) in (
      c.requires.here,
      index_below shape op c.args.act.word table.words c.args.region.now.valid c.requires.fits (word-at shape c.args.act.kind c.args.act op c.requires.is) c.args.region.now.sized,
      exchanges_by key.shape shape key.opening table.slots seat.id seat.me g.C.Choosing.choice (seat_choice seat.me.0 c.args.chosen) c.args.act.kind c.args.act c.requires.chosen c.requires.shape c.requires.own c.requires.alone op c.requires.is does c.requires.offers,
    )

pub fetch_or-requires : goal.fetch_or-requires
fetch_or-requires g c =
    let shape = c.args.region.now.about.shape in
    let key = c.args.region.now.table.shared.key in
    let table = c.args.region.now.table.shared.table_id in
    let seat = c.args.seat.now in
    let op : Op = g.C.Choosing.op in
    let does = sym c.requires.deed.0 ∙ (sym c.deed.ensures ∙ c.in-Mark.is) in (
      c.requires.here,
      index_below shape op c.args.act.word table.words c.args.region.now.valid c.requires.fits (word-at shape c.args.act.kind c.args.act op c.requires.is) c.args.region.now.sized,
      marks_by key.shape shape key.opening table.slots seat.id seat.me g.C.Choosing.choice (seat_choice seat.me.0 c.args.chosen) c.args.act.kind c.args.act c.requires.chosen c.requires.shape c.requires.own c.requires.alone op c.requires.is does c.requires.offers,
    )

pub returns-in-Load-clause-showed : goal.returns-in-Load-clause-showed
returns-in-Load-clause-showed g c =
    answers_found c.args.seat.now.me.0 g.C.Choosing.op deed.Load c.load.result (sym c.requires.deed.0 ∙ (sym c.deed.ensures ∙ c.in-Load.is)) (λ (e : deed.Load ≡ deed.Store). cc) c.load.ensures.2.1

pub returns-in-Exchange-clause-showed : goal.returns-in-Exchange-clause-showed
returns-in-Exchange-clause-showed g c =
    answers_found c.args.seat.now.me.0 g.C.Choosing.op deed.Exchange c.compare_exchange.result (sym c.requires.deed.0 ∙ (sym c.deed.ensures ∙ c.in-Exchange.is)) (λ (e : deed.Exchange ≡ deed.Store). cc) c.compare_exchange.ensures.2.1

pub returns-in-Mark-clause-showed : goal.returns-in-Mark-clause-showed
returns-in-Mark-clause-showed g c =
    answers_found c.args.seat.now.me.0 g.C.Choosing.op deed.Mark c.fetch_or.result (sym c.requires.deed.0 ∙ (sym c.deed.ensures ∙ c.in-Mark.is)) (λ (e : deed.Mark ≡ deed.Store). cc) c.fetch_or.ensures.2.1
