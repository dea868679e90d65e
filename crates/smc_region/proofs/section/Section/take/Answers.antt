use Rattle.std.proofs.Common.{ap, sym, ◌∙◌, subst}
use Rattle.std.specs.Prelude.{length}
use Rattle.smc_shape.specs.Layout.{Layout}
use Rattle.smc_core.specs.Row.{OpFits}
use Rattle.smc_region.specs.Callers.{Caller}
use Rattle.smc_region.specs.Choices.{choice_of}
use Rattle.smc_region.specs.Sections.{cursors_by}
use Rattle.smc_region.proofs.Insides.{agrees-after, caller-fits}
use Rattle.smc_region.proofs.section.Section.take.Goals as goal

pub move_cursor-requires-clause-fits : goal.move_cursor-requires-clause-fits
move_cursor-requires-clause-fits c =
    let x = c.self.inside in
    let v = c.args.self.now in
    subst (λ (t : Layout). OpFits t c.args.op) c.self.invariant.2.1
    (caller-fits x.number x.seat.table_id x.seat.me v (choice_of v.local.stand.scans c.args.chosen) c.args.op c.self.view_is c.self.invariant.0 c.self.invariant.1 c.requires.offered)

pub invariant_of-self : goal.invariant_of-self
invariant_of-self c =
    let x = c.self.inside in
    let i = c.self.invariant in
    let new = c.step-word.new.seat in
    let a = agrees-after c.self.inside.region.now.about.shape x.number x.seat.table_id x.seat.me new.me c.args.self.now c.args.chosen c.args.op c.step-word.result x.epoch x.calm x.scans x.cursors.value.items c.move_cursor.new.cursors.value.items
    c.self.view_is record { seat = i.0; shape = i.2.1; section = i.3; scans = i.4; cursors = i.5 } c.requires.within c.requires.offered
    c.step-word.ensures.after (c.move_cursor.ensures.moved ∙ ap (λ (t : Layout). cursors_by t x.cursors.value.items c.args.op) (sym i.2.1)) in (
      a.seat,
      c.step-word.ensures.stands,
      (c.step-word.ensures.same.0 ∙ i.2.0, a.shape),
      a.section,
      a.scans ∙ sym c.scans_with-self-inside.ensures,
      a.cursors,
      c.move_cursor.ensures.long ∙ (i.6 ∙ ap (λ (t : Layout). length t.colls) (i.2.1 ∙ sym a.shape)),
    )

pub returns-clause-fits : goal.returns-clause-fits
returns-clause-fits c =
    let x = c.self.inside in
    let v = c.args.self.now in
    subst (λ (k : Caller). OpFits k.shape c.args.op) c.self.view_is
    (caller-fits x.number x.seat.table_id x.seat.me v (choice_of v.local.stand.scans c.args.chosen) c.args.op c.self.view_is c.self.invariant.0 c.self.invariant.1 c.requires.offered)
