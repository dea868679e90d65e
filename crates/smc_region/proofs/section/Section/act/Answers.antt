use Rattle.std.proofs.Common.{◌≡◌, length, refl, ap, sym, ◌∙◌, subst}
use Rattle.atomic_table.specs.Table.{Me}
use Rattle.smc_shape.specs.Layout.{Layout}
use Rattle.smc_core.specs.Machine.{local_offer}
use Rattle.smc_core.specs.Row.{OpFits, shown}
use Rattle.smc_region.specs.declared.law.View.{View}
use Rattle.smc_region.specs.Acts.{act_by, offered_op, op_in}
use Rattle.smc_region.specs.Callers.{Caller}
use Rattle.smc_region.specs.Choices.{choice_of, seat_choice}
use Rattle.smc_region.specs.Reached.{Showed}
use Rattle.smc_region.specs.Sections.{cursors_by}
use Rattle.smc_region.specs.Views.{sole_offer}
use Rattle.smc_region.proofs.ActLaws.{act_is, kind_of, offers_op}
use Rattle.smc_region.proofs.Closes.{caller_seat}
use Rattle.smc_region.proofs.Insides.{agrees-after, caller-fits}
use Rattle.smc_region.proofs.section.Section.act.Goals as goal

pub invariant_of-self : goal.invariant_of-self
invariant_of-self c =
    let x = c.self.inside in
    let i = c.self.invariant in
    let v = c.args.self.now in
    let act = c.args.act in
    let new = c.step_by-number.new.seat in
    let choice = choice_of v.local.stand.scans c.args.chosen in
    let offered = local_offer v.shape v.number v.local choice in
    let op = offered_op v choice in
    let offers = offers_op v.shape act offered c.requires.offered in
    let told = sym (ap (λ (k : Caller). k.shape) c.self.view_is) ∙ i.2.1 in
    let fits = subst (λ (t : Layout). OpFits t op) i.2.1 (caller-fits x.number x.seat.table_id x.seat.me v choice op c.self.view_is i.0 i.1 offers) in
    let is = subst (λ (t : Layout). act ≡ act_by t act.kind op) told (act_is v.shape act offered c.requires.offered) in
    let kind = kind_of v.shape v.number v.local choice act offered refl c.requires.offered in
    let moved = c.move_cursor_by.ensures.moved op fits is kind in
    let w = shown (op_in (sole_offer x.seat.me.0 (seat_choice x.seat.me.0 c.args.chosen))) c.step_by-number.result in
    let a = agrees-after x.region.now.about.shape x.number x.seat.table_id x.seat.me new.me v c.args.chosen op w x.epoch x.calm x.scans x.cursors.value.items c.move_cursor_by.new.cursors.value.items
    c.self.view_is record { seat = i.0; shape = i.2.1; section = i.3; scans = i.4; cursors = i.5 } c.requires.within offers
    c.step_by-number.ensures.after (moved ∙ ap (λ (t : Layout). cursors_by t x.cursors.value.items op) (sym i.2.1)) in (
      a.seat,
      c.step_by-number.ensures.stands,
      (c.step_by-number.ensures.same.0 ∙ i.2.0, a.shape),
      a.section,
      a.scans ∙ sym c.scans_with-self-inside.ensures,
      a.cursors,
      c.move_cursor_by.ensures.long ∙ (i.6 ∙ ap (λ (t : Layout). length t.colls) (i.2.1 ∙ sym a.shape)),
    )

pub returns-clause-showed : goal.returns-clause-showed
returns-clause-showed c =
    let x = c.self.inside in
    let v = c.args.self.now in
    subst (λ (m : Me (Unit {0}) View). Showed m.0 (op_in (sole_offer m.0 (seat_choice m.0 c.args.chosen))) c.step_by-number.result)
    (caller_seat x.number x.seat.table_id x.seat.me v c.self.view_is c.self.invariant.0) c.step_by-number.ensures.showed

pub returns-clause-fits : goal.returns-clause-fits
returns-clause-fits c =
    let x = c.self.inside in
    let v = c.args.self.now in
    let choice = choice_of v.local.stand.scans c.args.chosen in
    let op = offered_op v choice in
    subst (λ (k : Caller). OpFits k.shape op) c.self.view_is
    (caller-fits x.number x.seat.table_id x.seat.me v choice op c.self.view_is c.self.invariant.0 c.self.invariant.1 (offers_op v.shape c.args.act (local_offer v.shape v.number v.local choice) c.requires.offered))
