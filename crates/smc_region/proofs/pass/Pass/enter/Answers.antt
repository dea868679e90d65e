use Rattle.std.proofs.Common.{rules, ◌≡◌, [], subst, ap, arith}
use Rattle.atomic_table.specs.Table.{Me}
use Rattle.smc_shape.specs.declared.place.Place.TheVariants as place
use Rattle.smc_core.specs.declared.call.Call.TheVariants as call
use Rattle.smc_core.specs.declared.call.Choice.TheVariants.{Start, Go}
use Rattle.smc_core.specs.declared.local.Local.{Local}
use Rattle.smc_core.specs.declared.op.Op.TheVariants.{Load}
use Rattle.smc_core.specs.declared.phase.Phase.{Phase}
use Rattle.smc_core.specs.declared.phase.Phase.TheVariants.{Idle}
use Rattle.smc_core.specs.declared.section.Section.{Section}
use Rattle.smc_core.specs.declared.section.Section.TheVariants.{Loaded}
use Rattle.smc_core.specs.Local.{after, answered, section_after}
use Rattle.smc_core.specs.Section.{entering_change, epoch_of}
use Rattle.smc_core.specs.Words.{plain_of}
use Rattle.smc_region.specs.declared.chosen.Chosen.TheVariants as chosen
use Rattle.smc_region.specs.declared.law.View.{View}
use Rattle.smc_region.specs.Callers.{Caller}
use Rattle.smc_region.specs.Choices.{seat_choice}
use Rattle.smc_region.specs.Named.{latest}
use Rattle.smc_region.specs.Reached.{Saw}
use Rattle.smc_region.specs.Views.{one, sole, view_after}
use Rattle.smc_region.proofs.Closes.{caller_seat}
use Rattle.smc_region.proofs.NamedLaws.{latest_seen}
use Rattle.smc_region.proofs.pass.Pass.enter.Goals as goal

pub returns-clause-late : goal.returns-clause-late
returns-clause-late c =
    let x = c.self.inside in
    let v : Caller = c.args.self in
    let l1 : Local = after v.shape v.number v.local (Start call.Enter) 0 c.step.result in
    let l2 : Local = after v.shape v.number l1 Go 0 c.step-2.result in
    let me0 : x.seat.me ≡ (one v.shape v.number v.local, []) = caller_seat x.number x.seat.table_id x.seat.me v c.self.view_is c.self.invariant.0 in
    let me1 : c.step.new.seat.me ≡ (one v.shape v.number l1, []) =
    subst (λ (m : Me (Unit {0}) View). c.step.new.seat.me ≡ (view_after (seat_choice m.0 chosen.Enter) 0 c.step.result m.0, m.1)) me0 c.step.ensures.after in
    let me2 : c.step-2.new.seat.me ≡ (one v.shape v.number l2, []) =
    subst (λ (m : Me (Unit {0}) View). c.step-2.new.seat.me ≡ (view_after (seat_choice m.0 chosen.Go) 0 c.step-2.result m.0, m.1)) me1 c.step-2.ensures.after in
    let low = latest_seen v.shape v.number l2 c.step-3.result (subst (λ (m : Me (Unit {0}) View). Saw m.0 (Load place.Epoch) c.step-3.result) me2 c.step-3.ensures.saw) in
    let idle : v.local.stand.phase ≡ Idle = subst (λ (k : Caller). k.local.stand.phase ≡ Idle) c.self.view_is c.self.invariant.1.phase in
    let section : l1.stand.section ≡ Loaded (plain_of c.step.result) = ap (λ (p : Phase). section_after v.local.stand.section p (Start call.Enter) c.step.result) idle in
    let same : latest l2.answers ≡ latest v.local.answers = ap (λ (s : Section). latest (answered v.local.answers 0 (entering_change s).answer)) section in
    let is : epoch_of (sole c.step-5.new.seat.me.0.shape c.step-5.new.seat.me.0.locals).stand.section ≡ c.plain-epoch.result = search rules in
    let seen = c.plain-epoch.ensures in
    omega (arith, low, same, is, seen)
