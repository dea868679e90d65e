use Rattle.std.proofs.Common.{rules, ◌≢◌, ◌+◌, ◌≤◌, ℕ, refl, sym, ap, ◌∙◌, subst, arith}
use Rattle.atomic_table.specs.Table.{Me}
use Rattle.smc_shape.specs.Layout.{Layout}
use Rattle.smc_shape.specs.declared.place.Place.TheVariants as place
use Rattle.smc_core.specs.declared.call.Call.TheVariants as call
use Rattle.smc_core.specs.declared.call.Choice.TheVariants as choice
use Rattle.smc_core.specs.declared.local.Local.{Local}
use Rattle.smc_core.specs.declared.section.TheConstants.{LAST_EPOCH}
use Rattle.smc_core.specs.declared.op.Op.TheVariants.{Load, Exchange}
use Rattle.smc_core.specs.declared.word.Word.TheVariants as word
use Rattle.smc_region.specs.declared.advance.Advance.{Advance}
use Rattle.smc_region.specs.declared.law.View.{View}
use Rattle.smc_region.specs.Advances.{IsCause, advancing}
use Rattle.smc_region.specs.Views.{sole}
use Rattle.smc_region.proofs.Closes.{caller_seat}
use Rattle.smc_region.specs.Named.{IsLow, Rises}
use Rattle.smc_region.specs.Reached.{Saw}
use Rattle.smc_region.proofs.NamedLaws.{latest_seen}
use Rattle.smc_region.proofs.EpochLaws.{at_end, caller_saw, later_seen, took_at, saw_low, saw_low_by}
use Rattle.smc_region.proofs.pass.Pass.advance.Goals as goal
use Rattle.smc_region.proofs.pass.Pass.advance.Goals.{then-seen-epoch-2, else-seen-epoch-2}

pub returns-then-epoch-eq-LAST_EPOCH-clause-cause :
    goal.returns-then-epoch-eq-LAST_EPOCH-clause-cause
returns-then-epoch-eq-LAST_EPOCH-clause-cause c =
    let x = c.self.inside in
    let v = c.args.self.now in record {
      from = c.plain-epoch.result;
      seen = c.step.result;
      second = sole c.step.new.seat.me.0.shape c.step.new.seat.me.0.locals;
      first = took_at v.shape v.number v.local x.seat.me c.step.new.seat.me (choice.Start call.Advance) (Load place.Epoch) c.step.result
          (caller_seat x.number x.seat.table_id x.seat.me v c.self.view_is c.self.invariant.0) c.step.ensures.offered c.step.ensures.after c.step.ensures.saw;
      is = sym c.plain-epoch.ensures;
      cause = (c.if-epoch-eq-LAST_EPOCH.true, refl);
    }

pub loop-pass-init : goal.loop-pass-init
loop-pass-init c =
    let e = saw_low _ c.step.result c.step.ensures.saw in
    let f = c.if-epoch-eq-LAST_EPOCH.false in
    let is = c.plain-epoch.ensures in record {
      table = search rules;
      number = search rules;
      cursors = search rules;
      me = search rules;
      from = search rules;
      low = omega (arith, e, f, is);
    }

pub returns-then-seen-epoch-clause-cause : goal.returns-then-seen-epoch-clause-cause
returns-then-seen-epoch-clause-cause c =
    let x = c.self.inside in
    let v = c.args.self.now in
    let low = c.loop-pass.invariant.low in
    let before = advancing v.shape v.local c.plain-epoch.result c.loop-pass.pass in
    let took = took_at v.shape v.number before c.loop-pass.self-inside.seat.me c.step-in-loop-pass.new.seat.me choice.Go (Load (place.Section c.loop-pass.pass)) c.step-in-loop-pass.result
    c.loop-pass.invariant.me c.step-in-loop-pass.ensures.offered c.step-in-loop-pass.ensures.after c.step-in-loop-pass.ensures.saw in
    record {
      from = c.plain-epoch.result;
      seen = c.step.result;
      second = sole c.step.new.seat.me.0.shape c.step.new.seat.me.0.locals;
      first = took_at v.shape v.number v.local x.seat.me c.step.new.seat.me (choice.Start call.Advance) (Load place.Epoch) c.step.result
          (caller_seat x.number x.seat.table_id x.seat.me v c.self.view_is c.self.invariant.0) c.step.ensures.offered c.step.ensures.after c.step.ensures.saw;
      is = sym c.plain-epoch.ensures;
      cause = (
        (λ e. omega arith),
        c.if-seen-ne0.true,
        c.if-seen-epoch.true,
        record {
          before = before;
          op = Load (place.Section c.loop-pass.pass);
          seen = c.step-in-loop-pass.result;
          here = refl;
          took = took;
          last = ap (λ (l : Local). l.steps) took.leads;
          is = sym c.plain-seen.ensures;
        },
      );
    }

pub returns-clause-cause : goal.returns-clause-cause
returns-clause-cause c =
    let x = c.self.inside in
    let v = c.args.self.now in
    let epoch = c.plain-epoch.result in
    let before = advancing v.shape v.local epoch c.loop-pass.pass in
    let new = sole c.step-2.new.seat.me.0.shape c.step-2.new.seat.me.0.locals in
    let second = sole c.step.new.seat.me.0.shape c.step.new.seat.me.0.locals in
    let first = took_at v.shape v.number v.local x.seat.me c.step.new.seat.me (choice.Start call.Advance) (Load place.Epoch) c.step.result
    (caller_seat x.number x.seat.table_id x.seat.me v c.self.view_is c.self.invariant.0) c.step.ensures.offered c.step.ensures.after c.step.ensures.saw in
    let took = took_at v.shape v.number before c.loop-pass.self-inside.seat.me c.step-2.new.seat.me choice.Go (Exchange place.Epoch (word.Plain epoch) (word.Plain (epoch + 1))) c.step-2.result
    c.loop-pass.invariant.me c.step-2.ensures.offered c.step-2.ensures.after c.step-2.ensures.saw in
    let last : v.shape.passes ≤ c.loop-pass.pass = subst (λ (t : Layout). t.passes ≤ c.loop-pass.pass) (sym c.requires.here.1)
    (subst (λ (n : ℕ). n ≤ c.loop-pass.pass) c.passes-pass-end.ensures.passes c.loop-pass-test.false) in
    let low = c.loop-pass.invariant.low in
    let other : epoch ≢ LAST_EPOCH = λ e. omega arith in
    let is = c.plain-seen-2.ensures in
    let cause : IsCause v.shape v.number epoch second new c.if-seen-epoch-2.result = elim c.if-seen-epoch-2.branch [
      | then-seen-epoch-2 w ↦ subst (IsCause v.shape v.number epoch second new) (sym w.result-is)
          (other, refl, at_end v.shape v.number before new epoch c.step-2.result took epoch (sym is ∙ w.if-seen-epoch-2.true))
      | else-seen-epoch-2 w ↦ subst (IsCause v.shape v.number epoch second new) (sym w.result-is) (
        other,
        later_seen v epoch c.loop-pass.pass c.plain-seen-2.result c.step-2.result took.saw last is w.if-seen-epoch-2.false,
        at_end v.shape v.number before new epoch c.step-2.result took c.plain-seen-2.result (sym is),
      )
    ] in
    record { from = epoch; seen = c.step.result; second = second; first = first; is = sym c.plain-epoch.ensures; cause = cause }

pub returns-clause-rises : goal.returns-clause-rises
returns-clause-rises c =
    let x = c.self.inside in
    let v = c.args.self.now in
    let epoch = c.plain-epoch.result in
    let low = latest_seen v.shape v.number v.local c.step.result (caller_saw x.number x.seat.table_id x.seat.me v (Load place.Epoch) c.step.result c.self.view_is c.self.invariant.0 c.step.ensures.saw) in
    let is = c.plain-epoch.ensures in
    let saw = subst (λ (m : Me (Unit {0}) View). Saw m.0 (Exchange place.Epoch (word.Plain epoch) (word.Plain (epoch + 1))) c.step-2.result) c.loop-pass.invariant.me c.step-2.ensures.saw in
    let last : v.shape.passes ≤ c.loop-pass.pass = subst (λ (t : Layout). t.passes ≤ c.loop-pass.pass) (sym c.requires.here.1)
    (subst (λ (n : ℕ). n ≤ c.loop-pass.pass) c.passes-pass-end.ensures.passes c.loop-pass-test.false) in
    elim c.if-seen-epoch-2.branch [
      | then-seen-epoch-2 w ↦ subst (λ (a : Advance). Rises v.local a) (sym w.result-is) (let e = low in omega (arith, e, is))
      | else-seen-epoch-2 w ↦ subst (λ (a : Advance). Rises v.local a) (sym w.result-is)
          (let later = later_seen v epoch c.loop-pass.pass c.plain-seen-2.result c.step-2.result saw last c.plain-seen-2.ensures w.if-seen-epoch-2.false in omega (arith, low, is, later))
    ]

pub returns-clause-low : goal.returns-clause-low
returns-clause-low c =
    let epoch = c.plain-epoch.result in
    let low = c.loop-pass.invariant.low in
    let seen = saw_low_by _ (word.Plain epoch) (word.Plain (epoch + 1)) c.step-2.result c.step-2.ensures.saw in
    let is = c.plain-seen-2.ensures in
    elim c.if-seen-epoch-2.branch [
      | then-seen-epoch-2 w ↦ subst (λ (a : Advance). IsLow a) (sym w.result-is) (let l = low in omega (arith, l))
      | else-seen-epoch-2 w ↦ subst (λ (a : Advance). IsLow a) (sym w.result-is) (let l = seen in omega (arith, l, is))
    ]
