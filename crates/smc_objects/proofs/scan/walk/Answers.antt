use Rattle.std.proofs.Common.{rules, ◌≡◌, ◌+◌, refl, sym, subst, arith}
use Rattle.std.proofs.lemmas.Grind.{common_steps}
use Rattle.smc_region.specs.declared.held.Held.{Held}
use Rattle.smc_objects.specs.Scanning.{number_at, visiting}
use Rattle.smc_objects.proofs.ScanLaws.{looks-now, meets-now, passes-now}
use Rattle.smc_objects.proofs.scan.walk.Goals as goal

pub try_slot-requires : goal.try_slot-requires
try_slot-requires c =
    let s = c.args.s.now in
    let t = c.loop-slot.s in
    record { phase = looks-now s.shape s.local (number_at s.local c.args.scan) c.args.coll c.loop-slot.slot t.local.steps c.args.scan refl t.local c.loop-slot.invariant.local (grind (arith, common_steps)) }

pub returns-in-Some-try_slot-clause-met : goal.returns-in-Some-try_slot-clause-met
returns-in-Some-try_slot-clause-met c =
    let s = c.args.s.now in
    let t = c.loop-slot.s in
    let h = c.held-in-Some-try_slot.result in (
      grind (arith, common_steps),
      grind (arith, common_steps),
      subst (λ (k : Held). c.try_slot.new.s.local ≡ visiting s.local (number_at s.local c.args.scan) k.number k.place c.try_slot.new.s.local.steps) (sym c.held-in-Some-try_slot.ensures)
          (meets-now s.shape s.local (number_at s.local c.args.scan) c.args.coll c.loop-slot.slot t.local.steps c.args.scan refl t.local c.try_slot.new.s.local c.in-Some-try_slot.number c.loop-slot.slot c.try_slot.new.s.local.steps
          c.loop-slot.invariant.local c.in-Some-try_slot.ensures.met),
    )

pub loop-slot-preserved : goal.loop-slot-preserved
loop-slot-preserved c =
    let s = c.args.s.now in
    let t = c.loop-slot.s in
    record {
      same = search rules;
      ahead = grind (arith, common_steps);
      few = grind (arith, common_steps);
      local = passes-now s.shape s.local (number_at s.local c.args.scan) c.args.coll c.loop-slot.slot t.local.steps c.args.scan refl t.local c.try_slot.new.s.local t.shape (c.loop-slot.slot + 1) c.try_slot.new.s.local.steps
          c.loop-slot.invariant.local (search rules) (search rules);
    }
