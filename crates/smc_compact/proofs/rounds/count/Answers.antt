use Rattle.std.proofs.Common.{rules, true, arith}
use Rattle.std.proofs.lemmas.Grind.{common_steps}
use Rattle.smc_compact.proofs.ShownLaws.{one-counted, walk-on}
use Rattle.smc_compact.proofs.rounds.count.Goals as goal

pub loop-slot-preserved : goal.loop-slot-preserved
loop-slot-preserved c =
    let s = c.args.s.now in
    let t = c.loop-slot.s in
    let n = c.count_slot-count.new.s in
    let i = c.loop-slot.invariant in
    record {
      same = search rules;
      steps = grind (arith, common_steps);
      later = grind (arith, common_steps);
      few = search rules;
      counted = one-counted s.shape t.shape s.number t.number s.local.steps t.local.steps n.local.steps c.args.c c.loop-slot.slot c.loop-slot.count c.count_slot-count.result
          i.same.1 i.same.2 i.later c.count_slot-count.ensures.later i.counted c.count_slot-count.ensures.shown;
      local = walk-on true s.shape t.shape s.local t.local n.local c.args.c c.loop-slot.slot c.loop-slot.count c.count_slot-count.result i.same.1 (search rules) i.local c.count_slot-count.ensures.counted;
    }
