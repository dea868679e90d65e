use Rattle.std.proofs.Common.{rules, arith}
use Rattle.std.proofs.lemmas.Grind.{common_steps}
use Rattle.smc_shape.specs.declared.place.Place.TheVariants as place
use Rattle.smc_shape.specs.Layout.{slots_of, entries_of}
use Rattle.smc_core.specs.Section.{epoch_of}
use Rattle.smc_objects.proofs.RoundLaws.{first-within, taken-within}
use Rattle.smc_objects.proofs.adding.make.Goals as goal

pub returns-in_default-claim_entry-clause-room : goal.returns-in_default-claim_entry-clause-room
returns-in_default-claim_entry-clause-room c entry below =
    let s = c.args.s.now in
    let t = c.claim_slot.new.s in
    let n = c.take.new.self in
    let e = c.claim_entry.new.s in
    taken-within s.shape t.shape s.number t.number s.local.steps t.local.steps n.local.steps e.local.steps
    (epoch_of s.local.stand.section) (epoch_of t.local.stand.section) (place.Entry c.args.c entry)
    (search rules) (search rules) (search rules) (search rules) (grind (arith, common_steps)) (c.in_default-claim_entry.ensures.cause entry (grind (arith, common_steps)))

pub returns-clause-made : goal.returns-clause-made
returns-clause-made c =
    let s = c.args.s.now in
    let t = c.claim_slot.new.s in
    let e = c.claim_entry.new.s in
    let n = c.store.new.s in
    let from = c.cursor-from.result in
    let one = c.in-Some.ensures in
    let two = c.in-Some-claim_entry.ensures in
    let epoch = epoch_of s.local.stand.section in
    record {
      slot = c.in-Some.slot;
      first = record {
        from = from;
        starts = c.cursor-from.ensures.is;
        first_slot = first-within s.shape s.shape s.number s.number s.local.steps s.local.steps n.local.steps t.local.steps epoch epoch (slots_of s.shape c.args.c) (slots_of s.shape c.args.c) from c.in-Some.slot (λ x. place.Directory c.args.c x)
            (search rules) (search rules) (search rules) (search rules) (search rules) (grind (arith, common_steps)) one.first;
        first_entry = first-within s.shape t.shape s.number t.number s.local.steps t.local.steps n.local.steps e.local.steps epoch (epoch_of t.local.stand.section) (entries_of s.shape c.args.c) (entries_of t.shape c.args.c) from c.in-Some-claim_entry.number.entry (λ x. place.Entry c.args.c x)
            (search rules) (search rules) (search rules) (search rules) (search rules) (grind (arith, common_steps)) two.first;
      };
      told = search rules;
    }
