use Rattle.std.proofs.Common.{rules, ℕ, ◌+◌, ◌*◌, ◌≤◌, subst, arith}
use Rattle.std.proofs.lemmas.Grind.{common_steps}
use Rattle.smc_shape.specs.Layout.{width_of}
use Rattle.smc_region.proofs.OwnerLaws.{owner_home}
use Rattle.smc_objects.proofs.scan.meet.Goals as goal

pub returns-in-Some-seek-clause-home : goal.returns-in-Some-seek-clause-home
returns-in-Some-seek-clause-home c =
    let s = c.args.s.now in
    owner_home s.shape s.number s.local c.args.at.coll c.args.at.slot c.take.result c.in-Some.number c.take.ensures.saw c.take.ensures.fits (search rules)

pub returns-in-Some-seek-clause-few : goal.returns-in-Some-seek-clause-few
returns-in-Some-seek-clause-few c =
    let s = c.args.s.now in let t = c.take.new.self in
    let home = owner_home s.shape s.number s.local c.args.at.coll c.args.at.slot c.take.result c.in-Some.number c.take.ensures.saw c.take.ensures.fits (search rules) in
    let few = subst (λ (k : ℕ). c.seek.new.self.local.steps ≤ t.local.steps + 4 + 2 * width_of t.shape k) home c.seek.ensures.few in
    grind (arith, common_steps, few)

pub returns-in_default-seek-clause-few : goal.returns-in_default-seek-clause-few
returns-in_default-seek-clause-few c =
    let s = c.args.s.now in let t = c.take.new.self in
    let home = owner_home s.shape s.number s.local c.args.at.coll c.args.at.slot c.take.result c.in-Some.number c.take.ensures.saw c.take.ensures.fits (search rules) in
    let few = subst (λ (k : ℕ). c.seek.new.self.local.steps ≤ t.local.steps + 4 + 2 * width_of t.shape k) home c.seek.ensures.few in
    grind (arith, common_steps, few)

pub returns-in_default-seek-2-clause-few : goal.returns-in_default-seek-2-clause-few
returns-in_default-seek-2-clause-few c =
    let s = c.args.s.now in let t = c.take.new.self in
    let home = owner_home s.shape s.number s.local c.args.at.coll c.args.at.slot c.take.result c.in-Some.number c.take.ensures.saw c.take.ensures.fits (search rules) in
    let few = subst (λ (k : ℕ). c.seek.new.self.local.steps ≤ t.local.steps + 4 + 2 * width_of t.shape k) home c.seek.ensures.few in
    grind (arith, common_steps, few)
