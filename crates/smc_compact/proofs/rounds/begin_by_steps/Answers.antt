use Rattle.std.proofs.Common.{rules, ◌≡◌, ℕ, ◌+◌, ◌*◌, ◌≤◌, sym, subst, arith}
use Rattle.std.proofs.lemmas.Grind.{common_steps}
use Rattle.smc_shape.specs.Layout.{IsShape, Layout, slots_of, width_of}
use Rattle.smc_shape.proofs.PlaceLaws.{coll-small}
use Rattle.smc_region.specs.Callers.{Caller}
use Rattle.smc_compact.proofs.ShownLaws.{counts-for}
use Rattle.smc_compact.proofs.StepCounts.{all-few, none-few}
use Rattle.smc_compact.proofs.rounds.begin_by_steps.Goals as goal
use Rattle.smc_compact.proofs.rounds.begin_by_steps.Goals.{else-loop-source-test, then-loop-source-test+in-None}

pub blocks_for-needed-requires : goal.blocks_for-needed-requires
blocks_for-needed-requires c =
    let s = c.args.s.now in
    let valid : IsShape s.shape = search rules in
    let small = (coll-small s.shape c.args.c valid).0 in
    let few = c.count-count.ensures.few.objects in
    let slots = c.slots-slots.ensures in
    grind (arith, common_steps)

pub returns-then-count-needed-clause-counted : goal.returns-then-count-needed-clause-counted
returns-then-count-needed-clause-counted c =
    let old = c.args.s.now in
    let middle = c.take.new.self in
    counts-for old c.take-then-count-needed.new.self middle.shape middle.number middle.local.steps c.count-count.new.s.local.steps c.args.c c.count-count.result.objects c.count-count.result.blocks
    c.take.ensures.same.1 c.take.ensures.same.2 (search rules) (search rules) c.count-count.ensures.counted (search rules)

pub returns-clause-few : goal.returns-clause-few
returns-clause-few c =
    let s = c.args.s.now in
    let i = c.loop-source.invariant in
    let walk = c.loop-source.walk in
    let width = width_of s.shape c.args.c in
    let many : c.slots-slots.result ≡ slots_of s.shape c.args.c = search rules in
    elim c.loop-source-test.branch [
      | else-loop-source-test w ↦ subst (λ (k : Caller). k.local.steps ≤ s.local.steps + 2 + slots_of s.shape c.args.c * (width + 13)) (sym w.s-is)
          (subst (λ (n : ℕ). c.loop-source.s.local.steps ≤ s.local.steps + 2 + n * (width + 13)) many
          (all-few c.loop-source.s.local.steps s.local.steps c.slots-slots.result (c.blocks_for-needed.result * 64) c.loop-source.source walk.target width
          i.steps i.low i.near))
      | then-loop-source-test+in-None w ↦ subst (λ (k : Caller). k.local.steps ≤ s.local.steps + 2 + slots_of s.shape c.args.c * (width + 13)) (sym w.s-is)
          (subst (λ (n : ℕ). w.move_source.new.s.local.steps ≤ s.local.steps + 2 + n * (width + 13)) many
          (none-few w.move_source.new.s.local.steps c.loop-source.s.local.steps s.local.steps c.slots-slots.result (c.blocks_for-needed.result * 64) c.loop-source.source walk.target width
          (subst (λ (k : ℕ). w.move_source.new.s.local.steps + walk.target * (width + 7) ≤ c.loop-source.s.local.steps + 3 + k * (width + 7)) i.kept
          (subst (λ (k : ℕ). w.move_source.new.s.local.steps + walk.target * (width_of s.shape k + 7) ≤ c.loop-source.s.local.steps + 3 + walk.kept * (width_of s.shape k + 7)) i.coll
          (subst (λ (k : Layout). w.move_source.new.s.local.steps + walk.target * (width_of k walk.coll + 7) ≤ c.loop-source.s.local.steps + 3 + walk.kept * (width_of k walk.coll + 7)) i.same.1
          w.in-None.ensures.steps)))
          i.steps c.loop-source.auto.source w.loop-source-test.true))
    ]
