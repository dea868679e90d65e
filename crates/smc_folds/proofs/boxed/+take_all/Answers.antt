use Rattle.std.proofs.Common.{slice_index_or, pos, arith}
use Rattle.smc_folds.specs.Takings.{takes_all}
use Rattle.smc_folds.proofs.TakingLaws.{can_take_front, can_take_back, can_take_one, takes-parts, takes-one, back-number}
use Rattle.smc_folds.proofs.boxed.+take_all.Goals as goal

-- the front of the numbers may be taken
pub take_all-requires : goal.take_all-requires
take_all-requires g t c =
    let parts = c.split_at.ensures.by_index.0 in (
      grind (arith, c.decreases, c.if-values-gt1.true, c.split_at.ensures.front_len),
      (c.requires.0, c.requires.1, can_take_front c.requires.0 c.args.values.now c.split_at.result.0.now c.split_at.result.1.now parts c.requires.2),
    )

-- and behind it the back
pub take_all-requires-then-values-gt1 : goal.take_all-requires-then-values-gt1
take_all-requires-then-values-gt1 g t c =
    let parts = c.split_at.ensures.by_index.0 in
    let can = can_take_front c.requires.0 c.args.values.now c.split_at.result.0.now c.split_at.result.1.now parts c.requires.2 in (
      grind (arith, c.decreases, c.if-values-gt1.true, c.split_at.ensures.front_len, c.split_at.ensures.back_len),
      (takes_all c.requires.0 c.split_at.result.0.now, c.take_all.ensures.taken c.requires.0 c.requires.1 can, can_take_back c.requires.0 c.args.values.now c.split_at.result.0.now c.split_at.result.1.now parts c.requires.2),
    )

-- a number alone may be taken
pub take_one-requires : goal.take_one-requires
take_one-requires g t c =
    let same = back-number (slice_index_or c.args.values.now 0 (pos 0)) (c.requires.2.fits 0 (pos 0) (omega (arith, c.if-values-eq1.true))) in
    (c.requires.0, c.requires.1, can_take_one c.requires.0 c.args.values.now _ (pos 0) c.if-values-eq1.true same c.requires.2)

pub returns-then-values-gt1-clause-taken : goal.returns-then-values-gt1-clause-taken
returns-then-values-gt1-clause-taken g t c = λ taking kept can.
    let parts = c.split_at.ensures.by_index.0 in
    let front = can_take_front taking c.args.values.now c.split_at.result.0.now c.split_at.result.1.now parts can in
    let back = can_take_back taking c.args.values.now c.split_at.result.0.now c.split_at.result.1.now parts can in
    rw (takes-parts taking c.args.values.now c.split_at.result.0.now c.split_at.result.1.now parts)
    (c.take_all-then-values-gt1.ensures.taken (takes_all taking c.split_at.result.0.now) (c.take_all.ensures.taken taking kept front) back)

pub returns-then-values-eq1-clause-taken : goal.returns-then-values-eq1-clause-taken
returns-then-values-eq1-clause-taken g t c = λ taking kept can.
    let same = back-number (slice_index_or c.args.values.now 0 (pos 0)) (can.fits 0 (pos 0) (omega (arith, c.if-values-eq1.true))) in
    rw (takes-one taking c.args.values.now _ (pos 0) c.if-values-eq1.true same)
    (c.take_one.ensures.taken taking kept (can_take_one taking c.args.values.now _ (pos 0) c.if-values-eq1.true same can))
