use Rattle.std.proofs.Common.{[]}
use Rattle.smc_does.proofs.DoesLaws.{does-nothing, does-then, stays-then}
use Rattle.smc_visits.specs.Rows.{arrives, meets_null, misses, wrong_width}
use Rattle.smc_visits.proofs.RowLaws.{empty, follows-on}
use Rattle.smc_visits.proofs.row.+follow.Goals as goal

pub returns-in_default-clause-done : goal.returns-in_default-clause-done
returns-in_default-clause-done t c = ([], does-nothing _, rw (empty c.args.hops.now c.in_default.ensures.cases) arrives)

pub returns-then-not-has_width-clause-done : goal.returns-then-not-has_width-clause-done
returns-then-not-has_width-clause-done t c = ([], does-nothing _, rw c.in-Some.ensures.cases.0 (wrong_width (c.if-not-has_width.ensures c.args.s.now.shape c.requires.here)))

pub returns-in_default-unpack-clause-done : goal.returns-in_default-unpack-clause-done
returns-in_default-unpack-clause-done t c =
    (_, c.read_at-word.ensures.done, rw c.in-Some.ensures.cases.0 (meets_null (c.if-not-has_width.ensures c.args.s.now.shape c.requires.here) c.in_default-unpack.ensures.none))

pub returns-in-None-clause-done : goal.returns-in-None-clause-done
returns-in-None-clause-done t c = (
  _,
  does-then c.read_at-word.ensures.done c.in-None.ensures.done,
  rw c.in-Some.ensures.cases.0 (misses (c.if-not-has_width.ensures c.args.s.now.shape c.requires.here) c.in-Some-unpack.ensures.some),
)

pub returns-in-None-clause-stays : goal.returns-in-None-clause-stays
returns-in-None-clause-stays t c = stays-then c.read_at-word.ensures.stays c.in-None.ensures.stays

pub returns-in-Some-find-clause-done : goal.returns-in-Some-find-clause-done
returns-in-Some-find-clause-done t c =
    let rest = c.follow.ensures.done in
    let there = does-then c.read_at-word.ensures.done c.in-Some-find.ensures.done in (
      _,
      does-then c.read_at-word.ensures.done (does-then c.in-Some-find.ensures.done rest.1),
      rw c.in-Some.ensures.cases.0
          (follows-on there.same.1 c.in-Some-find.ensures.holds.1 (c.if-not-has_width.ensures c.args.s.now.shape c.requires.here) c.in-Some-unpack.ensures.some rest.2),
    )

pub returns-in-Some-find-clause-stays : goal.returns-in-Some-find-clause-stays
returns-in-Some-find-clause-stays t c = stays-then c.read_at-word.ensures.stays (stays-then c.in-Some-find.ensures.stays c.follow.ensures.stays)
