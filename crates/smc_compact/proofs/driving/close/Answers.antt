use Rattle.std.proofs.Common.{refl}
use Rattle.smc_core.specs.declared.done.Done.TheVariants as done
use Rattle.smc_region.specs.declared.advance.Advance.TheVariants as advance
use Rattle.smc_compact.specs.declared.outcome.Outcome.TheVariants as outcome
use Rattle.smc_compact.specs.declared.outcome.Waited.TheVariants as waited
use Rattle.smc_compact.proofs.DriveLaws.{closes, wait-by}
use Rattle.smc_compact.proofs.RoundLaws.{round-still}
use Rattle.smc_compact.proofs.driving.close.Goals as goal

pub returns-in-Named-clause-closed : goal.returns-in-Named-clause-closed
returns-in-Named-clause-closed c =
    let n = c.finish_round-p.result.1 in
    closes c.args.round.bound c.args.turns c.args.p c.wait.new.p c.finish_round-p.result.0 (waited.Named c.in-Named.left)
    (done.Finished n.moved n.abandoned n.gone) (outcome.Done n.moved n.abandoned n.gone) c.in-Named.ensures.waited c.finish_round-p.ensures.ended refl refl (λ waits cause. tt)

pub returns-in-Later-clause-closed : goal.returns-in-Later-clause-closed
returns-in-Later-clause-closed c =
    closes c.args.round.bound c.args.turns c.args.p c.wait.new.p c.cancel_round.result (waited.Later c.in-Later.pass c.in-Later.seen)
    done.Cancelled (outcome.Later c.in-Later.pass c.in-Later.seen) c.in-Later.ensures.waited c.cancel_round.ensures.ended refl refl
    (λ waits cause. wait-by c.args.p c.wait.new.p waits (advance.NotYet c.in-Later.pass c.in-Later.seen) cause)

pub returns-in-Spent-clause-closed : goal.returns-in-Spent-clause-closed
returns-in-Spent-clause-closed c =
    closes c.args.round.bound c.args.turns c.args.p c.wait.new.p c.cancel_round-in-Spent.result waited.Spent
    done.Cancelled outcome.Spent c.in-Spent.ensures.waited c.cancel_round-in-Spent.ensures.ended refl refl
    (λ waits cause. wait-by c.args.p c.wait.new.p waits advance.Spent cause)

pub finish_round-p-requires-clause-round : goal.finish_round-p-requires-clause-round
finish_round-p-requires-clause-round c = round-still c.args.p c.wait.new.p c.args.round c.wait.ensures.same c.wait.ensures.round c.requires.round

pub cancel_round-requires-clause-round : goal.cancel_round-requires-clause-round
cancel_round-requires-clause-round c = round-still c.args.p c.wait.new.p c.args.round c.wait.ensures.same c.wait.ensures.round c.requires.round

pub cancel_round-requires-in-Spent-clause-round : goal.cancel_round-requires-in-Spent-clause-round
cancel_round-requires-in-Spent-clause-round c = round-still c.args.p c.wait.new.p c.args.round c.wait.ensures.same c.wait.ensures.round c.requires.round
