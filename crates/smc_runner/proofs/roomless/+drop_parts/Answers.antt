use Rattle.smc_runner.proofs.DropLaws.{drops-more, drops-none, drops-stop}
use Rattle.smc_runner.proofs.roomless.+drop_parts.Goals as goal

pub returns-in-None-clause-ends : goal.returns-in-None-clause-ends
returns-in-None-clause-ends g t c = λ scene. drops-none scene c.args.parts.now _ _ c.in-None.ensures.cases

pub returns-in-Done-clause-ends : goal.returns-in-Done-clause-ends
returns-in-Done-clause-ends g t c = λ scene.
    rw c.in-Some.ensures.cases.0 (drops-more scene c.drop_parts.result _ _ _ _ _ _ _ (c.in-Done.ensures.ends scene) (c.drop_parts.ensures.ends scene))

pub returns-in_default : goal.returns-in_default
returns-in_default g t c = record {
  ends = λ scene. rw c.in-Some.ensures.cases.0 (drops-stop scene c.drop_part.result _ _ _ _ _ _ c.in_default.not-Done (c.drop_part.ensures.ends scene));
  cause = c.drop_part.ensures.cause;
  later = c.drop_part.ensures.later;
}
