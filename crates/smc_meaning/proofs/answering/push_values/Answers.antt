use Rattle.smc_meaning.proofs.AnswerLaws.{key_showable}
use Rattle.smc_meaning.proofs.answering.push_values.Goals as goal

pub shown_at-requires-clause-showable : goal.shown_at-requires-clause-showable
shown_at-requires-clause-showable c = key_showable c.args.leaves.now c.args.places.now c.loop-place.place-index 0 c.loop-place-test.true c.requires.places
