use Rattle.smc_machine.proofs.machine.take_part.Goals as goal

pub returns-clause-words : goal.returns-clause-words
returns-clause-words c =
    c.steps_keep_words.ensures c.args.row.now.shape c.args.pass c.args.local.now.stand c.args.choice.now c.args.chosen.offer
    (rw c.shape.ensures.shape at c.shape.ensures.valid) c.requires.here c.requires.fits c.requires.offers
