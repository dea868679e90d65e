use Rattle.std.proofs.Common.{◌≡◌, length, ap, ◌∙◌, arith}
use Rattle.smc_shape.specs.Layout.{asked}
use Rattle.smc_shape.specs.Places.{start_of}
use Rattle.smc_shape.proofs.AskedLaws.{asked-width, start_of-next, start_of-last}
use Rattle.smc_shape.proofs.fault.words_asked.Goals as goal

pub words-words-requires : goal.words-words-requires
words-words-requires c = asked-width c.args.colls.now c.loop-coll.coll-index c.requires.sound c.loop-coll-test.true

pub loop-coll-preserved : goal.loop-coll-preserved
loop-coll-preserved c = record {
  so_far = omega (arith, start_of-next c.args.passes c.args.colls.now c.loop-coll.coll-index c.loop-coll-test.true, c.words-words.ensures.words, c.loop-coll.invariant.so_far);
  few = omega arith;
}

pub returns : goal.returns
returns c =
    let all : c.loop-coll.coll-index ≡ length c.args.colls.now = omega arith in
    c.loop-coll.invariant.so_far ∙ (ap (start_of (asked c.args.passes c.args.colls.now)) all ∙ start_of-last c.args.passes c.args.colls.now)
