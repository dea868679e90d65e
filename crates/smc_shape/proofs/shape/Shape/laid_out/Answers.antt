use Rattle.std.proofs.Common.{◌≡◌, ◌<◌, length, refl, arith}
use Rattle.std.proofs.lemmas.List.{length-set}
use Rattle.smc_shape.specs.Layout.{asked}
use Rattle.smc_shape.specs.Places.{start_of}
use Rattle.smc_shape.proofs.AskedLaws.{asked-width, no-colls_fault, start_of-next}
use Rattle.smc_shape.proofs.SpanLaws.{next-within, few-asked, spans-more, starts-more, spans-all}
use Rattle.smc_shape.proofs.shape.Shape.laid_out.Goals as goal

pub words-requires : goal.words-requires
words-requires c =
    asked-width c.args.colls.now c.loop-c.c (no-colls_fault c.args.passes c.args.colls.now c.requires) c.loop-c-test.true

pub overflow_cast-start : goal.overflow_cast-start
overflow_cast-start c =
    omega (arith, next-within c.args.passes c.args.colls.now c.loop-c.c c.requires c.loop-c-test.true, c.words.ensures.words)

pub overflow_add-start-in-loop-c : goal.overflow_add-start-in-loop-c
overflow_add-start-in-loop-c c =
    omega (arith, next-within c.args.passes c.args.colls.now c.loop-c.c c.requires c.loop-c-test.true, c.words.ensures.words, c.loop-c.invariant.next)

pub loop-c-preserved : goal.loop-c-preserved
loop-c-preserved c =
    let few = few-asked c.args.passes c.args.colls.now c.requires in
    let room : c.loop-c.c < length c.loop-c.spans = omega (arith, c.loop-c.invariant.room, few) in
    record {
      room = rw length-set c.loop-c.invariant.room;
      next = omega (arith, start_of-next c.args.passes c.args.colls.now c.loop-c.c c.loop-c-test.true, c.words.ensures.words, c.loop-c.invariant.next);
      colls = spans-more c.loop-c.spans c.args.colls.now c.loop-c.c _ room c.loop-c-test.true refl c.loop-c.invariant.colls;
      starts = starts-more (start_of (asked c.args.passes c.args.colls.now)) c.loop-c.spans c.loop-c.c _ room c.loop-c.invariant.next c.loop-c.invariant.starts;
    }

pub invariant_of-result : goal.invariant_of-result
invariant_of-result c =
    let all : c.loop-c.c ≡ length c.args.colls.now = omega arith in
    let laid_out = spans-all c.args.passes c.loop-c.start c.loop-c.c c.args.colls.now c.loop-c.spans c.requires all
    c.loop-c.invariant.colls c.loop-c.invariant.next c.loop-c.invariant.starts in
    rw (← all) laid_out
