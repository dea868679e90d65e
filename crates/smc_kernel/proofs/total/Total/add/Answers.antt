use Rattle.std.proofs.Common.{◌≡◌, ◌+ℤ◌, to_z, of_z, sym, ap, ◌∙◌, arith}
use Rattle.std.specs.Int.{w128}
use Rattle.std.proofs.lemmas.Int.{ints}
use Rattle.smc_plan.specs.Typed.{typed_tree}
use Rattle.smc_kernel.specs.Batches.{rows_at}
use Rattle.smc_kernel.proofs.SumLaws.{sum-both}
use Rattle.smc_kernel.proofs.total.Total.add.Goals as goal

pub returns-clause-total : goal.returns-clause-total
returns-clause-total c = λ rows is.
    let sum : c.together-self.result ≡ c.args.self.now.sum +ℤ c.sum_at-more.result =
    omega (arith, ints, c.together-self.ensures, c.requires.fits.small, c.requires.kept, c.sum_at-more.ensures.small, c.requires.places.few) in
    let same : to_z w128 (of_z w128 c.together-self.result) ≡ c.together-self.result =
    omega (arith, ints, sum, c.requires.fits.small, c.requires.kept, c.sum_at-more.ensures.small, c.requires.places.few) in
    same ∙ sum ∙ sum-both c.args.leaves.now (typed_tree c.args.of.now.typed) rows (rows_at c.args.batch.now.rows c.args.places.now) c.args.self.now.sum c.sum_at-more.result is c.sum_at-more.ensures.total
