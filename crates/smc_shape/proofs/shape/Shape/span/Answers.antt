use Rattle.std.proofs.Common.{subst, arith}
use Rattle.smc_shape.specs.Layout.{Layout, IsShape}
use Rattle.smc_shape.proofs.PlaceLaws.{coll-within}
use Rattle.smc_shape.proofs.shape.Shape.span.Goals as goal

pub returns-clause-within : goal.returns-clause-within
returns-clause-within c =
    let valid : IsShape c.args.self.now = subst (λ (shape : Layout). IsShape shape) c.self.view_is c.self.invariant.valid in
    omega (arith, coll-within c.args.self.now c.args.c c.requires, valid.words)
