use Rattle.std.proofs.Common.{[], ◌∷◌}
use Rattle.smc_tokens.specs.declared.sign.Sign.TheVariants as signs
use Rattle.smc_tokens.specs.declared.token.Token.TheVariants.{Name}
use Rattle.smc_print.proofs.expr.write_path.Goals as goal
use Rattle.smc_print.proofs.WriteLaws.{writes_next}

pub loop-place-preserved : goal.loop-place-preserved
loop-place-preserved c =
    writes_next signs.Dot (λ name. Name name ∷ []) c.as_slice-names.result.now c.loop-place.place c.index-names-place.result c.args.text.now c.loop-place.text c.write_between.new.text c.write_name.new.text
    c.loop-place-test.true c.index-names-place.is c.loop-place.invariant c.in_ok-write_between.ensures c.in_ok-write_name.ensures
