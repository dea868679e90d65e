use Rattle.std.proofs.Common.{◌≡◌, Ok, Err, refl, sym, subst, arith}
use Rattle.smc_model.specs.declared.event.Reply.TheVariants.{Fits, Unfit}
use Rattle.smc_model.specs.World.{World, HasField}
use Rattle.smc_model.proofs.WorldLaws.{HasField-added}
use Rattle.smc_model.proofs.model.tests.add_largest.Goals as goal

pub returns : goal.returns
returns c =
    let kept = λ (e : c.apply.new.self ≡ c.args.model.now). subst (λ (world : World). HasField world 0 1) (sym e) c.requires in
    elim c.apply.result as (λ r. c.apply.result ≡ r → HasField c.apply.new.self 0 1) [
      | Ok Fits ↦ λ p.
          let fits = c.apply.ensures.done p in
          subst (λ (world : World). HasField world 0 1) (sym fits.1) (HasField-added _ _ _ _ fits.0.0 0 1 (rw (c.in_ok-words.ensures.done) (omega arith)) c.requires)
      | Ok Unfit ↦ λ p. kept (c.apply.ensures.kept p)
      | Err e ↦ λ p. kept (rw p at c.apply.ensures.kept_at_err)
    ] refl
