use Rattle.std.proofs.Common.{◌<◌, length, ap, sym, ◌∙◌, subst}
use Rattle.smc_shape.specs.Layout.{Layout}
use Rattle.smc_region.specs.Callers.{Caller}
use Rattle.smc_region.proofs.Insides.{coll_within}
use Rattle.smc_region.proofs.section.Section.copy.Goals as goal

pub width-width-requires : goal.width-width-requires
width-width-requires c = subst (λ (t : Layout). c.args.number.coll < length t.colls)
    (sym c.take.ensures.same.1 ∙ (ap (λ (v : Caller). v.shape) (sym c.self.view_is) ∙ c.self.invariant.2.1))
    (coll_within c.args.self.now.shape.colls c.args.number.coll c.args.slot c.take.ensures.fits)
