use Rattle.std.proofs.Common.{ap, ◌∙◌}
use Rattle.std.specs.Prelude.{slice_index}
use Rattle.std.specs.Slots.{slots_items}
use Rattle.smc_region.specs.Ends.{Ended}
use Rattle.smc_region.proofs.Closes.{index_found}
use Rattle.smc_region.proofs.close.Quiet.word.Goals as goal

pub returns : goal.returns
returns c = index_found (slots_items c.self.inside.closed.words) c.args.i c.word.result c.word.ensures ∙ ap (λ (e : Ended). slice_index e.words c.args.i) c.self.view_is
