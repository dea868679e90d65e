-- A state that the region reaches has a history.
use Rattle.std.proofs.Common.{refl}
use Rattle.smc_model.specs.World.{empty_world}
use Rattle.smc_core.specs.Machine.{Machine}
use Rattle.smc_rules.specs.History.{HoldsAlways}
use Rattle.smc_refine.specs.Orders.{HistoriesAreLawful}
use Rattle.smc_census.specs.Laws.{BlocksAreEnough, HomesAreObjects}
use Rattle.smc_chronicle.specs.Chronicle.{HistoriesHaveChronicles}
use Rattle.smc_region.proofs.StepLaws.{was}
use Rattle.smc_history.specs.Happened.{WhatHappenedIsLawful}

pub happening : HistoriesAreLawful → HoldsAlways HomesAreObjects → HoldsAlways BlocksAreEnough → HistoriesHaveChronicles → WhatHappenedIsLawful
happening lawful homes blocks chronicles shape opening row locals r =
    let m : Machine = record { row = row; locals = locals } in
    let h = was r in
    let is = lawful shape opening empty_world m r.valid h in record {
      history = h;
      is_lawful = is;
      logs = record { order = _; one_order = is.one_order; replay = is.replay; scans_once = is.scans_once };
      by_steps = refl;
      homes = homes shape opening empty_world m r.valid h;
      blocks = blocks shape opening empty_world m r.valid h;
      chronicle = chronicles shape opening m r.valid h;
    }
