-- Each history has its chronicle.
use Rattle.std.proofs.Common.{◌++◌}
use Rattle.smc_model.specs.World.{empty_world}
use Rattle.smc_calls.specs.Laws.{CallsAreMade}
use Rattle.smc_epochs.specs.Epochs.{EpochsAreCounted}
use Rattle.smc_alone.specs.Laws.{AloneIsCalm, RefusedIsFull, SurveyBehindDrive, SurveyIsExact}
use Rattle.smc_chronicle.specs.Chronicle.{HistoriesHaveChronicles}
use Rattle.smc_chronicle.proofs.EachWorld.{each-world}
use Rattle.smc_chronicle.proofs.FullPlaces.{full-place}
use Rattle.smc_chronicle.proofs.Places.{event-place}
use Rattle.smc_chronicle.proofs.Room.{add-room}
use Rattle.smc_chronicle.proofs.SurveyPlaces.{packed-place, surveyed-place}

pub chronicles : CallsAreMade → RefusedIsFull → SurveyIsExact → SurveyBehindDrive → AloneIsCalm → EpochsAreCounted → HistoriesHaveChronicles
chronicles made refused surveys packs calm epochs shape opening m valid h = record {
  traces = λ pass l here idle. made shape h.start pass h.steps m l h.leads here idle;
  places = event-place shape opening m h valid;
  fits = λ earlier later cut. each-world shape opening m h earlier later valid cut;
  room = add-room shape opening m h valid;
  full = λ pass coll before tried cause did ripe.
      full-place shape opening pass coll (before ++ tried) cause m h valid (refused shape opening empty_world pass coll before tried cause m h valid did ripe);
  surveyed = surveyed-place surveys shape opening m h valid;
  packed = packed-place packs shape opening m h valid;
  calm = λ pass before calls end later did. calm shape opening empty_world pass before calls end later m h valid did;
  epochs = epochs shape opening empty_world m valid h;
}
