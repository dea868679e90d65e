-- What is known of a state behind the last machine, said of the plain world of its logs.
use Rattle.std.proofs.Common.{◌≡◌, ℕ, sym, ◌∙◌, subst, List}
use Rattle.smc_shape.specs.Layout.{Layout, IsShape}
use Rattle.smc_model.specs.World.{World, count_of}
use Rattle.smc_core.specs.declared.local.Opening.{Opening}
use Rattle.smc_core.specs.Machine.{Machine, Reach}
use Rattle.smc_rules.specs.History.{history_state}
use Rattle.smc_rules.specs.Start.{IsStart}
use Rattle.smc_rules.specs.State as S
use Rattle.smc_aside.proofs.Scenes.{Scene}
use Rattle.smc_census.specs.Census.{homes, occupied}
use Rattle.smc_census.proofs.HomeCounts.{homes-objects}
use Rattle.smc_packing.specs.Packing.{HasState}
use Rattle.smc_packing.proofs.Homes.{SameHomes, same-homes, same-occupied, one-homes}
use Rattle.smc_packing.proofs.Known.{Known, known-then}

-- in a known state there are as many slots with a present object as objects are present
pub known-homes : (opening : Opening) (shape : Layout) (s : S.State) → Known opening shape s → (coll : ℕ) → homes shape s.memory coll ≡ count_of s.world coll
known-homes opening shape s k coll = homes-objects opening shape s k.all k.fits.of_its_coll coll

-- what holds of the number of objects and of the occupied blocks in one state behind a machine holds in that of each history
pub said-of-logs : (opening : Opening) (shape : Layout) (valid : IsShape shape) (first : World) (m : Machine) (start : List ℕ) → IsStart shape opening first start → Reach shape start m.row m.locals
    → (scene : Scene (Known opening shape) shape m) (coll : ℕ) (Holds : ℕ → ℕ → Type 0) → Holds (count_of scene.state.world coll) (occupied shape scene.state.memory coll)
    → HasState shape opening first m (λ t. Holds (count_of t.world coll) (occupied shape t.memory coll))
said-of-logs opening shape valid first m start starts reached scene coll Holds holds = record {
  history = record { start = start; starts = starts; steps = reached.0; leads = reached.1 };
  holds_of_each = λ h.
      let b = known-then opening shape valid first m h in
      let t : S.State = history_state h in
      let same : SameHomes shape coll scene.state.memory t.memory = one-homes shape m.row m.locals scene.state t scene.backs b.backs opening coll scene.rule.all in
      let count : count_of t.world coll ≡ count_of scene.state.world coll =
      sym (known-homes opening shape t b.rule coll) ∙ (same-homes shape valid coll scene.state.memory t.memory same ∙ known-homes opening shape scene.state scene.rule coll) in
      let blocks : occupied shape t.memory coll ≡ occupied shape scene.state.memory coll = same-occupied shape valid coll scene.state.memory t.memory same in
      subst (λ (n : ℕ). Holds n (occupied shape t.memory coll)) (sym count) (subst (λ (o : ℕ). Holds (count_of scene.state.world coll) o) (sym blocks) holds);
}
