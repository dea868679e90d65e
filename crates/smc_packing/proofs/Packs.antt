-- What drives and surveys leave and tell, from each machine that steps lead to.
use Rattle.std.proofs.Common.{◌≡◌, ℕ, ◌<◌, None, List, length, sym, ap, ◌∙◌, arith}
use Rattle.std.proofs.lemmas.Option.{slice_get_within}
use Rattle.smc_shape.specs.Layout.{Layout, IsShape}
use Rattle.smc_model.specs.World.{World, count_of}
use Rattle.smc_core.specs.declared.call.Call.TheVariants as call
use Rattle.smc_core.specs.declared.done.Done.{Done}
use Rattle.smc_core.specs.declared.done.Done.TheVariants as done
use Rattle.smc_core.specs.declared.local.Opening.{Opening}
use Rattle.smc_core.specs.Count.{blocks_for}
use Rattle.smc_core.specs.Machine.{Machine}
use Rattle.smc_rules.specs.History.{History, history_state}
use Rattle.smc_rules.specs.State as S
use Rattle.smc_aside.specs.Aside.{IsAlone}
use Rattle.smc_aside.proofs.Moments.{IsMoment, IsFree, alone-free, Then, calls}
use Rattle.smc_aside.proofs.Scenes.{aside-in}
use Rattle.smc_aside.proofs.Sections.{Entered, now, enters}
use Rattle.smc_census.specs.Census.{occupied}
use Rattle.smc_packing.specs.Drive.{Surveys}
use Rattle.smc_packing.specs.Packing.{DrivesPack, SurveysTell, SurveysTellPacked}
use Rattle.smc_packing.proofs.Drives.{IsIdleMoment, HasDriven, drives}
use Rattle.smc_packing.proofs.Ends.{known-homes, said-of-logs}
use Rattle.smc_packing.proofs.Homes.{same-occupied, still-homes}
use Rattle.smc_packing.proofs.Known.{Known, known-kept, known-then}
use Rattle.smc_packing.proofs.Rests.{homes-valid}
use Rattle.smc_packing.proofs.Surveys.{Surveying, survey-carries}

module _ (opening : Opening) (shape : Layout) (valid : IsShape shape) (start : List ℕ) (pass : ℕ) (inside : pass < shape.passes) where
  -- a survey has told what there is
  record HasSurveyed (coll : ℕ) (answer : Done) (m last : Machine) (from : IsIdleMoment opening shape valid start pass inside m) : Type 0 where
    moment : IsMoment (Known opening shape) shape start pass last
    tells : answer ≡ done.Surveyed coll (count_of moment.scene.state.world coll) (occupied shape moment.scene.state.memory coll)
    counts : count_of moment.scene.state.world coll ≡ count_of from.moment.scene.state.world coll
    blocks : occupied shape moment.scene.state.memory coll ≡ occupied shape from.moment.scene.state.memory coll

  surveys : (coll : ℕ) (answer : Done) (m last : Machine) (free : IsIdleMoment opening shape valid start pass inside m) → Surveys shape pass coll answer m last → HasSurveyed coll answer m last free
  surveys coll answer m last free d =
      let s0 : S.State = free.moment.scene.state in
      let enter : Entered (Known opening shape) shape start pass s0.memory s0.world (s0.stands pass).round 0 d.inside = enters (Known opening shape) shape valid (known-kept opening shape valid) start pass s0.memory s0.world (s0.stands pass).round 0 m d.inside (done.At d.epoch) (now (Known opening shape) shape start pass m free.moment) (omega arith) d.enters in
      let at : IsMoment (Known opening shape) shape start pass d.inside = enter.still.moment in
      let s : S.State = at.scene.state in
      let none : (s.stands pass).round ≡ None = enter.still.same.round ∙ free.no_round in
      let t : Then (Known opening shape) shape start pass (Surveying opening shape valid coll s0.memory s0.world pass) last answer =
      calls (Known opening shape) shape valid (known-kept opening shape valid) start pass (Surveying opening shape valid coll s0.memory s0.world pass) (call.Survey coll) (survey-carries opening shape valid coll s0.memory s0.world pass) d.inside last answer at d.surveys
      (record {
        still = enter.still.same.still;
        in_world = enter.still.same.in_world;
        valid_homes = homes-valid opening shape s at.scene.rule pass (aside-in shape d.inside s pass at.scene.backs at.aside) at.idle none coll;
        part = tt;
      }) in
      let z : S.State = t.moment.scene.state in record {
        moment = t.moment;
        tells = t.says.part.1 ∙ ap (λ (n : ℕ). done.Surveyed coll n (occupied shape z.memory coll)) (known-homes opening shape z t.moment.scene.rule coll);
        counts = ap (λ (w : World). count_of w coll) t.says.in_world;
        blocks = same-occupied shape valid coll s0.memory z.memory (still-homes shape coll s0.memory z.memory t.says.still);
      }

-- a machine that was reached, in which the pass stands idle
record HasStoodIdle (opening : Opening) (shape : Layout) (valid : IsShape shape) (start : List ℕ) (pass : ℕ) (m : Machine) : Type 0 where
  inside : pass < shape.passes
  free : IsIdleMoment opening shape valid start pass inside m

first-idle : (opening : Opening) (shape : Layout) (valid : IsShape shape) (first : World) (pass : ℕ) (m : Machine) (h : History shape opening first m)
    → IsAlone pass m → HasStoodIdle opening shape valid h.start pass m
first-idle opening shape valid first pass m h alone =
    let b = known-then opening shape valid first m h in
    let free : IsFree (Known opening shape) shape h.start pass m = alone-free shape h.start pass m (h.steps, h.leads) alone (record { state = history_state h; backs = b.backs; rule = b.rule }) in
    let count : length m.locals ≡ shape.passes = b.backs.count in record {
      inside = omega (arith, count, slice_get_within m.locals pass alone.idle.local alone.idle.here);
      free = record { moment = free.moment; no_round = free.no_round };
    }

-- after a drive the objects are packed
pub drives-pack : DrivesPack
drives-pack shape opening first pass m valid h alone coll last drive =
    let f : HasStoodIdle opening shape valid h.start pass m = first-idle opening shape valid first pass m h alone in
    let d : HasDriven opening shape valid h.start pass f.inside coll last = drives opening shape valid h.start pass f.inside coll m last f.free drive in
    said-of-logs opening shape valid first last h.start h.starts d.idle.moment.reached d.idle.moment.scene coll (λ (n blocks : ℕ). blocks ≡ blocks_for n) d.packed

-- a survey tells what there is
pub surveys-tell : SurveysTell
surveys-tell shape opening first pass m valid h alone coll last answer survey =
    let f : HasStoodIdle opening shape valid h.start pass m = first-idle opening shape valid first pass m h alone in
    let d : HasSurveyed opening shape valid h.start pass f.inside coll answer m last f.free = surveys opening shape valid h.start pass f.inside coll answer m last f.free survey in
    said-of-logs opening shape valid first last h.start h.starts d.moment.reached d.moment.scene coll (λ (n blocks : ℕ). answer ≡ done.Surveyed coll n blocks) d.tells

-- after a drive these are the fewest blocks
pub surveys-tell-packed : SurveysTellPacked
surveys-tell-packed shape opening first pass m valid h alone coll driven last answer drive survey =
    let f : HasStoodIdle opening shape valid h.start pass m = first-idle opening shape valid first pass m h alone in
    let d : HasDriven opening shape valid h.start pass f.inside coll driven = drives opening shape valid h.start pass f.inside coll m driven f.free drive in
    let t : HasSurveyed opening shape valid h.start pass f.inside coll answer driven last d.idle = surveys opening shape valid h.start pass f.inside coll answer driven last d.idle survey in
    let blocks : occupied shape t.moment.scene.state.memory coll ≡ blocks_for (count_of t.moment.scene.state.world coll) = t.blocks ∙ (d.packed ∙ ap blocks_for (sym t.counts)) in
    said-of-logs opening shape valid first last h.start h.starts t.moment.reached t.moment.scene coll (λ (n occupied : ℕ). answer ≡ done.Surveyed coll n (blocks_for n))
    (t.tells ∙ ap (λ (o : ℕ). done.Surveyed coll (count_of t.moment.scene.state.world coll) o) blocks)
