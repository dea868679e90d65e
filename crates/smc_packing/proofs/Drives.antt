-- A drive leaves the present objects of the collection in the fewest blocks.
use Rattle.std.proofs.Common.{◌≡◌, ℕ, ◌+◌, ◌*◌, ◌<◌, ◌≤◌, None, List, refl, sym, ap, ◌∙◌, subst, inl, inr, arith}
use Rattle.smc_shape.specs.Layout.{Layout, IsShape}
use Rattle.smc_shape.specs.declared.coll.TheConstants.{BLOCK_SLOTS}
use Rattle.smc_model.specs.World.{World, count_of}
use Rattle.smc_core.specs.declared.call.Call.TheVariants as call
use Rattle.smc_core.specs.declared.done.Done.{Done}
use Rattle.smc_core.specs.declared.done.Done.TheVariants as done
use Rattle.smc_core.specs.declared.local.Opening.{Opening}
use Rattle.smc_core.specs.Count.{blocks_for}
use Rattle.smc_core.specs.Machine.{Machine}
use Rattle.smc_core.specs.Section.{epoch_of}
use Rattle.smc_rules.specs.Reads.{epoch_of_region, round_in}
use Rattle.smc_rules.specs.State as S
use Rattle.smc_aside.specs.Makes.{Makes}
use Rattle.smc_aside.proofs.Moments.{IsMoment, Then, calls}
use Rattle.smc_aside.proofs.Scenes.{aside-in}
use Rattle.smc_aside.proofs.Sections.{Left, Entered, now, leaves, enters}
use Rattle.smc_census.specs.Census.{homes, occupied}
use Rattle.smc_census.proofs.Always.{blocks_enough}
use Rattle.smc_census.proofs.Always.{packed_enough}
use Rattle.smc_packing.specs.Drive.{WaitsAndBegins, FindsNothing, Moves, Drives}
use Rattle.smc_packing.proofs.Begins.{begin-carries}
use Rattle.smc_packing.proofs.Ends.{known-homes}
use Rattle.smc_packing.proofs.Finishes.{AreLow, TargetsAreLow, low-still, targets-still, Finishing, finish-carries}
use Rattle.smc_packing.proofs.Homes.{same-occupied, still-homes}
use Rattle.smc_packing.proofs.Known.{Known, known-kept}
use Rattle.smc_packing.proofs.Waits.{Advanced, advances, waits}
use Rattle.smc_packing.proofs.Rests.{rested, all-low, round-still}
use Rattle.smc_packing.proofs.Walks.{IsRested, Beginning, BeginEnd}

module _ (opening : Opening) (shape : Layout) (valid : IsShape shape) (start : List ℕ) (pass : ℕ) (inside : pass < shape.passes) where
  -- a moment at which the pass has no round
  pub record IsIdleMoment (m : Machine) : Type 0 where
    pub moment : IsMoment (Known opening shape) shape start pass m
    pub no_round : (moment.scene.state.stands pass).round ≡ None

  -- a pass has no round where there is none
  none-owned : (m : Machine) (at : IsMoment (Known opening shape) shape start pass m) → round_in at.scene.state.memory ≡ None → (at.scene.state.stands pass).round ≡ None
  none-owned m at none = at.scene.rule.all.whole.rounds.agrees.none_owned pass inside none

  -- as many objects are present in the same world
  count-same : (coll : ℕ) (w z : World) → z ≡ w → count_of z coll ≡ count_of w coll
  count-same coll w z is = ap (λ (k : World). count_of k coll) is

  -- a begin has counted the objects, and has ended so
  record HasBegun (coll : ℕ) (answer : Done) (m : Machine) : Type 0 where
    moment : IsMoment (Known opening shape) shape start pass m
    epoch : ℕ
    ends : BeginEnd shape coll epoch (count_of moment.scene.state.world coll) moment.scene.state.world moment.scene.state.memory answer

  -- a begin from a collection at rest
  begins-at : (coll epoch : ℕ) (answer : Done) (m last : Machine) (at : IsMoment (Known opening shape) shape start pass m) → epoch_of (at.scene.state.stands pass).section ≡ epoch
      → IsRested shape coll epoch (count_of at.scene.state.world coll) at.scene.state.world at.scene.state.memory → Makes shape pass (call.Begin coll) answer m last → HasBegun coll answer last
  begins-at coll epoch answer m last at at_epoch rest makes =
      let w0 : World = at.scene.state.world in
      let t : Then (Known opening shape) shape start pass (Beginning shape coll epoch (count_of w0 coll) w0) last answer =
      calls (Known opening shape) shape valid (known-kept opening shape valid) start pass (Beginning shape coll epoch (count_of w0 coll) w0) (call.Begin coll) (begin-carries opening shape valid coll epoch (count_of w0 coll) w0 pass) m last answer at makes
      (record { in_world = refl; at_epoch = at_epoch; part = rest }) in record {
        moment = t.moment;
        epoch = epoch;
        ends = subst (λ (z : World). BeginEnd shape coll epoch (count_of z coll) z t.moment.scene.state.memory answer) (sym t.says.in_world) t.says.part.1;
      }

  -- a pass waits, enters and begins: each slot that is not valid may then be claimed
  begins : (coll : ℕ) (answer : Done) (m last : Machine) → IsIdleMoment m → WaitsAndBegins shape pass coll answer m last → HasBegun coll answer last
  begins coll answer m last free b =
      let s0 : S.State = free.moment.scene.state in
      let w = waits opening shape valid start pass s0.memory s0.world (s0.stands pass).round m b.waited (now (Known opening shape) shape start pass m free.moment) b.waits in
      let enter : Entered (Known opening shape) shape start pass s0.memory s0.world (s0.stands pass).round (epoch_of_region s0.memory + 3) b.inside =
      enters (Known opening shape) shape valid (known-kept opening shape valid) start pass s0.memory s0.world (s0.stands pass).round (epoch_of_region s0.memory + 3) b.waited b.inside (done.At b.epoch) w.0 w.1 b.enters in
      let at : IsMoment (Known opening shape) shape start pass b.inside = enter.still.moment in
      let s : S.State = at.scene.state in
      let x : ℕ = epoch_of (s.stands pass).section in
      begins-at coll (epoch_of (s.stands pass).section) answer b.inside last at refl (subst (λ (n : ℕ). IsRested shape coll (epoch_of (s.stands pass).section) n s.world s.memory) (known-homes opening shape s at.scene.rule coll)
      (rested opening shape s at.scene.rule pass (aside-in shape b.inside s pass at.scene.backs at.aside) at.idle (enter.still.same.round ∙ free.no_round) coll s0 free.moment.scene.rule x s.world enter.still.same.still enter.above)) b.begins

  -- a drive has ended, and the objects are packed
  pub record HasDriven (coll : ℕ) (m : Machine) : Type 0 where
    pub idle : IsIdleMoment m
    pub packed : occupied shape idle.moment.scene.state.memory coll ≡ blocks_for (count_of idle.moment.scene.state.world coll)

  -- where there was nothing to do, they were packed before
  nothing-packs : (coll : ℕ) (m last : Machine) → IsIdleMoment m → FindsNothing shape pass coll m last → HasDriven coll last
  nothing-packs coll m last free d =
      let b : HasBegun coll (done.Nothing coll) d.begun = begins coll (done.Nothing coll) m d.begun free d.begins in
      let s : S.State = b.moment.scene.state in
      let left : Left (Known opening shape) shape start pass s.memory s.world (s.stands pass).round last = leaves (Known opening shape) shape valid (known-kept opening shape valid) start pass s.memory s.world (s.stands pass).round d.begun last done.Out (now (Known opening shape) shape start pass d.begun b.moment) d.leaves in
      let t : S.State = left.still.moment.scene.state in
      let same : occupied shape t.memory coll ≡ occupied shape s.memory coll = same-occupied shape valid coll s.memory t.memory (still-homes shape coll s.memory t.memory left.still.same.still) in
      let count : count_of t.world coll ≡ count_of s.world coll = count-same coll s.world t.world left.still.same.in_world in
      let enough : count_of t.world coll ≤ occupied shape t.memory coll * BLOCK_SLOTS = (blocks_enough opening shape t valid (record { rule = left.still.moment.scene.rule.all; fits = left.still.moment.scene.rule.fits })).enough coll in
      let most : occupied shape s.memory coll ≤ blocks_for (count_of s.world coll) = b.ends.0 in record {
        idle = record { moment = left.still.moment; no_round = none-owned last left.still.moment (round-still s.memory t.memory left.still.same.still b.ends.2) };
        packed = omega (arith, same, count, enough, most);
      }

  -- a round was finished: there is none, and each object without a mark is in a kept slot
  record HasFinished (coll kept : ℕ) (w0 : World) (m : Machine) : Type 0 where
    moment : IsMoment (Known opening shape) shape start pass m
    low : AreLow coll kept moment.scene.state.memory
    none : round_in moment.scene.state.memory ≡ None
    in_world : moment.scene.state.world ≡ w0

  finishes-at : (coll kept moved abandoned gone : ℕ) (w0 : World) (m last : Machine) (at : IsMoment (Known opening shape) shape start pass m) → at.scene.state.world ≡ w0
      → AreLow coll kept at.scene.state.memory → TargetsAreLow coll kept at.scene.state.memory → Makes shape pass call.Finish (done.Finished moved abandoned gone) m last → HasFinished coll kept w0 last
  finishes-at coll kept moved abandoned gone w0 m last at world low targets makes =
      let t : Then (Known opening shape) shape start pass (Finishing coll kept w0) last (done.Finished moved abandoned gone) =
      calls (Known opening shape) shape valid (known-kept opening shape valid) start pass (Finishing coll kept w0) call.Finish (finish-carries coll kept w0 opening shape pass) m last (done.Finished moved abandoned gone) at makes
      (record { low = low; targets = targets; in_world = world; part = tt }) in
      record { moment = t.moment; low = t.says.low; none = t.says.part; in_world = t.says.in_world }

  -- so it is once the pass has left
  finished-left : (coll kept : ℕ) (w0 : World) (m last : Machine) (answer : Done) → HasFinished coll kept w0 m → Makes shape pass call.Leave answer m last → HasFinished coll kept w0 last
  finished-left coll kept w0 m last answer f makes =
      let s : S.State = f.moment.scene.state in
      let left : Left (Known opening shape) shape start pass s.memory s.world (s.stands pass).round last = leaves (Known opening shape) shape valid (known-kept opening shape valid) start pass s.memory s.world (s.stands pass).round m last answer (now (Known opening shape) shape start pass m f.moment) makes in
      let t : S.State = left.still.moment.scene.state in record {
        moment = left.still.moment;
        low = low-still coll kept s.memory t.memory left.still.same.still f.low;
        none = round-still s.memory t.memory left.still.same.still f.none;
        in_world = left.still.same.in_world ∙ f.in_world;
      }

  -- then they are packed, where the kept slots are those of the blocks that they need
  finished-packs : (coll : ℕ) (w0 : World) (m : Machine) → HasFinished coll (blocks_for (count_of w0 coll) * BLOCK_SLOTS) w0 m → HasDriven coll m
  finished-packs coll w0 m f =
      let t : S.State = f.moment.scene.state in
      let count : homes shape t.memory coll ≡ count_of t.world coll = known-homes opening shape t f.moment.scene.rule coll in
      let all : homes shape t.memory coll ≡ count_of w0 coll = count ∙ count-same coll w0 t.world f.in_world in record {
        idle = record { moment = f.moment; no_round = none-owned m f.moment f.none };
        packed = packed_enough shape t.memory coll valid (λ slot lt is.
            subst (λ (n : ℕ). slot < blocks_for n * BLOCK_SLOTS) (sym all) (all-low opening shape t f.moment.scene.rule coll (blocks_for (count_of w0 coll) * BLOCK_SLOTS) f.none f.low slot lt is))
            ∙ ap blocks_for count;
      }

  -- from the begin to the finish nothing but the epoch and section words changes
  moves-pack : (coll : ℕ) (m last : Machine) → IsIdleMoment m → Moves shape pass coll m last → HasDriven coll last
  moves-pack coll m last free d =
      let b : HasBegun coll (done.Round coll d.bound d.frozen) d.begun = begins coll (done.Round coll d.bound d.frozen) m d.begun free d.begins in
      let s : S.State = b.moment.scene.state in
      let kept : ℕ = blocks_for (count_of s.world coll) * BLOCK_SLOTS in
      let left : Left (Known opening shape) shape start pass s.memory s.world (s.stands pass).round d.left = leaves (Known opening shape) shape valid (known-kept opening shape valid) start pass s.memory s.world (s.stands pass).round d.begun d.left done.Out (now (Known opening shape) shape start pass d.begun b.moment) d.leaves in
      let waited : Advanced opening shape valid start pass s.memory s.world (s.stands pass).round d.answers d.waited = advances opening shape valid start pass s.memory s.world (s.stands pass).round d.answers d.left d.waited left.still d.advances in
      let enter : Entered (Known opening shape) shape start pass s.memory s.world (s.stands pass).round 0 d.inside = enters (Known opening shape) shape valid (known-kept opening shape valid) start pass s.memory s.world (s.stands pass).round 0 d.waited d.inside (done.At d.epoch) waited.still (omega arith) d.enters in
      let z : S.State = enter.still.moment.scene.state in
      let f : HasFinished coll kept s.world d.finished = finishes-at coll kept d.moved d.abandoned d.gone s.world d.inside d.finished enter.still.moment enter.still.same.in_world
      (low-still coll kept s.memory z.memory enter.still.same.still b.ends.0) (targets-still coll kept s.memory z.memory enter.still.same.still b.ends.1) d.finishes in
      finished-packs coll s.world last (finished-left coll kept s.world d.finished last done.Out f d.leaves_again)

  -- whichever drive it was
  pub drives : (coll : ℕ) (m last : Machine) → IsIdleMoment m → Drives shape pass coll m last → HasDriven coll last
  drives coll m last free (inl nothing) = nothing-packs coll m last free nothing
  drives coll m last free (inr moves) = moves-pack coll m last free moves
