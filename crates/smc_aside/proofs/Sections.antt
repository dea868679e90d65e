-- What a leave, an enter and an advance make of a moment.
use Rattle.std.proofs.Common.{◌≡◌, ℕ, ◌≤◌, Option, List, ◌∙◌, arith}
use Rattle.smc_shape.specs.Layout.{Layout, IsShape}
use Rattle.smc_model.specs.World.{World}
use Rattle.smc_core.specs.declared.call.Call.TheVariants as call
use Rattle.smc_core.specs.declared.done.Done.{Done}
use Rattle.smc_core.specs.declared.local.Owned.{Owned}
use Rattle.smc_core.specs.declared.section.Section.TheVariants.{Outside}
use Rattle.smc_core.specs.Machine.{Machine}
use Rattle.smc_core.specs.Section.{epoch_of}
use Rattle.smc_rules.specs.Memory.{Memory}
use Rattle.smc_rules.specs.Mirror.{anywhere}
use Rattle.smc_rules.specs.Reads.{epoch_of_region}
use Rattle.smc_rules.specs.State as S
use Rattle.smc_rules.specs.State.{IsKept}
use Rattle.smc_aside.specs.Makes.{Makes}
use Rattle.smc_aside.proofs.Moments.{IsMoment, Then, calls}
use Rattle.smc_aside.proofs.Stillness.{still-trans}
use Rattle.smc_aside.proofs.Waiting.{IsSame, IsInside, TellsEpochs, same-first, Advancing, advance-carries, Entering, enter-carries, entered-above, entered-inside, Leaving, leave-carries, left-out}

-- since an earlier moment nothing has changed but the epoch and section words
pub same-trans : (m0 m1 m2 : Memory) (w0 w1 w2 : World) (r0 r1 r2 : Option Owned) → IsSame m0 w0 r0 m1 w1 r1 → IsSame m1 w1 r1 m2 w2 r2 → IsSame m0 w0 r0 m2 w2 r2
same-trans m0 m1 m2 w0 w1 w2 r0 r1 r2 a b = record {
  still = still-trans m0 m1 m2 a.still b.still;
  epoch = omega (arith, a.epoch, b.epoch);
  in_world = b.in_world ∙ a.in_world;
  round = b.round ∙ a.round;
}

module _ (R : S.State → Type 0) (shape : Layout) (start : List ℕ) (pass : ℕ) where
  module _ (m0 : Memory) (w0 : World) (r0 : Option Owned) where
    -- a moment since which nothing has changed but the epoch and section words
    pub record Since (m : Machine) : Type 0 where
      pub moment : IsMoment R shape start pass m
      pub same : IsSame m0 w0 r0 moment.scene.state.memory moment.scene.state.world (moment.scene.state.stands pass).round

    -- and the pass has left
    pub record Left (m : Machine) : Type 0 where
      pub still : Since m
      pub outside : (still.moment.scene.state.stands pass).section ≡ Outside

    -- or it has begun a section at this epoch, or a later one
    pub record Entered (least : ℕ) (m : Machine) : Type 0 where
      pub still : Since m
      pub inside : IsInside (still.moment.scene.state.stands pass).section
      pub above : least ≤ epoch_of (still.moment.scene.state.stands pass).section

  -- nothing but the epoch and section words has changed since that moment
  abbrev pub SinceThen : {m : Machine} → IsMoment R shape start pass m → Machine → Type 0
  SinceThen at last = Since at.scene.state.memory at.scene.state.world (at.scene.state.stands pass).round last

  pub now : (m : Machine) (at : IsMoment R shape start pass m) → SinceThen at m
  now m at = record { moment = at; same = same-first at.scene.state.memory at.scene.state.world (at.scene.state.stands pass).round }

module _ (R : S.State → Type 0) (shape : Layout) (valid : IsShape shape) (keeps : IsKept shape anywhere R) (start : List ℕ) (pass : ℕ) (m0 : Memory) (w0 : World) (r0 : Option Owned) where
  abbrev Later : Machine → Type 0
  Later m = Since R shape start pass m0 w0 r0 m

  -- so it is after a leave
  pub leaves : (m last : Machine) (answer : Done) → Later m → Makes shape pass call.Leave answer m last → Left R shape start pass m0 w0 r0 last
  leaves m last answer at makes =
      let t : Then R shape start pass (Leaving m0 w0 r0) last answer = calls R shape valid keeps start pass (Leaving m0 w0 r0) call.Leave (leave-carries m0 w0 r0 R shape pass) m last answer at.moment makes (record { same = at.same; part = tt }) in
      record { still = record { moment = t.moment; same = t.says.same }; outside = left-out m0 w0 r0 (t.moment.scene.state.stands pass).section answer t.says.part }

  -- and after an enter, whose section has an epoch that is not below that of its start
  pub enters : (least : ℕ) (m last : Machine) (answer : Done) (at : Later m) → least ≤ epoch_of_region at.moment.scene.state.memory → Makes shape pass call.Enter answer m last → Entered R shape start pass m0 w0 r0 least last
  enters least m last answer at le makes =
      let s : S.State = at.moment.scene.state in
      let r : Option Owned = (s.stands pass).round in
      let t : Then R shape start pass (Entering s.memory s.world r) last answer = calls R shape valid keeps start pass (Entering s.memory s.world r) call.Enter (enter-carries s.memory s.world r R shape pass) m last answer at.moment makes
      (record { same = same-first s.memory s.world r; part = tt }) in
      let z : S.State = t.moment.scene.state in
      record {
        still = record { moment = t.moment; same = same-trans m0 s.memory z.memory w0 s.world z.world r0 r (z.stands pass).round at.same t.says.same };
        inside = entered-inside s.memory s.world r (z.stands pass).section answer t.says.part;
        above = let up : epoch_of_region s.memory ≤ epoch_of (z.stands pass).section = entered-above s.memory s.world r (z.stands pass).section answer t.says.part in omega (arith, le, up);
      }

  -- one advance
  pub advances-once : ((s : S.State) → R s → TellsEpochs shape s) → (answer : Done) (m next : Machine) → Later m → Makes shape pass call.Advance answer m next → Then R shape start pass (Advancing m0 w0 r0) next answer
  advances-once tells answer m next at makes = calls R shape valid keeps start pass (Advancing m0 w0 r0) call.Advance (advance-carries m0 w0 r0 R shape tells pass) m next answer at.moment makes (record { same = at.same; part = tt })
