-- What a list of such calls leaves.
use Rattle.std.proofs.Common.{◌≡◌, ◌≢◌, ℕ, ◌+◌, ◌≤◌, ◌<◌, Option, None, List, [], ◌∷◌, refl, sym, ap, ◌∙◌, subst, arith}
use Rattle.std.specs.List.{AllByRecursion}
use Rattle.smc_shape.specs.Layout.{Layout, IsShape}
use Rattle.smc_model.specs.declared.event.Event.{Event}
use Rattle.smc_core.specs.declared.call.Call.{Call}
use Rattle.smc_core.specs.declared.call.Call.TheVariants as call
use Rattle.smc_core.specs.declared.done.Done.{Done}
use Rattle.smc_core.specs.declared.done.Done.TheVariants as done
use Rattle.smc_core.specs.declared.local.Opening.{Opening}
use Rattle.smc_core.specs.declared.local.Owned.{Owned}
use Rattle.smc_core.specs.declared.section.Section.{Section}
use Rattle.smc_core.specs.declared.section.Section.TheVariants.{Outside, Loaded, Announced, Again, Lasting, Inside}
use Rattle.smc_core.specs.Machine.{Machine}
use Rattle.smc_core.specs.Section.{epoch_of}
use Rattle.smc_rules.specs.EpochRule.{own_epoch}
use Rattle.smc_rules.specs.Memory.{Memory}
use Rattle.smc_rules.specs.Reads.{epoch_of_region}
use Rattle.smc_rules.specs.State as S
use Rattle.smc_aside.specs.Makes.{Makes}
use Rattle.smc_aside.proofs.Moments.{IsMoment, IsFree, Then, calls}
use Rattle.smc_aside.proofs.Sections as sections
use Rattle.smc_aside.proofs.Sections.{Left, Entered, SinceThen, now}
use Rattle.smc_aside.proofs.Waiting.{Advancing, advanced-out, advanced-on}
use Rattle.smc_inv_use.proofs.EpochsTold.{tells-epochs}
use Rattle.smc_inv_use.proofs.Used.{Used, used-kept}
use Rattle.smc_calls.specs.Calls.{MakesEnds}
use Rattle.smc_calls.specs.Ends.{EndsSo}
use Rattle.smc_trace.specs.Trace.{CallEnd}
use Rattle.smc_alone.specs.Ripening.{LeavesNone, turn_by, turns_in}
use Rattle.smc_alone.proofs.TameSteps.{IsTameCall, Old, Taming, old-still, tame-carries}

module _ (opening : Opening) (shape : Layout) (valid : IsShape shape) (start : List ℕ) (pass : ℕ) (within : pass < shape.passes) where
  -- the pass is outside, and the epoch so high, or in a section at an epoch so high
  abbrev pub Stood : ℕ → Memory → Section → Type 0
  Stood least memory Outside = least ≤ epoch_of_region memory
  Stood least memory (Inside own calm) = least ≤ own
  Stood least memory _ = ⊥

  pub record TameAt (least b : ℕ) (m : Machine) : Type 0 where
    pub moment : IsMoment (Used opening shape) shape start pass m
    pub no_round : (moment.scene.state.stands pass).round ≡ None
    pub old : Old b moment.scene.state.memory
    pub stood : Stood least moment.scene.state.memory (moment.scene.state.stands pass).section

  low : (s : S.State) → Used opening shape s → (least : ℕ) (section : Section) → (s.stands pass).section ≡ section → Stood least s.memory section → least ≤ epoch_of_region s.memory
  low s k least Outside at is = is
  low s k least (Inside own calm) at is = let near = (tells-epochs opening shape s k.everything).rule.near pass own within (ap own_epoch at) in omega (arith, is, near.0)
  low s k least (Loaded seen) at is = absurd is
  low s k least (Announced seen) at is = absurd is
  low s k least (Again seen own) at is = absurd is
  low s k least (Lasting own) at is = absurd is

  low-at : (least b : ℕ) (m : Machine) (t : TameAt least b m) → least ≤ epoch_of_region t.moment.scene.state.memory
  low-at least b m t = low t.moment.scene.state t.moment.scene.rule least (t.moment.scene.state.stands pass).section refl t.stood

  stood-later : (least : ℕ) (before after : Memory) (section : Section) → epoch_of_region before ≤ epoch_of_region after → Stood least before section → Stood least after section
  stood-later least before after Outside up is = omega (arith, up, is)
  stood-later least before after (Inside own calm) up is = is
  stood-later least before after (Loaded seen) up is = absurd is
  stood-later least before after (Announced seen) up is = absurd is
  stood-later least before after (Again seen own) up is = absurd is
  stood-later least before after (Lasting own) up is = absurd is

  tame-call : (least b : ℕ) (m next : Machine) (c : Call) (answer : Done) → IsTameCall c → TameAt least b m → Makes shape pass c answer m next → TameAt least b next
  tame-call least b m next c answer tame at makes =
      let s : S.State = at.moment.scene.state in
      let sec : Section = (s.stands pass).section in
      let t : Then (Used opening shape) shape start pass (Taming b (epoch_of_region s.memory) sec) next answer =
      calls (Used opening shape) shape valid (used-kept opening shape valid) start pass (Taming b (epoch_of_region s.memory) sec) c (tame-carries b (epoch_of_region s.memory) sec opening shape pass c tame) m next answer at.moment makes
      (record { in_section = refl; no_round = at.no_round; epoch = omega arith; old = at.old; part = tt }) in
      let z : S.State = t.moment.scene.state in record {
        moment = t.moment;
        no_round = t.says.no_round;
        old = t.says.old;
        stood = subst (Stood least z.memory) (sym t.says.in_section) (stood-later least s.memory z.memory sec t.says.epoch at.stood);
      }

  enter-call : (least b : ℕ) (m next : Machine) (answer : Done) → TameAt least b m → Makes shape pass call.Enter answer m next → TameAt least b next
  enter-call least b m next answer at makes =
      let s : S.State = at.moment.scene.state in
      let here : SinceThen (Used opening shape) shape start pass at.moment m = now (Used opening shape) shape start pass m at.moment in
      let was = low-at least b m at in let up = here.same.epoch in
      let e : Entered (Used opening shape) shape start pass s.memory s.world (s.stands pass).round least next =
      sections.enters (Used opening shape) shape valid (used-kept opening shape valid) start pass s.memory s.world (s.stands pass).round least m next answer here (omega (arith, was, up)) makes in
      let z : S.State = e.still.moment.scene.state in record {
        moment = e.still.moment;
        no_round = e.still.same.round ∙ at.no_round;
        old = old-still b s.memory z.memory e.still.same.still at.old;
        stood = subst (Stood least z.memory) (sym e.inside.2) (subst (λ (x : Section). least ≤ epoch_of x) e.inside.2 e.above);
      }

  leave-call : (least b : ℕ) (m next : Machine) (answer : Done) → TameAt least b m → Makes shape pass call.Leave answer m next → TameAt least b next
  leave-call least b m next answer at makes =
      let s : S.State = at.moment.scene.state in
      let l : Left (Used opening shape) shape start pass s.memory s.world (s.stands pass).round next =
      sections.leaves (Used opening shape) shape valid (used-kept opening shape valid) start pass s.memory s.world (s.stands pass).round m next answer (now (Used opening shape) shape start pass m at.moment) makes in
      let z : S.State = l.still.moment.scene.state in
      let was = low-at least b m at in let up = l.still.same.epoch in record {
        moment = l.still.moment;
        no_round = l.still.same.round ∙ at.no_round;
        old = old-still b s.memory z.memory l.still.same.still at.old;
        stood = subst (Stood least z.memory) (sym l.outside) (omega (arith, was, up));
      }

  turn-up : (answer : Done) (least before after : ℕ) → least ≤ before → before ≤ after → (answer ≢ done.Spent → before + 1 ≤ after) → least + turn_by answer ≤ after
  turn-up (done.Advanced e) least before after was up on = let k = on (λ is. absurd (cc)) in omega (arith, was, k)
  turn-up (done.Overtaken e) least before after was up on = let k = on (λ is. absurd (cc)) in omega (arith, was, k)
  turn-up _ least before after was up on = omega (arith, was, up)

  advance-call : (least b : ℕ) (m next : Machine) (answer : Done) → TameAt least b m → Makes shape pass call.Advance answer m next → TameAt (least + turn_by answer) b next
  advance-call least b m next answer at makes =
      let s : S.State = at.moment.scene.state in
      let r : Option Owned = (s.stands pass).round in
      let t : Then (Used opening shape) shape start pass (Advancing s.memory s.world r) next answer =
      sections.advances-once (Used opening shape) shape valid (used-kept opening shape valid) start pass s.memory s.world r (λ z u. tells-epochs opening shape z u.everything) answer m next (now (Used opening shape) shape start pass m at.moment) makes in
      let z : S.State = t.moment.scene.state in record {
        moment = t.moment;
        no_round = t.says.same.round ∙ at.no_round;
        old = old-still b s.memory z.memory t.says.same.still at.old;
        stood = subst (Stood (least + turn_by answer) z.memory) (sym (advanced-out s.memory s.world r z.memory (z.stands pass).section answer t.says.part))
            (turn-up answer least (epoch_of_region s.memory) (epoch_of_region z.memory) (low-at least b m at) t.says.same.epoch (advanced-on s.memory s.world r z.memory (z.stands pass).section answer t.says.part));
      }

  same-least : (least more b : ℕ) (m : Machine) → more ≡ 0 → TameAt least b m → TameAt (least + more) b m
  same-least least more b m none at = subst (λ (n : ℕ). TameAt n b m) (omega (arith, none)) at

  -- whichever call it was
  any-call : (least b : ℕ) (m next : Machine) (c : Call) (told : Option Event) (answer : Done) → EndsSo answer told c → LeavesNone answer → TameAt least b m → Makes shape pass c answer m next → TameAt (least + turn_by answer) b next
  any-call least b m next c told (done.At epoch) is tame at makes = same-least least 0 b next refl (enter-call least b m next (done.At epoch) at (subst (λ (k : Call). Makes shape pass k (done.At epoch) m next) is.1 makes))
  any-call least b m next c told done.Out is tame at makes = same-least least 0 b next refl (leave-call least b m next done.Out at (subst (λ (k : Call). Makes shape pass k done.Out m next) is.1 makes))
  any-call least b m next c told (done.Advanced e) is tame at makes = advance-call least b m next (done.Advanced e) at (subst (λ (k : Call). Makes shape pass k (done.Advanced e) m next) is.1 makes)
  any-call least b m next c told (done.NotYet p e) is tame at makes = advance-call least b m next (done.NotYet p e) at (subst (λ (k : Call). Makes shape pass k (done.NotYet p e) m next) is.1 makes)
  any-call least b m next c told (done.Overtaken e) is tame at makes = advance-call least b m next (done.Overtaken e) at (subst (λ (k : Call). Makes shape pass k (done.Overtaken e) m next) is.1 makes)
  any-call least b m next c told done.Spent is tame at makes = advance-call least b m next done.Spent at (subst (λ (k : Call). Makes shape pass k done.Spent m next) is.1 makes)
  any-call least b m next c told (done.Made slot) is tame at makes = same-least least 0 b next refl (tame-call least b m next c (done.Made slot) (subst IsTameCall (sym is.4) tt) at makes)
  any-call least b m next c told (done.Full cause) is tame at makes = same-least least 0 b next refl (tame-call least b m next c (done.Full cause) (subst IsTameCall (sym is.4) tt) at makes)
  any-call least b m next c told (done.Here slot) is tame at makes = same-least least 0 b next refl (tame-call least b m next c (done.Here slot) (subst IsTameCall (sym is.2) tt) at makes)
  any-call least b m next c told done.Null is tame at makes = same-least least 0 b next refl (tame-call least b m next c done.Null (subst IsTameCall (sym is.2) tt) at makes)
  any-call least b m next c told (done.Value value) is tame at makes = same-least least 0 b next refl (tame-call least b m next c (done.Value value) (subst IsTameCall (sym is.3) tt) at makes)
  any-call least b m next c told done.Written is tame at makes = same-least least 0 b next refl (tame-call least b m next c done.Written (subst IsTameCall (sym is.4) tt) at makes)
  any-call least b m next c told done.Begun is tame at makes = same-least least 0 b next refl (tame-call least b m next c done.Begun (subst IsTameCall (sym is.3) tt) at makes)
  any-call least b m next c told (done.Visit number slot) is tame at makes = same-least least 0 b next refl (tame-call least b m next c (done.Visit number slot) (subst IsTameCall (sym is.2) tt) at makes)
  any-call least b m next c told done.End is tame at makes = same-least least 0 b next refl (tame-call least b m next c done.End (subst IsTameCall (sym is.2) tt) at makes)
  any-call least b m next c told (done.Noted note) is tame at makes = same-least least 0 b next refl (tame-call least b m next c (done.Noted note) (subst IsTameCall (sym is.1) tt) at makes)
  any-call least b m next c told done.Learned is tame at makes = same-least least 0 b next refl (tame-call least b m next c done.Learned (subst IsTameCall (sym is.4) tt) at makes)
  any-call least b m next c told (done.Surveyed coll objects blocks) is tame at makes = same-least least 0 b next refl (tame-call least b m next c (done.Surveyed coll objects blocks) (subst IsTameCall (sym is.1) tt) at makes)
  any-call least b m next c told _ is tame at makes = absurd tame

  -- a list of them
  pub all-calls : (least b : ℕ) (ends : List CallEnd) (m last : Machine) → AllByRecursion (λ end. LeavesNone end.done) ends → TameAt least b m → MakesEnds shape pass ends m last → TameAt (least + turns_in ends) b last
  all-calls least b [] m last tame at makes = subst (TameAt (least + 0) b) makes (same-least least 0 b m refl at)
  all-calls least b (end ∷ ends) m last tame at (c, next, is_end, makes, rest) =
      subst (λ (n : ℕ). TameAt n b last) (omega arith)
      (all-calls (least + turn_by end.done) b ends next last tame.1 (any-call least b m next c end.event end.done is_end tame.0 at makes) rest)

  -- so it is at first, where the pass is free
  pub free-at : (m : Machine) (free : IsFree (Used opening shape) shape start pass m) → TameAt (epoch_of_region free.moment.scene.state.memory) (epoch_of_region free.moment.scene.state.memory + 1) m
  free-at m free =
      let s : S.State = free.moment.scene.state in
      let objects = free.moment.scene.rule.everything.whole.agrees.objects in record {
        moment = free.moment;
        no_round = free.no_round;
        old = record { slots = objects.stamp_dir; entries = objects.stamp_entry };
        stood = subst (Stood (epoch_of_region s.memory) s.memory) (sym free.outside) (omega arith);
      }
