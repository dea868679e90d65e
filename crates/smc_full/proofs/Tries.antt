-- A pass that tries to add an object twice, from its first call to its last.
use Rattle.std.proofs.Common.{◌≡◌, ℕ, ◌+◌, ◌≤◌, List, sym, ◌∙◌, arith}
use Rattle.std.specs.Prelude.{◌↔◌}
use Rattle.smc_words.specs.declared.dir.Dir.TheVariants as dir
use Rattle.smc_shape.specs.Layout.{Layout, IsShape}
use Rattle.smc_core.specs.declared.done.Done.{Done}
use Rattle.smc_core.specs.declared.local.Opening.{Opening}
use Rattle.smc_core.specs.declared.word.State.TheVariants as state
use Rattle.smc_core.specs.Machine.{Machine}
use Rattle.smc_model.specs.World.{World}
use Rattle.smc_rules.specs.History.{History, history_state, history_world}
use Rattle.smc_rules.proofs.HistoryLaws.{HoldsOf}
use Rattle.smc_aside.proofs.Scenes.{Scene}
use Rattle.smc_rules.specs.Memory.{Memory}
use Rattle.smc_rules.specs.Reads.{state_in, dir_in}
use Rattle.smc_rules.specs.State.{State}
use Rattle.smc_aside.proofs.Moments.{alone-free}
use Rattle.smc_aside.proofs.Stillness.{Still, still-trans, still-state, still-dir}
use Rattle.smc_laws.proofs.Always.{all_rules}
use Rattle.smc_inv_use.specs.Rest.{HasOneObject}
use Rattle.smc_inv_use.proofs.RestLaws.{one_in_valid, present_in_valid}
use Rattle.smc_inv_use.proofs.Used.{Used, used-then}
use Rattle.smc_full.specs.Full.{IsFull, EachSlotHolds, NoneSpent, TriesTwice}
use Rattle.smc_full.specs.Laws.{IsTriedTwice, Holds}
use Rattle.smc_full.proofs.Adds.{SameStates, Told}
use Rattle.smc_full.proofs.Fullness.{refused_same, holds_valid, full-refused, full-same, refused-full}
use Rattle.smc_full.proofs.SameState.{same-holds, same-spent}
use Rattle.smc_full.proofs.Turns.{IsOut, IsIn, begins, tries, ends, moves_on, at_rest}

module _ (opening : Opening) (shape : Layout) (valid : IsShape shape) (start : List ℕ) (pass : ℕ) where
  -- two tries, from one to the other
  record Twice (coll : ℕ) (first second : Done) (entered again : Machine) : Type 0 where
    before : IsIn opening shape valid start pass entered
    between : Memory
    told : Told shape before.epoch before.moment.scene.state.memory coll first between
    after : IsIn opening shape valid start pass again
    same : Still between after.moment.scene.state.memory
    last : Memory
    told_again : Told shape after.epoch after.moment.scene.state.memory coll second last
    old_slots : (slot stamp : ℕ) → dir_in after.moment.scene.state.memory coll slot ≡ dir.Limbo stamp → stamp + 2 ≤ after.epoch
    old_entries : (entry incarnation stamp : ℕ) → state_in after.moment.scene.state.memory coll entry ≡ state.Free incarnation stamp → stamp + 2 ≤ after.epoch

  twice : (coll : ℕ) (m : Machine) (first second : Done) → IsOut opening shape valid start pass m → (t : TriesTwice shape pass coll m first second) → Twice coll first second t.entered t.again
  twice coll m first second out t =
      let b = begins opening shape valid start pass m t.entered out t.enters in
      let one = tries opening shape valid start pass coll t.from t.words t.entered t.tried first b.now t.tries in
      let l = ends opening shape valid start pass t.tried t.left one.now t.leaves in
      let x = moves_on opening shape valid start pass t.left t.once l.now t.advances in
      let y = moves_on opening shape valid start pass t.once t.twice x.now t.advances_again in
      let z = moves_on opening shape valid start pass t.twice t.thrice y.now t.advances_at_last in
      let g = begins opening shape valid start pass t.thrice t.again z.now t.enters_again in
      let two = tries opening shape valid start pass coll t.later_from t.later_words t.again t.last second g.now t.tries_again in
      let left : Still l.now.moment.scene.state.memory g.now.moment.scene.state.memory =
      still-trans l.now.moment.scene.state.memory x.now.moment.scene.state.memory g.now.moment.scene.state.memory x.same (still-trans x.now.moment.scene.state.memory y.now.moment.scene.state.memory g.now.moment.scene.state.memory y.same
      (still-trans y.now.moment.scene.state.memory z.now.moment.scene.state.memory g.now.moment.scene.state.memory z.same g.same)) in
      let objects = l.now.moment.scene.rule.everything.whole.agrees.objects in record {
        before = b.now;
        between = one.now.moment.scene.state.memory;
        told = one.told;
        after = g.now;
        same = still-trans one.now.moment.scene.state.memory l.now.moment.scene.state.memory g.now.moment.scene.state.memory l.same left;
        last = two.now.moment.scene.state.memory;
        told_again = two.told;
        old_slots = λ slot stamp is. omega (arith, objects.stamp_dir coll slot stamp (sym (still-dir l.now.moment.scene.state.memory g.now.moment.scene.state.memory left coll slot) ∙ is), x.higher, y.higher, z.higher, g.from);
        old_entries = λ entry a stamp is. omega (arith, objects.stamp_entry coll entry a stamp (sym (still-state l.now.moment.scene.state.memory g.now.moment.scene.state.memory left coll entry) ∙ is), x.higher, y.higher, z.higher, g.from);
      }

  module _ (coll : ℕ) (first second : Done) (entered again : Machine) (t : Twice coll first second entered again) where
    abbrev was : State
    was = t.before.moment.scene.state

    abbrev is : State
    is = t.after.moment.scene.state

    -- the second try is refused exactly where each slot has an object then
    second-exact : NoneSpent shape is coll → IsFull second ↔ EachSlotHolds shape is coll
    second-exact unspent = (
      refused-full opening shape valid is t.after.moment.scene.rule (at_rest opening shape valid start pass again t.after) coll t.after.epoch t.old_slots t.old_entries unspent second t.last t.told_again,
      λ each. full-refused opening shape valid is t.after.moment.scene.rule (at_rest opening shape valid start pass again t.after) coll t.after.epoch each second t.last t.told_again,
    )

    -- where each slot has an object at the first one both are refused
    full-both : EachSlotHolds shape was coll → IsFull first × IsFull second
    full-both each =
        let full : IsFull first = full-refused opening shape valid was t.before.moment.scene.rule (at_rest opening shape valid start pass entered t.before) coll t.before.epoch each first t.between t.told in
        let same : Still was.memory is.memory = still-trans was.memory t.between is.memory
        (full-same opening shape valid was t.before.moment.scene.rule (at_rest opening shape valid start pass entered t.before) coll t.before.epoch each first t.between t.told full) t.same in (
          full,
          full-refused opening shape valid is t.after.moment.scene.rule (at_rest opening shape valid start pass again t.after) coll t.after.epoch
              (λ slot lt. one_in_valid opening shape is t.after.moment.scene.rule (at_rest opening shape valid start pass again t.after) coll slot lt
              (still-dir was.memory is.memory same coll slot ∙ holds_valid opening shape valid was t.before.moment.scene.rule (at_rest opening shape valid start pass entered t.before) coll t.before.epoch slot (each slot lt)))
              second t.last t.told_again,
        )

    -- both are refused exactly where each slot has an object at the first one
    both-exact : NoneSpent shape was coll → (IsFull first × IsFull second) ↔ EachSlotHolds shape was coll
    both-exact unspent = (λ full. back full.0 full.1, full-both)
      where
        back : IsFull first → IsFull second → EachSlotHolds shape was coll
        back one two slot lt =
            let same : SameStates was.memory is.memory = λ c e. still-state t.between is.memory t.same c e ∙ refused_same shape t.before.epoch was.memory coll first t.between t.told one c e in
            let now : HasOneObject shape is coll slot = (second-exact (λ entry incarnation stamp le free. unspent entry incarnation stamp le (sym (same coll entry) ∙ free))).0 two slot lt in
            one_in_valid opening shape was t.before.moment.scene.rule (at_rest opening shape valid start pass entered t.before) coll slot lt
            (present_in_valid opening shape was t.before.moment.scene.rule (at_rest opening shape valid start pass entered t.before) coll now.entry now.incarnation slot (sym (same coll now.entry) ∙ now.here))

-- the state of a history, with all that is known of it
behind : (opening : Opening) (shape : Layout) (valid : IsShape shape) (world : World) (m : Machine) → History shape opening world m → Scene (Used opening shape) shape m
behind opening shape valid world m h = let u = used-then opening shape valid world m h in record { state = history_state h; backs = u.backs; rule = u.rule }

-- a pass that is alone behind a history
out-of : (opening : Opening) (shape : Layout) (world : World) (pass coll : ℕ) (m : Machine) (first second : Done) (t : IsTriedTwice shape opening world pass coll m first second) → IsOut opening shape t.valid t.history.start pass m
out-of opening shape world pass coll m _ _ t = alone-free shape t.history.start pass m (t.history.steps, t.history.leads) t.alone (behind opening shape t.valid world m t.history)

module _ (shape : Layout) (opening : Opening) (world : World) (pass coll : ℕ) (m : Machine) (first second : Done) (t : IsTriedTwice shape opening world pass coll m first second) where
  both : Twice opening shape t.valid t.history.start pass coll first second t.tries.entered t.tries.again
  both = twice opening shape t.valid t.history.start pass coll m first second (out-of opening shape world pass coll m first second t) t.tries

  -- each state behind a machine holds what another one holds
  module _ (n : Machine) (scene : Scene (Used opening shape) shape n) (h : History shape opening world n) where
    its : HoldsOf shape opening (Used opening shape) n (history_world h)
    its = used-then opening shape t.valid world n h

    pub unspent_there : NoneSpent shape (history_state h) coll → NoneSpent shape scene.state coll
    unspent_there = same-spent shape n scene.state (history_state h) scene.backs its.backs coll

    pub each_there : EachSlotHolds shape (history_state h) coll → EachSlotHolds shape scene.state coll
    each_there = same-holds shape n (history_state h) scene.state its.backs scene.backs coll opening (all_rules opening shape scene.state scene.rule.everything).slots

    pub each_here : EachSlotHolds shape scene.state coll → EachSlotHolds shape (history_state h) coll
    each_here = same-holds shape n scene.state (history_state h) scene.backs its.backs coll opening (all_rules opening shape (history_state h) its.rule.everything).slots

  pub second_is_exact : Holds shape opening world t.tries.again (λ s. NoneSpent shape s coll → IsFull second ↔ EachSlotHolds shape s coll)
  second_is_exact h unspent =
      let exact = second-exact opening shape t.valid t.history.start pass coll first second t.tries.entered t.tries.again both (unspent_there t.tries.again both.after.moment.scene h unspent) in
      (λ full. each_here t.tries.again both.after.moment.scene h (exact.0 full), λ each. exact.1 (each_there t.tries.again both.after.moment.scene h each))

  pub both_are_exact : Holds shape opening world t.tries.entered (λ s. NoneSpent shape s coll → (IsFull first × IsFull second) ↔ EachSlotHolds shape s coll)
  both_are_exact h unspent =
      let exact = both-exact opening shape t.valid t.history.start pass coll first second t.tries.entered t.tries.again both (unspent_there t.tries.entered both.before.moment.scene h unspent) in
      (λ full. each_here t.tries.entered both.before.moment.scene h (exact.0 full), λ each. exact.1 (each_there t.tries.entered both.before.moment.scene h each))

  pub full_refuses_both : Holds shape opening world t.tries.entered (λ s. EachSlotHolds shape s coll → IsFull first × IsFull second)
  full_refuses_both h each = full-both opening shape t.valid t.history.start pass coll first second t.tries.entered t.tries.again both (each_there t.tries.entered both.before.moment.scene h each)
