-- While a pass works alone and is in no call, a collection is at rest, and after it has waited each unused slot may be claimed.
use Rattle.std.proofs.Common.{◌≡◌, ℕ, ◌+◌, ◌<◌, ◌≤◌, true, false, Option, Some, None, refl, sym, ap, ◌∙◌, subst, arith}
use Rattle.std.proofs.lemmas.Bool.Decides.{nat_tests}
use Rattle.smc_words.specs.declared.dir.Dir.{Dir}
use Rattle.smc_words.specs.declared.dir.Dir.TheVariants as dir
use Rattle.smc_words.specs.declared.round.RoundWord.{RoundWord}
use Rattle.smc_shape.specs.Layout.{Layout, slots_of}
use Rattle.smc_shape.specs.declared.place.Place.TheVariants as place
use Rattle.smc_model.specs.World.{World}
use Rattle.smc_core.specs.declared.local.Opening.{Opening}
use Rattle.smc_core.specs.declared.phase.Phase.TheVariants as phase
use Rattle.smc_core.specs.declared.word.State as E
use Rattle.smc_core.specs.declared.word.State.TheVariants as state
use Rattle.smc_core.specs.Count.{is_valid}
use Rattle.smc_core.specs.Ripe.{is_ripe_slot}
use Rattle.smc_core.specs.Words.{dir_of, round_of, has_object_at}
use Rattle.smc_rules.specs.Memory.{Memory}
use Rattle.smc_rules.specs.Reads.{epoch_of_region, round_in, state_in, state_for, dir_in, object}
use Rattle.smc_rules.specs.State as S
use Rattle.smc_rules.proofs.CarryLaws.{by_pass}
use Rattle.smc_aside.specs.Aside.{IsResting}
use Rattle.smc_aside.proofs.Scenes.{AsideIn}
use Rattle.smc_aside.proofs.Stillness.{Still}
use Rattle.smc_agreement.specs.Entries.{stands_at, IsRoundOf}
use Rattle.smc_inv_use.specs.Rest.{IsAtRest, IsSlotAtRest, HasOneObject}
use Rattle.smc_inv_use.proofs.RestLaws.{only_present, present_in_valid, slot_at_rest}
use Rattle.smc_inv_use.proofs.Used.{Used}
use Rattle.smc_census.specs.Census.{is_home, homes}
use Rattle.smc_census.proofs.HomeCounts.{slot-home, home-owner}
use Rattle.smc_packing.proofs.CountSteps.{HomesAreValid}
use Rattle.smc_packing.proofs.Finishes.{AreLow}
use Rattle.smc_packing.proofs.Known.{Known}
use Rattle.smc_packing.proofs.Rooms.{is_valid_in}
use Rattle.smc_packing.proofs.Walks.{IsRested}

-- an object that is present in a slot stands there
present-stands : (a slot : ℕ) (w : E.State) → has_object_at a slot w ≡ true → stands_at w ≡ Some (a, slot)
present-stands a slot (state.Present own there) is = grind (arith, nat_tests, is)
present-stands a slot (state.Frozen own there) is = grind (arith, nat_tests, is)
present-stands a slot (state.Locked own there) is = grind (arith, nat_tests, is)
present-stands a slot (state.Removed own there f l) is = absurd (cc)
present-stands a slot (state.Free last stamp) is = absurd (cc)
present-stands a slot (state.Claimed own) is = absurd (cc)

module _ (opening : Opening) (shape : Layout) (s : S.State) (k : Known opening shape s) (pass : ℕ) (aside : AsideIn shape pass s) (idle : (s.stands pass).phase ≡ phase.Idle) where
  -- no pass has a round where this one has none
  no-round : (s.stands pass).round ≡ None → round_in s.memory ≡ None
  no-round none = go (round_in s.memory) refl
    where
      go : (round : Option RoundWord) → round_in s.memory ≡ round → round ≡ None
      go None is = refl
      go (Some round) is =
          let owner = k.all.whole.rounds.rule.names_owner.owner round is in
          by_pass round.pass pass
          (λ same. absurd (let its : (s.stands pass).round ≡ Some (record { bound = round.bound; coll = round.coll }) = subst (λ (i : ℕ). (s.stands i).round ≡ Some (record { bound = round.bound; coll = round.coll })) same owner.1 in cc))
          (λ apart. absurd (let its = owner.1 in let lacks = (aside round.pass owner.0 apart).no_round in cc))

  pub at-rest : (s.stands pass).round ≡ None → IsAtRest shape s
  at-rest none = record {
    resting = λ i li. by_pass i pass
        (λ same. subst (λ (j : ℕ). IsResting (s.stands j).phase) (sym same) (subst IsResting (sym idle) tt))
        (λ apart. (aside i li apart).resting);
    no_round = no-round none;
  }

  module _ (none : (s.stands pass).round ≡ None) (coll : ℕ) where
    used : Used opening shape s
    used = record { everything = k.all; uses = k.uses }

    -- a slot with a present object is valid
    pub homes-valid : HomesAreValid shape s.memory coll
    homes-valid slot lt is =
        let owner = home-owner opening shape s k.all coll slot lt is in
        let stood = present-stands owner.owner.incarnation slot (state_for s.memory owner.owner) owner.here in
        let here : state_in s.memory owner.owner.coll owner.owner.entry ≡ state.Present owner.owner.incarnation slot = only_present opening shape s used (at-rest none) owner.owner.coll owner.owner.entry owner.owner.incarnation slot stood in
        ap is_valid (subst (λ (c : ℕ). dir_in s.memory c slot ≡ dir.Valid) owner.home (present_in_valid opening shape s used (at-rest none) owner.owner.coll owner.owner.entry owner.owner.incarnation slot here))

    -- by what is in a slot at rest
    valid-one : (slot : ℕ) (d : Dir) → IsSlotAtRest shape s coll slot d → is_valid d ≡ true → HasOneObject shape s coll slot
    valid-one slot dir.Valid one is = one
    valid-one slot dir.Free one is = absurd (cc)
    valid-one slot dir.Claimed one is = absurd (cc)
    valid-one slot dir.Incoming one is = absurd (cc)
    valid-one slot (dir.Limbo stamp) one is = absurd (cc)

    -- a slot that is valid has one
    valid-home : (slot : ℕ) → slot < slots_of shape coll → is_valid_in s.memory coll slot ≡ true → is_home s.memory coll slot ≡ true
    valid-home slot lt is =
        let one : HasOneObject shape s coll slot = valid-one slot (dir_in s.memory coll slot) (slot_at_rest opening shape s used (at-rest none) coll slot lt) is in
        slot-home opening shape s k.all (object one.incarnation one.entry coll) slot one.within (let here = one.here in grind (arith, nat_tests, here))

    other-ripe : (epoch slot : ℕ) (d : Dir) → dir_in s.memory coll slot ≡ d → IsSlotAtRest shape s coll slot d → ((stamp : ℕ) → dir_in s.memory coll slot ≡ dir.Limbo stamp → stamp + 2 ≤ epoch) → is_valid d ≡ false → is_ripe_slot epoch d ≡ true
    other-ripe epoch slot dir.Free at one ripe is = refl
    other-ripe epoch slot (dir.Limbo stamp) at one ripe is = let low = ripe stamp at in grind (arith, nat_tests, low)
    other-ripe epoch slot dir.Valid at one ripe is = absurd (cc)
    other-ripe epoch slot dir.Claimed at one ripe is = absurd one
    other-ripe epoch slot dir.Incoming at one ripe is = absurd one

    -- it has been so since an earlier state, three epochs ago
    pub rested : (s0 : S.State) (k0 : Known opening shape s0) (epoch : ℕ) (w0 : World) → Still s0.memory s.memory → epoch_of_region s0.memory + 3 ≤ epoch
        → IsRested shape coll epoch (homes shape s.memory coll) w0 s.memory
    rested s0 k0 epoch w0 still later = record {
      valid_home = valid-home;
      home_valid = homes-valid;
      ripe = λ slot lt is. other-ripe epoch slot (dir_in s.memory coll slot) refl (slot_at_rest opening shape s used (at-rest none) coll slot lt) (λ stamp limbo.
          let before : dir_in s0.memory coll slot ≡ dir.Limbo stamp = sym (ap dir_of (still (place.Directory coll slot) refl)) ∙ limbo in
          omega (arith, k0.all.whole.agrees.objects.stamp_dir coll slot stamp before, later)) is;
      present = refl;
    }

-- without a round no object has a mark
unmarked : (opening : Opening) (shape : Layout) (s : S.State) (k : Known opening shape s) → round_in s.memory ≡ None → (c e a slot : ℕ) → has_object_at a slot (state_in s.memory c e) ≡ true
    → state_in s.memory c e ≡ state.Present a slot
unmarked opening shape s k none c e a slot has = go (state_in s.memory c e) refl has
  where
    go : (w : E.State) → state_in s.memory c e ≡ w → has_object_at a slot w ≡ true → w ≡ state.Present a slot
    go (state.Present own there) is has = grind (arith, nat_tests, has)
    go (state.Frozen own there) is has = absurd (subst (IsRoundOf c) none (k.all.whole.agrees.moves.frozen c own e there is).0)
    go (state.Locked own there) is has = absurd (subst (IsRoundOf c) none (k.all.whole.agrees.moves.locked c own e there is).0)
    go (state.Removed own there f l) is has = absurd (cc)
    go (state.Free own stamp) is has = absurd (cc)
    go (state.Claimed own) is has = absurd (cc)

-- so all are in kept slots where those without a mark are
pub all-low : (opening : Opening) (shape : Layout) (s : S.State) (k : Known opening shape s) (coll kept : ℕ) → round_in s.memory ≡ None → AreLow coll kept s.memory
    → (slot : ℕ) → slot < slots_of shape coll → is_home s.memory coll slot ≡ true → slot < kept
all-low opening shape s k coll kept none low slot lt is =
    let owner = home-owner opening shape s k.all coll slot lt is in
    let here : state_in s.memory owner.owner.coll owner.owner.entry ≡ state.Present owner.owner.incarnation slot = unmarked opening shape s k none owner.owner.coll owner.owner.entry owner.owner.incarnation slot owner.here in
    low owner.owner.incarnation owner.owner.entry slot (subst (λ (c : ℕ). state_in s.memory c owner.owner.entry ≡ state.Present owner.owner.incarnation slot) owner.home here)

-- where there was no round there is none while nothing but the epoch and section words changes
pub round-still : (before after : Memory) → Still before after → round_in before ≡ None → round_in after ≡ None
round-still before after still none = ap round_of (still place.Round refl) ∙ none
