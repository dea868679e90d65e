-- The relocation rule follows from what every state keeps.
use Rattle.std.proofs.Common.{◌≡◌, ◌≢◌, ◌⊎◌, ℕ, ◌+◌, ◌<◌, ◌≤◌, false, Option, Some, None, refl, sym, ap, ◌∙◌, subst, inl, inr, arith}
use Rattle.std.specs.Prelude.{IsTrue}
use Rattle.std.proofs.lemmas.Bool.Decides.{nat_tests}
use Rattle.smc_words.specs.declared.dir.Dir.{Dir}
use Rattle.smc_words.specs.declared.dir.Dir.TheVariants as dir
use Rattle.smc_words.specs.declared.number.Number.{Number}
use Rattle.smc_words.specs.declared.round.RoundWord.{RoundWord}
use Rattle.smc_shape.specs.Layout.{Layout}
use Rattle.smc_core.specs.declared.local.Opening.{Opening}
use Rattle.smc_core.specs.declared.local.Owned.{Owned}
use Rattle.smc_core.specs.declared.phase.Phase.{Phase}
use Rattle.smc_core.specs.declared.phase.Phase.TheVariants as phase
use Rattle.smc_core.specs.declared.phase.moves.BeginPhase.TheVariants as begin
use Rattle.smc_core.specs.declared.phase.moves.FinishPhase.{FinishPhase}
use Rattle.smc_core.specs.declared.phase.moves.FinishPhase.TheVariants as finish
use Rattle.smc_core.specs.declared.phase.objects.CopyPhase.{CopyPhase}
use Rattle.smc_core.specs.declared.phase.objects.CopyPhase.TheVariants as copy
use Rattle.smc_core.specs.declared.section.Section.{Section}
use Rattle.smc_core.specs.declared.section.Section.TheVariants.{Outside, Loaded, Announced, Again, Lasting, Inside}
use Rattle.smc_core.specs.declared.word.State as E
use Rattle.smc_core.specs.declared.word.State.TheVariants as state
use Rattle.smc_core.specs.Offer.{held_slot}
use Rattle.smc_core.specs.Section.{epoch_of}
use Rattle.smc_rules.specs.Calls.{copying_of, loaded_target, has_passed, is_behind, finish_place, cancel_place, is_counting, is_finish, locked_target}
use Rattle.smc_rules.specs.Reads.{round_in, state_in, state_for, dir_in, back_in, forward_in, object, IsIncoming}
use Rattle.smc_rules.specs.RelocationRule.{IsStillOf, frozen_in, RoundOwner, FrozenMove, LockedMove, IsHeldPlace, HeldPlace, StillLocked, IsCompleted, CopyingRule, Swung, SwungSource, RelocationRule}
use Rattle.smc_rules.specs.State.{State}
use Rattle.smc_agreement.specs.Agreement.{IsHeldBy, IsHeldIn, HasAim}
use Rattle.smc_agreement.specs.Entries.{stands_at, present_at, IsCopiedFrom, HasMoved, IsHeldEntry, IsLimbo, IsRoundOf}
use Rattle.smc_agreement.specs.Parts.{Owns, MayFinish, CallKnows, MayMeet, IsAhead, moving_to, leads_from, settled_by, copied_by, swung_source, aim_of}
use Rattle.smc_agreement.proofs.CrossLaws.{homes, IsHomed, lock_call, lock_owner, copy_start, late_copy}
use Rattle.smc_agreement.proofs.Whole.{Shut, shut, calls, copies, objects, moves, rounds, the_owner}
use Rattle.smc_inv_scan.proofs.Targets.{passed_target}
use Rattle.smc_laws.proofs.Everything.{Everything}
use Rattle.smc_laws.proofs.SlotLaws.{present-at, present-stands}

-- there is a round of a collection
round-of : (c : ℕ) (r : Option RoundWord) → IsRoundOf c r → (round : RoundWord) × (r ≡ Some round) × (round.coll ≡ c)
round-of c None is = absurd is
round-of c (Some round) is = (round, refl, is)

-- what a walk of the owner may still meet it has not passed
ahead-behind : (slot : ℕ) (place : Option ℕ) → IsAhead slot place → is_behind slot place ≡ false
ahead-behind slot None a = absurd a
ahead-behind slot (Some place) a = grind (arith, nat_tests, a)

unmet-unpassed : (next : Phase) (slot : ℕ) → MayMeet next slot → has_passed next slot ≡ false
unmet-unpassed (phase.Finish next) slot m = ahead-behind slot (finish_place next) m
unmet-unpassed (phase.Cancel next) slot m = ahead-behind slot (cancel_place next) m
unmet-unpassed (phase.Begin next) slot m = refl
unmet-unpassed phase.Idle slot m = refl
unmet-unpassed phase.Entering slot m = refl
unmet-unpassed (phase.Advancing epoch other) slot m = refl
unmet-unpassed (phase.Ready epoch) slot m = refl
unmet-unpassed (phase.Look next) slot m = refl
unmet-unpassed (phase.Add next) slot m = refl
unmet-unpassed (phase.Remove next) slot m = refl
unmet-unpassed (phase.Scan next) slot m = refl
unmet-unpassed (phase.Survey next) slot m = refl

-- a begin that still counts meets none
counting-meets-none : (next : Phase) (slot : ℕ) → IsTrue (is_counting next) → MayMeet next slot → ⊥
counting-meets-none (phase.Begin (begin.Count next)) slot t m = m
counting-meets-none (phase.Begin (begin.Nothing coll)) slot t m = absurd (cc)
counting-meets-none (phase.Begin (begin.SourceDirectory w)) slot t m = absurd (cc)
counting-meets-none (phase.Begin (begin.SourceBack w)) slot t m = absurd (cc)
counting-meets-none (phase.Begin (begin.SourceEntry w n)) slot t m = absurd (cc)
counting-meets-none (phase.Begin (begin.TargetDirectory w n)) slot t m = absurd (cc)
counting-meets-none (phase.Begin (begin.ClaimTarget w n d)) slot t m = absurd (cc)
counting-meets-none (phase.Begin (begin.BlankField w n f)) slot t m = absurd (cc)
counting-meets-none (phase.Begin (begin.StoreBack w n)) slot t m = absurd (cc)
counting-meets-none (phase.Begin (begin.StoreForward w n)) slot t m = absurd (cc)
counting-meets-none (phase.Begin (begin.StoreIncoming w n)) slot t m = absurd (cc)
counting-meets-none (phase.Begin (begin.Freeze w n)) slot t m = absurd (cc)
counting-meets-none (phase.Begin (begin.GiveUp w)) slot t m = absurd (cc)
counting-meets-none phase.Idle slot t m = absurd (cc)
counting-meets-none phase.Entering slot t m = absurd (cc)
counting-meets-none (phase.Advancing epoch other) slot t m = absurd (cc)
counting-meets-none (phase.Ready epoch) slot t m = absurd (cc)
counting-meets-none (phase.Look next) slot t m = absurd (cc)
counting-meets-none (phase.Add next) slot t m = absurd (cc)
counting-meets-none (phase.Remove next) slot t m = absurd (cc)
counting-meets-none (phase.Scan next) slot t m = absurd (cc)
counting-meets-none (phase.Finish next) slot t m = absurd (cc)
counting-meets-none (phase.Cancel next) slot t m = absurd (cc)
counting-meets-none (phase.Survey next) slot t m = absurd (cc)

-- the target that a finish moves an object to
moving-locks : (next : Phase) (c slot : ℕ) → moving_to next ≡ Some (c, slot) → locked_target next ≡ Some slot
moving-locks (phase.Finish (finish.Move g n q copy)) c slot is = grind (arith, is)
moving-locks (phase.Finish (finish.Settle g q)) c slot is = grind (arith, is)
moving-locks (phase.Finish (finish.Directory g)) c slot is = absurd (cc)
moving-locks (phase.Finish (finish.Back g)) c slot is = absurd (cc)
moving-locks (phase.Finish (finish.Entry g n)) c slot is = absurd (cc)
moving-locks (phase.Finish (finish.Lock g n q)) c slot is = absurd (cc)
moving-locks (phase.Finish (finish.LeaveSource g q)) c slot is = absurd (cc)
moving-locks (phase.Finish (finish.GiveUp g gone)) c slot is = absurd (cc)
moving-locks (phase.Finish (finish.End g)) c slot is = absurd (cc)
moving-locks phase.Idle c slot is = absurd (cc)
moving-locks phase.Entering c slot is = absurd (cc)
moving-locks (phase.Advancing epoch other) c slot is = absurd (cc)
moving-locks (phase.Ready epoch) c slot is = absurd (cc)
moving-locks (phase.Look next) c slot is = absurd (cc)
moving-locks (phase.Add next) c slot is = absurd (cc)
moving-locks (phase.Remove next) c slot is = absurd (cc)
moving-locks (phase.Scan next) c slot is = absurd (cc)
moving-locks (phase.Begin next) c slot is = absurd (cc)
moving-locks (phase.Cancel next) c slot is = absurd (cc)
moving-locks (phase.Survey next) c slot is = absurd (cc)

-- who holds an object in a slot finds it there, so it has not moved away
moved_unheld : (x y a slot : ℕ) (d : Dir) (w : E.State) → HasMoved y a slot w → IsHeldEntry x a slot d w → d ≡ dir.Valid → ⊥
moved_unheld x y a slot d (state.Present own there) m k v = m.1 k.1
moved_unheld x y a slot d (state.Removed own there f l) m k v = m.1 k.1
moved_unheld x y a slot d (state.Free last stamp) m k v = subst IsLimbo v k.2
moved_unheld x y a slot d (state.Frozen own there) m k v = m
moved_unheld x y a slot d (state.Locked own there) m k v = m
moved_unheld x y a slot d (state.Claimed own) m k v = m

copied_unheld : (x y a slot : ℕ) (d : Dir) (w : E.State) → IsCopiedFrom y a slot w → IsHeldEntry x a slot d w → d ≡ dir.Valid → ⊥
copied_unheld x y a slot d (state.Present own there) m k v = m.1 k.1
copied_unheld x y a slot d (state.Frozen own there) m k v = m.1 k.1
copied_unheld x y a slot d (state.Removed own there f l) m k v = m.1 k.1
copied_unheld x y a slot d (state.Free last stamp) m k v = subst IsLimbo v k.2
copied_unheld x y a slot d (state.Locked own there) m k v = k
copied_unheld x y a slot d (state.Claimed own) m k v = k

-- the epoch of a section that calls are made in
pub held-epoch : (s : State) (section : Section) (c a n slot : ℕ) → IsHeldBy s.memory section c a n slot → IsHeldIn s.memory (epoch_of section) c a n slot
held-epoch s (Inside x cm) c a n slot k = k
held-epoch s Outside c a n slot k = absurd k
held-epoch s (Loaded v) c a n slot k = absurd k
held-epoch s (Announced v) c a n slot k = absurd k
held-epoch s (Again v z) c a n slot k = absurd k
held-epoch s (Lasting z) c a n slot k = absurd k

one-of : (x y : Number) → Some x ≡ Some y → x ≡ y
one-of x y is = cc

module _ (opening : Opening) (shape : Layout) (s : State) (e : Everything opening shape s) where
  pub h : Shut shape s
  h = shut e.whole

  -- a round's owner
  owner_of : (round : RoundWord) → round_in s.memory ≡ Some round → (round.pass < shape.passes) × Owns (s.stands round.pass).round
  owner_of round is = let own = (rounds h).rule.names_owner.owner round is in (own.0, subst Owns (sym own.1) tt)

  pub round_owner : RoundOwner shape s
  round_owner = record {
    names = (rounds h).rule.names_owner;
    no_round = λ coll slot lt none inc. subst (IsRoundOf coll) none ((moves h).incoming_round coll slot inc);
    of_its_coll = λ round coll slot lt is inc. sym (subst (IsRoundOf coll) is ((moves h).incoming_round coll slot inc));
    none_while_it_counts = λ round slot lt is counts inc. let own = owner_of round is in
        counting-meets-none (s.stands round.pass).phase slot counts ((moves h).unpassed round.pass round.coll slot own.0 own.1 inc);
    none_passed = λ round slot lt is inc. let own = owner_of round is in
        unmet-unpassed (s.stands round.pass).phase slot ((moves h).unpassed round.pass round.coll slot own.0 own.1 inc);
    no_object_yet = λ round n slot lt is inc has. let own = owner_of round is in
        let here : present_at (state_for s.memory n) ≡ Some (n.incarnation, slot) = present-at n.incarnation slot (state_for s.memory n) has in
        moving-locks (s.stands round.pass).phase n.coll slot ((moves h).standing_in round.pass n.coll n.incarnation n.entry slot own.0 own.1 (present-stands n.incarnation slot (state_for s.memory n) here) inc);
  }

  -- no section holds a locked object
  locked_unheld : (i c a n slot there : ℕ) → i < shape.passes → state_in s.memory c n ≡ state.Locked a slot → held_slot (s.stands i).held (object a n c) ≡ Some there → ⊥
  locked_unheld i c a n slot there li is hd = go (s.stands i).section ((objects h).held i c a n there li hd)
    where
      go : (section : Section) → IsHeldBy s.memory section c a n there → ⊥
      go (Inside x cm) k = subst (IsHeldEntry x a there (dir_in s.memory c there)) is k.2
      go Outside k = k
      go (Loaded v) k = k
      go (Announced v) k = k
      go (Again v z) k = k
      go (Lasting z) k = k

  -- where an object is frozen, locked or not
  frozen-state : (c n a slot : ℕ) (w : E.State) → w ≡ state_in s.memory c n → frozen_in w ≡ Some (a, slot)
      → (state_in s.memory c n ≡ state.Frozen a slot) ⊎ (state_in s.memory c n ≡ state.Locked a slot)
  frozen-state c n a slot (state.Frozen own there) at is = inl (sym at ∙ grind (arith, is))
  frozen-state c n a slot (state.Locked own there) at is = inr (sym at ∙ grind (arith, is))
  frozen-state c n a slot (state.Present own there) at is = absurd (cc)
  frozen-state c n a slot (state.Removed own there f l) at is = absurd (cc)
  frozen-state c n a slot (state.Free last stamp) at is = absurd (cc)
  frozen-state c n a slot (state.Claimed own) at is = absurd (cc)

  aim : (c n a slot : ℕ) → (state_in s.memory c n ≡ state.Frozen a slot) ⊎ (state_in s.memory c n ≡ state.Locked a slot) → HasAim s.memory c a n slot
  aim c n a slot (inl f) = (moves h).frozen c a n slot f
  aim c n a slot (inr l) = (moves h).locked c a n slot l

  -- a call that is about to settle a target has no frozen object in it
  moving_frozen : (j c a n slot : ℕ) (next : Phase) → j < shape.passes → (s.stands j).phase ≡ next → moving_to next ≡ Some (c, slot)
      → dir_in s.memory c slot ≡ dir.Incoming → back_in s.memory c slot ≡ Some (object a n c) → state_in s.memory c n ≡ state.Frozen a slot → ⊥
  moving_frozen j c a n slot (phase.Finish (finish.Move g m q stage)) lj at to inc nm is =
      let gc : g.coll ≡ c = grind (arith, to) in
      let gs : g.slot ≡ slot = grind (arith, to) in
      let hm : m.coll ≡ g.coll = subst IsHomed at (homes shape s h j lj) in
      let mc : m.coll ≡ c = hm ∙ gc in
      let cp : copying_of (s.stands j).phase ≡ Some (record { number = m; source = q; next = stage }) = ap copying_of at in
      let lead : forward_in s.memory g.coll q ≡ g.slot = (calls h).c_leads j g.coll q g.slot lj (ap leads_from at) in
      let there : forward_in s.memory m.coll q ≡ slot = ap (λ (k : ℕ). forward_in s.memory k q) hm ∙ (lead ∙ gs) in
      let inc' : dir_in s.memory m.coll (forward_in s.memory m.coll q) ≡ dir.Incoming = subst (λ (k : ℕ). dir_in s.memory k (forward_in s.memory m.coll q) ≡ dir.Incoming) (sym mc) (subst (λ (z : ℕ). dir_in s.memory c z ≡ dir.Incoming) (sym there) inc) in
      let bk : back_in s.memory m.coll (forward_in s.memory m.coll q) ≡ Some m = (copies h).j_back j m.coll m.incarnation m.entry q stage lj cp inc' in
      let bc : back_in s.memory c slot ≡ Some m = subst (λ (k : ℕ). back_in s.memory k slot ≡ Some m) mc (subst (λ (z : ℕ). back_in s.memory m.coll z ≡ Some m) there bk) in
      let one : m ≡ object a n c = one-of m (object a n c) (sym bc ∙ nm) in
      let cb : copied_by (s.stands j).phase ≡ Some (object a n c) = ap copied_by at ∙ ap (λ (z : Number). Some z) one in
      let knows : CallKnows (s.stands j).section (s.stands j).round (phase.Finish (finish.Move g m q stage)) = subst (λ (k : Phase). CallKnows (s.stands j).section (s.stands j).round k) at ((calls h).calls j lj) in
      let late : MayFinish (epoch_of (s.stands j).section) c (s.stands j).round = subst (λ (k : ℕ). MayFinish (epoch_of (s.stands j).section) k (s.stands j).round) gc knows.1 in
      let after : epoch_of (s.stands j).section + 2 ≤ epoch_of (s.stands j).section = late_copy shape s h j (epoch_of (s.stands j).section) c a n slot j lj lj late is cb in
      omega (arith, after)
  moving_frozen j c a n slot (phase.Finish (finish.Settle g q)) lj at to inc nm is =
      let gc : g.coll ≡ c = grind (arith, to) in
      let gs : g.slot ≡ slot = grind (arith, to) in
      let ends = (calls h).c_ends j g.coll q g.slot lj (ap settled_by at) in
      let inc' : dir_in s.memory g.coll g.slot ≡ dir.Incoming = subst (λ (k : ℕ). dir_in s.memory k g.slot ≡ dir.Incoming) (sym gc) (subst (λ (z : ℕ). dir_in s.memory c z ≡ dir.Incoming) (sym gs) inc) in
      let same : back_in s.memory g.coll g.slot ≡ back_in s.memory g.coll q = ends.2 inc' in
      let nm' : back_in s.memory g.coll g.slot ≡ Some (object a n c) = subst (λ (k : ℕ). back_in s.memory k g.slot ≡ Some (object a n c)) (sym gc) (subst (λ (z : ℕ). back_in s.memory c z ≡ Some (object a n c)) (sym gs) nm) in
      let bq : back_in s.memory c q ≡ Some (object a n c) = subst (λ (k : ℕ). back_in s.memory k q ≡ Some (object a n c)) gc (sym same ∙ nm') in
      let sw : swung_source (s.stands j).phase ≡ Some (c, q) = subst (λ (k : ℕ). swung_source (s.stands j).phase ≡ Some (k, q)) gc (ap swung_source at) in
      subst (HasMoved (epoch_of (s.stands j).section) a q) is ((calls h).c_moved j c q a n lj sw bq)
  moving_frozen j c a n slot (phase.Finish (finish.Directory g)) lj at to inc nm is = cc
  moving_frozen j c a n slot (phase.Finish (finish.Back g)) lj at to inc nm is = cc
  moving_frozen j c a n slot (phase.Finish (finish.Entry g m)) lj at to inc nm is = cc
  moving_frozen j c a n slot (phase.Finish (finish.Lock g m q)) lj at to inc nm is = cc
  moving_frozen j c a n slot (phase.Finish (finish.LeaveSource g q)) lj at to inc nm is = cc
  moving_frozen j c a n slot (phase.Finish (finish.GiveUp g gone)) lj at to inc nm is = cc
  moving_frozen j c a n slot (phase.Finish (finish.End g)) lj at to inc nm is = cc
  moving_frozen j c a n slot phase.Idle lj at to inc nm is = cc
  moving_frozen j c a n slot phase.Entering lj at to inc nm is = cc
  moving_frozen j c a n slot (phase.Advancing epoch other) lj at to inc nm is = cc
  moving_frozen j c a n slot (phase.Ready epoch) lj at to inc nm is = cc
  moving_frozen j c a n slot (phase.Look next) lj at to inc nm is = cc
  moving_frozen j c a n slot (phase.Add next) lj at to inc nm is = cc
  moving_frozen j c a n slot (phase.Remove next) lj at to inc nm is = cc
  moving_frozen j c a n slot (phase.Scan next) lj at to inc nm is = cc
  moving_frozen j c a n slot (phase.Begin next) lj at to inc nm is = cc
  moving_frozen j c a n slot (phase.Cancel next) lj at to inc nm is = cc
  moving_frozen j c a n slot (phase.Survey next) lj at to inc nm is = cc

  -- a frozen or locked object does not stand in a target
  not_in_target : (c n a slot : ℕ) → (state_in s.memory c n ≡ state.Frozen a slot) ⊎ (state_in s.memory c n ≡ state.Locked a slot) → dir_in s.memory c slot ≢ dir.Incoming
  not_in_target c n a slot (inr l) inc = let v : dir_in s.memory c slot ≡ dir.Valid = (copy_start shape s h c a n slot l).2 in valid_incoming (dir_in s.memory c slot) v inc
    where
      valid_incoming : (d : Dir) → d ≡ dir.Valid → d ≡ dir.Incoming → ⊥
      valid_incoming d v i = cc
  not_in_target c n a slot (inl f) inc =
      let (j, b, lj, oj, r) = the_owner shape s h c ((moves h).incoming_round c slot inc) in
      moving_frozen j c a n slot (s.stands j).phase lj refl
      ((moves h).standing_in j c a n slot lj (subst Owns (sym oj) tt) (ap stands_at f) inc) inc ((objects h).standing c a n slot (ap stands_at f)) f

  -- the target is the only one
  only_target : (c n a slot : ℕ) → (state_in s.memory c n ≡ state.Frozen a slot) ⊎ (state_in s.memory c n ≡ state.Locked a slot) → (target : ℕ)
      → IsIncoming s.memory c target → back_in s.memory c target ≡ Some (object a n c) → target ≡ forward_in s.memory c slot
  only_target c n a slot is target inc nm = elim ((moves h).incoming_fwd c target a n slot inc nm (present is)) [
    | inl fwd ↦ sym fwd
    | inr here ↦ absurd (not_in_target c n a slot is (subst (λ (k : ℕ). dir_in s.memory c k ≡ dir.Incoming) (sym here) inc))
  ]
    where
      present : (state_in s.memory c n ≡ state.Frozen a slot) ⊎ (state_in s.memory c n ≡ state.Locked a slot) → present_at (state_in s.memory c n) ≡ Some (a, slot)
      present (inl f) = ap present_at f
      present (inr l) = ap present_at l

  holders_bound : (c n a slot : ℕ) → (state_in s.memory c n ≡ state.Frozen a slot) ⊎ (state_in s.memory c n ≡ state.Locked a slot) → (round : RoundWord)
      → round_in s.memory ≡ Some round → (i there : ℕ) → i < shape.passes → held_slot (s.stands i).held (object a n c) ≡ Some there → epoch_of (s.stands i).section ≤ round.bound
  holders_bound c n a slot (inl f) round r i there li hd = (moves h).frozen_held i c a n slot there round li f r hd
  holders_bound c n a slot (inr l) round r i there li hd = absurd (locked_unheld i c a n slot there li l hd)

  pub frozen_move : FrozenMove shape s
  frozen_move c n a slot lt is =
      let at = frozen-state c n a slot (state_in s.memory c n) refl is in
      let to = aim c n a slot at in
      let (round, r, coll) = round-of c (round_in s.memory) to.0 in record {
        round = round;
        in_progress = r;
        of_its_coll = coll;
        below = to.3;
        incoming = to.1;
        owner = to.2;
        only = λ target lt inc own. only_target c n a slot at target inc own;
        blank = λ f k kt. e.records.frozen_blank c a n slot k f kt;
        holders = λ i there li hd. holders_bound c n a slot at round r i there li hd;
      }

  -- a locked object is locked by the finish of the round's owner
  pub locked_move : LockedMove shape s
  locked_move c n a slot lt is =
      let (j, b, lj, oj, r, lo) = lock_owner shape s h c a n slot is in
      let (g, q, stage, at, to) = lock_call (s.stands j).phase (forward_in s.memory c slot) (object a n c) lo in
      let knows : CallKnows (s.stands j).section (Some (record { bound = b; coll = c })) (phase.Finish (finish.Move g (object a n c) q stage)) =
      subst (λ (k : Phase). CallKnows (s.stands j).section (Some (record { bound = b; coll = c })) k) at
      (subst (λ (o : Option Owned). CallKnows (s.stands j).section o (s.stands j).phase) oj ((calls h).calls j lj)) in record {
        round = record { bound = b; pass = j; coll = c };
        in_progress = r;
        finishes = subst (λ (k : Phase). IsTrue (is_finish k)) (sym at) refl;
        late = knows.1.1;
        unheld = λ i li. unheld i li (held_slot (s.stands i).held (object a n c)) refl;
        source = λ f kt. e.records.placed_record c a n slot f (ap present_at is) kt;
        target = λ f kt. e.records.locked_fields c a n slot f is kt;
      }
    where
      unheld : (i : ℕ) → i < shape.passes → (o : Option ℕ) → held_slot (s.stands i).held (object a n c) ≡ o → o ≡ None
      unheld i li None hd = refl
      unheld i li (Some there) hd = absurd (locked_unheld i c a n slot there li is hd)

  -- what a section holds
  pub held_place : HeldPlace shape s
  held_place i slot n li hd = go (s.stands i).section refl ((objects h).held i n.coll n.incarnation n.entry slot li hd)
    where
      still : (x : ℕ) (d : Dir) (w : E.State) → IsHeldEntry x n.incarnation slot d w → IsStillOf x n.incarnation slot w
      still x d (state.Present own there) k = k
      still x d (state.Frozen own there) k = k
      still x d (state.Removed own there f l) k = k
      still x d (state.Free last stamp) k = (k.0, k.1)
      still x d (state.Locked own there) k = absurd k
      still x d (state.Claimed own) k = absurd k

      go : (section : Section) → (s.stands i).section ≡ section → IsHeldBy s.memory section n.coll n.incarnation n.entry slot → IsHeldPlace shape s (epoch_of (s.stands i).section) n slot
      go (Inside x cm) at k = subst (λ (z : Section). IsHeldPlace shape s (epoch_of z) n slot) (sym at) (record {
        entry = still x (dir_in s.memory n.coll slot) (state_for s.memory n) k.2;
        readable = k.1;
        owner = k.0;
        record_of_it = λ f lt. e.records.held_record i n.coll n.incarnation n.entry slot f li hd lt;
      })
      go Outside at k = absurd k
      go (Loaded v) at k = absurd k
      go (Announced v) at k = absurd k
      go (Again v z) at k = absurd k
      go (Lasting z) at k = absurd k

  -- what one who copies knows
  pub copying_rule : CopyingRule shape s
  copying_rule i c li is = record {
    one_target = λ target at. led c.next ((copies h).j_led i c.number.coll c.number.incarnation c.number.entry c.source c.next li is).0 target at;
    passed = λ f lt. e.records.j_passed i c.number.coll c.number.incarnation c.number.entry c.source f c.next li is lt;
    either = go (state_for s.memory c.number) refl ((copies h).j_entry i c.number.coll c.number.incarnation c.number.entry c.source c.next li is);
  }
    where
      led : (next : CopyPhase) → forward_in s.memory c.number.coll c.source ≡ aim_of s.memory c.number.coll c.source next → (target : ℕ) → loaded_target next ≡ Some target
          → target ≡ forward_in s.memory c.number.coll c.source
      led copy.Target f target at = absurd (cc)
      led (copy.Load t k) f target at = grind (arith, f, at)
      led (copy.Put t k v) f target at = grind (arith, f, at)
      led (copy.Swing t) f target at = grind (arith, f, at)

      done : state_for s.memory c.number ≢ state.Locked c.number.incarnation c.source → StillLocked s c ⊎ IsCompleted shape s (epoch_of (s.stands i).section) c
      done unlocked = inr (record {
        moved = unlocked;
        full = λ f lt. elim (e.records.j_fields i c.number.coll c.number.incarnation c.number.entry c.source f c.next li is lt) [ inl l ↦ absurd (unlocked l) | inr n ↦ n ];
        source = (copies h).j_left i c.number.coll c.number.incarnation c.number.entry c.source c.next li is;
        target = (copies h).j_for i c.number.coll c.number.incarnation c.number.entry c.source c.next li is;
      })

      go : (w : E.State) → state_for s.memory c.number ≡ w → IsCopiedFrom (epoch_of (s.stands i).section) c.number.incarnation c.source w
          → StillLocked s c ⊎ IsCompleted shape s (epoch_of (s.stands i).section) c
      go (state.Locked own there) at k =
          let locked : state_for s.memory c.number ≡ state.Locked c.number.incarnation c.source = at ∙ (ap (λ (z : ℕ). state.Locked z there) k.0 ∙ ap (λ (z : ℕ). state.Locked c.number.incarnation z) k.1) in
          inl (record { locked = locked; word = λ f v ld. e.records.j_word i c.number.coll c.number.incarnation c.number.entry c.source f v c.next li is locked ld })
      go (state.Present own there) at k = done (λ l. let no : state.Present own there ≡ state.Locked c.number.incarnation c.source = sym at ∙ l in cc)
      go (state.Frozen own there) at k = done (λ l. let no : state.Frozen own there ≡ state.Locked c.number.incarnation c.source = sym at ∙ l in cc)
      go (state.Removed own there f m) at k = done (λ l. let no : state.Removed own there f m ≡ state.Locked c.number.incarnation c.source = sym at ∙ l in cc)
      go (state.Free last stamp) at k = done (λ l. let no : state.Free last stamp ≡ state.Locked c.number.incarnation c.source = sym at ∙ l in cc)
      go (state.Claimed own) at k = absurd k

  -- a source that was swung is valid
  swung_valid : (i coll slot : ℕ) (next : FinishPhase) → i < shape.passes → (s.stands i).phase ≡ phase.Finish next → Swung s next coll slot → dir_in s.memory coll slot ≡ dir.Valid
  swung_valid i coll slot (finish.Move g m q stage) li at w = subst (λ (k : ℕ). dir_in s.memory k slot ≡ dir.Valid) w.0 (subst (λ (k : ℕ). dir_in s.memory g.coll k ≡ dir.Valid) w.1 ((calls h).c_leaves i g.coll q li (grind (arith, at))))
  swung_valid i coll slot (finish.Settle g q) li at w = subst (λ (k : ℕ). dir_in s.memory k slot ≡ dir.Valid) w.0 (subst (λ (k : ℕ). dir_in s.memory g.coll k ≡ dir.Valid) w.1 ((calls h).c_leaves i g.coll q li (grind (arith, at))))
  swung_valid i coll slot (finish.LeaveSource g q) li at w = subst (λ (k : ℕ). dir_in s.memory k slot ≡ dir.Valid) w.0 (subst (λ (k : ℕ). dir_in s.memory g.coll k ≡ dir.Valid) w.1 ((calls h).c_leaves i g.coll q li (grind (arith, at))))
  swung_valid i coll slot (finish.Directory g) li at w = absurd w
  swung_valid i coll slot (finish.Back g) li at w = absurd w
  swung_valid i coll slot (finish.Entry g m) li at w = absurd w
  swung_valid i coll slot (finish.Lock g m q) li at w = absurd w
  swung_valid i coll slot (finish.GiveUp g gone) li at w = absurd w
  swung_valid i coll slot (finish.End g) li at w = absurd w

  -- and no section holds an object in it
  swung_unheld : (i coll slot : ℕ) (next : FinishPhase) → i < shape.passes → (s.stands i).phase ≡ phase.Finish next → Swung s next coll slot
      → (other : ℕ) (n : Number) → other < shape.passes → n.coll ≡ coll → held_slot (s.stands other).held n ≡ Some slot → ⊥
  swung_unheld i coll slot next li at w other n lo same hd =
      let k = held-epoch s (s.stands other).section n.coll n.incarnation n.entry slot ((objects h).held other n.coll n.incarnation n.entry slot lo hd) in
      go next at w k (swung_valid i coll slot next li at w)
    where
      gone_from : swung_source (s.stands i).phase ≡ Some (coll, slot) → IsHeldIn s.memory (epoch_of (s.stands other).section) n.coll n.incarnation n.entry slot → dir_in s.memory coll slot ≡ dir.Valid → ⊥
      gone_from sw k v =
          let bn : back_in s.memory coll slot ≡ Some (object n.incarnation n.entry coll) = subst (λ (c : ℕ). back_in s.memory c slot ≡ Some (object n.incarnation n.entry c)) same k.0 in
          moved_unheld (epoch_of (s.stands other).section) (epoch_of (s.stands i).section) n.incarnation slot (dir_in s.memory coll slot) (state_in s.memory coll n.entry)
          ((calls h).c_moved i coll slot n.incarnation n.entry li sw bn)
          (subst (λ (c : ℕ). IsHeldEntry (epoch_of (s.stands other).section) n.incarnation slot (dir_in s.memory c slot) (state_in s.memory c n.entry)) same k.2) v

      go : (next : FinishPhase) → (s.stands i).phase ≡ phase.Finish next → Swung s next coll slot → IsHeldIn s.memory (epoch_of (s.stands other).section) n.coll n.incarnation n.entry slot
          → dir_in s.memory coll slot ≡ dir.Valid → ⊥
      go (finish.Move g m q stage) at w k v =
          let hm : m.coll ≡ g.coll = subst IsHomed at (homes shape s h i li) in
          let mn : m.coll ≡ n.coll = hm ∙ (w.0 ∙ sym same) in
          let cp : copying_of (s.stands i).phase ≡ Some (record { number = m; source = q; next = stage }) = ap copying_of at in
          let bm : back_in s.memory m.coll q ≡ Some m = (copies h).j_named i m.coll m.incarnation m.entry q stage li cp in
          let bn : back_in s.memory n.coll slot ≡ Some m = subst (λ (c : ℕ). back_in s.memory c slot ≡ Some m) mn (subst (λ (z : ℕ). back_in s.memory m.coll z ≡ Some m) w.1 bm) in
          let one : m ≡ n = one-of m n (sym bn ∙ k.0) in
          let from : IsCopiedFrom (epoch_of (s.stands i).section) m.incarnation slot (state_for s.memory m) =
          subst (λ (z : ℕ). IsCopiedFrom (epoch_of (s.stands i).section) m.incarnation z (state_for s.memory m)) w.1 ((copies h).j_entry i m.coll m.incarnation m.entry q stage li cp) in
          copied_unheld (epoch_of (s.stands other).section) (epoch_of (s.stands i).section) n.incarnation slot (dir_in s.memory n.coll slot) (state_for s.memory n)
          (subst (λ (z : Number). IsCopiedFrom (epoch_of (s.stands i).section) z.incarnation slot (state_for s.memory z)) one from) k.2 (subst (λ (c : ℕ). dir_in s.memory c slot ≡ dir.Valid) (sym same) v)
      go (finish.Settle g q) at w k v =
          gone_from (subst (λ (z : ℕ). swung_source (s.stands i).phase ≡ Some (coll, z)) w.1 (subst (λ (c : ℕ). swung_source (s.stands i).phase ≡ Some (c, q)) w.0 (ap swung_source at))) k v
      go (finish.LeaveSource g q) at w k v =
          gone_from (subst (λ (z : ℕ). swung_source (s.stands i).phase ≡ Some (coll, z)) w.1 (subst (λ (c : ℕ). swung_source (s.stands i).phase ≡ Some (c, q)) w.0 (ap swung_source at))) k v
      go (finish.Directory g) at w k v = w
      go (finish.Back g) at w k v = w
      go (finish.Entry g m) at w k v = w
      go (finish.Lock g m q) at w k v = w
      go (finish.GiveUp g gone) at w k v = w
      go (finish.End g) at w k v = w

  pub swung : SwungSource shape s
  swung = record {
    valid = λ i coll slot next li at w. swung_valid i coll slot next li at w;
    unheld = λ i coll slot next li at w other n lo same hd. swung_unheld i coll slot next li at w other n lo same hd;
  }

  -- all parts of the relocation rule
  pub relocation_rule : RelocationRule shape s
  relocation_rule = record {
    calm_bound = (rounds h).rule.calm_bound;
    round_owner = round_owner;
    frozen_move = frozen_move;
    locked_move = locked_move;
    held_place = held_place;
    copying = copying_rule;
    swung_source = swung;
    passed_target = passed_target shape s h e.scans;
  }
