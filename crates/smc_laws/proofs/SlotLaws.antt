-- The slot rule follows from what every state keeps.
use Rattle.std.proofs.Common.{◌≡◌, ◌⊎◌, ℕ, ◌<◌, ◌≤◌, Option, Some, None, refl, sym, ◌∙◌, subst, inl, inr, arith}
use Rattle.std.specs.Prelude.{IsTrue, IsSome}
use Rattle.std.proofs.lemmas.Bool.Decides.{nat_tests}
use Rattle.smc_words.specs.declared.dir.Dir.{Dir}
use Rattle.smc_words.specs.declared.dir.Dir.TheVariants as dir
use Rattle.smc_words.specs.declared.number.Number.{Number}
use Rattle.smc_shape.specs.Layout.{Layout, width_of}
use Rattle.smc_core.specs.declared.local.Opening.{Opening}
use Rattle.smc_core.specs.declared.phase.Phase.{Phase}
use Rattle.smc_core.specs.declared.phase.Phase.TheVariants as phase
use Rattle.smc_core.specs.declared.phase.moves.BeginPhase.{BeginPhase}
use Rattle.smc_core.specs.declared.phase.moves.BeginPhase.TheVariants as begin
use Rattle.smc_core.specs.declared.phase.moves.CancelPhase.TheVariants as cancel
use Rattle.smc_core.specs.declared.phase.moves.FinishPhase.TheVariants as finish
use Rattle.smc_core.specs.declared.phase.moves.Walk.{Walk}
use Rattle.smc_core.specs.declared.phase.objects.AddPhase.{AddPhase}
use Rattle.smc_core.specs.declared.phase.objects.AddPhase.TheVariants as add
use Rattle.smc_core.specs.declared.phase.objects.RemovePhase.TheVariants as remove
use Rattle.smc_core.specs.declared.word.State as E
use Rattle.smc_core.specs.declared.word.State.TheVariants as state
use Rattle.smc_core.specs.Words.{has_object_at}
use Rattle.smc_rules.specs.Calls.{Slot, claimed_slot, claimed_number, owed_slot, owed_number, sources_of, targets_of, walk_over_sources, walk_over_targets}
use Rattle.smc_rules.specs.Reads.{state_in, state_for, dir_in, back_in, object, IsClaimed, IsBlankBelow}
use Rattle.smc_rules.specs.RoundAgreement.{is_owners}
use Rattle.smc_core.specs.declared.local.Owned.{Owned}
use Rattle.smc_rules.specs.SlotRule.{IsOneOf, AddStands, BeginStands, StandsAsStored, IsHome, SlotRule}
use Rattle.smc_rules.specs.State.{State}
use Rattle.smc_agreement.specs.Entries.{stands_at, present_at, IsRemovedFrom, IsElsewhere, IsPlaced}
use Rattle.smc_agreement.specs.Parts.{named_by, target_of, source_left, Owns, removed_by, leaving_of, moving_to}
use Rattle.smc_agreement.specs.Records.{blanked_by}
use Rattle.smc_agreement.proofs.CrossLaws.{below, homes, IsHomed, IsAbove}
use Rattle.smc_agreement.proofs.Whole.{Shut, shut, calls, claims, objects, moves, rounds, owner_same}
use Rattle.smc_laws.proofs.Everything.{Everything}

-- where an object is present in a slot
pub present-at : (a slot : ℕ) (w : E.State) → IsTrue (has_object_at a slot w) → present_at w ≡ Some (a, slot)
present-at a slot (state.Present own there) t = grind (arith, nat_tests)
present-at a slot (state.Frozen own there) t = grind (arith, nat_tests)
present-at a slot (state.Locked own there) t = grind (arith, nat_tests)
present-at a slot (state.Removed own there f l) t = absurd (cc)
present-at a slot (state.Free last stamp) t = absurd (cc)
present-at a slot (state.Claimed own) t = absurd (cc)

pub present-stands : (a slot : ℕ) (w : E.State) → present_at w ≡ Some (a, slot) → stands_at w ≡ Some (a, slot)
present-stands a slot (state.Present own there) t = t
present-stands a slot (state.Frozen own there) t = t
present-stands a slot (state.Locked own there) t = t
present-stands a slot (state.Removed own there f l) t = absurd (cc)
present-stands a slot (state.Free last stamp) t = absurd (cc)
present-stands a slot (state.Claimed own) t = absurd (cc)

none-some : (o : Option Slot) (x : Slot) → o ≡ None → o ≡ Some x → ⊥
none-some None x n is = cc
none-some (Some y) x n is = cc

some-same : (w v : Walk) → Some w ≡ Some v → w ≡ v
some-same w v is = cc

-- the walk of a begin is at a source above the kept slots, and at a target among them
above-source : (shape : Layout) (m : Walk) (a b : Option Walk) → IsAbove shape a b → a ≡ Some m → m.kept ≤ m.source
above-source shape m None b x is = absurd (cc)
above-source shape m (Some w) None x is = subst (λ (k : Walk). k.kept ≤ k.source) (some-same w m is) x.0
above-source shape m (Some w) (Some v) x is = subst (λ (k : Walk). k.kept ≤ k.source) (some-same w m is) x.0

below-target : (shape : Layout) (m : Walk) (a b : Option Walk) → IsAbove shape a b → a ≡ Some m → b ≡ Some m → m.target < m.kept
below-target shape m None b x is at = absurd (cc)
below-target shape m (Some w) None x is at = absurd (cc)
below-target shape m (Some w) (Some v) x is at = subst (λ (k : Walk). k.target < k.kept) (some-same w m is) x.2

targets-sources : (next : BeginPhase) (m : Walk) → targets_of next ≡ Some m → sources_of next ≡ Some m
targets-sources (begin.Count next) m is = absurd (cc)
targets-sources (begin.Nothing coll) m is = absurd (cc)
targets-sources (begin.SourceDirectory w) m is = absurd (cc)
targets-sources (begin.SourceBack w) m is = absurd (cc)
targets-sources (begin.SourceEntry w number) m is = absurd (cc)
targets-sources (begin.TargetDirectory w number) m is = is
targets-sources (begin.ClaimTarget w number seen) m is = is
targets-sources (begin.BlankField w number field) m is = is
targets-sources (begin.StoreBack w number) m is = is
targets-sources (begin.StoreForward w number) m is = is
targets-sources (begin.StoreIncoming w number) m is = is
targets-sources (begin.Freeze w number) m is = is
targets-sources (begin.GiveUp w) m is = is

-- a removed object stands in its slot until its entry is free
gone-stands : (a slot : ℕ) (w : E.State) → IsRemovedFrom a slot w → stands_at w ≡ Some (a, slot)
gone-stands a slot (state.Removed own there f l) r = grind (arith, r)
gone-stands a slot (state.Present own there) r = absurd r
gone-stands a slot (state.Frozen own there) r = absurd r
gone-stands a slot (state.Locked own there) r = absurd r
gone-stands a slot (state.Free last stamp) r = absurd r
gone-stands a slot (state.Claimed own) r = absurd r

gone-there : (a slot : ℕ) (w : E.State) → IsRemovedFrom a slot w → IsElsewhere a slot w → ⊥
gone-there a slot (state.Removed own there f l) r x = x.1 r.0 r.1
gone-there a slot (state.Present own there) r x = absurd r
gone-there a slot (state.Frozen own there) r x = absurd r
gone-there a slot (state.Locked own there) r x = absurd r
gone-there a slot (state.Free last stamp) r x = absurd r
gone-there a slot (state.Claimed own) r x = absurd r

-- a remove that is about to leave its slot has removed the object
leaving-removes : (next : Phase) (slot : ℕ) (n : Number) → leaving_of next ≡ Some (slot, n) → removed_by next ≡ Some n
leaving-removes (phase.Remove (remove.LeaveSlot there number)) slot n is = grind (arith, is)
leaving-removes (phase.Remove (remove.FreeEntry number)) slot n is = absurd (cc)
leaving-removes phase.Idle slot n is = absurd (cc)
leaving-removes phase.Entering slot n is = absurd (cc)
leaving-removes (phase.Advancing epoch other) slot n is = absurd (cc)
leaving-removes (phase.Ready epoch) slot n is = absurd (cc)
leaving-removes (phase.Look next) slot n is = absurd (cc)
leaving-removes (phase.Add next) slot n is = absurd (cc)
leaving-removes (phase.Scan next) slot n is = absurd (cc)
leaving-removes (phase.Begin next) slot n is = absurd (cc)
leaving-removes (phase.Finish next) slot n is = absurd (cc)
leaving-removes (phase.Cancel next) slot n is = absurd (cc)
leaving-removes (phase.Survey next) slot n is = absurd (cc)

module _ (opening : Opening) (shape : Layout) (s : State) (e : Everything opening shape s) where
  h : Shut shape s
  h = shut e.whole

  -- what is claimed is claimed by one call
  slot_claim : (coll slot : ℕ) → IsClaimed s.memory coll slot → IsOneOf shape s.stands (λ call. claimed_slot call ≡ Some (coll, slot))
  slot_claim coll slot is = let (i, li, by) = (claims h).claimed coll slot is in record {
    pass = i;
    within = li;
    has = by;
    only = λ other lo its. (claims h).one_slot other i coll slot lo li its by;
  }

  entry_claim : (coll entry a : ℕ) → state_in s.memory coll entry ≡ state.Claimed a → IsOneOf shape s.stands (λ call. claimed_number call ≡ Some (object a entry coll))
  entry_claim coll entry a is = let (i, li, by) = (claims h).taken coll a entry is in record {
    pass = i;
    within = li;
    has = by;
    only = λ other lo its. (claims h).one_entry other i coll a a entry lo li its by;
  }

  -- what an add has stored stands as stored
  add_stands : (i : ℕ) → i < shape.passes → (next : AddPhase) → (s.stands i).phase ≡ phase.Add next → AddStands shape s.memory (s.stands i).words next
  add_stands i li (add.FindSlot coll from slot tried) at = tt
  add_stands i li (add.ClaimSlot coll from slot tried seen) at = tt
  add_stands i li (add.FindEntry coll slot entry tried) at = (calls h).c_slot i coll slot li (grind (arith, at))
  add_stands i li (add.ClaimEntry coll slot entry tried incarnation stamp) at = (calls h).c_slot i coll slot li (grind (arith, at))
  add_stands i li (add.DropSlot coll slot) at = (calls h).c_slot i coll slot li (grind (arith, at))
  add_stands i li (add.StoreBack slot number) at = (calls h).c_slot i number.coll slot li (grind (arith, at))
  add_stands i li (add.StoreField slot number field) at = (
    (calls h).c_slot i number.coll slot li (grind (arith, at)),
    (calls h).c_named i number.coll slot number.incarnation number.entry li (grind (arith, at)),
    λ k lt. e.records.c_stored i number.coll slot number.incarnation number.entry field k li (grind (arith, at)) lt,
  )
  add_stands i li (add.StoreValid slot number) at = (
    (calls h).c_slot i number.coll slot li (grind (arith, at)),
    (calls h).c_named i number.coll slot number.incarnation number.entry li (grind (arith, at)),
    λ k lt. e.records.c_stored i number.coll slot number.incarnation number.entry (width_of shape number.coll) k li (grind (arith, at)) lt,
  )
  add_stands i li (add.StoreLive slot number) at = (
    (calls h).c_lives i number.coll slot number.incarnation number.entry li (grind (arith, at)),
    (calls h).c_named i number.coll slot number.incarnation number.entry li (grind (arith, at)),
    λ k lt. e.records.c_stored i number.coll slot number.incarnation number.entry (width_of shape number.coll) k li (grind (arith, at)) lt,
  )

  -- and a begin
  blank : (i : ℕ) (moves : Walk) (many : ℕ) → i < shape.passes → blanked_by shape (s.stands i).phase ≡ Some ((moves.coll, moves.target), many) → IsBlankBelow s.memory moves.coll moves.target many
  blank i moves many li at k lt = e.records.c_blanks i moves.coll moves.target many k li at lt

  named : (i : ℕ) (moves : Walk) (number : Number) → i < shape.passes → number.coll ≡ moves.coll → named_by (s.stands i).phase ≡ Some (moves.target, number)
      → back_in s.memory moves.coll moves.target ≡ Some number
  named i moves number li home at = subst (λ (c : ℕ). back_in s.memory c moves.target ≡ Some number) home ((calls h).c_named i number.coll moves.target number.incarnation number.entry li at)

  home_of : (i : ℕ) (next : BeginPhase) → i < shape.passes → (s.stands i).phase ≡ phase.Begin next → IsHomed (phase.Begin next)
  home_of i next li at = subst IsHomed at (homes shape s h i li)

  begin_stands : (i : ℕ) → i < shape.passes → (next : BeginPhase) → (s.stands i).phase ≡ phase.Begin next → BeginStands shape s.memory next
  begin_stands i li (begin.Count next) at = tt
  begin_stands i li (begin.Nothing coll) at = tt
  begin_stands i li (begin.SourceDirectory moves) at = tt
  begin_stands i li (begin.SourceBack moves) at = tt
  begin_stands i li (begin.SourceEntry moves number) at = tt
  begin_stands i li (begin.TargetDirectory moves number) at = tt
  begin_stands i li (begin.ClaimTarget moves number seen) at = tt
  begin_stands i li (begin.BlankField moves number field) at = (
    (calls h).c_slot i moves.coll moves.target li (grind (arith, at)),
    blank i moves field li (grind (arith, at)),
  )
  begin_stands i li (begin.StoreBack moves number) at = (
    (calls h).c_slot i moves.coll moves.target li (grind (arith, at)),
    blank i moves (width_of shape moves.coll) li (grind (arith, at)),
  )
  begin_stands i li (begin.StoreForward moves number) at = (
    (calls h).c_slot i moves.coll moves.target li (grind (arith, at)),
    blank i moves (width_of shape moves.coll) li (grind (arith, at)),
    named i moves number li (home_of i (begin.StoreForward moves number) li at) (grind (arith, at)),
  )
  begin_stands i li (begin.StoreIncoming moves number) at = (
    (calls h).c_slot i moves.coll moves.target li (grind (arith, at)),
    blank i moves (width_of shape moves.coll) li (grind (arith, at)),
    named i moves number li (home_of i (begin.StoreIncoming moves number) li at) (grind (arith, at)),
    (calls h).c_leads i moves.coll moves.source moves.target li (grind (arith, at)),
  )
  begin_stands i li (begin.Freeze moves number) at = (
    (calls h).c_target i moves.coll moves.target li (grind (arith, at)),
    blank i moves (width_of shape moves.coll) li (grind (arith, at)),
    named i moves number li (home_of i (begin.Freeze moves number) li at) (grind (arith, at)),
    (calls h).c_leads i moves.coll moves.source moves.target li (grind (arith, at)),
  )
  begin_stands i li (begin.GiveUp moves) at = (
    (calls h).c_target i moves.coll moves.target li (grind (arith, at)),
    blank i moves (width_of shape moves.coll) li (grind (arith, at)),
    (calls h).c_leads i moves.coll moves.source moves.target li (grind (arith, at)),
  )

  stands_as_stored : (i : ℕ) → i < shape.passes → (next : Phase) → (s.stands i).phase ≡ next → StandsAsStored shape s.memory (s.stands i).words next
  stands_as_stored i li (phase.Add next) at = add_stands i li next at
  stands_as_stored i li (phase.Begin next) at = begin_stands i li next at
  stands_as_stored i li phase.Idle at = tt
  stands_as_stored i li phase.Entering at = tt
  stands_as_stored i li (phase.Advancing epoch other) at = tt
  stands_as_stored i li (phase.Ready epoch) at = tt
  stands_as_stored i li (phase.Look next) at = tt
  stands_as_stored i li (phase.Remove next) at = tt
  stands_as_stored i li (phase.Scan next) at = tt
  stands_as_stored i li (phase.Finish next) at = tt
  stands_as_stored i li (phase.Cancel next) at = tt
  stands_as_stored i li (phase.Survey next) at = tt

  -- who owes a slot: an add that has it claimed, a remove that is about to leave it, or the owner of the round
  data IsOwedBy (i c slot : ℕ) : Type 0 where
    by_add : claimed_slot (s.stands i).phase ≡ Some (c, slot) → IsOwedBy i c slot
    by_remove : (a entry : ℕ) → leaving_of (s.stands i).phase ≡ Some (slot, object a entry c) → IsOwedBy i c slot
    by_target : Owns (s.stands i).round → target_of (s.stands i).phase ≡ Some (c, slot) → moving_to (s.stands i).phase ≡ None → IsOwedBy i c slot
    by_source : Owns (s.stands i).round → source_left (s.stands i).phase ≡ Some (c, slot) → IsOwedBy i c slot

  -- a begin, a finish or a cancel in progress owns its round
  owning : (i : ℕ) → i < shape.passes → (next : Phase) → (s.stands i).phase ≡ next → IsTrue (is_owners next) → Owns (s.stands i).round
  owning i li next at is = some (s.stands i).round ((rounds h).agrees.owners i li (subst (λ (k : Phase). IsTrue (is_owners k)) (sym at) is))
    where
      some : (o : Option Owned) → IsSome o → Owns o
      some None t = absurd (cc)
      some (Some owned) t = tt

  owes : (i c slot : ℕ) → i < shape.passes → (next : Phase) → (s.stands i).phase ≡ next → owed_slot next ≡ Some (c, slot) → IsOwedBy i c slot
  owes i c slot li (phase.Add (add.DropSlot coll there)) at is = by_add (grind (arith, at, is))
  owes i c slot li (phase.Remove (remove.LeaveSlot there number)) at is = by_remove number.incarnation number.entry (grind (arith, at, is))
  owes i c slot li (phase.Begin (begin.GiveUp moves)) at is = by_target (owning i li (phase.Begin (begin.GiveUp moves)) at refl) (grind (arith, at, is)) (grind (arith, at))
  owes i c slot li (phase.Finish (finish.Move targets number source next)) at is = by_source (owning i li (phase.Finish (finish.Move targets number source next)) at refl) (grind (arith, at, is))
  owes i c slot li (phase.Finish (finish.Settle targets source)) at is = by_source (owning i li (phase.Finish (finish.Settle targets source)) at refl) (grind (arith, at, is))
  owes i c slot li (phase.Finish (finish.LeaveSource targets source)) at is = by_source (owning i li (phase.Finish (finish.LeaveSource targets source)) at refl) (grind (arith, at, is))
  owes i c slot li (phase.Finish (finish.GiveUp targets gone)) at is = by_target (owning i li (phase.Finish (finish.GiveUp targets gone)) at refl) (grind (arith, at, is)) (grind (arith, at))
  owes i c slot li (phase.Cancel (cancel.GiveUp coll there)) at is = by_target (owning i li (phase.Cancel (cancel.GiveUp coll there)) at refl) (grind (arith, at, is)) (grind (arith, at))
  owes i c slot li phase.Idle at is = absurd (cc)
  owes i c slot li phase.Entering at is = absurd (cc)
  owes i c slot li (phase.Advancing epoch other) at is = absurd (cc)
  owes i c slot li (phase.Ready epoch) at is = absurd (cc)
  owes i c slot li (phase.Look next) at is = absurd (cc)
  owes i c slot li (phase.Scan next) at is = absurd (cc)
  owes i c slot li (phase.Survey next) at is = absurd (cc)
  owes i c slot li (phase.Remove (remove.FreeEntry number)) at is = absurd (cc)
  owes i c slot li (phase.Add (add.FindSlot coll from there tried)) at is = absurd (cc)
  owes i c slot li (phase.Add (add.ClaimSlot coll from there tried seen)) at is = absurd (cc)
  owes i c slot li (phase.Add (add.FindEntry coll there entry tried)) at is = absurd (cc)
  owes i c slot li (phase.Add (add.ClaimEntry coll there entry tried incarnation stamp)) at is = absurd (cc)
  owes i c slot li (phase.Add (add.StoreBack there number)) at is = absurd (cc)
  owes i c slot li (phase.Add (add.StoreField there number field)) at is = absurd (cc)
  owes i c slot li (phase.Add (add.StoreValid there number)) at is = absurd (cc)
  owes i c slot li (phase.Add (add.StoreLive there number)) at is = absurd (cc)
  owes i c slot li (phase.Begin (begin.Count next)) at is = absurd (cc)
  owes i c slot li (phase.Begin (begin.Nothing coll)) at is = absurd (cc)
  owes i c slot li (phase.Begin (begin.SourceDirectory moves)) at is = absurd (cc)
  owes i c slot li (phase.Begin (begin.SourceBack moves)) at is = absurd (cc)
  owes i c slot li (phase.Begin (begin.SourceEntry moves number)) at is = absurd (cc)
  owes i c slot li (phase.Begin (begin.TargetDirectory moves number)) at is = absurd (cc)
  owes i c slot li (phase.Begin (begin.ClaimTarget moves number seen)) at is = absurd (cc)
  owes i c slot li (phase.Begin (begin.BlankField moves number field)) at is = absurd (cc)
  owes i c slot li (phase.Begin (begin.StoreBack moves number)) at is = absurd (cc)
  owes i c slot li (phase.Begin (begin.StoreForward moves number)) at is = absurd (cc)
  owes i c slot li (phase.Begin (begin.StoreIncoming moves number)) at is = absurd (cc)
  owes i c slot li (phase.Begin (begin.Freeze moves number)) at is = absurd (cc)
  owes i c slot li (phase.Finish (finish.Directory targets)) at is = absurd (cc)
  owes i c slot li (phase.Finish (finish.Back targets)) at is = absurd (cc)
  owes i c slot li (phase.Finish (finish.Entry targets number)) at is = absurd (cc)
  owes i c slot li (phase.Finish (finish.Lock targets number source)) at is = absurd (cc)
  owes i c slot li (phase.Finish (finish.End targets)) at is = absurd (cc)
  owes i c slot li (phase.Cancel (cancel.Directory coll there)) at is = absurd (cc)
  owes i c slot li (phase.Cancel (cancel.Back coll there)) at is = absurd (cc)
  owes i c slot li (phase.Cancel (cancel.Entry coll there number)) at is = absurd (cc)
  owes i c slot li (phase.Cancel (cancel.Unfreeze coll there number source)) at is = absurd (cc)
  owes i c slot li (phase.Cancel cancel.End) at is = absurd (cc)

  -- the slot that a remove is about to leave names its object
  left_owner : (i c slot a n : ℕ) → i < shape.passes → leaving_of (s.stands i).phase ≡ Some (slot, object a n c) → back_in s.memory c slot ≡ Some (object a n c)
  left_owner i c slot a n li is = (objects h).standing c a n slot (gone-stands a slot (state_in s.memory c n) ((calls h).c_leaving i c slot a n li is))

  no_target : (i j c slot a n : ℕ) → i < shape.passes → j < shape.passes → leaving_of (s.stands i).phase ≡ Some (slot, object a n c)
      → Owns (s.stands j).round → target_of (s.stands j).phase ≡ Some (c, slot) → moving_to (s.stands j).phase ≡ None → ⊥
  no_target i j c slot a n li lj x o y z =
      let to : moving_to (s.stands j).phase ≡ Some (c, slot) = (moves h).standing_in j c a n slot lj o (gone-stands a slot (state_in s.memory c n) ((calls h).c_leaving i c slot a n li x)) ((calls h).c_target j c slot lj y) in
      none-some (moving_to (s.stands j).phase) (c, slot) z to

  no_source : (i j c slot a n : ℕ) → i < shape.passes → j < shape.passes → leaving_of (s.stands i).phase ≡ Some (slot, object a n c)
      → source_left (s.stands j).phase ≡ Some (c, slot) → ⊥
  no_source i j c slot a n li lj x y = gone-there a slot (state_in s.memory c n) ((calls h).c_leaving i c slot a n li x) ((calls h).c_apart j c slot a n lj y (left_owner i c slot a n li x))

  owed_once : (i j c slot : ℕ) → i < shape.passes → j < shape.passes → IsOwedBy i c slot → IsOwedBy j c slot → i ≡ j
  owed_once i j c slot li lj (by_add x) (by_add y) = (claims h).one_slot i j c slot li lj x y
  owed_once i j c slot li lj (by_add x) (by_remove a n y) = absurd (grind (arith, (calls h).c_slot i c slot li, (calls h).c_limbos j c slot a n lj))
  owed_once i j c slot li lj (by_add x) (by_target o y z) = absurd (grind (arith, (calls h).c_slot i c slot li, (calls h).c_target j c slot lj))
  owed_once i j c slot li lj (by_add x) (by_source o y) = absurd (grind (arith, (calls h).c_slot i c slot li, (calls h).c_leaves j c slot lj))
  owed_once i j c slot li lj (by_remove a n x) (by_add y) = absurd (grind (arith, (calls h).c_slot j c slot lj, (calls h).c_limbos i c slot a n li))
  owed_once i j c slot li lj (by_remove a n x) (by_remove b m y) =
      let one : Some (object a n c) ≡ Some (object b m c) = sym (left_owner i c slot a n li x) ∙ left_owner j c slot b m lj y in
      let same : n ≡ m = grind (arith, one) in
      (claims h).one_gone i j c a b n li lj (leaving-removes (s.stands i).phase slot (object a n c) x)
      (subst (λ (k : ℕ). removed_by (s.stands j).phase ≡ Some (object b k c)) (sym same) (leaving-removes (s.stands j).phase slot (object b m c) y))
  owed_once i j c slot li lj (by_remove a n x) (by_target o y z) = absurd (no_target i j c slot a n li lj x o y z)
  owed_once i j c slot li lj (by_remove a n x) (by_source o y) = absurd (no_source i j c slot a n li lj x y)
  owed_once i j c slot li lj (by_target o x w) (by_add y) = absurd (grind (arith, (calls h).c_slot j c slot lj, (calls h).c_target i c slot li))
  owed_once i j c slot li lj (by_target o x w) (by_remove a n y) = absurd (no_target j i c slot a n lj li y o x w)
  owed_once i j c slot li lj (by_target o x w) (by_target p y z) = owner_same shape s h i j li lj o p
  owed_once i j c slot li lj (by_target o x w) (by_source p y) = owner_same shape s h i j li lj o p
  owed_once i j c slot li lj (by_source o x) (by_add y) = absurd (grind (arith, (calls h).c_slot j c slot lj, (calls h).c_leaves i c slot li))
  owed_once i j c slot li lj (by_source o x) (by_remove a n y) = absurd (no_source j i c slot a n lj li y x)
  owed_once i j c slot li lj (by_source o x) (by_target p y z) = owner_same shape s h i j li lj o p
  owed_once i j c slot li lj (by_source o x) (by_source p y) = owner_same shape s h i j li lj o p

  -- one call owes the entry of a removed object
  removing : (i : ℕ) (n : Number) (next : Phase) → (s.stands i).phase ≡ next → owed_number next ≡ Some n → removed_by (s.stands i).phase ≡ Some n
  removing i n (phase.Remove (remove.LeaveSlot slot number)) at is = grind (arith, at, is)
  removing i n (phase.Remove (remove.FreeEntry number)) at is = grind (arith, at, is)
  removing i n phase.Idle at is = absurd (cc)
  removing i n phase.Entering at is = absurd (cc)
  removing i n (phase.Advancing epoch other) at is = absurd (cc)
  removing i n (phase.Ready epoch) at is = absurd (cc)
  removing i n (phase.Look next) at is = absurd (cc)
  removing i n (phase.Add next) at is = absurd (cc)
  removing i n (phase.Scan next) at is = absurd (cc)
  removing i n (phase.Begin next) at is = absurd (cc)
  removing i n (phase.Finish next) at is = absurd (cc)
  removing i n (phase.Cancel next) at is = absurd (cc)
  removing i n (phase.Survey next) at is = absurd (cc)

  sources_above : (i : ℕ) (next : Phase) (moves : Walk) → i < shape.passes → (s.stands i).phase ≡ next → walk_over_sources next ≡ Some moves → moves.kept ≤ moves.source
  sources_above i (phase.Begin next) m li at is = above-source shape m (sources_of next) (targets_of next) (below shape s h i li next at) is
  sources_above i phase.Idle m li at is = absurd (cc)
  sources_above i phase.Entering m li at is = absurd (cc)
  sources_above i (phase.Advancing epoch other) m li at is = absurd (cc)
  sources_above i (phase.Ready epoch) m li at is = absurd (cc)
  sources_above i (phase.Look next) m li at is = absurd (cc)
  sources_above i (phase.Add next) m li at is = absurd (cc)
  sources_above i (phase.Remove next) m li at is = absurd (cc)
  sources_above i (phase.Scan next) m li at is = absurd (cc)
  sources_above i (phase.Finish next) m li at is = absurd (cc)
  sources_above i (phase.Cancel next) m li at is = absurd (cc)
  sources_above i (phase.Survey next) m li at is = absurd (cc)

  targets_below : (i : ℕ) (next : Phase) (moves : Walk) → i < shape.passes → (s.stands i).phase ≡ next → walk_over_targets next ≡ Some moves → moves.target < moves.kept
  targets_below i (phase.Begin next) m li at is = below-target shape m (sources_of next) (targets_of next) (below shape s h i li next at) (targets-sources next m is) is
  targets_below i phase.Idle m li at is = absurd (cc)
  targets_below i phase.Entering m li at is = absurd (cc)
  targets_below i (phase.Advancing epoch other) m li at is = absurd (cc)
  targets_below i (phase.Ready epoch) m li at is = absurd (cc)
  targets_below i (phase.Look next) m li at is = absurd (cc)
  targets_below i (phase.Add next) m li at is = absurd (cc)
  targets_below i (phase.Remove next) m li at is = absurd (cc)
  targets_below i (phase.Scan next) m li at is = absurd (cc)
  targets_below i (phase.Finish next) m li at is = absurd (cc)
  targets_below i (phase.Cancel next) m li at is = absurd (cc)
  targets_below i (phase.Survey next) m li at is = absurd (cc)

  home_in : (number : Number) (slot : ℕ) → IsTrue (has_object_at number.incarnation slot (state_for s.memory number)) → IsHome shape s.world s.memory slot number
  home_in number slot has =
      let here : present_at (state_for s.memory number) ≡ Some (number.incarnation, slot) = present-at number.incarnation slot (state_for s.memory number) has in record {
        in_use = used (dir_in s.memory number.coll slot) ((objects h).placed number.coll number.incarnation number.entry slot here);
        owner = (objects h).standing number.coll number.incarnation number.entry slot (present-stands number.incarnation slot (state_for s.memory number) here);
        record_of_it = λ field lt. e.records.placed_record number.coll number.incarnation number.entry slot field here lt;
      }
    where
      used : (d : Dir) → IsPlaced d → (d ≡ dir.Valid) ⊎ (d ≡ dir.Incoming)
      used dir.Valid u = inl refl
      used dir.Incoming u = inr refl
      used dir.Free u = absurd u
      used dir.Claimed u = absurd u
      used (dir.Limbo stamp) u = absurd u

  pub slot_rule : SlotRule shape opening s
  slot_rule = record {
    slot_claim = λ coll slot lt is. slot_claim coll slot is;
    entry_claim = λ coll entry a lt is. entry_claim coll entry a is;
    slot_owed = λ slot a b la lb x y. owed_once a b slot.0 slot.1 la lb (owes a slot.0 slot.1 la (s.stands a).phase refl x) (owes b slot.0 slot.1 lb (s.stands b).phase refl y);
    one_claim = λ coll entry a b la lb x y. (claims h).one_entry a b coll x.0 y.0 entry la lb x.1 y.1;
    entry_owed = λ coll entry a b la lb x y. (claims h).one_gone a b coll x.0 y.0 entry la lb
        (removing a (object x.0 entry coll) (s.stands a).phase refl x.1) (removing b (object y.0 entry coll) (s.stands b).phase refl y.1);
    stored = λ pass lt. stands_as_stored pass lt (s.stands pass).phase refl;
    sources = λ pass m lt is. sources_above pass (s.stands pass).phase m lt refl is;
    targets = λ pass m lt is. targets_below pass (s.stands pass).phase m lt refl is;
    numbers = λ n lt. (e.records.given_in n.coll n.incarnation n.entry, e.records.given_of n.coll n.incarnation n.entry);
    no_others = λ n past. e.records.no_others n.coll n.incarnation n.entry past;
    present = λ n lt. (
      λ p. sym (e.records.is_here n.coll n.incarnation n.entry) ∙ p,
      λ t. e.records.is_here n.coll n.incarnation n.entry ∙ t,
    );
    home = λ n slot lt has. home_in n slot has;
    slot_stamp = λ coll slot stamp lt is. (objects h).stamp_dir coll slot stamp is;
    entry_stamp = λ coll entry a stamp lt is. (objects h).stamp_entry coll entry a stamp is;
  }
