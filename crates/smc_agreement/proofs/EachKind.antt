-- A law that each kind of step keeps is kept by each step that a pass offers. Written by tools/dispatch.py.
use Rattle.std.proofs.Common.{◌≡◌, ℕ, ◌+◌, ◌<◌, ◌&&◌, Bool, true, false, Option, Some, None, List, slice_index, refl, sym, subst}
use Rattle.smc_words.specs.declared.layout.TheConstants.{BLANK}
use Rattle.smc_words.specs.declared.dir.Dir.{Dir}
use Rattle.smc_words.specs.declared.dir.Dir.TheVariants as dir
use Rattle.smc_shape.specs.Layout.{Layout, width_of}
use Rattle.smc_shape.specs.declared.place.Place.TheVariants as place
use Rattle.smc_core.specs.declared.call.Call.TheVariants as call
use Rattle.smc_core.specs.declared.call.Choice.TheVariants.{Start, Go}
use Rattle.smc_core.specs.declared.local.Scan.{Scan}
use Rattle.smc_core.specs.declared.op.Op.TheVariants.{Load, Store, Exchange, MarkGone}
use Rattle.smc_core.specs.declared.phase.Phase.{Phase}
use Rattle.smc_core.specs.declared.phase.Phase.TheVariants as phase
use Rattle.smc_core.specs.declared.phase.moves.Count.{Count}
use Rattle.smc_core.specs.declared.phase.moves.BeginPhase.TheVariants as begin
use Rattle.smc_core.specs.declared.phase.moves.CancelPhase.TheVariants as cancel
use Rattle.smc_core.specs.declared.phase.moves.CountPhase.TheVariants as walk
use Rattle.smc_core.specs.declared.phase.moves.FinishPhase.TheVariants as finish
use Rattle.smc_core.specs.declared.phase.moves.Targets.{Targets}
use Rattle.smc_core.specs.declared.phase.moves.Walk.{Walk}
use Rattle.smc_core.specs.declared.phase.objects.AddPhase.TheVariants as add
use Rattle.smc_core.specs.declared.phase.objects.CopyPhase.TheVariants as copy
use Rattle.smc_core.specs.declared.phase.objects.LookPhase.TheVariants as look
use Rattle.smc_core.specs.declared.phase.objects.RemovePhase.TheVariants as remove
use Rattle.smc_core.specs.declared.phase.objects.ScanPhase.TheVariants as scan
use Rattle.smc_core.specs.declared.phase.objects.Seeker.{Seeker}
use Rattle.smc_core.specs.declared.section.Section.{Section}
use Rattle.smc_core.specs.declared.section.Section.TheVariants.{Outside, Loaded, Announced, Again, Lasting, Inside}
use Rattle.smc_core.specs.declared.word.State.TheVariants as state
use Rattle.smc_core.specs.declared.word.Word.TheVariants as word
use Rattle.std.specs.Prelude.{nat_lt}
use Rattle.smc_core.specs.Add.{takes, is_value}
use Rattle.smc_core.specs.Finish.{is_early}
use Rattle.smc_core.specs.Offer.{held_slot}
use Rattle.smc_core.specs.Row.{has_place}
use Rattle.smc_core.specs.Scan.{scan_of, is_over}
use Rattle.smc_core.specs.declared.call.Choice.{Choice}
use Rattle.smc_core.specs.declared.phase.objects.Seeker.TheVariants as seeker
use Rattle.smc_rules.specs.Reads.{object}
use Rattle.smc_rules.specs.State as S
use Rattle.smc_rules.specs.State.{put_stand}
use Rattle.std.specs.Prelude.{IfSome, length, if◌then◌else◌}
use Rattle.smc_core.specs.declared.call.Call.{Call}
use Rattle.smc_core.specs.declared.kind.Kind.TheVariants as kind
use Rattle.smc_core.specs.declared.op.Offer.{Offer}
use Rattle.smc_core.specs.Begin.{round_offer}
use Rattle.smc_core.specs.Cancel.{cancel_offer}
use Rattle.smc_core.specs.Finish.{finish_start, finish_offer, first_target}
use Rattle.smc_core.specs.Look.{look_offer}
use Rattle.smc_core.specs.Offer.{offer, go_offer, start_offer}
use Rattle.smc_core.specs.Scan.{next_offer}
use Rattle.smc_core.specs.Step.{step, when}
use Rattle.smc_rules.specs.Memory.{seen}
use Rattle.smc_rules.specs.State.{stand_offer, state_after}
use Rattle.smc_rules.proofs.OfferLaws.{if_test, if_held, if_begun, if_owned}
use Rattle.smc_agreement.specs.Parts.{CallKnows}
use Rattle.smc_agreement.proofs.Whole.{Shut, shut, calls, did}
use Rattle.smc_agreement.specs.Kept.{IsKept}
use Rattle.smc_agreement.proofs.CrossLaws.{IsHomed, homes}

-- each kind of step keeps the law, where this is known beside what is shut
pub record EachKind (H P : Layout → S.State → Type 0) : Type 0 where
  -- kind LoadEpoch
  pub enter : (sh : Layout) (st : S.State) (p : ℕ) (told : ℕ) → p < sh.passes → (st.stands p).section ≡ Outside → (st.stands p).phase ≡ phase.Idle → Shut sh st → H sh st
      → P sh (did sh st p (Start call.Enter) Outside phase.Idle told (Load place.Epoch))
  -- kind Announce
  pub announce : (sh : Layout) (st : S.State) (p : ℕ) (v : ℕ) (told : ℕ) → p < sh.passes → (st.stands p).section ≡ Loaded v → (st.stands p).phase ≡ phase.Entering → Shut sh st → H sh st
      → P sh (did sh st p Go (Loaded v) phase.Entering told (Store (place.Section p) (word.Plain v)))
  -- kind LoadEpochAgain
  pub again : (sh : Layout) (st : S.State) (p : ℕ) (v : ℕ) (told : ℕ) → p < sh.passes → (st.stands p).section ≡ Announced v → (st.stands p).phase ≡ phase.Entering → Shut sh st → H sh st
      → P sh (did sh st p Go (Announced v) phase.Entering told (Load place.Epoch))
  -- kind AnnounceAgain
  pub lasting : (sh : Layout) (st : S.State) (p : ℕ) (v : ℕ) (z : ℕ) (told : ℕ) → p < sh.passes → (st.stands p).section ≡ Again v z → (st.stands p).phase ≡ phase.Entering → Shut sh st → H sh st
      → P sh (did sh st p Go (Again v z) phase.Entering told (Store (place.Section p) (word.Plain z)))
  -- kind LoadRound
  pub entered : (sh : Layout) (st : S.State) (p : ℕ) (z : ℕ) (told : ℕ) → p < sh.passes → (st.stands p).section ≡ Lasting z → (st.stands p).phase ≡ phase.Entering → Shut sh st → H sh st
      → P sh (did sh st p Go (Lasting z) phase.Entering told (Load place.Round))
  -- kind Leave
  pub leave : (sh : Layout) (st : S.State) (p : ℕ) (x : ℕ) (calm : Bool) (told : ℕ) → p < sh.passes → (st.stands p).section ≡ Inside x calm → (st.stands p).phase ≡ phase.Idle → Shut sh st → H sh st
      → P sh (did sh st p (Start call.Leave) (Inside x calm) phase.Idle told (Store (place.Section p) (word.Plain 0)))
  -- kind StartAdvance
  pub advance : (sh : Layout) (st : S.State) (p : ℕ) (told : ℕ) → p < sh.passes → (st.stands p).section ≡ Outside → (st.stands p).phase ≡ phase.Idle → Shut sh st → H sh st
      → P sh (did sh st p (Start call.Advance) Outside phase.Idle told (Load place.Epoch))
  -- kind LoadSection
  pub advancing : (sh : Layout) (st : S.State) (p : ℕ) (sec : Section) (z : ℕ) (k : ℕ) (told : ℕ) → p < sh.passes → (st.stands p).section ≡ sec → (st.stands p).phase ≡ phase.Advancing z k → Shut sh st → H sh st
      → P sh (did sh st p Go sec (phase.Advancing z k) told (Load (place.Section k)))
  -- kind AdvanceEpoch
  pub ready : (sh : Layout) (st : S.State) (p : ℕ) (sec : Section) (z : ℕ) (told : ℕ) → p < sh.passes → (st.stands p).section ≡ sec → (st.stands p).phase ≡ phase.Ready z → Shut sh st → H sh st
      → P sh (did sh st p Go sec (phase.Ready z) told (Exchange place.Epoch (word.Plain z) (word.Plain (z + 1))))
  -- kind LoadEpoch
  pub note : (sh : Layout) (st : S.State) (p : ℕ) (told : ℕ) → p < sh.passes → (st.stands p).section ≡ Outside → (st.stands p).phase ≡ phase.Idle → Shut sh st → H sh st
      → P sh (did sh st p (Start call.Note) Outside phase.Idle told (Load place.Epoch))
  -- kind LoadEpoch
  pub learn : (sh : Layout) (st : S.State) (p : ℕ) (k : ℕ) (z : ℕ) (told : ℕ) → p < sh.passes → (st.stands p).section ≡ Outside → (st.stands p).phase ≡ phase.Idle → Shut sh st → H sh st
      → P sh (did sh st p (Start (call.Learn k z)) Outside phase.Idle told (Load place.Epoch))
  -- kind LoadDirectory
  pub starts_add : (sh : Layout) (st : S.State) (p : ℕ) (x : ℕ) (calm : Bool) (c : ℕ) (k : ℕ) (ws : List ℕ) (told : ℕ) → p < sh.passes → (st.stands p).section ≡ Inside x calm → (st.stands p).phase ≡ phase.Idle → takes sh c k ws ≡ true → Shut sh st → H sh st
      → P sh (did sh st p (Start (call.Add c k ws)) (Inside x calm) phase.Idle told (Load (place.Directory c k)))
  -- kind LoadDirectory
  pub find_slot : (sh : Layout) (st : S.State) (p : ℕ) (x : ℕ) (calm : Bool) (c : ℕ) (k : ℕ) (s : ℕ) (t : ℕ) (told : ℕ) → p < sh.passes → (st.stands p).section ≡ Inside x calm → (st.stands p).phase ≡ phase.Add (add.FindSlot c k s t) → Shut sh st → H sh st
      → P sh (did sh st p Go (Inside x calm) (phase.Add (add.FindSlot c k s t)) told (Load (place.Directory c s)))
  -- kind ClaimSlot
  pub claim_slot : (sh : Layout) (st : S.State) (p : ℕ) (x : ℕ) (calm : Bool) (c : ℕ) (k : ℕ) (s : ℕ) (t : ℕ) (d : Dir) (told : ℕ) → p < sh.passes → (st.stands p).section ≡ Inside x calm → (st.stands p).phase ≡ phase.Add (add.ClaimSlot c k s t d) → Shut sh st → H sh st
      → P sh (did sh st p Go (Inside x calm) (phase.Add (add.ClaimSlot c k s t d)) told (Exchange (place.Directory c s) (word.Directory d) (word.Directory dir.Claimed)))
  -- kind LoadEntry
  pub find_entry : (sh : Layout) (st : S.State) (p : ℕ) (x : ℕ) (calm : Bool) (c : ℕ) (s : ℕ) (e : ℕ) (t : ℕ) (told : ℕ) → p < sh.passes → (st.stands p).section ≡ Inside x calm → (st.stands p).phase ≡ phase.Add (add.FindEntry c s e t) → Shut sh st → H sh st
      → P sh (did sh st p Go (Inside x calm) (phase.Add (add.FindEntry c s e t)) told (Load (place.Entry c e)))
  -- kind ClaimEntry
  pub claim_entry : (sh : Layout) (st : S.State) (p : ℕ) (x : ℕ) (calm : Bool) (c : ℕ) (s : ℕ) (e : ℕ) (t : ℕ) (a : ℕ) (z : ℕ) (told : ℕ) → p < sh.passes → (st.stands p).section ≡ Inside x calm → (st.stands p).phase ≡ phase.Add (add.ClaimEntry c s e t a z) → Shut sh st → H sh st
      → P sh (did sh st p Go (Inside x calm) (phase.Add (add.ClaimEntry c s e t a z)) told (Exchange (place.Entry c e) (word.Entry (state.Free a z)) (word.Entry (state.Claimed (a + 1)))))
  -- kind DropSlot
  pub drop_slot : (sh : Layout) (st : S.State) (p : ℕ) (x : ℕ) (calm : Bool) (c : ℕ) (s : ℕ) (told : ℕ) → p < sh.passes → (st.stands p).section ≡ Inside x calm → (st.stands p).phase ≡ phase.Add (add.DropSlot c s) → Shut sh st → H sh st
      → P sh (did sh st p Go (Inside x calm) (phase.Add (add.DropSlot c s)) told (Store (place.Directory c s) (word.Directory dir.Free)))
  -- kind StoreBack
  pub store_back : (sh : Layout) (st : S.State) (p : ℕ) (x : ℕ) (calm : Bool) (c : ℕ) (s : ℕ) (a : ℕ) (e : ℕ) (told : ℕ) → p < sh.passes → (st.stands p).section ≡ Inside x calm → (st.stands p).phase ≡ phase.Add (add.StoreBack s (object a e c)) → Shut sh st → H sh st
      → P sh (did sh st p Go (Inside x calm) (phase.Add (add.StoreBack s (object a e c))) told (Store (place.Back c s) (word.Back (Some (object a e c)))))
  -- kind StoreField
  pub store_field : (sh : Layout) (st : S.State) (p : ℕ) (x : ℕ) (calm : Bool) (c : ℕ) (s : ℕ) (a : ℕ) (e : ℕ) (f : ℕ) (told : ℕ) → p < sh.passes → (st.stands p).section ≡ Inside x calm → (st.stands p).phase ≡ phase.Add (add.StoreField s (object a e c) f) → Shut sh st → H sh st
      → P sh (did sh st p Go (Inside x calm) (phase.Add (add.StoreField s (object a e c) f)) told (Store (place.Field c s f) (word.Plain (slice_index (st.stands p).words f))))
  -- kind StoreValid
  pub store_valid : (sh : Layout) (st : S.State) (p : ℕ) (x : ℕ) (calm : Bool) (c : ℕ) (s : ℕ) (a : ℕ) (e : ℕ) (told : ℕ) → p < sh.passes → (st.stands p).section ≡ Inside x calm → (st.stands p).phase ≡ phase.Add (add.StoreValid s (object a e c)) → Shut sh st → H sh st
      → P sh (did sh st p Go (Inside x calm) (phase.Add (add.StoreValid s (object a e c))) told (Store (place.Directory c s) (word.Directory dir.Valid)))
  -- kind StoreLive
  pub store_live : (sh : Layout) (st : S.State) (p : ℕ) (x : ℕ) (calm : Bool) (c : ℕ) (s : ℕ) (a : ℕ) (e : ℕ) (told : ℕ) → p < sh.passes → (st.stands p).section ≡ Inside x calm → (st.stands p).phase ≡ phase.Add (add.StoreLive s (object a e c)) → Shut sh st → H sh st
      → P sh (did sh st p Go (Inside x calm) (phase.Add (add.StoreLive s (object a e c))) told (Store (place.Entry c e) (word.Entry (state.Present a s))))
  -- kind LookUp
  pub starts_look : (sh : Layout) (st : S.State) (p : ℕ) (x : ℕ) (calm : Bool) (c : ℕ) (a : ℕ) (e : ℕ) (told : ℕ) → p < sh.passes → (st.stands p).section ≡ Inside x calm → (st.stands p).phase ≡ phase.Idle → has_place sh (place.Entry c e) ≡ true → Shut sh st → H sh st
      → P sh (did sh st p (Start (call.Look (object a e c))) (Inside x calm) phase.Idle told (Load (place.Entry c e)))
  -- kind LoadSection
  pub look_out : (sh : Layout) (st : S.State) (p : ℕ) (x : ℕ) (calm : Bool) (c : ℕ) (a : ℕ) (e : ℕ) (told : ℕ) → p < sh.passes → (st.stands p).section ≡ Inside x calm → (st.stands p).phase ≡ phase.Idle → has_place sh (place.Entry c e) ≡ false → Shut sh st → H sh st
      → P sh (did sh st p (Start (call.Look (object a e c))) (Inside x calm) phase.Idle told (Load (place.Section p)))
  -- kind LookUp
  pub look_load : (sh : Layout) (st : S.State) (p : ℕ) (x : ℕ) (calm : Bool) (who : Seeker) (c : ℕ) (a : ℕ) (e : ℕ) (told : ℕ) → p < sh.passes → (st.stands p).section ≡ Inside x calm → (st.stands p).phase ≡ phase.Look (look.Load who (object a e c)) → Shut sh st → H sh st
      → P sh (did sh st p Go (Inside x calm) (phase.Look (look.Load who (object a e c))) told (Load (place.Entry c e)))
  -- kind Unfreeze
  pub abandon : (sh : Layout) (st : S.State) (p : ℕ) (x : ℕ) (calm : Bool) (who : Seeker) (c : ℕ) (a : ℕ) (e : ℕ) (q : ℕ) (told : ℕ) → p < sh.passes → (st.stands p).section ≡ Inside x calm → (st.stands p).phase ≡ phase.Look (look.Abandon who (object a e c) q) → Shut sh st → H sh st
      → P sh (did sh st p Go (Inside x calm) (phase.Look (look.Abandon who (object a e c) q)) told (Exchange (place.Entry c e) (word.Entry (state.Frozen a q)) (word.Entry (state.Present a q))))
  -- kind LoadForward
  pub l_fwd : (sh : Layout) (st : S.State) (p : ℕ) (x : ℕ) (calm : Bool) (who : Seeker) (c : ℕ) (a : ℕ) (e : ℕ) (q : ℕ) (told : ℕ) → p < sh.passes → (st.stands p).section ≡ Inside x calm → (st.stands p).phase ≡ phase.Look (look.Help who (object a e c) q copy.Target) → Shut sh st → H sh st
      → P sh (did sh st p Go (Inside x calm) (phase.Look (look.Help who (object a e c) q copy.Target)) told (Load (place.Forward c q)))
  -- kind LoadField
  pub l_read : (sh : Layout) (st : S.State) (p : ℕ) (x : ℕ) (calm : Bool) (who : Seeker) (c : ℕ) (a : ℕ) (e : ℕ) (q : ℕ) (t : ℕ) (f : ℕ) (told : ℕ) → p < sh.passes → (st.stands p).section ≡ Inside x calm → (st.stands p).phase ≡ phase.Look (look.Help who (object a e c) q (copy.Load t f)) → Shut sh st → H sh st
      → P sh (did sh st p Go (Inside x calm) (phase.Look (look.Help who (object a e c) q (copy.Load t f))) told (Load (place.Field c q f)))
  -- kind CopyField
  pub l_put : (sh : Layout) (st : S.State) (p : ℕ) (x : ℕ) (calm : Bool) (who : Seeker) (c : ℕ) (a : ℕ) (e : ℕ) (q : ℕ) (t : ℕ) (f : ℕ) (w : ℕ) (told : ℕ) → p < sh.passes → (st.stands p).section ≡ Inside x calm → (st.stands p).phase ≡ phase.Look (look.Help who (object a e c) q (copy.Put t f w)) → Shut sh st → H sh st
      → P sh (did sh st p Go (Inside x calm) (phase.Look (look.Help who (object a e c) q (copy.Put t f w))) told (Exchange (place.Field c t f) (word.Plain BLANK) (word.Plain w)))
  -- kind Swing
  pub l_swing : (sh : Layout) (st : S.State) (p : ℕ) (x : ℕ) (calm : Bool) (who : Seeker) (c : ℕ) (a : ℕ) (e : ℕ) (q : ℕ) (t : ℕ) (told : ℕ) → p < sh.passes → (st.stands p).section ≡ Inside x calm → (st.stands p).phase ≡ phase.Look (look.Help who (object a e c) q (copy.Swing t)) → Shut sh st → H sh st
      → P sh (did sh st p Go (Inside x calm) (phase.Look (look.Help who (object a e c) q (copy.Swing t))) told (Exchange (place.Entry c e) (word.Entry (state.Locked a q)) (word.Entry (state.Present a t))))
  -- kind LoadField
  pub read : (sh : Layout) (st : S.State) (p : ℕ) (x : ℕ) (calm : Bool) (c : ℕ) (a : ℕ) (e : ℕ) (q : ℕ) (f : ℕ) (told : ℕ) → p < sh.passes → (st.stands p).section ≡ Inside x calm → (st.stands p).phase ≡ phase.Idle → held_slot (st.stands p).held (object a e c) ≡ Some q → nat_lt f (width_of sh c) ≡ true → Shut sh st → H sh st
      → P sh (did sh st p (Start (call.Read (object a e c) f)) (Inside x calm) phase.Idle told (Load (place.Field c q f)))
  -- kind WriteField
  pub write : (sh : Layout) (st : S.State) (p : ℕ) (x : ℕ) (calm : Bool) (c : ℕ) (a : ℕ) (e : ℕ) (q : ℕ) (f : ℕ) (w : ℕ) (told : ℕ) → p < sh.passes → (st.stands p).section ≡ Inside x calm → (st.stands p).phase ≡ phase.Idle → held_slot (st.stands p).held (object a e c) ≡ Some q → (nat_lt f (width_of sh c) && is_value w) ≡ true → Shut sh st → H sh st
      → P sh (did sh st p (Start (call.Write (object a e c) f w)) (Inside x calm) phase.Idle told (Store (place.Field c q f) (word.Plain w)))
  -- kind MarkGone
  pub starts_remove : (sh : Layout) (st : S.State) (p : ℕ) (x : ℕ) (calm : Bool) (c : ℕ) (a : ℕ) (e : ℕ) (q : ℕ) (told : ℕ) → p < sh.passes → (st.stands p).section ≡ Inside x calm → (st.stands p).phase ≡ phase.Idle → held_slot (st.stands p).held (object a e c) ≡ Some q → Shut sh st → H sh st
      → P sh (did sh st p (Start (call.Remove (object a e c))) (Inside x calm) phase.Idle told (MarkGone c e))
  -- kind LeaveSlot
  pub leave_slot : (sh : Layout) (st : S.State) (p : ℕ) (x : ℕ) (calm : Bool) (c : ℕ) (a : ℕ) (e : ℕ) (q : ℕ) (told : ℕ) → p < sh.passes → (st.stands p).section ≡ Inside x calm → (st.stands p).phase ≡ phase.Remove (remove.LeaveSlot q (object a e c)) → Shut sh st → H sh st
      → P sh (did sh st p Go (Inside x calm) (phase.Remove (remove.LeaveSlot q (object a e c))) told (Store (place.Directory c q) (word.Directory (dir.Limbo (x + 1)))))
  -- kind FreeEntry
  pub free_entry : (sh : Layout) (st : S.State) (p : ℕ) (x : ℕ) (calm : Bool) (c : ℕ) (a : ℕ) (e : ℕ) (told : ℕ) → p < sh.passes → (st.stands p).section ≡ Inside x calm → (st.stands p).phase ≡ phase.Remove (remove.FreeEntry (object a e c)) → Shut sh st → H sh st
      → P sh (did sh st p Go (Inside x calm) (phase.Remove (remove.FreeEntry (object a e c))) told (Store (place.Entry c e) (word.Entry (state.Free a (x + 1)))))
  -- kind LoadSection
  pub starts_scan : (sh : Layout) (st : S.State) (p : ℕ) (x : ℕ) (calm : Bool) (c : ℕ) (told : ℕ) → p < sh.passes → (st.stands p).section ≡ Inside x calm → (st.stands p).phase ≡ phase.Idle → Shut sh st → H sh st
      → P sh (did sh st p (Start (call.Scan c)) (Inside x calm) phase.Idle told (Load (place.Section p)))
  -- kind LoadSection
  pub next_over : (sh : Layout) (st : S.State) (p : ℕ) (x : ℕ) (calm : Bool) (k : ℕ) (b1 : Scan) (told : ℕ) → p < sh.passes → (st.stands p).section ≡ Inside x calm → (st.stands p).phase ≡ phase.Idle → scan_of (st.stands p).scans k ≡ Some b1 → is_over sh b1 ≡ true → Shut sh st → H sh st
      → P sh (did sh st p (Start (call.Next k)) (Inside x calm) phase.Idle told (Load (place.Section p)))
  -- kind LoadDirectory
  pub next_slot : (sh : Layout) (st : S.State) (p : ℕ) (x : ℕ) (calm : Bool) (k : ℕ) (b1 : Scan) (told : ℕ) → p < sh.passes → (st.stands p).section ≡ Inside x calm → (st.stands p).phase ≡ phase.Idle → scan_of (st.stands p).scans k ≡ Some b1 → is_over sh b1 ≡ false → Shut sh st → H sh st
      → P sh (did sh st p (Start (call.Next k)) (Inside x calm) phase.Idle told (Load (place.Directory b1.coll b1.place)))
  -- kind LoadDirectory
  pub scan_dir : (sh : Layout) (st : S.State) (p : ℕ) (x : ℕ) (calm : Bool) (k : ℕ) (c : ℕ) (t : ℕ) (told : ℕ) → p < sh.passes → (st.stands p).section ≡ Inside x calm → (st.stands p).phase ≡ phase.Scan (scan.Directory k c t) → Shut sh st → H sh st
      → P sh (did sh st p Go (Inside x calm) (phase.Scan (scan.Directory k c t)) told (Load (place.Directory c t)))
  -- kind LoadBack
  pub scan_back : (sh : Layout) (st : S.State) (p : ℕ) (x : ℕ) (calm : Bool) (k : ℕ) (c : ℕ) (t : ℕ) (told : ℕ) → p < sh.passes → (st.stands p).section ≡ Inside x calm → (st.stands p).phase ≡ phase.Scan (scan.Back k c t) → Shut sh st → H sh st
      → P sh (did sh st p Go (Inside x calm) (phase.Scan (scan.Back k c t)) told (Load (place.Back c t)))
  -- kind LoadSection
  pub scan_end : (sh : Layout) (st : S.State) (p : ℕ) (x : ℕ) (calm : Bool) (k : ℕ) (told : ℕ) → p < sh.passes → (st.stands p).section ≡ Inside x calm → (st.stands p).phase ≡ phase.Scan (scan.End k) → Shut sh st → H sh st
      → P sh (did sh st p Go (Inside x calm) (phase.Scan (scan.End k)) told (Load (place.Section p)))
  -- kind LoadDirectory
  pub survey : (sh : Layout) (st : S.State) (p : ℕ) (x : ℕ) (calm : Bool) (c : ℕ) (told : ℕ) → p < sh.passes → (st.stands p).section ≡ Inside x calm → (st.stands p).phase ≡ phase.Idle → Shut sh st → H sh st
      → P sh (did sh st p (Start (call.Survey c)) (Inside x calm) phase.Idle told (Load (place.Directory c 0)))
  -- kind LoadDirectory
  pub survey_dir : (sh : Layout) (st : S.State) (p : ℕ) (x : ℕ) (calm : Bool) (c : ℕ) (t : ℕ) (cnt : Count) (told : ℕ) → p < sh.passes → (st.stands p).section ≡ Inside x calm → (st.stands p).phase ≡ phase.Survey (walk.Directory c t cnt) → Shut sh st → H sh st
      → P sh (did sh st p Go (Inside x calm) (phase.Survey (walk.Directory c t cnt)) told (Load (place.Directory c t)))
  -- kind LoadBack
  pub survey_back : (sh : Layout) (st : S.State) (p : ℕ) (x : ℕ) (calm : Bool) (c : ℕ) (t : ℕ) (cnt : Count) (told : ℕ) → p < sh.passes → (st.stands p).section ≡ Inside x calm → (st.stands p).phase ≡ phase.Survey (walk.Back c t cnt) → Shut sh st → H sh st
      → P sh (did sh st p Go (Inside x calm) (phase.Survey (walk.Back c t cnt)) told (Load (place.Back c t)))
  -- kind LoadEntry
  pub survey_entry : (sh : Layout) (st : S.State) (p : ℕ) (x : ℕ) (calm : Bool) (c : ℕ) (t : ℕ) (cnt : Count) (c2 : ℕ) (a : ℕ) (e : ℕ) (told : ℕ) → p < sh.passes → (st.stands p).section ≡ Inside x calm → (st.stands p).phase ≡ phase.Survey (walk.Entry c t cnt (object a e c2)) → Shut sh st → H sh st
      → P sh (did sh st p Go (Inside x calm) (phase.Survey (walk.Entry c t cnt (object a e c2))) told (Load (place.Entry c2 e)))
  -- kind OpenRound
  pub starts_begin : (sh : Layout) (st : S.State) (p : ℕ) (x : ℕ) (calm : Bool) (c : ℕ) (told : ℕ) → p < sh.passes → (st.stands p).section ≡ Inside x calm → (st.stands p).phase ≡ phase.Idle → Shut sh st → H sh st
      → P sh (did sh st p (Start (call.Begin c)) (Inside x calm) phase.Idle told (Exchange place.Round (word.Round None) (word.Round (Some (record { bound = x + 1; pass = p; coll = c })))))
  -- kind LoadDirectory
  pub count_dir : (sh : Layout) (st : S.State) (p : ℕ) (x : ℕ) (calm : Bool) (c : ℕ) (t : ℕ) (cnt : Count) (told : ℕ) → p < sh.passes → (st.stands p).section ≡ Inside x calm → (st.stands p).phase ≡ phase.Begin (begin.Count (walk.Directory c t cnt)) → Shut sh st → H sh st
      → P sh (did sh st p Go (Inside x calm) (phase.Begin (begin.Count (walk.Directory c t cnt))) told (Load (place.Directory c t)))
  -- kind LoadBack
  pub count_back : (sh : Layout) (st : S.State) (p : ℕ) (x : ℕ) (calm : Bool) (c : ℕ) (t : ℕ) (cnt : Count) (told : ℕ) → p < sh.passes → (st.stands p).section ≡ Inside x calm → (st.stands p).phase ≡ phase.Begin (begin.Count (walk.Back c t cnt)) → Shut sh st → H sh st
      → P sh (did sh st p Go (Inside x calm) (phase.Begin (begin.Count (walk.Back c t cnt))) told (Load (place.Back c t)))
  -- kind LoadEntry
  pub count_entry : (sh : Layout) (st : S.State) (p : ℕ) (x : ℕ) (calm : Bool) (c : ℕ) (t : ℕ) (cnt : Count) (c2 : ℕ) (a : ℕ) (e : ℕ) (told : ℕ) → p < sh.passes → (st.stands p).section ≡ Inside x calm → (st.stands p).phase ≡ phase.Begin (begin.Count (walk.Entry c t cnt (object a e c2))) → Shut sh st → H sh st
      → P sh (did sh st p Go (Inside x calm) (phase.Begin (begin.Count (walk.Entry c t cnt (object a e c2)))) told (Load (place.Entry c2 e)))
  -- kind CloseRound
  pub nothing : (sh : Layout) (st : S.State) (p : ℕ) (x : ℕ) (calm : Bool) (c : ℕ) (told : ℕ) → p < sh.passes → (st.stands p).section ≡ Inside x calm → (st.stands p).phase ≡ phase.Begin (begin.Nothing c) → Shut sh st → H sh st
      → P sh (did sh st p Go (Inside x calm) (phase.Begin (begin.Nothing c)) told (Store place.Round (word.Round None)))
  -- kind LoadDirectory
  pub source_dir : (sh : Layout) (st : S.State) (p : ℕ) (x : ℕ) (calm : Bool) (m : Walk) (told : ℕ) → p < sh.passes → (st.stands p).section ≡ Inside x calm → (st.stands p).phase ≡ phase.Begin (begin.SourceDirectory m) → Shut sh st → H sh st
      → P sh (did sh st p Go (Inside x calm) (phase.Begin (begin.SourceDirectory m)) told (Load (place.Directory m.coll m.source)))
  -- kind LoadBack
  pub source_back : (sh : Layout) (st : S.State) (p : ℕ) (x : ℕ) (calm : Bool) (m : Walk) (told : ℕ) → p < sh.passes → (st.stands p).section ≡ Inside x calm → (st.stands p).phase ≡ phase.Begin (begin.SourceBack m) → Shut sh st → H sh st
      → P sh (did sh st p Go (Inside x calm) (phase.Begin (begin.SourceBack m)) told (Load (place.Back m.coll m.source)))
  -- kind LoadEntry
  pub source_entry : (sh : Layout) (st : S.State) (p : ℕ) (x : ℕ) (calm : Bool) (m : Walk) (a : ℕ) (e : ℕ) (told : ℕ) → p < sh.passes → (st.stands p).section ≡ Inside x calm → (st.stands p).phase ≡ phase.Begin (begin.SourceEntry m (object a e m.coll)) → Shut sh st → H sh st
      → P sh (did sh st p Go (Inside x calm) (phase.Begin (begin.SourceEntry m (object a e m.coll))) told (Load (place.Entry m.coll e)))
  -- kind LoadDirectory
  pub target_dir : (sh : Layout) (st : S.State) (p : ℕ) (x : ℕ) (calm : Bool) (m : Walk) (a : ℕ) (e : ℕ) (told : ℕ) → p < sh.passes → (st.stands p).section ≡ Inside x calm → (st.stands p).phase ≡ phase.Begin (begin.TargetDirectory m (object a e m.coll)) → Shut sh st → H sh st
      → P sh (did sh st p Go (Inside x calm) (phase.Begin (begin.TargetDirectory m (object a e m.coll))) told (Load (place.Directory m.coll m.target)))
  -- kind ClaimSlot
  pub claim_target : (sh : Layout) (st : S.State) (p : ℕ) (x : ℕ) (calm : Bool) (m : Walk) (a : ℕ) (e : ℕ) (d : Dir) (told : ℕ) → p < sh.passes → (st.stands p).section ≡ Inside x calm → (st.stands p).phase ≡ phase.Begin (begin.ClaimTarget m (object a e m.coll) d) → Shut sh st → H sh st
      → P sh (did sh st p Go (Inside x calm) (phase.Begin (begin.ClaimTarget m (object a e m.coll) d)) told (Exchange (place.Directory m.coll m.target) (word.Directory d) (word.Directory dir.Claimed)))
  -- kind StoreField
  pub blank_field : (sh : Layout) (st : S.State) (p : ℕ) (x : ℕ) (calm : Bool) (m : Walk) (a : ℕ) (e : ℕ) (f : ℕ) (told : ℕ) → p < sh.passes → (st.stands p).section ≡ Inside x calm → (st.stands p).phase ≡ phase.Begin (begin.BlankField m (object a e m.coll) f) → Shut sh st → H sh st
      → P sh (did sh st p Go (Inside x calm) (phase.Begin (begin.BlankField m (object a e m.coll) f)) told (Store (place.Field m.coll m.target f) (word.Plain BLANK)))
  -- kind StoreBack
  pub name_target : (sh : Layout) (st : S.State) (p : ℕ) (x : ℕ) (calm : Bool) (m : Walk) (a : ℕ) (e : ℕ) (told : ℕ) → p < sh.passes → (st.stands p).section ≡ Inside x calm → (st.stands p).phase ≡ phase.Begin (begin.StoreBack m (object a e m.coll)) → Shut sh st → H sh st
      → P sh (did sh st p Go (Inside x calm) (phase.Begin (begin.StoreBack m (object a e m.coll))) told (Store (place.Back m.coll m.target) (word.Back (Some (object a e m.coll)))))
  -- kind StoreForward
  pub lead_source : (sh : Layout) (st : S.State) (p : ℕ) (x : ℕ) (calm : Bool) (m : Walk) (a : ℕ) (e : ℕ) (told : ℕ) → p < sh.passes → (st.stands p).section ≡ Inside x calm → (st.stands p).phase ≡ phase.Begin (begin.StoreForward m (object a e m.coll)) → Shut sh st → H sh st
      → P sh (did sh st p Go (Inside x calm) (phase.Begin (begin.StoreForward m (object a e m.coll))) told (Store (place.Forward m.coll m.source) (word.Forward m.target)))
  -- kind StoreIncoming
  pub store_incoming : (sh : Layout) (st : S.State) (p : ℕ) (x : ℕ) (calm : Bool) (m : Walk) (a : ℕ) (e : ℕ) (told : ℕ) → p < sh.passes → (st.stands p).section ≡ Inside x calm → (st.stands p).phase ≡ phase.Begin (begin.StoreIncoming m (object a e m.coll)) → Shut sh st → H sh st
      → P sh (did sh st p Go (Inside x calm) (phase.Begin (begin.StoreIncoming m (object a e m.coll))) told (Store (place.Directory m.coll m.target) (word.Directory dir.Incoming)))
  -- kind Freeze
  pub freeze : (sh : Layout) (st : S.State) (p : ℕ) (x : ℕ) (calm : Bool) (m : Walk) (a : ℕ) (e : ℕ) (told : ℕ) → p < sh.passes → (st.stands p).section ≡ Inside x calm → (st.stands p).phase ≡ phase.Begin (begin.Freeze m (object a e m.coll)) → Shut sh st → H sh st
      → P sh (did sh st p Go (Inside x calm) (phase.Begin (begin.Freeze m (object a e m.coll))) told (Exchange (place.Entry m.coll e) (word.Entry (state.Present a m.source)) (word.Entry (state.Frozen a m.source))))
  -- kind LeaveSlot
  pub begin_gives : (sh : Layout) (st : S.State) (p : ℕ) (x : ℕ) (calm : Bool) (m : Walk) (told : ℕ) → p < sh.passes → (st.stands p).section ≡ Inside x calm → (st.stands p).phase ≡ phase.Begin (begin.GiveUp m) → Shut sh st → H sh st
      → P sh (did sh st p Go (Inside x calm) (phase.Begin (begin.GiveUp m)) told (Store (place.Directory m.coll m.target) (word.Directory (dir.Limbo (x + 1)))))
  -- kind LoadDirectory
  pub starts_finish : (sh : Layout) (st : S.State) (p : ℕ) (x : ℕ) (calm : Bool) (b : ℕ) (c : ℕ) (told : ℕ) → p < sh.passes → (st.stands p).section ≡ Inside x calm → (st.stands p).phase ≡ phase.Idle → (st.stands p).round ≡ Some (record { bound = b; coll = c }) → is_early x b ≡ false → Shut sh st → H sh st
      → P sh (did sh st p (Start call.Finish) (Inside x calm) phase.Idle told (Load (place.Directory c 0)))
  -- kind LoadSection
  pub finish_early : (sh : Layout) (st : S.State) (p : ℕ) (x : ℕ) (calm : Bool) (b : ℕ) (c : ℕ) (told : ℕ) → p < sh.passes → (st.stands p).section ≡ Inside x calm → (st.stands p).phase ≡ phase.Idle → (st.stands p).round ≡ Some (record { bound = b; coll = c }) → is_early x b ≡ true → Shut sh st → H sh st
      → P sh (did sh st p (Start call.Finish) (Inside x calm) phase.Idle told (Load (place.Section p)))
  -- kind LoadDirectory
  pub finish_dir : (sh : Layout) (st : S.State) (p : ℕ) (x : ℕ) (calm : Bool) (g : Targets) (told : ℕ) → p < sh.passes → (st.stands p).section ≡ Inside x calm → (st.stands p).phase ≡ phase.Finish (finish.Directory g) → Shut sh st → H sh st
      → P sh (did sh st p Go (Inside x calm) (phase.Finish (finish.Directory g)) told (Load (place.Directory g.coll g.slot)))
  -- kind LoadBack
  pub finish_back : (sh : Layout) (st : S.State) (p : ℕ) (x : ℕ) (calm : Bool) (g : Targets) (told : ℕ) → p < sh.passes → (st.stands p).section ≡ Inside x calm → (st.stands p).phase ≡ phase.Finish (finish.Back g) → Shut sh st → H sh st
      → P sh (did sh st p Go (Inside x calm) (phase.Finish (finish.Back g)) told (Load (place.Back g.coll g.slot)))
  -- kind LoadEntry
  pub finish_entry : (sh : Layout) (st : S.State) (p : ℕ) (x : ℕ) (calm : Bool) (g : Targets) (a : ℕ) (e : ℕ) (told : ℕ) → p < sh.passes → (st.stands p).section ≡ Inside x calm → (st.stands p).phase ≡ phase.Finish (finish.Entry g (object a e g.coll)) → Shut sh st → H sh st
      → P sh (did sh st p Go (Inside x calm) (phase.Finish (finish.Entry g (object a e g.coll))) told (Load (place.Entry g.coll e)))
  -- kind Lock
  pub lock : (sh : Layout) (st : S.State) (p : ℕ) (x : ℕ) (calm : Bool) (g : Targets) (a : ℕ) (e : ℕ) (q : ℕ) (told : ℕ) → p < sh.passes → (st.stands p).section ≡ Inside x calm → (st.stands p).phase ≡ phase.Finish (finish.Lock g (object a e g.coll) q) → Shut sh st → H sh st
      → P sh (did sh st p Go (Inside x calm) (phase.Finish (finish.Lock g (object a e g.coll) q)) told (Exchange (place.Entry g.coll e) (word.Entry (state.Frozen a q)) (word.Entry (state.Locked a q))))
  -- kind LoadForward
  pub f_fwd : (sh : Layout) (st : S.State) (p : ℕ) (x : ℕ) (calm : Bool) (g : Targets) (a : ℕ) (e : ℕ) (q : ℕ) (told : ℕ) → p < sh.passes → (st.stands p).section ≡ Inside x calm → (st.stands p).phase ≡ phase.Finish (finish.Move g (object a e g.coll) q copy.Target) → Shut sh st → H sh st
      → P sh (did sh st p Go (Inside x calm) (phase.Finish (finish.Move g (object a e g.coll) q copy.Target)) told (Load (place.Forward g.coll q)))
  -- kind LoadField
  pub f_read : (sh : Layout) (st : S.State) (p : ℕ) (x : ℕ) (calm : Bool) (g : Targets) (a : ℕ) (e : ℕ) (q : ℕ) (t : ℕ) (f : ℕ) (told : ℕ) → p < sh.passes → (st.stands p).section ≡ Inside x calm → (st.stands p).phase ≡ phase.Finish (finish.Move g (object a e g.coll) q (copy.Load t f)) → Shut sh st → H sh st
      → P sh (did sh st p Go (Inside x calm) (phase.Finish (finish.Move g (object a e g.coll) q (copy.Load t f))) told (Load (place.Field g.coll q f)))
  -- kind CopyField
  pub f_put : (sh : Layout) (st : S.State) (p : ℕ) (x : ℕ) (calm : Bool) (g : Targets) (a : ℕ) (e : ℕ) (q : ℕ) (t : ℕ) (f : ℕ) (w : ℕ) (told : ℕ) → p < sh.passes → (st.stands p).section ≡ Inside x calm → (st.stands p).phase ≡ phase.Finish (finish.Move g (object a e g.coll) q (copy.Put t f w)) → Shut sh st → H sh st
      → P sh (did sh st p Go (Inside x calm) (phase.Finish (finish.Move g (object a e g.coll) q (copy.Put t f w))) told (Exchange (place.Field g.coll t f) (word.Plain BLANK) (word.Plain w)))
  -- kind Swing
  pub f_swing : (sh : Layout) (st : S.State) (p : ℕ) (x : ℕ) (calm : Bool) (g : Targets) (a : ℕ) (e : ℕ) (q : ℕ) (t : ℕ) (told : ℕ) → p < sh.passes → (st.stands p).section ≡ Inside x calm → (st.stands p).phase ≡ phase.Finish (finish.Move g (object a e g.coll) q (copy.Swing t)) → Shut sh st → H sh st
      → P sh (did sh st p Go (Inside x calm) (phase.Finish (finish.Move g (object a e g.coll) q (copy.Swing t))) told (Exchange (place.Entry g.coll e) (word.Entry (state.Locked a q)) (word.Entry (state.Present a t))))
  -- kind Settle
  pub settle : (sh : Layout) (st : S.State) (p : ℕ) (x : ℕ) (calm : Bool) (g : Targets) (q : ℕ) (told : ℕ) → p < sh.passes → (st.stands p).section ≡ Inside x calm → (st.stands p).phase ≡ phase.Finish (finish.Settle g q) → Shut sh st → H sh st
      → P sh (did sh st p Go (Inside x calm) (phase.Finish (finish.Settle g q)) told (Exchange (place.Directory g.coll g.slot) (word.Directory dir.Incoming) (word.Directory dir.Valid)))
  -- kind LeaveSlot
  pub leave_source : (sh : Layout) (st : S.State) (p : ℕ) (x : ℕ) (calm : Bool) (g : Targets) (q : ℕ) (told : ℕ) → p < sh.passes → (st.stands p).section ≡ Inside x calm → (st.stands p).phase ≡ phase.Finish (finish.LeaveSource g q) → Shut sh st → H sh st
      → P sh (did sh st p Go (Inside x calm) (phase.Finish (finish.LeaveSource g q)) told (Store (place.Directory g.coll q) (word.Directory (dir.Limbo (x + 1)))))
  -- kind LeaveSlot
  pub finish_gives : (sh : Layout) (st : S.State) (p : ℕ) (x : ℕ) (calm : Bool) (g : Targets) (gone : Bool) (told : ℕ) → p < sh.passes → (st.stands p).section ≡ Inside x calm → (st.stands p).phase ≡ phase.Finish (finish.GiveUp g gone) → Shut sh st → H sh st
      → P sh (did sh st p Go (Inside x calm) (phase.Finish (finish.GiveUp g gone)) told (Store (place.Directory g.coll g.slot) (word.Directory (dir.Limbo (x + 1)))))
  -- kind CloseRound
  pub finish_ends : (sh : Layout) (st : S.State) (p : ℕ) (x : ℕ) (calm : Bool) (g : Targets) (told : ℕ) → p < sh.passes → (st.stands p).section ≡ Inside x calm → (st.stands p).phase ≡ phase.Finish (finish.End g) → Shut sh st → H sh st
      → P sh (did sh st p Go (Inside x calm) (phase.Finish (finish.End g)) told (Store place.Round (word.Round None)))
  -- kind LoadDirectory
  pub starts_cancel : (sh : Layout) (st : S.State) (p : ℕ) (x : ℕ) (calm : Bool) (b : ℕ) (c : ℕ) (told : ℕ) → p < sh.passes → (st.stands p).section ≡ Inside x calm → (st.stands p).phase ≡ phase.Idle → (st.stands p).round ≡ Some (record { bound = b; coll = c }) → Shut sh st → H sh st
      → P sh (did sh st p (Start call.Cancel) (Inside x calm) phase.Idle told (Load (place.Directory c 0)))
  -- kind LoadDirectory
  pub cancel_dir : (sh : Layout) (st : S.State) (p : ℕ) (x : ℕ) (calm : Bool) (c : ℕ) (t : ℕ) (told : ℕ) → p < sh.passes → (st.stands p).section ≡ Inside x calm → (st.stands p).phase ≡ phase.Cancel (cancel.Directory c t) → Shut sh st → H sh st
      → P sh (did sh st p Go (Inside x calm) (phase.Cancel (cancel.Directory c t)) told (Load (place.Directory c t)))
  -- kind LoadBack
  pub cancel_back : (sh : Layout) (st : S.State) (p : ℕ) (x : ℕ) (calm : Bool) (c : ℕ) (t : ℕ) (told : ℕ) → p < sh.passes → (st.stands p).section ≡ Inside x calm → (st.stands p).phase ≡ phase.Cancel (cancel.Back c t) → Shut sh st → H sh st
      → P sh (did sh st p Go (Inside x calm) (phase.Cancel (cancel.Back c t)) told (Load (place.Back c t)))
  -- kind LoadEntry
  pub cancel_entry : (sh : Layout) (st : S.State) (p : ℕ) (x : ℕ) (calm : Bool) (c : ℕ) (t : ℕ) (a : ℕ) (e : ℕ) (told : ℕ) → p < sh.passes → (st.stands p).section ≡ Inside x calm → (st.stands p).phase ≡ phase.Cancel (cancel.Entry c t (object a e c)) → Shut sh st → H sh st
      → P sh (did sh st p Go (Inside x calm) (phase.Cancel (cancel.Entry c t (object a e c))) told (Load (place.Entry c e)))
  -- kind Unfreeze
  pub unfreeze : (sh : Layout) (st : S.State) (p : ℕ) (x : ℕ) (calm : Bool) (c : ℕ) (t : ℕ) (a : ℕ) (e : ℕ) (q : ℕ) (told : ℕ) → p < sh.passes → (st.stands p).section ≡ Inside x calm → (st.stands p).phase ≡ phase.Cancel (cancel.Unfreeze c t (object a e c) q) → Shut sh st → H sh st
      → P sh (did sh st p Go (Inside x calm) (phase.Cancel (cancel.Unfreeze c t (object a e c) q)) told (Exchange (place.Entry c e) (word.Entry (state.Frozen a q)) (word.Entry (state.Present a q))))
  -- kind LeaveSlot
  pub cancel_gives : (sh : Layout) (st : S.State) (p : ℕ) (x : ℕ) (calm : Bool) (c : ℕ) (t : ℕ) (told : ℕ) → p < sh.passes → (st.stands p).section ≡ Inside x calm → (st.stands p).phase ≡ phase.Cancel (cancel.GiveUp c t) → Shut sh st → H sh st
      → P sh (did sh st p Go (Inside x calm) (phase.Cancel (cancel.GiveUp c t)) told (Store (place.Directory c t) (word.Directory (dir.Limbo (x + 1)))))
  -- kind CloseRound
  pub cancel_ends : (sh : Layout) (st : S.State) (p : ℕ) (x : ℕ) (calm : Bool) (told : ℕ) → p < sh.passes → (st.stands p).section ≡ Inside x calm → (st.stands p).phase ≡ phase.Cancel cancel.End → Shut sh st → H sh st
      → P sh (did sh st p Go (Inside x calm) (phase.Cancel cancel.End) told (Store place.Round (word.Round None)))

module _ (H P : Layout → S.State → Type 0) (each : EachKind H P) (sh : Layout) (st : S.State) (h : Shut sh st) (more : H sh st) (p : ℕ) (in_n : p < sh.passes) where
  -- the law holds after the offered step
  abbrev Kept : Section → Phase → Choice → Offer → Type 0
  Kept section next choice o = (told : ℕ) → P sh (did sh st p choice section next told o.op)

  -- a step that goes on with a call
  go_inside : (x : ℕ) (calm : Bool) (next : Phase) → (st.stands p).section ≡ Inside x calm → (st.stands p).phase ≡ next
      → IfSome (go_offer p (st.stands p) (Inside x calm) next) (Kept (Inside x calm) next Go)
  go_inside x calm phase.Idle at_sec at_call = tt
  go_inside x calm phase.Entering at_sec at_call = tt
  go_inside x calm (phase.Advancing z k) at_sec at_call = λ told. each.advancing sh st p (Inside x calm) z k told in_n at_sec at_call h more
  go_inside x calm (phase.Ready z) at_sec at_call = λ told. each.ready sh st p (Inside x calm) z told in_n at_sec at_call h more
  go_inside x calm (phase.Add (add.FindSlot c k s t)) at_sec at_call = λ told. each.find_slot sh st p x calm c k s t told in_n at_sec at_call h more
  go_inside x calm (phase.Add (add.ClaimSlot c k s t d)) at_sec at_call = λ told. each.claim_slot sh st p x calm c k s t d told in_n at_sec at_call h more
  go_inside x calm (phase.Add (add.FindEntry c s e t)) at_sec at_call = λ told. each.find_entry sh st p x calm c s e t told in_n at_sec at_call h more
  go_inside x calm (phase.Add (add.ClaimEntry c s e t a z)) at_sec at_call = λ told. each.claim_entry sh st p x calm c s e t a z told in_n at_sec at_call h more
  go_inside x calm (phase.Add (add.DropSlot c s)) at_sec at_call = λ told. each.drop_slot sh st p x calm c s told in_n at_sec at_call h more
  go_inside x calm (phase.Add (add.StoreBack s number)) at_sec at_call = λ told. each.store_back sh st p x calm number.coll s number.incarnation number.entry told in_n at_sec at_call h more
  go_inside x calm (phase.Add (add.StoreField s number f)) at_sec at_call = λ told. each.store_field sh st p x calm number.coll s number.incarnation number.entry f told in_n at_sec at_call h more
  go_inside x calm (phase.Add (add.StoreValid s number)) at_sec at_call = λ told. each.store_valid sh st p x calm number.coll s number.incarnation number.entry told in_n at_sec at_call h more
  go_inside x calm (phase.Add (add.StoreLive s number)) at_sec at_call = λ told. each.store_live sh st p x calm number.coll s number.incarnation number.entry told in_n at_sec at_call h more
  go_inside x calm (phase.Look (look.Load who number)) at_sec at_call = λ told. each.look_load sh st p x calm who number.coll number.incarnation number.entry told in_n at_sec at_call h more
  go_inside x calm (phase.Look (look.Abandon who number q)) at_sec at_call = λ told. each.abandon sh st p x calm who number.coll number.incarnation number.entry q told in_n at_sec at_call h more
  go_inside x calm (phase.Look (look.Help who number q copy.Target)) at_sec at_call = λ told. each.l_fwd sh st p x calm who number.coll number.incarnation number.entry q told in_n at_sec at_call h more
  go_inside x calm (phase.Look (look.Help who number q (copy.Load t f))) at_sec at_call = λ told. each.l_read sh st p x calm who number.coll number.incarnation number.entry q t f told in_n at_sec at_call h more
  go_inside x calm (phase.Look (look.Help who number q (copy.Put t f w))) at_sec at_call = λ told. each.l_put sh st p x calm who number.coll number.incarnation number.entry q t f w told in_n at_sec at_call h more
  go_inside x calm (phase.Look (look.Help who number q (copy.Swing t))) at_sec at_call = λ told. each.l_swing sh st p x calm who number.coll number.incarnation number.entry q t told in_n at_sec at_call h more
  go_inside x calm (phase.Remove (remove.LeaveSlot q number)) at_sec at_call = λ told. each.leave_slot sh st p x calm number.coll number.incarnation number.entry q told in_n at_sec at_call h more
  go_inside x calm (phase.Remove (remove.FreeEntry number)) at_sec at_call = λ told. each.free_entry sh st p x calm number.coll number.incarnation number.entry told in_n at_sec at_call h more
  go_inside x calm (phase.Scan (scan.Directory k c t)) at_sec at_call = λ told. each.scan_dir sh st p x calm k c t told in_n at_sec at_call h more
  go_inside x calm (phase.Scan (scan.Back k c t)) at_sec at_call = λ told. each.scan_back sh st p x calm k c t told in_n at_sec at_call h more
  go_inside x calm (phase.Scan (scan.End k)) at_sec at_call = λ told. each.scan_end sh st p x calm k told in_n at_sec at_call h more
  go_inside x calm (phase.Survey (walk.Directory c t cnt)) at_sec at_call = λ told. each.survey_dir sh st p x calm c t cnt told in_n at_sec at_call h more
  go_inside x calm (phase.Survey (walk.Back c t cnt)) at_sec at_call = λ told. each.survey_back sh st p x calm c t cnt told in_n at_sec at_call h more
  go_inside x calm (phase.Survey (walk.Entry c t cnt number)) at_sec at_call = λ told. each.survey_entry sh st p x calm c t cnt number.coll number.incarnation number.entry told in_n at_sec at_call h more
  go_inside x calm (phase.Begin (begin.Count (walk.Directory c t cnt))) at_sec at_call = λ told. each.count_dir sh st p x calm c t cnt told in_n at_sec at_call h more
  go_inside x calm (phase.Begin (begin.Count (walk.Back c t cnt))) at_sec at_call = λ told. each.count_back sh st p x calm c t cnt told in_n at_sec at_call h more
  go_inside x calm (phase.Begin (begin.Count (walk.Entry c t cnt number))) at_sec at_call = λ told. each.count_entry sh st p x calm c t cnt number.coll number.incarnation number.entry told in_n at_sec at_call h more
  go_inside x calm (phase.Begin (begin.Nothing c)) at_sec at_call = λ told. each.nothing sh st p x calm c told in_n at_sec at_call h more
  go_inside x calm (phase.Begin (begin.SourceDirectory m)) at_sec at_call = λ told. each.source_dir sh st p x calm m told in_n at_sec at_call h more
  go_inside x calm (phase.Begin (begin.SourceBack m)) at_sec at_call = λ told. each.source_back sh st p x calm m told in_n at_sec at_call h more
  go_inside x calm (phase.Begin (begin.SourceEntry m number)) at_sec at_call = λ told.
      subst (λ (k : ℕ). (st.stands p).phase ≡ phase.Begin (begin.SourceEntry m (object number.incarnation number.entry k)) → P sh (did sh st p Go (Inside x calm) (phase.Begin (begin.SourceEntry m (object number.incarnation number.entry k))) told (Load (place.Entry k number.entry)))) (sym (subst IsHomed at_call (homes sh st h p in_n)))
      (λ at. each.source_entry sh st p x calm m number.incarnation number.entry told in_n at_sec at h more) at_call
  go_inside x calm (phase.Begin (begin.TargetDirectory m number)) at_sec at_call = λ told.
      subst (λ (k : ℕ). (st.stands p).phase ≡ phase.Begin (begin.TargetDirectory m (object number.incarnation number.entry k)) → P sh (did sh st p Go (Inside x calm) (phase.Begin (begin.TargetDirectory m (object number.incarnation number.entry k))) told (Load (place.Directory m.coll m.target)))) (sym (subst IsHomed at_call (homes sh st h p in_n)))
      (λ at. each.target_dir sh st p x calm m number.incarnation number.entry told in_n at_sec at h more) at_call
  go_inside x calm (phase.Begin (begin.ClaimTarget m number d)) at_sec at_call = λ told.
      subst (λ (k : ℕ). (st.stands p).phase ≡ phase.Begin (begin.ClaimTarget m (object number.incarnation number.entry k) d) → P sh (did sh st p Go (Inside x calm) (phase.Begin (begin.ClaimTarget m (object number.incarnation number.entry k) d)) told (Exchange (place.Directory m.coll m.target) (word.Directory d) (word.Directory dir.Claimed)))) (sym (subst IsHomed at_call (homes sh st h p in_n)))
      (λ at. each.claim_target sh st p x calm m number.incarnation number.entry d told in_n at_sec at h more) at_call
  go_inside x calm (phase.Begin (begin.BlankField m number f)) at_sec at_call = λ told.
      subst (λ (k : ℕ). (st.stands p).phase ≡ phase.Begin (begin.BlankField m (object number.incarnation number.entry k) f) → P sh (did sh st p Go (Inside x calm) (phase.Begin (begin.BlankField m (object number.incarnation number.entry k) f)) told (Store (place.Field m.coll m.target f) (word.Plain BLANK)))) (sym (subst IsHomed at_call (homes sh st h p in_n)))
      (λ at. each.blank_field sh st p x calm m number.incarnation number.entry f told in_n at_sec at h more) at_call
  go_inside x calm (phase.Begin (begin.StoreBack m number)) at_sec at_call = λ told.
      subst (λ (k : ℕ). (st.stands p).phase ≡ phase.Begin (begin.StoreBack m (object number.incarnation number.entry k)) → P sh (did sh st p Go (Inside x calm) (phase.Begin (begin.StoreBack m (object number.incarnation number.entry k))) told (Store (place.Back m.coll m.target) (word.Back (Some (object number.incarnation number.entry k)))))) (sym (subst IsHomed at_call (homes sh st h p in_n)))
      (λ at. each.name_target sh st p x calm m number.incarnation number.entry told in_n at_sec at h more) at_call
  go_inside x calm (phase.Begin (begin.StoreForward m number)) at_sec at_call = λ told.
      subst (λ (k : ℕ). (st.stands p).phase ≡ phase.Begin (begin.StoreForward m (object number.incarnation number.entry k)) → P sh (did sh st p Go (Inside x calm) (phase.Begin (begin.StoreForward m (object number.incarnation number.entry k))) told (Store (place.Forward m.coll m.source) (word.Forward m.target)))) (sym (subst IsHomed at_call (homes sh st h p in_n)))
      (λ at. each.lead_source sh st p x calm m number.incarnation number.entry told in_n at_sec at h more) at_call
  go_inside x calm (phase.Begin (begin.StoreIncoming m number)) at_sec at_call = λ told.
      subst (λ (k : ℕ). (st.stands p).phase ≡ phase.Begin (begin.StoreIncoming m (object number.incarnation number.entry k)) → P sh (did sh st p Go (Inside x calm) (phase.Begin (begin.StoreIncoming m (object number.incarnation number.entry k))) told (Store (place.Directory m.coll m.target) (word.Directory dir.Incoming)))) (sym (subst IsHomed at_call (homes sh st h p in_n)))
      (λ at. each.store_incoming sh st p x calm m number.incarnation number.entry told in_n at_sec at h more) at_call
  go_inside x calm (phase.Begin (begin.Freeze m number)) at_sec at_call = λ told.
      subst (λ (k : ℕ). (st.stands p).phase ≡ phase.Begin (begin.Freeze m (object number.incarnation number.entry k)) → P sh (did sh st p Go (Inside x calm) (phase.Begin (begin.Freeze m (object number.incarnation number.entry k))) told (Exchange (place.Entry k number.entry) (word.Entry (state.Present number.incarnation m.source)) (word.Entry (state.Frozen number.incarnation m.source))))) (sym (subst IsHomed at_call (homes sh st h p in_n)))
      (λ at. each.freeze sh st p x calm m number.incarnation number.entry told in_n at_sec at h more) at_call
  go_inside x calm (phase.Begin (begin.GiveUp m)) at_sec at_call = λ told. each.begin_gives sh st p x calm m told in_n at_sec at_call h more
  go_inside x calm (phase.Finish (finish.Directory g)) at_sec at_call = λ told. each.finish_dir sh st p x calm g told in_n at_sec at_call h more
  go_inside x calm (phase.Finish (finish.Back g)) at_sec at_call = λ told. each.finish_back sh st p x calm g told in_n at_sec at_call h more
  go_inside x calm (phase.Finish (finish.Entry g number)) at_sec at_call = λ told.
      subst (λ (k : ℕ). (st.stands p).phase ≡ phase.Finish (finish.Entry g (object number.incarnation number.entry k)) → P sh (did sh st p Go (Inside x calm) (phase.Finish (finish.Entry g (object number.incarnation number.entry k))) told (Load (place.Entry k number.entry)))) (sym (subst IsHomed at_call (homes sh st h p in_n)))
      (λ at. each.finish_entry sh st p x calm g number.incarnation number.entry told in_n at_sec at h more) at_call
  go_inside x calm (phase.Finish (finish.Lock g number q)) at_sec at_call = λ told.
      subst (λ (k : ℕ). (st.stands p).phase ≡ phase.Finish (finish.Lock g (object number.incarnation number.entry k) q) → P sh (did sh st p Go (Inside x calm) (phase.Finish (finish.Lock g (object number.incarnation number.entry k) q)) told (Exchange (place.Entry k number.entry) (word.Entry (state.Frozen number.incarnation q)) (word.Entry (state.Locked number.incarnation q))))) (sym (subst IsHomed at_call (homes sh st h p in_n)))
      (λ at. each.lock sh st p x calm g number.incarnation number.entry q told in_n at_sec at h more) at_call
  go_inside x calm (phase.Finish (finish.Move g number q copy.Target)) at_sec at_call = λ told.
      subst (λ (k : ℕ). (st.stands p).phase ≡ phase.Finish (finish.Move g (object number.incarnation number.entry k) q copy.Target) → P sh (did sh st p Go (Inside x calm) (phase.Finish (finish.Move g (object number.incarnation number.entry k) q copy.Target)) told (Load (place.Forward k q)))) (sym (subst IsHomed at_call (homes sh st h p in_n)))
      (λ at. each.f_fwd sh st p x calm g number.incarnation number.entry q told in_n at_sec at h more) at_call
  go_inside x calm (phase.Finish (finish.Move g number q (copy.Load t f))) at_sec at_call = λ told.
      subst (λ (k : ℕ). (st.stands p).phase ≡ phase.Finish (finish.Move g (object number.incarnation number.entry k) q (copy.Load t f)) → P sh (did sh st p Go (Inside x calm) (phase.Finish (finish.Move g (object number.incarnation number.entry k) q (copy.Load t f))) told (Load (place.Field k q f)))) (sym (subst IsHomed at_call (homes sh st h p in_n)))
      (λ at. each.f_read sh st p x calm g number.incarnation number.entry q t f told in_n at_sec at h more) at_call
  go_inside x calm (phase.Finish (finish.Move g number q (copy.Put t f w))) at_sec at_call = λ told.
      subst (λ (k : ℕ). (st.stands p).phase ≡ phase.Finish (finish.Move g (object number.incarnation number.entry k) q (copy.Put t f w)) → P sh (did sh st p Go (Inside x calm) (phase.Finish (finish.Move g (object number.incarnation number.entry k) q (copy.Put t f w))) told (Exchange (place.Field k t f) (word.Plain BLANK) (word.Plain w)))) (sym (subst IsHomed at_call (homes sh st h p in_n)))
      (λ at. each.f_put sh st p x calm g number.incarnation number.entry q t f w told in_n at_sec at h more) at_call
  go_inside x calm (phase.Finish (finish.Move g number q (copy.Swing t))) at_sec at_call = λ told.
      subst (λ (k : ℕ). (st.stands p).phase ≡ phase.Finish (finish.Move g (object number.incarnation number.entry k) q (copy.Swing t)) → P sh (did sh st p Go (Inside x calm) (phase.Finish (finish.Move g (object number.incarnation number.entry k) q (copy.Swing t))) told (Exchange (place.Entry k number.entry) (word.Entry (state.Locked number.incarnation q)) (word.Entry (state.Present number.incarnation t))))) (sym (subst IsHomed at_call (homes sh st h p in_n)))
      (λ at. each.f_swing sh st p x calm g number.incarnation number.entry q t told in_n at_sec at h more) at_call
  go_inside x calm (phase.Finish (finish.Settle g q)) at_sec at_call = λ told. each.settle sh st p x calm g q told in_n at_sec at_call h more
  go_inside x calm (phase.Finish (finish.LeaveSource g q)) at_sec at_call = λ told. each.leave_source sh st p x calm g q told in_n at_sec at_call h more
  go_inside x calm (phase.Finish (finish.GiveUp g gone)) at_sec at_call = λ told. each.finish_gives sh st p x calm g gone told in_n at_sec at_call h more
  go_inside x calm (phase.Finish (finish.End g)) at_sec at_call = λ told. each.finish_ends sh st p x calm g told in_n at_sec at_call h more
  go_inside x calm (phase.Cancel (cancel.Directory c t)) at_sec at_call = λ told. each.cancel_dir sh st p x calm c t told in_n at_sec at_call h more
  go_inside x calm (phase.Cancel (cancel.Back c t)) at_sec at_call = λ told. each.cancel_back sh st p x calm c t told in_n at_sec at_call h more
  go_inside x calm (phase.Cancel (cancel.Entry c t number)) at_sec at_call = λ told.
      subst (λ (k : ℕ). (st.stands p).phase ≡ phase.Cancel (cancel.Entry c t (object number.incarnation number.entry k)) → P sh (did sh st p Go (Inside x calm) (phase.Cancel (cancel.Entry c t (object number.incarnation number.entry k))) told (Load (place.Entry k number.entry)))) (sym (subst IsHomed at_call (homes sh st h p in_n)))
      (λ at. each.cancel_entry sh st p x calm c t number.incarnation number.entry told in_n at_sec at h more) at_call
  go_inside x calm (phase.Cancel (cancel.Unfreeze c t number q)) at_sec at_call = λ told.
      subst (λ (k : ℕ). (st.stands p).phase ≡ phase.Cancel (cancel.Unfreeze c t (object number.incarnation number.entry k) q) → P sh (did sh st p Go (Inside x calm) (phase.Cancel (cancel.Unfreeze c t (object number.incarnation number.entry k) q)) told (Exchange (place.Entry k number.entry) (word.Entry (state.Frozen number.incarnation q)) (word.Entry (state.Present number.incarnation q))))) (sym (subst IsHomed at_call (homes sh st h p in_n)))
      (λ at. each.unfreeze sh st p x calm c t number.incarnation number.entry q told in_n at_sec at h more) at_call
  go_inside x calm (phase.Cancel (cancel.GiveUp c t)) at_sec at_call = λ told. each.cancel_gives sh st p x calm c t told in_n at_sec at_call h more
  go_inside x calm (phase.Cancel cancel.End) at_sec at_call = λ told. each.cancel_ends sh st p x calm told in_n at_sec at_call h more

  -- no call is made but in a section
  knows : (section : Section) (next : Phase) → (st.stands p).section ≡ section → (st.stands p).phase ≡ next → CallKnows section (st.stands p).round next
  knows section next at_sec at_call = subst (λ (k : Phase). CallKnows section (st.stands p).round k) at_call
      (subst (λ (k : Section). CallKnows k (st.stands p).round (st.stands p).phase) at_sec ((calls h).calls p in_n))

  going : (section : Section) (next : Phase) → (st.stands p).section ≡ section → (st.stands p).phase ≡ next
      → IfSome (go_offer p (st.stands p) section next) (Kept section next Go)
  going (Inside x calm) next at_sec at_call = go_inside x calm next at_sec at_call
  going Outside phase.Idle at_sec at_call = tt
  going Outside phase.Entering at_sec at_call = tt
  going Outside (phase.Advancing y k) at_sec at_call = λ told. each.advancing sh st p Outside y k told in_n at_sec at_call h more
  going Outside (phase.Ready y) at_sec at_call = λ told. each.ready sh st p Outside y told in_n at_sec at_call h more
  going Outside (phase.Look next) at_sec at_call = absurd ((knows Outside (phase.Look next) at_sec at_call))
  going Outside (phase.Add next) at_sec at_call = absurd ((knows Outside (phase.Add next) at_sec at_call).0)
  going Outside (phase.Remove next) at_sec at_call = absurd ((knows Outside (phase.Remove next) at_sec at_call))
  going Outside (phase.Scan next) at_sec at_call = absurd ((knows Outside (phase.Scan next) at_sec at_call))
  going Outside (phase.Begin next) at_sec at_call = absurd ((knows Outside (phase.Begin next) at_sec at_call).0)
  going Outside (phase.Finish next) at_sec at_call = absurd ((knows Outside (phase.Finish next) at_sec at_call).0)
  going Outside (phase.Cancel next) at_sec at_call = absurd ((knows Outside (phase.Cancel next) at_sec at_call).0)
  going Outside (phase.Survey next) at_sec at_call = absurd ((knows Outside (phase.Survey next) at_sec at_call))
  going (Loaded v) phase.Idle at_sec at_call = tt
  going (Loaded v) phase.Entering at_sec at_call = λ told. each.announce sh st p v told in_n at_sec at_call h more
  going (Loaded v) (phase.Advancing y k) at_sec at_call = λ told. each.advancing sh st p (Loaded v) y k told in_n at_sec at_call h more
  going (Loaded v) (phase.Ready y) at_sec at_call = λ told. each.ready sh st p (Loaded v) y told in_n at_sec at_call h more
  going (Loaded v) (phase.Look next) at_sec at_call = absurd ((knows (Loaded v) (phase.Look next) at_sec at_call))
  going (Loaded v) (phase.Add next) at_sec at_call = absurd ((knows (Loaded v) (phase.Add next) at_sec at_call).0)
  going (Loaded v) (phase.Remove next) at_sec at_call = absurd ((knows (Loaded v) (phase.Remove next) at_sec at_call))
  going (Loaded v) (phase.Scan next) at_sec at_call = absurd ((knows (Loaded v) (phase.Scan next) at_sec at_call))
  going (Loaded v) (phase.Begin next) at_sec at_call = absurd ((knows (Loaded v) (phase.Begin next) at_sec at_call).0)
  going (Loaded v) (phase.Finish next) at_sec at_call = absurd ((knows (Loaded v) (phase.Finish next) at_sec at_call).0)
  going (Loaded v) (phase.Cancel next) at_sec at_call = absurd ((knows (Loaded v) (phase.Cancel next) at_sec at_call).0)
  going (Loaded v) (phase.Survey next) at_sec at_call = absurd ((knows (Loaded v) (phase.Survey next) at_sec at_call))
  going (Announced v) phase.Idle at_sec at_call = tt
  going (Announced v) phase.Entering at_sec at_call = λ told. each.again sh st p v told in_n at_sec at_call h more
  going (Announced v) (phase.Advancing y k) at_sec at_call = λ told. each.advancing sh st p (Announced v) y k told in_n at_sec at_call h more
  going (Announced v) (phase.Ready y) at_sec at_call = λ told. each.ready sh st p (Announced v) y told in_n at_sec at_call h more
  going (Announced v) (phase.Look next) at_sec at_call = absurd ((knows (Announced v) (phase.Look next) at_sec at_call))
  going (Announced v) (phase.Add next) at_sec at_call = absurd ((knows (Announced v) (phase.Add next) at_sec at_call).0)
  going (Announced v) (phase.Remove next) at_sec at_call = absurd ((knows (Announced v) (phase.Remove next) at_sec at_call))
  going (Announced v) (phase.Scan next) at_sec at_call = absurd ((knows (Announced v) (phase.Scan next) at_sec at_call))
  going (Announced v) (phase.Begin next) at_sec at_call = absurd ((knows (Announced v) (phase.Begin next) at_sec at_call).0)
  going (Announced v) (phase.Finish next) at_sec at_call = absurd ((knows (Announced v) (phase.Finish next) at_sec at_call).0)
  going (Announced v) (phase.Cancel next) at_sec at_call = absurd ((knows (Announced v) (phase.Cancel next) at_sec at_call).0)
  going (Announced v) (phase.Survey next) at_sec at_call = absurd ((knows (Announced v) (phase.Survey next) at_sec at_call))
  going (Again v z) phase.Idle at_sec at_call = tt
  going (Again v z) phase.Entering at_sec at_call = λ told. each.lasting sh st p v z told in_n at_sec at_call h more
  going (Again v z) (phase.Advancing y k) at_sec at_call = λ told. each.advancing sh st p (Again v z) y k told in_n at_sec at_call h more
  going (Again v z) (phase.Ready y) at_sec at_call = λ told. each.ready sh st p (Again v z) y told in_n at_sec at_call h more
  going (Again v z) (phase.Look next) at_sec at_call = absurd ((knows (Again v z) (phase.Look next) at_sec at_call))
  going (Again v z) (phase.Add next) at_sec at_call = absurd ((knows (Again v z) (phase.Add next) at_sec at_call).0)
  going (Again v z) (phase.Remove next) at_sec at_call = absurd ((knows (Again v z) (phase.Remove next) at_sec at_call))
  going (Again v z) (phase.Scan next) at_sec at_call = absurd ((knows (Again v z) (phase.Scan next) at_sec at_call))
  going (Again v z) (phase.Begin next) at_sec at_call = absurd ((knows (Again v z) (phase.Begin next) at_sec at_call).0)
  going (Again v z) (phase.Finish next) at_sec at_call = absurd ((knows (Again v z) (phase.Finish next) at_sec at_call).0)
  going (Again v z) (phase.Cancel next) at_sec at_call = absurd ((knows (Again v z) (phase.Cancel next) at_sec at_call).0)
  going (Again v z) (phase.Survey next) at_sec at_call = absurd ((knows (Again v z) (phase.Survey next) at_sec at_call))
  going (Lasting z) phase.Idle at_sec at_call = tt
  going (Lasting z) phase.Entering at_sec at_call = λ told. each.entered sh st p z told in_n at_sec at_call h more
  going (Lasting z) (phase.Advancing y k) at_sec at_call = λ told. each.advancing sh st p (Lasting z) y k told in_n at_sec at_call h more
  going (Lasting z) (phase.Ready y) at_sec at_call = λ told. each.ready sh st p (Lasting z) y told in_n at_sec at_call h more
  going (Lasting z) (phase.Look next) at_sec at_call = absurd ((knows (Lasting z) (phase.Look next) at_sec at_call))
  going (Lasting z) (phase.Add next) at_sec at_call = absurd ((knows (Lasting z) (phase.Add next) at_sec at_call).0)
  going (Lasting z) (phase.Remove next) at_sec at_call = absurd ((knows (Lasting z) (phase.Remove next) at_sec at_call))
  going (Lasting z) (phase.Scan next) at_sec at_call = absurd ((knows (Lasting z) (phase.Scan next) at_sec at_call))
  going (Lasting z) (phase.Begin next) at_sec at_call = absurd ((knows (Lasting z) (phase.Begin next) at_sec at_call).0)
  going (Lasting z) (phase.Finish next) at_sec at_call = absurd ((knows (Lasting z) (phase.Finish next) at_sec at_call).0)
  going (Lasting z) (phase.Cancel next) at_sec at_call = absurd ((knows (Lasting z) (phase.Cancel next) at_sec at_call).0)
  going (Lasting z) (phase.Survey next) at_sec at_call = absurd ((knows (Lasting z) (phase.Survey next) at_sec at_call))

  -- one offer or another, by a test
  either : (section : Section) (next : Phase) (choice : Choice) (b : Bool) (o o' : Offer) → (b ≡ true → Kept section next choice o) → (b ≡ false → Kept section next choice o')
      → Kept section next choice (if b then o else o')
  either section next choice true o o' f g = f refl
  either section next choice false o o' f g = g refl

  -- the first step of a call that is made in a section
  starts_inside : (x : ℕ) (calm : Bool) (next : Call) → (st.stands p).section ≡ Inside x calm → (st.stands p).phase ≡ phase.Idle
      → IfSome (start_offer sh p (st.stands p) (Inside x calm) next) (Kept (Inside x calm) phase.Idle (Start next))
  starts_inside x calm call.Enter at_sec at_call = tt
  starts_inside x calm call.Advance at_sec at_call = tt
  starts_inside x calm call.Note at_sec at_call = tt
  starts_inside x calm (call.Learn k z) at_sec at_call = tt
  starts_inside x calm call.Leave at_sec at_call = λ told. each.leave sh st p x calm told in_n at_sec at_call h more
  starts_inside x calm (call.Add c k ws) at_sec at_call =
      if_test (Kept (Inside x calm) phase.Idle (Start (call.Add c k ws))) (takes sh c k ws) (step kind.LoadDirectory (Load (place.Directory c k)))
      (λ t told. each.starts_add sh st p x calm c k ws told in_n at_sec at_call t h more)
  starts_inside x calm (call.Look number) at_sec at_call =
      either (Inside x calm) phase.Idle (Start (call.Look number)) (has_place sh (place.Entry number.coll number.entry)) (look_offer (look.Load seeker.Caller number)) (step kind.LoadSection (Load (place.Section p)))
      (λ t told. each.starts_look sh st p x calm number.coll number.incarnation number.entry told in_n at_sec at_call t h more)
      (λ t told. each.look_out sh st p x calm number.coll number.incarnation number.entry told in_n at_sec at_call t h more)
  starts_inside x calm (call.Read number f) at_sec at_call =
      if_held (Kept (Inside x calm) phase.Idle (Start (call.Read number f))) (held_slot (st.stands p).held number)
      (λ q. when (nat_lt f (width_of sh number.coll)) (step kind.LoadField (Load (place.Field number.coll q f)))) (λ q holds.
      if_test (Kept (Inside x calm) phase.Idle (Start (call.Read number f))) (nat_lt f (width_of sh number.coll)) (step kind.LoadField (Load (place.Field number.coll q f)))
      (λ t told. each.read sh st p x calm number.coll number.incarnation number.entry q f told in_n at_sec at_call holds t h more))
  starts_inside x calm (call.Write number f w) at_sec at_call =
      if_held (Kept (Inside x calm) phase.Idle (Start (call.Write number f w))) (held_slot (st.stands p).held number)
      (λ q. when (nat_lt f (width_of sh number.coll) && is_value w) (step kind.WriteField (Store (place.Field number.coll q f) (word.Plain w)))) (λ q holds.
      if_test (Kept (Inside x calm) phase.Idle (Start (call.Write number f w))) (nat_lt f (width_of sh number.coll) && is_value w) (step kind.WriteField (Store (place.Field number.coll q f) (word.Plain w)))
      (λ t told. each.write sh st p x calm number.coll number.incarnation number.entry q f w told in_n at_sec at_call holds t h more))
  starts_inside x calm (call.Remove number) at_sec at_call =
      if_held (Kept (Inside x calm) phase.Idle (Start (call.Remove number))) (held_slot (st.stands p).held number)
      (λ q. Some (step kind.MarkGone (MarkGone number.coll number.entry))) (λ q holds told. each.starts_remove sh st p x calm number.coll number.incarnation number.entry q told in_n at_sec at_call holds h more)
  starts_inside x calm (call.Scan c) at_sec at_call =
      if_test (Kept (Inside x calm) phase.Idle (Start (call.Scan c))) (nat_lt c (length sh.colls)) (step kind.LoadSection (Load (place.Section p)))
      (λ t told. each.starts_scan sh st p x calm c told in_n at_sec at_call h more)
  starts_inside x calm (call.Next k) at_sec at_call =
      if_begun (Kept (Inside x calm) phase.Idle (Start (call.Next k))) (scan_of (st.stands p).scans k) (λ begun. next_offer sh p begun) (λ begun is.
      either (Inside x calm) phase.Idle (Start (call.Next k)) (is_over sh begun) (step kind.LoadSection (Load (place.Section p))) (step kind.LoadDirectory (Load (place.Directory begun.coll begun.place)))
      (λ t told. each.next_over sh st p x calm k begun told in_n at_sec at_call is t h more)
      (λ t told. each.next_slot sh st p x calm k begun told in_n at_sec at_call is t h more))
  starts_inside x calm (call.Begin c) at_sec at_call =
      if_test (Kept (Inside x calm) phase.Idle (Start (call.Begin c))) (nat_lt c (length sh.colls)) (round_offer p x c)
      (λ t told. each.starts_begin sh st p x calm c told in_n at_sec at_call h more)
  starts_inside x calm call.Finish at_sec at_call =
      if_owned (Kept (Inside x calm) phase.Idle (Start call.Finish)) (st.stands p).round (λ owned. finish_start p x owned) (λ owned is.
      either (Inside x calm) phase.Idle (Start call.Finish) (is_early x owned.bound) (step kind.LoadSection (Load (place.Section p))) (finish_offer x (finish.Directory (first_target owned.coll)))
      (λ t told. each.finish_early sh st p x calm owned.bound owned.coll told in_n at_sec at_call is t h more)
      (λ t told. each.starts_finish sh st p x calm owned.bound owned.coll told in_n at_sec at_call is t h more))
  starts_inside x calm call.Cancel at_sec at_call =
      if_owned (Kept (Inside x calm) phase.Idle (Start call.Cancel)) (st.stands p).round (λ owned. cancel_offer x (cancel.Directory owned.coll 0))
      (λ owned is told. each.starts_cancel sh st p x calm owned.bound owned.coll told in_n at_sec at_call is h more)
  starts_inside x calm (call.Survey c) at_sec at_call =
      if_test (Kept (Inside x calm) phase.Idle (Start (call.Survey c))) (nat_lt c (length sh.colls)) (step kind.LoadDirectory (Load (place.Directory c 0)))
      (λ t told. each.survey sh st p x calm c told in_n at_sec at_call h more)

  -- the first step of a call
  starts : (section : Section) (next : Call) → (st.stands p).section ≡ section → (st.stands p).phase ≡ phase.Idle
      → IfSome (start_offer sh p (st.stands p) section next) (Kept section phase.Idle (Start next))
  starts (Inside x calm) next at_sec at_call = starts_inside x calm next at_sec at_call
  starts Outside call.Enter at_sec at_call = λ told. each.enter sh st p told in_n at_sec at_call h more
  starts Outside call.Leave at_sec at_call = tt
  starts Outside call.Advance at_sec at_call = λ told. each.advance sh st p told in_n at_sec at_call h more
  starts Outside (call.Add c k ws) at_sec at_call = tt
  starts Outside (call.Look number) at_sec at_call = tt
  starts Outside (call.Read number f) at_sec at_call = tt
  starts Outside (call.Write number f w) at_sec at_call = tt
  starts Outside (call.Remove number) at_sec at_call = tt
  starts Outside (call.Scan c) at_sec at_call = tt
  starts Outside (call.Next k) at_sec at_call = tt
  starts Outside (call.Begin c) at_sec at_call = tt
  starts Outside call.Finish at_sec at_call = tt
  starts Outside call.Cancel at_sec at_call = tt
  starts Outside (call.Survey c) at_sec at_call = tt
  starts Outside call.Note at_sec at_call = λ told. each.note sh st p told in_n at_sec at_call h more
  starts Outside (call.Learn k y) at_sec at_call = λ told. each.learn sh st p k y told in_n at_sec at_call h more
  starts (Loaded v) call.Enter at_sec at_call = tt
  starts (Loaded v) call.Leave at_sec at_call = tt
  starts (Loaded v) call.Advance at_sec at_call = tt
  starts (Loaded v) (call.Add c k ws) at_sec at_call = tt
  starts (Loaded v) (call.Look number) at_sec at_call = tt
  starts (Loaded v) (call.Read number f) at_sec at_call = tt
  starts (Loaded v) (call.Write number f w) at_sec at_call = tt
  starts (Loaded v) (call.Remove number) at_sec at_call = tt
  starts (Loaded v) (call.Scan c) at_sec at_call = tt
  starts (Loaded v) (call.Next k) at_sec at_call = tt
  starts (Loaded v) (call.Begin c) at_sec at_call = tt
  starts (Loaded v) call.Finish at_sec at_call = tt
  starts (Loaded v) call.Cancel at_sec at_call = tt
  starts (Loaded v) (call.Survey c) at_sec at_call = tt
  starts (Loaded v) call.Note at_sec at_call = tt
  starts (Loaded v) (call.Learn k y) at_sec at_call = tt
  starts (Announced v) call.Enter at_sec at_call = tt
  starts (Announced v) call.Leave at_sec at_call = tt
  starts (Announced v) call.Advance at_sec at_call = tt
  starts (Announced v) (call.Add c k ws) at_sec at_call = tt
  starts (Announced v) (call.Look number) at_sec at_call = tt
  starts (Announced v) (call.Read number f) at_sec at_call = tt
  starts (Announced v) (call.Write number f w) at_sec at_call = tt
  starts (Announced v) (call.Remove number) at_sec at_call = tt
  starts (Announced v) (call.Scan c) at_sec at_call = tt
  starts (Announced v) (call.Next k) at_sec at_call = tt
  starts (Announced v) (call.Begin c) at_sec at_call = tt
  starts (Announced v) call.Finish at_sec at_call = tt
  starts (Announced v) call.Cancel at_sec at_call = tt
  starts (Announced v) (call.Survey c) at_sec at_call = tt
  starts (Announced v) call.Note at_sec at_call = tt
  starts (Announced v) (call.Learn k y) at_sec at_call = tt
  starts (Again v z) call.Enter at_sec at_call = tt
  starts (Again v z) call.Leave at_sec at_call = tt
  starts (Again v z) call.Advance at_sec at_call = tt
  starts (Again v z) (call.Add c k ws) at_sec at_call = tt
  starts (Again v z) (call.Look number) at_sec at_call = tt
  starts (Again v z) (call.Read number f) at_sec at_call = tt
  starts (Again v z) (call.Write number f w) at_sec at_call = tt
  starts (Again v z) (call.Remove number) at_sec at_call = tt
  starts (Again v z) (call.Scan c) at_sec at_call = tt
  starts (Again v z) (call.Next k) at_sec at_call = tt
  starts (Again v z) (call.Begin c) at_sec at_call = tt
  starts (Again v z) call.Finish at_sec at_call = tt
  starts (Again v z) call.Cancel at_sec at_call = tt
  starts (Again v z) (call.Survey c) at_sec at_call = tt
  starts (Again v z) call.Note at_sec at_call = tt
  starts (Again v z) (call.Learn k y) at_sec at_call = tt
  starts (Lasting z) call.Enter at_sec at_call = tt
  starts (Lasting z) call.Leave at_sec at_call = tt
  starts (Lasting z) call.Advance at_sec at_call = tt
  starts (Lasting z) (call.Add c k ws) at_sec at_call = tt
  starts (Lasting z) (call.Look number) at_sec at_call = tt
  starts (Lasting z) (call.Read number f) at_sec at_call = tt
  starts (Lasting z) (call.Write number f w) at_sec at_call = tt
  starts (Lasting z) (call.Remove number) at_sec at_call = tt
  starts (Lasting z) (call.Scan c) at_sec at_call = tt
  starts (Lasting z) (call.Next k) at_sec at_call = tt
  starts (Lasting z) (call.Begin c) at_sec at_call = tt
  starts (Lasting z) call.Finish at_sec at_call = tt
  starts (Lasting z) call.Cancel at_sec at_call = tt
  starts (Lasting z) (call.Survey c) at_sec at_call = tt
  starts (Lasting z) call.Note at_sec at_call = tt
  starts (Lasting z) (call.Learn k y) at_sec at_call = tt

  -- each step that is offered
  offered : (choice : Choice) (section : Section) (next : Phase) → (st.stands p).section ≡ section → (st.stands p).phase ≡ next
      → IfSome (offer sh p (st.stands p) section next choice) (Kept section next choice)
  offered Go section next at_sec at_call = going section next at_sec at_call
  offered (Start next) section phase.Idle at_sec at_call = starts section next at_sec at_call
  offered (Start next) section phase.Entering at_sec at_call = tt
  offered (Start next) section (phase.Advancing z k) at_sec at_call = tt
  offered (Start next) section (phase.Ready z) at_sec at_call = tt
  offered (Start next) section (phase.Look y) at_sec at_call = tt
  offered (Start next) section (phase.Add y) at_sec at_call = tt
  offered (Start next) section (phase.Remove y) at_sec at_call = tt
  offered (Start next) section (phase.Scan y) at_sec at_call = tt
  offered (Start next) section (phase.Begin y) at_sec at_call = tt
  offered (Start next) section (phase.Finish y) at_sec at_call = tt
  offered (Start next) section (phase.Cancel y) at_sec at_call = tt
  offered (Start next) section (phase.Survey y) at_sec at_call = tt

  -- a law that each kind of step keeps is kept by each step that a pass offers
  pub each_step : (choice : Choice) (o : Offer) (told : ℕ) → stand_offer sh p (st.stands p) choice ≡ Some o
      → P sh (state_after sh st p choice told o.op (seen o.op st.memory))
  each_step choice o told offers = subst (λ (k : Option Offer). IfSome k (Kept (st.stands p).section (st.stands p).phase choice)) offers (offered choice (st.stands p).section (st.stands p).phase refl refl) told

-- a part that each kind of step keeps is kept
pub is_kept : (H P : Layout → S.State → Type 0) → EachKind H P → IsKept H P
is_kept H P each sh st p choice o told in_n agrees more offers = each_step H P each sh st (shut agrees) more p in_n choice o told offers
