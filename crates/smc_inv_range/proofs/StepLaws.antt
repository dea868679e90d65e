-- Each step of each call stays within the region.
use Rattle.std.proofs.Common.{◌≡◌, ℕ, ◌+◌, ◌<◌, ◌≤◌, ◌==◌, ◌||◌, ◌&&◌, Bool, true, false, nat_lt, Option, Some, None, List, [], ◌∷◌, length, refl, sym, subst, arith}
use Rattle.std.specs.Prelude.{◌^◌, IsTrue, IfSome, if◌then◌else◌}
use Rattle.std.proofs.lemmas.Bool.Decides.{nat_tests}
use Rattle.std.proofs.lemmas.Bool.{ltb-true}
use Rattle.smc_words.specs.declared.number.Number.{Number}
use Rattle.smc_words.specs.declared.round.RoundWord.{RoundWord}
use Rattle.smc_shape.specs.Layout.{Layout, IsShape, width_of, entries_of}
use Rattle.smc_shape.specs.declared.place.Place.TheVariants as place
use Rattle.smc_core.specs.declared.done.Done.TheVariants as done
use Rattle.smc_core.specs.declared.local.Held.{Held}
use Rattle.smc_core.specs.declared.local.Scan.{Scan}
use Rattle.smc_core.specs.declared.op.Op.TheVariants.{Load}
use Rattle.smc_core.specs.declared.phase.Phase.{Phase}
use Rattle.smc_core.specs.declared.phase.Phase.TheVariants as phase
use Rattle.smc_core.specs.declared.phase.moves.BeginPhase.TheVariants as begin
use Rattle.smc_core.specs.declared.phase.moves.CancelPhase.TheVariants as cancel
use Rattle.smc_core.specs.declared.phase.moves.CountPhase.TheVariants as walk
use Rattle.smc_core.specs.declared.phase.moves.FinishPhase.TheVariants as finish
use Rattle.smc_core.specs.declared.phase.objects.LookPhase.TheVariants as look
use Rattle.smc_core.specs.declared.phase.objects.ScanPhase.TheVariants as scan
use Rattle.smc_core.specs.declared.phase.objects.Seeker.TheVariants as seeker
use Rattle.smc_core.specs.declared.section.TheConstants.{LAST_EPOCH}
use Rattle.smc_core.specs.declared.word.Word.{Word}
use Rattle.smc_core.specs.Add.{is_value, has_no_blank}
use Rattle.smc_core.specs.Count.{counting}
use Rattle.smc_core.specs.Finish.{finish_offer}
use Rattle.smc_core.specs.Look.{look_offer}
use Rattle.smc_core.specs.Scan.{scan_change}
use Rattle.smc_core.specs.Step.{goes, ends}
use Rattle.smc_core.specs.Words.{plain_of, dir_of, state_of}
use Rattle.smc_inv_range.specs.Ranges.{IsNamed, IsSlot, InOp, InShown}
use Rattle.smc_inv_range.specs.Calls.{InPhase, IsHeldWithin}
use Rattle.std.specs.Prelude.{All}
use Rattle.std.proofs.lemmas.Bool.{eqb-false}
use Rattle.std.proofs.lemmas.List.Elements.{All-nil, All-cons, All-head, All-tail}
use Rattle.smc_words.specs.RoundWord.{FitsRound}
use Rattle.smc_core.specs.declared.call.Call.{Call}
use Rattle.smc_core.specs.declared.call.Call.TheVariants as call
use Rattle.smc_core.specs.declared.call.Choice.{Choice}
use Rattle.smc_core.specs.declared.call.Choice.TheVariants.{Start, Go}
use Rattle.smc_core.specs.declared.kind.Kind.TheVariants as kind
use Rattle.smc_core.specs.declared.local.Owned.{Owned}
use Rattle.smc_core.specs.declared.local.Stand.{Stand}
use Rattle.smc_core.specs.declared.op.Offer.{Offer}
use Rattle.smc_core.specs.declared.section.Section.{Section}
use Rattle.smc_core.specs.declared.section.Section.TheVariants.{Outside, Loaded, Announced, Again, Lasting, Inside}
use Rattle.smc_core.specs.Add.{takes}
use Rattle.smc_core.specs.Begin.{round_seen}
use Rattle.smc_core.specs.Change.{change, go_change, advance_next, section_seen, ready_seen, remove_started, next_started, finish_owned, cancel_owned}
use Rattle.smc_core.specs.Count.{no_count}
use Rattle.smc_core.specs.Finish.{finish_start, finish_started, first_target, is_early}
use Rattle.smc_core.specs.Local.{section_after, held_after, round_after, round_begun, words_after}
use Rattle.smc_core.specs.Offer.{offer, go_offer, start_offer, held_slot, look_start}
use Rattle.smc_core.specs.Row.{has_place, OpFits}
use Rattle.smc_core.specs.Scan.{scan_of, next_offer, is_over}
use Rattle.smc_core.specs.Section.{epoch_of, is_calm, entering_offer}
use Rattle.smc_core.specs.Step.{step}
use Rattle.smc_core.specs.Words.{round_of, same_number}
use Rattle.smc_rules.specs.Memory.{seen}
use Rattle.smc_rules.specs.State as rules
use Rattle.smc_rules.specs.State.{put_stand, stand_offer, stand_then, state_after, first_state, IsKept}
use Rattle.smc_rules.proofs.CarryLaws.{by_pass, put_stand-same, put_stand-other}
use Rattle.smc_rules.proofs.OfferLaws.{if_idle, if_outside, if_inside, if_test, if_held, if_begun, if_owned}
use Rattle.smc_inv_range.specs.Calls.{InSection, InOwned, InStand, Ranges}
use Rattle.smc_inv_range.proofs.Memories.{dir_in, epoch_in, either, apply_in, seen_in, op_fits}
use Rattle.smc_inv_range.proofs.LookLaws.{InHolds, InChange, look_op, looking-in}
use Rattle.smc_inv_range.proofs.ObjectLaws.{add_op, add-in, slot_seen-in, remove_op, remove-in, mark_seen-in, scan_op, scan-in}
use Rattle.smc_inv_range.proofs.MoveLaws.{count_op, counting-in, survey-in, begin_op, begin-in, finish_op, finish-in, cancel_op, cancel-in}

-- the epoch of a section
epoch_low : (section : Section) → InSection section → epoch_of section ≤ LAST_EPOCH
epoch_low Outside f = omega arith
epoch_low (Loaded seen) f = omega arith
epoch_low (Announced seen) f = omega arith
epoch_low (Again seen epoch) f = omega arith
epoch_low (Lasting epoch) f = f
epoch_low (Inside epoch calm) f = f

-- what a section holds has its entry and its slot
pub held-in : (shape : Layout) (held : List Held) (number : Number) (slot : ℕ) → All (IsHeldWithin shape) held → held_slot held number ≡ Some slot
    → IsNamed shape number × IsSlot shape number.coll slot
held-in shape [] number slot a is = cc
held-in shape (first ∷ later) number slot a is =
    go (same_number first.number number) refl is (λ e. held-in shape later number slot (All-tail (IsHeldWithin shape) first later a) e)
  where
    go : (b : Bool) → same_number first.number number ≡ b → (if b then Some first.slot else held_slot later number) ≡ Some slot
        → (held_slot later number ≡ Some slot → IsNamed shape number × IsSlot shape number.coll slot) → IsNamed shape number × IsSlot shape number.coll slot
    go true t e k =
        let h : IsHeldWithin shape first = All-head (IsHeldWithin shape) first later a in
        let inc : first.number.incarnation ≡ number.incarnation = grind (arith, nat_tests, t) in
        let ent : first.number.entry ≡ number.entry = grind (arith, nat_tests, t) in
        let col : first.number.coll ≡ number.coll = grind (arith, nat_tests, t) in
        let at : first.slot ≡ slot = cc in (
          record {
            incarnation = omega (arith, inc, h.0.incarnation);
            entry = subst (λ c. number.entry < entries_of shape c) col (subst (λ n. n < entries_of shape first.number.coll) ent h.0.entry);
          },
          subst (λ s. IsSlot shape number.coll s) at (subst (λ c. IsSlot shape c first.slot) col h.1),
        )
    go false t e k = k e

held_after-in : (shape : Layout) (held : List Held) (choice : Choice) (holds : Option Held) → All (IsHeldWithin shape) held → InHolds shape holds
    → All (IsHeldWithin shape) (held_after held choice holds)
held_after-in shape held (Start call.Leave) holds a f = All-nil (IsHeldWithin shape)
held_after-in shape held _ None a f = a
held_after-in shape held _ (Some pair) a f = All-cons (IsHeldWithin shape) pair held f a

-- the round that a pass owns after a step that goes on
round_go-in : (shape : Layout) (owned : Option Owned) (section : Section) (next : Phase) (w : Word) → InOwned shape owned → InOwned shape (round_after owned section next Go w)
round_go-in shape owned section (phase.Begin (begin.Nothing coll)) w f = tt
round_go-in shape owned section (phase.Finish (finish.End targets)) w f = tt
round_go-in shape owned section (phase.Cancel cancel.End) w f = tt
round_go-in shape owned section _ w f = f

round_begun-in : (shape : Layout) (epoch coll : ℕ) (seen : Option RoundWord) (owned : Option Owned) → coll < length shape.colls → InOwned shape owned
    → InOwned shape (round_begun epoch coll seen owned)
round_begun-in shape epoch coll None owned lt f = lt
round_begun-in shape epoch coll (Some seen) owned lt f = f

advance_next-in : (shape : Layout) (words : List ℕ) (epoch other : ℕ) → epoch < LAST_EPOCH → InPhase shape words (advance_next shape epoch other)
advance_next-in shape words epoch other low =
    either (InPhase shape words) (nat_lt other shape.passes) (phase.Advancing epoch other) (phase.Ready epoch) (λ t. (low, ltb-true other shape.passes t)) (λ n. low)

module _ (shape : Layout) (valid : IsShape shape) (pass : ℕ) (within : pass < shape.passes) (stand : Stand) (f : InStand shape stand) where
  -- where a step leaves the call, the section and the round
  abbrev InAfter : Section → Phase → Choice → ℕ → Word → Type 0
  InAfter section next choice told w =
      InChange shape (words_after stand.words choice) (change shape pass stand section next choice told w)
      × InSection (section_after section next choice w) × InOwned shape (round_after stand.round section next choice w)

  -- what an offered step owes: its operation is within the region, and so is what it leaves
  pub record Owes (section : Section) (next : Phase) (choice : Choice) (o : Offer) : Type 0 where
    pub op : InOp shape o.op
    pub after : (told : ℕ) (w : Word) → InShown shape o.op w → InAfter section next choice told w

  -- a step that goes on with a call and leaves the section
  goes_on : (section : Section) (next : Phase) (o : Offer) → ((w : Word) → section_after section next Go w ≡ section) → InSection section → InOp shape o.op
      → ((w : Word) → InShown shape o.op w → InChange shape stand.words (go_change shape stand section next w)) → Owes section next Go o
  goes_on section next o same s op k = record {
    op = op;
    after = λ told w shown. (k w shown, subst InSection (sym (same w)) s, round_go-in shape stand.round section next w f.round);
  }

  entering : (section : Section) → InSection section → IfSome (entering_offer pass section) (Owes section phase.Entering Go)
  entering Outside s = tt
  entering (Inside own calm) s = tt
  entering (Loaded seen) s = record { op = (within, s); after = λ told w shown. ((tt, tt), s, f.round) }
  entering (Announced seen) s = record { op = tt; after = λ told w shown. ((tt, tt), (s, epoch_in shape w shown), f.round) }
  entering (Again seen own) s = record { op = (within, s.1); after = λ told w shown. ((tt, tt), s.1, f.round) }
  entering (Lasting own) s = record { op = tt; after = λ told w shown. ((tt, tt), s, f.round) }

  section_seen-in : (from other : ℕ) (w : Word) → from < LAST_EPOCH → InChange shape stand.words (section_seen shape from other (plain_of w))
  section_seen-in from other w low =
      either (InChange shape stand.words) (plain_of w == 0 || plain_of w == from) (goes (advance_next shape from (other + 1))) (ends (done.NotYet other (plain_of w)))
      (λ t. (advance_next-in shape stand.words from (other + 1) low, tt)) (λ n. (tt, tt))

  ready_seen-in : (from seen : ℕ) → InChange shape stand.words (ready_seen from seen)
  ready_seen-in from seen = either (InChange shape stand.words) (seen == from) (ends (done.Advanced (from + 1))) (ends (done.Overtaken seen)) (λ t. (tt, tt)) (λ n. (tt, tt))

  go : (section : Section) (next : Phase) → InSection section → InPhase shape stand.words next → IfSome (go_offer pass stand section next) (Owes section next Go)
  go section phase.Idle s p = tt
  go section phase.Entering s p = entering section s
  go section (phase.Advancing from other) s p = goes_on section (phase.Advancing from other) _ (λ w. refl) s p.1 (λ w shown. section_seen-in from other w p.0)
  go section (phase.Ready from) s p = goes_on section (phase.Ready from) _ (λ w. refl) s (tt, omega (arith, p), omega (arith, p)) (λ w shown. ready_seen-in from (plain_of w))
  go section (phase.Look next) s p = goes_on section (phase.Look next) _ (λ w. refl) s (look_op shape next p) (λ w shown. looking-in shape stand.words (is_calm section) next w p shown)
  go section (phase.Add next) s p = goes_on section (phase.Add next) _ (λ w. refl) s (add_op shape stand.words next p) (λ w shown. add-in shape stand.words valid (epoch_of section) next w p shown)
  go section (phase.Remove next) s p = goes_on section (phase.Remove next) _ (λ w. refl) s (remove_op shape (epoch_of section) next (epoch_low section s) p) (λ w shown. remove-in shape stand.words next p)
  go section (phase.Scan next) s p = goes_on section (phase.Scan next) _ (λ w. refl) s (scan_op shape pass next within p) (λ w shown. scan-in shape stand.words pass next w p shown)
  go section (phase.Begin next) s p = goes_on section (phase.Begin next) _ (λ w. refl) s (begin_op shape (epoch_of section) next (epoch_low section s) p) (λ w shown. begin-in shape stand.words (epoch_of section) next w p shown)
  go section (phase.Finish next) s p = goes_on section (phase.Finish next) _ (λ w. refl) s (finish_op shape (epoch_of section) next (epoch_low section s) p) (λ w shown. finish-in shape stand.words (epoch_of section) next w p shown)
  go section (phase.Cancel next) s p = goes_on section (phase.Cancel next) _ (λ w. refl) s (cancel_op shape (epoch_of section) next (epoch_low section s) p) (λ w shown. cancel-in shape stand.words (epoch_of section) next w p shown)
  go section (phase.Survey next) s p = goes_on section (phase.Survey next) _ (λ w. refl) s (count_op shape next p) (λ w shown. survey-in shape stand.words (counting shape next w) (counting-in shape next w p shown))

  first_slot : (coll : ℕ) → coll < length shape.colls → IsSlot shape coll 0
  first_slot coll lt = (valid.coll coll lt).some_slots

  new_round : (epoch coll : ℕ) → epoch ≤ LAST_EPOCH → coll < length shape.colls → FitsRound (record { bound = epoch + 1; pass = pass; coll = coll })
  new_round epoch coll low lt = record {
    begun = omega arith;
    bound = omega (arith, low);
    pass = omega (arith, within, valid.passes);
    coll = omega (arith, lt, valid.colls);
  }

  round_seen-in : (coll : ℕ) (seen : Option RoundWord) → coll < length shape.colls → InChange shape stand.words (round_seen coll seen)
  round_seen-in coll None lt = (first_slot coll lt, tt)
  round_seen-in coll (Some seen) lt = (tt, tt)

  -- looking up, by whether the region has the entry
  look_started-in : (section : Section) (number : Number) → InSection section → Owes section phase.Idle (Start (call.Look number)) (look_start shape pass number)
  look_started-in section number s =
      either (Owes section phase.Idle (Start (call.Look number))) (has_place shape (place.Entry number.coll number.entry))
      (look_offer (look.Load seeker.Caller number)) (step kind.LoadSection (Load (place.Section pass)))
      (λ t. let e : number.entry < entries_of shape number.coll = ltb-true number.entry (entries_of shape number.coll) t in record {
        op = e;
        after = λ told w shown. (rw t (looking-in shape stand.words (is_calm section) (look.Load seeker.Caller number) w (tt, e) shown), s, f.round);
      })
      (λ n. record {
        op = within;
        after = λ told w shown. (rw n (tt, tt), s, f.round);
      })

  -- going on with a scan, by whether a slot is left
  next_started-in : (section : Section) (number : ℕ) (begun : Scan) → InSection section → scan_of stand.scans number ≡ Some begun
      → Owes section phase.Idle (Start (call.Next number)) (next_offer shape pass begun)
  next_started-in section number begun s is =
      either (Owes section phase.Idle (Start (call.Next number))) (is_over shape begun)
      (step kind.LoadSection (Load (place.Section pass))) (step kind.LoadDirectory (Load (place.Directory begun.coll begun.place)))
      (λ t. record {
        op = within;
        after = λ told w shown. (next-in w (rw t (tt, tt)), s, f.round);
      })
      (λ n. let at : IsSlot shape begun.coll begun.place = grind (arith, nat_tests, n) in record {
        op = at;
        after = λ told w shown. (next-in w (rw n (scan-in shape stand.words pass (scan.Directory begun.number begun.coll begun.place) w at shown)), s, f.round);
      })
    where
      next-in : (w : Word) → InChange shape stand.words (if is_over shape begun then scan_change shape (scan.End begun.number) w else scan_change shape (scan.Directory begun.number begun.coll begun.place) w)
          → InChange shape stand.words (next_started shape (scan_of stand.scans number) w)
      next-in w k = subst (λ (one : Option Scan). InChange shape stand.words (next_started shape one w)) (sym is)
          (either (InChange shape stand.words) begun.ended (ends done.End)
          (if is_over shape begun then scan_change shape (scan.End begun.number) w else scan_change shape (scan.Directory begun.number begun.coll begun.place) w)
          (λ u. (tt, tt)) (λ u. k))

  -- finishing a round, by whether the section is too early
  finish_started-in : (section : Section) (owned : Owned) → InSection section → stand.round ≡ Some owned → owned.coll < length shape.colls
      → Owes section phase.Idle (Start call.Finish) (finish_start pass (epoch_of section) owned)
  finish_started-in section owned s is lt =
      either (Owes section phase.Idle (Start call.Finish)) (is_early (epoch_of section) owned.bound)
      (step kind.LoadSection (Load (place.Section pass))) (finish_offer (epoch_of section) (finish.Directory (first_target owned.coll)))
      (λ t. record {
        op = within;
        after = λ told w shown. (round-in w (rw t (tt, tt)), s, f.round);
      })
      (λ n. let at : IsSlot shape owned.coll 0 = first_slot owned.coll lt in record {
        op = at;
        after = λ told w shown. (round-in w (rw n (finish-in shape stand.words (epoch_of section) (finish.Directory (first_target owned.coll)) w at shown)), s, f.round);
      })
    where
      round-in : (w : Word) → InChange shape stand.words (finish_started shape (epoch_of section) owned w) → InChange shape stand.words (finish_owned shape (epoch_of section) stand.round w)
      round-in w k = subst (λ (round : Option Owned). InChange shape stand.words (finish_owned shape (epoch_of section) round w)) (sym is) k

  -- a call that is started, by the section
  start : (section : Section) (k : Call) → InSection section → IfSome (start_offer shape pass stand section k) (Owes section phase.Idle (Start k))
  start section call.Enter s = if_outside (Owes section phase.Idle (Start call.Enter)) section _ (λ e. record {
    op = tt;
    after = λ told w shown. ((tt, tt), epoch_in shape w shown, f.round);
  })
  start section call.Leave s = if_inside (Owes section phase.Idle (Start call.Leave)) section _ (λ own calm e. record {
    op = (within, omega arith);
    after = λ told w shown. ((tt, tt), tt, f.round);
  })
  start section call.Advance s = if_outside (Owes section phase.Idle (Start call.Advance)) section _ (λ e. record {
    op = tt;
    after = λ told w shown. (
      either (InChange shape stand.words) (plain_of w == LAST_EPOCH) (ends done.Spent) (goes (advance_next shape (plain_of w) 0)) (λ t. (tt, tt))
          (λ n. (advance_next-in shape stand.words (plain_of w) 0 (omega (arith, epoch_in shape w shown, eqb-false (plain_of w) LAST_EPOCH n)), tt)),
      s,
      f.round,
    );
  })
  start section (call.Add coll from words) s =
      if_inside (Owes section phase.Idle (Start (call.Add coll from words))) section _ (λ own calm e.
      if_test (Owes section phase.Idle (Start (call.Add coll from words))) (takes shape coll from words) _ (λ t.
      let at : IsSlot shape coll from = grind (arith, nat_tests, t) in
      let width : length words ≡ width_of shape coll = grind (arith, nat_tests, t) in
      let values : IsTrue (has_no_blank words) = grind (arith, nat_tests, t) in
      record {
        op = at;
        after = λ told w shown. (
          slot_seen-in shape words valid (epoch_of section) coll from from 0 (dir_of w)
              (record { width = width; values = values }) at at (dir_in shape coll from w shown),
          s,
          f.round,
        );
      }))
  start section (call.Look number) s = if_inside (Owes section phase.Idle (Start (call.Look number))) section _ (λ own calm e.
      look_started-in section number s)
  start section (call.Read number field) s = if_inside (Owes section phase.Idle (Start (call.Read number field))) section _ (λ own calm e.
      if_held (Owes section phase.Idle (Start (call.Read number field))) (held_slot stand.held number) _ (λ slot is.
      if_test (Owes section phase.Idle (Start (call.Read number field))) (nat_lt field (width_of shape number.coll)) _ (λ t. record {
        op = ((held-in shape stand.held number slot f.held is).1, ltb-true field (width_of shape number.coll) t);
        after = λ told w shown. ((tt, tt), s, f.round);
      })))
  start section (call.Write number field value) s = if_inside (Owes section phase.Idle (Start (call.Write number field value))) section _ (λ own calm e.
      if_held (Owes section phase.Idle (Start (call.Write number field value))) (held_slot stand.held number) _ (λ slot is.
      if_test (Owes section phase.Idle (Start (call.Write number field value))) (nat_lt field (width_of shape number.coll) && is_value value) _ (λ t.
      let lt : field < width_of shape number.coll = grind (arith, nat_tests, t) in
      let small : value < 2 ^ 64 = grind (arith, nat_tests, t) in
      record {
        op = (((held-in shape stand.held number slot f.held is).1, lt), small);
        after = λ told w shown. ((tt, tt), s, f.round);
      })))
  start section (call.Remove number) s = if_inside (Owes section phase.Idle (Start (call.Remove number))) section _ (λ own calm e.
      if_held (Owes section phase.Idle (Start (call.Remove number))) (held_slot stand.held number) _ (λ slot is.
      let (named, at) = held-in shape stand.held number slot f.held is in record {
        op = named.entry;
        after = λ told w shown. (
          subst (λ (held : Option ℕ). InChange shape stand.words (remove_started number held (state_of w))) (sym is) (mark_seen-in shape stand.words number slot (state_of w) named at),
          s,
          f.round,
        );
      }))
  start section (call.Scan coll) s = if_inside (Owes section phase.Idle (Start (call.Scan coll))) section _ (λ own calm e.
      if_test (Owes section phase.Idle (Start (call.Scan coll))) (nat_lt coll (length shape.colls)) _ (λ t. record {
        op = within;
        after = λ told w shown. ((tt, tt), s, f.round);
      }))
  start section (call.Next number) s = if_inside (Owes section phase.Idle (Start (call.Next number))) section _ (λ own calm e.
      if_begun (Owes section phase.Idle (Start (call.Next number))) (scan_of stand.scans number) _ (λ begun is.
      next_started-in section number begun s is))
  start section (call.Begin coll) s = if_inside (Owes section phase.Idle (Start (call.Begin coll))) section _ (λ own calm e.
      if_test (Owes section phase.Idle (Start (call.Begin coll))) (nat_lt coll (length shape.colls)) _ (λ t.
      let lt : coll < length shape.colls = ltb-true coll (length shape.colls) t in record {
        op = (tt, tt, new_round (epoch_of section) coll (epoch_low section s) lt);
        after = λ told w shown. (round_seen-in coll (round_of w) lt, s, round_begun-in shape (epoch_of section) coll (round_of w) stand.round lt f.round);
      }))
  start section call.Finish s = if_inside (Owes section phase.Idle (Start call.Finish)) section _ (λ own calm e.
      if_owned (Owes section phase.Idle (Start call.Finish)) stand.round _ (λ owned is.
      finish_started-in section owned s is (subst (InOwned shape) is f.round)))
  start section call.Cancel s = if_inside (Owes section phase.Idle (Start call.Cancel)) section _ (λ own calm e.
      if_owned (Owes section phase.Idle (Start call.Cancel)) stand.round _ (λ owned is.
      let at : IsSlot shape owned.coll 0 = first_slot owned.coll (subst (InOwned shape) is f.round) in record {
        op = at;
        after = λ told w shown. (
          subst (λ (round : Option Owned). InChange shape stand.words (cancel_owned shape round w)) (sym is)
              (cancel-in shape stand.words (epoch_of section) (cancel.Directory owned.coll 0) w at shown),
          s,
          f.round,
        );
      }))
  start section (call.Survey coll) s = if_inside (Owes section phase.Idle (Start (call.Survey coll))) section _ (λ own calm e.
      if_test (Owes section phase.Idle (Start (call.Survey coll))) (nat_lt coll (length shape.colls)) _ (λ t.
      let at : IsSlot shape coll 0 = first_slot coll (ltb-true coll (length shape.colls) t) in record {
        op = at;
        after = λ told w shown. (
          survey-in shape stand.words (counting shape (walk.Directory coll 0 no_count) w) (counting-in shape (walk.Directory coll 0 no_count) w at shown),
          s,
          f.round,
        );
      }))
  start section call.Note s = if_outside (Owes section phase.Idle (Start call.Note)) section _ (λ e. record {
    op = tt;
    after = λ told w shown. ((tt, tt), s, f.round);
  })
  start section (call.Learn other note) s = if_outside (Owes section phase.Idle (Start (call.Learn other note))) section _ (λ e. record {
    op = tt;
    after = λ told w shown. ((tt, tt), s, f.round);
  })

  -- what an offered step owes, whatever was chosen
  pub owed : (section : Section) (next : Phase) (choice : Choice) → InSection section → InPhase shape stand.words next
      → IfSome (offer shape pass stand section next choice) (Owes section next choice)
  owed section next Go s p = go section next s p
  owed section next (Start k) s p = if_idle (Owes section next (Start k)) next (start_offer shape pass stand section k)
      (λ e. subst (λ (c : Phase). IfSome (start_offer shape pass stand section k) (Owes section c (Start k))) (sym e) (start section k s))

-- each step of each kind is on a word of the region, and keeps the ranges
module _ (shape : Layout) (valid : IsShape shape) (state : rules.State) (pass : ℕ) (within : pass < shape.passes) (h : Ranges shape state) where
  abbrev stand : Stand
  stand = state.stands pass

  f : InStand shape stand
  f = h.stands pass within

  abbrev OwesHere : Choice → Offer → Type 0
  OwesHere choice o = Owes shape valid pass within stand f stand.section stand.phase choice o

  paid : (choice : Choice) (offered : Offer) → stand_offer shape pass stand choice ≡ Some offered → OwesHere choice offered
  paid choice offered is = subst (λ (o : Option Offer). IfSome o (OwesHere choice)) is (owed shape valid pass within stand f stand.section stand.phase choice f.section f.phase)

  pub fits : (choice : Choice) (offered : Offer) → stand_offer shape pass stand choice ≡ Some offered → OpFits shape offered.op
  fits choice offered is = op_fits shape offered.op valid (paid choice offered is).op

  pub kept : (choice : Choice) (offered : Offer) (told : ℕ) (w : Word) → stand_offer shape pass stand choice ≡ Some offered → w ≡ seen offered.op state.memory
      → Ranges shape (state_after shape state pass choice told offered.op w)
  kept choice offered told w is shows = record {
    memory = apply_in shape state.memory h.memory offered.op owes.op;
    stands = λ i lt. by_pass i pass
        (λ e. subst (InStand shape) (sym (put_stand-same state.stands pass i next e)) own)
        (λ ne. subst (InStand shape) (sym (put_stand-other state.stands pass i next ne)) (h.stands i lt));
  }
    where
      owes : OwesHere choice offered
      owes = paid choice offered is

      next : Stand
      next = stand_then shape pass stand choice told w

      left : InAfter shape valid pass within stand f stand.section stand.phase choice told w
      left = owes.after told w (subst (InShown shape offered.op) (sym shows) (seen_in shape state.memory h.memory offered.op owes.op))

      own : InStand shape next
      own = record {
        section = left.1;
        phase = left.0.0;
        held = held_after-in shape stand.held choice (change shape pass stand stand.section stand.phase choice told w).holds f.held left.0.1;
        round = left.2;
      }
