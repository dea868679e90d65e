-- Each source that a begin has in hand gets a target, and its object is frozen.
use Rattle.std.proofs.Common.{◌≡◌, ◌≢◌, ℕ, ◌+◌, ◌<◌, ◌≤◌, Bool, true, false, Option, Some, None, refl, sym, ap, ◌∙◌, subst, arith}
use Rattle.std.specs.Prelude.{nat_lt, if◌then◌else◌}
use Rattle.std.proofs.lemmas.Bool.{cond_both}
use Rattle.std.proofs.lemmas.Bool.Decides.{nat_tests}
use Rattle.smc_words.specs.declared.dir.Dir.{Dir}
use Rattle.smc_words.specs.declared.dir.Dir.TheVariants as dir
use Rattle.smc_words.specs.declared.number.Number.{Number}
use Rattle.smc_shape.specs.Layout.{Layout, slots_of, width_of}
use Rattle.smc_shape.specs.declared.place.Place.{Place}
use Rattle.smc_shape.specs.declared.place.Place.TheVariants as place
use Rattle.smc_model.specs.World.{World}
use Rattle.smc_core.specs.declared.change.Change.{Change}
use Rattle.smc_core.specs.declared.local.Opening.{Opening}
use Rattle.smc_core.specs.declared.local.Owned.{Owned}
use Rattle.smc_core.specs.declared.phase.Phase.TheVariants as phase
use Rattle.smc_core.specs.declared.phase.moves.BeginPhase.{BeginPhase}
use Rattle.smc_core.specs.declared.phase.moves.BeginPhase.TheVariants as begin
use Rattle.smc_core.specs.declared.phase.moves.Walk.{Walk}
use Rattle.smc_core.specs.declared.section.Section.{Section}
use Rattle.smc_core.specs.declared.word.State.TheVariants as state
use Rattle.smc_core.specs.declared.word.Word.{Word}
use Rattle.smc_core.specs.declared.word.Word.TheVariants as word
use Rattle.smc_core.specs.Begin.{begin_change, begin_offer, blank_field, next_source, past_target, to_target, with_move}
use Rattle.smc_core.specs.Count.{is_valid}
use Rattle.smc_core.specs.Ripe.{is_ripe_slot}
use Rattle.smc_core.specs.Section.{epoch_of}
use Rattle.smc_core.specs.Step.{goes}
use Rattle.smc_core.specs.Words.{dir_of, state_of, same_word}
use Rattle.smc_rules.specs.Memory.{Memory, apply, put_word, seen}
use Rattle.smc_rules.specs.Reads.{state_in, dir_in, back_in, object}
use Rattle.smc_rules.specs.State as S
use Rattle.smc_rules.proofs.CarryLaws.{some-same}
use Rattle.smc_rules.proofs.MirrorLaws.{same_word-refl}
use Rattle.smc_rules.proofs.PlaceLaws.{same_place-refl}
use Rattle.smc_aside.proofs.Waiting.{AfterChange}
use Rattle.smc_agreement.specs.Entries.{stands_at}
use Rattle.smc_laws.proofs.Everything.{Everything}
use Rattle.smc_census.proofs.CountLaws.{by_test}
use Rattle.smc_packing.proofs.Rooms.{is_valid_in, dir-other, room-both, room-put, room-target, passed-next}
use Rattle.smc_packing.proofs.Walks.{IsWalking, IsInHand, IsFilling, HasRoomFor, Beginning, BeginPart, to-source, to-target}

-- a slot that may be claimed has a directory word, which does not say valid
ripe-word : (epoch : ℕ) (w : Word) → is_ripe_slot epoch (dir_of w) ≡ true → w ≡ word.Directory (dir_of w)
ripe-word epoch (word.Directory d) is = refl
ripe-word epoch (word.Plain n) is = absurd (cc)
ripe-word epoch (word.Round n) is = absurd (cc)
ripe-word epoch (word.Entry n) is = absurd (cc)
ripe-word epoch (word.Back n) is = absurd (cc)
ripe-word epoch (word.Forward n) is = absurd (cc)

ripe-other : (epoch : ℕ) (d : Dir) → is_ripe_slot epoch d ≡ true → is_valid d ≡ false
ripe-other epoch dir.Free is = refl
ripe-other epoch (dir.Limbo stamp) is = refl
ripe-other epoch dir.Valid is = absurd (cc)
ripe-other epoch dir.Incoming is = absurd (cc)
ripe-other epoch dir.Claimed is = absurd (cc)

-- a word is found where it was put
put-there : (memory : Memory) (here : Place) (w : Word) → put_word memory here w here ≡ w
put-there memory here w = ap (λ (b : Bool). if b then w else memory here) (same_place-refl here)

module _ (opening : Opening) (shape : Layout) (coll epoch many : ℕ) (w0 : World) (s : S.State) (e : Everything opening shape s)
    (section : Section) (owned : Option Owned) (at_epoch : epoch_of section ≡ epoch)
    (moves : Walk) (number : Number) (k : IsWalking shape coll epoch many w0 s.memory moves) (hand : IsInHand shape coll epoch many w0 s.memory moves number)
    (lt : moves.source < slots_of shape moves.coll) (high : moves.kept ≤ moves.source) (below : moves.target < moves.kept) where
  -- what holds after a step
  abbrev After : BeginPhase → Type 0
  After next = AfterChange (Beginning shape coll epoch many w0) (apply (begin_offer epoch next).op s.memory) w0 section owned (begin_change shape epoch next (seen (begin_offer epoch next).op s.memory))

  abbrev AfterThat : Memory → Change → Type 0
  AfterThat memory c = AfterChange (Beginning shape coll epoch many w0) memory w0 section owned c

  apart : moves.source ≢ moves.target
  apart = λ same. omega (arith, high, below, same)

  -- a target that may be claimed is claimed, one that is valid is passed, and others there are none
  pub target-directory : HasRoomFor shape coll epoch many w0 s.memory moves moves.source moves.target → After (begin.TargetDirectory moves number)
  target-directory room = cond_both (is_ripe_slot epoch (dir_in s.memory moves.coll moves.target)) (goes (phase.Begin (begin.ClaimTarget moves number (dir_in s.memory moves.coll moves.target)))) (to_target epoch (past_target moves) number)
      (AfterThat s.memory)
      (λ t. record { in_world = refl; at_epoch = at_epoch; part = (k, hand, room, ripe-word epoch (s.memory (place.Directory moves.coll moves.target)) t, t) })
      (λ n. by_test (is_valid_in s.memory moves.coll moves.target)
      (λ valid. to-target shape coll epoch many w0 s.memory section owned (past_target moves) number at_epoch
      (record { of_it = k.of_it; to = k.to; passed = k.passed; low = k.low; inside = k.inside })
      (record { valid = hand.valid; back = hand.back; home = hand.home; here = hand.here }) lt
      (room-target epoch s.memory moves.coll moves.kept (slots_of shape moves.coll) moves.source moves.target valid room))
      (λ other. absurd (let ripe = room.ripe moves.target (omega arith) below other in cc)))

  -- what has been stored in the target's directory word leaves the rest
  walking-put : (w : Word) → (dir_of w ≡ dir.Incoming → moves.target < moves.kept) → IsWalking shape coll epoch many w0 (put_word s.memory (place.Directory moves.coll moves.target) w) moves
  walking-put w fine = record {
    of_it = k.of_it;
    to = k.to;
    passed = k.passed;
    low = λ slot is. grind (arith, nat_tests, k.low slot, below);
    inside = k.inside;
  }

  hand-put : (w : Word) → IsInHand shape coll epoch many w0 (put_word s.memory (place.Directory moves.coll moves.target) w) moves number
  hand-put w = record {
    valid = ap is_valid (dir-other s.memory moves.coll moves.target w moves.source apart) ∙ hand.valid;
    back = hand.back;
    home = hand.home;
    here = hand.here;
  }

  -- its fields are blanked next
  fills : (memory : Memory) (field : ℕ) → IsFilling shape coll epoch many w0 memory moves number → AfterThat memory (goes (phase.Begin (blank_field shape moves number field)))
  fills memory field fill = record {
    in_world = refl;
    at_epoch = at_epoch;
    part = cond_both (nat_lt field (width_of shape moves.coll)) (begin.BlankField moves number field) (begin.StoreBack moves number) (λ (b : BeginPhase). BeginPart shape coll epoch many w0 memory (phase.Begin b) None) (λ t. fill) (λ n. fill);
  }

  -- the exchange finds what was seen
  pub claim-target : (d : Dir) → HasRoomFor shape coll epoch many w0 s.memory moves moves.source moves.target → s.memory (place.Directory moves.coll moves.target) ≡ word.Directory d → is_ripe_slot epoch d ≡ true
      → After (begin.ClaimTarget moves number d)
  claim-target d room is ripe =
      let there : Word = s.memory (place.Directory moves.coll moves.target) in
      let hit : same_word there (word.Directory d) ≡ true = ap (λ (w : Word). same_word w (word.Directory d)) is ∙ same_word-refl (word.Directory d) in
      let other : is_valid_in s.memory moves.coll moves.target ≡ false = ap (λ (w : Word). is_valid (dir_of w)) is ∙ ripe-other epoch d ripe in
      subst (λ (b : Bool). AfterThat (put_word s.memory (place.Directory moves.coll moves.target) (if b then word.Directory dir.Claimed else there)) (if b then goes (phase.Begin (blank_field shape moves number 0)) else to_target epoch (past_target moves) number)) (sym hit)
      (fills (put_word s.memory (place.Directory moves.coll moves.target) (word.Directory dir.Claimed)) 0 (
        walking-put (word.Directory dir.Claimed) (λ no. below),
        hand-put (word.Directory dir.Claimed),
        room-put epoch s.memory moves.coll moves.kept (slots_of shape moves.coll) (moves.source + 1) (moves.target + 1) moves.target (word.Directory dir.Claimed) (omega (arith, high, below)) (omega arith)
            (room-both epoch s.memory moves.coll moves.kept (slots_of shape moves.coll) moves.source moves.target hand.valid lt other below room),
      ))

  module _ (room : HasRoomFor shape coll epoch many w0 s.memory moves (moves.source + 1) (moves.target + 1)) where
    pub blank-field : (field : ℕ) → After (begin.BlankField moves number field)
    blank-field field = fills (apply (begin_offer epoch (begin.BlankField moves number field)).op s.memory) (field + 1) (
      record { of_it = k.of_it; to = k.to; passed = k.passed; low = k.low; inside = k.inside },
      record { valid = hand.valid; back = hand.back; home = hand.home; here = hand.here },
      record { enough = room.enough; ripe = room.ripe },
    )

    back-other : (w : Word) → back_in (put_word s.memory (place.Back moves.coll moves.target) w) moves.coll moves.source ≡ back_in s.memory moves.coll moves.source
    back-other w = let no = apart in grind (arith, nat_tests, no)

    pub store-back : After (begin.StoreBack moves number)
    store-back = record {
      in_world = refl;
      at_epoch = at_epoch;
      part = (
        record { of_it = k.of_it; to = k.to; passed = k.passed; low = k.low; inside = k.inside },
        record { valid = hand.valid; back = back-other (word.Back (Some number)) ∙ hand.back; home = hand.home; here = hand.here },
        record { enough = room.enough; ripe = room.ripe },
      );
    }

    pub store-forward : After (begin.StoreForward moves number)
    store-forward = record {
      in_world = refl;
      at_epoch = at_epoch;
      part = (
        record { of_it = k.of_it; to = k.to; passed = k.passed; low = k.low; inside = k.inside },
        record { valid = hand.valid; back = hand.back; home = hand.home; here = hand.here },
        record { enough = room.enough; ripe = room.ripe },
      );
    }

    pub store-incoming : After (begin.StoreIncoming moves number)
    store-incoming = record {
      in_world = refl;
      at_epoch = at_epoch;
      part = (
        walking-put (word.Directory dir.Incoming) (λ is. below),
        hand-put (word.Directory dir.Incoming),
        room-put epoch s.memory moves.coll moves.kept (slots_of shape moves.coll) (moves.source + 1) (moves.target + 1) moves.target (word.Directory dir.Incoming) (omega (arith, high, below)) (omega arith) room,
      );
    }

    -- the memory once the object is frozen
    abbrev frozen : Memory
    frozen = put_word s.memory (place.Entry number.coll number.entry) (word.Entry (state.Frozen number.incarnation moves.source))

    -- whatever has no mark then had none before
    was-present : (c a f slot : ℕ) → state_in frozen c f ≡ state.Present a slot → state_in s.memory c f ≡ state.Present a slot
    was-present c a f slot is = grind (arith, nat_tests, is)

    -- and it is not in the source
    none-left : (a f : ℕ) → state_in frozen moves.coll f ≡ state.Present a moves.source → ⊥
    none-left a f is =
        let named : back_in s.memory moves.coll moves.source ≡ Some (object a f moves.coll) = e.whole.agrees.objects.standing moves.coll a f moves.source (ap stands_at (was-present moves.coll a f moves.source is)) in
        let same : number ≡ object a f moves.coll = some-same number (object a f moves.coll) (sym hand.back ∙ named) in
        let its : frozen (place.Entry moves.coll f) ≡ word.Entry (state.Frozen number.incarnation moves.source) =
        subst (λ (n : Number). frozen (place.Entry n.coll n.entry) ≡ word.Entry (state.Frozen number.incarnation moves.source)) same (put-there s.memory (place.Entry number.coll number.entry) (word.Entry (state.Frozen number.incarnation moves.source))) in
        let marked : state_in frozen moves.coll f ≡ state.Frozen number.incarnation moves.source = ap state_of its in
        absurd (cc)

    pub freeze : After (begin.Freeze moves number)
    freeze =
        let there : Word = s.memory (place.Entry number.coll number.entry) in
        let put : Word = word.Entry (state.Present number.incarnation moves.source) in
        let hit : same_word there put ≡ true = ap (λ (w : Word). same_word w put) hand.here ∙ same_word-refl put in
        subst (λ (b : Bool). AfterThat (put_word s.memory (place.Entry number.coll number.entry) (if b then word.Entry (state.Frozen number.incarnation moves.source) else there)) (if b then next_source shape epoch (with_move (past_target moves)) else goes (phase.Begin (begin.GiveUp moves)))) (sym hit)
        (to-source shape coll epoch many w0 frozen section owned (record (with_move (past_target moves)) { source = moves.source + 1 }) at_epoch
        (record {
          of_it = k.of_it;
          to = k.to;
          passed = passed-next frozen moves.coll moves.kept moves.source none-left (λ a f slot is. k.passed a f slot (was-present moves.coll a f slot is));
          low = k.low;
          inside = λ a f slot is. k.inside a f slot (was-present moves.coll a f slot is);
        })
        (record { enough = room.enough; ripe = room.ripe }))
