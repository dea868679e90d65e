-- What a begin has done once it has come so far, where nothing but its own steps changes slots and entries.
use Rattle.std.proofs.Common.{◌≡◌, ℕ, ◌+◌, ◌*◌, ◌/◌, ◌%◌, ◌<◌, ◌≤◌, true, false, Option, Some, None, refl, ap, ◌∙◌, subst, arith}
use Rattle.std.specs.Prelude.{nat_lt, nat_le}
use Rattle.std.proofs.lemmas.Bool.{cond_both}
use Rattle.std.proofs.lemmas.Bool.Decides.{nat_tests}
use Rattle.smc_words.specs.declared.dir.Dir.{Dir}
use Rattle.smc_words.specs.declared.dir.Dir.TheVariants as dir
use Rattle.smc_words.specs.declared.number.Number.{Number}
use Rattle.smc_shape.specs.Layout.{Layout, slots_of}
use Rattle.smc_shape.specs.declared.coll.TheConstants.{BLOCK_SLOTS}
use Rattle.smc_shape.specs.declared.place.Place.TheVariants as place
use Rattle.smc_model.specs.World.{World}
use Rattle.smc_core.specs.declared.done.Done.{Done}
use Rattle.smc_core.specs.declared.done.Done.TheVariants as done
use Rattle.smc_core.specs.declared.local.Owned.{Owned}
use Rattle.smc_core.specs.declared.op.Op.TheVariants.{Load, Exchange}
use Rattle.smc_core.specs.declared.phase.Phase.{Phase}
use Rattle.smc_core.specs.declared.phase.Phase.TheVariants as phase
use Rattle.smc_core.specs.declared.phase.moves.BeginPhase.TheVariants as begin
use Rattle.smc_core.specs.declared.phase.moves.Count.{Count}
use Rattle.smc_core.specs.declared.phase.moves.CountPhase.TheVariants as walk
use Rattle.smc_core.specs.declared.phase.moves.Walk.{Walk}
use Rattle.smc_core.specs.declared.section.Section.{Section}
use Rattle.smc_core.specs.declared.word.State.TheVariants as state
use Rattle.smc_core.specs.declared.word.Word.TheVariants as word
use Rattle.smc_core.specs.Begin.{begin_counted, ends_round, first_walk, to_source, to_target}
use Rattle.smc_core.specs.Count.{blocks_for, is_valid}
use Rattle.smc_core.specs.Ripe.{is_ripe_slot}
use Rattle.smc_core.specs.Section.{epoch_of}
use Rattle.smc_core.specs.Step.{goes}
use Rattle.smc_rules.specs.Memory.{Memory, apply}
use Rattle.smc_rules.specs.Reads.{round_in, state_in, dir_in, back_in}
use Rattle.smc_aside.proofs.Runs.{IsStable}
use Rattle.smc_aside.proofs.Waiting.{AfterChange}
use Rattle.smc_census.specs.Census.{is_home, homes, occupied}
use Rattle.smc_census.specs.Counts.{any_in_block, count_below}
use Rattle.smc_census.proofs.CountLaws.{count_below-le, count_below-weaker}
use Rattle.smc_census.proofs.RoomLaws.{room-first}
use Rattle.smc_census.proofs.WalkLaws.{CountsBelow, counts-all}
use Rattle.smc_packing.proofs.CountSteps.{HomesAreValid}
use Rattle.smc_packing.proofs.Finishes.{AreLow, TargetsAreLow}
use Rattle.smc_packing.proofs.Rooms.{is_valid_in, HasRoom, room-some, ArePassed}

module _ (shape : Layout) (coll epoch many : ℕ) (w0 : World) where
  -- the slots that are kept
  abbrev pub kept : ℕ
  kept = blocks_for many * BLOCK_SLOTS

  -- a collection at rest: so many objects, one in each slot that is valid, and every other slot may be claimed
  pub record IsRested (memory : Memory) : Type 0 where
    pub valid_home : (slot : ℕ) → slot < slots_of shape coll → is_valid_in memory coll slot ≡ true → is_home memory coll slot ≡ true
    pub home_valid : HomesAreValid shape memory coll
    pub ripe : (slot : ℕ) → slot < slots_of shape coll → is_valid_in memory coll slot ≡ false → is_ripe_slot epoch (dir_in memory coll slot) ≡ true
    pub present : homes shape memory coll ≡ many

  -- a walk has counted the slots before this one
  pub record IsCounting (memory : Memory) (of slot : ℕ) (count : Count) : Type 0 where
    pub rested : IsRested memory
    pub of_it : of ≡ coll
    pub within : slot < slots_of shape coll
    pub counted : CountsBelow (is_home memory coll) slot count

  -- a walk over sources has passed those before its source
  pub record IsWalking (memory : Memory) (moves : Walk) : Type 0 where
    pub of_it : moves.coll ≡ coll
    pub to : moves.kept ≡ kept
    pub passed : ArePassed memory moves.coll moves.kept moves.source
    pub low : TargetsAreLow moves.coll moves.kept memory
    pub inside : (a e slot : ℕ) → state_in memory moves.coll e ≡ state.Present a slot → slot < slots_of shape moves.coll

  -- its source has this object
  pub record IsInHand (memory : Memory) (moves : Walk) (number : Number) : Type 0 where
    pub valid : is_valid_in memory moves.coll moves.source ≡ true
    pub back : back_in memory moves.coll moves.source ≡ Some number
    pub home : number.coll ≡ moves.coll
    pub here : memory (place.Entry number.coll number.entry) ≡ word.Entry (state.Present number.incarnation moves.source)

  -- there is room for the objects that it has not passed
  abbrev pub HasRoomFor : Memory → Walk → ℕ → ℕ → Type 0
  HasRoomFor memory moves source target = HasRoom epoch memory moves.coll moves.kept (slots_of shape moves.coll) source target

  -- so it is where its target is being made ready for the object
  abbrev pub IsFilling : Memory → Walk → Number → Type 0
  IsFilling memory moves number = IsWalking memory moves × IsInHand memory moves number × HasRoomFor memory moves (moves.source + 1) (moves.target + 1)

  -- what the answer of a begin says: there was nothing to do, or each object above the kept slots is frozen
  abbrev pub BeginEnd : Memory → Done → Type 0
  BeginEnd memory (done.Nothing of) = (occupied shape memory coll ≤ blocks_for many) × (homes shape memory coll ≡ many) × (round_in memory ≡ None)
  BeginEnd memory (done.Round of bound moves) = AreLow coll kept memory × TargetsAreLow coll kept memory
  BeginEnd memory _ = Unit {0}

  -- how far the begin has come
  abbrev pub BeginPart : Memory → Phase → Option Done → Type 0
  BeginPart memory next (Some answer) = (next ≡ phase.Idle) × BeginEnd memory answer
  BeginPart memory phase.Idle None = IsRested memory
  BeginPart memory (phase.Begin (begin.Count (walk.Directory of slot count))) None = IsCounting memory of slot count
  BeginPart memory (phase.Begin (begin.Count (walk.Back of slot count))) None = IsCounting memory of slot count
  BeginPart memory (phase.Begin (begin.Count (walk.Entry of slot count number))) None = IsCounting memory of slot count × (back_in memory coll slot ≡ Some number)
  BeginPart memory (phase.Begin (begin.Nothing of)) None = (occupied shape memory coll ≤ blocks_for many) × (homes shape memory coll ≡ many)
  BeginPart memory (phase.Begin (begin.SourceDirectory moves)) None = IsWalking memory moves × HasRoomFor memory moves moves.source moves.target
  BeginPart memory (phase.Begin (begin.SourceBack moves)) None = IsWalking memory moves × HasRoomFor memory moves moves.source moves.target × (is_valid_in memory moves.coll moves.source ≡ true)
  BeginPart memory (phase.Begin (begin.SourceEntry moves number)) None =
      IsWalking memory moves × HasRoomFor memory moves moves.source moves.target × (is_valid_in memory moves.coll moves.source ≡ true) × (back_in memory moves.coll moves.source ≡ Some number) × (number.coll ≡ moves.coll)
  BeginPart memory (phase.Begin (begin.TargetDirectory moves number)) None = IsWalking memory moves × IsInHand memory moves number × HasRoomFor memory moves moves.source moves.target
  BeginPart memory (phase.Begin (begin.ClaimTarget moves number seen)) None =
      IsWalking memory moves × IsInHand memory moves number × HasRoomFor memory moves moves.source moves.target
      × (memory (place.Directory moves.coll moves.target) ≡ word.Directory seen) × (is_ripe_slot epoch seen ≡ true)
  BeginPart memory (phase.Begin (begin.BlankField moves number field)) None = IsFilling memory moves number
  BeginPart memory (phase.Begin (begin.StoreBack moves number)) None = IsFilling memory moves number
  BeginPart memory (phase.Begin (begin.StoreForward moves number)) None = IsFilling memory moves number
  BeginPart memory (phase.Begin (begin.StoreIncoming moves number)) None = IsFilling memory moves number
  BeginPart memory (phase.Begin (begin.Freeze moves number)) None = IsFilling memory moves number
  BeginPart memory _ None = ⊥

  pub record Beginning (memory : Memory) (world : World) (section : Section) (owned : Option Owned) (next : Phase) (answer : Option Done) : Type 0 where
    pub in_world : world ≡ w0
    pub at_epoch : epoch_of section ≡ epoch
    pub part : BeginPart memory next answer

  begin-moved : (memory : Memory) (from to : ℕ) (next : Phase) (answer : Option Done) → BeginPart memory next answer → BeginPart (apply (Exchange place.Epoch (word.Plain from) (word.Plain to)) memory) next answer
  begin-moved memory from to phase.Idle None k = record { valid_home = k.valid_home; home_valid = k.home_valid; ripe = k.ripe; present = k.present }
  begin-moved memory from to (phase.Begin (begin.Count (walk.Directory of slot count))) None k = record { rested = record { valid_home = k.rested.valid_home; home_valid = k.rested.home_valid; ripe = k.rested.ripe; present = k.rested.present }; of_it = k.of_it; within = k.within; counted = k.counted }
  begin-moved memory from to (phase.Begin (begin.Count (walk.Back of slot count))) None k = record { rested = record { valid_home = k.rested.valid_home; home_valid = k.rested.home_valid; ripe = k.rested.ripe; present = k.rested.present }; of_it = k.of_it; within = k.within; counted = k.counted }
  begin-moved memory from to (phase.Begin (begin.Count (walk.Entry of slot count number))) None k = (record { rested = record { valid_home = k.0.rested.valid_home; home_valid = k.0.rested.home_valid; ripe = k.0.rested.ripe; present = k.0.rested.present }; of_it = k.0.of_it; within = k.0.within; counted = k.0.counted }, k.1)
  begin-moved memory from to (phase.Begin (begin.Nothing of)) None k = k
  begin-moved memory from to (phase.Begin (begin.SourceDirectory moves)) None k = (record { of_it = k.0.of_it; to = k.0.to; passed = k.0.passed; low = k.0.low; inside = k.0.inside }, record { enough = k.1.enough; ripe = k.1.ripe })
  begin-moved memory from to (phase.Begin (begin.SourceBack moves)) None k = (record { of_it = k.0.of_it; to = k.0.to; passed = k.0.passed; low = k.0.low; inside = k.0.inside }, record { enough = k.1.enough; ripe = k.1.ripe }, k.2)
  begin-moved memory from to (phase.Begin (begin.SourceEntry moves number)) None k = (record { of_it = k.0.of_it; to = k.0.to; passed = k.0.passed; low = k.0.low; inside = k.0.inside }, record { enough = k.1.enough; ripe = k.1.ripe }, k.2, k.3, k.4)
  begin-moved memory from to (phase.Begin (begin.TargetDirectory moves number)) None k = (record { of_it = k.0.of_it; to = k.0.to; passed = k.0.passed; low = k.0.low; inside = k.0.inside }, record { valid = k.1.valid; back = k.1.back; home = k.1.home; here = k.1.here }, record { enough = k.2.enough; ripe = k.2.ripe })
  begin-moved memory from to (phase.Begin (begin.ClaimTarget moves number seen)) None k = (record { of_it = k.0.of_it; to = k.0.to; passed = k.0.passed; low = k.0.low; inside = k.0.inside }, record { valid = k.1.valid; back = k.1.back; home = k.1.home; here = k.1.here }, record { enough = k.2.enough; ripe = k.2.ripe }, k.3, k.4)
  begin-moved memory from to (phase.Begin (begin.BlankField moves number field)) None k = (record { of_it = k.0.of_it; to = k.0.to; passed = k.0.passed; low = k.0.low; inside = k.0.inside }, record { valid = k.1.valid; back = k.1.back; home = k.1.home; here = k.1.here }, record { enough = k.2.enough; ripe = k.2.ripe })
  begin-moved memory from to (phase.Begin (begin.StoreBack moves number)) None k = (record { of_it = k.0.of_it; to = k.0.to; passed = k.0.passed; low = k.0.low; inside = k.0.inside }, record { valid = k.1.valid; back = k.1.back; home = k.1.home; here = k.1.here }, record { enough = k.2.enough; ripe = k.2.ripe })
  begin-moved memory from to (phase.Begin (begin.StoreForward moves number)) None k = (record { of_it = k.0.of_it; to = k.0.to; passed = k.0.passed; low = k.0.low; inside = k.0.inside }, record { valid = k.1.valid; back = k.1.back; home = k.1.home; here = k.1.here }, record { enough = k.2.enough; ripe = k.2.ripe })
  begin-moved memory from to (phase.Begin (begin.StoreIncoming moves number)) None k = (record { of_it = k.0.of_it; to = k.0.to; passed = k.0.passed; low = k.0.low; inside = k.0.inside }, record { valid = k.1.valid; back = k.1.back; home = k.1.home; here = k.1.here }, record { enough = k.2.enough; ripe = k.2.ripe })
  begin-moved memory from to (phase.Begin (begin.Freeze moves number)) None k = (record { of_it = k.0.of_it; to = k.0.to; passed = k.0.passed; low = k.0.low; inside = k.0.inside }, record { valid = k.1.valid; back = k.1.back; home = k.1.home; here = k.1.here }, record { enough = k.2.enough; ripe = k.2.ripe })
  begin-moved memory from to next (Some answer) k = (k.0, end answer k.1)
    where
      end : (answer : Done) → BeginEnd memory answer → BeginEnd (apply (Exchange place.Epoch (word.Plain from) (word.Plain to)) memory) answer
      end (done.Nothing of) k = k
      end (done.Round of bound moves) k = k
      end answer k = tt
  begin-moved memory from to next None k = absurd k

  pub begin-stable : IsStable Beginning
  begin-stable memory (Load here) world section owned next answer quiet p = p
  begin-stable memory (Exchange place.Epoch (word.Plain from) (word.Plain to)) world section owned next answer quiet p = record { in_world = p.in_world; at_epoch = p.at_epoch; part = begin-moved memory from to next answer p.part }
  begin-stable memory op world section owned next answer quiet p = absurd quiet

  pub begin-idle : (memory : Memory) (world : World) (section : Section) (owned : Option Owned) (next : Phase) (answer : Done) → Beginning memory world section owned next (Some answer) → next ≡ phase.Idle
  begin-idle memory world section owned next answer p = p.part.0

  -- the walk comes to its source, or to its end
  pub to-source : (memory : Memory) (section : Section) (owned : Option Owned) (moves : Walk) → epoch_of section ≡ epoch → IsWalking memory moves → HasRoomFor memory moves moves.source moves.target
      → AfterChange Beginning memory w0 section owned (to_source shape epoch moves)
  to-source memory section owned moves at_epoch walking room =
      cond_both (nat_lt moves.source (slots_of shape moves.coll)) (goes (phase.Begin (begin.SourceDirectory moves))) (ends_round epoch moves) (AfterChange Beginning memory w0 section owned)
      (λ t. record { in_world = refl; at_epoch = at_epoch; part = (walking, room) })
      (λ n. record {
        in_world = refl;
        at_epoch = at_epoch;
        part = (
          refl,
          (
            subst (λ (c : ℕ). AreLow c kept memory) walking.of_it (subst (λ (k : ℕ). AreLow moves.coll k memory) walking.to (λ a e slot is. all a e slot is n)),
            subst (λ (c : ℕ). TargetsAreLow c kept memory) walking.of_it (subst (λ (k : ℕ). TargetsAreLow moves.coll k memory) walking.to walking.low),
          ),
        );
      })
    where
      all : (a e slot : ℕ) → state_in memory moves.coll e ≡ state.Present a slot → nat_lt moves.source (slots_of shape moves.coll) ≡ false → slot < moves.kept
      all a e slot is n = grind (arith, nat_tests, walking.passed a e slot is, walking.inside a e slot is)

  -- it comes to its target: one is left
  pub to-target : (memory : Memory) (section : Section) (owned : Option Owned) (moves : Walk) (number : Number) → epoch_of section ≡ epoch → IsWalking memory moves → IsInHand memory moves number
      → moves.source < slots_of shape moves.coll → HasRoomFor memory moves moves.source moves.target → AfterChange Beginning memory w0 section owned (to_target epoch moves number)
  to-target memory section owned moves number at_epoch walking hand lt room =
      let left : moves.target < moves.kept = room-some epoch memory moves.coll moves.kept (slots_of shape moves.coll) moves.source moves.target hand.valid lt room in
      cond_both (nat_lt moves.target moves.kept) (goes (phase.Begin (begin.TargetDirectory moves number))) (ends_round epoch moves) (AfterChange Beginning memory w0 section owned)
      (λ t. record { in_world = refl; at_epoch = at_epoch; part = (walking, hand, room) })
      (λ n. absurd (grind (arith, nat_tests, n, left)))

  -- the count is done: there is room for all objects above the kept slots
  pub after-count : (whole : slots_of shape coll % BLOCK_SLOTS ≡ 0) (memory : Memory) (section : Section) (owned : Option Owned) (count : Count) → epoch_of section ≡ epoch
      → ((slot : ℕ) → dir_in memory coll slot ≡ dir.Incoming → slot < slots_of shape coll)
      → ((a e slot : ℕ) → state_in memory coll e ≡ state.Present a slot → slot < slots_of shape coll)
      → IsRested memory → CountsBelow (is_home memory coll) (slots_of shape coll) count
      → AfterChange Beginning memory w0 section owned (begin_counted shape epoch coll count)
  after-count whole memory section owned count at_epoch incoming inside rested counts =
      let all = counts-all (is_home memory coll) (slots_of shape coll) count whole counts in
      let objects : count.objects ≡ many = all.0 ∙ rested.present in
      let blocks : count.blocks ≡ occupied shape memory coll = all.1 in
      let most : occupied shape memory coll ≤ slots_of shape coll / BLOCK_SLOTS = count_below-le (any_in_block (is_home memory coll)) (slots_of shape coll / BLOCK_SLOTS) in
      let fewer : count_below (is_valid_in memory coll) (slots_of shape coll) ≤ homes shape memory coll = count_below-weaker (is_valid_in memory coll) (is_home memory coll) (slots_of shape coll) rested.valid_home in
      cond_both (nat_le count.blocks (blocks_for count.objects)) (goes (phase.Begin (begin.Nothing coll))) (to_source shape epoch (first_walk coll (blocks_for count.objects * BLOCK_SLOTS))) (AfterChange Beginning memory w0 section owned)
      (λ t. let few : count.blocks ≤ blocks_for count.objects = grind (arith, nat_tests, t) in
      record { in_world = refl; at_epoch = at_epoch; part = (subst (λ (n : ℕ). occupied shape memory coll ≤ blocks_for n) objects (omega (arith, few, blocks)), rested.present) })
      (λ n. let more : blocks_for count.objects < count.blocks = grind (arith, nat_tests, n) in
      let below : blocks_for count.objects * BLOCK_SLOTS ≤ slots_of shape coll = omega (arith, more, blocks, most) in
      to-source memory section owned (first_walk coll (blocks_for count.objects * BLOCK_SLOTS)) at_epoch
      (record {
        of_it = refl;
        to = ap (λ (k : ℕ). blocks_for k * BLOCK_SLOTS) objects;
        passed = λ a e slot is above. above;
        low = λ slot is. absurd (not-ripe (dir_in memory coll slot) is (rested.ripe slot (incoming slot is) (ap is_valid is)));
        inside = inside;
      })
      (record {
        enough = room-first (is_valid_in memory coll) (slots_of shape coll) (blocks_for count.objects * BLOCK_SLOTS) below (omega (arith, fewer, rested.present, objects));
        ripe = λ slot low high other. rested.ripe slot (omega (arith, below, high)) other;
      }))
    where
      not-ripe : (d : Dir) → d ≡ dir.Incoming → is_ripe_slot epoch d ≡ true → ⊥
      not-ripe d is r = let no : is_ripe_slot epoch dir.Incoming ≡ true = subst (λ (x : Dir). is_ripe_slot epoch x ≡ true) is r in absurd (cc)
