-- A begin counts what is there, and passes no source that still has an object without a mark.
use Rattle.std.proofs.Common.{◌≡◌, ℕ, ◌+◌, ◌%◌, ◌<◌, ◌≤◌, true, false, Option, Some, None, refl, sym, ap, ◌∙◌, subst, arith}
use Rattle.std.specs.Option.{option_map_or}
use Rattle.std.proofs.lemmas.Bool.{cond_both}
use Rattle.std.proofs.lemmas.Bool.Decides.{nat_tests}
use Rattle.smc_words.specs.declared.dir.Dir.{Dir}
use Rattle.smc_words.specs.declared.dir.Dir.TheVariants as dir
use Rattle.smc_words.specs.declared.number.Number.{Number}
use Rattle.smc_shape.specs.Layout.{Layout, slots_of, entries_of}
use Rattle.smc_shape.specs.declared.coll.TheConstants.{BLOCK_SLOTS}
use Rattle.smc_shape.specs.declared.place.Place.TheVariants as place
use Rattle.smc_model.specs.declared.object.Object.{Object}
use Rattle.smc_model.specs.World.{World, is_present}
use Rattle.smc_core.specs.declared.local.Opening.{Opening}
use Rattle.smc_core.specs.declared.local.Owned.{Owned}
use Rattle.smc_core.specs.declared.phase.Phase.TheVariants as phase
use Rattle.smc_core.specs.declared.phase.moves.BeginPhase.{BeginPhase}
use Rattle.smc_core.specs.declared.phase.moves.BeginPhase.TheVariants as begin
use Rattle.smc_core.specs.declared.phase.moves.Count.{Count}
use Rattle.smc_core.specs.declared.phase.moves.CountPhase.TheVariants as walk
use Rattle.smc_core.specs.declared.phase.moves.Counting.{Counting}
use Rattle.smc_core.specs.declared.phase.moves.Counting.TheVariants.{Walks, Counted}
use Rattle.smc_core.specs.declared.phase.moves.Walk.{Walk}
use Rattle.smc_core.specs.declared.section.Section.{Section}
use Rattle.smc_core.specs.declared.word.State as E
use Rattle.smc_core.specs.declared.word.State.TheVariants as state
use Rattle.smc_core.specs.declared.word.Word.{Word}
use Rattle.smc_core.specs.declared.word.Word.TheVariants as word
use Rattle.smc_core.specs.Begin.{begin_change, begin_counting, is_source, next_source, source_owner, to_target}
use Rattle.smc_core.specs.Count.{is_valid}
use Rattle.smc_core.specs.Section.{epoch_of}
use Rattle.smc_core.specs.Step.{goes}
use Rattle.smc_core.specs.Words.{state_of, has_object}
use Rattle.smc_rules.specs.Reads.{state_in, dir_in, back_in, object}
use Rattle.smc_rules.specs.State as S
use Rattle.smc_rules.proofs.CarryLaws.{some-same}
use Rattle.smc_aside.proofs.Waiting.{AfterChange}
use Rattle.smc_agreement.specs.Entries.{stands_at, present_at, IsPlaced}
use Rattle.smc_agreement.proofs.CrossLaws.{back_home}
use Rattle.smc_agreement.proofs.Whole.{shut}
use Rattle.smc_laws.proofs.Everything.{Everything}
use Rattle.smc_census.specs.Census.{is_home}
use Rattle.smc_census.proofs.CountLaws.{by_order}
use Rattle.smc_census.proofs.HomeCounts.{present-slot}
use Rattle.smc_census.proofs.WalkLaws.{CountsBelow}
use Rattle.smc_packing.proofs.CountSteps.{steps-directory, steps-back, steps-entry}
use Rattle.smc_packing.proofs.Rooms.{is_valid_in, room-source, passed-next}
use Rattle.smc_packing.proofs.Walks.{IsCounting, IsWalking, HasRoomFor, Beginning, to-source, to-target, after-count}

-- an entry that is a source's says so
source-word : (w : Word) (number : Number) (slot : ℕ) → is_source number slot (state_of w) ≡ true → w ≡ word.Entry (state.Present number.incarnation slot)
source-word (word.Entry (state.Present own there)) number slot is = grind (arith, nat_tests, is)
source-word (word.Entry (state.Frozen own there)) number slot is = absurd (cc)
source-word (word.Entry (state.Locked own there)) number slot is = absurd (cc)
source-word (word.Entry (state.Removed own there f l)) number slot is = absurd (cc)
source-word (word.Entry (state.Free last stamp)) number slot is = absurd (cc)
source-word (word.Entry (state.Claimed own)) number slot is = absurd (cc)
source-word (word.Plain n) number slot is = absurd (cc)
source-word (word.Round n) number slot is = absurd (cc)
source-word (word.Directory n) number slot is = absurd (cc)
source-word (word.Back n) number slot is = absurd (cc)
source-word (word.Forward n) number slot is = absurd (cc)

-- a slot in use that is not valid is one to which an object is to move
placed-incoming : (d : Dir) → IsPlaced d → is_valid d ≡ false → d ≡ dir.Incoming
placed-incoming dir.Incoming placed other = refl
placed-incoming dir.Valid placed other = absurd (cc)
placed-incoming dir.Free placed other = absurd placed
placed-incoming dir.Claimed placed other = absurd placed
placed-incoming (dir.Limbo stamp) placed other = absurd placed

module _ (opening : Opening) (shape : Layout) (coll epoch many : ℕ) (w0 : World) (whole : slots_of shape coll % BLOCK_SLOTS ≡ 0)
    (s : S.State) (e : Everything opening shape s) (pass : ℕ) (within : pass < shape.passes) (section : Section) (owned : Option Owned) (at_epoch : epoch_of section ≡ epoch) where
  -- what holds after a step that loads
  abbrev After : BeginPhase → Word → Type 0
  After next w = AfterChange (Beginning shape coll epoch many w0) s.memory w0 section owned (begin_change shape epoch next w)

  -- an object without a mark stands in a slot of its collection, which names it
  pub present-inside : (c a f slot : ℕ) → state_in s.memory c f ≡ state.Present a slot → slot < slots_of shape c
  present-inside c a f slot is = by_order f (entries_of shape c)
      (λ lt. (present-slot opening shape s e (object a f c) slot lt (grind (arith, nat_tests, is))).0)
      (λ past. absurd (
      let none = e.records.no_others c a f past in
      let here : has_object a (state_in s.memory c f) ≡ true = grind (arith, nat_tests, is) in
      let there = e.records.is_here c a f in
      let not_here : is_present s.world (object a f c) ≡ false = ap (λ (x : Option Object). option_map_or (λ (o : Object). o.present) x false) none in
      cc))

  incoming-inside : (slot : ℕ) → dir_in s.memory coll slot ≡ dir.Incoming → slot < slots_of shape coll
  incoming-inside slot is = e.whole.agrees.moves.incoming_in coll slot is

  module _ (of slot : ℕ) (count : Count) (k : IsCounting shape coll epoch many w0 s.memory of slot count) where
    -- what holds once the walk has come here
    abbrev Counts : Counting → Type 0
    Counts c = AfterChange (Beginning shape coll epoch many w0) s.memory w0 section owned (begin_counting shape epoch c)

    here : IsCounting shape coll epoch many w0 s.memory coll slot count
    here = record { rested = k.rested; of_it = refl; within = k.within; counted = k.counted }

    walks : (next : ℕ) (after : Count) → next < slots_of shape coll → CountsBelow (is_home s.memory coll) next after → Counts (Walks (walk.Directory coll next after))
    walks next after lt counts = record { in_world = refl; at_epoch = at_epoch; part = record { rested = k.rested; of_it = refl; within = lt; counted = counts } }

    ends : (after : Count) → CountsBelow (is_home s.memory coll) (slots_of shape coll) after → Counts (Counted coll after)
    ends after counts = after-count shape coll epoch many w0 whole s.memory section owned after at_epoch incoming-inside (λ a f place is. present-inside coll a f place is) k.rested counts

    pub count-directory : After (begin.Count (walk.Directory of slot count)) (s.memory (place.Directory of slot))
    count-directory = subst (λ (c : ℕ). After (begin.Count (walk.Directory c slot count)) (s.memory (place.Directory c slot))) (sym k.of_it)
        (steps-directory shape s.memory coll k.rested.home_valid Counts walks ends slot count k.within k.counted (record { in_world = refl; at_epoch = at_epoch; part = here }))

    pub count-back : After (begin.Count (walk.Back of slot count)) (s.memory (place.Back of slot))
    count-back = subst (λ (c : ℕ). After (begin.Count (walk.Back c slot count)) (s.memory (place.Back c slot))) (sym k.of_it)
        (steps-back shape s.memory coll k.rested.home_valid Counts walks ends slot count k.within k.counted (λ number is. record { in_world = refl; at_epoch = at_epoch; part = (here, is) }))

    pub count-entry : (number : Number) → back_in s.memory coll slot ≡ Some number → After (begin.Count (walk.Entry of slot count number)) (s.memory (place.Entry number.coll number.entry))
    count-entry number back = subst (λ (c : ℕ). After (begin.Count (walk.Entry c slot count number)) (s.memory (place.Entry number.coll number.entry))) (sym k.of_it)
        (steps-entry shape s.memory coll k.rested.home_valid Counts walks ends slot count number k.within k.counted back)

  -- a source in which there is no object without a mark is passed
  pub past-source : (moves : Walk) → IsWalking shape coll epoch many w0 s.memory moves → HasRoomFor shape coll epoch many w0 s.memory moves moves.source moves.target
      → ((a f : ℕ) → state_in s.memory moves.coll f ≡ state.Present a moves.source → ⊥)
      → AfterChange (Beginning shape coll epoch many w0) s.memory w0 section owned (next_source shape epoch moves)
  past-source moves k room none = to-source shape coll epoch many w0 s.memory section owned (record moves { source = moves.source + 1 }) at_epoch
      (record { of_it = k.of_it; to = k.to; passed = passed-next s.memory moves.coll moves.kept moves.source none k.passed; low = k.low; inside = k.inside })
      (room-source epoch s.memory moves.coll moves.kept (slots_of shape moves.coll) moves.source moves.target room)

  module _ (moves : Walk) (k : IsWalking shape coll epoch many w0 s.memory moves) (room : HasRoomFor shape coll epoch many w0 s.memory moves moves.source moves.target) (high : moves.kept ≤ moves.source) where
    -- an object without a mark is only in a source that is valid
    pub source-directory : After (begin.SourceDirectory moves) (s.memory (place.Directory moves.coll moves.source))
    source-directory = cond_both (is_valid (dir_in s.memory moves.coll moves.source)) (goes (phase.Begin (begin.SourceBack moves))) (next_source shape epoch moves)
        (AfterChange (Beginning shape coll epoch many w0) s.memory w0 section owned)
        (λ t. record { in_world = refl; at_epoch = at_epoch; part = (k, room, t) })
        (λ n. past-source moves k room (λ a f is.
        let placed : IsPlaced (dir_in s.memory moves.coll moves.source) = e.whole.agrees.objects.placed moves.coll a f moves.source (ap present_at is) in
        let incoming : dir_in s.memory moves.coll moves.source ≡ dir.Incoming = placed-incoming (dir_in s.memory moves.coll moves.source) placed n in
        let low : moves.source < moves.kept = k.low moves.source incoming in omega (arith, low, high)))

    -- which names it
    pub source-back : moves.source < slots_of shape moves.coll → is_valid_in s.memory moves.coll moves.source ≡ true → After (begin.SourceBack moves) (s.memory (place.Back moves.coll moves.source))
    source-back lt valid = go (back_in s.memory moves.coll moves.source) refl
      where
        go : (back : Option Number) → back_in s.memory moves.coll moves.source ≡ back → AfterChange (Beginning shape coll epoch many w0) s.memory w0 section owned (source_owner shape epoch moves back)
        go None is = past-source moves k room (λ a f here. let named = e.whole.agrees.objects.standing moves.coll a f moves.source (ap stands_at here) in absurd (cc))
        go (Some number) is = record {
          in_world = refl;
          at_epoch = at_epoch;
          part = (k, room, valid, is, back_home shape s (shut e.whole) moves.coll moves.source number.incarnation number.entry number.coll lt is);
        }

    -- and so its entry is the one that is looked at
    pub source-entry : (number : Number) → moves.source < slots_of shape moves.coll → is_valid_in s.memory moves.coll moves.source ≡ true → back_in s.memory moves.coll moves.source ≡ Some number
        → number.coll ≡ moves.coll → After (begin.SourceEntry moves number) (s.memory (place.Entry number.coll number.entry))
    source-entry number lt valid back home = cond_both (is_source number moves.source (state_in s.memory number.coll number.entry)) (to_target epoch moves number) (next_source shape epoch moves)
        (AfterChange (Beginning shape coll epoch many w0) s.memory w0 section owned)
        (λ t. to-target shape coll epoch many w0 s.memory section owned moves number at_epoch k
        (record { valid = valid; back = back; home = home; here = source-word (s.memory (place.Entry number.coll number.entry)) number moves.source t }) lt room)
        (λ n. past-source moves k room (λ a f here.
        let named : back_in s.memory moves.coll moves.source ≡ Some (object a f moves.coll) = e.whole.agrees.objects.standing moves.coll a f moves.source (ap stands_at here) in
        let same : number ≡ object a f moves.coll = some-same number (object a f moves.coll) (sym back ∙ named) in
        let no : is_source (object a f moves.coll) moves.source (state_in s.memory moves.coll f) ≡ false = subst (λ (x : Number). is_source x moves.source (state_in s.memory x.coll x.entry) ≡ false) same n in
        let no' : is_source (object a f moves.coll) moves.source (state.Present a moves.source) ≡ false = subst (λ (x : E.State). is_source (object a f moves.coll) moves.source x ≡ false) here no in
        absurd (grind (arith, nat_tests, no'))))
