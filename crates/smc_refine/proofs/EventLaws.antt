-- What each step tells may happen in the plain world of its moment.
use Rattle.std.proofs.Common.{◌≡◌, ℕ, ◌<◌, ◌≤◌, ◌==◌, ◌&&◌, Bool, true, false, Option, Some, None, refl, sym, ap, ◌∙◌, subst, arith}
use Rattle.std.specs.Prelude.{IfSome, IsSome, is_some, option_and_then, slice_get, nat_lt, if◌then◌else◌, ⊤}
use Rattle.std.specs.Option.{option_map_or}
use Rattle.std.proofs.lemmas.Bool.Decides.{nat_tests}
use Rattle.smc_words.specs.declared.layout.TheConstants.{BLANK}
use Rattle.smc_words.specs.declared.number.Number.{Number}
use Rattle.smc_shape.specs.Layout.{Layout, IsShape, width_of, slots_of, entries_of}
use Rattle.smc_shape.specs.declared.place.Place.TheVariants as place
use Rattle.smc_model.specs.declared.event.Event.TheVariants as event
use Rattle.smc_model.specs.World.{World, object_of, is_present, word_of, IsAllowed}
use Rattle.smc_core.specs.declared.call.Call.{Call}
use Rattle.smc_core.specs.declared.call.Call.TheVariants as call
use Rattle.smc_core.specs.declared.call.Choice.{Choice}
use Rattle.smc_core.specs.declared.call.Choice.TheVariants.{Start, Go}
use Rattle.smc_core.specs.declared.change.Change.{Change}
use Rattle.smc_core.specs.declared.local.Opening.{Opening}
use Rattle.smc_core.specs.declared.op.Offer.{Offer}
use Rattle.smc_core.specs.declared.phase.Phase.{Phase}
use Rattle.smc_core.specs.declared.phase.Phase.TheVariants as phase
use Rattle.smc_core.specs.declared.phase.objects.AddPhase.{AddPhase}
use Rattle.smc_core.specs.declared.phase.objects.AddPhase.TheVariants as add
use Rattle.smc_core.specs.declared.phase.objects.CopyPhase.TheVariants as copy
use Rattle.smc_core.specs.declared.phase.objects.Finding.{Finding}
use Rattle.smc_core.specs.declared.phase.objects.Finding.TheVariants.{Absent, Stays, Abandons, Helps}
use Rattle.smc_core.specs.declared.phase.objects.LookPhase.{LookPhase}
use Rattle.smc_core.specs.declared.phase.objects.LookPhase.TheVariants as look
use Rattle.smc_core.specs.declared.phase.objects.Seeker.{Seeker}
use Rattle.smc_core.specs.declared.phase.objects.Seeker.TheVariants as seeker
use Rattle.smc_core.specs.declared.word.State as E
use Rattle.smc_core.specs.declared.word.State.TheVariants as state
use Rattle.smc_core.specs.declared.word.Word.{Word}
use Rattle.smc_core.specs.declared.word.Word.TheVariants as word
use Rattle.smc_core.specs.Look.{sought_number, seeker_of, find, find_after_abandon, find_after_swing, look_finding, look_change, looking_change, look_offer, visits, passes}
use Rattle.smc_core.specs.declared.section.Section.{Section}
use Rattle.smc_core.specs.declared.section.Section.TheVariants.{Outside, Loaded, Announced, Again, Lasting, Inside}
use Rattle.smc_core.specs.declared.done.Done.TheVariants as done
use Rattle.smc_core.specs.declared.kind.Kind.TheVariants as kind
use Rattle.smc_core.specs.declared.local.Scan.{Scan}
use Rattle.smc_core.specs.declared.op.Op.TheVariants.{Load, Store, MarkGone}
use Rattle.smc_core.specs.declared.phase.objects.RemovePhase.TheVariants as remove
use Rattle.smc_core.specs.declared.phase.objects.ScanPhase.TheVariants as scan
use Rattle.smc_core.specs.Remove.{mark_seen}
use Rattle.smc_core.specs.Row.{has_place}
use Rattle.smc_core.specs.Scan.{scan_of, is_over, is_scanned}
use Rattle.smc_core.specs.Change.{go_change, start_change, remove_started, next_started}
use Rattle.smc_core.specs.Offer.{go_offer, start_offer, look_start, held_slot, when_idle, when_inside, when_held}
use Rattle.smc_core.specs.Section.{epoch_of, is_calm, entering_change}
use Rattle.smc_core.specs.Step.{goes, goes_telling, ends, tells, step, when}
use Rattle.smc_core.specs.Words.{plain_of, dir_of, state_of, same_word, is_gone, has_object}
use Rattle.smc_rules.specs.Memory.{seen}
use Rattle.smc_rules.specs.Reads.{state_for, field_in, object}
use Rattle.smc_rules.specs.State.{State, stand_offer, stand_change}
use Rattle.smc_core.specs.Add.{add_change, is_value}
use Rattle.smc_model.specs.declared.object.Object.{Object}
use Rattle.smc_rules.specs.Calls.{claimed_number}
use Rattle.smc_rules.specs.SlotRule.{HasGiven}
use Rattle.smc_agreement.proofs.Whole.{shut, calls}
use Rattle.smc_rules.specs.RelocationRule.{IsStillOf}
use Rattle.smc_inv_range.proofs.Memories.{slot_coll}
use Rattle.smc_inv_range.proofs.StepLaws.{held-in}
use Rattle.smc_laws.proofs.Everything.{Everything}
use Rattle.smc_laws.proofs.MoveLaws.{held_place}

-- what a change tells may happen in this world
abbrev Allowed : World → Change → Type 0
Allowed w change = IfSome change.event (IsAllowed w)

-- a look-up that finds nothing looked for no object, and one that finds a slot for one that is present
find-absent : (cm : Bool) (a : ℕ) (w : E.State) → find cm a w ≡ Absent → has_object a w ≡ false
find-absent cm a (state.Present own q) is = grind (arith, nat_tests, is)
find-absent cm a (state.Frozen own q) is = grind (arith, nat_tests, is)
find-absent cm a (state.Locked own q) is = grind (arith, nat_tests, is)
find-absent cm a (state.Removed own q f l) is = refl
find-absent cm a (state.Free last stamp) is = refl
find-absent cm a (state.Claimed own) is = refl

find-there : (cm : Bool) (a there : ℕ) (w : E.State) → find cm a w ≡ Stays there → has_object a w ≡ true
find-there cm a there (state.Present own q) is = grind (arith, nat_tests, is)
find-there cm a there (state.Frozen own q) is = grind (arith, nat_tests, is)
find-there cm a there (state.Locked own q) is = grind (arith, nat_tests, is)
find-there cm a there (state.Removed own q f l) is = absurd (cc)
find-there cm a there (state.Free last stamp) is = absurd (cc)
find-there cm a there (state.Claimed own) is = absurd (cc)

abandon-absent : (a : ℕ) (w : E.State) → find_after_abandon a w ≡ Absent → has_object a w ≡ false
abandon-absent a (state.Present own q) is = grind (arith, nat_tests, is)
abandon-absent a (state.Frozen own q) is = grind (arith, nat_tests, is)
abandon-absent a (state.Locked own q) is = grind (arith, nat_tests, is)
abandon-absent a (state.Removed own q f l) is = refl
abandon-absent a (state.Free last stamp) is = refl
abandon-absent a (state.Claimed own) is = refl

abandon-there : (a there : ℕ) (w : E.State) → find_after_abandon a w ≡ Stays there → has_object a w ≡ true
abandon-there a there (state.Present own q) is = grind (arith, nat_tests, is)
abandon-there a there (state.Frozen own q) is = grind (arith, nat_tests, is)
abandon-there a there (state.Locked own q) is = grind (arith, nat_tests, is)
abandon-there a there (state.Removed own q f l) is = absurd (cc)
abandon-there a there (state.Free last stamp) is = absurd (cc)
abandon-there a there (state.Claimed own) is = absurd (cc)

swing-absent : (a : ℕ) (w : E.State) → find_after_swing a w ≡ Absent → has_object a w ≡ false
swing-absent a (state.Present own q) is = grind (arith, nat_tests, is)
swing-absent a (state.Frozen own q) is = grind (arith, nat_tests, is)
swing-absent a (state.Locked own q) is = grind (arith, nat_tests, is)
swing-absent a (state.Removed own q f l) is = refl
swing-absent a (state.Free last stamp) is = refl
swing-absent a (state.Claimed own) is = refl

swing-there : (a there : ℕ) (w : E.State) → find_after_swing a w ≡ Stays there → has_object a w ≡ true
swing-there a there (state.Present own q) is = grind (arith, nat_tests, is)
swing-there a there (state.Frozen own q) is = grind (arith, nat_tests, is)
swing-there a there (state.Locked own q) is = grind (arith, nat_tests, is)
swing-there a there (state.Removed own q f l) is = absurd (cc)
swing-there a there (state.Free last stamp) is = absurd (cc)
swing-there a there (state.Claimed own) is = absurd (cc)

-- by the entry that a look-up's step sees
looked-absent : (shape : Layout) (cm : Bool) (next : LookPhase) (w : Word) → look_finding shape cm next w ≡ Absent → has_object (sought_number next).incarnation (state_of w) ≡ false
looked-absent shape cm (look.Load who n) w is = find-absent cm n.incarnation (state_of w) is
looked-absent shape cm (look.Abandon who n q) w is = go (same_word w (word.Entry (state.Frozen n.incarnation q))) is
  where
    go : (b : Bool) → (if b then Stays q else find_after_abandon n.incarnation (state_of w)) ≡ Absent → has_object n.incarnation (state_of w) ≡ false
    go true e = absurd (cc)
    go false e = abandon-absent n.incarnation (state_of w) e
looked-absent shape cm (look.Help who n q copy.Target) w is = absurd (cc)
looked-absent shape cm (look.Help who n q (copy.Load t f)) w is = absurd (cc)
looked-absent shape cm (look.Help who n q (copy.Put t f v)) w is = absurd (cc)
looked-absent shape cm (look.Help who n q (copy.Swing t)) w is = go (same_word w (word.Entry (state.Locked n.incarnation q))) is
  where
    go : (b : Bool) → (if b then Stays t else find_after_swing n.incarnation (state_of w)) ≡ Absent → has_object n.incarnation (state_of w) ≡ false
    go true e = absurd (cc)
    go false e = swing-absent n.incarnation (state_of w) e

looked-there : (shape : Layout) (cm : Bool) (next : LookPhase) (w : Word) (there : ℕ) → look_finding shape cm next w ≡ Stays there → has_object (sought_number next).incarnation (state_of w) ≡ true
looked-there shape cm (look.Load who n) w there is = find-there cm n.incarnation there (state_of w) is
looked-there shape cm (look.Abandon who n q) w there is = go (same_word w (word.Entry (state.Frozen n.incarnation q))) refl is
  where
    go : (b : Bool) → same_word w (word.Entry (state.Frozen n.incarnation q)) ≡ b → (if b then Stays q else find_after_abandon n.incarnation (state_of w)) ≡ Stays there → has_object n.incarnation (state_of w) ≡ true
    go true t e = grind (arith, nat_tests, t)
    go false t e = abandon-there n.incarnation there (state_of w) e
looked-there shape cm (look.Help who n q copy.Target) w there is = absurd (cc)
looked-there shape cm (look.Help who n q (copy.Load t f)) w there is = absurd (cc)
looked-there shape cm (look.Help who n q (copy.Put t f v)) w there is = absurd (cc)
looked-there shape cm (look.Help who n q (copy.Swing t)) w there is = go (same_word w (word.Entry (state.Locked n.incarnation q))) refl is
  where
    go : (b : Bool) → same_word w (word.Entry (state.Locked n.incarnation q)) ≡ b → (if b then Stays t else find_after_swing n.incarnation (state_of w)) ≡ Stays there → has_object n.incarnation (state_of w) ≡ true
    go true x e = grind (arith, nat_tests, x)
    go false x e = swing-there n.incarnation there (state_of w) e

-- a look-up that ends tells the truth
look-told : (shape : Layout) (w : World) (who : Seeker) (n : Number) (found : Finding) → (found ≡ Absent → is_present w n ≡ false) → ((there : ℕ) → found ≡ Stays there → is_present w n ≡ true)
    → Allowed w (look_change shape who n found)
look-told shape w seeker.Caller n Absent absent there = sym (absent refl)
look-told shape w seeker.Caller n (Stays slot) absent there = sym (there slot refl)
look-told shape w seeker.Caller n (Abandons slot) absent there = tt
look-told shape w seeker.Caller n (Helps slot next) absent there = tt
look-told shape w (seeker.Scan k c t) n Absent absent there = tt
look-told shape w (seeker.Scan k c t) n (Stays slot) absent there = go (slot == t)
  where
    go : (b : Bool) → Allowed w (if b then visits k n slot else goes (passes shape k c t))
    go true = tt
    go false = tt
look-told shape w (seeker.Scan k c t) n (Abandons slot) absent there = tt
look-told shape w (seeker.Scan k c t) n (Helps slot next) absent there = tt

-- a step of copying decides nothing
abbrev copies_on : LookPhase → Type 0
copies_on (look.Help who n q copy.Target) = ⊤
copies_on (look.Help who n q (copy.Load t f)) = ⊤
copies_on (look.Help who n q (copy.Put t f v)) = ⊤
copies_on _ = ⊥

decides-absent : (shape : Layout) (cm : Bool) (next : LookPhase) (w : Word) → look_finding shape cm next w ≡ Absent → copies_on next → ⊥
decides-absent shape cm (look.Load who n) w is c = c
decides-absent shape cm (look.Abandon who n q) w is c = c
decides-absent shape cm (look.Help who n q copy.Target) w is c = absurd (cc)
decides-absent shape cm (look.Help who n q (copy.Load t f)) w is c = absurd (cc)
decides-absent shape cm (look.Help who n q (copy.Put t f v)) w is c = absurd (cc)
decides-absent shape cm (look.Help who n q (copy.Swing t)) w is c = c

decides-there : (shape : Layout) (cm : Bool) (next : LookPhase) (w : Word) (there : ℕ) → look_finding shape cm next w ≡ Stays there → copies_on next → ⊥
decides-there shape cm (look.Load who n) w there is c = c
decides-there shape cm (look.Abandon who n q) w there is c = c
decides-there shape cm (look.Help who n q copy.Target) w there is c = absurd (cc)
decides-there shape cm (look.Help who n q (copy.Load t f)) w there is c = absurd (cc)
decides-there shape cm (look.Help who n q (copy.Put t f v)) w there is c = absurd (cc)
decides-there shape cm (look.Help who n q (copy.Swing t)) w there is c = c

same-offer : (a b : Offer) → Some a ≡ Some b → a ≡ b
same-offer a b is = cc

-- going on with a scan tells at most that it has ended
next-told : (shape : Layout) (w : World) (begun : Option Scan) (v : Word) → Allowed w (next_started shape begun v)
next-told shape w None v = tt
next-told shape w (Some begun) v = go begun.ended (is_over shape begun) (is_scanned (dir_of v))
  where
    go : (a b c : Bool)
        → Allowed w (if a then ends done.End else if b then tells (event.End begun.number) done.End
        else (if c then goes (phase.Scan (scan.Back begun.number begun.coll begun.place)) else goes (passes shape begun.number begun.coll begun.place)))
    go true b c = tt
    go false true c = tt
    go false false true = tt
    go false false false = tt

-- what is offered where an object is held
by_held : (section : Section) (held : Option ℕ) (f : ℕ → Option Offer) (o : Offer) → when_inside section (when_held held f) ≡ Some o → (slot : ℕ) × (held ≡ Some slot) × (f slot ≡ Some o)
by_held (Inside x cm) (Some slot) f o is = (slot, refl, is)
by_held (Inside x cm) None f o is = absurd (cc)
by_held Outside held f o is = absurd (cc)
by_held (Loaded v) held f o is = absurd (cc)
by_held (Announced v) held f o is = absurd (cc)
by_held (Again v z) held f o is = absurd (cc)
by_held (Lasting z) held f o is = absurd (cc)

-- and behind a test
by_test : (b : Bool) (x o : Offer) → when b x ≡ Some o → (b ≡ true) × (x ≡ o)
by_test true x o is = (refl, same-offer x o is)
by_test false x o is = absurd (cc)

is-below : (a b : ℕ) → nat_lt a b ≡ true → a < b
is-below a b t = grind (arith, nat_tests, t)

not-below : (a b : ℕ) → nat_lt a b ≡ false → b ≤ a
not-below a b t = grind (arith, nat_tests, t)

-- an object that is gone is absent, and one that is held and not gone is present
gone-absent : (a : ℕ) (w : E.State) → is_gone w ≡ true → has_object a w ≡ false
gone-absent a (state.Present own q) t = absurd (cc)
gone-absent a (state.Frozen own q) t = absurd (cc)
gone-absent a (state.Locked own q) t = absurd (cc)
gone-absent a (state.Removed own q f l) t = refl
gone-absent a (state.Free last stamp) t = refl
gone-absent a (state.Claimed own) t = refl

here-present : (x a slot : ℕ) (w : E.State) → IsStillOf x a slot w → is_gone w ≡ false → has_object a w ≡ true
here-present x a slot (state.Present own q) k t = grind (arith, nat_tests, k)
here-present x a slot (state.Frozen own q) k t = grind (arith, nat_tests, k)
here-present x a slot (state.Locked own q) k t = grind (arith, nat_tests, k)
here-present x a slot (state.Removed own q f l) k t = absurd (cc)
here-present x a slot (state.Free last stamp) k t = absurd (cc)
here-present x a slot (state.Claimed own) k t = absurd (cc)

module _ (opening : Opening) (shape : Layout) (valid : IsShape shape) (s : State) (e : Everything opening shape s) where
  -- a look-up's step
  looking : (cm : Bool) (next : LookPhase) (w : Word) → w ≡ seen (look_offer next).op s.memory → Allowed s.world (looking_change shape cm next w)
  looking cm next w shown = look-told shape s.world (seeker_of next) (sought_number next) (look_finding shape cm next w)
      (λ absent. e.records.is_here (sought_number next).coll (sought_number next).incarnation (sought_number next).entry
      ∙ (here next (decides-absent shape cm next w absent) ∙ subst (λ (v : Word). has_object (sought_number next).incarnation (state_of v) ≡ false) shown (looked-absent shape cm next w absent)))
      (λ there stays. e.records.is_here (sought_number next).coll (sought_number next).incarnation (sought_number next).entry
      ∙ (here next (decides-there shape cm next w there stays) ∙ subst (λ (v : Word). has_object (sought_number next).incarnation (state_of v) ≡ true) shown (looked-there shape cm next w there stays)))
    where
      here : (next : LookPhase) → (copies_on next → ⊥) → has_object (sought_number next).incarnation (state_for s.memory (sought_number next)) ≡ has_object (sought_number next).incarnation (state_of (seen (look_offer next).op s.memory))
      here (look.Load who n) d = refl
      here (look.Abandon who n q) d = refl
      here (look.Help who n q copy.Target) d = absurd (d tt)
      here (look.Help who n q (copy.Load t f)) d = absurd (d tt)
      here (look.Help who n q (copy.Put t f v)) d = absurd (d tt)
      here (look.Help who n q (copy.Swing t)) d = refl

  -- the step that makes an object live gives it a number that no object had
  new_number : (i slot : ℕ) (n : Number) → i < shape.passes → (s.stands i).phase ≡ phase.Add (add.StoreLive slot n) → object_of s.world n ≡ None
  new_number i slot n li at = go (object_of s.world n) refl
    where
      claimed : state_for s.memory n ≡ state.Claimed n.incarnation
      claimed = (calls (shut e.whole)).c_entry i n.coll n.incarnation n.entry li (ap claimed_number at)

      go : (o : Option Object) → object_of s.world n ≡ o → o ≡ None
      go None q = refl
      go (Some object) q =
          let given : HasGiven opening.incarnation (state_for s.memory n) n.incarnation = e.records.given_in n.coll n.incarnation n.entry (subst IsSome (sym q) refl) in
          let below : n.incarnation < n.incarnation = (subst (λ (w : E.State). HasGiven opening.incarnation w n.incarnation) claimed given).1 in
          absurd (omega (arith, below))

  adding : (i : ℕ) (next : AddPhase) (w : Word) → i < shape.passes → (s.stands i).phase ≡ phase.Add next
      → Allowed s.world (add_change shape (epoch_of (s.stands i).section) (s.stands i).words next w)
  adding i (add.StoreLive slot n) w li at = (new_number i slot n li at, refl)
  adding i (add.FindSlot c k slot t) w li at = grind (arith, nat_tests)
  adding i (add.ClaimSlot c k slot t d) w li at = grind (arith, nat_tests)
  adding i (add.FindEntry c slot n t) w li at = grind (arith, nat_tests)
  adding i (add.ClaimEntry c slot n t a z) w li at = grind (arith, nat_tests)
  adding i (add.DropSlot c slot) w li at = tt
  adding i (add.StoreBack slot n) w li at = tt
  adding i (add.StoreField slot n f) w li at = tt
  adding i (add.StoreValid slot n) w li at = tt

  -- a step that goes on with a call
  going : (i told : ℕ) (next : Phase) (o : Offer) → i < shape.passes → (s.stands i).phase ≡ next → go_offer i (s.stands i) (s.stands i).section next ≡ Some o
      → Allowed s.world (go_change shape (s.stands i) (s.stands i).section next (seen o.op s.memory))
  going i told (phase.Look next) o li at offers = looking (is_calm (s.stands i).section) next (seen o.op s.memory) (ap (λ (k : Offer). seen k.op s.memory) (sym (same-offer (look_offer next) o offers)))
  going i told (phase.Add next) o li at offers = adding i next (seen o.op s.memory) li at
  going i told phase.Idle o li at offers = tt
  going i told phase.Entering o li at offers = enters (s.stands i).section
    where
      enters : (section : Section) → Allowed s.world (entering_change section)
      enters section = grind (arith, nat_tests)
  going i told (phase.Advancing epoch other) o li at offers = grind (arith, nat_tests)
  going i told (phase.Ready epoch) o li at offers = grind (arith, nat_tests)
  going i told (phase.Remove next) o li at offers = grind (arith, nat_tests)
  going i told (phase.Scan next) o li at offers = grind (arith, nat_tests)
  going i told (phase.Begin next) o li at offers = grind (arith, nat_tests)
  going i told (phase.Finish next) o li at offers = grind (arith, nat_tests)
  going i told (phase.Cancel next) o li at offers = grind (arith, nat_tests)
  going i told (phase.Survey next) o li at offers = grind (arith, nat_tests)

  -- what is held is an object of the world, and its fields are those of its slot
  held_word : (i slot f : ℕ) (n : Number) → i < shape.passes → held_slot (s.stands i).held n ≡ Some slot → f < width_of shape n.coll → word_of s.world n f ≡ Some (field_in s.memory n.coll slot f)
  held_word i slot f n li hd lt = e.records.held_record i n.coll n.incarnation n.entry slot f li hd lt

  -- it is in a slot of the region
  within : (i slot : ℕ) (n : Number) → i < shape.passes → held_slot (s.stands i).held n ≡ Some slot → slot < slots_of shape n.coll
  within i slot n li hd = (held-in shape (s.stands i).held n slot (e.whole.ranges.stands i li).held hd).1

  -- a collection with a slot has a field
  wide : (coll slot : ℕ) → slot < slots_of shape coll → 0 < width_of shape coll
  wide coll slot lt = (valid.coll coll (slot_coll shape coll slot lt)).some_width

  -- it was given
  held_given : (i slot : ℕ) (n : Number) → i < shape.passes → held_slot (s.stands i).held n ≡ Some slot → IsSome (object_of s.world n)
  held_given i slot n li hd = some (object_of s.world n) (held_word i slot 0 n li hd (wide n.coll slot (within i slot n li hd)))
    where
      some : (o : Option Object) → option_and_then (λ (x : Object). slice_get x.words 0) o ≡ Some (field_in s.memory n.coll slot 0) → IsSome o
      some None q = absurd (cc)
      some (Some object) q = refl

  -- a remove is the first exactly where the object is present
  removing : (i slot : ℕ) (n : Number) → i < shape.passes → held_slot (s.stands i).held n ≡ Some slot → (b : Bool) → is_gone (state_for s.memory n) ≡ b
      → Allowed s.world (if b then tells (event.Remove n false) done.Late else goes_telling (event.Remove n true) (phase.Remove (remove.LeaveSlot slot n)))
  removing i slot n li hd true t = (held_given i slot n li hd, sym (e.records.is_here n.coll n.incarnation n.entry ∙ gone-absent n.incarnation (state_for s.memory n) t))
  removing i slot n li hd false t =
      (held_given i slot n li hd, sym (e.records.is_here n.coll n.incarnation n.entry ∙ here-present (epoch_of (s.stands i).section) n.incarnation slot (state_for s.memory n) (held_place opening shape s e i slot n li hd).entry t))

  -- the first step of a call
  starting : (i told : ℕ) (section : Section) (next : Call) (o : Offer) → i < shape.passes → (s.stands i).section ≡ section → start_offer shape i (s.stands i) section next ≡ Some o
      → Allowed s.world (start_change shape i (s.stands i) section next told (seen o.op s.memory))
  starting i told (Inside x cm) (call.Look n) o li at offers = go (has_place shape (place.Entry n.coll n.entry)) refl (same-offer (look_start shape i n) o offers)
    where
      go : (b : Bool) → has_place shape (place.Entry n.coll n.entry) ≡ b → (if b then look_offer (look.Load seeker.Caller n) else step kind.LoadSection (Load (place.Section i))) ≡ o
          → Allowed s.world (if b then looking_change shape cm (look.Load seeker.Caller n) (seen o.op s.memory) else tells (event.Look n false) done.Null)
      go true t same = looking cm (look.Load seeker.Caller n) (seen o.op s.memory) (ap (λ (k : Offer). seen k.op s.memory) (sym same))
      go false t same = sym (ap (λ (object : Option Object). option_map_or (λ (x : Object). x.present) object false) (e.records.no_others n.coll n.incarnation n.entry (not-below n.entry (entries_of shape n.coll) t)))
  starting i told Outside (call.Look n) o li at offers = absurd (cc)
  starting i told (Loaded v) (call.Look n) o li at offers = absurd (cc)
  starting i told (Announced v) (call.Look n) o li at offers = absurd (cc)
  starting i told (Again v z) (call.Look n) o li at offers = absurd (cc)
  starting i told (Lasting z) (call.Look n) o li at offers = absurd (cc)
  starting i told section (call.Read n f) o li at offers =
      let (slot, hd, there) = by_held section (held_slot (s.stands i).held n) (λ slot. when (nat_lt f (width_of shape n.coll)) (step kind.LoadField (Load (place.Field n.coll slot f)))) o offers in
      let (t, same) = by_test (nat_lt f (width_of shape n.coll)) (step kind.LoadField (Load (place.Field n.coll slot f))) o there in
      subst (λ (k : Offer). word_of s.world n f ≡ Some (plain_of (seen k.op s.memory))) same (held_word i slot f n li hd (is-below f (width_of shape n.coll) t))
  starting i told section (call.Write n f w) o li at offers =
      let (slot, hd, there) = by_held section (held_slot (s.stands i).held n) (λ slot. when (nat_lt f (width_of shape n.coll) && is_value w) (step kind.WriteField (Store (place.Field n.coll slot f) (word.Plain w)))) o offers in
      let (t, same) = by_test (nat_lt f (width_of shape n.coll) && is_value w) (step kind.WriteField (Store (place.Field n.coll slot f) (word.Plain w))) o there in
      let lt : f < width_of shape n.coll = grind (arith, nat_tests, t) in
      let value : w < BLANK = grind (arith, nat_tests, t) in
      (ap is_some (held_word i slot f n li hd lt), λ blank. omega (arith, blank, value))
  starting i told section (call.Remove n) o li at offers =
      let (slot, hd, there) = by_held section (held_slot (s.stands i).held n) (λ slot. Some (step kind.MarkGone (MarkGone n.coll n.entry))) o offers in
      subst (λ (found : Option ℕ). Allowed s.world (remove_started n found (state_of (seen o.op s.memory)))) (sym hd)
      (subst (λ (k : Offer). Allowed s.world (mark_seen n slot (state_of (seen k.op s.memory)))) (same-offer (step kind.MarkGone (MarkGone n.coll n.entry)) o there)
      (removing i slot n li hd (is_gone (state_for s.memory n)) refl))
  starting i told section call.Enter o li at offers = tt
  starting i told section call.Leave o li at offers = tt
  starting i told section call.Advance o li at offers = grind (arith, nat_tests)
  starting i told section (call.Add c k ws) o li at offers = grind (arith, nat_tests)
  starting i told section (call.Scan c) o li at offers = tt
  starting i told section (call.Next k) o li at offers = next-told shape s.world (scan_of (s.stands i).scans k) (seen o.op s.memory)
  starting i told section (call.Begin c) o li at offers = grind (arith, nat_tests)
  starting i told section call.Finish o li at offers = grind (arith, nat_tests)
  starting i told section call.Cancel o li at offers = grind (arith, nat_tests)
  starting i told section (call.Survey c) o li at offers = grind (arith, nat_tests)
  starting i told section call.Note o li at offers = tt
  starting i told section (call.Learn k z) o li at offers = tt

  -- what an offered step tells may happen
  pub allowed : (i told : ℕ) (choice : Choice) (o : Offer) → i < shape.passes → stand_offer shape i (s.stands i) choice ≡ Some o
      → IfSome (stand_change shape i (s.stands i) choice told (seen o.op s.memory)).event (IsAllowed s.world)
  allowed i told Go o li offers = going i told (s.stands i).phase o li refl offers
  allowed i told (Start next) o li offers = idle (s.stands i).phase offers
    where
      idle : (phase : Phase) → when_idle phase (start_offer shape i (s.stands i) (s.stands i).section next) ≡ Some o
          → IfSome (start_change shape i (s.stands i) (s.stands i).section next told (seen o.op s.memory)).event (IsAllowed s.world)
      idle phase.Idle offers = starting i told (s.stands i).section next o li refl offers
      idle phase.Entering offers = absurd (cc)
      idle (phase.Advancing epoch other) offers = absurd (cc)
      idle (phase.Ready epoch) offers = absurd (cc)
      idle (phase.Look y) offers = absurd (cc)
      idle (phase.Add y) offers = absurd (cc)
      idle (phase.Remove y) offers = absurd (cc)
      idle (phase.Scan y) offers = absurd (cc)
      idle (phase.Begin y) offers = absurd (cc)
      idle (phase.Finish y) offers = absurd (cc)
      idle (phase.Cancel y) offers = absurd (cc)
      idle (phase.Survey y) offers = absurd (cc)
