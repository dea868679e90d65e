-- What a section holds keeps its place, and nobody claims it.
use Rattle.std.proofs.Common.{◌≡◌, ◌≢◌, ◌⊎◌, ℕ, ◌<◌, ◌==◌, Bool, true, false, Some, refl, sym, ap, subst, inl, inr, arith}
use Rattle.std.proofs.lemmas.Bool.Decides.{nat_tests}
use Rattle.smc_words.specs.declared.dir.Dir.{Dir}
use Rattle.smc_words.specs.declared.dir.Dir.TheVariants as dir
use Rattle.smc_words.specs.declared.number.Number.{Number}
use Rattle.smc_shape.specs.Layout.{Layout}
use Rattle.smc_core.specs.declared.call.Call.{Call}
use Rattle.smc_core.specs.declared.call.Call.TheVariants as call
use Rattle.smc_core.specs.declared.call.Choice.TheVariants.{Start, Go}
use Rattle.smc_core.specs.declared.local.Opening.{Opening}
use Rattle.smc_core.specs.declared.op.Offer.{Offer}
use Rattle.smc_core.specs.declared.phase.Phase.{Phase}
use Rattle.smc_core.specs.declared.phase.Phase.TheVariants as phase
use Rattle.smc_core.specs.declared.section.Section.{Section}
use Rattle.smc_core.specs.declared.section.Section.TheVariants.{Outside, Loaded, Announced, Again, Lasting, Inside}
use Rattle.smc_shape.specs.declared.place.Place.TheVariants as place
use Rattle.smc_core.specs.declared.done.Done.TheVariants as done
use Rattle.smc_core.specs.declared.kind.Kind.TheVariants as kind
use Rattle.smc_core.specs.declared.op.Op.TheVariants.{Load}
use Rattle.smc_core.specs.Row.{has_place}
use Rattle.smc_model.specs.declared.event.Event.TheVariants as event
use Rattle.smc_core.specs.Change.{go_change, start_change}
use Rattle.smc_core.specs.Offer.{go_offer, start_offer, look_start, when_idle}
use Rattle.smc_core.specs.Section.{entering_change}
use Rattle.smc_core.specs.declared.phase.objects.CopyPhase.TheVariants as copy
use Rattle.smc_core.specs.declared.local.Held.{Held}
use Rattle.smc_core.specs.declared.phase.objects.Finding.{Finding}
use Rattle.smc_core.specs.declared.phase.objects.Seeker.{Seeker}
use Rattle.smc_core.specs.declared.phase.objects.Seeker.TheVariants as seeker
use Rattle.smc_core.specs.declared.phase.objects.Finding.TheVariants.{Absent, Stays, Abandons, Helps}
use Rattle.smc_core.specs.declared.phase.objects.LookPhase.{LookPhase}
use Rattle.smc_core.specs.declared.phase.objects.LookPhase.TheVariants as look
use Rattle.smc_core.specs.declared.word.State as E
use Rattle.smc_core.specs.declared.word.State.TheVariants as state
use Rattle.smc_core.specs.declared.word.Word.{Word}
use Rattle.smc_core.specs.declared.word.Word.TheVariants as word
use Rattle.std.specs.Prelude.{if◌then◌else◌}
use Rattle.smc_core.specs.Look.{sought_number, seeker_of, find, find_after_abandon, find_after_swing, look_finding, look_change, looking_change, look_offer, visits, passes}
use Rattle.smc_core.specs.Section.{epoch_of, is_calm}
use Rattle.smc_core.specs.Step.{goes, step, tells}
use Rattle.smc_rules.specs.Memory.{seen}
use Rattle.smc_core.specs.Words.{state_of, same_word}
use Rattle.smc_rules.specs.Reads.{state_for, dir_in, forward_in}
use Rattle.smc_rules.specs.RelocationRule.{Holds, MayBeRead, IsLeft, IsStillOf}
use Rattle.smc_rules.specs.State.{State}
use Rattle.smc_agreement.specs.Entries.{present_at, IsHeldEntry}
use Rattle.smc_agreement.proofs.Whole.{copies, objects}
use Rattle.smc_laws.specs.Laws.{LeavesAlone, KeepsPlaces}
use Rattle.smc_laws.proofs.Everything.{Everything}
use Rattle.smc_laws.proofs.MoveLaws as M

-- a slot that may be read, or is left, is not claimed
readable-unclaimed : (x : ℕ) (d : Dir) → MayBeRead x d → d ≢ dir.Claimed
readable-unclaimed x dir.Valid r is = cc
readable-unclaimed x dir.Incoming r is = cc
readable-unclaimed x (dir.Limbo stamp) r is = cc
readable-unclaimed x dir.Free r is = r
readable-unclaimed x dir.Claimed r is = r

left-unclaimed : (x : ℕ) (d : Dir) → IsLeft x d → d ≢ dir.Claimed
left-unclaimed x dir.Valid r is = cc
left-unclaimed x (dir.Limbo stamp) r is = cc
left-unclaimed x dir.Incoming r is = r
left-unclaimed x dir.Free r is = r
left-unclaimed x dir.Claimed r is = r

still-unclaimed : (x a slot b : ℕ) (w : E.State) → IsStillOf x a slot w → w ≢ state.Claimed b
still-unclaimed x a slot b (state.Claimed own) k is = k
still-unclaimed x a slot b (state.Free last stamp) k is = cc
still-unclaimed x a slot b (state.Present own there) k is = cc
still-unclaimed x a slot b (state.Frozen own there) k is = cc
still-unclaimed x a slot b (state.Locked own there) k is = cc
still-unclaimed x a slot b (state.Removed own there f l) k is = cc

module _ (opening : Opening) (shape : Layout) (s : State) (e : Everything opening shape s) where
  pub leaves_alone : LeavesAlone shape opening s
  leaves_alone = record {
    held_slot = λ i slot n li hd. let k = M.held_place opening shape s e i slot n li hd in readable-unclaimed _ (dir_in s.memory n.coll slot) k.readable;
    held_entry = λ i slot b n li hd. let k = M.held_place opening shape s e i slot n li hd in still-unclaimed _ n.incarnation slot b (state_for s.memory n) k.entry;
    source = λ i c li is. left-unclaimed _ (dir_in s.memory c.number.coll c.source) ((copies (M.h opening shape s e)).j_left i c.number.coll c.number.incarnation c.number.entry c.source c.next li is);
    target = λ i c li is. readable-unclaimed _ (dir_in s.memory c.number.coll (forward_in s.memory c.number.coll c.source))
        ((copies (M.h opening shape s e)).j_for i c.number.coll c.number.incarnation c.number.entry c.source c.next li is);
  }

-- an object that a step finds in a slot was present there, or locked elsewhere
find-present : (cm : Bool) (a there : ℕ) (w : E.State) → find cm a w ≡ Stays there → present_at w ≡ Some (a, there)
find-present cm a there (state.Present own q) is = grind (arith, nat_tests, is)
find-present cm a there (state.Frozen own q) is = grind (arith, nat_tests, is)
find-present cm a there (state.Locked own q) is = grind (arith, nat_tests, is)
find-present cm a there (state.Removed own q f l) is = absurd (cc)
find-present cm a there (state.Free last stamp) is = absurd (cc)
find-present cm a there (state.Claimed own) is = absurd (cc)

abandon-present : (a there : ℕ) (w : E.State) → find_after_abandon a w ≡ Stays there → present_at w ≡ Some (a, there)
abandon-present a there (state.Present own q) is = grind (arith, nat_tests, is)
abandon-present a there (state.Frozen own q) is = grind (arith, nat_tests, is)
abandon-present a there (state.Locked own q) is = absurd (grind (arith, nat_tests, is))
abandon-present a there (state.Removed own q f l) is = absurd (cc)
abandon-present a there (state.Free last stamp) is = absurd (cc)
abandon-present a there (state.Claimed own) is = absurd (cc)

swing-present : (a there : ℕ) (w : E.State) → find_after_swing a w ≡ Stays there → present_at w ≡ Some (a, there)
swing-present a there (state.Present own q) is = grind (arith, nat_tests, is)
swing-present a there (state.Frozen own q) is = grind (arith, nat_tests, is)
swing-present a there (state.Locked own q) is = grind (arith, nat_tests, is)
swing-present a there (state.Removed own q f l) is = absurd (cc)
swing-present a there (state.Free last stamp) is = absurd (cc)
swing-present a there (state.Claimed own) is = absurd (cc)

-- the state says that the object is present in the slot, or that it is locked
abbrev WasFound : ℕ → ℕ → E.State → Type 0
WasFound a there w = (present_at w ≡ Some (a, there)) ⊎ ((q : ℕ) × (w ≡ state.Locked a q))

looked : (shape : Layout) (cm : Bool) (next : LookPhase) (w : Word) (there : ℕ) → look_finding shape cm next w ≡ Stays there
    → WasFound (sought_number next).incarnation there (state_of w)
looked shape cm (look.Load who n) w there is = inl (find-present cm n.incarnation there (state_of w) is)
looked shape cm (look.Abandon who n q) w there is = go (same_word w (word.Entry (state.Frozen n.incarnation q))) refl is
  where
    go : (b : Bool) → same_word w (word.Entry (state.Frozen n.incarnation q)) ≡ b → (if b then Stays q else find_after_abandon n.incarnation (state_of w)) ≡ Stays there → WasFound n.incarnation there (state_of w)
    go true t e = inl (grind (arith, nat_tests, t, e))
    go false t e = inl (abandon-present n.incarnation there (state_of w) e)
looked shape cm (look.Help who n q copy.Target) w there is = absurd (cc)
looked shape cm (look.Help who n q (copy.Load t f)) w there is = absurd (cc)
looked shape cm (look.Help who n q (copy.Put t f v)) w there is = absurd (cc)
looked shape cm (look.Help who n q (copy.Swing t)) w there is = go (same_word w (word.Entry (state.Locked n.incarnation q))) refl is
  where
    go : (b : Bool) → same_word w (word.Entry (state.Locked n.incarnation q)) ≡ b → (if b then Stays t else find_after_swing n.incarnation (state_of w)) ≡ Stays there → WasFound n.incarnation there (state_of w)
    go true x e = inr (q, grind (arith, nat_tests, x))
    go false x e = inl (swing-present n.incarnation there (state_of w) e)

same-pair : (h k : Held) → Some h ≡ Some k → h ≡ k
same-pair h k is = cc

held-parts : (h k : Held) → Some h ≡ Some k → (k.number ≡ h.number) × (Stays h.slot ≡ Stays k.slot)
held-parts h k is = let both = same-pair h k is in (sym (ap (λ (h : Held). h.number) both), ap (λ (h : Held). Stays h.slot) both)

same-offer : (a b : Offer) → Some a ≡ Some b → a ≡ b
same-offer a b is = cc

-- a look-up's step holds only what it finds
look-holds : (shape : Layout) (who : Seeker) (n : Number) (found : Finding) (m : Number) (there : ℕ)
    → (look_change shape who n found).holds ≡ Some (record { number = m; slot = there }) → (m ≡ n) × (found ≡ Stays there)
look-holds shape seeker.Caller n Absent m there is = absurd (cc)
look-holds shape seeker.Caller n (Stays slot) m there is = held-parts (record { number = n; slot = slot }) (record { number = m; slot = there }) is
look-holds shape seeker.Caller n (Abandons slot) m there is = absurd (cc)
look-holds shape seeker.Caller n (Helps slot copy) m there is = absurd (cc)
look-holds shape (seeker.Scan k c t) n Absent m there is = absurd (cc)
look-holds shape (seeker.Scan k c t) n (Stays slot) m there is = go (slot == t) is
  where
    go : (b : Bool) → (if b then visits k n slot else goes (passes shape k c t)).holds ≡ Some (record { number = m; slot = there }) → (m ≡ n) × (Stays slot ≡ Stays there)
    go true e = held-parts (record { number = n; slot = slot }) (record { number = m; slot = there }) e
    go false e = absurd (cc)
look-holds shape (seeker.Scan k c t) n (Abandons slot) m there is = absurd (cc)
look-holds shape (seeker.Scan k c t) n (Helps slot copy) m there is = absurd (cc)

module _ (opening : Opening) (shape : Layout) (s : State) (e : Everything opening shape s) where
  -- what a section holds is where it was found
  same_place : (i slot there : ℕ) (n : Number) → i < shape.passes → Holds (s.stands i) n slot → WasFound n.incarnation there (state_for s.memory n) → there ≡ slot
  same_place i slot there n li hd found =
      go (state_for s.memory n) (M.held-epoch s (s.stands i).section n.coll n.incarnation n.entry slot ((objects (M.h opening shape s e)).held i n.coll n.incarnation n.entry slot li hd)).2 found
    where
      go : (w : E.State) → IsHeldEntry (epoch_of (s.stands i).section) n.incarnation slot (dir_in s.memory n.coll slot) w → WasFound n.incarnation there w → there ≡ slot
      go (state.Present own q) k (inl f) = grind (arith, k, f)
      go (state.Frozen own q) k (inl f) = grind (arith, k, f)
      go (state.Removed own q g l) k (inl f) = absurd (cc)
      go (state.Free last stamp) k (inl f) = absurd (cc)
      go (state.Locked own q) k f = absurd k
      go (state.Claimed own) k f = absurd k
      go (state.Present own q) k (inr f) = let no = f.1 in absurd (cc)
      go (state.Frozen own q) k (inr f) = let no = f.1 in absurd (cc)
      go (state.Removed own q g l) k (inr f) = let no = f.1 in absurd (cc)
      go (state.Free last stamp) k (inr f) = let no = f.1 in absurd (cc)

  finds_there : (i slot there : ℕ) (number : Number) (next : LookPhase) (w : Word) → i < shape.passes → Holds (s.stands i) number slot
      → w ≡ seen (look_offer next).op s.memory
      → (looking_change shape (is_calm (s.stands i).section) next w).holds ≡ Some (record { number = number; slot = there }) → there ≡ slot
  finds_there i slot there number next w li hd shown is =
      let both = look-holds shape (seeker_of next) (sought_number next) (look_finding shape (is_calm (s.stands i).section) next w) number there is in
      let found : WasFound (sought_number next).incarnation there (state_of w) = looked shape (is_calm (s.stands i).section) next w there both.1 in
      same_place i slot there (sought_number next) li (subst (λ (n : Number). Holds (s.stands i) n slot) both.0 hd) (entry next both.1 (subst (λ (v : Word). WasFound (sought_number next).incarnation there (state_of v)) shown found))
    where
      entry : (next : LookPhase) → look_finding shape (is_calm (s.stands i).section) next w ≡ Stays there → WasFound (sought_number next).incarnation there (state_of (seen (look_offer next).op s.memory))
          → WasFound (sought_number next).incarnation there (state_for s.memory (sought_number next))
      entry (look.Load who n) f k = k
      entry (look.Abandon who n q) f k = k
      entry (look.Help who n q copy.Target) f k = absurd (cc)
      entry (look.Help who n q (copy.Load t g)) f k = absurd (cc)
      entry (look.Help who n q (copy.Put t g v)) f k = absurd (cc)
      entry (look.Help who n q (copy.Swing t)) f k = k

  -- no other step finds an object
  going : (i slot there told : ℕ) (number : Number) (next : Phase) (o : Offer) → i < shape.passes → Holds (s.stands i) number slot
      → go_offer i (s.stands i) (s.stands i).section next ≡ Some o
      → (go_change shape (s.stands i) (s.stands i).section next (seen o.op s.memory)).holds ≡ Some (record { number = number; slot = there }) → there ≡ slot
  going i slot there told number (phase.Look next) o li hd offers is = finds_there i slot there number next (seen o.op s.memory) li hd (ap (λ (k : Offer). seen k.op s.memory) (sym (same-offer (look_offer next) o offers))) is
  going i slot there told number phase.Idle o li hd offers is = absurd (cc)
  going i slot there told number phase.Entering o li hd offers is = absurd (enters (s.stands i).section is)
    where
      enters : (section : Section) → (entering_change section).holds ≡ Some (record { number = number; slot = there }) → ⊥
      enters section is = grind (arith, nat_tests, is)
  going i slot there told number (phase.Advancing epoch other) o li hd offers is = absurd (grind (arith, nat_tests, is))
  going i slot there told number (phase.Ready epoch) o li hd offers is = absurd (grind (arith, nat_tests, is))
  going i slot there told number (phase.Add next) o li hd offers is = absurd (grind (arith, nat_tests, is))
  going i slot there told number (phase.Remove next) o li hd offers is = absurd (grind (arith, nat_tests, is))
  going i slot there told number (phase.Scan next) o li hd offers is = absurd (grind (arith, nat_tests, is))
  going i slot there told number (phase.Begin next) o li hd offers is = absurd (grind (arith, nat_tests, is))
  going i slot there told number (phase.Finish next) o li hd offers is = absurd (grind (arith, nat_tests, is))
  going i slot there told number (phase.Cancel next) o li hd offers is = absurd (grind (arith, nat_tests, is))
  going i slot there told number (phase.Survey next) o li hd offers is = absurd (grind (arith, nat_tests, is))

  -- nor does the first step of another call
  starting : (i slot there told : ℕ) (number : Number) (section : Section) (next : Call) (o : Offer) → i < shape.passes → (s.stands i).section ≡ section → Holds (s.stands i) number slot
      → start_offer shape i (s.stands i) section next ≡ Some o
      → (start_change shape i (s.stands i) section next told (seen o.op s.memory)).holds ≡ Some (record { number = number; slot = there }) → there ≡ slot
  starting i slot there told number (Inside x cm) (call.Look n) o li at hd offers is =
      go (has_place shape (place.Entry n.coll n.entry)) (same-offer (look_start shape i n) o offers) is
    where
      go : (b : Bool) → (if b then look_offer (look.Load seeker.Caller n) else step kind.LoadSection (Load (place.Section i))) ≡ o
          → (if b then looking_change shape cm (look.Load seeker.Caller n) (seen o.op s.memory) else tells (event.Look n false) done.Null).holds ≡ Some (record { number = number; slot = there }) → there ≡ slot
      go true same e = finds_there i slot there number (look.Load seeker.Caller n) (seen o.op s.memory) li hd (ap (λ (k : Offer). seen k.op s.memory) (sym same))
          (subst (λ (z : Section). (looking_change shape (is_calm z) (look.Load seeker.Caller n) (seen o.op s.memory)).holds ≡ Some (record { number = number; slot = there })) (sym at) e)
      go false same e = absurd (cc)
  starting i slot there told number Outside (call.Look n) o li at hd offers is = absurd (cc)
  starting i slot there told number (Loaded v) (call.Look n) o li at hd offers is = absurd (cc)
  starting i slot there told number (Announced v) (call.Look n) o li at hd offers is = absurd (cc)
  starting i slot there told number (Again v z) (call.Look n) o li at hd offers is = absurd (cc)
  starting i slot there told number (Lasting z) (call.Look n) o li at hd offers is = absurd (cc)
  starting i slot there told number section call.Enter o li at hd offers is = absurd (grind (arith, nat_tests, is))
  starting i slot there told number section call.Leave o li at hd offers is = absurd (grind (arith, nat_tests, is))
  starting i slot there told number section call.Advance o li at hd offers is = absurd (grind (arith, nat_tests, is))
  starting i slot there told number section (call.Add c k ws) o li at hd offers is = absurd (grind (arith, nat_tests, is))
  starting i slot there told number section (call.Read n f) o li at hd offers is = absurd (grind (arith, nat_tests, is))
  starting i slot there told number section (call.Write n f w) o li at hd offers is = absurd (grind (arith, nat_tests, is))
  starting i slot there told number section (call.Remove n) o li at hd offers is = absurd (grind (arith, nat_tests, is))
  starting i slot there told number section (call.Scan c) o li at hd offers is = absurd (grind (arith, nat_tests, is))
  starting i slot there told number section (call.Next k) o li at hd offers is = absurd (grind (arith, nat_tests, is))
  starting i slot there told number section (call.Begin c) o li at hd offers is = absurd (grind (arith, nat_tests, is))
  starting i slot there told number section call.Finish o li at hd offers is = absurd (grind (arith, nat_tests, is))
  starting i slot there told number section call.Cancel o li at hd offers is = absurd (grind (arith, nat_tests, is))
  starting i slot there told number section (call.Survey c) o li at hd offers is = absurd (grind (arith, nat_tests, is))
  starting i slot there told number section call.Note o li at hd offers is = absurd (grind (arith, nat_tests, is))
  starting i slot there told number section (call.Learn k z) o li at hd offers is = absurd (grind (arith, nat_tests, is))

  pub keeps_places : KeepsPlaces shape opening s
  keeps_places i Go o told slot there number li offers hd is = going i slot there told number (s.stands i).phase o li hd offers is
  keeps_places i (Start next) o told slot there number li offers hd is = idle (s.stands i).phase offers
    where
      idle : (phase : Phase) → when_idle phase (start_offer shape i (s.stands i) (s.stands i).section next) ≡ Some o → there ≡ slot
      idle phase.Idle offers = starting i slot there told number (s.stands i).section next o li refl hd offers is
      idle phase.Entering offers = absurd (cc)
      idle (phase.Advancing epoch other) offers = absurd (cc)
      idle (phase.Ready epoch) offers = absurd (cc)
      idle (phase.Look y) offers = absurd (cc)
      idle (phase.Add y) offers = absurd (cc)
      idle (phase.Remove y) offers = absurd (cc)
      idle (phase.Scan y) offers = absurd (cc)
      idle (phase.Begin y) offers = absurd (cc)
      idle (phase.Finish y) offers = absurd (cc)
      idle (phase.Cancel y) offers = absurd (cc)
      idle (phase.Survey y) offers = absurd (cc)
