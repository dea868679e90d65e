-- No answer names an epoch that is still to come.
use Rattle.std.proofs.Common.{◌≡◌, ℕ, ◌+◌, ◌<◌, ◌≤◌, Bool, true, false, Option, Some, None, List, [], ◌∷◌, ◌++◌, length, refl, sym, ap, ◌∙◌, subst, arith}
use Rattle.std.specs.Prelude.{IfSome, IsTrue, max, not, slice_get, slice_index, nat_lt, nat_le, ◌&&◌, ◌==◌, if◌then◌else◌}
use Rattle.std.proofs.lemmas.Bool.{cond_both}
use Rattle.std.proofs.lemmas.Bool.Decides.{nat_tests}
use Rattle.std.proofs.lemmas.Option.{slice_get_within}
use Rattle.smc_words.specs.declared.number.Number.{Number}
use Rattle.smc_shape.specs.Layout.{Layout, width_of}
use Rattle.smc_core.specs.declared.call.Call.{Call}
use Rattle.smc_core.specs.declared.call.Call.TheVariants as call
use Rattle.smc_core.specs.declared.call.Choice.{Choice}
use Rattle.smc_core.specs.declared.call.Choice.TheVariants.{Start, Go}
use Rattle.smc_core.specs.declared.local.Scan.{Scan}
use Rattle.smc_core.specs.declared.local.Stand.{Stand}
use Rattle.smc_core.specs.declared.op.Offer.{Offer}
use Rattle.smc_core.specs.declared.phase.Phase.{Phase}
use Rattle.smc_core.specs.declared.phase.Phase.TheVariants as phase
use Rattle.smc_core.specs.declared.phase.moves.BeginPhase.{BeginPhase}
use Rattle.smc_core.specs.declared.phase.moves.CancelPhase.{CancelPhase}
use Rattle.smc_core.specs.declared.phase.moves.CountPhase.{CountPhase}
use Rattle.smc_core.specs.declared.phase.moves.FinishPhase.{FinishPhase}
use Rattle.smc_core.specs.declared.phase.objects.AddPhase.{AddPhase}
use Rattle.smc_core.specs.declared.phase.objects.Finding.{Finding}
use Rattle.smc_core.specs.declared.phase.objects.LookPhase.{LookPhase}
use Rattle.smc_core.specs.declared.phase.objects.RemovePhase.{RemovePhase}
use Rattle.smc_core.specs.declared.phase.objects.ScanPhase.{ScanPhase}
use Rattle.smc_core.specs.declared.phase.objects.Seeker.{Seeker}
use Rattle.smc_core.specs.declared.section.Section.{Section}
use Rattle.smc_core.specs.declared.section.Section.TheVariants.{Outside, Loaded, Announced, Again, Lasting, Inside}
use Rattle.smc_core.specs.declared.word.Word.{Word}
use Rattle.smc_core.specs.declared.word.Word.TheVariants as word
use Rattle.smc_core.specs.Add.{is_value, takes, add_offer}
use Rattle.smc_core.specs.Begin.{begin_offer}
use Rattle.smc_core.specs.Cancel.{cancel_offer}
use Rattle.smc_core.specs.Count.{count_offer}
use Rattle.smc_core.specs.Finish.{finish_offer, is_early}
use Rattle.smc_core.specs.Look.{look_offer, look_finding, seeker_of}
use Rattle.smc_core.specs.Offer.{go_offer, start_offer, offer, held_slot}
use Rattle.smc_core.specs.Remove.{remove_offer}
use Rattle.smc_core.specs.Row.{has_place}
use Rattle.smc_core.specs.Scan.{scan_offer, is_over, scan_of}
use Rattle.smc_core.specs.Section.{epoch_of, is_calm}
use Rattle.smc_shape.specs.declared.place.Place.{Place}
use Rattle.smc_shape.specs.declared.place.Place.TheVariants as place
use Rattle.smc_rules.proofs.OfferLaws.{if_idle, if_outside, if_inside, if_test, if_held, if_begun, if_owned}
use Rattle.smc_words.specs.declared.dir.Dir.{Dir}
use Rattle.smc_core.specs.declared.change.Change.{Change}
use Rattle.smc_core.specs.declared.done.Done.{Done}
use Rattle.smc_core.specs.declared.done.Done.TheVariants as done
use Rattle.smc_core.specs.declared.local.Answer.{Answer}
use Rattle.smc_core.specs.declared.local.Local.{Local}
use Rattle.smc_core.specs.declared.local.Owned.{Owned}
use Rattle.smc_core.specs.declared.op.Op.{Op}
use Rattle.smc_core.specs.declared.op.Op.TheVariants.{Load, Store, Exchange, MarkGone}
use Rattle.smc_core.specs.declared.phase.moves.Counting.{Counting}
use Rattle.smc_core.specs.declared.word.State.{State}
use Rattle.smc_core.specs.Add.{add_change, slot_seen, entry_seen}
use Rattle.smc_core.specs.Begin.{begin_change}
use Rattle.smc_core.specs.Cancel.{cancel_change}
use Rattle.smc_core.specs.Change.{change, go_change, start_change, section_seen, ready_seen, remove_started, next_started, finish_owned, cancel_owned, look_started}
use Rattle.smc_core.specs.Count.{counting, survey_change}
use Rattle.smc_core.specs.Finish.{finish_change}
use Rattle.smc_core.specs.Local.{after, answered}
use Rattle.smc_core.specs.Look.{look_change, looking_change, sought_number}
use Rattle.smc_core.specs.Remove.{remove_change}
use Rattle.smc_core.specs.Scan.{scan_change, next_change}
use Rattle.smc_core.specs.Section.{entering_change, entering_offer}
use Rattle.smc_core.specs.Words.{plain_of, same_word}
use Rattle.smc_model.specs.World.{World, empty_world}
use Rattle.smc_rules.specs.History.{History, history_state}
use Rattle.smc_rules.specs.Memory.{Memory, apply, same_place, seen}
use Rattle.smc_rules.specs.EpochRule.{own_epoch}
use Rattle.smc_rules.specs.Reads.{epoch_of_region}
use Rattle.smc_rules.proofs.MirrorLaws.{apply-other, same_word-eq}
use Rattle.smc_core.specs.Step.{ends}
use Rattle.smc_core.specs.Machine.{Machine, Leads, Steps, started}
use Rattle.smc_core.specs.Row.{Suits, packed, row_after, row_shows}
use Rattle.smc_core.specs.Local.{fresh}
use Rattle.smc_shape.specs.Layout.{IsShape}
use Rattle.smc_shape.specs.Places.{at}
use Rattle.smc_core.specs.declared.local.Opening.{Opening}
use Rattle.smc_rules.specs.Mirror.{IsMirrored, MirrorsAt, anywhere}
use Rattle.smc_rules.proofs.MirrorLaws.{mirrored}
use Rattle.smc_inv_epoch.proofs.EveryList.{rule-then}
use Rattle.smc_inv_range.proofs.ReachLaws.{offered_fits, ranges_then}
use Rattle.smc_region.specs.Reached.{Saw}
use Rattle.smc_region.specs.Views.{one}
use Rattle.smc_region.proofs.CursorLaws.{copies-are, set-all}
use Rattle.smc_region.proofs.StepLaws.{history-then, some-same, was}
use Rattle.smc_region.specs.Named.{latest, named, named_in}

-- whether a place is that of the epoch
abbrev is_epoch : Place → Bool
is_epoch place.Epoch = true
is_epoch _ = false

-- whether an operation leaves the epoch, or moves it on
abbrev raises : Op → Bool
raises (Load there) = true
raises (Store there w) = not (is_epoch there)
raises (Exchange place.Epoch (word.Plain from) (word.Plain to)) = nat_le from to
raises (Exchange there expect w) = not (is_epoch there)
raises (MarkGone coll entry) = true

away : (here : Place) → IsTrue (not (is_epoch here)) → same_place place.Epoch here ≡ false
away here v = grind (arith, nat_tests)

-- the epoch does not fall
pub raised : (op : Op) (memory : Memory) → IsTrue (raises op) → epoch_of_region memory ≤ epoch_of_region (apply op memory)
raised (Load here) memory r = omega arith
raised (Store here w) memory r = let e = ap plain_of (apply-other (Store here w) memory place.Epoch (away here r)) in omega (arith, e)
raised (MarkGone coll entry) memory r = omega arith
raised (Exchange place.Epoch (word.Plain from) (word.Plain to)) memory r =
    cond_both (same_word (memory place.Epoch) (word.Plain from)) (word.Plain to) (memory place.Epoch) (λ w. epoch_of_region memory ≤ plain_of w)
    (λ t. let is : epoch_of_region memory ≡ from = ap plain_of (same_word-eq (memory place.Epoch) (word.Plain from) t) in grind (arith, nat_tests, r, is))
    (λ n. omega arith)
raised (Exchange place.Epoch expect w) memory r = absurd (grind arith)
raised (Exchange here expect w) memory r = let e = ap plain_of (apply-other (Exchange here expect w) memory place.Epoch (away here (grind arith))) in omega (arith, e)

-- a change whose answer names no epoch
abbrev NamesNone : Change → Type 0
NamesNone made = named_in made.answer ≡ 0

module _ (shape : Layout) where
  look-none : (who : Seeker) (number : Number) (finding : Finding) → NamesNone (look_change shape who number finding)
  look-none who number finding = grind arith

  looking-none : (calm : Bool) (next : LookPhase) (w : Word) → NamesNone (looking_change shape calm next w)
  looking-none calm next w = look-none (seeker_of next) (sought_number next) (look_finding shape calm next w)

  look_started-none : (calm : Bool) (number : Number) (w : Word) → NamesNone (look_started shape calm number w)
  look_started-none calm number w = grind (arith, look-none)

  slot_seen-none : (epoch coll from slot tried : ℕ) (seen : Dir) → NamesNone (slot_seen shape epoch coll from slot tried seen)
  slot_seen-none epoch coll from slot tried seen = grind arith

  entry_seen-none : (epoch coll slot entry tried : ℕ) (seen : State) → NamesNone (entry_seen shape epoch coll slot entry tried seen)
  entry_seen-none epoch coll slot entry tried seen = grind arith

  add-none : (epoch : ℕ) (words : List ℕ) (next : AddPhase) (w : Word) → NamesNone (add_change shape epoch words next w)
  add-none epoch words next w = grind (arith, slot_seen-none, entry_seen-none)

  remove-none : (next : RemovePhase) → NamesNone (remove_change next)
  remove-none next = grind arith

  remove_started-none : (number : Number) (held : Option ℕ) (seen : State) → NamesNone (remove_started number held seen)
  remove_started-none number held seen = grind arith

  scan-none : (next : ScanPhase) (w : Word) → NamesNone (scan_change shape next w)
  scan-none next w = grind arith

  next-none : (begun : Scan) (w : Word) → NamesNone (next_change shape begun w)
  next-none begun w = grind (arith, scan-none)

  next_started-none : (begun : Option Scan) (w : Word) → NamesNone (next_started shape begun w)
  next_started-none begun w = grind (arith, next-none)

  survey-none : (now : Counting) → NamesNone (survey_change now)
  survey-none now = grind arith

  begin-none : (epoch : ℕ) (next : BeginPhase) (w : Word) → NamesNone (begin_change shape epoch next w)
  begin-none epoch next w = grind arith

  finish-none : (next : FinishPhase) (w : Word) → NamesNone (finish_change shape next w)
  finish-none next w = grind arith

  finish_owned-none : (epoch : ℕ) (owned : Option Owned) (w : Word) → NamesNone (finish_owned shape epoch owned w)
  finish_owned-none epoch owned w = grind (arith, finish-none)

  cancel-none : (next : CancelPhase) (w : Word) → NamesNone (cancel_change shape next w)
  cancel-none next w = grind arith

  cancel_owned-none : (owned : Option Owned) (w : Word) → NamesNone (cancel_owned shape owned w)
  cancel_owned-none owned w = grind (arith, cancel-none)

  section_seen-none : (epoch other seen : ℕ) → NamesNone (section_seen shape epoch other seen)
  section_seen-none epoch other seen = grind arith

  start-none : (pass : ℕ) (stand : Stand) (section : Section) (call : Call) (told : ℕ) (w : Word) → NamesNone (start_change shape pass stand section call told w)
  start-none pass stand section call told w = grind (arith, slot_seen-none, look_started-none, remove_started-none, next_started-none, finish_owned-none, cancel_owned-none, survey-none)

  -- each operation that a call offers leaves the epoch, or moves it on
  look-raises : (next : LookPhase) → IsTrue (raises (look_offer next).op)
  look-raises next = grind arith

  add-raises : (words : List ℕ) (next : AddPhase) → IsTrue (raises (add_offer words next).op)
  add-raises words next = grind arith

  remove-raises : (epoch : ℕ) (next : RemovePhase) → IsTrue (raises (remove_offer epoch next).op)
  remove-raises epoch next = grind arith

  count-raises : (next : CountPhase) → IsTrue (raises (count_offer next).op)
  count-raises next = grind arith

  scan-raises : (pass : ℕ) (next : ScanPhase) → IsTrue (raises (scan_offer pass next).op)
  scan-raises pass next = grind arith

  begin-raises : (epoch : ℕ) (next : BeginPhase) → IsTrue (raises (begin_offer epoch next).op)
  begin-raises epoch next = grind arith

  finish-raises : (epoch : ℕ) (next : FinishPhase) → IsTrue (raises (finish_offer epoch next).op)
  finish-raises epoch next = grind arith

  cancel-raises : (epoch : ℕ) (next : CancelPhase) → IsTrue (raises (cancel_offer epoch next).op)
  cancel-raises epoch next = grind arith

  abbrev Raises : Offer → Type 0
  Raises o = IsTrue (raises o.op)

  enter-raises : (pass : ℕ) (section : Section) → IfSome (entering_offer pass section) Raises
  enter-raises pass section = grind arith

  go-raises : (pass : ℕ) (stand : Stand) (section : Section) (now : Phase) → IfSome (go_offer pass stand section now) Raises
  go-raises pass stand section phase.Idle = tt
  go-raises pass stand section phase.Entering = enter-raises pass section
  go-raises pass stand section (phase.Advancing epoch other) = refl
  go-raises pass stand section (phase.Ready epoch) = grind (arith, nat_tests)
  go-raises pass stand section (phase.Look next) = look-raises next
  go-raises pass stand section (phase.Add next) = add-raises stand.words next
  go-raises pass stand section (phase.Remove next) = remove-raises (epoch_of section) next
  go-raises pass stand section (phase.Scan next) = scan-raises pass next
  go-raises pass stand section (phase.Begin next) = begin-raises (epoch_of section) next
  go-raises pass stand section (phase.Finish next) = finish-raises (epoch_of section) next
  go-raises pass stand section (phase.Cancel next) = cancel-raises (epoch_of section) next
  go-raises pass stand section (phase.Survey next) = count-raises next

  either : (b : Bool) (o p : Offer) → Raises o → Raises p → Raises (if b then o else p)
  either true o p x y = x
  either false o p x y = y

  start-raises : (pass : ℕ) (stand : Stand) (section : Section) (call : Call) → IfSome (start_offer shape pass stand section call) Raises
  start-raises pass stand section call.Enter = if_outside Raises section _ (λ e. refl)
  start-raises pass stand section call.Leave = if_inside Raises section _ (λ own calm e. refl)
  start-raises pass stand section call.Advance = if_outside Raises section _ (λ e. refl)
  start-raises pass stand section (call.Add coll from words) = if_inside Raises section _ (λ own calm e. if_test Raises (takes shape coll from words) _ (λ t. refl))
  start-raises pass stand section (call.Look number) = if_inside Raises section _ (λ own calm e. either (has_place shape (place.Entry number.coll number.entry)) _ _ refl refl)
  start-raises pass stand section (call.Read number field) = if_inside Raises section _ (λ own calm e. if_held Raises (held_slot stand.held number) _ (λ slot is. if_test Raises (nat_lt field (width_of shape number.coll)) _ (λ t. refl)))
  start-raises pass stand section (call.Write number field value) = if_inside Raises section _ (λ own calm e. if_held Raises (held_slot stand.held number) _ (λ slot is. if_test Raises (nat_lt field (width_of shape number.coll) && is_value value) _ (λ t. refl)))
  start-raises pass stand section (call.Remove number) = if_inside Raises section _ (λ own calm e. if_held Raises (held_slot stand.held number) _ (λ slot is. refl))
  start-raises pass stand section (call.Scan coll) = if_inside Raises section _ (λ own calm e. if_test Raises (nat_lt coll (length shape.colls)) _ (λ t. refl))
  start-raises pass stand section (call.Next number) = if_inside Raises section _ (λ own calm e. if_begun Raises (scan_of stand.scans number) _ (λ begun is. either (is_over shape begun) _ _ refl refl))
  start-raises pass stand section (call.Begin coll) = if_inside Raises section _ (λ own calm e. if_test Raises (nat_lt coll (length shape.colls)) _ (λ t. refl))
  start-raises pass stand section call.Finish = if_inside Raises section _ (λ own calm e. if_owned Raises stand.round _ (λ owned is. either (is_early (epoch_of section) owned.bound) _ _ refl refl))
  start-raises pass stand section call.Cancel = if_inside Raises section _ (λ own calm e. if_owned Raises stand.round _ (λ owned is. refl))
  start-raises pass stand section (call.Survey coll) = if_inside Raises section _ (λ own calm e. if_test Raises (nat_lt coll (length shape.colls)) _ (λ t. refl))
  start-raises pass stand section call.Note = if_outside Raises section _ (λ e. refl)
  start-raises pass stand section (call.Learn other note) = if_outside Raises section _ (λ e. refl)

  pub offers-raise : (pass : ℕ) (stand : Stand) (section : Section) (now : Phase) (choice : Choice) → IfSome (offer shape pass stand section now choice) Raises
  offers-raise pass stand section now Go = go-raises pass stand section now
  offers-raise pass stand section now (Start call) = if_idle Raises now (start_offer shape pass stand section call) (λ e. start-raises pass stand section call)

  -- the answer of a step names no epoch that is past the one behind it
  module _ (pass : ℕ) (stand : Stand) (memory : Memory) (own : (epoch : ℕ) → own_epoch stand.section ≡ Some epoch → epoch ≤ epoch_of_region memory)
      (plain : memory place.Epoch ≡ word.Plain (epoch_of_region memory)) where
    abbrev Named : Choice → ℕ → Offer → Type 0
    Named choice told o = named_in (change shape pass stand stand.section stand.phase choice told (seen o.op memory)).answer ≤ epoch_of_region (apply o.op memory)

    low : (n m : ℕ) → n ≡ 0 → n ≤ m
    low n m e = omega (arith, e)

    enters : (section : Section) (after : ℕ) → stand.section ≡ section → epoch_of_region memory ≤ after → named_in (entering_change section).answer ≤ after
    enters (Lasting epoch) after s up = let le = own epoch (ap own_epoch s) in omega (arith, le, up)
    enters Outside after s up = omega arith
    enters (Loaded seen) after s up = omega arith
    enters (Announced seen) after s up = omega arith
    enters (Again seen epoch) after s up = omega arith
    enters (Inside epoch calm) after s up = omega arith

    either_low : (b : Bool) (n epoch : ℕ) → named_in (if b then ends (done.Advanced (epoch + 1)) else ends (done.Overtaken n)).answer ≤ plain_of (if b then word.Plain (epoch + 1) else word.Plain n)
    either_low true n epoch = omega arith
    either_low false n epoch = omega arith

    ready : (epoch : ℕ) → named_in (ready_seen epoch (plain_of (memory place.Epoch))).answer ≤ plain_of (if same_word (memory place.Epoch) (word.Plain epoch) then word.Plain (epoch + 1) else memory place.Epoch)
    ready epoch = subst (λ (v : Word). named_in (ready_seen epoch (plain_of v)).answer ≤ plain_of (if same_word v (word.Plain epoch) then word.Plain (epoch + 1) else v)) (sym plain)
        (either_low (epoch_of_region memory == epoch) (epoch_of_region memory) epoch)

    pub up : (choice : Choice) (o : Offer) → offer shape pass stand stand.section stand.phase choice ≡ Some o → epoch_of_region memory ≤ epoch_of_region (apply o.op memory)
    up choice o is = raised o.op memory (subst (λ (x : Option Offer). IfSome x Raises) is (offers-raise pass stand stand.section stand.phase choice))

    pub answers-low : (choice : Choice) (told : ℕ) (o : Offer) → offer shape pass stand stand.section stand.phase choice ≡ Some o → Named choice told o
    answers-low (Start call) told o is = low _ _ (start-none pass stand stand.section call told (seen o.op memory))
    answers-low Go told o is = go stand.section stand.phase refl refl is
      where
        go : (section : Section) (now : Phase) → stand.section ≡ section → stand.phase ≡ now → go_offer pass stand section now ≡ Some o
            → named_in (go_change shape stand section now (seen o.op memory)).answer ≤ epoch_of_region (apply o.op memory)
        go section phase.Idle s p e = low _ _ refl
        go section phase.Entering s p e = enters section (epoch_of_region (apply o.op memory)) s (up Go o is)
        go section (phase.Advancing epoch other) s p e = low _ _ (section_seen-none epoch other (plain_of (seen o.op memory)))
        go section (phase.Ready epoch) s p e =
            subst (λ (x : Offer). named_in (ready_seen epoch (plain_of (seen x.op memory))).answer ≤ epoch_of_region (apply x.op memory)) (some-same _ o e) (ready epoch)
        go section (phase.Look next) s p e = low _ _ (looking-none (is_calm section) next (seen o.op memory))
        go section (phase.Add next) s p e = low _ _ (add-none (epoch_of section) stand.words next (seen o.op memory))
        go section (phase.Remove next) s p e = low _ _ (remove-none next)
        go section (phase.Scan next) s p e = low _ _ (scan-none next (seen o.op memory))
        go section (phase.Begin next) s p e = low _ _ (begin-none (epoch_of section) next (seen o.op memory))
        go section (phase.Finish next) s p e = low _ _ (finish-none next (seen o.op memory))
        go section (phase.Cancel next) s p e = low _ _ (cancel-none next (seen o.op memory))
        go section (phase.Survey next) s p e = low _ _ (survey-none (counting shape next (seen o.op memory)))

latest-more : (answers : List Answer) (one : Answer) → latest (answers ++ one ∷ []) ≡ max (latest answers) (named one.done)
latest-more [] one = omega arith
latest-more (first ∷ later) one = ap (λ (n : ℕ). max (named first.done) n) (latest-more later one) ∙ omega arith

latest-answered : (answers : List Answer) (length : ℕ) (answer : Option Done) (most : ℕ) → latest answers ≤ most → named_in answer ≤ most → latest (answered answers length answer) ≤ most
latest-answered answers length None most h n = h
latest-answered answers length (Some one) most h n = let e = latest-more answers (record { length = length; done = one }) in omega (arith, e, h, n)

-- a word that suits the epoch's place is a number as it is
plain-word : (w : Word) → Suits place.Epoch w → (w ≡ word.Plain (plain_of w)) × (packed w ≡ plain_of w)
plain-word (word.Plain number) s = (refl, refl)
plain-word (word.Round round) s = absurd s
plain-word (word.Entry state) s = absurd s
plain-word (word.Directory dir) s = absurd s
plain-word (word.Back number) s = absurd s
plain-word (word.Forward slot) s = absurd s

module _ (shape : Layout) (valid : IsShape shape) (opening : Opening) (world : World) where
  -- the epoch in a row
  abbrev epoch_in : List ℕ → ℕ
  epoch_in row = slice_index row (at shape place.Epoch)

  epoch-there : (these : Place → Bool) (row : List ℕ) (memory : Memory) → IsTrue (these place.Epoch) → MirrorsAt shape these row memory
      → (memory place.Epoch ≡ word.Plain (epoch_of_region memory)) × (epoch_in row ≡ epoch_of_region memory)
  epoch-there these row memory t m = let s = plain-word (memory place.Epoch) (m.suits place.Epoch t tt) in (s.0, m.words place.Epoch t tt ∙ s.1)

  abbrev AllLow : Machine → Type 0
  AllLow m = (k : ℕ) (l : Local) → slice_get m.locals k ≡ Some l → latest l.answers ≤ epoch_in m.row

  low-then : (m next : Machine) (pass : ℕ) (choice : Choice) → History shape opening world m → Steps shape m pass choice next → AllLow m → AllLow next
  low-then m next pass choice reached step h =
      let l : Local = step.local in
      let op : Op = step.offered.op in
      let a = ranges_then shape opening world m valid reached in
      let r = rule-then shape valid opening world m reached in
      let memory : Memory = (history_state reached).memory in
      let mir : IsMirrored shape anywhere m.row memory op = mirrored shape anywhere m.row memory op valid a.backs.mirrors
      (λ t. offered_fits shape opening world m pass l choice step.offered valid reached step.here step.offers) in
      let before = epoch-there anywhere m.row memory refl a.backs.mirrors in
      let after_it = epoch-there anywhere (row_after shape op m.row) (apply op memory) refl mir.mirrors in
      let by_rule = epoch-there _ m.row r.state.memory refl r.backs.mirrors in
      let within : pass < shape.passes = omega (arith, slice_get_within m.locals pass l step.here, r.backs.count) in
      let own : (epoch : ℕ) → own_epoch l.stand.section ≡ Some epoch → epoch ≤ epoch_of_region memory =
      λ epoch is. let near = (r.rule.near pass epoch within (ap (λ (s : Stand). own_epoch s.section) (r.backs.same pass l step.here) ∙ is)).0 in
      let e = by_rule.1 in let f = before.1 in omega (arith, near, e, f) in
      let rise : epoch_in m.row ≤ epoch_in (row_after shape op m.row) =
      let u = up shape pass l.stand memory own before.0 choice step.offered step.offers in let e = before.1 in let f = after_it.1 in omega (arith, u, e, f) in
      let answer : named_in (change shape pass l.stand l.stand.section l.stand.phase choice step.told (row_shows shape op m.row)).answer ≤ epoch_in (row_after shape op m.row) =
      let n = answers-low shape pass l.stand memory own before.0 choice step.told step.offered step.offers in
      subst (λ (w : Word). named_in (change shape pass l.stand l.stand.section l.stand.phase choice step.told w).answer ≤ epoch_in (row_after shape op m.row)) (sym (mir.shows refl))
      (subst (λ (k : ℕ). named_in (change shape pass l.stand l.stand.section l.stand.phase choice step.told (seen op memory)).answer ≤ k) (sym after_it.1) n) in
      subst (λ (n : Machine). AllLow n) (sym step.leads)
      (set-all (λ k t. latest t.answers ≤ epoch_in (row_after shape op m.row)) m.locals pass _
      (latest-answered l.answers _ _ (epoch_in (row_after shape op m.row)) (let b = h pass l step.here in omega (arith, b, rise)) answer)
      (λ k t is. let b = h k t is in omega (arith, b, rise)))

  low-led : (m : Machine) (steps : List (ℕ × Choice)) (last : Machine) → History shape opening world m → Leads shape m steps last → AllLow m → AllLow last
  low-led m [] last reached leads h = subst (λ (n : Machine). AllLow n) leads h
  low-led m (first ∷ later) last reached leads h =
      low-led leads.0 later last (history-then shape opening world m leads.0 first.0 first.1 reached leads.1) leads.2 (low-then m leads.0 first.0 first.1 reached leads.1 h)

  low-first : (start : List ℕ) → AllLow (started shape start)
  low-first start k l is = subst (λ (t : Local). latest t.answers ≤ epoch_in start) (copies-are shape.passes (fresh shape) k l is) (omega arith)

  pub named_low : (m : Machine) → History shape opening world m → (k : ℕ) (l : Local) → slice_get m.locals k ≡ Some l → latest l.answers ≤ epoch_in m.row
  named_low m h = low-led (started shape h.start) h.steps m (record { start = h.start; starts = h.starts; steps = []; leads = refl }) h.leads (low-first h.start)

-- the epoch that is loaded is none before those that the pass was told
pub latest_seen : (shape : Layout) (pass : ℕ) (l : Local) (w : Word) → Saw (one shape pass l) (Load place.Epoch) w → latest l.answers ≤ plain_of w
latest_seen shape pass l w saw =
    let f = saw.from in
    let r = f.reached in
    let low = named_low shape r.valid f.opening empty_world f.machine (was r) pass l f.stands.0 in
    let e = ap plain_of saw.is in
    omega (arith, low, e)
