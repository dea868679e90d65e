-- What a step makes of the epoch, by its answer.
use Rattle.std.proofs.Common.{◌≡◌, ℕ, ◌+◌, ◌==◌, ◌||◌, ◌&&◌, Bool, true, false, Option, Some, None, List, refl, sym, ap, ◌∙◌, subst, arith}
use Rattle.std.specs.Prelude.{IfSome, nat_lt, length, if◌then◌else◌}
use Rattle.std.proofs.lemmas.Bool.{cond_both, eqb-true}
use Rattle.std.proofs.lemmas.Option.{none-some}
use Rattle.smc_shape.specs.Layout.{Layout, width_of}
use Rattle.smc_shape.specs.declared.place.Place.TheVariants as place
use Rattle.smc_model.specs.declared.event.Event.{Event}
use Rattle.smc_core.specs.declared.call.Call.{Call}
use Rattle.smc_core.specs.declared.call.Call.TheVariants as call
use Rattle.smc_core.specs.declared.call.Choice.{Choice}
use Rattle.smc_core.specs.declared.call.Choice.TheVariants.{Start, Go}
use Rattle.smc_core.specs.declared.done.Done.{Done}
use Rattle.smc_core.specs.declared.done.Done.TheVariants as done
use Rattle.smc_core.specs.declared.local.Stand.{Stand}
use Rattle.smc_core.specs.declared.op.Offer.{Offer}
use Rattle.smc_core.specs.declared.op.Op.{Op}
use Rattle.smc_core.specs.declared.op.Op.TheVariants.{Load, Store, Exchange, MarkGone}
use Rattle.smc_core.specs.declared.phase.Phase.{Phase}
use Rattle.smc_core.specs.declared.phase.Phase.TheVariants as phase
use Rattle.smc_core.specs.declared.phase.moves.BeginPhase.{BeginPhase}
use Rattle.smc_core.specs.declared.phase.moves.CancelPhase.{CancelPhase}
use Rattle.smc_core.specs.declared.phase.moves.CountPhase.{CountPhase}
use Rattle.smc_core.specs.declared.phase.moves.FinishPhase.{FinishPhase}
use Rattle.smc_core.specs.declared.phase.objects.AddPhase.{AddPhase}
use Rattle.smc_core.specs.declared.phase.objects.LookPhase.{LookPhase}
use Rattle.smc_core.specs.declared.phase.objects.RemovePhase.{RemovePhase}
use Rattle.smc_core.specs.declared.phase.objects.ScanPhase.{ScanPhase}
use Rattle.smc_core.specs.declared.phase.objects.Seeker.{Seeker}
use Rattle.smc_core.specs.declared.phase.objects.Seeker.TheVariants as seeker
use Rattle.smc_core.specs.declared.section.Section.{Section}
use Rattle.smc_core.specs.declared.section.Section.TheVariants.{Outside, Loaded, Announced, Again, Lasting, Inside}
use Rattle.smc_core.specs.declared.section.TheConstants.{LAST_EPOCH}
use Rattle.smc_core.specs.declared.word.Word.{Word}
use Rattle.smc_core.specs.declared.word.Word.TheVariants as word
use Rattle.smc_core.specs.Add.{add_offer, is_value, takes}
use Rattle.smc_core.specs.Begin.{begin_offer}
use Rattle.smc_core.specs.Cancel.{cancel_offer}
use Rattle.smc_core.specs.Change.{advance_next, go_change, ready_seen, section_seen, start_change}
use Rattle.smc_core.specs.Count.{count_offer}
use Rattle.smc_core.specs.Finish.{finish_offer, is_early}
use Rattle.smc_core.specs.Local.{words_after}
use Rattle.smc_core.specs.Look.{look_offer, seeker_of, sought_number}
use Rattle.smc_core.specs.Offer.{go_offer, held_slot, start_offer, when_idle, when_outside}
use Rattle.smc_core.specs.Remove.{remove_offer}
use Rattle.smc_core.specs.Row.{has_place}
use Rattle.smc_core.specs.Scan.{is_over, scan_of, scan_offer}
use Rattle.smc_core.specs.Section.{entering_offer, epoch_of}
use Rattle.smc_core.specs.Step.{ends, goes}
use Rattle.smc_core.specs.Words.{plain_of, same_word}
use Rattle.smc_rules.specs.Memory.{Memory, apply, seen}
use Rattle.smc_rules.specs.Reads.{epoch_of_region}
use Rattle.smc_rules.specs.State.{stand_change, stand_offer}
use Rattle.smc_rules.proofs.CarryLaws.{some-same}
use Rattle.smc_rules.proofs.OfferLaws.{if_outside, if_inside, if_test, if_held, if_begun, if_owned}
use Rattle.smc_calls.specs.Ends.{EndsSo}
use Rattle.smc_calls.proofs.CallsGoOn.{GoesOn, InCall, IsSought, comes-go, comes-start, coll_added, coll_begun, coll_counted, removed_in, scan_in}

-- by the answer, how the epoch after the step is that of before
abbrev pub EpochBy : Option Done → ℕ → ℕ → Type 0
EpochBy (Some (done.Advanced epoch)) before after = (after ≡ before + 1) × (epoch ≡ after)
EpochBy (Some (done.Overtaken epoch)) before after = (after ≡ before) × (epoch ≡ after)
EpochBy (Some done.Spent) before after = (after ≡ before) × (after ≡ LAST_EPOCH)
EpochBy _ before after = after ≡ before

-- answers that say nothing of the epoch
abbrev IsPlain : Done → Type 0
IsPlain (done.Advanced epoch) = ⊥
IsPlain (done.Overtaken epoch) = ⊥
IsPlain done.Spent = ⊥
IsPlain _ = Unit {0}

plain-by : (d : Option Done) (before after : ℕ) → IfSome d IsPlain → after ≡ before → EpochBy d before after
plain-by None before after k is = is
plain-by (Some (done.Advanced epoch)) before after k is = absurd k
plain-by (Some (done.Overtaken epoch)) before after k is = absurd k
plain-by (Some done.Spent) before after k is = absurd k
plain-by (Some _) before after k is = is

-- a call that is no advance
abbrev IsOther : Call → Type 0
IsOther call.Advance = ⊥
IsOther _ = Unit {0}

ends-plain : (a : Done) (e : Option Event) (made : Call) → EndsSo a e made → IsOther made → IsPlain a
ends-plain (done.Advanced epoch) e made is other = absurd (subst IsOther is.1 other)
ends-plain (done.Overtaken epoch) e made is other = absurd (subst IsOther is.1 other)
ends-plain done.Spent e made is other = absurd (subst IsOther is.1 other)
ends-plain _ e made is other = tt

goes-plain : (made : Call) (words : List ℕ) (all : Option Event) (d : Option Done) (next : Phase) → GoesOn made words all d next → IsOther made → IfSome d IsPlain
goes-plain made words all None next on other = tt
goes-plain made words all (Some a) next on other = ends-plain a all made on.1 other

-- whether an operation is a store or an exchange of the epoch
abbrev touches : Op → Bool
touches (Store place.Epoch w) = true
touches (Exchange place.Epoch expect w) = true
touches _ = false

untouched : (op : Op) (memory : Memory) → touches op ≡ false → epoch_of_region (apply op memory) ≡ epoch_of_region memory
untouched (Load there) memory is = refl
untouched (MarkGone coll entry) memory is = refl
untouched (Store place.Epoch w) memory is = absurd (cc)
untouched (Store place.Round w) memory is = refl
untouched (Store (place.Section p) w) memory is = refl
untouched (Store (place.Entry c e) w) memory is = refl
untouched (Store (place.Directory c e) w) memory is = refl
untouched (Store (place.Back c e) w) memory is = refl
untouched (Store (place.Forward c e) w) memory is = refl
untouched (Store (place.Field c e f) w) memory is = refl
untouched (Exchange place.Epoch x w) memory is = absurd (cc)
untouched (Exchange place.Round x w) memory is = refl
untouched (Exchange (place.Section p) x w) memory is = refl
untouched (Exchange (place.Entry c e) x w) memory is = refl
untouched (Exchange (place.Directory c e) x w) memory is = refl
untouched (Exchange (place.Back c e) x w) memory is = refl
untouched (Exchange (place.Forward c e) x w) memory is = refl
untouched (Exchange (place.Field c e f) x w) memory is = refl

look-away : (next : LookPhase) → touches (look_offer next).op ≡ false
look-away next = grind arith

add-away : (words : List ℕ) (next : AddPhase) → touches (add_offer words next).op ≡ false
add-away words next = grind arith

remove-away : (epoch : ℕ) (next : RemovePhase) → touches (remove_offer epoch next).op ≡ false
remove-away epoch next = grind arith

scan-away : (pass : ℕ) (next : ScanPhase) → touches (scan_offer pass next).op ≡ false
scan-away pass next = grind arith

count-away : (next : CountPhase) → touches (count_offer next).op ≡ false
count-away next = grind arith

begin-away : (epoch : ℕ) (next : BeginPhase) → touches (begin_offer epoch next).op ≡ false
begin-away epoch next = grind arith

finish-away : (epoch : ℕ) (next : FinishPhase) → touches (finish_offer epoch next).op ≡ false
finish-away epoch next = grind arith

cancel-away : (epoch : ℕ) (next : CancelPhase) → touches (cancel_offer epoch next).op ≡ false
cancel-away epoch next = grind arith

entering-away : (pass : ℕ) (section : Section) → IfSome (entering_offer pass section) (λ o. touches o.op ≡ false)
entering-away pass Outside = tt
entering-away pass (Loaded seen) = refl
entering-away pass (Announced seen) = refl
entering-away pass (Again seen epoch) = refl
entering-away pass (Lasting epoch) = refl
entering-away pass (Inside epoch calm) = tt

abbrev Away : Offer → Type 0
Away o = touches o.op ≡ false

either-away : (b : Bool) (x y : Offer) → Away x → Away y → Away (if b then x else y)
either-away true x y here there = here
either-away false x y here there = there

start-away : (shape : Layout) (pass : ℕ) (stand : Stand) (section : Section) (made : Call) → IfSome (start_offer shape pass stand section made) Away
start-away shape pass stand section call.Enter = if_outside Away section _ (λ is. refl)
start-away shape pass stand section call.Leave = if_inside Away section _ (λ own calm is. refl)
start-away shape pass stand section call.Advance = if_outside Away section _ (λ is. refl)
start-away shape pass stand section (call.Add coll from words) = if_inside Away section _ (λ own calm is. if_test Away (takes shape coll from words) _ (λ t. refl))
start-away shape pass stand section (call.Look number) = if_inside Away section _ (λ own calm is. either-away (has_place shape (place.Entry number.coll number.entry)) _ _ refl refl)
start-away shape pass stand section (call.Read number field) = if_inside Away section _ (λ own calm is. if_held Away (held_slot stand.held number) _ (λ slot _. if_test Away (nat_lt field (width_of shape number.coll)) _ (λ t. refl)))
start-away shape pass stand section (call.Write number field value) =
    if_inside Away section _ (λ own calm is. if_held Away (held_slot stand.held number) _ (λ slot _. if_test Away (nat_lt field (width_of shape number.coll) && is_value value) _ (λ t. refl)))
start-away shape pass stand section (call.Remove number) = if_inside Away section _ (λ own calm is. if_held Away (held_slot stand.held number) _ (λ slot _. refl))
start-away shape pass stand section (call.Scan coll) = if_inside Away section _ (λ own calm is. if_test Away (nat_lt coll (length shape.colls)) _ (λ t. refl))
start-away shape pass stand section (call.Next scan) = if_inside Away section _ (λ own calm is. if_begun Away (scan_of stand.scans scan) _ (λ one _. either-away (is_over shape one) _ _ refl refl))
start-away shape pass stand section (call.Begin coll) = if_inside Away section _ (λ own calm is. if_test Away (nat_lt coll (length shape.colls)) _ (λ t. refl))
start-away shape pass stand section call.Finish = if_inside Away section _ (λ own calm is. if_owned Away stand.round _ (λ owned _. either-away (is_early (epoch_of section) owned.bound) _ _ refl refl))
start-away shape pass stand section call.Cancel = if_inside Away section _ (λ own calm is. if_owned Away stand.round _ (λ owned _. refl))
start-away shape pass stand section (call.Survey coll) = if_inside Away section _ (λ own calm is. if_test Away (nat_lt coll (length shape.colls)) _ (λ t. refl))
start-away shape pass stand section call.Note = if_outside Away section _ (λ is. refl)
start-away shape pass stand section (call.Learn other note) = if_outside Away section _ (λ is. refl)

-- the call of a look-up
sought : (P : Type 0) (words : List ℕ) (next : LookPhase) → ((made : Call) → InCall (phase.Look next) words made → IsOther made → P) → P
sought P words next by = go (seeker_of next) refl
  where
    go : (who : Seeker) → seeker_of next ≡ who → P
    go seeker.Caller is = by (call.Look (sought_number next)) (subst (λ (k : Seeker). IsSought k (sought_number next) (call.Look (sought_number next))) (sym is) refl) tt
    go (seeker.Scan scan coll slot) is = by (call.Next scan) (subst (λ (k : Seeker). IsSought k (sought_number next) (call.Next scan)) (sym is) refl) tt

-- an offer that is there
offered : (P : Offer → Type 0) (x : Option Offer) (o : Offer) → IfSome x P → x ≡ Some o → P o
offered P x o k is = subst (λ (y : Option Offer). IfSome y P) is k

idle-only : (next : Phase) (x : Option Offer) (o : Offer) → when_idle next x ≡ Some o → x ≡ Some o
idle-only phase.Idle x o is = is
idle-only next x o is = absurd (none-some o is)

outside-only : (section : Section) (x : Option Offer) (o : Offer) → when_outside section x ≡ Some o → x ≡ Some o
outside-only Outside x o is = is
outside-only section x o is = absurd (none-some o is)

module _ (shape : Layout) (pass : ℕ) (stand : Stand) (memory : Memory) (number : memory place.Epoch ≡ word.Plain (epoch_of_region memory)) (o : Offer) where
  abbrev By : Option Done → Type 0
  By d = EpochBy d (epoch_of_region memory) (epoch_of_region (apply o.op memory))

  -- a step of another call
  plain-go : (section : Section) (next : Phase) (made : Call) → go_offer pass stand section next ≡ Some o → InCall next stand.words made → IsOther made → Away o
      → By (go_change shape stand section next (seen o.op memory)).answer
  plain-go section next made is in_call other away =
      let c = comes-go shape pass stand o 0 (seen o.op memory) section next made is in_call in
      plain-by (go_change shape stand section next (seen o.op memory)).answer (epoch_of_region memory) (epoch_of_region (apply o.op memory))
      (goes-plain made stand.words c.all (go_change shape stand section next (seen o.op memory)).answer (go_change shape stand section next (seen o.op memory)).phase c.goes_on other) (untouched o.op memory away)

  away-by : (x : Offer) → Some x ≡ Some o → Away x → Away o
  away-by x is away = subst Away (some-same x o is) away

  ready : (from : ℕ) → EpochBy (ready_seen from (plain_of (memory place.Epoch))).answer (epoch_of_region memory) (epoch_of_region (apply (Exchange place.Epoch (word.Plain from) (word.Plain (from + 1))) memory))
  ready from =
      let now : ℕ = epoch_of_region (apply (Exchange place.Epoch (word.Plain from) (word.Plain (from + 1))) memory) in
      cond_both (epoch_of_region memory == from) (ends (done.Advanced (from + 1))) (ends (done.Overtaken (epoch_of_region memory))) (λ c. EpochBy c.answer (epoch_of_region memory) now)
      (λ t. let hit : same_word (memory place.Epoch) (word.Plain from) ≡ true = ap (λ (v : Word). same_word v (word.Plain from)) number ∙ t in
      let moved : now ≡ from + 1 = ap (λ (b : Bool). plain_of (if b then word.Plain (from + 1) else memory place.Epoch)) hit in
      let is : epoch_of_region memory ≡ from = eqb-true (epoch_of_region memory) from t in
      (omega (arith, moved, is), sym moved))
      (λ n. let miss : same_word (memory place.Epoch) (word.Plain from) ≡ false = ap (λ (v : Word). same_word v (word.Plain from)) number ∙ n in
      let stays : now ≡ epoch_of_region memory = ap (λ (b : Bool). plain_of (if b then word.Plain (from + 1) else memory place.Epoch)) miss in
      (stays, sym stays))

  go-by : (section : Section) (next : Phase) → go_offer pass stand section next ≡ Some o → By (go_change shape stand section next (seen o.op memory)).answer
  go-by section phase.Idle is = absurd (none-some o is)
  go-by section phase.Entering is = plain-go section phase.Entering call.Enter is refl tt (offered Away (entering_offer pass section) o (entering-away pass section) is)
  go-by section (phase.Advancing from other) is =
      subst (λ (x : Offer). EpochBy (section_seen shape from other (plain_of (seen x.op memory))).answer (epoch_of_region memory) (epoch_of_region (apply x.op memory))) (some-same _ o is)
      (cond_both (plain_of (memory (place.Section other)) == 0 || plain_of (memory (place.Section other)) == from) (goes (advance_next shape from (other + 1))) (ends (done.NotYet other (plain_of (memory (place.Section other)))))
      (λ c. EpochBy c.answer (epoch_of_region memory) (epoch_of_region memory)) (λ t. refl) (λ n. refl))
  go-by section (phase.Ready from) is =
      subst (λ (x : Offer). EpochBy (ready_seen from (plain_of (seen x.op memory))).answer (epoch_of_region memory) (epoch_of_region (apply x.op memory))) (some-same _ o is)
      (ready from)
  go-by section (phase.Look next) is = elim-look
    where
      by : (made : Call) → InCall (phase.Look next) stand.words made → IsOther made → By (go_change shape stand section (phase.Look next) (seen o.op memory)).answer
      by made in_call other = plain-go section (phase.Look next) made is in_call other (away-by (look_offer next) is (look-away next))

      elim-look : By (go_change shape stand section (phase.Look next) (seen o.op memory)).answer
      elim-look = sought (By (go_change shape stand section (phase.Look next) (seen o.op memory)).answer) stand.words next by
  go-by section (phase.Add next) is = plain-go section (phase.Add next) (call.Add (coll_added next) 0 stand.words) is (0, refl) tt (away-by (add_offer stand.words next) is (add-away stand.words next))
  go-by section (phase.Remove next) is = plain-go section (phase.Remove next) (call.Remove (removed_in next)) is refl tt (away-by (remove_offer (epoch_of section) next) is (remove-away (epoch_of section) next))
  go-by section (phase.Scan next) is = plain-go section (phase.Scan next) (call.Next (scan_in next)) is refl tt (away-by (scan_offer pass next) is (scan-away pass next))
  go-by section (phase.Begin next) is = plain-go section (phase.Begin next) (call.Begin (coll_begun next)) is refl tt (away-by (begin_offer (epoch_of section) next) is (begin-away (epoch_of section) next))
  go-by section (phase.Finish next) is = plain-go section (phase.Finish next) call.Finish is refl tt (away-by (finish_offer (epoch_of section) next) is (finish-away (epoch_of section) next))
  go-by section (phase.Cancel next) is = plain-go section (phase.Cancel next) call.Cancel is refl tt (away-by (cancel_offer (epoch_of section) next) is (cancel-away (epoch_of section) next))
  go-by section (phase.Survey next) is = plain-go section (phase.Survey next) (call.Survey (coll_counted next)) is refl tt (away-by (count_offer next) is (count-away next))

  plain-start : (section : Section) (made : Call) (told : ℕ) → start_offer shape pass stand section made ≡ Some o → IsOther made → By (start_change shape pass stand section made told (seen o.op memory)).answer
  plain-start section made told is other =
      let c = comes-start shape pass stand o told (seen o.op memory) section made is in
      plain-by (start_change shape pass stand section made told (seen o.op memory)).answer (epoch_of_region memory) (epoch_of_region (apply o.op memory))
      (goes-plain made (words_after stand.words (Start made)) c.all (start_change shape pass stand section made told (seen o.op memory)).answer (start_change shape pass stand section made told (seen o.op memory)).phase c.goes_on other)
      (untouched o.op memory (offered Away (start_offer shape pass stand section made) o (start-away shape pass stand section made) is))

  start-by : (section : Section) (made : Call) (told : ℕ) → start_offer shape pass stand section made ≡ Some o → By (start_change shape pass stand section made told (seen o.op memory)).answer
  start-by section call.Advance told is =
      subst (λ (x : Offer). EpochBy (start_change shape pass stand section call.Advance told (seen x.op memory)).answer (epoch_of_region memory) (epoch_of_region (apply x.op memory)))
      (some-same _ o (outside-only section _ o is))
      (cond_both (epoch_of_region memory == LAST_EPOCH) (ends done.Spent) (goes (advance_next shape (epoch_of_region memory) 0)) (λ c. EpochBy c.answer (epoch_of_region memory) (epoch_of_region memory))
      (λ t. (refl, eqb-true (epoch_of_region memory) LAST_EPOCH t)) (λ n. refl))
  start-by section made told is = plain-start section made told is tt

-- each step that is offered
pub step-by : (shape : Layout) (pass : ℕ) (stand : Stand) (memory : Memory) → memory place.Epoch ≡ word.Plain (epoch_of_region memory) → (choice : Choice) (told : ℕ) (o : Offer) → stand_offer shape pass stand choice ≡ Some o
    → EpochBy (stand_change shape pass stand choice told (seen o.op memory)).answer (epoch_of_region memory) (epoch_of_region (apply o.op memory))
step-by shape pass stand memory number Go told o is = go-by shape pass stand memory number o stand.section stand.phase is
step-by shape pass stand memory number (Start made) told o is =
    start-by shape pass stand memory number o stand.section made told (idle-only stand.phase (start_offer shape pass stand stand.section made) o is)
