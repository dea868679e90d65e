-- Each step of a pass keeps what its log and answers tell of where it stands.
use Rattle.std.proofs.Common.{◌≡◌, ℕ, ◌+◌, not, Bool, true, false, ◌&&◌, ◌||◌, Option, Some, None, List, [], ◌∷◌, length, refl, sym, ◌∙◌, subst, arith}
use Rattle.std.specs.Prelude.{filter, if◌then◌else◌}
use Rattle.smc_words.specs.declared.round.RoundWord.{RoundWord}
use Rattle.smc_shape.specs.Layout.{Layout}
use Rattle.smc_model.specs.declared.event.Event.{Event}
use Rattle.smc_core.specs.declared.call.Call.{Call}
use Rattle.smc_core.specs.declared.call.Call.TheVariants as call
use Rattle.smc_core.specs.declared.call.Choice.{Choice}
use Rattle.smc_core.specs.declared.call.Choice.TheVariants.{Start, Go}
use Rattle.smc_core.specs.declared.change.Change.{Change}
use Rattle.smc_core.specs.declared.done.Done.{Done}
use Rattle.smc_core.specs.declared.local.Owned.{Owned}
use Rattle.smc_core.specs.declared.local.Stand.{Stand}
use Rattle.smc_core.specs.declared.op.Offer.{Offer}
use Rattle.smc_core.specs.declared.phase.Phase.{Phase}
use Rattle.smc_core.specs.declared.phase.Phase.TheVariants as phase
use Rattle.smc_core.specs.declared.phase.moves.BeginPhase.{BeginPhase}
use Rattle.smc_core.specs.declared.phase.moves.BeginPhase.TheVariants as begin
use Rattle.smc_core.specs.declared.phase.moves.CancelPhase.TheVariants as cancel
use Rattle.smc_core.specs.declared.phase.moves.CountPhase.TheVariants as walk
use Rattle.smc_core.specs.declared.phase.moves.FinishPhase.TheVariants as finish
use Rattle.smc_core.specs.declared.section.Section.{Section}
use Rattle.smc_core.specs.declared.section.Section.TheVariants.{Outside, Loaded, Announced, Again, Lasting, Inside}
use Rattle.smc_core.specs.declared.word.Word.{Word}
use Rattle.smc_core.specs.Begin.{round_seen}
use Rattle.smc_core.specs.Change.{change}
use Rattle.smc_core.specs.Count.{counting, no_count}
use Rattle.smc_core.specs.Local.{section_after, round_after, round_begun}
use Rattle.smc_core.specs.Offer.{offer, held_slot}
use Rattle.smc_core.specs.Scan.{scan_of}
use Rattle.smc_core.specs.Words.{plain_of, dir_of, round_of, state_of}
use Rattle.smc_aside.specs.Aside.{IsResting}
use Rattle.smc_refine.specs.Alone.{is_enter, is_leave, owns_then}
use Rattle.smc_refine.proofs.OrderSteps.{told_of}
use Rattle.smc_refine.proofs.OwnLogs.{is_mark, owns_told, is_keeping, is_inner, is_beginning, Plain, begins, is_nothing, tells_nothing, Begins, is_resting, Rests, looking-plain, look_started-plain, slot_seen-plain, add-plain, remove-plain, remove_started-plain, scan-plain, next_started-plain, survey-plain, finish_owned-plain, cancel_owned-plain, begin-begins, advancing-rests, advance_started-rests, ready-rests}

-- the events that begin and that end a section, after a step that tells this
abbrev pub enters : List Event → ℕ
enters log = length (filter is_enter log)

abbrev pub leaves : List Event → ℕ
leaves log = length (filter is_leave log)

-- a pass is in a section where its log has one enter more than leaves; outside it rests
abbrev pub Tied : Section → Phase → ℕ → ℕ → Type 0
Tied Outside next entered left = IsResting next × (left ≡ entered)
Tied (Loaded seen) next entered left = (next ≡ phase.Entering) × (left ≡ entered)
Tied (Announced seen) next entered left = (next ≡ phase.Entering) × (left ≡ entered)
Tied (Again seen epoch) next entered left = (next ≡ phase.Entering) × (left ≡ entered)
Tied (Lasting epoch) next entered left = (next ≡ phase.Entering) × (left ≡ entered)
Tied (Inside epoch calm) next entered left = (is_inner next ≡ true) × (entered ≡ left + 1)

-- whether calls are made in the section
abbrev pub is_inside : Section → Bool
is_inside (Inside epoch calm) = true
is_inside _ = false

-- a begin has its round before it answers
abbrev pub owns_at : Phase → Bool → Bool
owns_at (phase.Begin next) owns = true
owns_at _ owns = owns

abbrev pub is_some : Option Owned → Bool
is_some None = false
is_some (Some owned) = true

-- what a step leaves, by what it tells and answers
pub record Follows (section later : Section) (next : Phase) (owned : Option Owned) (e : Option Event) (d : Option Done) (entered left : ℕ) (owns : Bool) : Type 0 where
  pub tied : Tied later next (entered + enters (told_of e)) (left + leaves (told_of e))
  pub round : is_some owned ≡ owns_at next (owns_told owns d)
  -- outside a section a step that tells nothing neither begins one nor speaks of rounds
  pub quiet : is_inside section ≡ false → e ≡ None → (is_inside later ≡ false) × ((owns : Bool) → owns_told owns d ≡ owns)

both : (a b : Bool) → (a && b) ≡ true → (a ≡ true) × (b ≡ true)
both true true e = (refl, refl)
both true false e = absurd (cc)
both false b e = absurd (cc)

not-false : (a : Bool) → not a ≡ true → a ≡ false
not-false true e = absurd (cc)
not-false false e = refl

unmarked : (e : Option Event) → is_mark e ≡ false → (enters (told_of e) ≡ 0) × (leaves (told_of e) ≡ 0)
unmarked None is = (refl, refl)
unmarked (Some x) is = go (is_enter x) (is_leave x) is
  where
    go : (a b : Bool) → (a || b) ≡ false → (length (if a then x ∷ [] else []) ≡ 0) × (length (if b then x ∷ [] else []) ≡ 0)
    go true b is = absurd (cc)
    go false true is = absurd (cc)
    go false false is = (refl, refl)

keeping : (d : Option Done) → is_keeping d ≡ true → (owns : Bool) → owns_told owns d ≡ owns
keeping None is owns = refl
keeping (Some d) is true = (both (owns_then true d) (not (owns_then false d)) is).0
keeping (Some d) is false = not-false (owns_then false d) (both (owns_then true d) (not (owns_then false d)) is).1

calm-owns : (next : Phase) (owns : Bool) → is_beginning next ≡ false → owns_at next owns ≡ owns
calm-owns next owns is = grind (arith, is)

-- a step of a call in a section
plain-follows : (x : ℕ) (cm : Bool) (owned : Option Owned) (c : Change) (a b : ℕ) (owns : Bool) → Plain c → a ≡ b + 1 → is_some owned ≡ owns
    → Follows (Inside x cm) (Inside x cm) c.phase owned c.event c.answer a b owns
plain-follows x cm owned c a b owns plain one has =
    let (front, calm) = both (not (is_mark c.event) && is_keeping c.answer && is_inner c.phase) (not (is_beginning c.phase)) plain in
    let (quiet, inner) = both (not (is_mark c.event) && is_keeping c.answer) (is_inner c.phase) front in
    let (marks, keeps) = both (not (is_mark c.event)) (is_keeping c.answer) quiet in
    let none : (enters (told_of c.event) ≡ 0) × (leaves (told_of c.event) ≡ 0) = unmarked c.event (not-false (is_mark c.event) marks) in record {
      tied = (inner, omega (arith, one, none.0, none.1));
      round = has ∙ sym (calm-owns c.phase (owns_told owns c.answer) (not-false (is_beginning c.phase) calm) ∙ keeping c.answer keeps owns);
      quiet = λ inside none. absurd (cc);
    }

-- a step of a begin
begun-inner : (next : Phase) (d : Option Done) (owns : Bool) → begins next d ≡ true → (is_inner next ≡ true) × (owns_at next (owns_told owns d) ≡ true)
begun-inner next d owns is = (grind (arith, is), grind (arith, is))

silent : (e : Option Event) → tells_nothing e ≡ true → e ≡ None
silent None is = refl
silent (Some x) is = absurd (cc)

begins-follows : (x : ℕ) (cm : Bool) (owned : Option Owned) (c : Change) (a b : ℕ) (owns : Bool) → Begins c → a ≡ b + 1 → is_some owned ≡ true
    → Follows (Inside x cm) (Inside x cm) c.phase owned c.event c.answer a b owns
begins-follows x cm owned c a b owns is one has =
    let (tells, goes) = both (tells_nothing c.event) (begins c.phase c.answer) is in
    let none : c.event ≡ None = silent c.event tells in
    let (inner, now) = begun-inner c.phase c.answer owns goes in record {
      tied = subst (λ (e : Option Event). Tied (Inside x cm) c.phase (a + enters (told_of e)) (b + leaves (told_of e))) (sym none) (inner, omega (arith, one));
      round = has ∙ sym now;
      quiet = λ inside none. absurd (cc);
    }

-- a step of an advance
resting : (next : Phase) → is_resting next ≡ true → IsResting next × (is_beginning next ≡ false)
resting phase.Idle is = (tt, refl)
resting (phase.Advancing from other) is = (tt, refl)
resting (phase.Ready from) is = (tt, refl)
resting phase.Entering is = absurd (cc)
resting (phase.Look n) is = absurd (cc)
resting (phase.Add n) is = absurd (cc)
resting (phase.Remove n) is = absurd (cc)
resting (phase.Scan n) is = absurd (cc)
resting (phase.Begin n) is = absurd (cc)
resting (phase.Finish n) is = absurd (cc)
resting (phase.Cancel n) is = absurd (cc)
resting (phase.Survey n) is = absurd (cc)

rests-follows : (owned : Option Owned) (c : Change) (a b : ℕ) (owns : Bool) → Rests c → b ≡ a → is_some owned ≡ owns
    → Follows Outside Outside c.phase owned c.event c.answer a b owns
rests-follows owned c a b owns is one has =
    let (front, rests) = both (tells_nothing c.event && is_keeping c.answer) (is_resting c.phase) is in
    let (tells, keeps) = both (tells_nothing c.event) (is_keeping c.answer) front in
    let none : c.event ≡ None = silent c.event tells in
    let (out, calm) = resting c.phase rests in record {
      tied = subst (λ (e : Option Event). Tied Outside c.phase (a + enters (told_of e)) (b + leaves (told_of e))) (sym none) (out, omega (arith, one));
      round = has ∙ sym (calm-owns c.phase (owns_told owns c.answer) calm ∙ keeping c.answer keeps owns);
      quiet = λ inside none. (refl, λ owns. keeping c.answer keeps owns);
    }

round-begin : (owned : Option Owned) (section : Section) (next : BeginPhase) (w : Word) → is_nothing next ≡ false → round_after owned section (phase.Begin next) Go w ≡ owned
round-begin owned section next w is = grind (arith, is)

-- a call starts where none is in progress
pub idle-start : (shape : Layout) (pass : ℕ) (stand : Stand) (o : Offer) (section : Section) (next : Phase) (c : Call) → offer shape pass stand section next (Start c) ≡ Some o → next ≡ phase.Idle
idle-start shape pass stand o section phase.Idle c is = refl
idle-start shape pass stand o section phase.Entering c is = absurd (cc)
idle-start shape pass stand o section (phase.Advancing from other) c is = absurd (cc)
idle-start shape pass stand o section (phase.Ready from) c is = absurd (cc)
idle-start shape pass stand o section (phase.Look n) c is = absurd (cc)
idle-start shape pass stand o section (phase.Add n) c is = absurd (cc)
idle-start shape pass stand o section (phase.Remove n) c is = absurd (cc)
idle-start shape pass stand o section (phase.Scan n) c is = absurd (cc)
idle-start shape pass stand o section (phase.Begin n) c is = absurd (cc)
idle-start shape pass stand o section (phase.Finish n) c is = absurd (cc)
idle-start shape pass stand o section (phase.Cancel n) c is = absurd (cc)
idle-start shape pass stand o section (phase.Survey n) c is = absurd (cc)

module _ (shape : Layout) (pass : ℕ) (stand : Stand) (owned : Option Owned) (o : Offer) (told : ℕ) (w : Word) (a b : ℕ) (owns : Bool) where
  -- what a step makes of a pass that stands here
  abbrev Made : Section → Phase → Choice → Type 0
  Made section next choice = Follows section (section_after section next choice w) (change shape pass stand section next choice told w).phase (round_after owned section next choice w)
      (change shape pass stand section next choice told w).event (change shape pass stand section next choice told w).answer a b owns

  entering : (section : Section) → is_inside section ≡ false → Tied section phase.Entering a b → is_some owned ≡ owns → offer shape pass stand section phase.Entering Go ≡ Some o
      → Made section phase.Entering Go
  entering Outside not_in t has is = absurd (cc)
  entering (Loaded v) not_in t has is = record { tied = (refl, omega (arith, t.1)); round = has; quiet = λ inside none. (refl, λ owns. refl) }
  entering (Announced v) not_in t has is = record { tied = (refl, omega (arith, t.1)); round = has; quiet = λ inside none. (refl, λ owns. refl) }
  entering (Again v z) not_in t has is = record { tied = (refl, omega (arith, t.1)); round = has; quiet = λ inside none. (refl, λ owns. refl) }
  entering (Lasting z) not_in t has is = record { tied = (refl, omega (arith, t.1)); round = has; quiet = λ inside none. absurd (cc) }
  entering (Inside x cm) not_in t has is = absurd (cc)

  going : (x : ℕ) (cm : Bool) (next : Phase) → is_inner next ≡ true → a ≡ b + 1 → is_some owned ≡ owns_at next owns → offer shape pass stand (Inside x cm) next Go ≡ Some o
      → Made (Inside x cm) next Go
  going x cm phase.Idle inner one has is = absurd (cc)
  going x cm phase.Entering inner one has is = absurd (cc)
  going x cm (phase.Advancing from other) inner one has is = absurd (cc)
  going x cm (phase.Ready from) inner one has is = absurd (cc)
  going x cm (phase.Look n) inner one has is = plain-follows x cm owned (change shape pass stand (Inside x cm) (phase.Look n) Go told w) a b owns (looking-plain shape cm n w) one has
  going x cm (phase.Add n) inner one has is = plain-follows x cm owned (change shape pass stand (Inside x cm) (phase.Add n) Go told w) a b owns (add-plain shape x stand.words n w) one has
  going x cm (phase.Remove n) inner one has is = plain-follows x cm owned (change shape pass stand (Inside x cm) (phase.Remove n) Go told w) a b owns (remove-plain shape n) one has
  going x cm (phase.Scan n) inner one has is = plain-follows x cm owned (change shape pass stand (Inside x cm) (phase.Scan n) Go told w) a b owns (scan-plain shape n w) one has
  going x cm (phase.Survey n) inner one has is = plain-follows x cm owned (change shape pass stand (Inside x cm) (phase.Survey n) Go told w) a b owns (survey-plain shape (counting shape n w)) one has
  going x cm (phase.Begin n) inner one has is = go (is_nothing n) refl
    where
      other : is_nothing n ≡ false → Made (Inside x cm) (phase.Begin n) Go
      other isnt = subst (λ (r : Option Owned). Follows (Inside x cm) (Inside x cm) (change shape pass stand (Inside x cm) (phase.Begin n) Go told w).phase r
          (change shape pass stand (Inside x cm) (phase.Begin n) Go told w).event (change shape pass stand (Inside x cm) (phase.Begin n) Go told w).answer a b owns)
          (sym (round-begin owned (Inside x cm) n w isnt))
          (begins-follows x cm owned (change shape pass stand (Inside x cm) (phase.Begin n) Go told w) a b owns (begin-begins shape x n w isnt) one has)

      nothing : (n : BeginPhase) → is_nothing n ≡ true → Made (Inside x cm) (phase.Begin n) Go
      nothing (begin.Nothing coll) is_one = record { tied = (refl, omega (arith, one)); round = refl; quiet = λ inside none. absurd (cc) }
      nothing (begin.Count next) is_one = absurd (cc)
      nothing (begin.SourceDirectory moves) is_one = absurd (cc)
      nothing (begin.SourceBack moves) is_one = absurd (cc)
      nothing (begin.SourceEntry moves number) is_one = absurd (cc)
      nothing (begin.TargetDirectory moves number) is_one = absurd (cc)
      nothing (begin.ClaimTarget moves number seen) is_one = absurd (cc)
      nothing (begin.BlankField moves number field) is_one = absurd (cc)
      nothing (begin.StoreBack moves number) is_one = absurd (cc)
      nothing (begin.StoreForward moves number) is_one = absurd (cc)
      nothing (begin.StoreIncoming moves number) is_one = absurd (cc)
      nothing (begin.Freeze moves number) is_one = absurd (cc)
      nothing (begin.GiveUp moves) is_one = absurd (cc)

      go : (t : Bool) → is_nothing n ≡ t → Made (Inside x cm) (phase.Begin n) Go
      go true is = nothing n is
      go false isnt = other isnt
  going x cm (phase.Finish (finish.End targets)) inner one has is = record { tied = (refl, omega (arith, one)); round = refl; quiet = λ inside none. absurd (cc) }
  going x cm (phase.Finish (finish.Directory targets)) inner one has is = plain-follows x cm owned (change shape pass stand (Inside x cm) (phase.Finish (finish.Directory targets)) Go told w) a b owns refl one has
  going x cm (phase.Finish (finish.Back targets)) inner one has is = plain-follows x cm owned (change shape pass stand (Inside x cm) (phase.Finish (finish.Back targets)) Go told w) a b owns refl one has
  going x cm (phase.Finish (finish.Entry targets n)) inner one has is = plain-follows x cm owned (change shape pass stand (Inside x cm) (phase.Finish (finish.Entry targets n)) Go told w) a b owns refl one has
  going x cm (phase.Finish (finish.Lock targets n source)) inner one has is = plain-follows x cm owned (change shape pass stand (Inside x cm) (phase.Finish (finish.Lock targets n source)) Go told w) a b owns refl one has
  going x cm (phase.Finish (finish.Move targets n source next)) inner one has is = plain-follows x cm owned (change shape pass stand (Inside x cm) (phase.Finish (finish.Move targets n source next)) Go told w) a b owns refl one has
  going x cm (phase.Finish (finish.Settle targets source)) inner one has is = plain-follows x cm owned (change shape pass stand (Inside x cm) (phase.Finish (finish.Settle targets source)) Go told w) a b owns refl one has
  going x cm (phase.Finish (finish.LeaveSource targets source)) inner one has is = plain-follows x cm owned (change shape pass stand (Inside x cm) (phase.Finish (finish.LeaveSource targets source)) Go told w) a b owns refl one has
  going x cm (phase.Finish (finish.GiveUp targets gone)) inner one has is = plain-follows x cm owned (change shape pass stand (Inside x cm) (phase.Finish (finish.GiveUp targets gone)) Go told w) a b owns refl one has
  going x cm (phase.Cancel cancel.End) inner one has is = record { tied = (refl, omega (arith, one)); round = refl; quiet = λ inside none. absurd (cc) }
  going x cm (phase.Cancel (cancel.Directory c s)) inner one has is = plain-follows x cm owned (change shape pass stand (Inside x cm) (phase.Cancel (cancel.Directory c s)) Go told w) a b owns refl one has
  going x cm (phase.Cancel (cancel.Back c s)) inner one has is = plain-follows x cm owned (change shape pass stand (Inside x cm) (phase.Cancel (cancel.Back c s)) Go told w) a b owns refl one has
  going x cm (phase.Cancel (cancel.Entry c s n)) inner one has is = plain-follows x cm owned (change shape pass stand (Inside x cm) (phase.Cancel (cancel.Entry c s n)) Go told w) a b owns refl one has
  going x cm (phase.Cancel (cancel.Unfreeze c s n source)) inner one has is = plain-follows x cm owned (change shape pass stand (Inside x cm) (phase.Cancel (cancel.Unfreeze c s n source)) Go told w) a b owns refl one has
  going x cm (phase.Cancel (cancel.GiveUp c s)) inner one has is = plain-follows x cm owned (change shape pass stand (Inside x cm) (phase.Cancel (cancel.GiveUp c s)) Go told w) a b owns refl one has

  -- a call that begins in a section
  starting : (x : ℕ) (cm : Bool) (c : Call) → a ≡ b + 1 → is_some owned ≡ owns → offer shape pass stand (Inside x cm) phase.Idle (Start c) ≡ Some o
      → Made (Inside x cm) phase.Idle (Start c)
  starting x cm call.Enter one has is = absurd (cc)
  starting x cm call.Advance one has is = absurd (cc)
  starting x cm call.Note one has is = absurd (cc)
  starting x cm (call.Learn j z) one has is = absurd (cc)
  starting x cm call.Leave one has is = record { tied = (tt, omega (arith, one)); round = has; quiet = λ inside none. absurd (cc) }
  starting x cm (call.Add c k ws) one has is = plain-follows x cm owned (change shape pass stand (Inside x cm) phase.Idle (Start (call.Add c k ws)) told w) a b owns (slot_seen-plain shape x c k k 0 (dir_of w)) one has
  starting x cm (call.Look n) one has is = plain-follows x cm owned (change shape pass stand (Inside x cm) phase.Idle (Start (call.Look n)) told w) a b owns (look_started-plain shape cm n w) one has
  starting x cm (call.Read n f) one has is = plain-follows x cm owned (change shape pass stand (Inside x cm) phase.Idle (Start (call.Read n f)) told w) a b owns refl one has
  starting x cm (call.Write n f v) one has is = plain-follows x cm owned (change shape pass stand (Inside x cm) phase.Idle (Start (call.Write n f v)) told w) a b owns refl one has
  starting x cm (call.Remove n) one has is = plain-follows x cm owned (change shape pass stand (Inside x cm) phase.Idle (Start (call.Remove n)) told w) a b owns (remove_started-plain shape n (held_slot stand.held n) (state_of w)) one has
  starting x cm (call.Scan c) one has is = plain-follows x cm owned (change shape pass stand (Inside x cm) phase.Idle (Start (call.Scan c)) told w) a b owns refl one has
  starting x cm (call.Next k) one has is = plain-follows x cm owned (change shape pass stand (Inside x cm) phase.Idle (Start (call.Next k)) told w) a b owns (next_started-plain shape (scan_of stand.scans k) w) one has
  starting x cm (call.Survey c) one has is = plain-follows x cm owned (change shape pass stand (Inside x cm) phase.Idle (Start (call.Survey c)) told w) a b owns (survey-plain shape (counting shape (walk.Directory c 0 no_count) w)) one has
  starting x cm call.Finish one has is = plain-follows x cm owned (change shape pass stand (Inside x cm) phase.Idle (Start call.Finish) told w) a b owns (finish_owned-plain shape x stand.round w) one has
  starting x cm call.Cancel one has is = plain-follows x cm owned (change shape pass stand (Inside x cm) phase.Idle (Start call.Cancel) told w) a b owns (cancel_owned-plain shape stand.round w) one has
  starting x cm (call.Begin c) one has is = go (round_of w)
    where
      go : (seen : Option RoundWord)
          → Follows (Inside x cm) (Inside x cm) (round_seen c seen).phase (round_begun x c seen owned) (round_seen c seen).event (round_seen c seen).answer a b owns
      go None = record { tied = (refl, omega (arith, one)); round = refl; quiet = λ inside none. absurd (cc) }
      go (Some seen) = plain-follows x cm owned (round_seen c (Some seen)) a b owns refl one has

  -- one that begins outside
  outside : (c : Call) → b ≡ a → is_some owned ≡ owns → offer shape pass stand Outside phase.Idle (Start c) ≡ Some o → Made Outside phase.Idle (Start c)
  outside call.Enter same has is = record { tied = (refl, omega (arith, same)); round = has; quiet = λ inside none. (refl, λ owns. refl) }
  outside call.Advance same has is = rests-follows owned (change shape pass stand Outside phase.Idle (Start call.Advance) told w) a b owns (advance_started-rests shape (plain_of w)) same has
  outside call.Note same has is = record { tied = (tt, omega (arith, same)); round = has; quiet = λ inside none. (refl, λ owns. refl) }
  outside (call.Learn j z) same has is = record { tied = (tt, omega (arith, same)); round = has; quiet = λ inside none. absurd (cc) }
  outside call.Leave same has is = absurd (cc)
  outside (call.Add c k ws) same has is = absurd (cc)
  outside (call.Look n) same has is = absurd (cc)
  outside (call.Read n f) same has is = absurd (cc)
  outside (call.Write n f v) same has is = absurd (cc)
  outside (call.Remove n) same has is = absurd (cc)
  outside (call.Scan c) same has is = absurd (cc)
  outside (call.Next k) same has is = absurd (cc)
  outside (call.Survey c) same has is = absurd (cc)
  outside call.Finish same has is = absurd (cc)
  outside call.Cancel same has is = absurd (cc)
  outside (call.Begin c) same has is = absurd (cc)

  advancing : (next : Phase) → IsResting next → b ≡ a → is_some owned ≡ owns_at next owns → offer shape pass stand Outside next Go ≡ Some o → Made Outside next Go
  advancing phase.Idle rest same has is = absurd (cc)
  advancing (phase.Advancing from other) rest same has is = rests-follows owned (change shape pass stand Outside (phase.Advancing from other) Go told w) a b owns (advancing-rests shape from other w) same has
  advancing (phase.Ready from) rest same has is = rests-follows owned (change shape pass stand Outside (phase.Ready from) Go told w) a b owns (ready-rests from w) same has
  advancing phase.Entering rest same has is = elim rest [ ]
  advancing (phase.Look n) rest same has is = elim rest [ ]
  advancing (phase.Add n) rest same has is = elim rest [ ]
  advancing (phase.Remove n) rest same has is = elim rest [ ]
  advancing (phase.Scan n) rest same has is = elim rest [ ]
  advancing (phase.Begin n) rest same has is = elim rest [ ]
  advancing (phase.Finish n) rest same has is = elim rest [ ]
  advancing (phase.Cancel n) rest same has is = elim rest [ ]
  advancing (phase.Survey n) rest same has is = elim rest [ ]

  -- a call whose start was offered is made where none is in progress, so a step of an enter goes on
  in_enter : (section : Section) (next : Phase) (choice : Choice) → is_inside section ≡ false → next ≡ phase.Entering → Tied section phase.Entering a b
      → is_some owned ≡ owns_at next owns → offer shape pass stand section next choice ≡ Some o → Made section next choice
  in_enter section phase.Entering Go not_in same t has is = entering section not_in t has is
  in_enter section phase.Entering (Start c) not_in same t has is = absurd (cc)
  in_enter section phase.Idle choice not_in same t has is = absurd (cc)
  in_enter section (phase.Advancing from other) choice not_in same t has is = absurd (cc)
  in_enter section (phase.Ready from) choice not_in same t has is = absurd (cc)
  in_enter section (phase.Look n) choice not_in same t has is = absurd (cc)
  in_enter section (phase.Add n) choice not_in same t has is = absurd (cc)
  in_enter section (phase.Remove n) choice not_in same t has is = absurd (cc)
  in_enter section (phase.Scan n) choice not_in same t has is = absurd (cc)
  in_enter section (phase.Begin n) choice not_in same t has is = absurd (cc)
  in_enter section (phase.Finish n) choice not_in same t has is = absurd (cc)
  in_enter section (phase.Cancel n) choice not_in same t has is = absurd (cc)
  in_enter section (phase.Survey n) choice not_in same t has is = absurd (cc)

  -- where a step leaves a pass
  pub follows : (section : Section) (next : Phase) (choice : Choice) → Tied section next a b → is_some owned ≡ owns_at next owns
      → offer shape pass stand section next choice ≡ Some o → Made section next choice
  follows Outside next Go t has is = advancing next t.0 t.1 has is
  follows Outside next (Start c) t has is =
      let same : next ≡ phase.Idle = idle-start shape pass stand o Outside next c is in
      subst (λ (k : Phase). Made Outside k (Start c)) (sym same)
      (outside c t.1 (subst (λ (k : Phase). is_some owned ≡ owns_at k owns) same has) (subst (λ (k : Phase). offer shape pass stand Outside k (Start c) ≡ Some o) same is))
  follows (Inside x cm) next Go t has is = going x cm next t.0 t.1 has is
  follows (Inside x cm) next (Start c) t has is =
      let same : next ≡ phase.Idle = idle-start shape pass stand o (Inside x cm) next c is in
      subst (λ (k : Phase). Made (Inside x cm) k (Start c)) (sym same)
      (starting x cm c t.1 (subst (λ (k : Phase). is_some owned ≡ owns_at k owns) same has) (subst (λ (k : Phase). offer shape pass stand (Inside x cm) k (Start c) ≡ Some o) same is))
  follows (Loaded v) next choice t has is = in_enter (Loaded v) next choice refl t.0 (refl, t.1) has is
  follows (Announced v) next choice t has is = in_enter (Announced v) next choice refl t.0 (refl, t.1) has is
  follows (Again v z) next choice t has is = in_enter (Again v z) next choice refl t.0 (refl, t.1) has is
  follows (Lasting z) next choice t has is = in_enter (Lasting z) next choice refl t.0 (refl, t.1) has is
