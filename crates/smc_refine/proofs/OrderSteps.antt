-- The events of a list of steps, one after the other, are an order of the logs that replays.
use Rattle.std.proofs.Common.{◌≡◌, ◌≢◌, ℕ, zero, suc, ◌≤◌, ◌==◌, Bool, true, false, Option, Some, None, List, [], ◌∷◌, ◌++◌, length, append-nil, ◌⊎◌, inl, inr, refl, sym, ap, arith}
use Rattle.std.specs.Prelude.{IfSome, slice_get, slice_set, if◌then◌else◌}
use Rattle.std.proofs.lemmas.List.{length-append}
use Rattle.std.proofs.lemmas.Bool.Decides.{nat_tests}
use Rattle.smc_shape.specs.Layout.{Layout}
use Rattle.smc_model.specs.declared.event.Event.{Event}
use Rattle.smc_model.specs.declared.event.Event.TheVariants as event
use Rattle.smc_model.specs.Order.{IsTold, events_of, events_by, log_of}
use Rattle.smc_model.proofs.OrderLaws.{events_by-own, events_by-other, different}
use Rattle.smc_core.specs.declared.call.Call.{Call}
use Rattle.smc_core.specs.declared.call.Call.TheVariants as call
use Rattle.smc_core.specs.declared.call.Choice.{Choice}
use Rattle.smc_core.specs.declared.call.Choice.TheVariants.{Start, Go}
use Rattle.smc_core.specs.declared.local.Local.{Local}
use Rattle.smc_core.specs.declared.local.Stand.{Stand}
use Rattle.smc_core.specs.declared.word.Word.{Word}
use Rattle.smc_core.specs.declared.phase.Phase.{Phase}
use Rattle.smc_core.specs.declared.phase.Phase.TheVariants as phase
use Rattle.smc_core.specs.declared.section.Section.{Section}
use Rattle.smc_words.specs.declared.number.Number.{Number}
use Rattle.smc_shape.specs.declared.place.Place.TheVariants as place
use Rattle.smc_core.specs.declared.done.Done.TheVariants as done
use Rattle.smc_core.specs.declared.local.Scan.{Scan}
use Rattle.smc_core.specs.declared.phase.objects.AddPhase.{AddPhase}
use Rattle.smc_core.specs.declared.phase.objects.AddPhase.TheVariants as add
use Rattle.smc_core.specs.declared.phase.objects.Finding.{Finding}
use Rattle.smc_core.specs.declared.phase.objects.Finding.TheVariants.{Absent, Stays, Abandons, Helps}
use Rattle.smc_core.specs.declared.phase.objects.LookPhase.TheVariants as look
use Rattle.smc_core.specs.declared.phase.objects.RemovePhase.TheVariants as remove
use Rattle.smc_core.specs.declared.phase.objects.ScanPhase.TheVariants as scan
use Rattle.smc_core.specs.declared.phase.objects.Seeker.{Seeker}
use Rattle.smc_core.specs.declared.phase.objects.Seeker.TheVariants as seeker
use Rattle.smc_core.specs.declared.section.Section.TheVariants.{Outside, Loaded, Announced, Again, Lasting, Inside}
use Rattle.smc_core.specs.declared.word.State as E
use Rattle.smc_core.specs.Add.{add_change}
use Rattle.smc_core.specs.Look.{sought_number, seeker_of, look_finding, look_change, looking_change, visits, passes}
use Rattle.smc_core.specs.Offer.{held_slot}
use Rattle.smc_core.specs.Row.{has_place}
use Rattle.smc_core.specs.Scan.{scan_of, is_over, is_scanned}
use Rattle.smc_core.specs.Section.{epoch_of, is_calm}
use Rattle.smc_core.specs.Step.{goes, goes_telling, ends, tells}
use Rattle.smc_core.specs.Words.{state_of, dir_of, is_gone}
use Rattle.smc_core.specs.Change.{change, go_change, start_change, next_started, look_started, remove_started}
use Rattle.smc_core.specs.Local.{after, logged, notes_after}
use Rattle.smc_core.specs.Told.{adds}
use Rattle.smc_rules.proofs.CarryLaws.{some-same}
use Rattle.smc_refine.specs.Orders.{logs_of}

-- the events that a step tells
abbrev pub told_of : Option Event → List Event
told_of None = []
told_of (Some event) = event ∷ []

-- a log with what a step tells
pub logged-told : (log : List Event) (e : Option Event) → logged log e ≡ log ++ told_of e
logged-told log None = sym (append-nil log)
logged-told log (Some event) = refl

pub events-adds : (pass : ℕ) (e : Option Event) → events_of (adds pass e) ≡ told_of e
events-adds pass None = refl
events-adds pass (Some event) = refl

pub own-adds : (pass : ℕ) (e : Option Event) → events_by pass (adds pass e) ≡ told_of e
own-adds pass None = refl
own-adds pass (Some event) = events_by-own pass event []

pub others-adds : (other pass : ℕ) (e : Option Event) → other ≢ pass → events_by other (adds pass e) ≡ []
others-adds other pass None apart = refl
others-adds other pass (Some event) apart = events_by-other other pass event [] (different pass other (λ same. apart (sym same)))

-- the log of a pass that was put there, and that of another one
pub log-there : (locals : List Local) (pass : ℕ) (l : Local) → slice_get locals pass ≡ Some l → log_of (logs_of locals) pass ≡ l.log
log-there [] pass l here = absurd (cc)
log-there (x ∷ locals) zero l here = ap (λ (k : Local). k.log) (some-same x l here)
log-there (x ∷ locals) (suc pass) l here = log-there locals pass l here

pub log-other : (locals : List Local) (pass other : ℕ) (l' : Local) → other ≢ pass → log_of (logs_of (slice_set locals pass l')) other ≡ log_of (logs_of locals) other
log-other [] pass other l' apart = refl
log-other (x ∷ locals) zero zero l' apart = absurd (apart refl)
log-other (x ∷ locals) zero (suc other) l' apart = refl
log-other (x ∷ locals) (suc pass) zero l' apart = refl
log-other (x ∷ locals) (suc pass) (suc other) l' apart = log-other locals pass other l' (λ e. apart (ap suc e))

-- a list with one more element
get-last : (xs : List ℕ) (y i k : ℕ) → slice_get (xs ++ y ∷ []) i ≡ Some k → (slice_get xs i ≡ Some k) ⊎ (k ≡ y)
get-last [] y zero k is = inr (sym (some-same y k is))
get-last [] y (suc i) k is = absurd (cc)
get-last (x ∷ xs) y zero k is = inl is
get-last (x ∷ xs) y (suc i) k is = get-last xs y i k is

-- no note tells more than its pass's log
abbrev pub IsNoted : Local → Type 0
IsNoted l = (note k : ℕ) → slice_get l.notes note ≡ Some k → k ≤ length l.log

logged-longer : (log : List Event) (e : Option Event) → length log ≤ length (logged log e)
logged-longer log None = omega arith
logged-longer log (Some event) = omega (arith, length-append {A = Event} log (event ∷ []))

pub noted-after : (shape : Layout) (pass : ℕ) (l : Local) (choice : Choice) (told : ℕ) (w : Word) → IsNoted l → IsNoted (after shape pass l choice told w)
noted-after shape pass l choice told w n note k is =
    let longer : length l.log ≤ length (logged l.log (change shape pass l.stand l.stand.section l.stand.phase choice told w).event) = logged-longer l.log (change shape pass l.stand l.stand.section l.stand.phase choice told w).event in
    kept choice (length (logged l.log (change shape pass l.stand l.stand.section l.stand.phase choice told w).event)) is longer
  where
    old : slice_get l.notes note ≡ Some k → (most : ℕ) → length l.log ≤ most → k ≤ most
    old is most lt = let within : k ≤ length l.log = n note k is in omega (arith, within, lt)

    kept : (choice : Choice) (most : ℕ) → slice_get (notes_after l.notes (length l.log) choice) note ≡ Some k → length l.log ≤ most → k ≤ most
    kept Go most is lt = old is most lt
    kept (Start call.Note) most is lt = elim (get-last l.notes (length l.log) note k is) [ inl before ↦ old before most lt | inr now ↦ omega (arith, now, lt) ]
    kept (Start call.Enter) most is lt = old is most lt
    kept (Start call.Leave) most is lt = old is most lt
    kept (Start call.Advance) most is lt = old is most lt
    kept (Start (call.Add c f ws)) most is lt = old is most lt
    kept (Start (call.Look m)) most is lt = old is most lt
    kept (Start (call.Read m f)) most is lt = old is most lt
    kept (Start (call.Write m f v)) most is lt = old is most lt
    kept (Start (call.Remove m)) most is lt = old is most lt
    kept (Start (call.Scan c)) most is lt = old is most lt
    kept (Start (call.Next j)) most is lt = old is most lt
    kept (Start (call.Begin c)) most is lt = old is most lt
    kept (Start call.Finish) most is lt = old is most lt
    kept (Start call.Cancel) most is lt = old is most lt
    kept (Start (call.Survey c)) most is lt = old is most lt
    kept (Start (call.Learn j z)) most is lt = old is most lt

-- what is told of another log is told by learning alone
told-looking : (before : List (ℕ × Event)) (shape : Layout) (who : Seeker) (n : Number) (found : Finding) → IfSome (look_change shape who n found).event (IsTold before)
told-looking before shape seeker.Caller n Absent = tt
told-looking before shape seeker.Caller n (Stays slot) = tt
told-looking before shape seeker.Caller n (Abandons slot) = tt
told-looking before shape seeker.Caller n (Helps slot next) = tt
told-looking before shape (seeker.Scan k c t) n Absent = tt
told-looking before shape (seeker.Scan k c t) n (Stays slot) = go (slot == t)
  where
    go : (b : Bool) → IfSome (if b then visits k n slot else goes (passes shape k c t)).event (IsTold before)
    go true = tt
    go false = tt
told-looking before shape (seeker.Scan k c t) n (Abandons slot) = tt
told-looking before shape (seeker.Scan k c t) n (Helps slot next) = tt

told-adding : (before : List (ℕ × Event)) (shape : Layout) (epoch : ℕ) (words : List ℕ) (next : AddPhase) (w : Word) → IfSome (add_change shape epoch words next w).event (IsTold before)
told-adding before shape epoch words (add.FindSlot c k slot t) w = grind (arith, nat_tests)
told-adding before shape epoch words (add.ClaimSlot c k slot t d) w = grind (arith, nat_tests)
told-adding before shape epoch words (add.FindEntry c slot n t) w = grind (arith, nat_tests)
told-adding before shape epoch words (add.ClaimEntry c slot n t a z) w = grind (arith, nat_tests)
told-adding before shape epoch words (add.DropSlot c slot) w = tt
told-adding before shape epoch words (add.StoreBack slot n) w = tt
told-adding before shape epoch words (add.StoreField slot n f) w = tt
told-adding before shape epoch words (add.StoreValid slot n) w = tt
told-adding before shape epoch words (add.StoreLive slot n) w = tt

told-next : (before : List (ℕ × Event)) (shape : Layout) (begun : Option Scan) (v : Word) → IfSome (next_started shape begun v).event (IsTold before)
told-next before shape None v = tt
told-next before shape (Some begun) v = go begun.ended (is_over shape begun) (is_scanned (dir_of v))
  where
    go : (a b c : Bool)
        → IfSome (if a then ends done.End else if b then tells (event.End begun.number) done.End
        else (if c then goes (phase.Scan (scan.Back begun.number begun.coll begun.place)) else goes (passes shape begun.number begun.coll begun.place))).event (IsTold before)
    go true b c = tt
    go false true c = tt
    go false false true = tt
    go false false false = tt

told-looked : (before : List (ℕ × Event)) (shape : Layout) (cm : Bool) (n : Number) (v : Word) → IfSome (look_started shape cm n v).event (IsTold before)
told-looked before shape cm n v = go (has_place shape (place.Entry n.coll n.entry))
  where
    go : (b : Bool) → IfSome (if b then looking_change shape cm (look.Load seeker.Caller n) v else tells (event.Look n false) done.Null).event (IsTold before)
    go true = told-looking before shape seeker.Caller n (look_finding shape cm (look.Load seeker.Caller n) v)
    go false = tt

told-removing : (before : List (ℕ × Event)) (n : Number) (held : Option ℕ) (v : E.State) → IfSome (remove_started n held v).event (IsTold before)
told-removing before n None v = tt
told-removing before n (Some slot) v = go (is_gone v)
  where
    go : (b : Bool) → IfSome (if b then tells (event.Remove n false) done.Late else goes_telling (event.Remove n true) (phase.Remove (remove.LeaveSlot slot n))).event (IsTold before)
    go true = tt
    go false = tt

pub told-going : (before : List (ℕ × Event)) (shape : Layout) (stand : Stand) (section : Section) (phase : Phase) (w : Word) → IfSome (go_change shape stand section phase w).event (IsTold before)
told-going before shape stand section phase.Idle w = tt
told-going before shape stand Outside phase.Entering w = tt
told-going before shape stand (Loaded v) phase.Entering w = tt
told-going before shape stand (Announced v) phase.Entering w = tt
told-going before shape stand (Again v z) phase.Entering w = tt
told-going before shape stand (Lasting z) phase.Entering w = tt
told-going before shape stand (Inside x cm) phase.Entering w = tt
told-going before shape stand section (phase.Advancing epoch other) w = grind (arith, nat_tests)
told-going before shape stand section (phase.Ready epoch) w = grind (arith, nat_tests)
told-going before shape stand section (phase.Look next) w = told-looking before shape (seeker_of next) (sought_number next) (look_finding shape (is_calm section) next w)
told-going before shape stand section (phase.Add next) w = told-adding before shape (epoch_of section) stand.words next w
told-going before shape stand section (phase.Remove next) w = grind (arith, nat_tests)
told-going before shape stand section (phase.Scan next) w = grind (arith, nat_tests)
told-going before shape stand section (phase.Begin next) w = grind (arith, nat_tests)
told-going before shape stand section (phase.Finish next) w = grind (arith, nat_tests)
told-going before shape stand section (phase.Cancel next) w = grind (arith, nat_tests)
told-going before shape stand section (phase.Survey next) w = grind (arith, nat_tests)

pub told-starting : (before : List (ℕ × Event)) (shape : Layout) (pass : ℕ) (stand : Stand) (section : Section) (next : Call) (told : ℕ) (w : Word)
    → ((other note : ℕ) → next ≡ call.Learn other note → told ≤ length (events_by other before))
    → IfSome (start_change shape pass stand section next told w).event (IsTold before)
told-starting before shape pass stand section (call.Learn other note) told w learnt = learnt other note refl
told-starting before shape pass stand section (call.Look n) told w learnt = told-looked before shape (is_calm section) n w
told-starting before shape pass stand section (call.Remove n) told w learnt = told-removing before n (held_slot stand.held n) (state_of w)
told-starting before shape pass stand section (call.Next k) told w learnt = told-next before shape (scan_of stand.scans k) w
told-starting before shape pass stand section call.Enter told w learnt = tt
told-starting before shape pass stand section call.Leave told w learnt = tt
told-starting before shape pass stand section call.Advance told w learnt = grind (arith, nat_tests)
told-starting before shape pass stand section (call.Add c k ws) told w learnt = grind (arith, nat_tests)
told-starting before shape pass stand section (call.Read n f) told w learnt = tt
told-starting before shape pass stand section (call.Write n f v) told w learnt = tt
told-starting before shape pass stand section (call.Scan c) told w learnt = tt
told-starting before shape pass stand section (call.Begin c) told w learnt = grind (arith, nat_tests)
told-starting before shape pass stand section call.Finish told w learnt = grind (arith, nat_tests)
told-starting before shape pass stand section call.Cancel told w learnt = grind (arith, nat_tests)
told-starting before shape pass stand section (call.Survey c) told w learnt = grind (arith, nat_tests)
told-starting before shape pass stand section call.Note told w learnt = tt
