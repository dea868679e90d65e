-- What a step tells adds a record of its collection's width, or none.
use Rattle.std.proofs.Common.{◌≡◌, ℕ, ◌==◌, Bool, true, false, Option, Some, None, List, length, refl, arith}
use Rattle.std.specs.Prelude.{IfSome, if◌then◌else◌}
use Rattle.std.proofs.lemmas.Bool.Decides.{nat_tests}
use Rattle.smc_shape.specs.Layout.{Layout}
use Rattle.smc_model.specs.declared.event.Event.TheVariants as event
use Rattle.smc_core.specs.declared.call.Call.{Call}
use Rattle.smc_core.specs.declared.call.Call.TheVariants as call
use Rattle.smc_core.specs.declared.call.Choice.{Choice}
use Rattle.smc_core.specs.declared.call.Choice.TheVariants.{Start, Go}
use Rattle.smc_core.specs.declared.local.Stand.{Stand}
use Rattle.smc_core.specs.declared.word.Word.{Word}
use Rattle.smc_core.specs.declared.phase.Phase.{Phase}
use Rattle.smc_core.specs.declared.phase.Phase.TheVariants as phase
use Rattle.smc_core.specs.declared.section.Section.{Section}
use Rattle.smc_words.specs.declared.number.Number.{Number}
use Rattle.smc_shape.specs.declared.place.Place.TheVariants as place
use Rattle.smc_core.specs.declared.done.Done.TheVariants as done
use Rattle.smc_core.specs.declared.local.Scan.{Scan}
use Rattle.smc_core.specs.declared.phase.objects.AddPhase.{AddPhase}
use Rattle.smc_core.specs.declared.phase.objects.AddPhase.TheVariants as add
use Rattle.smc_core.specs.declared.phase.objects.Finding.{Finding}
use Rattle.smc_core.specs.declared.phase.objects.Finding.TheVariants.{Absent, Stays, Abandons, Helps}
use Rattle.smc_core.specs.declared.phase.objects.LookPhase.TheVariants as look
use Rattle.smc_core.specs.declared.phase.objects.RemovePhase.TheVariants as remove
use Rattle.smc_core.specs.declared.phase.objects.ScanPhase.TheVariants as scan
use Rattle.smc_core.specs.declared.phase.objects.Seeker.{Seeker}
use Rattle.smc_core.specs.declared.phase.objects.Seeker.TheVariants as seeker
use Rattle.smc_core.specs.declared.section.Section.TheVariants.{Outside, Loaded, Announced, Again, Lasting, Inside}
use Rattle.smc_core.specs.declared.word.State as E
use Rattle.smc_core.specs.Add.{add_change}
use Rattle.smc_core.specs.Look.{sought_number, seeker_of, look_finding, look_change, looking_change, visits, passes}
use Rattle.smc_core.specs.Offer.{held_slot}
use Rattle.smc_core.specs.Row.{has_place}
use Rattle.smc_core.specs.Scan.{scan_of, is_over, is_scanned}
use Rattle.smc_core.specs.Section.{epoch_of, is_calm}
use Rattle.smc_core.specs.Step.{goes, goes_telling, ends, tells}
use Rattle.smc_core.specs.Words.{state_of, dir_of, is_gone}
use Rattle.smc_core.specs.Change.{go_change, start_change, next_started, look_started, remove_started}
use Rattle.smc_agreement.specs.Records.{adds_to}
use Rattle.smc_shape.specs.Layout.{width_of}
use Rattle.smc_rules.specs.State.{State, stand_change}
use Rattle.smc_core.specs.declared.local.Opening.{Opening}
use Rattle.std.specs.Prelude.{◌<◌}
use Rattle.smc_laws.proofs.Everything.{Everything}
use Rattle.smc_refine.proofs.SizeLaws.{HasWidth}

-- only the last step of an add adds, and then a record of the collection's width
width-looking : (shape : Layout) (who : Seeker) (n : Number) (found : Finding) → IfSome (look_change shape who n found).event (HasWidth shape)
width-looking shape seeker.Caller n Absent = tt
width-looking shape seeker.Caller n (Stays slot) = tt
width-looking shape seeker.Caller n (Abandons slot) = tt
width-looking shape seeker.Caller n (Helps slot next) = tt
width-looking shape (seeker.Scan k c t) n Absent = tt
width-looking shape (seeker.Scan k c t) n (Stays slot) = go (slot == t)
  where
    go : (b : Bool) → IfSome (if b then visits k n slot else goes (passes shape k c t)).event (HasWidth shape)
    go true = tt
    go false = tt
width-looking shape (seeker.Scan k c t) n (Abandons slot) = tt
width-looking shape (seeker.Scan k c t) n (Helps slot next) = tt

width-adding : (shape : Layout) (epoch : ℕ) (words : List ℕ) (next : AddPhase) (w : Word) → ((c : ℕ) → adds_to (phase.Add next) ≡ Some c → length words ≡ width_of shape c) → IfSome (add_change shape epoch words next w).event (HasWidth shape)
width-adding shape epoch words (add.FindSlot c k slot t) w has = grind (arith, nat_tests)
width-adding shape epoch words (add.ClaimSlot c k slot t d) w has = grind (arith, nat_tests)
width-adding shape epoch words (add.FindEntry c slot n t) w has = grind (arith, nat_tests)
width-adding shape epoch words (add.ClaimEntry c slot n t a z) w has = grind (arith, nat_tests)
width-adding shape epoch words (add.DropSlot c slot) w has = tt
width-adding shape epoch words (add.StoreBack slot n) w has = tt
width-adding shape epoch words (add.StoreField slot n f) w has = tt
width-adding shape epoch words (add.StoreValid slot n) w has = tt
width-adding shape epoch words (add.StoreLive slot n) w has = has n.coll refl

width-next : (shape : Layout) (begun : Option Scan) (v : Word) → IfSome (next_started shape begun v).event (HasWidth shape)
width-next shape None v = tt
width-next shape (Some begun) v = go begun.ended (is_over shape begun) (is_scanned (dir_of v))
  where
    go : (a b c : Bool)
        → IfSome (if a then ends done.End else if b then tells (event.End begun.number) done.End
        else (if c then goes (phase.Scan (scan.Back begun.number begun.coll begun.place)) else goes (passes shape begun.number begun.coll begun.place))).event (HasWidth shape)
    go true b c = tt
    go false true c = tt
    go false false true = tt
    go false false false = tt

width-looked : (shape : Layout) (cm : Bool) (n : Number) (v : Word) → IfSome (look_started shape cm n v).event (HasWidth shape)
width-looked shape cm n v = go (has_place shape (place.Entry n.coll n.entry))
  where
    go : (b : Bool) → IfSome (if b then looking_change shape cm (look.Load seeker.Caller n) v else tells (event.Look n false) done.Null).event (HasWidth shape)
    go true = width-looking shape seeker.Caller n (look_finding shape cm (look.Load seeker.Caller n) v)
    go false = tt

width-removing : (shape : Layout) (n : Number) (held : Option ℕ) (v : E.State) → IfSome (remove_started n held v).event (HasWidth shape)
width-removing shape n None v = tt
width-removing shape n (Some slot) v = go (is_gone v)
  where
    go : (b : Bool) → IfSome (if b then tells (event.Remove n false) done.Late else goes_telling (event.Remove n true) (phase.Remove (remove.LeaveSlot slot n))).event (HasWidth shape)
    go true = tt
    go false = tt

pub width-going : (shape : Layout) (stand : Stand) (section : Section) (phase : Phase) (w : Word) → ((c : ℕ) → adds_to phase ≡ Some c → length stand.words ≡ width_of shape c) → IfSome (go_change shape stand section phase w).event (HasWidth shape)
width-going shape stand section phase.Idle w has = tt
width-going shape stand Outside phase.Entering w has = tt
width-going shape stand (Loaded v) phase.Entering w has = tt
width-going shape stand (Announced v) phase.Entering w has = tt
width-going shape stand (Again v z) phase.Entering w has = tt
width-going shape stand (Lasting z) phase.Entering w has = tt
width-going shape stand (Inside x cm) phase.Entering w has = tt
width-going shape stand section (phase.Advancing epoch other) w has = grind (arith, nat_tests)
width-going shape stand section (phase.Ready epoch) w has = grind (arith, nat_tests)
width-going shape stand section (phase.Look next) w has = width-looking shape (seeker_of next) (sought_number next) (look_finding shape (is_calm section) next w)
width-going shape stand section (phase.Add next) w has = width-adding shape (epoch_of section) stand.words next w has
width-going shape stand section (phase.Remove next) w has = grind (arith, nat_tests)
width-going shape stand section (phase.Scan next) w has = grind (arith, nat_tests)
width-going shape stand section (phase.Begin next) w has = grind (arith, nat_tests)
width-going shape stand section (phase.Finish next) w has = grind (arith, nat_tests)
width-going shape stand section (phase.Cancel next) w has = grind (arith, nat_tests)
width-going shape stand section (phase.Survey next) w has = grind (arith, nat_tests)

pub width-starting : (shape : Layout) (pass : ℕ) (stand : Stand) (section : Section) (next : Call) (told : ℕ) (w : Word)
    → IfSome (start_change shape pass stand section next told w).event (HasWidth shape)
width-starting shape pass stand section (call.Learn other note) told w = tt
width-starting shape pass stand section (call.Look n) told w = width-looked shape (is_calm section) n w
width-starting shape pass stand section (call.Remove n) told w = width-removing shape n (held_slot stand.held n) (state_of w)
width-starting shape pass stand section (call.Next k) told w = width-next shape (scan_of stand.scans k) w
width-starting shape pass stand section call.Enter told w = tt
width-starting shape pass stand section call.Leave told w = tt
width-starting shape pass stand section call.Advance told w = grind (arith, nat_tests)
width-starting shape pass stand section (call.Add c k ws) told w = grind (arith, nat_tests)
width-starting shape pass stand section (call.Read n f) told w = tt
width-starting shape pass stand section (call.Write n f v) told w = tt
width-starting shape pass stand section (call.Scan c) told w = tt
width-starting shape pass stand section (call.Begin c) told w = grind (arith, nat_tests)
width-starting shape pass stand section call.Finish told w = grind (arith, nat_tests)
width-starting shape pass stand section call.Cancel told w = grind (arith, nat_tests)
width-starting shape pass stand section (call.Survey c) told w = grind (arith, nat_tests)
width-starting shape pass stand section call.Note told w = tt

-- so it is in every state
pub width-told : (opening : Opening) (shape : Layout) (s : State) (h : Everything opening shape s) (pass told : ℕ) (choice : Choice) (w : Word) → pass < shape.passes
    → IfSome (stand_change shape pass (s.stands pass) choice told w).event (HasWidth shape)
width-told opening shape s h pass told Go w within = width-going shape (s.stands pass) (s.stands pass).section (s.stands pass).phase w (λ c adds. h.records.c_record pass c within adds)
width-told opening shape s h pass told (Start next) w within = width-starting shape pass (s.stands pass) (s.stands pass).section next told w
