-- The event of each kind of step fits the marks. Written by tools/marks.py.
use Rattle.std.proofs.Common.{ℕ, ◌+◌, Some, None, slice_index, arith}
use Rattle.std.proofs.lemmas.Bool.Decides.{nat_tests}
use Rattle.smc_words.specs.declared.layout.TheConstants.{BLANK}
use Rattle.smc_words.specs.declared.dir.Dir.TheVariants as dir
use Rattle.smc_shape.specs.declared.place.Place.TheVariants as place
use Rattle.smc_core.specs.declared.call.Call.TheVariants as call
use Rattle.smc_core.specs.declared.call.Choice.TheVariants.{Start, Go}
use Rattle.smc_core.specs.declared.op.Op.TheVariants.{Load, Store, Exchange, MarkGone}
use Rattle.smc_core.specs.declared.phase.Phase.TheVariants as phase
use Rattle.smc_core.specs.declared.phase.moves.BeginPhase.TheVariants as begin
use Rattle.smc_core.specs.declared.phase.moves.CancelPhase.TheVariants as cancel
use Rattle.smc_core.specs.declared.phase.moves.CountPhase.TheVariants as walk
use Rattle.smc_core.specs.declared.phase.moves.FinishPhase.TheVariants as finish
use Rattle.smc_core.specs.declared.phase.objects.AddPhase.TheVariants as add
use Rattle.smc_core.specs.declared.phase.objects.CopyPhase.TheVariants as copy
use Rattle.smc_core.specs.declared.phase.objects.LookPhase.TheVariants as look
use Rattle.smc_core.specs.declared.phase.objects.RemovePhase.TheVariants as remove
use Rattle.smc_core.specs.declared.phase.objects.ScanPhase.TheVariants as scan
use Rattle.smc_core.specs.declared.section.Section.TheVariants.{Outside, Loaded, Announced, Again, Lasting, Inside}
use Rattle.smc_core.specs.declared.word.State.TheVariants as state
use Rattle.smc_core.specs.declared.word.Word.TheVariants as word
use Rattle.smc_rules.specs.Reads.{object}
use Rattle.smc_core.specs.Change.{change}
use Rattle.smc_rules.specs.Memory.{seen}
use Rattle.smc_inv_scan.specs.Marks.{Marks}
use Rattle.smc_inv_scan.proofs.EachStep.{EachStep}
use Rattle.smc_inv_scan.proofs.MarkSteps.{Known, EventFits}
use Rattle.smc_inv_scan.proofs.FitLaws.{plain_fits, load_fits, abandon_fits, swing_fits, end_fits, next_fits}

pub fits-each : (ms : ℕ → Marks) → EachStep (Known ms) (EventFits ms)
fits-each ms = record {
  enter = λ sh st p told in_n at_sec at_call h kn. plain_fits sh st ms p (change sh p (st.stands p) Outside phase.Idle (Start call.Enter) told (seen (Load place.Epoch) st.memory)).event (grind (arith, nat_tests));
  announce = λ sh st p v told in_n at_sec at_call h kn. plain_fits sh st ms p (change sh p (st.stands p) (Loaded v) phase.Entering Go told (seen (Store (place.Section p) (word.Plain v)) st.memory)).event (grind (arith, nat_tests));
  again = λ sh st p v told in_n at_sec at_call h kn. plain_fits sh st ms p (change sh p (st.stands p) (Announced v) phase.Entering Go told (seen (Load place.Epoch) st.memory)).event (grind (arith, nat_tests));
  lasting = λ sh st p v z told in_n at_sec at_call h kn. plain_fits sh st ms p (change sh p (st.stands p) (Again v z) phase.Entering Go told (seen (Store (place.Section p) (word.Plain z)) st.memory)).event (grind (arith, nat_tests));
  entered = λ sh st p z told in_n at_sec at_call h kn. plain_fits sh st ms p (change sh p (st.stands p) (Lasting z) phase.Entering Go told (seen (Load place.Round) st.memory)).event (grind (arith, nat_tests));
  leave = λ sh st p x calm told in_n at_sec at_call h kn. plain_fits sh st ms p (change sh p (st.stands p) (Inside x calm) phase.Idle (Start call.Leave) told (seen (Store (place.Section p) (word.Plain 0)) st.memory)).event (grind (arith, nat_tests));
  advance = λ sh st p told in_n at_sec at_call h kn. plain_fits sh st ms p (change sh p (st.stands p) Outside phase.Idle (Start call.Advance) told (seen (Load place.Epoch) st.memory)).event (grind (arith, nat_tests));
  advancing = λ sh st p sec z k told in_n at_sec at_call h kn. plain_fits sh st ms p (change sh p (st.stands p) sec (phase.Advancing z k) Go told (seen (Load (place.Section k)) st.memory)).event (grind (arith, nat_tests));
  ready = λ sh st p sec z told in_n at_sec at_call h kn. plain_fits sh st ms p (change sh p (st.stands p) sec (phase.Ready z) Go told (seen (Exchange place.Epoch (word.Plain z) (word.Plain (z + 1))) st.memory)).event (grind (arith, nat_tests));
  note = λ sh st p told in_n at_sec at_call h kn. plain_fits sh st ms p (change sh p (st.stands p) Outside phase.Idle (Start call.Note) told (seen (Load place.Epoch) st.memory)).event (grind (arith, nat_tests));
  learn = λ sh st p k z told in_n at_sec at_call h kn. plain_fits sh st ms p (change sh p (st.stands p) Outside phase.Idle (Start (call.Learn k z)) told (seen (Load place.Epoch) st.memory)).event (grind (arith, nat_tests));
  starts_add = λ sh st p x calm c k ws told in_n at_sec at_call pre1 h kn. plain_fits sh st ms p (change sh p (st.stands p) (Inside x calm) phase.Idle (Start (call.Add c k ws)) told (seen (Load (place.Directory c k)) st.memory)).event (grind (arith, nat_tests));
  find_slot = λ sh st p x calm c k s t told in_n at_sec at_call h kn. plain_fits sh st ms p (change sh p (st.stands p) (Inside x calm) (phase.Add (add.FindSlot c k s t)) Go told (seen (Load (place.Directory c s)) st.memory)).event (grind (arith, nat_tests));
  claim_slot = λ sh st p x calm c k s t d told in_n at_sec at_call h kn. plain_fits sh st ms p (change sh p (st.stands p) (Inside x calm) (phase.Add (add.ClaimSlot c k s t d)) Go told (seen (Exchange (place.Directory c s) (word.Directory d) (word.Directory dir.Claimed)) st.memory)).event (grind (arith, nat_tests));
  find_entry = λ sh st p x calm c s e t told in_n at_sec at_call h kn. plain_fits sh st ms p (change sh p (st.stands p) (Inside x calm) (phase.Add (add.FindEntry c s e t)) Go told (seen (Load (place.Entry c e)) st.memory)).event (grind (arith, nat_tests));
  claim_entry = λ sh st p x calm c s e t a z told in_n at_sec at_call h kn. plain_fits sh st ms p (change sh p (st.stands p) (Inside x calm) (phase.Add (add.ClaimEntry c s e t a z)) Go told (seen (Exchange (place.Entry c e) (word.Entry (state.Free a z)) (word.Entry (state.Claimed (a + 1)))) st.memory)).event (grind (arith, nat_tests));
  drop_slot = λ sh st p x calm c s told in_n at_sec at_call h kn. plain_fits sh st ms p (change sh p (st.stands p) (Inside x calm) (phase.Add (add.DropSlot c s)) Go told (seen (Store (place.Directory c s) (word.Directory dir.Free)) st.memory)).event (grind (arith, nat_tests));
  store_back = λ sh st p x calm c s a e told in_n at_sec at_call h kn. plain_fits sh st ms p (change sh p (st.stands p) (Inside x calm) (phase.Add (add.StoreBack s (object a e c))) Go told (seen (Store (place.Back c s) (word.Back (Some (object a e c)))) st.memory)).event (grind (arith, nat_tests));
  store_field = λ sh st p x calm c s a e f told in_n at_sec at_call h kn. plain_fits sh st ms p (change sh p (st.stands p) (Inside x calm) (phase.Add (add.StoreField s (object a e c) f)) Go told (seen (Store (place.Field c s f) (word.Plain (slice_index (st.stands p).words f))) st.memory)).event (grind (arith, nat_tests));
  store_valid = λ sh st p x calm c s a e told in_n at_sec at_call h kn. plain_fits sh st ms p (change sh p (st.stands p) (Inside x calm) (phase.Add (add.StoreValid s (object a e c))) Go told (seen (Store (place.Directory c s) (word.Directory dir.Valid)) st.memory)).event (grind (arith, nat_tests));
  store_live = λ sh st p x calm c s a e told in_n at_sec at_call h kn. plain_fits sh st ms p (change sh p (st.stands p) (Inside x calm) (phase.Add (add.StoreLive s (object a e c))) Go told (seen (Store (place.Entry c e) (word.Entry (state.Present a s))) st.memory)).event (grind (arith, nat_tests));
  starts_look = λ sh st p x calm c a e told in_n at_sec at_call pre1 h kn. plain_fits sh st ms p (change sh p (st.stands p) (Inside x calm) phase.Idle (Start (call.Look (object a e c))) told (seen (Load (place.Entry c e)) st.memory)).event (grind (arith, nat_tests));
  look_out = λ sh st p x calm c a e told in_n at_sec at_call pre1 h kn. plain_fits sh st ms p (change sh p (st.stands p) (Inside x calm) phase.Idle (Start (call.Look (object a e c))) told (seen (Load (place.Section p)) st.memory)).event (grind (arith, nat_tests));
  look_load = λ sh st p x calm who c a e told in_n at_sec at_call h kn. load_fits ms sh st h kn p in_n x calm who c a e at_call;
  abandon = λ sh st p x calm who c a e q told in_n at_sec at_call h kn. abandon_fits ms sh st h kn p in_n x calm who c a e q at_call;
  l_fwd = λ sh st p x calm who c a e q told in_n at_sec at_call h kn. plain_fits sh st ms p (change sh p (st.stands p) (Inside x calm) (phase.Look (look.Help who (object a e c) q copy.Target)) Go told (seen (Load (place.Forward c q)) st.memory)).event (grind (arith, nat_tests));
  l_read = λ sh st p x calm who c a e q t f told in_n at_sec at_call h kn. plain_fits sh st ms p (change sh p (st.stands p) (Inside x calm) (phase.Look (look.Help who (object a e c) q (copy.Load t f))) Go told (seen (Load (place.Field c q f)) st.memory)).event (grind (arith, nat_tests));
  l_put = λ sh st p x calm who c a e q t f w told in_n at_sec at_call h kn. plain_fits sh st ms p (change sh p (st.stands p) (Inside x calm) (phase.Look (look.Help who (object a e c) q (copy.Put t f w))) Go told (seen (Exchange (place.Field c t f) (word.Plain BLANK) (word.Plain w)) st.memory)).event (grind (arith, nat_tests));
  l_swing = λ sh st p x calm who c a e q t told in_n at_sec at_call h kn. swing_fits ms sh st h kn p in_n x calm who c a e q t at_call;
  read = λ sh st p x calm c a e q f told in_n at_sec at_call pre1 pre2 h kn. plain_fits sh st ms p (change sh p (st.stands p) (Inside x calm) phase.Idle (Start (call.Read (object a e c) f)) told (seen (Load (place.Field c q f)) st.memory)).event (grind (arith, nat_tests));
  write = λ sh st p x calm c a e q f w told in_n at_sec at_call pre1 pre2 h kn. plain_fits sh st ms p (change sh p (st.stands p) (Inside x calm) phase.Idle (Start (call.Write (object a e c) f w)) told (seen (Store (place.Field c q f) (word.Plain w)) st.memory)).event (grind (arith, nat_tests));
  starts_remove = λ sh st p x calm c a e q told in_n at_sec at_call pre1 h kn. plain_fits sh st ms p (change sh p (st.stands p) (Inside x calm) phase.Idle (Start (call.Remove (object a e c))) told (seen (MarkGone c e) st.memory)).event (grind (arith, nat_tests));
  leave_slot = λ sh st p x calm c a e q told in_n at_sec at_call h kn. plain_fits sh st ms p (change sh p (st.stands p) (Inside x calm) (phase.Remove (remove.LeaveSlot q (object a e c))) Go told (seen (Store (place.Directory c q) (word.Directory (dir.Limbo (x + 1)))) st.memory)).event (grind (arith, nat_tests));
  free_entry = λ sh st p x calm c a e told in_n at_sec at_call h kn. plain_fits sh st ms p (change sh p (st.stands p) (Inside x calm) (phase.Remove (remove.FreeEntry (object a e c))) Go told (seen (Store (place.Entry c e) (word.Entry (state.Free a (x + 1)))) st.memory)).event (grind (arith, nat_tests));
  starts_scan = λ sh st p x calm c told in_n at_sec at_call h kn. plain_fits sh st ms p (change sh p (st.stands p) (Inside x calm) phase.Idle (Start (call.Scan c)) told (seen (Load (place.Section p)) st.memory)).event (grind (arith, nat_tests));
  next_over = λ sh st p x calm k b1 told in_n at_sec at_call pre1 pre2 h kn. next_fits ms sh st h kn p in_n k b1 (st.memory (place.Section p)) pre1 pre2;
  next_slot = λ sh st p x calm k b1 told in_n at_sec at_call pre1 pre2 h kn. plain_fits sh st ms p (change sh p (st.stands p) (Inside x calm) phase.Idle (Start (call.Next k)) told (seen (Load (place.Directory b1.coll b1.place)) st.memory)).event (grind (arith, nat_tests));
  scan_dir = λ sh st p x calm k c t told in_n at_sec at_call h kn. plain_fits sh st ms p (change sh p (st.stands p) (Inside x calm) (phase.Scan (scan.Directory k c t)) Go told (seen (Load (place.Directory c t)) st.memory)).event (grind (arith, nat_tests));
  scan_back = λ sh st p x calm k c t told in_n at_sec at_call h kn. plain_fits sh st ms p (change sh p (st.stands p) (Inside x calm) (phase.Scan (scan.Back k c t)) Go told (seen (Load (place.Back c t)) st.memory)).event (grind (arith, nat_tests));
  scan_end = λ sh st p x calm k told in_n at_sec at_call h kn. end_fits ms sh st h kn p in_n k at_call;
  survey = λ sh st p x calm c told in_n at_sec at_call h kn. plain_fits sh st ms p (change sh p (st.stands p) (Inside x calm) phase.Idle (Start (call.Survey c)) told (seen (Load (place.Directory c 0)) st.memory)).event (grind (arith, nat_tests));
  survey_dir = λ sh st p x calm c t cnt told in_n at_sec at_call h kn. plain_fits sh st ms p (change sh p (st.stands p) (Inside x calm) (phase.Survey (walk.Directory c t cnt)) Go told (seen (Load (place.Directory c t)) st.memory)).event (grind (arith, nat_tests));
  survey_back = λ sh st p x calm c t cnt told in_n at_sec at_call h kn. plain_fits sh st ms p (change sh p (st.stands p) (Inside x calm) (phase.Survey (walk.Back c t cnt)) Go told (seen (Load (place.Back c t)) st.memory)).event (grind (arith, nat_tests));
  survey_entry = λ sh st p x calm c t cnt c2 a e told in_n at_sec at_call h kn. plain_fits sh st ms p (change sh p (st.stands p) (Inside x calm) (phase.Survey (walk.Entry c t cnt (object a e c2))) Go told (seen (Load (place.Entry c2 e)) st.memory)).event (grind (arith, nat_tests));
  starts_begin = λ sh st p x calm c told in_n at_sec at_call h kn. plain_fits sh st ms p (change sh p (st.stands p) (Inside x calm) phase.Idle (Start (call.Begin c)) told (seen (Exchange place.Round (word.Round None) (word.Round (Some (record { bound = x + 1; pass = p; coll = c })))) st.memory)).event (grind (arith, nat_tests));
  count_dir = λ sh st p x calm c t cnt told in_n at_sec at_call h kn. plain_fits sh st ms p (change sh p (st.stands p) (Inside x calm) (phase.Begin (begin.Count (walk.Directory c t cnt))) Go told (seen (Load (place.Directory c t)) st.memory)).event (grind (arith, nat_tests));
  count_back = λ sh st p x calm c t cnt told in_n at_sec at_call h kn. plain_fits sh st ms p (change sh p (st.stands p) (Inside x calm) (phase.Begin (begin.Count (walk.Back c t cnt))) Go told (seen (Load (place.Back c t)) st.memory)).event (grind (arith, nat_tests));
  count_entry = λ sh st p x calm c t cnt c2 a e told in_n at_sec at_call h kn. plain_fits sh st ms p (change sh p (st.stands p) (Inside x calm) (phase.Begin (begin.Count (walk.Entry c t cnt (object a e c2)))) Go told (seen (Load (place.Entry c2 e)) st.memory)).event (grind (arith, nat_tests));
  nothing = λ sh st p x calm c told in_n at_sec at_call h kn. plain_fits sh st ms p (change sh p (st.stands p) (Inside x calm) (phase.Begin (begin.Nothing c)) Go told (seen (Store place.Round (word.Round None)) st.memory)).event (grind (arith, nat_tests));
  source_dir = λ sh st p x calm m told in_n at_sec at_call h kn. plain_fits sh st ms p (change sh p (st.stands p) (Inside x calm) (phase.Begin (begin.SourceDirectory m)) Go told (seen (Load (place.Directory m.coll m.source)) st.memory)).event (grind (arith, nat_tests));
  source_back = λ sh st p x calm m told in_n at_sec at_call h kn. plain_fits sh st ms p (change sh p (st.stands p) (Inside x calm) (phase.Begin (begin.SourceBack m)) Go told (seen (Load (place.Back m.coll m.source)) st.memory)).event (grind (arith, nat_tests));
  source_entry = λ sh st p x calm m a e told in_n at_sec at_call h kn. plain_fits sh st ms p (change sh p (st.stands p) (Inside x calm) (phase.Begin (begin.SourceEntry m (object a e m.coll))) Go told (seen (Load (place.Entry m.coll e)) st.memory)).event (grind (arith, nat_tests));
  target_dir = λ sh st p x calm m a e told in_n at_sec at_call h kn. plain_fits sh st ms p (change sh p (st.stands p) (Inside x calm) (phase.Begin (begin.TargetDirectory m (object a e m.coll))) Go told (seen (Load (place.Directory m.coll m.target)) st.memory)).event (grind (arith, nat_tests));
  claim_target = λ sh st p x calm m a e d told in_n at_sec at_call h kn. plain_fits sh st ms p (change sh p (st.stands p) (Inside x calm) (phase.Begin (begin.ClaimTarget m (object a e m.coll) d)) Go told (seen (Exchange (place.Directory m.coll m.target) (word.Directory d) (word.Directory dir.Claimed)) st.memory)).event (grind (arith, nat_tests));
  blank_field = λ sh st p x calm m a e f told in_n at_sec at_call h kn. plain_fits sh st ms p (change sh p (st.stands p) (Inside x calm) (phase.Begin (begin.BlankField m (object a e m.coll) f)) Go told (seen (Store (place.Field m.coll m.target f) (word.Plain BLANK)) st.memory)).event (grind (arith, nat_tests));
  name_target = λ sh st p x calm m a e told in_n at_sec at_call h kn. plain_fits sh st ms p (change sh p (st.stands p) (Inside x calm) (phase.Begin (begin.StoreBack m (object a e m.coll))) Go told (seen (Store (place.Back m.coll m.target) (word.Back (Some (object a e m.coll)))) st.memory)).event (grind (arith, nat_tests));
  lead_source = λ sh st p x calm m a e told in_n at_sec at_call h kn. plain_fits sh st ms p (change sh p (st.stands p) (Inside x calm) (phase.Begin (begin.StoreForward m (object a e m.coll))) Go told (seen (Store (place.Forward m.coll m.source) (word.Forward m.target)) st.memory)).event (grind (arith, nat_tests));
  store_incoming = λ sh st p x calm m a e told in_n at_sec at_call h kn. plain_fits sh st ms p (change sh p (st.stands p) (Inside x calm) (phase.Begin (begin.StoreIncoming m (object a e m.coll))) Go told (seen (Store (place.Directory m.coll m.target) (word.Directory dir.Incoming)) st.memory)).event (grind (arith, nat_tests));
  freeze = λ sh st p x calm m a e told in_n at_sec at_call h kn. plain_fits sh st ms p (change sh p (st.stands p) (Inside x calm) (phase.Begin (begin.Freeze m (object a e m.coll))) Go told (seen (Exchange (place.Entry m.coll e) (word.Entry (state.Present a m.source)) (word.Entry (state.Frozen a m.source))) st.memory)).event (grind (arith, nat_tests));
  begin_gives = λ sh st p x calm m told in_n at_sec at_call h kn. plain_fits sh st ms p (change sh p (st.stands p) (Inside x calm) (phase.Begin (begin.GiveUp m)) Go told (seen (Store (place.Directory m.coll m.target) (word.Directory (dir.Limbo (x + 1)))) st.memory)).event (grind (arith, nat_tests));
  starts_finish = λ sh st p x calm b c told in_n at_sec at_call pre1 pre2 h kn. plain_fits sh st ms p (change sh p (st.stands p) (Inside x calm) phase.Idle (Start call.Finish) told (seen (Load (place.Directory c 0)) st.memory)).event (grind (arith, nat_tests));
  finish_early = λ sh st p x calm b c told in_n at_sec at_call pre1 pre2 h kn. plain_fits sh st ms p (change sh p (st.stands p) (Inside x calm) phase.Idle (Start call.Finish) told (seen (Load (place.Section p)) st.memory)).event (grind (arith, nat_tests));
  finish_dir = λ sh st p x calm g told in_n at_sec at_call h kn. plain_fits sh st ms p (change sh p (st.stands p) (Inside x calm) (phase.Finish (finish.Directory g)) Go told (seen (Load (place.Directory g.coll g.slot)) st.memory)).event (grind (arith, nat_tests));
  finish_back = λ sh st p x calm g told in_n at_sec at_call h kn. plain_fits sh st ms p (change sh p (st.stands p) (Inside x calm) (phase.Finish (finish.Back g)) Go told (seen (Load (place.Back g.coll g.slot)) st.memory)).event (grind (arith, nat_tests));
  finish_entry = λ sh st p x calm g a e told in_n at_sec at_call h kn. plain_fits sh st ms p (change sh p (st.stands p) (Inside x calm) (phase.Finish (finish.Entry g (object a e g.coll))) Go told (seen (Load (place.Entry g.coll e)) st.memory)).event (grind (arith, nat_tests));
  lock = λ sh st p x calm g a e q told in_n at_sec at_call h kn. plain_fits sh st ms p (change sh p (st.stands p) (Inside x calm) (phase.Finish (finish.Lock g (object a e g.coll) q)) Go told (seen (Exchange (place.Entry g.coll e) (word.Entry (state.Frozen a q)) (word.Entry (state.Locked a q))) st.memory)).event (grind (arith, nat_tests));
  f_fwd = λ sh st p x calm g a e q told in_n at_sec at_call h kn. plain_fits sh st ms p (change sh p (st.stands p) (Inside x calm) (phase.Finish (finish.Move g (object a e g.coll) q copy.Target)) Go told (seen (Load (place.Forward g.coll q)) st.memory)).event (grind (arith, nat_tests));
  f_read = λ sh st p x calm g a e q t f told in_n at_sec at_call h kn. plain_fits sh st ms p (change sh p (st.stands p) (Inside x calm) (phase.Finish (finish.Move g (object a e g.coll) q (copy.Load t f))) Go told (seen (Load (place.Field g.coll q f)) st.memory)).event (grind (arith, nat_tests));
  f_put = λ sh st p x calm g a e q t f w told in_n at_sec at_call h kn. plain_fits sh st ms p (change sh p (st.stands p) (Inside x calm) (phase.Finish (finish.Move g (object a e g.coll) q (copy.Put t f w))) Go told (seen (Exchange (place.Field g.coll t f) (word.Plain BLANK) (word.Plain w)) st.memory)).event (grind (arith, nat_tests));
  f_swing = λ sh st p x calm g a e q t told in_n at_sec at_call h kn. plain_fits sh st ms p (change sh p (st.stands p) (Inside x calm) (phase.Finish (finish.Move g (object a e g.coll) q (copy.Swing t))) Go told (seen (Exchange (place.Entry g.coll e) (word.Entry (state.Locked a q)) (word.Entry (state.Present a t))) st.memory)).event (grind (arith, nat_tests));
  settle = λ sh st p x calm g q told in_n at_sec at_call h kn. plain_fits sh st ms p (change sh p (st.stands p) (Inside x calm) (phase.Finish (finish.Settle g q)) Go told (seen (Exchange (place.Directory g.coll g.slot) (word.Directory dir.Incoming) (word.Directory dir.Valid)) st.memory)).event (grind (arith, nat_tests));
  leave_source = λ sh st p x calm g q told in_n at_sec at_call h kn. plain_fits sh st ms p (change sh p (st.stands p) (Inside x calm) (phase.Finish (finish.LeaveSource g q)) Go told (seen (Store (place.Directory g.coll q) (word.Directory (dir.Limbo (x + 1)))) st.memory)).event (grind (arith, nat_tests));
  finish_gives = λ sh st p x calm g gone told in_n at_sec at_call h kn. plain_fits sh st ms p (change sh p (st.stands p) (Inside x calm) (phase.Finish (finish.GiveUp g gone)) Go told (seen (Store (place.Directory g.coll g.slot) (word.Directory (dir.Limbo (x + 1)))) st.memory)).event (grind (arith, nat_tests));
  finish_ends = λ sh st p x calm g told in_n at_sec at_call h kn. plain_fits sh st ms p (change sh p (st.stands p) (Inside x calm) (phase.Finish (finish.End g)) Go told (seen (Store place.Round (word.Round None)) st.memory)).event (grind (arith, nat_tests));
  starts_cancel = λ sh st p x calm b c told in_n at_sec at_call pre1 h kn. plain_fits sh st ms p (change sh p (st.stands p) (Inside x calm) phase.Idle (Start call.Cancel) told (seen (Load (place.Directory c 0)) st.memory)).event (grind (arith, nat_tests));
  cancel_dir = λ sh st p x calm c t told in_n at_sec at_call h kn. plain_fits sh st ms p (change sh p (st.stands p) (Inside x calm) (phase.Cancel (cancel.Directory c t)) Go told (seen (Load (place.Directory c t)) st.memory)).event (grind (arith, nat_tests));
  cancel_back = λ sh st p x calm c t told in_n at_sec at_call h kn. plain_fits sh st ms p (change sh p (st.stands p) (Inside x calm) (phase.Cancel (cancel.Back c t)) Go told (seen (Load (place.Back c t)) st.memory)).event (grind (arith, nat_tests));
  cancel_entry = λ sh st p x calm c t a e told in_n at_sec at_call h kn. plain_fits sh st ms p (change sh p (st.stands p) (Inside x calm) (phase.Cancel (cancel.Entry c t (object a e c))) Go told (seen (Load (place.Entry c e)) st.memory)).event (grind (arith, nat_tests));
  unfreeze = λ sh st p x calm c t a e q told in_n at_sec at_call h kn. plain_fits sh st ms p (change sh p (st.stands p) (Inside x calm) (phase.Cancel (cancel.Unfreeze c t (object a e c) q)) Go told (seen (Exchange (place.Entry c e) (word.Entry (state.Frozen a q)) (word.Entry (state.Present a q))) st.memory)).event (grind (arith, nat_tests));
  cancel_gives = λ sh st p x calm c t told in_n at_sec at_call h kn. plain_fits sh st ms p (change sh p (st.stands p) (Inside x calm) (phase.Cancel (cancel.GiveUp c t)) Go told (seen (Store (place.Directory c t) (word.Directory (dir.Limbo (x + 1)))) st.memory)).event (grind (arith, nat_tests));
  cancel_ends = λ sh st p x calm told in_n at_sec at_call h kn. plain_fits sh st ms p (change sh p (st.stands p) (Inside x calm) (phase.Cancel cancel.End) Go told (seen (Store place.Round (word.Round None)) st.memory)).event (grind (arith, nat_tests));
}
