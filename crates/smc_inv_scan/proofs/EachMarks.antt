-- Each kind of step keeps the marks of scans. Written by tools/marks.py.
use Rattle.std.specs.Prelude.{ℕ}
use Rattle.smc_inv_scan.specs.Marks.{Marks}
use Rattle.smc_inv_scan.proofs.EachStep.{EachStep}
use Rattle.smc_inv_scan.proofs.MarkSteps.{Known, KeepsMarks}
use Rattle.smc_inv_scan.proofs.MarksSections.{enter, announce, again, lasting, entered, leave, advance, advancing, ready, note, learn}
use Rattle.smc_inv_scan.proofs.MarksAdds.{starts_add, find_slot, claim_slot, find_entry, claim_entry, drop_slot, store_back, store_field, store_valid, store_live}
use Rattle.smc_inv_scan.proofs.MarksLooks.{starts_look, look_out, look_load, abandon}
use Rattle.smc_inv_scan.proofs.MarksHelps.{l_fwd, l_read, l_put, l_swing}
use Rattle.smc_inv_scan.proofs.MarksHolds.{read, write, starts_remove, leave_slot, free_entry}
use Rattle.smc_inv_scan.proofs.MarksScans.{starts_scan, next_over, next_slot, scan_dir, scan_back, scan_end, survey, survey_dir, survey_back, survey_entry}
use Rattle.smc_inv_scan.proofs.MarksBegins.{starts_begin, count_dir, count_back, count_entry, nothing, source_dir, source_back, source_entry}
use Rattle.smc_inv_scan.proofs.MarksTargets.{target_dir, claim_target, blank_field, name_target, lead_source, store_incoming, freeze, begin_gives}
use Rattle.smc_inv_scan.proofs.MarksFinishes.{starts_finish, finish_early, finish_dir, finish_back, finish_entry, lock, f_fwd, f_read, f_put, f_swing, settle, leave_source, finish_gives, finish_ends}
use Rattle.smc_inv_scan.proofs.MarksCancels.{starts_cancel, cancel_dir, cancel_back, cancel_entry, unfreeze, cancel_gives, cancel_ends}

pub marks-each : (ms : ℕ → Marks) → EachStep (Known ms) (KeepsMarks ms)
marks-each ms = record {
  enter = λ sh st p told in_n at_sec at_call h kn. enter ms sh st p told in_n at_sec at_call h kn.scans kn.marks kn.here;
  announce = λ sh st p v told in_n at_sec at_call h kn. announce ms sh st p v told in_n at_sec at_call h kn.scans kn.marks kn.here;
  again = λ sh st p v told in_n at_sec at_call h kn. again ms sh st p v told in_n at_sec at_call h kn.scans kn.marks kn.here;
  lasting = λ sh st p v z told in_n at_sec at_call h kn. lasting ms sh st p v z told in_n at_sec at_call h kn.scans kn.marks kn.here;
  entered = λ sh st p z told in_n at_sec at_call h kn. entered ms sh st p z told in_n at_sec at_call h kn.scans kn.marks kn.here;
  leave = λ sh st p x calm told in_n at_sec at_call h kn. leave ms sh st p x calm told in_n at_sec at_call h kn.scans kn.marks kn.here;
  advance = λ sh st p told in_n at_sec at_call h kn. advance ms sh st p told in_n at_sec at_call h kn.scans kn.marks kn.here;
  advancing = λ sh st p sec z k told in_n at_sec at_call h kn. advancing ms sh st p sec z k told in_n at_sec at_call h kn.scans kn.marks kn.here;
  ready = λ sh st p sec z told in_n at_sec at_call h kn. ready ms sh st p sec z told in_n at_sec at_call h kn.scans kn.marks kn.here;
  note = λ sh st p told in_n at_sec at_call h kn. note ms sh st p told in_n at_sec at_call h kn.scans kn.marks kn.here;
  learn = λ sh st p k z told in_n at_sec at_call h kn. learn ms sh st p k z told in_n at_sec at_call h kn.scans kn.marks kn.here;
  starts_add = λ sh st p x calm c k ws told in_n at_sec at_call pre1 h kn. starts_add ms sh st p x calm c k ws told in_n at_sec at_call pre1 h kn.scans kn.marks kn.here;
  find_slot = λ sh st p x calm c k s t told in_n at_sec at_call h kn. find_slot ms sh st p x calm c k s t told in_n at_sec at_call h kn.scans kn.marks kn.here;
  claim_slot = λ sh st p x calm c k s t d told in_n at_sec at_call h kn. claim_slot ms sh st p x calm c k s t d told in_n at_sec at_call h kn.scans kn.marks kn.here;
  find_entry = λ sh st p x calm c s e t told in_n at_sec at_call h kn. find_entry ms sh st p x calm c s e t told in_n at_sec at_call h kn.scans kn.marks kn.here;
  claim_entry = λ sh st p x calm c s e t a z told in_n at_sec at_call h kn. claim_entry ms sh st p x calm c s e t a z told in_n at_sec at_call h kn.scans kn.marks kn.here;
  drop_slot = λ sh st p x calm c s told in_n at_sec at_call h kn. drop_slot ms sh st p x calm c s told in_n at_sec at_call h kn.scans kn.marks kn.here;
  store_back = λ sh st p x calm c s a e told in_n at_sec at_call h kn. store_back ms sh st p x calm c s a e told in_n at_sec at_call h kn.scans kn.marks kn.here;
  store_field = λ sh st p x calm c s a e f told in_n at_sec at_call h kn. store_field ms sh st p x calm c s a e f told in_n at_sec at_call h kn.scans kn.marks kn.here;
  store_valid = λ sh st p x calm c s a e told in_n at_sec at_call h kn. store_valid ms sh st p x calm c s a e told in_n at_sec at_call h kn.scans kn.marks kn.here;
  store_live = λ sh st p x calm c s a e told in_n at_sec at_call h kn. store_live ms sh st p x calm c s a e told in_n at_sec at_call h kn.scans kn.marks kn.here;
  starts_look = λ sh st p x calm c a e told in_n at_sec at_call pre1 h kn. starts_look ms sh st p x calm c a e told in_n at_sec at_call pre1 h kn.scans kn.marks kn.here;
  look_out = λ sh st p x calm c a e told in_n at_sec at_call pre1 h kn. look_out ms sh st p x calm c a e told in_n at_sec at_call pre1 h kn.scans kn.marks kn.here;
  look_load = λ sh st p x calm who c a e told in_n at_sec at_call h kn. look_load ms sh st p x calm who c a e told in_n at_sec at_call h kn.scans kn.marks kn.here;
  abandon = λ sh st p x calm who c a e q told in_n at_sec at_call h kn. abandon ms sh st p x calm who c a e q told in_n at_sec at_call h kn.scans kn.marks kn.here;
  l_fwd = λ sh st p x calm who c a e q told in_n at_sec at_call h kn. l_fwd ms sh st p x calm who c a e q told in_n at_sec at_call h kn.scans kn.marks kn.here;
  l_read = λ sh st p x calm who c a e q t f told in_n at_sec at_call h kn. l_read ms sh st p x calm who c a e q t f told in_n at_sec at_call h kn.scans kn.marks kn.here;
  l_put = λ sh st p x calm who c a e q t f w told in_n at_sec at_call h kn. l_put ms sh st p x calm who c a e q t f w told in_n at_sec at_call h kn.scans kn.marks kn.here;
  l_swing = λ sh st p x calm who c a e q t told in_n at_sec at_call h kn. l_swing ms sh st p x calm who c a e q t told in_n at_sec at_call h kn.scans kn.marks kn.here;
  read = λ sh st p x calm c a e q f told in_n at_sec at_call pre1 pre2 h kn. read ms sh st p x calm c a e q f told in_n at_sec at_call pre1 pre2 h kn.scans kn.marks kn.here;
  write = λ sh st p x calm c a e q f w told in_n at_sec at_call pre1 pre2 h kn. write ms sh st p x calm c a e q f w told in_n at_sec at_call pre1 pre2 h kn.scans kn.marks kn.here;
  starts_remove = λ sh st p x calm c a e q told in_n at_sec at_call pre1 h kn. starts_remove ms sh st p x calm c a e q told in_n at_sec at_call pre1 h kn.scans kn.marks kn.here;
  leave_slot = λ sh st p x calm c a e q told in_n at_sec at_call h kn. leave_slot ms sh st p x calm c a e q told in_n at_sec at_call h kn.scans kn.marks kn.here;
  free_entry = λ sh st p x calm c a e told in_n at_sec at_call h kn. free_entry ms sh st p x calm c a e told in_n at_sec at_call h kn.scans kn.marks kn.here;
  starts_scan = λ sh st p x calm c told in_n at_sec at_call h kn. starts_scan ms sh st p x calm c told in_n at_sec at_call h kn.scans kn.marks kn.here;
  next_over = λ sh st p x calm k b1 told in_n at_sec at_call pre1 pre2 h kn. next_over ms sh st p x calm k b1 told in_n at_sec at_call pre1 pre2 h kn.scans kn.marks kn.here;
  next_slot = λ sh st p x calm k b1 told in_n at_sec at_call pre1 pre2 h kn. next_slot ms sh st p x calm k b1 told in_n at_sec at_call pre1 pre2 h kn.scans kn.marks kn.here;
  scan_dir = λ sh st p x calm k c t told in_n at_sec at_call h kn. scan_dir ms sh st p x calm k c t told in_n at_sec at_call h kn.scans kn.marks kn.here;
  scan_back = λ sh st p x calm k c t told in_n at_sec at_call h kn. scan_back ms sh st p x calm k c t told in_n at_sec at_call h kn.scans kn.marks kn.here;
  scan_end = λ sh st p x calm k told in_n at_sec at_call h kn. scan_end ms sh st p x calm k told in_n at_sec at_call h kn.scans kn.marks kn.here;
  survey = λ sh st p x calm c told in_n at_sec at_call h kn. survey ms sh st p x calm c told in_n at_sec at_call h kn.scans kn.marks kn.here;
  survey_dir = λ sh st p x calm c t cnt told in_n at_sec at_call h kn. survey_dir ms sh st p x calm c t cnt told in_n at_sec at_call h kn.scans kn.marks kn.here;
  survey_back = λ sh st p x calm c t cnt told in_n at_sec at_call h kn. survey_back ms sh st p x calm c t cnt told in_n at_sec at_call h kn.scans kn.marks kn.here;
  survey_entry = λ sh st p x calm c t cnt c2 a e told in_n at_sec at_call h kn. survey_entry ms sh st p x calm c t cnt c2 a e told in_n at_sec at_call h kn.scans kn.marks kn.here;
  starts_begin = λ sh st p x calm c told in_n at_sec at_call h kn. starts_begin ms sh st p x calm c told in_n at_sec at_call h kn.scans kn.marks kn.here;
  count_dir = λ sh st p x calm c t cnt told in_n at_sec at_call h kn. count_dir ms sh st p x calm c t cnt told in_n at_sec at_call h kn.scans kn.marks kn.here;
  count_back = λ sh st p x calm c t cnt told in_n at_sec at_call h kn. count_back ms sh st p x calm c t cnt told in_n at_sec at_call h kn.scans kn.marks kn.here;
  count_entry = λ sh st p x calm c t cnt c2 a e told in_n at_sec at_call h kn. count_entry ms sh st p x calm c t cnt c2 a e told in_n at_sec at_call h kn.scans kn.marks kn.here;
  nothing = λ sh st p x calm c told in_n at_sec at_call h kn. nothing ms sh st p x calm c told in_n at_sec at_call h kn.scans kn.marks kn.here;
  source_dir = λ sh st p x calm m told in_n at_sec at_call h kn. source_dir ms sh st p x calm m told in_n at_sec at_call h kn.scans kn.marks kn.here;
  source_back = λ sh st p x calm m told in_n at_sec at_call h kn. source_back ms sh st p x calm m told in_n at_sec at_call h kn.scans kn.marks kn.here;
  source_entry = λ sh st p x calm m a e told in_n at_sec at_call h kn. source_entry ms sh st p x calm m a e told in_n at_sec at_call h kn.scans kn.marks kn.here;
  target_dir = λ sh st p x calm m a e told in_n at_sec at_call h kn. target_dir ms sh st p x calm m a e told in_n at_sec at_call h kn.scans kn.marks kn.here;
  claim_target = λ sh st p x calm m a e d told in_n at_sec at_call h kn. claim_target ms sh st p x calm m a e d told in_n at_sec at_call h kn.scans kn.marks kn.here;
  blank_field = λ sh st p x calm m a e f told in_n at_sec at_call h kn. blank_field ms sh st p x calm m a e f told in_n at_sec at_call h kn.scans kn.marks kn.here;
  name_target = λ sh st p x calm m a e told in_n at_sec at_call h kn. name_target ms sh st p x calm m a e told in_n at_sec at_call h kn.scans kn.marks kn.here;
  lead_source = λ sh st p x calm m a e told in_n at_sec at_call h kn. lead_source ms sh st p x calm m a e told in_n at_sec at_call h kn.scans kn.marks kn.here;
  store_incoming = λ sh st p x calm m a e told in_n at_sec at_call h kn. store_incoming ms sh st p x calm m a e told in_n at_sec at_call h kn.scans kn.marks kn.here;
  freeze = λ sh st p x calm m a e told in_n at_sec at_call h kn. freeze ms sh st p x calm m a e told in_n at_sec at_call h kn.scans kn.marks kn.here;
  begin_gives = λ sh st p x calm m told in_n at_sec at_call h kn. begin_gives ms sh st p x calm m told in_n at_sec at_call h kn.scans kn.marks kn.here;
  starts_finish = λ sh st p x calm b c told in_n at_sec at_call pre1 pre2 h kn. starts_finish ms sh st p x calm b c told in_n at_sec at_call pre1 pre2 h kn.scans kn.marks kn.here;
  finish_early = λ sh st p x calm b c told in_n at_sec at_call pre1 pre2 h kn. finish_early ms sh st p x calm b c told in_n at_sec at_call pre1 pre2 h kn.scans kn.marks kn.here;
  finish_dir = λ sh st p x calm g told in_n at_sec at_call h kn. finish_dir ms sh st p x calm g told in_n at_sec at_call h kn.scans kn.marks kn.here;
  finish_back = λ sh st p x calm g told in_n at_sec at_call h kn. finish_back ms sh st p x calm g told in_n at_sec at_call h kn.scans kn.marks kn.here;
  finish_entry = λ sh st p x calm g a e told in_n at_sec at_call h kn. finish_entry ms sh st p x calm g a e told in_n at_sec at_call h kn.scans kn.marks kn.here;
  lock = λ sh st p x calm g a e q told in_n at_sec at_call h kn. lock ms sh st p x calm g a e q told in_n at_sec at_call h kn.scans kn.marks kn.here;
  f_fwd = λ sh st p x calm g a e q told in_n at_sec at_call h kn. f_fwd ms sh st p x calm g a e q told in_n at_sec at_call h kn.scans kn.marks kn.here;
  f_read = λ sh st p x calm g a e q t f told in_n at_sec at_call h kn. f_read ms sh st p x calm g a e q t f told in_n at_sec at_call h kn.scans kn.marks kn.here;
  f_put = λ sh st p x calm g a e q t f w told in_n at_sec at_call h kn. f_put ms sh st p x calm g a e q t f w told in_n at_sec at_call h kn.scans kn.marks kn.here;
  f_swing = λ sh st p x calm g a e q t told in_n at_sec at_call h kn. f_swing ms sh st p x calm g a e q t told in_n at_sec at_call h kn.scans kn.marks kn.here;
  settle = λ sh st p x calm g q told in_n at_sec at_call h kn. settle ms sh st p x calm g q told in_n at_sec at_call h kn.scans kn.marks kn.here;
  leave_source = λ sh st p x calm g q told in_n at_sec at_call h kn. leave_source ms sh st p x calm g q told in_n at_sec at_call h kn.scans kn.marks kn.here;
  finish_gives = λ sh st p x calm g gone told in_n at_sec at_call h kn. finish_gives ms sh st p x calm g gone told in_n at_sec at_call h kn.scans kn.marks kn.here;
  finish_ends = λ sh st p x calm g told in_n at_sec at_call h kn. finish_ends ms sh st p x calm g told in_n at_sec at_call h kn.scans kn.marks kn.here;
  starts_cancel = λ sh st p x calm b c told in_n at_sec at_call pre1 h kn. starts_cancel ms sh st p x calm b c told in_n at_sec at_call pre1 h kn.scans kn.marks kn.here;
  cancel_dir = λ sh st p x calm c t told in_n at_sec at_call h kn. cancel_dir ms sh st p x calm c t told in_n at_sec at_call h kn.scans kn.marks kn.here;
  cancel_back = λ sh st p x calm c t told in_n at_sec at_call h kn. cancel_back ms sh st p x calm c t told in_n at_sec at_call h kn.scans kn.marks kn.here;
  cancel_entry = λ sh st p x calm c t a e told in_n at_sec at_call h kn. cancel_entry ms sh st p x calm c t a e told in_n at_sec at_call h kn.scans kn.marks kn.here;
  unfreeze = λ sh st p x calm c t a e q told in_n at_sec at_call h kn. unfreeze ms sh st p x calm c t a e q told in_n at_sec at_call h kn.scans kn.marks kn.here;
  cancel_gives = λ sh st p x calm c t told in_n at_sec at_call h kn. cancel_gives ms sh st p x calm c t told in_n at_sec at_call h kn.scans kn.marks kn.here;
  cancel_ends = λ sh st p x calm told in_n at_sec at_call h kn. cancel_ends ms sh st p x calm told in_n at_sec at_call h kn.scans kn.marks kn.here;
}
