-- Each kind of step keeps the records. Written by tools/laws.py.
use Rattle.smc_agreement.specs.Records.{RecordsAgree}
use Rattle.smc_agreement.proofs.EachKind.{EachKind}
use Rattle.smc_inv_slot.proofs.RecordsSections.{enter, announce, again, lasting, entered, leave, advance, advancing, ready, note, learn}
use Rattle.smc_inv_slot.proofs.RecordsAdds.{starts_add, find_slot, claim_slot, find_entry, claim_entry, drop_slot, store_back, store_field, store_valid, store_live}
use Rattle.smc_inv_slot.proofs.RecordsLooks.{starts_look, look_out, look_load, abandon}
use Rattle.smc_inv_slot.proofs.RecordsHelps.{l_fwd, l_read, l_put, l_swing}
use Rattle.smc_inv_slot.proofs.RecordsHolds.{read, write, starts_remove, leave_slot, free_entry}
use Rattle.smc_inv_slot.proofs.RecordsScans.{starts_scan, next_over, next_slot, scan_dir, scan_back, scan_end, survey, survey_dir, survey_back, survey_entry}
use Rattle.smc_inv_slot.proofs.RecordsBegins.{starts_begin, count_dir, count_back, count_entry, nothing, source_dir, source_back, source_entry}
use Rattle.smc_inv_slot.proofs.RecordsTargets.{target_dir, claim_target, blank_field, name_target, lead_source, store_incoming, freeze, begin_gives}
use Rattle.smc_inv_slot.proofs.RecordsFinishes.{starts_finish, finish_early, finish_dir, finish_back, finish_entry, lock, f_fwd, f_read, f_put, f_swing, settle, leave_source, finish_gives, finish_ends}
use Rattle.smc_inv_slot.proofs.RecordsCancels.{starts_cancel, cancel_dir, cancel_back, cancel_entry, unfreeze, cancel_gives, cancel_ends}
use Rattle.std.specs.Prelude.{ℕ}

pub records-each : (opened : ℕ) → EachKind (RecordsAgree opened) (RecordsAgree opened)
records-each opened = record {
  enter = enter opened;
  announce = announce opened;
  again = again opened;
  lasting = lasting opened;
  entered = entered opened;
  leave = leave opened;
  advance = advance opened;
  advancing = advancing opened;
  ready = ready opened;
  note = note opened;
  learn = learn opened;
  starts_add = starts_add opened;
  find_slot = find_slot opened;
  claim_slot = claim_slot opened;
  find_entry = find_entry opened;
  claim_entry = claim_entry opened;
  drop_slot = drop_slot opened;
  store_back = store_back opened;
  store_field = store_field opened;
  store_valid = store_valid opened;
  store_live = store_live opened;
  starts_look = starts_look opened;
  look_out = look_out opened;
  look_load = look_load opened;
  abandon = abandon opened;
  l_fwd = l_fwd opened;
  l_read = l_read opened;
  l_put = l_put opened;
  l_swing = l_swing opened;
  read = read opened;
  write = write opened;
  starts_remove = starts_remove opened;
  leave_slot = leave_slot opened;
  free_entry = free_entry opened;
  starts_scan = starts_scan opened;
  next_over = next_over opened;
  next_slot = next_slot opened;
  scan_dir = scan_dir opened;
  scan_back = scan_back opened;
  scan_end = scan_end opened;
  survey = survey opened;
  survey_dir = survey_dir opened;
  survey_back = survey_back opened;
  survey_entry = survey_entry opened;
  starts_begin = starts_begin opened;
  count_dir = count_dir opened;
  count_back = count_back opened;
  count_entry = count_entry opened;
  nothing = nothing opened;
  source_dir = source_dir opened;
  source_back = source_back opened;
  source_entry = source_entry opened;
  target_dir = target_dir opened;
  claim_target = claim_target opened;
  blank_field = blank_field opened;
  name_target = name_target opened;
  lead_source = lead_source opened;
  store_incoming = store_incoming opened;
  freeze = freeze opened;
  begin_gives = begin_gives opened;
  starts_finish = starts_finish opened;
  finish_early = finish_early opened;
  finish_dir = finish_dir opened;
  finish_back = finish_back opened;
  finish_entry = finish_entry opened;
  lock = lock opened;
  f_fwd = f_fwd opened;
  f_read = f_read opened;
  f_put = f_put opened;
  f_swing = f_swing opened;
  settle = settle opened;
  leave_source = leave_source opened;
  finish_gives = finish_gives opened;
  finish_ends = finish_ends opened;
  starts_cancel = starts_cancel opened;
  cancel_dir = cancel_dir opened;
  cancel_back = cancel_back opened;
  cancel_entry = cancel_entry opened;
  unfreeze = unfreeze opened;
  cancel_gives = cancel_gives opened;
  cancel_ends = cancel_ends opened;
}
