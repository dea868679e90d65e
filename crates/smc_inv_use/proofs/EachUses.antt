-- Each kind of step keeps the uses. Written by tools/laws.py.
use Rattle.smc_inv_use.specs.Uses.{UsesAgree}
use Rattle.smc_agreement.proofs.EachKind.{EachKind}
use Rattle.smc_inv_use.proofs.UsesSections.{enter, announce, again, lasting, entered, leave, advance, advancing, ready, note, learn}
use Rattle.smc_inv_use.proofs.UsesAdds.{starts_add, find_slot, claim_slot, find_entry, claim_entry, drop_slot, store_back, store_field, store_valid, store_live}
use Rattle.smc_inv_use.proofs.UsesLooks.{starts_look, look_out, look_load, abandon}
use Rattle.smc_inv_use.proofs.UsesHelps.{l_fwd, l_read, l_put, l_swing}
use Rattle.smc_inv_use.proofs.UsesHolds.{read, write, starts_remove, leave_slot, free_entry}
use Rattle.smc_inv_use.proofs.UsesScans.{starts_scan, next_over, next_slot, scan_dir, scan_back, scan_end, survey, survey_dir, survey_back, survey_entry}
use Rattle.smc_inv_use.proofs.UsesBegins.{starts_begin, count_dir, count_back, count_entry, nothing, source_dir, source_back, source_entry}
use Rattle.smc_inv_use.proofs.UsesTargets.{target_dir, claim_target, blank_field, name_target, lead_source, store_incoming, freeze, begin_gives}
use Rattle.smc_inv_use.proofs.UsesFinishes.{starts_finish, finish_early, finish_dir, finish_back, finish_entry, lock, f_fwd, f_read, f_put, f_swing, settle, leave_source, finish_gives, finish_ends}
use Rattle.smc_inv_use.proofs.UsesCancels.{starts_cancel, cancel_dir, cancel_back, cancel_entry, unfreeze, cancel_gives, cancel_ends}

pub uses-each : EachKind UsesAgree UsesAgree
uses-each = record {
  enter = enter;
  announce = announce;
  again = again;
  lasting = lasting;
  entered = entered;
  leave = leave;
  advance = advance;
  advancing = advancing;
  ready = ready;
  note = note;
  learn = learn;
  starts_add = starts_add;
  find_slot = find_slot;
  claim_slot = claim_slot;
  find_entry = find_entry;
  claim_entry = claim_entry;
  drop_slot = drop_slot;
  store_back = store_back;
  store_field = store_field;
  store_valid = store_valid;
  store_live = store_live;
  starts_look = starts_look;
  look_out = look_out;
  look_load = look_load;
  abandon = abandon;
  l_fwd = l_fwd;
  l_read = l_read;
  l_put = l_put;
  l_swing = l_swing;
  read = read;
  write = write;
  starts_remove = starts_remove;
  leave_slot = leave_slot;
  free_entry = free_entry;
  starts_scan = starts_scan;
  next_over = next_over;
  next_slot = next_slot;
  scan_dir = scan_dir;
  scan_back = scan_back;
  scan_end = scan_end;
  survey = survey;
  survey_dir = survey_dir;
  survey_back = survey_back;
  survey_entry = survey_entry;
  starts_begin = starts_begin;
  count_dir = count_dir;
  count_back = count_back;
  count_entry = count_entry;
  nothing = nothing;
  source_dir = source_dir;
  source_back = source_back;
  source_entry = source_entry;
  target_dir = target_dir;
  claim_target = claim_target;
  blank_field = blank_field;
  name_target = name_target;
  lead_source = lead_source;
  store_incoming = store_incoming;
  freeze = freeze;
  begin_gives = begin_gives;
  starts_finish = starts_finish;
  finish_early = finish_early;
  finish_dir = finish_dir;
  finish_back = finish_back;
  finish_entry = finish_entry;
  lock = lock;
  f_fwd = f_fwd;
  f_read = f_read;
  f_put = f_put;
  f_swing = f_swing;
  settle = settle;
  leave_source = leave_source;
  finish_gives = finish_gives;
  finish_ends = finish_ends;
  starts_cancel = starts_cancel;
  cancel_dir = cancel_dir;
  cancel_back = cancel_back;
  cancel_entry = cancel_entry;
  unfreeze = unfreeze;
  cancel_gives = cancel_gives;
  cancel_ends = cancel_ends;
}
