use Rattle.smc_core.proofs.WorkedSchedules.{entry_from_the_front-1, used_again-0, not_yet_ripe-0, spent_entry-0, all_spent-0, two_adds-0, two_adds-1, two_claims-slots, two_claims-next, live_last-0, live_last-1, all_taken-last, not_held-refused, held_before-refused, no_such_entry-0}
use Rattle.smc_core.proofs.laws.worked_objects.Goals as goal

pub returns-clause-used_again_0 : goal.returns-clause-used_again_0
returns-clause-used_again_0 c = used_again-0

pub returns-clause-not_yet_ripe_0 : goal.returns-clause-not_yet_ripe_0
returns-clause-not_yet_ripe_0 c = not_yet_ripe-0

pub returns-clause-spent_entry_0 : goal.returns-clause-spent_entry_0
returns-clause-spent_entry_0 c = spent_entry-0

pub returns-clause-all_spent_0 : goal.returns-clause-all_spent_0
returns-clause-all_spent_0 c = all_spent-0

pub returns-clause-two_adds_0 : goal.returns-clause-two_adds_0
returns-clause-two_adds_0 c = two_adds-0

pub returns-clause-two_adds_1 : goal.returns-clause-two_adds_1
returns-clause-two_adds_1 c = two_adds-1

pub returns-clause-two_claims_slots : goal.returns-clause-two_claims_slots
returns-clause-two_claims_slots c = two_claims-slots

pub returns-clause-two_claims_next : goal.returns-clause-two_claims_next
returns-clause-two_claims_next c = two_claims-next

pub returns-clause-live_last_0 : goal.returns-clause-live_last_0
returns-clause-live_last_0 c = live_last-0

pub returns-clause-live_last_1 : goal.returns-clause-live_last_1
returns-clause-live_last_1 c = live_last-1

pub returns-clause-all_taken_last : goal.returns-clause-all_taken_last
returns-clause-all_taken_last c = all_taken-last

pub returns-clause-not_held_refused : goal.returns-clause-not_held_refused
returns-clause-not_held_refused c = not_held-refused

pub returns-clause-held_before_refused : goal.returns-clause-held_before_refused
returns-clause-held_before_refused c = held_before-refused

pub returns-clause-no_such_entry_0 : goal.returns-clause-no_such_entry_0
returns-clause-no_such_entry_0 c = no_such_entry-0

pub returns-clause-entry_from_the_front_1 : goal.returns-clause-entry_from_the_front_1
returns-clause-entry_from_the_front_1 c = entry_from_the_front-1
