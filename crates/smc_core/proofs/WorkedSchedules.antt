-- Worked schedules, computed from the definitions.
use Rattle.std.specs.Prelude.{◌≡◌, [], ◌∷◌, Some}
use Rattle.std.proofs.Common.{refl}
use Rattle.smc_words.specs.declared.dir.Dir.TheVariants.{Free, Claimed, Incoming, Limbo}
use Rattle.smc_shape.specs.Places.{at}
use Rattle.smc_shape.specs.declared.place.Place.TheVariants.{Directory}
use Rattle.smc_model.specs.declared.event.Cause.TheVariants.{Slots, Entries}
use Rattle.smc_core.specs.declared.done.Done.TheVariants.{At, Out, Advanced, NotYet, Overtaken, Spent, Made, Full, Here, Null, Value, Written, First, Begun, Visit, End, Round, Nothing, Busy, Finished, Early, Cancelled, Noted, Learned, Surveyed}
use Rattle.smc_core.specs.declared.kind.Kind.TheVariants as kind
use Rattle.smc_core.specs.declared.op.Op.TheVariants.{Load}
use Rattle.smc_core.specs.Step.{step}
use Rattle.smc_core.specs.Played.{played, refused_line, answers, last_done, dirs, offers_next, object}
use Rattle.smc_core.specs.Schedules.{announces_twice, advance_waits, overtaken, last_epoch, notes, learnt_twice, learns_its_own, used_again, not_yet_ripe, spent_entry, all_spent, two_adds, two_claims, entry_from_the_front, live_last, all_taken, not_held, held_before, no_such_entry, visited_once, later_add, scan_of_before, nothing, no_target_left, busy, early_by_one, abandoned, helped, late_helper, removed_meanwhile, source_waits}

pub announces_twice-0 : answers 0 announces_twice ≡ At 4 ∷ []
unfolding at played
announces_twice-0 = refl

pub announces_twice-1 : answers 1 announces_twice ≡ Advanced 3 ∷ Advanced 4 ∷ []
unfolding at played
announces_twice-1 = refl

pub advance_waits-0 : answers 0 advance_waits ≡ At 5 ∷ []
unfolding at played
advance_waits-0 = refl

pub advance_waits-1 : answers 1 advance_waits ≡ Advanced 6 ∷ NotYet 0 5 ∷ []
unfolding at played
advance_waits-1 = refl

pub overtaken-0 : answers 0 overtaken ≡ Overtaken 3 ∷ []
unfolding at played
overtaken-0 = refl

pub overtaken-1 : answers 1 overtaken ≡ Advanced 3 ∷ []
unfolding at played
overtaken-1 = refl

pub last_epoch-0 : answers 0 last_epoch ≡ Spent ∷ []
unfolding at played
last_epoch-0 = refl

pub notes-0 : answers 0 notes ≡ At 2 ∷ Out ∷ Noted 0 ∷ []
unfolding at played
notes-0 = refl

pub notes-1 : answers 1 notes ≡ Learned ∷ []
unfolding at played
notes-1 = refl

pub learnt_twice-refused : refused_line learnt_twice ≡ Some 3
unfolding at refused_line
learnt_twice-refused = refl

pub learns_its_own-refused : refused_line learns_its_own ≡ Some 2
unfolding at refused_line
learns_its_own-refused = refl

pub used_again-0 : answers 0 used_again ≡
    At 2 ∷ Made 0 ∷ Here 0 ∷ First ∷ Out ∷ Advanced 3 ∷ Advanced 4 ∷ Advanced 5 ∷ At 5 ∷ Made 0 ∷
    Null ∷ Here 0 ∷ Value 8 ∷ []
unfolding at played
used_again-0 = refl

pub not_yet_ripe-0 : answers 0 not_yet_ripe ≡
    At 2 ∷ Made 0 ∷ Here 0 ∷ First ∷ Out ∷ Advanced 3 ∷ Advanced 4 ∷ At 4 ∷ Made 1 ∷ []
unfolding at played
not_yet_ripe-0 = refl

pub spent_entry-0 : answers 0 spent_entry ≡
    At 2 ∷ Made 0 ∷ Here 0 ∷ First ∷ Out ∷ Advanced 3 ∷ Advanced 4 ∷ Advanced 5 ∷ At 5 ∷ Made 0 ∷
    Null ∷ Here 0 ∷ []
unfolding at played
spent_entry-0 = refl

pub all_spent-0 : answers 0 all_spent ≡ At 2 ∷ Full Entries ∷ []
unfolding at played
all_spent-0 = refl

pub two_adds-0 : answers 0 two_adds ≡ At 2 ∷ Made 0 ∷ []
unfolding at played
two_adds-0 = refl

pub two_adds-1 : answers 1 two_adds ≡ At 2 ∷ Made 1 ∷ []
unfolding at played
two_adds-1 = refl

pub two_claims-slots : dirs (0 ∷ 1 ∷ []) two_claims ≡ Claimed ∷ Free ∷ []
unfolding at played
two_claims-slots = refl

pub two_claims-next : offers_next 1 two_claims ≡ Some (step kind.LoadDirectory (Load (Directory 0 1)))
unfolding at played
two_claims-next = refl

pub live_last-0 : answers 0 live_last ≡ At 2 ∷ Made 0 ∷ []
unfolding at played
live_last-0 = refl

pub live_last-1 : answers 1 live_last ≡ At 2 ∷ Null ∷ Null ∷ Null ∷ Here 0 ∷ Value 7 ∷ []
unfolding at played
live_last-1 = refl

pub all_taken-last : last_done (answers 0 all_taken) ≡ Some (Full Slots)
unfolding at played
all_taken-last = refl

pub not_held-refused : refused_line not_held ≡ Some 3
unfolding at refused_line
not_held-refused = refl

pub held_before-refused : refused_line held_before ≡ Some 6
unfolding at refused_line
held_before-refused = refl

pub no_such_entry-0 : answers 0 no_such_entry ≡ At 2 ∷ Null ∷ []
unfolding at played
no_such_entry-0 = refl

pub visited_once-0 : answers 0 visited_once ≡
    At 5 ∷ Made 0 ∷ Made 64 ∷ Round 0 6 1 ∷ Out ∷ Advanced 6 ∷ Advanced 7 ∷ Advanced 8 ∷ At 8 ∷
    Finished 1 0 0 ∷ []
unfolding at played
visited_once-0 = refl

pub visited_once-1 : answers 1 visited_once ≡
    At 8 ∷ Begun ∷ Visit (object 1 0) 0 ∷ Visit (object 1 64) 1 ∷ End ∷ End ∷ []
unfolding at played
visited_once-1 = refl

pub later_add-0 : answers 0 later_add ≡
    At 2 ∷ Made 0 ∷ Begun ∷ Visit (object 1 0) 0 ∷ Visit (object 1 5) 5 ∷ End ∷ []
unfolding at played
later_add-0 = refl

pub later_add-1 : answers 1 later_add ≡ At 2 ∷ Here 0 ∷ First ∷ Made 5 ∷ []
unfolding at played
later_add-1 = refl

pub scan_of_before-refused : refused_line scan_of_before ≡ Some 5
unfolding at refused_line
scan_of_before-refused = refl

pub nothing-0 : answers 0 nothing ≡ At 2 ∷ Made 64 ∷ Nothing 0 ∷ Surveyed 0 1 1 ∷ []
unfolding at played
nothing-0 = refl

pub busy-0 : answers 0 busy ≡ At 5 ∷ Made 0 ∷ Made 64 ∷ Round 0 6 1 ∷ Early 5 6 ∷ Cancelled ∷ []
unfolding at played
busy-0 = refl

pub busy-1 : answers 1 busy ≡ At 5 ∷ Busy 6 0 0 ∷ Round 0 6 1 ∷ []
unfolding at played
busy-1 = refl

pub busy-slots : dirs (1 ∷ 2 ∷ []) busy ≡ Limbo 6 ∷ Incoming ∷ []
unfolding at played
busy-slots = refl

pub early_by_one-0 : answers 0 early_by_one ≡
    At 5 ∷ Made 0 ∷ Made 64 ∷ Round 0 6 1 ∷ Out ∷ Advanced 6 ∷ Advanced 7 ∷ At 7 ∷ Early 7 6 ∷ []
unfolding at played
early_by_one-0 = refl

pub abandoned-0 : answers 0 abandoned ≡
    At 5 ∷ Made 0 ∷ Made 64 ∷ Round 0 6 1 ∷ Out ∷ Advanced 6 ∷ Advanced 7 ∷ Advanced 8 ∷ At 8 ∷
    Finished 0 1 0 ∷ []
unfolding at played
abandoned-0 = refl

pub abandoned-1 : answers 1 abandoned ≡ At 7 ∷ Here 64 ∷ Written ∷ Value 33 ∷ []
unfolding at played
abandoned-1 = refl

pub helped-0 : answers 0 helped ≡
    At 5 ∷ Made 0 ∷ Made 64 ∷ Round 0 6 1 ∷ Out ∷ Advanced 6 ∷ Advanced 7 ∷ Advanced 8 ∷ At 8 ∷
    Finished 1 0 0 ∷ []
unfolding at played
helped-0 = refl

pub helped-1 : answers 1 helped ≡ At 8 ∷ Here 1 ∷ Written ∷ Value 21 ∷ Value 99 ∷ []
unfolding at played
helped-1 = refl

pub late_helper-0 : answers 0 late_helper ≡
    At 5 ∷ Made 0 ∷ Made 64 ∷ Round 0 6 1 ∷ Out ∷ Advanced 6 ∷ Advanced 7 ∷ Advanced 8 ∷ At 8 ∷
    Finished 1 0 0 ∷ []
unfolding at played
late_helper-0 = refl

pub late_helper-1 : answers 1 late_helper ≡ At 8 ∷ Here 1 ∷ Value 99 ∷ []
unfolding at played
late_helper-1 = refl

pub late_helper-2 : answers 2 late_helper ≡ At 8 ∷ Here 1 ∷ Written ∷ []
unfolding at played
late_helper-2 = refl

pub removed_meanwhile-0 : answers 0 removed_meanwhile ≡
    At 5 ∷ Made 0 ∷ Made 64 ∷ Round 0 6 1 ∷ Out ∷ Advanced 6 ∷ Advanced 7 ∷ Advanced 8 ∷ At 8 ∷
    Finished 0 0 1 ∷ []
unfolding at played
removed_meanwhile-0 = refl

pub removed_meanwhile-1 : answers 1 removed_meanwhile ≡ At 5 ∷ Here 64 ∷ First ∷ Out ∷ []
unfolding at played
removed_meanwhile-1 = refl

pub source_waits-0 : answers 0 source_waits ≡
    At 5 ∷ Made 0 ∷ Made 64 ∷ Round 0 6 1 ∷ Out ∷ Advanced 6 ∷ Advanced 7 ∷ Advanced 8 ∷ At 8 ∷
    Finished 1 0 0 ∷ Made 65 ∷ []
unfolding at played
source_waits-0 = refl

pub entry_from_the_front-1 : answers 1 entry_from_the_front ≡ At 2 ∷ Made 1 ∷ Here 1 ∷ []
unfolding at played
entry_from_the_front-1 = refl

pub no_target_left-last : last_done (answers 0 no_target_left) ≡ Some (Round 0 3 0)
unfolding at played
no_target_left-last = refl
