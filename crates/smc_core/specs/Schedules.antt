-- Worked schedules, each on a region with one collection.
use Rattle.std.specs.Prelude.{ℕ, zero, suc, List, [], ◌∷◌, ◌++◌}
use Rattle.smc_core.specs.declared.call.Call.TheVariants.{Enter, Leave, Advance, Add, Look, Read, Write, Remove, Scan, Next, Begin, Finish, Cancel, Survey, Note, Learn}
use Rattle.smc_core.specs.Played.{Line, Starts, Takes, Calls, Ends, Schedule, object}

-- a section announces the epoch that it loads again
abbrev pub announces_twice : Schedule
announces_twice = record {
  passes = 2;
  width = 1;
  slots = 64;
  epoch = 2;
  incarnation = 0;
  lines = Starts 0 Enter ∷ Calls 1 Advance ∷ Calls 1 Advance ∷ Ends 0 ∷ [];
}

-- an advance waits for a section
abbrev pub advance_waits : Schedule
advance_waits = record {
  passes = 2;
  width = 1;
  slots = 64;
  epoch = 5;
  incarnation = 0;
  lines = Calls 0 Enter ∷ Calls 1 Advance ∷ Calls 1 Advance ∷ [];
}

-- an advance is overtaken
abbrev pub overtaken : Schedule
overtaken = record {
  passes = 2;
  width = 1;
  slots = 64;
  epoch = 2;
  incarnation = 0;
  lines = Starts 0 Advance ∷ Calls 1 Advance ∷ Ends 0 ∷ [];
}

-- the last epoch is not passed
abbrev pub last_epoch : Schedule
last_epoch = record {
  passes = 1;
  width = 1;
  slots = 64;
  epoch = 68719476734;
  incarnation = 0;
  lines = Calls 0 Advance ∷ [];
}

-- a note of another pass is learnt
abbrev pub notes : Schedule
notes = record {
  passes = 2;
  width = 1;
  slots = 64;
  epoch = 2;
  incarnation = 0;
  lines = Calls 0 Enter ∷ Calls 0 Leave ∷ Calls 0 Note ∷ Calls 1 (Learn 0 0) ∷ [];
}

-- it is not learnt twice
abbrev pub learnt_twice : Schedule
learnt_twice = record {
  passes = 3;
  width = 1;
  slots = 64;
  epoch = 2;
  incarnation = 0;
  lines = Calls 0 Note ∷ Calls 1 (Learn 0 0) ∷ Starts 2 (Learn 0 0) ∷ [];
}

-- a pass does not learn a note of its own
abbrev pub learns_its_own : Schedule
learns_its_own = record {
  passes = 2;
  width = 1;
  slots = 64;
  epoch = 2;
  incarnation = 0;
  lines = Calls 0 Note ∷ Starts 0 (Learn 0 0) ∷ [];
}

-- a removed slot is used again three advances later, and the number of what it held stays null
abbrev pub used_again : Schedule
used_again = record {
  passes = 1;
  width = 1;
  slots = 64;
  epoch = 2;
  incarnation = 0;
  lines =
      Calls 0 Enter ∷ Calls 0 (Add 0 0 (7 ∷ [])) ∷ Calls 0 (Look (object 1 0)) ∷
      Calls 0 (Remove (object 1 0)) ∷ Calls 0 Leave ∷ Calls 0 Advance ∷ Calls 0 Advance ∷
      Calls 0 Advance ∷ Calls 0 Enter ∷ Calls 0 (Add 0 0 (8 ∷ [])) ∷ Calls 0 (Look (object 1 0)) ∷
      Calls 0 (Look (object 2 0)) ∷ Calls 0 (Read (object 2 0) 0) ∷ [];
}

-- two advances later it is not yet used
abbrev pub not_yet_ripe : Schedule
not_yet_ripe = record {
  passes = 1;
  width = 1;
  slots = 64;
  epoch = 2;
  incarnation = 0;
  lines =
      Calls 0 Enter ∷ Calls 0 (Add 0 0 (7 ∷ [])) ∷ Calls 0 (Look (object 1 0)) ∷
      Calls 0 (Remove (object 1 0)) ∷ Calls 0 Leave ∷ Calls 0 Advance ∷ Calls 0 Advance ∷ Calls 0 Enter ∷
      Calls 0 (Add 0 0 (8 ∷ [])) ∷ [];
}

-- an entry with the last incarnation is not used again
abbrev pub spent_entry : Schedule
spent_entry = record {
  passes = 1;
  width = 1;
  slots = 64;
  epoch = 2;
  incarnation = 16777214;
  lines =
      Calls 0 Enter ∷ Calls 0 (Add 0 0 (7 ∷ [])) ∷ Calls 0 (Look (object 16777215 0)) ∷
      Calls 0 (Remove (object 16777215 0)) ∷ Calls 0 Leave ∷ Calls 0 Advance ∷ Calls 0 Advance ∷
      Calls 0 Advance ∷ Calls 0 Enter ∷ Calls 0 (Add 0 0 (8 ∷ [])) ∷ Calls 0 (Look (object 16777215 0)) ∷
      Calls 0 (Look (object 16777215 1)) ∷ [];
}

-- where all entries are spent, an add is full for entries
abbrev pub all_spent : Schedule
all_spent = record {
  passes = 1;
  width = 1;
  slots = 64;
  epoch = 2;
  incarnation = 16777215;
  lines = Calls 0 Enter ∷ Calls 0 (Add 0 0 (1 ∷ [])) ∷ [];
}

-- two adds at once take two slots
abbrev pub two_adds : Schedule
two_adds = record {
  passes = 2;
  width = 1;
  slots = 64;
  epoch = 2;
  incarnation = 0;
  lines =
      Calls 0 Enter ∷ Calls 1 Enter ∷ Starts 0 (Add 0 0 (1 ∷ [])) ∷ Starts 1 (Add 0 0 (2 ∷ [])) ∷
      Ends 0 ∷ Ends 1 ∷ [];
}

-- of two claims of a slot one fails
abbrev pub two_claims : Schedule
two_claims = record {
  passes = 2;
  width = 1;
  slots = 64;
  epoch = 2;
  incarnation = 0;
  lines =
      Calls 0 Enter ∷ Calls 1 Enter ∷ Starts 0 (Add 0 0 (1 ∷ [])) ∷ Starts 1 (Add 0 0 (2 ∷ [])) ∷
      Takes 0 1 ∷ Takes 1 1 ∷ [];
}

-- an entry is sought from where the slot was sought, and not from the slot that was found
abbrev pub entry_from_the_front : Schedule
entry_from_the_front = record {
  passes = 2;
  width = 1;
  slots = 64;
  epoch = 2;
  incarnation = 0;
  lines =
      Calls 0 Enter ∷ Calls 1 Enter ∷ Starts 0 (Add 0 0 (1 ∷ [])) ∷ Takes 0 1 ∷
      Calls 1 (Add 0 0 (2 ∷ [])) ∷ Calls 1 (Look (object 1 0)) ∷ Ends 0 ∷ [];
}

-- one more add than so many, one after the other
abbrev pub adds : ℕ → List Line
adds zero = Calls 0 (Add 0 0 (1 ∷ [])) ∷ []
adds (suc many) = Calls 0 (Add 0 0 (1 ∷ [])) ∷ adds many

-- once each slot is taken, an add is full for slots
abbrev pub all_taken : Schedule
all_taken = record {
  passes = 1;
  width = 1;
  slots = 64;
  epoch = 2;
  incarnation = 0;
  lines = Calls 0 Enter ∷ adds 64;
}

-- an object is there once all of it is stored
abbrev pub live_last : Schedule
live_last = record {
  passes = 2;
  width = 1;
  slots = 64;
  epoch = 2;
  incarnation = 0;
  lines =
      Calls 0 Enter ∷ Calls 1 Enter ∷ Starts 0 (Add 0 0 (7 ∷ [])) ∷ Takes 0 4 ∷
      Calls 1 (Look (object 1 0)) ∷ Takes 0 1 ∷ Calls 1 (Look (object 1 0)) ∷ Takes 0 1 ∷
      Calls 1 (Look (object 1 0)) ∷ Takes 0 1 ∷ Calls 1 (Look (object 1 0)) ∷
      Calls 1 (Read (object 1 0) 0) ∷ [];
}

-- an add holds nothing: its object can be read once it is looked up
abbrev pub not_held : Schedule
not_held = record {
  passes = 1;
  width = 1;
  slots = 64;
  epoch = 2;
  incarnation = 0;
  lines = Calls 0 Enter ∷ Calls 0 (Add 0 0 (7 ∷ [])) ∷ Starts 0 (Read (object 1 0) 0) ∷ [];
}

-- a section that has ended holds nothing
abbrev pub held_before : Schedule
held_before = record {
  passes = 1;
  width = 1;
  slots = 64;
  epoch = 2;
  incarnation = 0;
  lines =
      Calls 0 Enter ∷ Calls 0 (Add 0 0 (7 ∷ [])) ∷ Calls 0 (Look (object 1 0)) ∷ Calls 0 Leave ∷
      Calls 0 Enter ∷ Starts 0 (Read (object 1 0) 0) ∷ [];
}

-- a number whose entry the region does not have is null
abbrev pub no_such_entry : Schedule
no_such_entry = record {
  passes = 1;
  width = 1;
  slots = 64;
  epoch = 2;
  incarnation = 0;
  lines = Calls 0 Enter ∷ Calls 0 (Look (object 1 64)) ∷ [];
}

-- a scan visits a moving object once
abbrev pub visited_once : Schedule
visited_once = record {
  passes = 2;
  width = 1;
  slots = 128;
  epoch = 5;
  incarnation = 0;
  lines =
      Calls 0 Enter ∷ Calls 0 (Add 0 0 (11 ∷ [])) ∷ Calls 0 (Add 0 64 (22 ∷ [])) ∷ Calls 0 (Begin 0) ∷
      Calls 0 Leave ∷ Calls 0 Advance ∷ Calls 0 Advance ∷ Calls 0 Advance ∷ Calls 0 Enter ∷
      Starts 0 Finish ∷ Takes 0 4 ∷ Calls 1 Enter ∷ Calls 1 (Scan 0) ∷ Calls 1 (Next 1) ∷
      Calls 1 (Next 1) ∷ Calls 1 (Next 1) ∷ Ends 0 ∷ Calls 1 (Next 1) ∷ [];
}

-- a scan meets an object that is added before it
abbrev pub later_add : Schedule
later_add = record {
  passes = 2;
  width = 1;
  slots = 64;
  epoch = 2;
  incarnation = 0;
  lines =
      Calls 0 Enter ∷ Calls 0 (Add 0 0 (1 ∷ [])) ∷ Calls 1 Enter ∷ Calls 0 (Scan 0) ∷ Calls 0 (Next 0) ∷
      Calls 1 (Look (object 1 0)) ∷ Calls 1 (Remove (object 1 0)) ∷ Calls 1 (Add 0 5 (2 ∷ [])) ∷
      Calls 0 (Next 0) ∷ Calls 0 (Next 0) ∷ [];
}

-- a scan is gone on with in its section alone
abbrev pub scan_of_before : Schedule
scan_of_before = record {
  passes = 1;
  width = 1;
  slots = 64;
  epoch = 2;
  incarnation = 0;
  lines = Calls 0 Enter ∷ Calls 0 (Scan 0) ∷ Calls 0 Leave ∷ Calls 0 Enter ∷ Starts 0 (Next 0) ∷ [];
}

-- where no block would be freed, there is no round
abbrev pub nothing : Schedule
nothing = record {
  passes = 1;
  width = 1;
  slots = 128;
  epoch = 2;
  incarnation = 0;
  lines = Calls 0 Enter ∷ Calls 0 (Add 0 64 (1 ∷ [])) ∷ Calls 0 (Begin 0) ∷ Calls 0 (Survey 0) ∷ [];
}

-- where a source finds no slot that is ripe, nothing is frozen, and yet there is a round
abbrev pub no_target_left : Schedule
no_target_left = record {
  passes = 1;
  width = 1;
  slots = 128;
  epoch = 2;
  incarnation = 0;
  lines =
      Calls 0 Enter ∷ (adds 62 ++ Calls 0 (Add 0 63 (1 ∷ [])) ∷ Calls 0 (Look (object 1 63)) ∷
      Calls 0 (Remove (object 1 63)) ∷ Calls 0 (Add 0 64 (2 ∷ [])) ∷ Calls 0 (Begin 0) ∷ []);
}

-- a second round is refused, a finish may be too early, and a cancel ends a round
abbrev pub busy : Schedule
busy = record {
  passes = 2;
  width = 1;
  slots = 128;
  epoch = 5;
  incarnation = 0;
  lines =
      Calls 0 Enter ∷ Calls 0 (Add 0 0 (1 ∷ [])) ∷ Calls 0 (Add 0 64 (2 ∷ [])) ∷ Calls 0 (Begin 0) ∷
      Calls 1 Enter ∷ Calls 1 (Begin 0) ∷ Calls 0 Finish ∷ Calls 0 Cancel ∷ Calls 1 (Begin 0) ∷ [];
}

-- a section one above the bound is too early to finish
abbrev pub early_by_one : Schedule
early_by_one = record {
  passes = 1;
  width = 1;
  slots = 128;
  epoch = 5;
  incarnation = 0;
  lines =
      Calls 0 Enter ∷ Calls 0 (Add 0 0 (11 ∷ [])) ∷ Calls 0 (Add 0 64 (22 ∷ [])) ∷ Calls 0 (Begin 0) ∷
      Calls 0 Leave ∷ Calls 0 Advance ∷ Calls 0 Advance ∷ Calls 0 Enter ∷ Calls 0 Finish ∷ [];
}

-- a reader that is not calm abandons a move
abbrev pub abandoned : Schedule
abandoned = record {
  passes = 2;
  width = 1;
  slots = 128;
  epoch = 5;
  incarnation = 0;
  lines =
      Calls 0 Enter ∷ Calls 0 (Add 0 0 (11 ∷ [])) ∷ Calls 0 (Add 0 64 (22 ∷ [])) ∷ Calls 0 (Begin 0) ∷
      Calls 0 Leave ∷ Calls 0 Advance ∷ Calls 0 Advance ∷ Calls 1 Enter ∷ Calls 1 (Look (object 1 64)) ∷
      Calls 1 (Write (object 1 64) 0 33) ∷ Calls 0 Advance ∷ Calls 0 Enter ∷ Calls 0 Finish ∷
      Calls 1 (Read (object 1 64) 0) ∷ [];
}

-- a reader helps a locked move, and what it writes stays
abbrev pub helped : Schedule
helped = record {
  passes = 2;
  width = 2;
  slots = 128;
  epoch = 5;
  incarnation = 0;
  lines =
      Calls 0 Enter ∷ Calls 0 (Add 0 0 (11 ∷ 12 ∷ [])) ∷ Calls 0 (Add 0 64 (21 ∷ 22 ∷ [])) ∷
      Calls 0 (Begin 0) ∷ Calls 0 Leave ∷ Calls 0 Advance ∷ Calls 0 Advance ∷ Calls 0 Advance ∷
      Calls 0 Enter ∷ Starts 0 Finish ∷ Takes 0 7 ∷ Calls 1 Enter ∷ Calls 1 (Look (object 1 64)) ∷
      Calls 1 (Write (object 1 64) 1 99) ∷ Ends 0 ∷ Calls 1 (Read (object 1 64) 0) ∷
      Calls 1 (Read (object 1 64) 1) ∷ [];
}

-- a helper that was overtaken by another one and its write does not undo the write
abbrev pub late_helper : Schedule
late_helper = record {
  passes = 3;
  width = 1;
  slots = 128;
  epoch = 5;
  incarnation = 0;
  lines =
      Calls 0 Enter ∷ Calls 0 (Add 0 0 (11 ∷ [])) ∷ Calls 0 (Add 0 64 (22 ∷ [])) ∷ Calls 0 (Begin 0) ∷
      Calls 0 Leave ∷ Calls 0 Advance ∷ Calls 0 Advance ∷ Calls 0 Advance ∷ Calls 0 Enter ∷
      Starts 0 Finish ∷ Takes 0 4 ∷ Calls 1 Enter ∷ Calls 2 Enter ∷ Starts 1 (Look (object 1 64)) ∷
      Takes 1 2 ∷ Calls 2 (Look (object 1 64)) ∷ Calls 2 (Write (object 1 64) 0 99) ∷ Ends 1 ∷
      Calls 1 (Read (object 1 64) 0) ∷ Ends 0 ∷ [];
}

-- an object that was removed meanwhile is not moved
abbrev pub removed_meanwhile : Schedule
removed_meanwhile = record {
  passes = 2;
  width = 1;
  slots = 128;
  epoch = 5;
  incarnation = 0;
  lines =
      Calls 0 Enter ∷ Calls 0 (Add 0 0 (11 ∷ [])) ∷ Calls 0 (Add 0 64 (22 ∷ [])) ∷ Calls 0 (Begin 0) ∷
      Calls 0 Leave ∷ Calls 1 Enter ∷ Calls 1 (Look (object 1 64)) ∷ Calls 1 (Remove (object 1 64)) ∷
      Calls 1 Leave ∷ Calls 0 Advance ∷ Calls 0 Advance ∷ Calls 0 Advance ∷ Calls 0 Enter ∷
      Calls 0 Finish ∷ [];
}

-- the slot that an object was moved from is not used at once
abbrev pub source_waits : Schedule
source_waits = record {
  passes = 2;
  width = 1;
  slots = 128;
  epoch = 5;
  incarnation = 0;
  lines =
      Calls 0 Enter ∷ Calls 0 (Add 0 0 (11 ∷ [])) ∷ Calls 0 (Add 0 64 (22 ∷ [])) ∷ Calls 0 (Begin 0) ∷
      Calls 0 Leave ∷ Calls 0 Advance ∷ Calls 0 Advance ∷ Calls 0 Advance ∷ Calls 0 Enter ∷
      Calls 0 Finish ∷ Calls 0 (Add 0 64 (5 ∷ [])) ∷ [];
}
