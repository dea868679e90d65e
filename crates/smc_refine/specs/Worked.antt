-- Worked schedules after which events are alone, or are not.
use Rattle.std.specs.Prelude.{ℕ, IsSomeAnd, [], ◌∷◌}
use Rattle.smc_core.specs.declared.call.Call.TheVariants.{Add, Begin, Cancel, Enter, Finish, Leave, Note, Learn}
use Rattle.smc_core.specs.Played.{Calls, Schedule, played}
use Rattle.smc_refine.specs.Alone.{Alone}

-- pass 1 works after what pass 0 has told it, and tells pass 0 of it before pass 0 goes on
abbrev pub works_between : Schedule
works_between = record {
  passes = 2;
  width = 1;
  slots = 64;
  epoch = 2;
  incarnation = 0;
  lines =
      Calls 0 Enter ∷ Calls 0 Leave ∷ Calls 0 Note ∷ Calls 1 (Learn 0 0) ∷ Calls 1 Enter ∷ Calls 1 Leave ∷ Calls 1 Note ∷
      Calls 0 (Learn 1 0) ∷ Calls 0 Enter ∷ Calls 0 Leave ∷ [];
}

-- pass 0 enters before it is told
abbrev pub enters_too_soon : Schedule
enters_too_soon = record {
  passes = 2;
  width = 1;
  slots = 64;
  epoch = 2;
  incarnation = 0;
  lines =
      Calls 0 Enter ∷ Calls 0 Leave ∷ Calls 0 Note ∷ Calls 1 (Learn 0 0) ∷ Calls 1 Enter ∷ Calls 0 Enter ∷ Calls 0 Leave ∷
      Calls 1 Leave ∷ Calls 1 Note ∷ Calls 0 (Learn 1 0) ∷ [];
}

-- pass 0 is told of pass 1 before pass 1 has done what it does
abbrev pub told_too_soon : Schedule
told_too_soon = record {
  passes = 2;
  width = 1;
  slots = 64;
  epoch = 2;
  incarnation = 0;
  lines =
      Calls 0 Enter ∷ Calls 0 Leave ∷ Calls 0 Note ∷ Calls 1 (Learn 0 0) ∷ Calls 1 Note ∷ Calls 0 (Learn 1 0) ∷
      Calls 1 Enter ∷ Calls 1 Leave ∷ [];
}

-- pass 0 has begun a round, which it was too early to finish, when pass 1 works
abbrev pub keeps_its_round : Schedule
keeps_its_round = record {
  passes = 2;
  width = 1;
  slots = 128;
  epoch = 5;
  incarnation = 0;
  lines =
      Calls 0 Enter ∷ Calls 0 (Add 0 0 (1 ∷ [])) ∷ Calls 0 (Add 0 64 (2 ∷ [])) ∷ Calls 0 (Begin 0) ∷ Calls 0 Finish ∷
      Calls 0 Leave ∷ Calls 0 Note ∷ Calls 1 (Learn 0 0) ∷ Calls 1 Enter ∷ Calls 1 Leave ∷ Calls 1 Note ∷
      Calls 0 (Learn 1 0) ∷ [];
}

-- it has cancelled its round before
abbrev pub cancels_its_round : Schedule
cancels_its_round = record {
  passes = 2;
  width = 1;
  slots = 128;
  epoch = 5;
  incarnation = 0;
  lines =
      Calls 0 Enter ∷ Calls 0 (Add 0 0 (1 ∷ [])) ∷ Calls 0 (Add 0 64 (2 ∷ [])) ∷ Calls 0 (Begin 0) ∷ Calls 0 Cancel ∷
      Calls 0 Leave ∷ Calls 0 Note ∷ Calls 1 (Learn 0 0) ∷ Calls 1 Enter ∷ Calls 1 Leave ∷ Calls 1 Note ∷
      Calls 0 (Learn 1 0) ∷ [];
}

-- these events of the pass's log are alone once the schedule is played
abbrev pub IsAloneAfter : Schedule → ℕ → ℕ → ℕ → Type 0
IsAloneAfter s pass since until = IsSomeAnd (played s) (λ m. Alone m.locals pass since until)

-- they are not
abbrev pub IsNotAloneAfter : Schedule → ℕ → ℕ → ℕ → Type 0
IsNotAloneAfter s pass since until = IsSomeAnd (played s) (λ m. ¬ (Alone m.locals pass since until))
