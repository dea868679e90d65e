-- Worked calls that are alone: two objects in two blocks are moved into one, and a survey tells so; and a collection is filled and tried.
use Rattle.std.specs.Prelude.{ℕ, zero, suc, ◌+◌, IsSomeAnd, List, [], ◌∷◌, ◌++◌}
use Rattle.smc_words.specs.declared.number.Number.{Number}
use Rattle.smc_model.specs.declared.event.Cause.TheVariants.{Slots}
use Rattle.smc_core.specs.declared.call.Call.TheVariants.{Add, Advance, Begin, Enter, Finish, Leave, Survey}
use Rattle.smc_core.specs.declared.done.Done.TheVariants.{Advanced, Finished, Round}
use Rattle.smc_core.specs.Played.{Calls, Schedule, played}
use Rattle.smc_full.specs.Worked.{fills}
use Rattle.smc_trace.specs.Named.{advances, enters, finishes, leaves, makes, refuses, rounds, surveys}
use Rattle.smc_trace.specs.Trace.{CallEnd}
use Rattle.smc_alone.specs.Laws.{DidAlone}

-- pass 0 has done this alone where the schedule leads
abbrev pub DidAloneAfter : Schedule → List CallEnd → List CallEnd → Type 0
DidAloneAfter s before calls = IsSomeAnd (played s) (λ m. DidAlone m.locals 0 before calls)

abbrev pub entry : ℕ → Number
entry k = record { incarnation = 1; entry = k; coll = 0 }

abbrev pub drives_and_surveys : Schedule
drives_and_surveys = record {
  passes = 2;
  width = 1;
  slots = 128;
  epoch = 5;
  incarnation = 0;
  lines =
      Calls 0 Enter ∷ Calls 0 (Add 0 0 (11 ∷ [])) ∷ Calls 0 (Add 0 64 (22 ∷ [])) ∷ Calls 0 Leave
      ∷ Calls 0 Advance ∷ Calls 0 Advance ∷ Calls 0 Advance ∷ Calls 0 Enter ∷ Calls 0 (Begin 0) ∷ Calls 0 Leave
      ∷ Calls 0 Advance ∷ Calls 0 Advance ∷ Calls 0 Advance ∷ Calls 0 Enter ∷ Calls 0 Finish ∷ Calls 0 Leave
      ∷ Calls 0 Enter ∷ Calls 0 (Survey 0) ∷ Calls 0 Leave ∷ [];
}

-- what the pass has done before, its drive, and its survey
abbrev pub added : List CallEnd
added = enters 5 ++ (makes (entry 0) (11 ∷ []) 0 ++ (makes (entry 64) (22 ∷ []) 64 ++ leaves))

abbrev pub drove : List CallEnd
drove = advances (Advanced 6) ++ (advances (Advanced 7) ++ (advances (Advanced 8) ++ (enters 8 ++ (rounds (Round 0 9 1) ++ (leaves
    ++ (advances (Advanced 9) ++ (advances (Advanced 10) ++ (advances (Advanced 11) ++ (enters 11 ++ (finishes (Finished 1 0 0) ++ leaves))))))))))

abbrev pub surveyed : List CallEnd
surveyed = enters 11 ++ surveys 0 2 1

-- as many objects are added as there are slots; then one more is tried, and after three advances once more
abbrev pub fills_and_tries : Schedule
fills_and_tries = record {
  passes = 2;
  width = 1;
  slots = 64;
  epoch = 5;
  incarnation = 0;
  lines = Calls 0 Enter ∷ (fills 0 64
      ++ (Calls 0 Enter ∷ Calls 0 (Add 0 0 (1 ∷ [])) ∷ Calls 0 Leave ∷ Calls 0 Advance ∷ Calls 0 Advance ∷ Calls 0 Advance
      ∷ Calls 0 Enter ∷ Calls 0 (Add 0 0 (1 ∷ [])) ∷ Calls 0 Leave ∷ []));
}

-- so many objects are added from this entry on
abbrev pub filled_from : ℕ → ℕ → List CallEnd
filled_from from zero = leaves
filled_from from (suc more) = makes (entry from) (1 ∷ []) from ++ filled_from (from + 1) more

-- what the pass has done before, and its tries up to the second refusal
abbrev pub filled : List CallEnd
filled = enters 5 ++ filled_from 0 64

abbrev pub tried : List CallEnd
tried = enters 5 ++ (refuses 0 Slots ++ (leaves ++ (advances (Advanced 6) ++ (advances (Advanced 7) ++ (advances (Advanced 8) ++ enters 8)))))
