-- A worked schedule: pass 0 adds an object, finds it, removes it twice over and moves the epoch on, while pass 1 looks on.
use Rattle.std.specs.Prelude.{ℕ, true, false, IsSomeAnd, Some, List, [], ◌∷◌, ◌++◌, slice_get}
use Rattle.smc_words.specs.declared.number.Number.{Number}
use Rattle.smc_core.specs.declared.call.Call.TheVariants.{Add, Advance, Enter, Leave, Look, Remove}
use Rattle.smc_core.specs.declared.done.Done.TheVariants.{Advanced}
use Rattle.smc_core.specs.Played.{Calls, Schedule, Starts, Takes, played}
use Rattle.smc_trace.specs.Named.{advances, enters, leaves, looks, makes, removes}
use Rattle.smc_trace.specs.Trace.{CallEnd, IsTrace}

abbrev pub number : Number
number = record { incarnation = 1; entry = 0; coll = 0 }

abbrev pub removes_twice : Schedule
removes_twice = record {
  passes = 2;
  width = 1;
  slots = 64;
  epoch = 5;
  incarnation = 0;
  lines = Calls 0 Enter ∷ Starts 1 Enter ∷ Calls 0 (Add 0 0 (11 ∷ [])) ∷ Calls 0 (Look number) ∷ Takes 1 4
      ∷ Calls 0 (Remove number) ∷ Calls 0 (Remove number) ∷ Calls 1 (Look number) ∷ Calls 1 Leave ∷ Calls 0 Leave ∷ Calls 0 Advance ∷ [];
}

-- this is the trace of the pass where the schedule leads
abbrev pub HasTraceAfter : Schedule → ℕ → List CallEnd → Type 0
HasTraceAfter s pass calls = IsSomeAnd (played s) (λ m. IsSomeAnd (slice_get m.locals pass) (λ l. IsTrace l calls))

abbrev pub first_trace : List CallEnd
first_trace = enters 5 ++ makes number (11 ∷ []) 0 ++ looks number (Some 0) ++ removes number true ++ removes number false ++ leaves ++ advances (Advanced 6)
