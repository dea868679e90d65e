-- What is proved of traces.
use Rattle.std.specs.Prelude.{◌≡◌, ◌↔◌, List, ◌++◌}
use Rattle.smc_core.specs.declared.local.Local.{Local}
use Rattle.smc_trace.specs.Trace.{CallEnd, IsTrace, Tells}

-- a pass has at most one trace
abbrev pub TraceIsOne : Type 0
TraceIsOne = (l : Local) (calls others : List CallEnd) → IsTrace l calls → IsTrace l others → calls ≡ others

-- calls that are made behind others
abbrev pub TellsThen : Type 0
TellsThen = (first middle last : Local) (calls later : List CallEnd) → Tells first middle calls → Tells middle last later → Tells first last (calls ++ later)

-- the trace grows by what the pass goes on by
abbrev pub TraceGrows : Type 0
TraceGrows = (old new : Local) (before calls : List CallEnd) → IsTrace old before → Tells old new calls ↔ IsTrace new (before ++ calls)
