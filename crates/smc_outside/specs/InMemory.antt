-- What a source and a sink in memory show, and what one call makes of them.
use Rattle.std.specs.Prelude.{ℕ, ◌-◌, ◌==◌, Bool, ◌&&◌, ◌||◌, nat_lt, List, ◌++◌, length, take, drop, Result, Ok, Err}
use Rattle.std.specs.List.{list_any}
use Rattle.smc_outside.specs.Causes.{raised}
use Rattle.smc_outside.specs.declared.failed.Failed.{Failed}

-- what a source in memory shows
pub record SourceInMemory : Type 0 where
  -- the bytes that are left
  pub left : List ℕ
  -- how many bytes one call gives at most
  pub most : ℕ
  -- the numbers of the calls that fail
  pub fails : List ℕ
  -- the number of the next call, from 0, which stands still at its last value
  pub calls : ℕ
  -- how many calls have failed
  pub faults : ℕ

-- what a sink in memory shows
pub record SinkInMemory : Type 0 where
  -- the bytes that were written
  pub held : List ℕ
  -- how many bytes it holds at most
  pub space : ℕ
  -- how many bytes one call takes at most
  pub most : ℕ
  -- the numbers of the calls that fail
  pub fails : List ℕ
  -- the number of the next call, from 0, which stands still at its last value
  pub calls : ℕ
  -- how many calls have failed
  pub faults : ℕ

-- the list has the number of this call
abbrev pub is_listed : List ℕ → ℕ → Bool
is_listed fails call = list_any (λ listed. listed == call) fails

-- how many more bytes fit
abbrev pub room : SinkInMemory → ℕ
room sink = sink.space - length sink.held

-- the next write fails: the list has it, or it has a byte and there is no room
abbrev pub is_refused : SinkInMemory → List ℕ → Bool
is_refused sink piece = is_listed sink.fails sink.calls || (room sink == 0 && nat_lt 0 (length piece))

-- the source after a read with this answer
abbrev pub after_read : SourceInMemory → Result ℕ Failed → SourceInMemory
after_read source (Ok n) = record source { left = drop n source.left; calls = raised source.calls }
after_read source (Err _) = record source { calls = raised source.calls; faults = raised source.faults }

-- the sink after a write of this piece with this answer
abbrev pub after_write : SinkInMemory → List ℕ → Result ℕ Failed → SinkInMemory
after_write sink piece (Ok n) = record sink { held = sink.held ++ take n piece; calls = raised sink.calls }
after_write sink piece (Err _) = record sink { calls = raised sink.calls; faults = raised sink.faults }
