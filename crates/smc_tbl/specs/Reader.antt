-- What a reader of lines knows between two calls.
use Rattle.std.specs.Prelude.{ℕ, List}
use Rattle.std.specs.declared.option.Option.{Option}
use Rattle.smc_tbl.specs.declared.fault.TblFault.{TblFault}

pub record Reader : Type 0 where
  -- the bytes that were read and belong to no line that was taken
  pub kept : List ℕ
  -- how many lines were taken
  pub number : ℕ
  -- the fault that was answered
  pub fault : Option TblFault
