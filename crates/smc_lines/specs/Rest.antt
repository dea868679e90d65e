-- What is left of a text.
use Rattle.std.specs.Prelude.{ℕ, List}

pub record Rest : Type 0 where
  -- how many lines were taken or passed over
  pub number : ℕ
  -- the lines behind them
  pub lines : List (List ℕ)
