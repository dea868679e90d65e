-- Values that are the same in every row.
use Rattle.smc_meaning.specs.Values.{Cell, number, day}
use Rattle.smc_filter.specs.declared.constant.Constant.{Constant}
use Rattle.smc_filter.specs.declared.constant.Constant.TheVariants.{Number, Day}

-- the value that it is
abbrev pub cell_of_constant : Constant → Cell
cell_of_constant (Number units scale) = number units scale
cell_of_constant (Day days) = day days
