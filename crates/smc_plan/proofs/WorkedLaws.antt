-- The worked queries, computed.
use Rattle.std.proofs.Common.{refl}
use Rattle.smc_types.specs.Calendar.{days_of_years, days_of_months}
use Rattle.smc_types.specs.Tables.{the_tables}
use Rattle.smc_plan.specs.Items.{is_fold}
use Rattle.smc_plan.specs.Worked.{EndsInReference, FaultsInOrder, FollowsName, LacksField, LacksFold, LacksTable, PlansForecast, PlansShipping, SumsSquares, SumsText}

pub lacks-table : LacksTable
unfolding the_tables
lacks-table = refl

pub lacks-field : LacksField
unfolding the_tables
lacks-field = refl

pub lacks-fold : LacksFold
unfolding the_tables is_fold
lacks-fold = refl

pub sums-text : SumsText
unfolding the_tables
sums-text = refl

pub ends-in-reference : EndsInReference
unfolding the_tables
ends-in-reference = refl

pub follows-name : FollowsName
unfolding the_tables
follows-name = refl

pub sums-squares : SumsSquares
unfolding the_tables
sums-squares = refl

pub faults-in-order : FaultsInOrder
unfolding the_tables
faults-in-order = refl

pub plans-forecast : PlansForecast
unfolding the_tables days_of_years days_of_months
plans-forecast = refl

pub plans-shipping : PlansShipping
unfolding the_tables days_of_years days_of_months
plans-shipping = refl
