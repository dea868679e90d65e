use Rattle.smc_plan.proofs.WorkedLaws.{ends-in-reference, faults-in-order, follows-name, lacks-field, lacks-fold, lacks-table, plans-forecast, plans-shipping, sums-squares, sums-text}
use Rattle.smc_plan.proofs.laws.worked_queries.Goals as goal

pub returns : goal.returns
returns c = record {
  lacks_table = lacks-table;
  lacks_field = lacks-field;
  lacks_fold = lacks-fold;
  sums_text = sums-text;
  ends_in_reference = ends-in-reference;
  follows_name = follows-name;
  sums_squares = sums-squares;
  faults_in_order = faults-in-order;
  plans_forecast = plans-forecast;
  plans_shipping = plans-shipping;
}
