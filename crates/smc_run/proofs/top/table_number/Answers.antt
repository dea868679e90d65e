use Rattle.std.proofs.Common.{refl}
use Rattle.smc_types.specs.Tables.{the_tables}
use Rattle.smc_run.proofs.TableNames.{other_name}
use Rattle.smc_run.proofs.top.table_number.Goals as goal

pub returns-in-region-clause-some : goal.returns-in-region-clause-some
unfolding the_tables
returns-in-region-clause-some c = rw c.in-region.is refl

pub returns-in-region-clause-named : goal.returns-in-region-clause-named
unfolding the_tables
returns-in-region-clause-named c = rw c.in-region.is refl

pub returns-in-nation-clause-some : goal.returns-in-nation-clause-some
unfolding the_tables
returns-in-nation-clause-some c = rw c.in-nation.is refl

pub returns-in-nation-clause-named : goal.returns-in-nation-clause-named
unfolding the_tables
returns-in-nation-clause-named c = rw c.in-nation.is refl

pub returns-in-supplier-clause-some : goal.returns-in-supplier-clause-some
unfolding the_tables
returns-in-supplier-clause-some c = rw c.in-supplier.is refl

pub returns-in-supplier-clause-named : goal.returns-in-supplier-clause-named
unfolding the_tables
returns-in-supplier-clause-named c = rw c.in-supplier.is refl

pub returns-in-customer-clause-some : goal.returns-in-customer-clause-some
unfolding the_tables
returns-in-customer-clause-some c = rw c.in-customer.is refl

pub returns-in-customer-clause-named : goal.returns-in-customer-clause-named
unfolding the_tables
returns-in-customer-clause-named c = rw c.in-customer.is refl

pub returns-in-part-clause-some : goal.returns-in-part-clause-some
unfolding the_tables
returns-in-part-clause-some c = rw c.in-part.is refl

pub returns-in-part-clause-named : goal.returns-in-part-clause-named
unfolding the_tables
returns-in-part-clause-named c = rw c.in-part.is refl

pub returns-in-partsupp-clause-some : goal.returns-in-partsupp-clause-some
unfolding the_tables
returns-in-partsupp-clause-some c = rw c.in-partsupp.is refl

pub returns-in-partsupp-clause-named : goal.returns-in-partsupp-clause-named
unfolding the_tables
returns-in-partsupp-clause-named c = rw c.in-partsupp.is refl

pub returns-in-orders-clause-some : goal.returns-in-orders-clause-some
unfolding the_tables
returns-in-orders-clause-some c = rw c.in-orders.is refl

pub returns-in-orders-clause-named : goal.returns-in-orders-clause-named
unfolding the_tables
returns-in-orders-clause-named c = rw c.in-orders.is refl

pub returns-in-lineitem-clause-some : goal.returns-in-lineitem-clause-some
unfolding the_tables
returns-in-lineitem-clause-some c = rw c.in-lineitem.is refl

pub returns-in-lineitem-clause-named : goal.returns-in-lineitem-clause-named
unfolding the_tables
returns-in-lineitem-clause-named c = rw c.in-lineitem.is refl

pub returns-in_default-clause-none : goal.returns-in_default-clause-none
unfolding the_tables
returns-in_default-clause-none c =
    let name = c.args.name.now in
    let other = c.in_default in
    rw (
      other_name name _ other.not-region,
      other_name name _ other.not-nation,
      other_name name _ other.not-supplier,
      other_name name _ other.not-customer,
      other_name name _ other.not-part,
      other_name name _ other.not-partsupp,
      other_name name _ other.not-orders,
      other_name name _ other.not-lineitem,
    ) refl
