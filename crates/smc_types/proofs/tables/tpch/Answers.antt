-- What the code writes down is the table of the definitions.
use Rattle.std.proofs.Common.{List, ap, ◌∙◌}
use Rattle.smc_types.specs.declared.catalog.Catalog.{Catalog}
use Rattle.smc_types.specs.declared.schema.Schema.{Schema}
use Rattle.smc_types.specs.Tables.{the_tables}
use Rattle.smc_types.proofs.tables.tpch.Goals as goal

-- the catalog of these schemas
abbrev catalog_of : List Schema → Catalog
catalog_of schemas = record { schemas = schemas }

pub returns : goal.returns
unfolding the_tables
returns c = ap catalog_of (c.of.ensures ∙ c.in_ok-schemas.ensures)
