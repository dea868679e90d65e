-- How a load stops.
use Rattle.std.specs.Prelude.{⊤, Option}
use Rattle.smc_region.specs.Callers.{Caller}
use Rattle.smc_does.specs.Does.{DoesSome}
use Rattle.smc_types.specs.declared.schema.Schema.{Schema}
use Rattle.smc_query.specs.Trees.{Word}
use Rattle.smc_script.specs.declared.script.Place.{Place}
use Rattle.smc_load.specs.Files.{Told}
use Rattle.smc_load.specs.declared.fault.LoadFault.{LoadFault}
use Rattle.smc_load.specs.declared.fault.LoadFault.TheVariants as load
use Rattle.smc_replies.specs.Books.{Books}
use Rattle.smc_replies.specs.Loads.{StopsBy}

-- a load by these columns stops at the fault; for want of memory nothing is told
abbrev pub LoadStops : LoadFault → Option Schema → Told → Place → Word → Books → Caller → Caller → Type 0
LoadStops load.NoMemory by files place file known old new = ⊤
LoadStops fault by files place file known old new = DoesSome old new (StopsBy by files fault place file known)
