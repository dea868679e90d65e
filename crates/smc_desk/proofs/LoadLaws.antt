-- How a load ends, told from how its file was loaded.
use Rattle.std.proofs.Common.{◌≡◌, ℕ, List, Option, Some, None, Ok, Err, sym, subst}
use Rattle.smc_region.specs.Callers.{Caller}
use Rattle.smc_trace.specs.Trace.{CallEnd}
use Rattle.smc_does.specs.Does.{DoesSome}
use Rattle.smc_query.specs.Trees.{Word}
use Rattle.smc_types.specs.declared.schema.Schema.{Schema}
use Rattle.smc_script.specs.declared.script.Place.{Place}
use Rattle.smc_load.specs.Files.{LoadsFile, Told}
use Rattle.smc_load.specs.Loading.{Entries}
use Rattle.smc_load.specs.declared.fault.LoadFault.{LoadFault}
use Rattle.smc_load.specs.declared.fault.LoadFault.TheVariants as fault
use Rattle.smc_replies.specs.Books.{Books, KnowsSame}
use Rattle.smc_replies.specs.Loads.{LoadsBy, loaded_line}
use Rattle.smc_desk.specs.Stops.{LoadStops}

-- all of it was
pub load-done : (by : Option Schema) (schema : Schema) (files : Told) (place : Place) (file : Word) (known now : Books) (old new : Caller) (count : ℕ) (text : List ℕ) → by ≡ Some schema
    → KnowsSame now known → DoesSome old new (LoadsFile (Ok count) files file schema place.table place.coll known.keys now.keys) → text ≡ loaded_line schema.name count
    → DoesSome old new (λ calls. LoadsBy by files place file known now calls text)
load-done by schema files place file known now old new count text is same done says =
    (done.0, done.1, subst (λ (s : Option Schema). LoadsBy s files place file known now done.0 text) (sym is) (record { count = count; loads = done.2; same = same; reply = says }))

-- it stopped at a fault
pub load-stops : (by : Option Schema) (schema : Schema) (why : LoadFault) (files : Told) (place : Place) (file : Word) (known : Books) (keys : Entries) (old new : Caller) → by ≡ Some schema
    → DoesSome old new (LoadsFile (Err why) files file schema place.table place.coll known.keys keys) → LoadStops why by files place file known old new
load-stops by schema why files place file known keys old new is done = subst (λ (s : Option Schema). LoadStops why s files place file known old new) (sym is) (go why done)
  where
    go : (why : LoadFault) → DoesSome old new (LoadsFile (Err why) files file schema place.table place.coll known.keys keys) → LoadStops why (Some schema) files place file known old new
    go fault.NoFile done = (done.0, done.1, (keys, done.2))
    go (fault.Tbl line why) done = (done.0, done.1, (keys, done.2))
    go (fault.Full line) done = (done.0, done.1, (keys, done.2))
    go fault.ReadFault done = (done.0, done.1, (keys, done.2))
    go fault.NoMemory done = tt
