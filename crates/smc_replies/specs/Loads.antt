-- What a script stands in, and what its loads do and reply.
use Rattle.std.specs.Prelude.{◌≡◌, ℕ, List, ◌++◌, codes, Option, Some, None, Ok, Err}
use Rattle.std.specs.Fmt.{decimal}
use Rattle.smc_shape.specs.Layout.{Layout}
use Rattle.smc_trace.specs.Trace.{CallEnd}
use Rattle.smc_query.specs.Trees.{Word}
use Rattle.smc_types.specs.declared.schema.Schema.{Schema}
use Rattle.smc_script.specs.declared.script.Place.{Place}
use Rattle.smc_load.specs.Files.{LoadsFile, Told}
use Rattle.smc_load.specs.Loading.{Entries}
use Rattle.smc_load.specs.declared.fault.LoadFault.{LoadFault}
use Rattle.smc_replies.specs.Books.{Books, KnowsSame}

-- the files of the shelf, where it tells them, the shape of the region, and the names of the folds with which the script was read
pub record Scene : Type 0 where
  pub files : Told
  pub shape : Layout
  pub folds : List Word

-- the reply to the loading of so many rows of the table of this name
abbrev pub loaded_line : List ℕ → ℕ → List ℕ
loaded_line table count = codes "loaded " ++ table ++ codes " " ++ decimal count ++ codes "\n"

-- the rows of the file are loaded, all of them, and counted; the names and the folds stay
pub record LoadsTable (schema : Schema) (files : Told) (place : Place) (file : Word) (old new : Books) (calls : List CallEnd) (text : List ℕ) : Type 0 where
  pub count : ℕ
  pub loads : LoadsFile (Ok count) files file schema place.table place.coll old.keys new.keys calls
  pub same : KnowsSame new old
  pub reply : text ≡ loaded_line schema.name count

-- a file is loaded by the columns of its table
abbrev pub LoadsBy : Option Schema → Told → Place → Word → Books → Books → List CallEnd → List ℕ → Type 0
LoadsBy None files place file old new calls text = ⊥
LoadsBy (Some schema) files place file old new calls text = LoadsTable schema files place file old new calls text

-- the loading stops at this fault; the keys of the rows before it were put
abbrev pub StopsBy : Option Schema → Told → LoadFault → Place → Word → Books → List CallEnd → Type 0
StopsBy None files fault place file old calls = ⊥
StopsBy (Some schema) files fault place file old calls = (keys : Entries) × LoadsFile (Err fault) files file schema place.table place.coll old.keys keys calls
