-- What it is to load a file of a shelf.
use Rattle.std.specs.Prelude.{◌≡◌, ◌⊎◌, ℕ, List, [], Option, Some, None, IfSome, Result, Ok, Err, ⊤}
use Rattle.smc_types.specs.declared.schema.Schema.{Schema}
use Rattle.smc_outside.specs.Shelves.{file_named}
use Rattle.smc_trace.specs.Trace.{CallEnd}
use Rattle.smc_load.specs.Loading.{Entries}
use Rattle.smc_load.specs.Texts.{LoadsText}
use Rattle.smc_load.specs.declared.fault.LoadFault.{LoadFault}
use Rattle.smc_load.specs.declared.fault.LoadFault.TheVariants as load

-- the files of a shelf with their names, where it tells them
abbrev pub Told : Type 0
Told = Option (List (List ℕ × List ℕ))

-- where the files are told, this is the one of that name, or none has it
abbrev pub IsFile : Told → List ℕ → Option (List ℕ) → Type 0
IsFile told name file = IfSome told (λ files. file_named files name ≡ file)

-- what the reading of a file gives: its bytes, or that there is none
abbrev pub FindsFile : Told → List ℕ → Result (List ℕ) LoadFault → Type 0
FindsFile told name (Ok text) = IsFile told name (Some text)
FindsFile told name (Err load.NoFile) = IsFile told name None
FindsFile told name (Err load.ReadFault) = ⊤
FindsFile told name (Err load.NoMemory) = ⊤
FindsFile told name (Err fault) = ⊥

-- nothing is done, and no key is put
abbrev pub DoesNothing : Entries → Entries → List CallEnd → Type 0
DoesNothing old new calls = (new ≡ old) × (calls ≡ [])

-- there is the file, and its text is loaded
abbrev pub LoadsFound : Result ℕ LoadFault → Told → List ℕ → Schema → ℕ → ℕ → Entries → Entries → List CallEnd → Type 0
LoadsFound answer told name schema table coll old new calls =
    (text : List ℕ) × IsFile told name (Some text) × LoadsText answer schema table coll old new (Some text) calls

-- how the loading of a file ends: there is none, or it can't be read, or its text is loaded
abbrev pub LoadsFile : Result ℕ LoadFault → Told → List ℕ → Schema → ℕ → ℕ → Entries → Entries → List CallEnd → Type 0
LoadsFile (Err load.NoFile) told name schema table coll old new calls = IsFile told name None × DoesNothing old new calls
LoadsFile (Err load.ReadFault) told name schema table coll old new calls = DoesNothing old new calls
LoadsFile (Err load.NoMemory) told name schema table coll old new calls =
    DoesNothing old new calls ⊎ LoadsFound (Err load.NoMemory) told name schema table coll old new calls
LoadsFile answer told name schema table coll old new calls = LoadsFound answer told name schema table coll old new calls
