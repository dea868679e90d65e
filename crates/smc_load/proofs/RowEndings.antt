-- How the loading of a row ends, from the adding of its object and the putting of its key.
use Rattle.std.proofs.Common.{◌≡◌, ℕ, [], List, Ok, Err, inl, inr, refl, subst, sym}
use Rattle.std.specs.Prelude.{slice_index}
use Rattle.smc_words.specs.declared.number.Number.{Number}
use Rattle.smc_region.specs.Callers.{Caller}
use Rattle.smc_does.specs.Does.{DoesSome}
use Rattle.smc_does.proofs.DoesLaws.{does-nothing}
use Rattle.smc_types.specs.declared.schema.Schema.{Schema}
use Rattle.smc_load.specs.Loading.{AddEnds, Entries, MayAddRow, PutsKey, RowEnds, record_of}
use Rattle.smc_load.specs.declared.rows.RowFault.{RowFault}
use Rattle.smc_load.specs.declared.rows.RowFault.TheVariants.{Full, NoMemory}

-- the object was added, and its key was put
pub put-ends : (number : Number) (schema : Schema) (table coll key : ℕ) (old new : Entries) (words : List ℕ) (before after : Caller) → AddEnds (Ok number) schema coll old words before after
    → key ≡ slice_index words 0 → PutsKey schema.keyed table key number old new → RowEnds (Ok number) schema table coll old new words before after
put-ends number schema table coll key old new words before after adds first puts = (
  adds.0,
  adds.1,
  (
    record { row = adds.2.row; number = number; home = adds.2.home; adds = adds.2.adds; puts = subst (λ (k : ℕ). PutsKey schema.keyed table k number old new) first puts },
    refl,
  ),
)

-- it was added, and its key was not put
pub unput-ends : (number : Number) (schema : Schema) (table coll : ℕ) (old new : Entries) (words : List ℕ) (before after : Caller) → AddEnds (Ok number) schema coll old words before after
    → new ≡ old → RowEnds (Err NoMemory) schema table coll old new words before after
unput-ends number schema table coll old new words before after adds kept = (kept, (adds.0, adds.1, inr (number, adds.2.home, adds.2.adds)))

-- it was not added
pub unadded-ends : (fault : RowFault) (schema : Schema) (table coll : ℕ) (keys : Entries) (words : List ℕ) (before after : Caller) → AddEnds (Err fault) schema coll keys words before after
    → RowEnds (Err fault) schema table coll keys keys words before after
unadded-ends Full schema table coll keys words before after ends = (refl, ends)
unadded-ends NoMemory schema table coll keys words before after ends =
    (refl, subst (λ (k : Caller). DoesSome before k (MayAddRow coll (record_of schema.columns keys words))) (sym ends) ([], does-nothing before, inl refl))
