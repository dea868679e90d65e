-- The first column of a table, which is a count.
use Rattle.std.proofs.Common.{◌≡◌, ℕ, zero, suc, Bool, true, false, ◌&&◌, List, [], ◌∷◌, Some, None, refl}
use Rattle.std.specs.Prelude.{slice_get, IfSome, Option, IsTrue}
use Rattle.std.specs.List.{list_all}
use Rattle.std.proofs.lemmas.Bool.{false≢true}
use Rattle.smc_types.specs.Columns.{value_kinds}
use Rattle.smc_types.specs.Tables.{the_tables}
use Rattle.smc_types.specs.declared.column.FieldType.{FieldType}
use Rattle.smc_types.specs.declared.column.FieldType.TheVariants.{Count}
use Rattle.smc_types.specs.declared.row.Value.{Value}
use Rattle.smc_types.specs.declared.schema.Schema.{Schema}
use Rattle.smc_tbl.specs.TableText.{FitsColumns}
use Rattle.smc_run.specs.Tally.{counts_first}

-- a row of such a table fits a count and other columns
pub counts-fit : (kinds : List FieldType) (row : List Value) → IsTrue (counts_first kinds) → FitsColumns kinds row → (others : List FieldType) × FitsColumns (Count ∷ others) row
counts-fit [] row counts fits = absurd (false≢true counts)
counts-fit (Count ∷ kinds) row counts fits = (kinds, fits)
counts-fit (_ ∷ kinds) row counts fits = absurd (false≢true counts)

-- whether the table's first column is a count
abbrev counted : Schema → Bool
counted schema = counts_first (value_kinds schema.columns)

and-left : (a b : Bool) → a && b ≡ true → a ≡ true
and-left true b both = refl
and-left false b both = both

and-right : (a b : Bool) → a && b ≡ true → b ≡ true
and-right true b both = both
and-right false b both = absurd (false≢true both)

counted-at : (schemas : List Schema) (place : ℕ) (schema : Schema) → list_all counted schemas ≡ true → slice_get schemas place ≡ Some schema → counted schema ≡ true
counted-at [] place schema all is = cc
counted-at (first ∷ schemas) zero schema all is =
    let same : first ≡ schema = cc in
    rw (← same) (and-left _ _ all)
counted-at (first ∷ schemas) (suc place) schema all is = counted-at schemas place schema (and-right _ _ all) is

all_counted : list_all counted the_tables.schemas ≡ true
unfolding the_tables
all_counted = refl

-- each of the eight tables begins with a count
pub table-counts : (place : ℕ) (schema : Schema) → slice_get the_tables.schemas place ≡ Some schema → IsTrue (counts_first (value_kinds schema.columns))
table-counts place schema is = counted-at the_tables.schemas place schema all_counted is

-- what holds always holds of a value, if there is one
pub IfSome-always : {A : Type 0} (value : Option A) (P : Type 0) → P → IfSome value (λ _. P)
IfSome-always None P fact = tt
IfSome-always (Some value) P fact = fact
