-- Rows that are added and values that are set, and how they are read from the texts of lines.
use Rattle.std.proofs.Common.{◌≡◌, ◌≢◌, ℕ, List, [], ◌∷◌, true, false, Option, None, Some, Ok, Err, sym, ap, ◌∙◌, subst}
use Rattle.std.specs.declared.result.Result.{Result}
use Rattle.smc_lines.specs.Words.{words}
use Rattle.smc_query.specs.Trees.{Word}
use Rattle.smc_tbl.specs.Alone.{IsFieldRead}
use Rattle.smc_tbl.specs.TableText.{Gives, GivesOne, UnlessMemory}
use Rattle.smc_tbl.specs.declared.fault.TblFault.{TblFault}
use Rattle.smc_tbl.specs.declared.fault.TblFault.TheVariants.{FieldCount, Number, Date, TextTooLong, BadText, LineTooLong, ReadFault, TooManyLines, NoMemory}
use Rattle.smc_types.specs.declared.catalog.Catalog.{Catalog}
use Rattle.smc_types.specs.declared.column.FieldType.{FieldType}
use Rattle.smc_types.specs.declared.row.Value.{Value}
use Rattle.smc_types.specs.declared.schema.Schema.{Schema}
use Rattle.smc_script.specs.Names.{Naming}
use Rattle.smc_script.specs.Says.{SaidTree, RowSays, SaysSet, SaysValue, IsRowRead, IsValueRead, set, is_row_memory, is_set, kind_named}
use Rattle.smc_script.specs.Tables.{schema_of}
use Rattle.smc_script.proofs.SaysLaws.{first_word, later, some-one}

-- ---- rows

-- a fault that is no want of memory was told of the line
told-fault : (fault : TblFault) (tells : Result (List Value) TblFault → Type 0) → is_row_memory fault ≡ false → UnlessMemory (Err fault) tells → tells (Err fault)
told-fault NoMemory tells is told = absurd cc
told-fault FieldCount tells is told = told
told-fault Number tells is told = told
told-fault Date tells is told = told
told-fault TextTooLong tells is told = told
told-fault BadText tells is told = told
told-fault LineTooLong tells is told = told
told-fault ReadFault tells is told = told
told-fault TooManyLines tells is told = told

-- a row and a fault are two
row-fault : (row : List Value) (fault : TblFault) (reading : Result (List Value) TblFault) → Ok row ≡ reading → Err fault ≡ reading → ⊥
row-fault row fault reading one other = let no : Ok row ≡ Err fault = one ∙ sym other in cc

-- a line that has a fault is no row
pub fault-row : ((schema : Schema) (line : List ℕ) → GivesOne schema line) → (catalog : Catalog) (table : ℕ) (text : List ℕ) (schema : Schema) (fault : TblFault)
    → schema_of catalog table ≡ Some schema → UnlessMemory (Err fault) (Gives schema text) → is_row_memory fault ≡ false → IsRowRead catalog table text None
fault-row one catalog table text schema fault is told memory row (other, same, spells) =
    let (reading, gives, only) = one schema text in
    let here : Gives schema text (Ok row) = subst (λ (s : Schema). Gives s text (Ok row)) (some-one other schema (sym same ∙ is)) spells in
    row-fault row fault reading (only (Ok row) here) (only (Err fault) (told-fault fault (Gives schema text) memory told))

-- where there is no table there is no row
pub no-schema : (catalog : Catalog) (table : ℕ) (text : List ℕ) → schema_of catalog table ≡ None → IsRowRead catalog table text None
no-schema catalog table text none row (schema, is, spells) = let no : None ≡ Some schema = sym none ∙ is in absurd cc

-- a text that is no row says nothing of the table
pub no-row : (catalog : Catalog) (table : ℕ) (name : Word) (text : List ℕ) → IsRowRead catalog table text None → (said : SaidTree) → ¬ RowSays catalog table name text said
no-row catalog table name text none said (row, is, spells) = none row spells

-- ---- values that are set

-- what is read of a text in a column, from what its field is read as
pub value-read : (kind : FieldType) (text : List ℕ) → IsFieldRead kind text None → IsValueRead (Some kind) text None
value-read kind text none None says = says
value-read kind text none (Some value) says = none value says

-- what a setting says, by its words
pub record SetAt (catalog : Catalog) (names : Naming) (name column value_text : Word) (said : SaidTree) : Type 0 where
  pub value : Option Value
  pub head : is_set name column ≡ true
  pub spells : SaysValue (kind_named catalog names name column) value_text value
  pub says : said ≡ set name column value

pub set-at : (catalog : Catalog) (names : Naming) (text : List ℕ) (name column value_text : Word) (said : SaidTree) → words text ≡ name ∷ column ∷ value_text ∷ []
    → SaysSet catalog names text said → SetAt catalog names name column value_text said
set-at catalog names text name column value_text said is s =
    let same : s.name ∷ s.column ∷ s.value_text ∷ [] ≡ name ∷ column ∷ value_text ∷ [] = sym s.cut ∙ is in
    let first : s.name ≡ name = ap first_word same in
    let second : s.column ≡ column = ap (λ (w : List Word). first_word (later w)) same in
    let third : s.value_text ≡ value_text = ap (λ (w : List Word). first_word (later (later w))) same in record {
      value = s.value;
      head = subst (λ (c : Word). is_set name c ≡ true) second (subst (λ (n : Word). is_set n s.column ≡ true) first s.head);
      spells =
          subst (λ (t : Word). SaysValue (kind_named catalog names name column) t s.value) third
          (subst (λ (c : Word). SaysValue (kind_named catalog names name c) s.value_text s.value) second
          (subst (λ (n : Word). SaysValue (kind_named catalog names n s.column) s.value_text s.value) first s.spells));
      says = s.says ∙ ap (λ (n : Word). set n s.column s.value) first ∙ ap (λ (c : Word). set name c s.value) second;
    }

-- without three words nothing is set
pub no-words : (catalog : Catalog) (names : Naming) (text : List ℕ) → ((first second third : Word) → words text ≢ first ∷ second ∷ third ∷ [])
    → (said : SaidTree) → ¬ SaysSet catalog names text said
no-words catalog names text none said s = none s.name s.column s.value_text s.cut

-- nor without a name and a column
pub no-set : (catalog : Catalog) (names : Naming) (text : List ℕ) (name column value_text : Word) → words text ≡ name ∷ column ∷ value_text ∷ [] → is_set name column ≡ false
    → (said : SaidTree) → ¬ SaysSet catalog names text said
no-set catalog names text name column value_text is none said s =
    let at = set-at catalog names text name column value_text said is s in
    let no : false ≡ true = sym none ∙ at.head in
    absurd cc

-- nor without a value of the column
pub no-value : (catalog : Catalog) (names : Naming) (text : List ℕ) (name column value_text : Word) → words text ≡ name ∷ column ∷ value_text ∷ []
    → IsValueRead (kind_named catalog names name column) value_text None → (said : SaidTree) → ¬ SaysSet catalog names text said
no-value catalog names text name column value_text is none said s =
    let at = set-at catalog names text name column value_text said is s in
    none at.value at.spells
