-- The words of a line, from those of its first column and of what stands behind it.
use Rattle.std.proofs.Common.{◌≡◌, ◌<◌, ℕ, ℤ, true, false, get_or, drop, take, ◌-◌, List, [], ◌∷◌, ◌++◌, append_assoc, append-nil, length, length-drop, Ok, Err, OnOk, IfErr, refl, sym, ap, ◌∙◌, arith}
use Rattle.std.proofs.Math.Seq.{take-length}
use Rattle.std.proofs.lemmas.List.Elements.{All-cons}
use Rattle.std.specs.List.{All}
use Rattle.std.specs.Prelude.{Result}
use Rattle.std.specs.Str.Lines.{strip_carriage_return}
use Rattle.smc_types.specs.Columns.{is_reference, value_kinds}
use Rattle.smc_types.specs.Days.{SpellsDay, IsDay}
use Rattle.smc_types.specs.Records.{value_words, row_words}
use Rattle.smc_types.specs.Rows.{IsValue}
use Rattle.smc_types.specs.declared.column.Column.{Column}
use Rattle.smc_types.specs.declared.column.FieldType.{FieldType}
use Rattle.smc_types.specs.declared.row.Value.{Value}
use Rattle.smc_types.specs.declared.schema.Schema.{Schema}
use Rattle.smc_tbl.specs.declared.fault.TblFault.{TblFault}
use Rattle.smc_tbl.specs.TableText.{FieldsGive, IsShort, IsText, UnlessMemory, lines}
use Rattle.smc_tbl.specs.Words.{AreRowWords, ColumnAddsWords, LineAddsWords, ReadsWords, SpellsWords}
use Rattle.smc_tbl.proofs.FieldLaws.{fault-then, gives-spelled}
use Rattle.smc_tbl.proofs.FitLaws.{row-fits}
use Rattle.smc_tbl.proofs.KindLaws.{kinds-reference, kinds-value}

no_values : All IsValue []
no_values k d below = absurd (omega arith)

-- no columns are left, and no bytes
pub adds-end : (line words : List ℕ) → line ≡ [] → LineAddsWords [] line words words
adds-end line words none = record { row = []; gives = ([], none, refl, tt); texts = no_values; grown = sym (append-nil words) }

module _ (kind : FieldType) (kinds : List FieldType) (line rest old between : List ℕ) (first : ColumnAddsWords kind line rest old between) where
  -- the words of the rest stand behind those of the first column
  pub adds-column : (new : List ℕ) → LineAddsWords kinds rest between new → LineAddsWords (kind ∷ kinds) line old new
  adds-column new later = record {
    row = first.value ∷ later.row;
    gives = gives-spelled kind kinds line first.takes.field rest first.takes.cut first.takes.alone first.value (Ok later.row) first.takes.spells later.gives;
    texts = All-cons IsValue first.value later.row first.text later.texts;
    grown =
        later.grown
        ∙ ap (λ words. words ++ row_words kinds later.row) first.grown
        ∙ append_assoc old (value_words kind first.value) (row_words kinds later.row);
  }

  -- a fault of the rest is that of the line
  pub adds-fault : (fault : TblFault) → UnlessMemory {A = List Value} (Err fault) (FieldsGive kinds rest) → UnlessMemory {A = List Value} (Err fault) (FieldsGive (kind ∷ kinds) line)
  adds-fault fault given =
      fault-then fault (FieldsGive kinds rest) (FieldsGive (kind ∷ kinds) line)
      (λ gives. gives-spelled kind kinds line first.takes.field rest first.takes.cut first.takes.alone first.value (Err fault) first.takes.spells gives) given

module _ (schema : Schema) (line : List ℕ) (short : IsShort line) (text : IsText line) where
  -- the words of all fields are those of the line
  pub spells-words : (words : List ℕ) → LineAddsWords (value_kinds schema.columns) line [] words → SpellsWords schema line words
  spells-words words adds = record { row = adds.row; spells = (short, text, adds.gives); words_are = adds.grown }

  -- and of a row within its columns
  pub fits-words : ((text : List ℕ) (day : ℤ) → SpellsDay text day → IsDay day) → (words : List ℕ) → LineAddsWords (value_kinds schema.columns) line [] words → AreRowWords schema words
  fits-words in_range words adds = record { row = adds.row; fits = row-fits in_range schema line adds.row (short, text, adds.gives); texts = adds.texts; words_are = adds.grown }

-- what stands behind the first column
whole : (columns : List Column) → take (length columns - 1) (drop 1 columns) ≡ drop 1 columns
whole columns = ap (λ n. take n (drop 1 columns)) (sym (length-drop 1 columns)) ∙ take-length (drop 1 columns)

module _ (columns : List Column) (column : Column) (within : 0 < length columns) (here : column ≡ get_or columns 0 column) where
  -- a column of the file stands before the others
  pub first-value : is_reference column.kind ≡ false → value_kinds columns ≡ column.kind ∷ value_kinds (take (length columns - 1) (drop 1 columns))
  first-value value = kinds-value columns 0 column within here value ∙ ap (λ rest. column.kind ∷ value_kinds rest) (sym (whole columns))

  -- a reference is passed over
  pub first-reference : is_reference column.kind ≡ true → value_kinds columns ≡ value_kinds (take (length columns - 1) (drop 1 columns))
  first-reference reference = kinds-reference columns 0 column within here reference ∙ ap value_kinds (sym (whole columns))

-- what is known of the first column, whichever way it was read
pub not-reference : (columns : List Column) (a b : Column) → 0 < length columns → a ≡ get_or columns 0 a → b ≡ get_or columns 0 b → is_reference a.kind ≡ false → is_reference b.kind ≡ false
not-reference [] a b within is_a is_b value = absurd (omega arith)
not-reference (first ∷ columns) a b within is_a is_b value = ap (λ (c : Column). is_reference c.kind) (is_b ∙ sym is_a) ∙ value

-- what follows of a success
pub ok-at : {T E : Type 0} (result : Result T E) (A B : Type 0) → (A → B) → OnOk result A → OnOk result B
ok-at (Ok x) A B then given = then given
ok-at (Err e) A B then given = tt

-- what follows of a fault
pub fault-at : {T : Type 0} (result : Result T TblFault) (A B : Result (List Value) TblFault → Type 0)
    → ((fault : TblFault) → UnlessMemory {A = List Value} (Err fault) A → UnlessMemory {A = List Value} (Err fault) B)
    → IfErr result (λ fault. UnlessMemory {A = List Value} (Err fault) A) → IfErr result (λ fault. UnlessMemory {A = List Value} (Err fault) B)
fault-at (Ok x) A B then given = tt
fault-at (Err fault) A B then given = then fault given

-- the first line goes, and its words are read
pub reads-words : (schema : Schema) (line words text later : List ℕ) → lines text ≡ line ∷ lines later → SpellsWords schema (strip_carriage_return line) words
    → ReadsWords schema (Ok true) words text later
reads-words schema line words text later is spells = (spells.row, (line, is, spells.spells), spells.words_are)
