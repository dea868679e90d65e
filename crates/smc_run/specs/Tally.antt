-- What a tally reads and writes: a table of rows, and the line that tells how many they are and their sum.
use Rattle.std.specs.Prelude.{◌≡◌, ℕ, ◌+◌, ◌≤◌, ◌⊎◌, unsigned_abs, Bool, true, false, List, [], ◌∷◌, ◌++◌, length, sum_by, codes, IfSome, ⊤, None, Some}
use Rattle.std.specs.declared.option.Option.{Option}
use Rattle.std.specs.List.{AllZip}
use Rattle.std.specs.Fmt.{decimal}
use Rattle.std.specs.Io.KnownBytes.{Appends, Keeps}
use Rattle.std.specs.Str.Lines.{strip_carriage_return}
use Rattle.smc_outside.specs.Pieces.{AppendsFront}
use Rattle.smc_outside.specs.Told.{OnTold}
use Rattle.smc_words.specs.declared.number.Number.{Number}
use Rattle.smc_model.specs.declared.event.Event.{Event}
use Rattle.smc_model.specs.declared.event.Event.TheVariants.{Add}
use Rattle.smc_run.specs.declared.status.Status.{Status}
use Rattle.smc_run.specs.declared.status.Status.TheVariants.{Done, BadWords, BadScript, BadTable, NoFile, ReadFault, WriteFault, TableFull, NoMemory}
use Rattle.smc_types.specs.declared.column.FieldType.{FieldType}
use Rattle.smc_types.specs.declared.column.FieldType.TheVariants.{Count}
use Rattle.smc_types.specs.declared.row.Value.{Value}
use Rattle.smc_types.specs.declared.row.Value.TheVariants.{Number as OfNumber}
use Rattle.smc_types.specs.declared.schema.Schema.{Schema}
use Rattle.smc_tbl.specs.declared.lines.TheConstants.{MAX_LINES}
use Rattle.smc_tbl.specs.TableText.{lines, SpellsRow}

-- each line, less its carriage return, spells the row beside it
abbrev pub SpellRows : Schema → List (List ℕ) → List (List Value) → Type 0
SpellRows schema lines rows = AllZip (λ line row. SpellsRow schema (strip_carriage_return line) row) lines rows

-- the text is a table of these rows, one a line
pub record IsTable (schema : Schema) (text : List ℕ) (rows : List (List Value)) : Type 0 where
  pub spelled : SpellRows schema (lines text) rows
  pub limit : length (lines text) ≤ MAX_LINES

-- the line spells no row
abbrev pub IsNoRow : Schema → List ℕ → Type 0
IsNoRow schema line = (row : List Value) → ¬ SpellsRow schema (strip_carriage_return line) row

-- the lines before this one are rows, and it is none, or it is one line too many
pub record IsRefusedAt (schema : Schema) (number : ℕ) (text : List ℕ) : Type 0 where
  pub before : List (List ℕ)
  pub rows : List (List Value)
  pub line : List ℕ
  pub behind : List (List ℕ)
  pub parts : lines text ≡ before ++ line ∷ behind
  pub spelled : SpellRows schema before rows
  pub place : length before + 1 ≡ number
  pub limit : length before ≤ MAX_LINES
  pub refused : IsNoRow schema line ⊎ (number ≡ MAX_LINES + 1)

-- the value of the first column of a row, which is a count in every table
abbrev pub first_count : List Value → ℕ
first_count (OfNumber count ∷ values) = unsigned_abs count
first_count values = 0

-- whether the first column is a count
abbrev pub counts_first : List FieldType → Bool
counts_first (Count ∷ kinds) = true
counts_first kinds = false

-- the line that tells how many rows there are, and the sum of their first columns
abbrev pub report : ℕ → ℕ → List ℕ
report objects sum = codes "objects " ++ decimal objects ++ codes ", sum " ++ decimal sum ++ codes "\n"

-- that line for these rows
abbrev pub report_of : List (List Value) → List ℕ
report_of rows = report (length rows) (sum_by first_count rows)

-- the text is a table, where it is told, and what was written grew in this way by the line for its rows
abbrev pub Reports : (Option (List ℕ) → Option (List ℕ) → List ℕ → Type 0)
    → Schema → Option (List ℕ) → Option (List ℕ) → Option (List ℕ) → Type 0
Reports grows schema text before after =
    (rows : List (List Value)) × IfSome text (λ bytes. IsTable schema bytes rows) × grows before after (report_of rows)

-- what a tally's status says of the text that was to be read, and of what was written before and after
abbrev pub TallyEnds : Schema → Status → Option (List ℕ) → Option (List ℕ) → Option (List ℕ) → Type 0
TallyEnds schema Done text before after = Reports Appends schema text before after
TallyEnds schema WriteFault text before after = Reports AppendsFront schema text before after
TallyEnds schema (BadTable None line) text before after = IfSome text (IsRefusedAt schema line) × Keeps before after
TallyEnds schema (BadTable (Some _) line) text before after = ⊥
TallyEnds schema ReadFault text before after = Keeps before after
TallyEnds schema NoMemory text before after = Keeps before after
TallyEnds schema BadWords text before after = ⊥
TallyEnds schema (BadScript line) text before after = ⊥
TallyEnds schema (NoFile name) text before after = ⊥
TallyEnds schema (TableFull file line) text before after = ⊥

-- what a status says where the table was not read to its end
abbrev pub Refuses : Schema → Status → Option (List ℕ) → Type 0
Refuses schema (BadTable None line) text = IfSome text (IsRefusedAt schema line)
Refuses schema ReadFault text = ⊤
Refuses schema NoMemory text = ⊤
Refuses schema _ text = ⊥

-- what a status says of a text that was to be written: all of it was, or a front, or nothing
abbrev pub WritesText : Status → Option (List ℕ) → Option (List ℕ) → List ℕ → Type 0
WritesText Done before after text = Appends before after text
WritesText WriteFault before after text = AppendsFront before after text
WritesText NoMemory before after text = Keeps before after
WritesText _ before after text = ⊥

-- a status that comes after all of the input was read leaves nothing of it; a file of the shelf is read behind it
abbrev pub ReadsToEnd : Status → Option (List ℕ) → Option (List ℕ) → Type 0
ReadsToEnd Done before after = OnTold before after (λ _ left. left ≡ [])
ReadsToEnd WriteFault before after = OnTold before after (λ _ left. left ≡ [])
ReadsToEnd (NoFile name) before after = OnTold before after (λ _ left. left ≡ [])
ReadsToEnd (BadTable (Some file) line) before after = OnTold before after (λ _ left. left ≡ [])
ReadsToEnd (TableFull file line) before after = OnTold before after (λ _ left. left ≡ [])
ReadsToEnd _ before after = ⊤

-- the number of the row that stands at this place, from 0
abbrev pub row_number : ℕ → Number
row_number place = record { incarnation = 1; entry = place; coll = 0 }

-- a row with this first column is added at this place: its record is that number
abbrev pub row_event_of : ℕ → ℕ → Event
row_event_of place count = Add (row_number place) 0 (count ∷ [])

-- the rows from this place on are added
abbrev pub row_events : ℕ → List (List Value) → List Event
row_events place [] = []
row_events place (row ∷ rows) = row_event_of place (first_count row) ∷ row_events (place + 1) rows
