-- A text as the code has it: its bytes, or the words of its column.
use Rattle.std.specs.Prelude.{◌≡◌, ⊤, ℕ, List, length}
use Rattle.smc_types.specs.Columns.{width_of}
use Rattle.smc_types.specs.Texts.{text_of}
use Rattle.smc_types.specs.declared.column.FieldType.TheVariants.{Text}
use Rattle.smc_meaning.specs.declared.text.TextIn.{TextIn}
use Rattle.smc_meaning.specs.declared.text.TextIn.TheVariants.{Bytes, Words}

-- the bytes of a text
abbrev pub bytes_in : TextIn → List ℕ
bytes_in (Bytes bytes) = bytes.now
bytes_in (Words words width) = text_of width words.now

-- all words of the column are there
abbrev pub IsWhole : TextIn → Type 0
IsWhole (Bytes bytes) = ⊤
IsWhole (Words words width) = length words.now ≡ width_of (Text width)
