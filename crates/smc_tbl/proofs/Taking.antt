-- A line is taken from the front of what is not taken yet, and read or refused.
use Rattle.std.proofs.Common.{◌≡◌, ◌≢◌, ℕ, ◌≤◌, ◌<◌, List, ◌∷◌, ◌++◌, take, drop, length, Err, IfSome, arith}
use Rattle.std.proofs.lemmas.List.{take-append-le, drop-append-le}
use Rattle.std.specs.Prelude.{Option, None, Some}
use Rattle.std.specs.Io.KnownBytes.{Keeps, prepend_known}
use Rattle.std.specs.Str.Lines.{strip_carriage_return}
use Rattle.smc_outside.specs.Told.{OnTold}
use Rattle.smc_tbl.specs.declared.fault.TblFault.{TblFault}
use Rattle.smc_tbl.specs.declared.fault.TblFault.TheVariants.{FieldCount, Number, Date, TextTooLong, BadText, LineTooLong, TooManyLines, ReadFault, NoMemory}
use Rattle.smc_tbl.specs.declared.lines.TheConstants.{MAX_LINES}
use Rattle.smc_types.specs.declared.row.Value.{Value}
use Rattle.smc_types.specs.declared.schema.Schema.{Schema}
use Rattle.smc_types.specs.Columns.{value_kinds}
use Rattle.smc_tbl.specs.TableText.{lines, Gives, UnlessMemory}
use Rattle.smc_tbl.proofs.FieldLaws.{first-fault}
use Rattle.smc_tbl.specs.Reading.{Reads, WithinLimit, FirstLineEnds}

-- a found line goes, and the text behind it is what is left to take
pub told-taken : (before : Option (List ℕ)) (kept : List ℕ) (left : Option (List ℕ)) (rest : List ℕ) (size taken : ℕ) (P : List ℕ → List ℕ → Type 0)
    → Keeps before (prepend_known kept left) → IfSome (prepend_known kept left) (FirstLineEnds size taken) → size ≤ taken → taken ≤ length kept → rest ≡ drop taken kept
    → ((text later : List ℕ) → lines text ≡ take size kept ∷ lines later → P text later)
    → OnTold before (prepend_known rest left) P
told-taken None kept left rest size taken P keeps first shorter within is each = tt
told-taken (Some text) kept None rest size taken P keeps first shorter within is each = absurd keeps
told-taken (Some text) kept (Some later) rest size taken P keeps first shorter within is each =
    let front = take-append-le size kept later (omega arith) in
    let behind = drop-append-le taken kept later within in
    each text (rest ++ later) (rw (is, ← keeps, ← front, ← behind) first)

module _ (schema : Schema) where
  -- a line that is refused
  pub Reads-refused : (fault : TblFault) (line text later : List ℕ) → lines text ≡ line ∷ lines later → UnlessMemory {A = List Value} (Err fault) (Gives schema (strip_carriage_return line))
      → Reads schema (Err fault) text later
  Reads-refused FieldCount line text later is given = (line, lines later, is, given)
  Reads-refused Number line text later is given = (line, lines later, is, given)
  Reads-refused Date line text later is given = (line, lines later, is, given)
  Reads-refused TextTooLong line text later is given = (line, lines later, is, given)
  Reads-refused BadText line text later is given = (line, lines later, is, given)
  Reads-refused LineTooLong line text later is given = (line, lines later, is, given)
  Reads-refused TooManyLines line text later is (short, good, (fields, has, count, fault)) = absurd (first-fault (value_kinds schema.columns) fields TooManyLines fault)
  Reads-refused ReadFault line text later is (short, good, (fields, has, count, fault)) = absurd (first-fault (value_kinds schema.columns) fields ReadFault fault)
  Reads-refused NoMemory line text later is given = tt

  -- no line has the fault of the input
  pub Gives-readable : (fault : TblFault) (line : List ℕ) → UnlessMemory {A = List Value} (Err fault) (Gives schema line) → fault ≢ ReadFault
  Gives-readable ReadFault line (short, good, (fields, has, count, fault)) is = first-fault (value_kinds schema.columns) fields ReadFault fault
  Gives-readable FieldCount line given is = cc
  Gives-readable Number line given is = cc
  Gives-readable Date line given is = cc
  Gives-readable TextTooLong line given is = cc
  Gives-readable BadText line given is = cc
  Gives-readable LineTooLong line given is = cc
  Gives-readable TooManyLines line given is = cc
  Gives-readable NoMemory line given is = cc

  -- a line that is refused for its bytes is within the limit of lines
  pub WithinLimit-refused : (fault : TblFault) (line : List ℕ) (number : ℕ) → UnlessMemory {A = List Value} (Err fault) (Gives schema line) → number < MAX_LINES → WithinLimit number (Err fault)
  WithinLimit-refused FieldCount line number given few = few
  WithinLimit-refused Number line number given few = few
  WithinLimit-refused Date line number given few = few
  WithinLimit-refused TextTooLong line number given few = few
  WithinLimit-refused BadText line number given few = few
  WithinLimit-refused LineTooLong line number given few = few
  WithinLimit-refused TooManyLines line number (short, good, (fields, has, count, fault)) few = absurd (first-fault (value_kinds schema.columns) fields TooManyLines fault)
  WithinLimit-refused ReadFault line number given few = tt
  WithinLimit-refused NoMemory line number given few = few
