-- The rows of the lines that were taken.
use Rattle.std.proofs.Common.{◌≡◌, ◌≢◌, ℕ, ◌+◌, ◌≤◌, ◌<◌, List, [], ◌∷◌, ◌++◌, Ok, Err, Some, None, IfSome, refl, sym, ap, ◌∙◌, append_assoc, append-nil, length, suc, inl, inr, arith}
use Rattle.std.specs.Prelude.{Option}
use Rattle.std.specs.Io.KnownBytes.{prepend_known}
use Rattle.std.specs.Str.Lines.{strip_carriage_return}
use Rattle.smc_outside.specs.Told.{OnTold}
use Rattle.smc_types.specs.declared.row.Value.{Value}
use Rattle.smc_types.specs.declared.schema.Schema.{Schema}
use Rattle.smc_tbl.specs.declared.fault.TblFault.{TblFault}
use Rattle.smc_tbl.specs.declared.fault.TblFault.TheVariants.{FieldCount, Number, Date, TextTooLong, BadText, LineTooLong, TooManyLines, ReadFault, NoMemory}
use Rattle.smc_tbl.specs.declared.lines.TheConstants.{MAX_LINES}
use Rattle.smc_tbl.specs.Reading.{Reads, HasLine, WithinLimit, lines_taken}
use Rattle.smc_tbl.specs.TableText.{lines, Gives, GivesOne, SpellsRow}
use Rattle.smc_run.specs.Ending.{status_of}
use Rattle.smc_run.specs.Tally.{SpellRows, IsTable, IsNoRow, IsRefusedAt, Refuses}

module _ (schema : Schema) where
  -- the text has lines of these rows, and then this text
  abbrev pub HasTaken : List (List Value) → List ℕ → List ℕ → Type 0
  HasTaken rows text later = (taken : List (List ℕ)) × (lines text ≡ taken ++ lines later) × SpellRows schema taken rows

  SpellRows-push : (taken : List (List ℕ)) (rows : List (List Value)) (line : List ℕ) (row : List Value) → SpellRows schema taken rows → SpellsRow schema (strip_carriage_return line) row
      → SpellRows schema (taken ++ line ∷ []) (rows ++ row ∷ [])
  SpellRows-push [] [] line row spelled is = (is, tt)
  SpellRows-push [] (other ∷ rows) line row spelled is = absurd spelled
  SpellRows-push (other ∷ taken) [] line row spelled is = absurd spelled
  SpellRows-push (other ∷ taken) (first ∷ rows) line row spelled is = (spelled.0, SpellRows-push taken rows line row spelled.1 is)

  SpellRows-length : (taken : List (List ℕ)) (rows : List (List Value)) → SpellRows schema taken rows → length taken ≡ length rows
  SpellRows-length [] [] spelled = refl
  SpellRows-length [] (row ∷ rows) spelled = absurd spelled
  SpellRows-length (line ∷ taken) [] spelled = absurd spelled
  SpellRows-length (line ∷ taken) (row ∷ rows) spelled = ap suc (SpellRows-length taken rows spelled.1)

  -- no row at the start
  pub taken-none : (text : Option (List ℕ)) → OnTold text (prepend_known [] text) (HasTaken [])
  taken-none None = tt
  taken-none (Some text) = ([], refl, tt)

  -- a row more
  pub taken-more : (text before after : Option (List ℕ)) (rows : List (List Value)) (row : List Value) → OnTold text before (HasTaken rows) → OnTold before after (Reads schema (Ok (Some row)))
      → OnTold text after (HasTaken (rows ++ row ∷ []))
  taken-more None before after rows row so_far next = tt
  taken-more (Some text) None after rows row so_far next = absurd so_far
  taken-more (Some text) (Some before) None rows row so_far next = absurd next
  taken-more (Some text) (Some before) (Some after) rows row (taken, is, spelled) (line, first, spells) =
      (taken ++ line ∷ [], is ∙ ap (λ ls. taken ++ ls) first ∙ sym (append_assoc taken (line ∷ []) (lines after)), SpellRows-push taken rows line row spelled spells)

  -- all rows, where no text is left
  pub taken-all : (text before after : Option (List ℕ)) (rows : List (List Value)) → OnTold text before (HasTaken rows) → OnTold before after (Reads schema (Ok None)) → length rows ≤ MAX_LINES
      → IfSome text (λ bytes. IsTable schema bytes rows)
  taken-all None before after rows so_far next few = tt
  taken-all (Some text) None after rows so_far next few = absurd so_far
  taken-all (Some text) (Some before) None rows so_far next few = absurd next
  taken-all (Some text) (Some before) (Some after) rows (taken, is, spelled) next few =
      let all : lines text ≡ taken = is ∙ ap (λ left. taken ++ lines left) next.0 ∙ append-nil taken in
      let count : length taken ≡ length rows = SpellRows-length taken rows spelled in
      record { spelled = rw all spelled; limit = rw all (omega arith) }

  nothing-behind : (kept left : List ℕ) → kept ++ left ≡ [] → left ≡ []
  nothing-behind [] left none = none
  nothing-behind (byte ∷ kept) left none = let never : ⊥ = cc in absurd never

  -- then nothing is left to read
  pub left-none : (text before : Option (List ℕ)) (kept : List ℕ) (left : Option (List ℕ)) (rows : List (List Value))
      → OnTold text before (HasTaken rows) → OnTold before (prepend_known kept left) (Reads schema (Ok None)) → OnTold text left (λ _ rest. rest ≡ [])
  left-none None before kept left rows so_far next = tt
  left-none (Some text) None kept left rows so_far next = absurd so_far
  left-none (Some text) (Some before) kept None rows so_far next = absurd next
  left-none (Some text) (Some before) kept (Some rest) rows so_far next = nothing-behind kept rest next.1

  -- a line with a fault spells no row
  faulty : ((line : List ℕ) → GivesOne schema line) → (fault : TblFault) (line : List ℕ) → Gives schema (strip_carriage_return line) (Err fault) → IsNoRow schema line
  faulty one fault line gives row spells =
      let (reading, is, only) = one (strip_carriage_return line) in
      let both : Err fault ≡ Ok row = only (Err fault) gives ∙ sym (only (Ok row) spells) in
      let never : ⊥ = cc both in never

  -- the line that was met is refused
  refused-line : ((line : List ℕ) → GivesOne schema line) → (fault : TblFault) (text : List ℕ) (before : List ℕ) (rows : List (List Value)) (number : ℕ) → (taken : List (List ℕ)) × (lines text ≡ taken ++ lines before) × SpellRows schema taken rows
      → HasLine before (λ line. Gives schema line (Err fault)) → number < MAX_LINES → length rows ≡ number → IsRefusedAt schema (number + 1) text
  refused-line one fault text before rows number (taken, is, spelled) (line, more, first, gives) few count =
      let size : length taken ≡ length rows = SpellRows-length taken rows spelled in
      record {
        before = taken;
        rows = rows;
        line = line;
        behind = more;
        parts = is ∙ ap (λ ls. taken ++ ls) first;
        spelled = spelled;
        place = omega arith;
        limit = omega arith;
        refused = inl (faulty one fault line gives);
      }

  -- one line too many
  refused-many : (parts : List (List ℕ)) (text : List ℕ) (rows : List (List Value)) (number : ℕ) (taken : List (List ℕ)) → lines text ≡ taken ++ parts → SpellRows schema taken rows
      → parts ≢ [] → number ≡ MAX_LINES → length rows ≡ number → IsRefusedAt schema (number + 1) text
  refused-many [] text rows number taken is spelled some many count = absurd (some refl)
  refused-many (line ∷ more) text rows number taken is spelled some many count =
      let size : length taken ≡ length rows = SpellRows-length taken rows spelled in
      record {
        before = taken;
        rows = rows;
        line = line;
        behind = more;
        parts = is;
        spelled = spelled;
        place = omega arith;
        limit = omega arith;
        refused = inr (omega arith);
      }

  -- what the status after a fault says
  pub taken-refused : ((line : List ℕ) → GivesOne schema line) → (text before after : Option (List ℕ)) (rows : List (List Value)) (fault : TblFault) (number : ℕ) → OnTold text before (HasTaken rows) → OnTold before after (Reads schema (Err fault))
      → WithinLimit number (Err fault) → length rows ≡ number → Refuses schema (status_of fault (number + lines_taken (Err fault))) text
  taken-refused one text before after rows ReadFault number so_far next limit count = tt
  taken-refused one text before after rows NoMemory number so_far next limit count = tt
  taken-refused one None before after rows FieldCount number so_far next limit count = tt
  taken-refused one None before after rows Number number so_far next limit count = tt
  taken-refused one None before after rows Date number so_far next limit count = tt
  taken-refused one None before after rows TextTooLong number so_far next limit count = tt
  taken-refused one None before after rows BadText number so_far next limit count = tt
  taken-refused one None before after rows LineTooLong number so_far next limit count = tt
  taken-refused one None before after rows TooManyLines number so_far next limit count = tt
  taken-refused one (Some text) None after rows fault number so_far next limit count = absurd so_far
  taken-refused one (Some text) (Some before) None rows fault number so_far next limit count = absurd next
  taken-refused one (Some text) (Some before) (Some after) rows FieldCount number so_far next limit count = refused-line one FieldCount text before rows number so_far next limit count
  taken-refused one (Some text) (Some before) (Some after) rows Number number so_far next limit count = refused-line one Number text before rows number so_far next limit count
  taken-refused one (Some text) (Some before) (Some after) rows Date number so_far next limit count = refused-line one Date text before rows number so_far next limit count
  taken-refused one (Some text) (Some before) (Some after) rows TextTooLong number so_far next limit count = refused-line one TextTooLong text before rows number so_far next limit count
  taken-refused one (Some text) (Some before) (Some after) rows BadText number so_far next limit count = refused-line one BadText text before rows number so_far next limit count
  taken-refused one (Some text) (Some before) (Some after) rows LineTooLong number so_far next limit count = refused-line one LineTooLong text before rows number so_far next limit count
  taken-refused one (Some text) (Some before) (Some after) rows TooManyLines number so_far next limit count =
      refused-many (lines before) text rows number so_far.0 so_far.1 so_far.2 next limit count
