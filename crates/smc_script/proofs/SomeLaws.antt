-- Each text gives an outcome.
use Rattle.std.proofs.Common.{◌≡◌, ◌≢◌, ◌≤◌, ◌<◌, arith, ℕ, zero, suc, ◌+◌, List, [], ◌∷◌, ◌++◌, ◌⊎◌, inl, inr, length, codes, Bool, true, false, Option, None, Some, Ok, Err, refl, sym, ap, ◌∙◌, subst}
use Rattle.std.proofs.lemmas.Bool.{leb-false, leb-true}
use Rattle.std.proofs.lemmas.List.{append-nil, append_assoc, length-append}
use Rattle.std.proofs.lemmas.List.Elements.{All-append, All-cons, All-from_recursion, All-nil, recursion_from_All}
use Rattle.std.proofs.lemmas.Str.{IsUtf8-from_is_utf8, is_utf8-from_IsUtf8}
use Rattle.std.specs.declared.result.Result.{Result}
use Rattle.std.specs.List.{All, AllByRecursion, onto_first}
use Rattle.std.specs.Prelude.{if◌then◌else◌, nat_le, not, ◌==◌}
use Rattle.std.specs.Str.{is_utf8}
use Rattle.smc_lang.specs.Laws.{IsOneThing, IsSomething, IsThing, Thing, read, wrong, deep}
use Rattle.smc_lang.specs.Texts.{ReadsText}
use Rattle.smc_lang.specs.declared.limits.TheConstants.{MAX_TEXT}
use Rattle.smc_lines.specs.Ahead.{Counts, IsText, is_quiet}
use Rattle.smc_lines.specs.Lines.{lines, IsShort, IsWithin}
use Rattle.smc_lines.specs.Words.{words}
use Rattle.smc_lines.specs.declared.fault.LinesFault.TheVariants as limit
use Rattle.smc_lines.specs.declared.limits.TheConstants.{MAX_LINE, MAX_LINES, SPACE}
use Rattle.smc_query.specs.Trees.{Word, CondTree, ExprTree, QueryTree, a_query, a_cond, an_edit, cond_text, edit_text, query_text}
use Rattle.smc_tbl.specs.Alone.{SpellsAlone}
use Rattle.smc_tbl.specs.TableText.{Gives, GivesOne as GivesOneRow}
use Rattle.smc_tbl.specs.declared.fault.TblFault.{TblFault}
use Rattle.smc_types.specs.declared.catalog.Catalog.{Catalog}
use Rattle.smc_types.specs.declared.column.FieldType.{FieldType}
use Rattle.smc_types.specs.declared.row.Value.{Value}
use Rattle.smc_types.specs.declared.schema.Schema.{Schema}
use Rattle.smc_script.specs.Faults.{LineGives, passed_over, no_text, no_command, command, said_fault, taken}
use Rattle.smc_script.specs.Laws.{GivesSome, HasRefused, SpellsSome}
use Rattle.smc_script.specs.Names.{Naming}
use Rattle.smc_script.specs.Says.{LineSays, VerbSays, SaidTree, ColumnSays, CondSays, EditSays, QuerySays, RowSays, SaysQuery, SaysSet, SaysValue, SpellsRowOf, TwoThen, add, get, remove, set, delete, update, query, compact, stat, column_before, drop_said, is_set, kind_named, load_said, mark_of, name_said, room_said, table_added, table_before, table_said, verb_of}
use Rattle.smc_script.specs.Scripts.{IsPastLimit, LinesGive}
use Rattle.smc_script.specs.States.{ReadState, is_open, script_of, start}
use Rattle.smc_script.specs.Trees.{ScriptTree}
use Rattle.smc_script.specs.declared.fault.ScriptFault.TheVariants.{Bad}
use Rattle.smc_script.specs.declared.fault.ScriptKind.{ScriptKind}
use Rattle.smc_script.specs.declared.fault.ScriptKind.TheVariants.{Grammar, Group, TooLong, TooMany}
use Rattle.smc_script.specs.Tables.{schema_of}
use Rattle.smc_script.specs.declared.verb.Verb.{Verb}
use Rattle.smc_script.specs.declared.verb.Verb.TheVariants as verb
use Rattle.smc_script.proofs.RowLaws.{no-set, no-value, no-words, value-read}
use Rattle.smc_script.proofs.ScriptLaws.{ended_by}
use Rattle.smc_script.proofs.SaysLaws.{alone-says, behind-says, later, no-cut, no-head, no-verb, some-one, two-alone, two-at}

-- it holds, or it doesn't
abbrev Known : Type 0 → Type 0
Known fact = fact ⊎ ¬ fact

-- ---- whether a line is text

-- whether one of these bytes is 0
zero-known : (line : List ℕ) → Known (AllByRecursion (λ byte. byte ≢ 0) line)
zero-known [] = inl tt
zero-known (zero ∷ line) = inr (λ all. all.0 refl)
zero-known (suc n ∷ line) = zero-later n line (zero-known line)
  where
    zero-later : (n : ℕ) (line : List ℕ) → Known (AllByRecursion (λ byte. byte ≢ 0) line) → Known (AllByRecursion (λ byte. byte ≢ 0) (suc n ∷ line))
    zero-later n line (inl all) = inl ((λ is. absurd (omega arith)), all)
    zero-later n line (inr none) = inr (λ all. none (all.1))

-- whether a line is text, by its bytes
text-by : (line : List ℕ) (utf8 : Bool) → is_utf8 line ≡ utf8 → Known (AllByRecursion (λ byte. byte ≢ 0) line) → Known (IsText line)
text-by line true is (inl all) = inl (record { utf8 = IsUtf8-from_is_utf8 line is; no_zero = All-from_recursion (λ byte. byte ≢ 0) line all })
text-by line false is all = inr (λ text. let yes = is_utf8-from_IsUtf8 line text.utf8 in absurd cc)
text-by line true is (inr none) = inr (λ text. none (recursion_from_All (λ byte. byte ≢ 0) line text.no_zero))

text-known : (line : List ℕ) → Known (IsText line)
text-known line = text-by line (is_utf8 line) refl (zero-known line)

-- ---- what a line says

-- a line is a word and a text behind it
abbrev HasBehind : List ℕ → Type 0
HasBehind line = (first text : List ℕ) × (words line ≡ first ∷ words text)

-- a line is one word
abbrev IsAlone : List ℕ → Type 0
IsAlone line = (first : List ℕ) × (words line ≡ first ∷ [])

-- the words of a line with one byte more
abbrev words_on : ℕ → List ℕ → Bool → List (List ℕ)
words_on byte line space = if space then [] ∷ words line else onto_first byte (words line)

-- a line with one byte more in front
cut-on : (byte : ℕ) (line : List ℕ) (space : Bool) → (byte == SPACE) ≡ space → HasBehind line ⊎ IsAlone line → HasBehind (byte ∷ line) ⊎ IsAlone (byte ∷ line)
cut-on byte line true is cut = inl ([], line, ap (words_on byte line) is)
cut-on byte line false is (inl (first, text, same)) = inl (byte ∷ first, text, ap (words_on byte line) is ∙ ap (onto_first byte) same)
cut-on byte line false is (inr (first, same)) = inr (byte ∷ first, ap (words_on byte line) is ∙ ap (onto_first byte) same)

-- each line is a word alone, or with a text behind it
line-cut : (line : List ℕ) → HasBehind line ⊎ IsAlone line
line-cut [] = inr ([], refl)
line-cut (byte ∷ line) = cut-on byte line (byte == SPACE) refl (line-cut line)

-- a text is a query
abbrev IsQuery : List ℕ → Type 0
IsQuery text = (tree : QueryTree) × ReadsText query_text text (a_query tree)

-- whether a text is a query, by what it is
query-by : IsOneThing → (text : List ℕ) (thing : Thing) → IsThing query_text text thing → Known (IsQuery text)
query-by one text (read (a_query tree)) is = inl (tree, is)
query-by one text (read (a_cond cond)) is = inr (λ query'. let no = one query_text text (read (a_cond cond)) (read (a_query (query'.0))) is (query'.1) in absurd cc)
query-by one text (read (an_edit value filter)) is =
    inr (λ query'. let no = one query_text text (read (an_edit value filter)) (read (a_query (query'.0))) is (query'.1) in absurd cc)
query-by one text (wrong at) is = inr (λ query'. let no = one query_text text (wrong at) (read (a_query (query'.0))) is (query'.1) in absurd cc)
query-by one text (deep at) is = inr (λ query'. let no = one query_text text (deep at) (read (a_query (query'.0))) is (query'.1) in absurd cc)

-- the text is a query within the limit
abbrev IsShortQuery : List ℕ → Type 0
IsShortQuery text = (tree : QueryTree) × SaysQuery text tree

-- whether a text is a query within the limit, by its length
short-known : (text : List ℕ) (short : Bool) → nat_le (length text) MAX_TEXT ≡ short → Known (IsQuery text) → Known (IsShortQuery text)
short-known text true small (inl (tree, reads)) = inl (tree, (leb-true (length text) MAX_TEXT small, reads))
short-known text true small (inr none) = inr (λ says. none (says.0, says.1.1))
short-known text false large query' = inr (λ says. let long = leb-false (length text) MAX_TEXT large in let short' = says.1.0 in absurd (omega arith))

-- the laws of what lines are read by: queries, rows, and fields
pub record Readings : Type 0 where
  pub one : IsOneThing
  pub some : IsSomething
  pub row : (schema : Schema) (line : List ℕ) → GivesOneRow schema line
  pub field : (kind : FieldType) (text : List ℕ) → ((value : Value) × SpellsAlone kind text value) ⊎ ((value : Value) → ¬ SpellsAlone kind text value)

-- this holds of one thing that is said, or of nothing
abbrev SaidOrNone : (SaidTree → Type 0) → Type 0
SaidOrNone says = ((said : SaidTree) × says said) ⊎ ((said : SaidTree) → ¬ says said)

-- what a function of the words says
found-known : (found : Option SaidTree) → SaidOrNone (λ said. found ≡ Some said)
found-known (Some said) = inl (said, refl)
found-known None = inr (λ said is. let no : None ≡ Some said = is in absurd cc)

-- ---- rows and values

-- a text is a row of the table, or not
abbrev IsRow : Catalog → ℕ → List ℕ → Type 0
IsRow catalog table text = (row : List Value) × SpellsRowOf catalog table text row

row-fault : (row : List Value) (fault : TblFault) → Ok row ≡ Err fault → ⊥
row-fault row fault is = cc

row-reading : (catalog : Catalog) (table : ℕ) (text : List ℕ) (schema : Schema) → schema_of catalog table ≡ Some schema → GivesOneRow schema text → Known (IsRow catalog table text)
row-reading catalog table text schema is (Ok row, gives, only) = inl (row, (schema, is, gives))
row-reading catalog table text schema is (Err fault, gives, only) =
    inr (λ row'. let same : Gives schema text (Ok (row'.0)) =
    subst (λ (s : Schema). Gives s text (Ok (row'.0))) (some-one (row'.1.0) schema (sym (row'.1.1) ∙ is)) (row'.1.2) in
    row-fault (row'.0) fault (only (Ok (row'.0)) same))

row-known : Readings → (catalog : Catalog) (table : ℕ) (text : List ℕ) (found : Option Schema) → schema_of catalog table ≡ found → Known (IsRow catalog table text)
row-known laws catalog table text (Some schema) is = row-reading catalog table text schema is (laws.row schema text)
row-known laws catalog table text None is = inr (λ row'. let no : None ≡ Some (row'.1.0) = sym is ∙ row'.1.1 in absurd cc)

-- two words and a text behind them
abbrev HasTwo : List ℕ → Type 0
HasTwo text = (first second behind : List ℕ) × (words text ≡ first ∷ second ∷ words behind)

-- whether two words and a text stand behind the first word
two-behind : (text first behind : List ℕ) → words text ≡ first ∷ words behind → HasBehind behind ⊎ IsAlone behind → Known (HasTwo text)
two-behind text first behind is (inl (second, rest, is')) = inl (first, second, rest, is ∙ ap (λ (w : List Word). first ∷ w) is')
two-behind text first behind is (inr (second, is')) = inr (λ two. two-alone text behind first second is is' two.0 two.1 two.2 two.3)

two-known : (text : List ℕ) → HasBehind text ⊎ IsAlone text → Known (HasTwo text)
two-known text (inl (first, behind, is)) = two-behind text first behind is (line-cut behind)
two-known text (inr (first, is)) = inr (λ two. no-second two)
  where
    no-second : ¬ HasTwo text
    no-second (a, b, c, same) = let no : b ∷ words c ≡ [] = ap later (sym same ∙ is) in absurd cc

-- what stands behind two words says something or nothing, where it does behind each two words
two-by : (head : Word → Word → Option ℕ) (reads : ℕ → Word → Word → List ℕ → SaidTree → Type 0) (text first second behind : List ℕ) (found : Option ℕ)
    → ((table : ℕ) (first second : Word) (behind : List ℕ) → SaidOrNone (reads table first second behind)) → words text ≡ first ∷ second ∷ words behind → head first second ≡ found
    → SaidOrNone (TwoThen head reads text)
two-by head reads text first second behind None each is found = inr (no-head head reads text first second behind is found)
two-by head reads text first second behind (Some table) each is found =
    elim (each table first second behind) [
      | inl (said, says) ↦ inl (
        said,
        record {
          first = first;
          second = second;
          behind = behind;
          table = table;
          cut = is;
          is = found;
          says = says;
        },
      )
      | inr none ↦ inr (λ said two. none said (two-at head reads text first second behind table said is found two))
    ]

two-said-known : (head : Word → Word → Option ℕ) (reads : ℕ → Word → Word → List ℕ → SaidTree → Type 0) (text : List ℕ)
    → ((table : ℕ) (first second : Word) (behind : List ℕ) → SaidOrNone (reads table first second behind)) → Known (HasTwo text) → SaidOrNone (TwoThen head reads text)
two-said-known head reads text each (inl (first, second, behind, is)) = two-by head reads text first second behind (head first second) each is refl
two-said-known head reads text each (inr none) = inr (no-cut head reads text (λ first second behind is. none (first, second, behind, is)))

-- a text is a row of the table, or not
added-known : (catalog : Catalog) (table : ℕ) (name : Word) (text : List ℕ) → Known (IsRow catalog table text) → SaidOrNone (RowSays catalog table name text)
added-known catalog table name text (inl (row, spells)) = inl (add table name row, (row, refl, spells))
added-known catalog table name text (inr none) = inr (λ said says. none (says.0, says.2))

-- a text is a condition, or not, by what it is
cond-by : IsOneThing → (text : List ℕ) (thing : Thing) → IsThing cond_text text thing → Known ((cond : CondTree) × ReadsText cond_text text (a_cond cond))
cond-by one text (read (a_cond cond)) is = inl (cond, is)
cond-by one text (read (a_query tree)) is = inr (λ c. let no = one cond_text text (read (a_query tree)) (read (a_cond (c.0))) is (c.1) in absurd cc)
cond-by one text (read (an_edit value filter)) is = inr (λ c. let no = one cond_text text (read (an_edit value filter)) (read (a_cond (c.0))) is (c.1) in absurd cc)
cond-by one text (wrong at) is = inr (λ c. let no = one cond_text text (wrong at) (read (a_cond (c.0))) is (c.1) in absurd cc)
cond-by one text (deep at) is = inr (λ c. let no = one cond_text text (deep at) (read (a_cond (c.0))) is (c.1) in absurd cc)

cond-known : (table : ℕ) (text : List ℕ) (short : Bool) → nat_le (length text) MAX_TEXT ≡ short → Known ((cond : CondTree) × ReadsText cond_text text (a_cond cond))
    → SaidOrNone (CondSays table text)
cond-known table text true small (inl (cond, reads)) = inl (delete table cond, (cond, refl, (leb-true (length text) MAX_TEXT small, reads)))
cond-known table text true small (inr none) = inr (λ said says. none (says.0, says.2.1))
cond-known table text false large any = inr (λ said says. let long = leb-false (length text) MAX_TEXT large in let short' = says.2.0 in absurd (omega arith))

-- a text is a value with a condition, or not, by what it is
edit-by : IsOneThing → (text : List ℕ) (thing : Thing) → IsThing edit_text text thing
    → Known ((value : ExprTree) × (filter : Option CondTree) × ReadsText edit_text text (an_edit value filter))
edit-by one text (read (an_edit value filter)) is = inl (value, filter, is)
edit-by one text (read (a_query tree)) is = inr (λ e. let no = one edit_text text (read (a_query tree)) (read (an_edit (e.0) (e.1))) is (e.2) in absurd cc)
edit-by one text (read (a_cond cond)) is = inr (λ e. let no = one edit_text text (read (a_cond cond)) (read (an_edit (e.0) (e.1))) is (e.2) in absurd cc)
edit-by one text (wrong at) is = inr (λ e. let no = one edit_text text (wrong at) (read (an_edit (e.0) (e.1))) is (e.2) in absurd cc)
edit-by one text (deep at) is = inr (λ e. let no = one edit_text text (deep at) (read (an_edit (e.0) (e.1))) is (e.2) in absurd cc)

edit-known : (table : ℕ) (column : Word) (text : List ℕ) (short : Bool) → nat_le (length text) MAX_TEXT ≡ short
    → Known ((value : ExprTree) × (filter : Option CondTree) × ReadsText edit_text text (an_edit value filter)) → SaidOrNone (EditSays table column text)
edit-known table column text true small (inl (value, filter, reads)) =
    inl (update table column value filter, (value, filter, refl, (leb-true (length text) MAX_TEXT small, reads)))
edit-known table column text true small (inr none) = inr (λ said says. none (says.0, says.1, says.3.1))
edit-known table column text false large any = inr (λ said says. let long = leb-false (length text) MAX_TEXT large in let short' = says.3.0 in absurd (omega arith))

-- whether a text is a row, a condition, a value, or a column with its value
each-row : Readings → (catalog : Catalog) (table : ℕ) (name : Word) (text : List ℕ) → SaidOrNone (RowSays catalog table name text)
each-row laws catalog table name text = added-known catalog table name text (row-known laws catalog table text (schema_of catalog table) refl)

each-cond : Readings → (table : ℕ) (text : List ℕ) → SaidOrNone (CondSays table text)
each-cond laws table text =
    cond-known table text (nat_le (length text) MAX_TEXT) refl (let what = laws.some cond_text text in cond-by laws.one text (what.0) (what.1))

each-edit : Readings → (table : ℕ) (column : Word) (text : List ℕ) → SaidOrNone (EditSays table column text)
each-edit laws table column text =
    edit-known table column text (nat_le (length text) MAX_TEXT) refl (let what = laws.some edit_text text in edit-by laws.one text (what.0) (what.1))

each-column : Readings → (table : ℕ) (text : List ℕ) → SaidOrNone (ColumnSays table text)
each-column laws table text =
    two-said-known (column_before table) (λ same column _. EditSays same column) text (λ same column sign. each-edit laws same column) (two-known text (line-cut text))

-- a text is a value of the column, or not
value-known : Readings → (kind : Option FieldType) (text : List ℕ) → ((value : Option Value) × SaysValue kind text value) ⊎ ((value : Option Value) → ¬ SaysValue kind text value)
value-known laws None text = inl (None, refl)
value-known laws (Some kind) text =
    elim (laws.field kind text) [
      | inl (value, spells) ↦ inl (Some value, spells)
      | inr none ↦ inr (value-read kind text none)
    ]

-- what is set, where the head and the value are known
set-by : Readings → (catalog : Catalog) (names : Naming) (text : List ℕ) (name column value_text : Word) (head : Bool) → words text ≡ name ∷ column ∷ value_text ∷ []
    → is_set name column ≡ head → SaidOrNone (SaysSet catalog names text)
set-by laws catalog names text name column value_text true is head =
    elim (value-known laws (kind_named catalog names name column) value_text) [
      | inl (value, spells) ↦ inl (
        set name column value,
        record {
          name = name;
          column = column;
          value_text = value_text;
          value = value;
          cut = is;
          head = head;
          spells = spells;
          says = refl;
        },
      )
      | inr none ↦ inr (no-value catalog names text name column value_text is none)
    ]
set-by laws catalog names text name column value_text false is head = inr (no-set catalog names text name column value_text is head)

set-known : Readings → (catalog : Catalog) (names : Naming) (text : List ℕ) (list : List Word) → words text ≡ list → SaidOrNone (SaysSet catalog names text)
set-known laws catalog names text (name ∷ column ∷ value_text ∷ []) is = set-by laws catalog names text name column value_text (is_set name column) is refl
set-known laws catalog names text [] is = inr (no-words catalog names text (λ a b c same. let no : a ∷ b ∷ c ∷ [] ≡ [] = sym same ∙ is in absurd cc))
set-known laws catalog names text (x ∷ []) is = inr (no-words catalog names text (λ a b c same. let no : a ∷ b ∷ c ∷ [] ≡ x ∷ [] = sym same ∙ is in absurd cc))
set-known laws catalog names text (x ∷ y ∷ []) is = inr (no-words catalog names text (λ a b c same. let no : a ∷ b ∷ c ∷ [] ≡ x ∷ y ∷ [] = sym same ∙ is in absurd cc))
set-known laws catalog names text (x ∷ y ∷ z ∷ w ∷ more) is =
    inr (no-words catalog names text (λ a b c same. let no : a ∷ b ∷ c ∷ [] ≡ x ∷ y ∷ z ∷ w ∷ more = sym same ∙ is in absurd cc))

-- a text is a query, or not
query-known : (text : List ℕ) → Known (IsShortQuery text) → SaidOrNone (QuerySays text)
query-known text (inl (tree, says)) = inl (query tree, (tree, refl, says))
query-known text (inr none) = inr (λ said says. none (says.0, says.2))

-- ---- lines

-- the text behind the word of a command says something, or nothing
verb-known : Readings → (catalog : Catalog) (names : Naming) (command : Verb) (text : List ℕ) → SaidOrNone (VerbSays catalog names command text)
verb-known laws catalog names verb.Room text = found-known (room_said catalog (words text))
verb-known laws catalog names verb.Load text = found-known (load_said catalog (words text))
verb-known laws catalog names verb.Add text =
    two-said-known (table_added catalog) (λ table _ name. RowSays catalog table name) text (λ table word name. each-row laws catalog table name) (two-known text (line-cut text))
verb-known laws catalog names verb.Get text = found-known (name_said get (words text))
verb-known laws catalog names verb.Set text = set-known laws catalog names text (words text) refl
verb-known laws catalog names verb.Remove text = found-known (name_said remove (words text))
verb-known laws catalog names verb.Delete text =
    two-said-known (table_before catalog (codes "where")) (λ table _ _. CondSays table) text (λ table word other. each-cond laws table) (two-known text (line-cut text))
verb-known laws catalog names verb.Update text =
    two-said-known (table_before catalog (codes "set")) (λ table _ _. ColumnSays table) text (λ table word other. each-column laws table) (two-known text (line-cut text))
verb-known laws catalog names verb.Query text =
    query-known text (short-known text (nat_le (length text) MAX_TEXT) refl (let what = laws.some query_text text in query-by laws.one text (what.0) (what.1)))
verb-known laws catalog names verb.Compact text = found-known (table_said compact catalog (words text))
verb-known laws catalog names verb.Stat text = found-known (table_said stat catalog (words text))
verb-known laws catalog names verb.Drop text = found-known (drop_said (words text))

-- a line says something, or nothing
abbrev Says : Catalog → Naming → List ℕ → Type 0
Says catalog names line = SaidOrNone (LineSays catalog names line)

-- what a line says, by the command that its first word begins
says-by : Readings → (catalog : Catalog) (names : Naming) (line word text : List ℕ) (found : Option Verb) → words line ≡ word ∷ words text → verb_of word ≡ found → Says catalog names line
says-by laws catalog names line word text None cut is = inr (no-verb catalog names line word text cut is)
says-by laws catalog names line word text (Some begins) cut is =
    elim (verb-known laws catalog names begins text) [
      | inl (said, says) ↦ inl (said, inr (record { word = word; command = begins; text = text; cut = cut; is = is; says = says }))
      | inr none ↦ inr (λ said says. none said (behind-says catalog names line word text begins said cut is says))
    ]

says-known : Readings → (catalog : Catalog) (names : Naming) (line : List ℕ) → HasBehind line ⊎ IsAlone line → Says catalog names line
says-known laws catalog names line (inl (word, text, is)) = says-by laws catalog names line word text (verb_of word) is refl
says-known laws catalog names line (inr (word, is)) =
    elim (found-known (mark_of word)) [
      | inl (said, says) ↦ inl (said, inl (record { word = word; cut = is; is = says }))
      | inr none ↦ inr (λ said says. none said (alone-says catalog names line word said is says))
    ]

-- ---- what lines give

-- a line gives something
abbrev GivesThis : Catalog → List Word → ReadState → ℕ → List ℕ → Type 0
GivesThis catalog folds state number line = (given : Result ReadState ScriptKind) × LineGives catalog folds state number line given

-- what a line that counts gives
counts-some : (catalog : Catalog) (folds : List Word) (state : ReadState) (number : ℕ) (line : List ℕ) → Counts line → Says catalog state.names line → GivesThis catalog folds state number line
counts-some catalog folds state number line counts (inl (said, says)) =
    (taken catalog state number said (said_fault catalog folds state said), command said counts says refl)
counts-some catalog folds state number line counts (inr none) = (Err Grammar, no_command counts none refl)

-- what a line of text gives
text-some : (catalog : Catalog) (folds : List Word) (state : ReadState) (number : ℕ) (line : List ℕ) (quiet : Bool) → is_quiet line ≡ quiet → IsText line
    → Says catalog state.names line → GivesThis catalog folds state number line
text-some catalog folds state number line true is text says = (Ok state, passed_over (text, is) refl)
text-some catalog folds state number line false is text says = counts-some catalog folds state number line (text, ap not is) says

-- each line gives something
line-some : (catalog : Catalog) (folds : List Word) (state : ReadState) (number : ℕ) (line : List ℕ) → Known (IsText line) → Says catalog state.names line
    → GivesThis catalog folds state number line
line-some catalog folds state number line (inl text) says = text-some catalog folds state number line (is_quiet line) refl text says
line-some catalog folds state number line (inr none) says = (Err Grammar, no_text none refl)

-- lines give a script, or one of them is the first that is refused
abbrev LinesSome : Catalog → List Word → ReadState → ℕ → List (List ℕ) → Type 0
LinesSome catalog folds state number lines =
    ((script : ScriptTree) × LinesGive catalog folds state number lines (Ok script))
    ⊎ ((line : ℕ) × (kind : ScriptKind) × LinesGive catalog folds state number lines (Err (Bad line kind)))

-- a line gives something, and the lines behind it do from any state
next-some : (catalog : Catalog) (folds : List Word) (state : ReadState) (number : ℕ) (line : List ℕ) (lines : List (List ℕ))
    → GivesThis catalog folds state (number + 1) line → ((next : ReadState) → LinesSome catalog folds next (number + 1) lines) → LinesSome catalog folds state number (line ∷ lines)
next-some catalog folds state number line lines (Err kind, gives) behind = inr (number + 1, kind, (Err kind, gives, refl))
next-some catalog folds state number line lines (Ok next, gives) behind = behind-some (behind next)
  where
    behind-some : LinesSome catalog folds next (number + 1) lines → LinesSome catalog folds state number (line ∷ lines)
    behind-some (inl (script, rest)) = inl (script, (Ok next, gives, rest))
    behind-some (inr (at, kind, rest)) = inr (at, kind, (Ok next, gives, rest))

-- the end of lines gives something
end-some : (catalog : Catalog) (folds : List Word) (state : ReadState) (number : ℕ) (opened : Bool) → is_open state.group ≡ opened → LinesSome catalog folds state number []
end-some catalog folds state number true is = inr (number + 1, Group, sym (ap (ended_by folds state number) is))
end-some catalog folds state number false is = inl (script_of folds state, sym (ap (ended_by folds state number) is))

lines-some : Readings → (catalog : Catalog) (folds : List Word) (lines : List (List ℕ)) (state : ReadState) (number : ℕ) → LinesSome catalog folds state number lines
lines-some laws catalog folds [] state number = end-some catalog folds state number (is_open state.group) refl
lines-some laws catalog folds (line ∷ lines) state number =
    next-some catalog folds state number line lines (line-some catalog folds state (number + 1) line (text-known line) (says-known laws catalog state.names line (line-cut line)))
    (λ next. lines-some laws catalog folds lines next (number + 1))

-- ---- the limits of a text

-- a line of the text is past a limit
abbrev HasPast : List ℕ → Type 0
HasPast text = (line : ℕ) × (kind : ScriptKind) × IsPastLimit text (Err (Bad line kind))

-- the first line that is not short, behind so many that are
long-past : (text : List ℕ) (before : List (List ℕ)) (line : List ℕ) (behind : List (List ℕ)) → lines text ≡ before ++ line ∷ behind → All IsShort before
    → length before < MAX_LINES → ¬ IsShort line → HasPast text
long-past text before line behind parts short few long = (
  length before + 1,
  TooLong,
  (
    limit.TooLong (length before + 1),
    (
      omega arith,
      record {
        before = before;
        line = line;
        behind = behind;
        parts = parts;
        place = refl;
        short = short;
        holds = long;
      },
    ),
    refl,
  ),
)

-- a line behind so many as a text may have
many-past : (text : List ℕ) (before : List (List ℕ)) (line : List ℕ) (behind : List (List ℕ)) → lines text ≡ before ++ line ∷ behind → All IsShort before
    → length before ≤ MAX_LINES → MAX_LINES ≤ length before → HasPast text
many-past text before line behind parts short few many = (
  MAX_LINES + 1,
  TooMany,
  (
    limit.TooMany,
    record {
      before = before;
      line = line;
      behind = behind;
      parts = parts;
      place = omega arith;
      short = short;
      holds = tt;
    },
    refl,
  ),
)

-- a text whose lines are short and few
all-within : (text : List ℕ) (before : List (List ℕ)) → lines text ≡ before ++ [] → All IsShort before → length before ≤ MAX_LINES → IsWithin text
all-within text before parts short few =
    let same : lines text ≡ before = parts ∙ append-nil before in
    let many : length (lines text) ≡ length before = ap length same in record {
      short = subst (All IsShort) (sym same) short;
      few = omega arith;
    }

-- lines that are short with one more
short-more : (before : List (List ℕ)) (line : List ℕ) → All IsShort before → IsShort line → All IsShort (before ++ line ∷ [])
short-more before line short one = All-append IsShort before (line ∷ []) short (All-cons IsShort line [] one (All-nil IsShort))

-- what holds of the lines behind some that are short and few, and this one, holds of it and them
limit-on : (text : List ℕ) (before : List (List ℕ)) (line : List ℕ) (rest : List (List ℕ)) (full one : Bool) → nat_le MAX_LINES (length before) ≡ full
    → nat_le (length line) MAX_LINE ≡ one → lines text ≡ before ++ line ∷ rest → All IsShort before → length before ≤ MAX_LINES
    → (lines text ≡ (before ++ line ∷ []) ++ rest → All IsShort (before ++ line ∷ []) → length (before ++ line ∷ []) ≤ MAX_LINES → HasPast text ⊎ IsWithin text)
    → HasPast text ⊎ IsWithin text
limit-on text before line rest true one is small parts short few behind = inl (many-past text before line rest parts short few (leb-true MAX_LINES (length before) is))
limit-on text before line rest false false is small parts short few behind =
    let large = leb-false (length line) MAX_LINE small in
    inl (long-past text before line rest parts short (leb-false MAX_LINES (length before) is) (λ fits. absurd (omega arith)))
limit-on text before line rest false true is small parts short few behind =
    let sum = length-append before (line ∷ []) in
    let more = leb-false MAX_LINES (length before) is in
    behind (parts ∙ sym (append_assoc before (line ∷ []) rest)) (short-more before line short (leb-true (length line) MAX_LINE small)) (omega arith)

-- the lines behind some that are short and few
limit-from : (text : List ℕ) (rest before : List (List ℕ)) → lines text ≡ before ++ rest → All IsShort before → length before ≤ MAX_LINES → HasPast text ⊎ IsWithin text
limit-from text [] before parts short few = inr (all-within text before parts short few)
limit-from text (line ∷ rest) before parts short few =
    limit-on text before line rest (nat_le MAX_LINES (length before)) (nat_le (length line) MAX_LINE) refl refl parts short few
    (λ parts' short' few'. limit-from text rest (before ++ line ∷ []) parts' short' few')

-- a text has a line past a limit, or it is within both
limit-some : (text : List ℕ) → HasPast text ⊎ IsWithin text
limit-some text = limit-from text (lines text) [] refl (All-nil IsShort) (omega arith)

-- what a text gives, by its limits and its lines
text-gives : (catalog : Catalog) (folds : List Word) (text : List ℕ) → HasPast text ⊎ IsWithin text → LinesSome catalog folds start 0 (lines text)
    → SpellsSome catalog folds text ⊎ HasRefused catalog folds text
text-gives catalog folds text (inl (line, kind, past)) gives = inr (line, kind, inl past)
text-gives catalog folds text (inr within) (inl (script, gives)) = inl (script, inr (within, gives))
text-gives catalog folds text (inr within) (inr (line, kind, gives)) = inr (line, kind, inr (within, gives))

-- each text spells a script, or has a first line that is refused
pub gives-some : Readings → GivesSome
gives-some laws catalog folds text = text-gives catalog folds text (limit-some text) (lines-some laws catalog folds (lines text) start 0)
