-- A text gives one outcome at most.
use Rattle.std.proofs.Common.{◌≡◌, ◌≤◌, arith, ℕ, ◌+◌, List, [], ◌∷◌, ◌++◌, inl, inr, length, codes, Bool, true, false, Option, None, Some, Ok, Err, refl, sym, ap, ◌∙◌, subst}
use Rattle.std.proofs.lemmas.List.{length-append}
use Rattle.std.proofs.lemmas.List.Elements.{All-head, All-tail}
use Rattle.std.specs.declared.result.Result.{Result}
use Rattle.std.specs.List.{All}
use Rattle.std.specs.Prelude.{IsTrue, not}
use Rattle.smc_lang.specs.Laws.{IsOneThing, Thing, read}
use Rattle.smc_lines.specs.Ahead.{Counts, IsPassedOver, is_quiet}
use Rattle.smc_lines.specs.Lines.{lines, IsShort, IsWithin}
use Rattle.smc_lines.specs.Reading.{PassesLimit}
use Rattle.smc_lines.specs.declared.fault.LinesFault.{LinesFault}
use Rattle.smc_lines.specs.declared.fault.LinesFault.TheVariants as limit
use Rattle.smc_query.specs.Trees.{Word, QueryTree, a_cond, a_query, an_edit, cond_text, edit_text, query_text}
use Rattle.smc_tbl.specs.Alone.{SpellsAlone}
use Rattle.smc_tbl.specs.TableText.{Gives, GivesOne as GivesOneRow}
use Rattle.smc_tbl.specs.declared.fault.TblFault.{TblFault}
use Rattle.smc_types.specs.declared.catalog.Catalog.{Catalog}
use Rattle.smc_types.specs.declared.column.FieldType.{FieldType}
use Rattle.smc_types.specs.declared.row.Value.{Value}
use Rattle.smc_types.specs.declared.schema.Schema.{Schema}
use Rattle.smc_script.specs.Faults.{LineGives, passed_over, no_text, no_command, command, said_fault, taken}
use Rattle.smc_script.specs.Laws.{GivesOne}
use Rattle.smc_script.specs.Names.{Naming}
use Rattle.smc_script.specs.Says.{LineSays, VerbSays, SaidTree, ColumnSays, CondSays, EditSays, RowSays, SaysQuery, SaysSet, SaysValue, SpellsRowOf, TwoThen, add, column_before, delete, kind_named, query, set, table_added, table_before, update}
use Rattle.smc_script.specs.Scripts.{GoesOn, LinesGive, Outcome, limit_fault}
use Rattle.smc_script.specs.States.{ReadState}
use Rattle.smc_script.specs.declared.fault.ScriptKind.{ScriptKind}
use Rattle.smc_script.specs.declared.verb.Verb.{Verb}
use Rattle.smc_script.specs.declared.verb.Verb.TheVariants as verb
use Rattle.smc_script.proofs.RowLaws.{set-at}
use Rattle.smc_script.proofs.SaysLaws.{alone-says, behind-says, later, some-one, two-at}

-- ---- what a line says

-- the laws of what lines are read by: queries, rows, and fields
pub record Readings : Type 0 where
  pub thing : IsOneThing
  pub row : (schema : Schema) (line : List ℕ) → GivesOneRow schema line
  pub field : (kind : FieldType) (text : List ℕ) (a b : Value) → SpellsAlone kind text a → SpellsAlone kind text b → a ≡ b

-- the query that a thing is, where it is one
abbrev tree_in : Thing → QueryTree → QueryTree
tree_in (read (a_query tree)) other = tree
tree_in thing other = other

-- a text is one query
query-one : IsOneThing → (text : List ℕ) (one other : QueryTree) → SaysQuery text one → SaysQuery text other → one ≡ other
query-one thing text one other (short, reads) (short', reads') =
    ap (λ (t : Thing). tree_in t one) (thing query_text text (read (a_query one)) (read (a_query other)) reads reads')

-- the row of a reading, where it has one
abbrev row_in : Result (List Value) TblFault → List Value → List Value
row_in (Ok row) other = row
row_in (Err fault) other = other

-- a text is one row of a table
row-one : ((schema : Schema) (line : List ℕ) → GivesOneRow schema line) → (catalog : Catalog) (table : ℕ) (text : List ℕ) (one other : List Value)
    → SpellsRowOf catalog table text one → SpellsRowOf catalog table text other → one ≡ other
row-one law catalog table text one other (schema, is, spells) (schema', is', spells') =
    let (reading, gives, only) = law schema text in
    let here : Gives schema text (Ok other) = subst (λ (s : Schema). Gives s text (Ok other)) (some-one schema' schema (sym is' ∙ is)) spells' in
    ap (λ (r : Result (List Value) TblFault). row_in r one) (only (Ok one) spells ∙ sym (only (Ok other) here))

-- what stands behind two words says one thing, where it does behind each two words
two-one : (head : Word → Word → Option ℕ) (reads : ℕ → Word → Word → List ℕ → SaidTree → Type 0) (text : List ℕ)
    → ((table : ℕ) (first second : Word) (behind : List ℕ) (one other : SaidTree) → reads table first second behind one → reads table first second behind other → one ≡ other)
    → (one other : SaidTree) → TwoThen head reads text one → TwoThen head reads text other → one ≡ other
two-one head reads text each one other two says =
    each two.table two.first two.second two.behind one other two.says (two-at head reads text two.first two.second two.behind two.table other two.cut two.is says)

-- a text is one row to be added
added-one : Readings → (catalog : Catalog) (table : ℕ) (name : Word) (text : List ℕ) (one other : SaidTree) → RowSays catalog table name text one → RowSays catalog table name text other
    → one ≡ other
added-one laws catalog table name text one other (row, is, spells) (row', is', spells') =
    is ∙ ap (λ (r : List Value). add table name r) (row-one laws.row catalog table text row row' spells spells') ∙ sym is'

-- the deletion that a thing is, where it is one
abbrev cond_said : ℕ → Thing → SaidTree → SaidTree
cond_said table (read (a_cond cond)) other = delete table cond
cond_said table thing other = other

-- a text is one condition
cond-one : IsOneThing → (table : ℕ) (text : List ℕ) (one other : SaidTree) → CondSays table text one → CondSays table text other → one ≡ other
cond-one thing table text one other (cond, is, (short, reads)) (cond', is', (short', reads')) =
    is ∙ ap (λ (t : Thing). cond_said table t one) (thing cond_text text (read (a_cond cond)) (read (a_cond cond')) reads reads') ∙ sym is'

-- the update that a thing is, where it is one
abbrev edit_said : ℕ → Word → Thing → SaidTree → SaidTree
edit_said table column (read (an_edit value filter)) other = update table column value filter
edit_said table column thing other = other

-- a text is one value with its condition
edit-one : IsOneThing → (table : ℕ) (column : Word) (text : List ℕ) (one other : SaidTree) → EditSays table column text one → EditSays table column text other → one ≡ other
edit-one thing table column text one other (value, filter, is, (short, reads)) (value', filter', is', (short', reads')) =
    is ∙ ap (λ (t : Thing). edit_said table column t one) (thing edit_text text (read (an_edit value filter)) (read (an_edit value' filter')) reads reads') ∙ sym is'

-- a text is one column with its value
column-one : IsOneThing → (table : ℕ) (text : List ℕ) (one other : SaidTree) → ColumnSays table text one → ColumnSays table text other → one ≡ other
column-one thing table text one other says says' =
    two-one (column_before table) (λ same column _. EditSays same column) text (λ same column sign. edit-one thing same column) one other says says'

-- a text is one value of a column
value-one : Readings → (kind : Option FieldType) (text : List ℕ) (one other : Option Value) → SaysValue kind text one → SaysValue kind text other → one ≡ other
value-one laws None text one other is is' = is ∙ sym is'
value-one laws (Some kind) text (Some one) (Some other) says says' = ap (λ (v : Value). Some v) (laws.field kind text one other says says')
value-one laws (Some kind) text None other says says' = absurd says
value-one laws (Some kind) text (Some one) None says says' = absurd says'

-- a setting is one
set-one : Readings → (catalog : Catalog) (names : Naming) (text : List ℕ) (one other : SaidTree) → SaysSet catalog names text one → SaysSet catalog names text other → one ≡ other
set-one laws catalog names text one other a says =
    let b = set-at catalog names text a.name a.column a.value_text other a.cut says in
    a.says ∙ sym (b.says ∙ ap (λ (v : Option Value). set a.name a.column v)
    (value-one laws (kind_named catalog names a.name a.column) a.value_text b.value a.value b.spells a.spells))

-- the text behind the word of a command says one thing
verb-one : Readings → (catalog : Catalog) (names : Naming) (command : Verb) (text : List ℕ) (one other : SaidTree) → VerbSays catalog names command text one
    → VerbSays catalog names command text other → one ≡ other
verb-one laws catalog names verb.Room text one other is is' = some-one one other (sym is ∙ is')
verb-one laws catalog names verb.Load text one other is is' = some-one one other (sym is ∙ is')
verb-one laws catalog names verb.Add text one other is is' =
    two-one (table_added catalog) (λ table _ name. RowSays catalog table name) text (λ table word name. added-one laws catalog table name) one other is is'
verb-one laws catalog names verb.Get text one other is is' = some-one one other (sym is ∙ is')
verb-one laws catalog names verb.Set text one other is is' = set-one laws catalog names text one other is is'
verb-one laws catalog names verb.Remove text one other is is' = some-one one other (sym is ∙ is')
verb-one laws catalog names verb.Delete text one other is is' =
    two-one (table_before catalog (codes "where")) (λ table _ _. CondSays table) text (λ table word other. cond-one laws.thing table) one other is is'
verb-one laws catalog names verb.Update text one other is is' =
    two-one (table_before catalog (codes "set")) (λ table _ _. ColumnSays table) text (λ table word other. column-one laws.thing table) one other is is'
verb-one laws catalog names verb.Query text one other (tree, is, says) (tree', is', says') =
    is ∙ ap (λ (t : QueryTree). query t) (query-one laws.thing text tree tree' says says') ∙ sym is'
verb-one laws catalog names verb.Compact text one other is is' = some-one one other (sym is ∙ is')
verb-one laws catalog names verb.Stat text one other is is' = some-one one other (sym is ∙ is')
verb-one laws catalog names verb.Drop text one other is is' = some-one one other (sym is ∙ is')

-- a line says one thing
says-one : Readings → (catalog : Catalog) (names : Naming) (line : List ℕ) (one other : SaidTree) → LineSays catalog names line one → LineSays catalog names line other → one ≡ other
says-one laws catalog names line one other (inl mark) says' = some-one one other (sym mark.is ∙ alone-says catalog names line mark.word other mark.cut says')
says-one laws catalog names line one other (inr says) says' =
    verb-one laws catalog names says.command says.text one other says.says
    (behind-says catalog names line says.word says.text says.command other says.cut says.is says')

-- ---- what lines give

-- a test does not hold and fail
not-both : (test : Bool) → IsTrue test → ¬ IsTrue (not test)
not-both true holds fails = absurd cc
not-both false holds fails = absurd cc

-- a line that is passed over does not count
passed-counts : (line : List ℕ) → IsPassedOver line → ¬ Counts line
passed-counts line passed counts = not-both (is_quiet line) (passed.1) (counts.1)

-- a line gives one thing
given-one : Readings → (catalog : Catalog) (folds : List Word) (state : ReadState) (number : ℕ) (line : List ℕ) (one other : Result ReadState ScriptKind)
    → LineGives catalog folds state number line one → LineGives catalog folds state number line other → one ≡ other
given-one laws catalog folds state number line one other (passed_over quiet is) (passed_over quiet' is') = is ∙ sym is'
given-one laws catalog folds state number line one other (passed_over quiet is) (no_text none is') = absurd (none (quiet.0))
given-one laws catalog folds state number line one other (passed_over quiet is) (no_command counts none is') = absurd (passed-counts line quiet counts)
given-one laws catalog folds state number line one other (passed_over quiet is) (command said counts says is') = absurd (passed-counts line quiet counts)
given-one laws catalog folds state number line one other (no_text none is) (passed_over quiet is') = absurd (none (quiet.0))
given-one laws catalog folds state number line one other (no_text none is) (no_text none' is') = is ∙ sym is'
given-one laws catalog folds state number line one other (no_text none is) (no_command counts none' is') = absurd (none (counts.0))
given-one laws catalog folds state number line one other (no_text none is) (command said counts says is') = absurd (none (counts.0))
given-one laws catalog folds state number line one other (no_command counts none is) (passed_over quiet is') = absurd (passed-counts line quiet counts)
given-one laws catalog folds state number line one other (no_command counts none is) (no_text none' is') = absurd (none' (counts.0))
given-one laws catalog folds state number line one other (no_command counts none is) (no_command counts' none' is') = is ∙ sym is'
given-one laws catalog folds state number line one other (no_command counts none is) (command said counts' says is') = absurd (none said says)
given-one laws catalog folds state number line one other (command said counts says is) (passed_over quiet is') = absurd (passed-counts line quiet counts)
given-one laws catalog folds state number line one other (command said counts says is) (no_text none is') = absurd (none (counts.0))
given-one laws catalog folds state number line one other (command said counts says is) (no_command counts' none is') = absurd (none said says)
given-one laws catalog folds state number line one other (command said counts says is) (command said' counts' says' is') =
    is ∙ ap (λ (s : SaidTree). taken catalog state number s (said_fault catalog folds state s)) (says-one laws catalog state.names line said said' says says') ∙ sym is'

-- lines give one outcome
lines-one : Readings → (catalog : Catalog) (folds : List Word) (lines : List (List ℕ)) (state : ReadState) (number : ℕ) (one other : Outcome)
    → LinesGive catalog folds state number lines one → LinesGive catalog folds state number lines other → one ≡ other
lines-one laws catalog folds [] state number one other is is' = is ∙ sym is'
lines-one laws catalog folds (line ∷ lines) state number one other (Ok next, gives, rest) (given, gives', rest') =
    lines-one laws catalog folds lines next (number + 1) one other rest
    (subst (λ (g : Result ReadState ScriptKind). GoesOn g (number + 1) other (λ later'. LinesGive catalog folds later' (number + 1) lines other))
    (given-one laws catalog folds state (number + 1) line given (Ok next) gives' gives) rest')
lines-one laws catalog folds (line ∷ lines) state number one other (Err kind, gives, is) (given, gives', rest') =
    is ∙ sym (subst (λ (g : Result ReadState ScriptKind). GoesOn g (number + 1) other (λ later'. LinesGive catalog folds later' (number + 1) lines other))
    (given-one laws catalog folds state (number + 1) line given (Err kind) gives' gives) rest')

-- ---- the limits of a text

-- the first line of these
abbrev first : List (List ℕ) → List ℕ
first [] = []
first (line ∷ lines) = line

-- a line that is not short stands behind all lines before which every line is short
long-behind : (xs ys : List (List ℕ)) (x y : List ℕ) (rest more : List (List ℕ)) → xs ++ x ∷ rest ≡ ys ++ y ∷ more → All IsShort ys → ¬ IsShort x → length ys ≤ length xs
long-behind xs [] x y rest more is short long = omega arith
long-behind [] (b ∷ ys) x y rest more is short long = absurd (long (subst IsShort (sym (ap first is)) (All-head IsShort b ys short)))
long-behind (a ∷ xs) (b ∷ ys) x y rest more is short long =
    let less = long-behind xs ys x y rest more (ap later is) (All-tail IsShort b ys short) long in
    omega arith

-- a text passes one limit
limit-one : (text : List ℕ) (one other : LinesFault) → PassesLimit one text → PassesLimit other text → one ≡ other
limit-one text limit.ReadFault other is is' = absurd is
limit-one text limit.NoMemory other is is' = absurd is
limit-one text (limit.TooLong number) limit.ReadFault is is' = absurd is'
limit-one text (limit.TooLong number) limit.NoMemory is is' = absurd is'
limit-one text (limit.TooLong number) (limit.TooLong number') (few, at) (few', at') =
    let one = long-behind at.before at'.before at.line at'.line at.behind at'.behind (sym at.parts ∙ at'.parts) at'.short at.holds in
    let other = long-behind at'.before at.before at'.line at.line at'.behind at.behind (sym at'.parts ∙ at.parts) at.short at'.holds in
    let place = at.place in let place' = at'.place in
    ap (λ (n : ℕ). limit.TooLong n) (omega arith)
limit-one text (limit.TooLong number) limit.TooMany (few, at) at' =
    let one = long-behind at.before at'.before at.line at'.line at.behind at'.behind (sym at.parts ∙ at'.parts) at'.short at.holds in
    let place = at.place in let place' = at'.place in
    absurd (omega arith)
limit-one text limit.TooMany limit.ReadFault is is' = absurd is'
limit-one text limit.TooMany limit.NoMemory is is' = absurd is'
limit-one text limit.TooMany (limit.TooLong number) at' (few, at) =
    let one = long-behind at.before at'.before at.line at'.line at.behind at'.behind (sym at.parts ∙ at'.parts) at'.short at.holds in
    let place = at.place in let place' = at'.place in
    absurd (omega arith)
limit-one text limit.TooMany limit.TooMany is is' = refl

-- one of lines that are short is short
short-at : (before : List (List ℕ)) (line : List ℕ) (behind : List (List ℕ)) → All IsShort (before ++ line ∷ behind) → IsShort line
short-at [] line behind all = All-head IsShort line behind all
short-at (a ∷ before) line behind all = short-at before line behind (All-tail IsShort a (before ++ line ∷ behind) all)

-- a text within the limits passes none
within-limit : (text : List ℕ) (fault : LinesFault) → IsWithin text → ¬ PassesLimit fault text
within-limit text limit.ReadFault within is = is
within-limit text limit.NoMemory within is = is
within-limit text (limit.TooLong number) within (few, at) = at.holds (short-at at.before at.line at.behind (subst (All IsShort) at.parts within.short))
within-limit text limit.TooMany within at =
    let many : length (lines text) ≡ length (at.before ++ at.line ∷ at.behind) = ap length at.parts in
    let sum = length-append at.before (at.line ∷ at.behind) in
    let few = within.few in let place = at.place in
    absurd (omega arith)

-- a text gives one outcome at most
pub gives-one : Readings → GivesOne
gives-one laws catalog folds text one other (inl (fault, past, is)) (inl (fault', past', is')) =
    is ∙ ap (λ (f : LinesFault). Err (limit_fault f)) (limit-one text fault fault' past past') ∙ sym is'
gives-one laws catalog folds text one other (inl (fault, past, is)) (inr (within, gives)) = absurd (within-limit text fault within past)
gives-one laws catalog folds text one other (inr (within, gives)) (inl (fault, past, is)) = absurd (within-limit text fault within past)
gives-one laws catalog folds text one other (inr (within, gives)) (inr (within', gives')) =
    lines-one laws catalog folds (lines text) _ 0 one other gives gives'
