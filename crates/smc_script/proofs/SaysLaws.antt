-- What lines say, and how it is read from them.
use Rattle.std.proofs.Common.{◌≡◌, ◌≢◌, ℕ, List, [], ◌∷◌, inl, inr, length, false, Option, None, Some, refl, sym, ap, ◌∙◌, subst, arith}
use Rattle.std.specs.Option.{option_map, unwrap_or}
use Rattle.std.specs.Prelude.{◌≤◌, nat_eq, IfOk, Ok, Err}
use Rattle.std.specs.declared.result.Result.{Result}
use Rattle.std.proofs.lemmas.List.Splits.{join_with_byte-slice_split, length-slice_split}
use Rattle.std.specs.List.{join_with_byte}
use Rattle.smc_lines.specs.Words.{words}
use Rattle.smc_lines.specs.declared.limits.TheConstants.{SPACE}
use Rattle.smc_lang.specs.Laws.{IsOneThing, read, wrong, deep}
use Rattle.smc_lang.specs.Texts.{IsFaultOf, ReadsText}
use Rattle.smc_lang.specs.declared.fault.ParseFault.{ParseFault}
use Rattle.smc_lang.specs.declared.fault.ParseFault.TheVariants.{TooLong, TooDeep, At, NoMemory}
use Rattle.smc_lang.specs.declared.limits.TheConstants.{MAX_TEXT}
use Rattle.smc_query.specs.Trees.{Word, Answer, Form, a_cond, a_query, an_edit, cond_text, edit_text, query_text, query_tree}
use Rattle.smc_query.specs.declared.query.Query.{Query}
use Rattle.smc_types.specs.declared.catalog.Catalog.{Catalog}
use Rattle.smc_script.specs.Names.{Naming}
use Rattle.smc_script.specs.Says.{SaidTree, CommandSays, LineSays, MarkSays, VerbSays, QuerySays, IsSaid, IsSaidBy, IsReadAs, IsCondRead, IsEditRead, IsQueryRead, CondSays, EditSays, TwoThen, is_memory, mark_of, said_tree, verb_of}
use Rattle.smc_script.specs.declared.said.Said.{Said}
use Rattle.smc_script.specs.declared.said.Said.TheVariants as of
use Rattle.smc_script.specs.declared.verb.Verb.{Verb}

-- ---- the words of a text

-- a text with these words is one text
pub words-one : (one other : List ℕ) → words one ≡ words other → one ≡ other
words-one one other same =
    sym (join_with_byte-slice_split SPACE one) ∙ ap (join_with_byte SPACE) same ∙ join_with_byte-slice_split SPACE other

-- each text has a word
pub words-some : (text : List ℕ) → words text ≢ []
words-some text none =
    let many = length-slice_split (λ byte. nat_eq byte SPACE) text in
    let no : length (words text) ≡ 0 = ap length none in
    omega arith

-- the first of these words
abbrev pub first_word : List Word → Word
first_word [] = []
first_word (word ∷ words') = word

-- the later words of two equal lists
abbrev pub later : List (List ℕ) → List (List ℕ)
later [] = []
later (word ∷ words') = words'

-- the text behind the first word is the only one
pub text-one : (line word other text behind : List ℕ) → words line ≡ word ∷ words text → words line ≡ other ∷ words behind → text ≡ behind
text-one line word other text behind is same = words-one text behind (ap later (sym is ∙ same))

-- and so is that word
pub word-one : (line : List ℕ) (word other : Word) (rest more : List Word) → words line ≡ word ∷ rest → words line ≡ other ∷ more → word ≡ other
word-one line word other rest more is same = ap first_word (sym is ∙ same)

-- what is there is one
pub some-one : {A : Type 0} (one other : A) → Some one ≡ Some other → one ≡ other
some-one {A} one other is = ap (λ (o : Option A). unwrap_or o one) is

-- two words are not two words and a text
pub two-alone : (text behind first second : List ℕ) → words text ≡ first ∷ words behind → words behind ≡ second ∷ [] → (a b c : List ℕ) → words text ≢ a ∷ b ∷ words c
two-alone text behind first second is is' a b c same =
    words-some c (ap (λ (w : List Word). later (later w)) (sym same ∙ is ∙ ap (λ (w : List Word). first ∷ w) is'))

-- ---- lines

-- a line with a text behind its first word is not one word
not-alone : (line word text other : List ℕ) → words line ≡ word ∷ words text → words line ≡ other ∷ [] → ⊥
not-alone line word text other cut is = words-some text (ap later (sym cut ∙ is))

-- what a line says that begins with this word is what the text behind it says
pub behind-says : (catalog : Catalog) (names : Naming) (line word text : List ℕ) (command : Verb) (said : SaidTree) → words line ≡ word ∷ words text → verb_of word ≡ Some command
    → LineSays catalog names line said → VerbSays catalog names command text said
behind-says catalog names line word text command said cut is (inl mark) = absurd (not-alone line word text mark.word cut mark.cut)
behind-says catalog names line word text command said cut is (inr line') =
    let same_word : line'.word ≡ word = word-one line line'.word word (words line'.text) (words text) line'.cut cut in
    let same_text : line'.text ≡ text = text-one line line'.word word line'.text text line'.cut cut in
    let same_verb : line'.command ≡ command = some-one line'.command command (sym line'.is ∙ ap verb_of same_word ∙ is) in
    subst (λ (t : List ℕ). VerbSays catalog names command t said) same_text
    (subst (λ (v : Verb). VerbSays catalog names v line'.text said) same_verb line'.says)

-- what was read of the text behind the word of a command is what the line says
pub line-said : (catalog : Catalog) (names : Naming) (line word text : List ℕ) (command : Verb) (said : Option Said) → words line ≡ word ∷ words text → verb_of word ≡ Some command
    → IsSaidBy catalog names command text said → IsSaid catalog names line said
line-said catalog names line word text command (Some said) cut is says =
    inr (record { word = word; command = command; text = text; cut = cut; is = is; says = says })
line-said catalog names line word text command None cut is none = λ said says. none said (behind-says catalog names line word text command said cut is says)

-- the same of an answer that may be want of memory
pub line-answered : {F : Type 0} (catalog : Catalog) (names : Naming) (line word text : List ℕ) (command : Verb) (answer : Result (Option Said) F) → words line ≡ word ∷ words text
    → verb_of word ≡ Some command → IfOk answer (IsSaidBy catalog names command text) → IfOk answer (IsSaid catalog names line)
line-answered catalog names line word text command (Ok said) cut is says = line-said catalog names line word text command said cut is says
line-answered catalog names line word text command (Err fault) cut is says = tt

-- what a line says that is one word is what this word says of groups
pub alone-says : (catalog : Catalog) (names : Naming) (line word : List ℕ) (said : SaidTree) → words line ≡ word ∷ [] → LineSays catalog names line said → mark_of word ≡ Some said
alone-says catalog names line word said cut (inl mark) = ap mark_of (word-one line word mark.word [] [] cut mark.cut) ∙ mark.is
alone-says catalog names line word said cut (inr command) = absurd (not-alone line command.word command.text word command.cut cut)

-- what was read of a line that is one word is what it says
pub mark-said : (catalog : Catalog) (names : Naming) (line word : List ℕ) (said : Option Said) → words line ≡ word ∷ [] → option_map said_tree said ≡ mark_of word → IsSaid catalog names line said
mark-said catalog names line word (Some said) cut is = inl (record { word = word; cut = cut; is = sym is })
mark-said catalog names line word None cut is = λ said says. let no : None ≡ Some said = is ∙ alone-says catalog names line word said cut says in absurd cc

-- a line whose first word begins no command, with a text behind it, says nothing
pub no-verb : (catalog : Catalog) (names : Naming) (line word text : List ℕ) → words line ≡ word ∷ words text → verb_of word ≡ None
    → (said : SaidTree) → ¬ LineSays catalog names line said
no-verb catalog names line word text cut none said (inl mark) = not-alone line word text mark.word cut mark.cut
no-verb catalog names line word text cut none said (inr says) =
    let no : Some says.command ≡ None = sym says.is ∙ ap verb_of (word-one line says.word word (words says.text) (words text) says.cut cut) ∙ none in
    absurd cc

-- what was read by a function of the words is what it says
pub read-as : (found : Option SaidTree) (said : Option Said) → option_map said_tree said ≡ found → IsReadAs (λ s. found ≡ Some s) said
read-as found (Some said) is = sym is
read-as found None is = λ said says. let no : None ≡ Some said = is ∙ says in absurd cc

-- the same of an answer that may be want of memory
pub read-answered : {F : Type 0} (found : Option SaidTree) (answer : Result (Option Said) F) → IfOk answer (λ said. option_map said_tree said ≡ found)
    → IfOk answer (IsReadAs (λ s. found ≡ Some s))
read-answered found (Ok said) is = read-as found said is
read-answered found (Err fault) is = tt

-- ---- queries

-- the text of what is no query says nothing
no-query : (text : List ℕ) → IsQueryRead text None → (said : SaidTree) → ¬ QuerySays text said
no-query text none said (tree, same, says) = none tree says

-- what was read of a text is the query that it says
pub query-said : (text : List ℕ) (found : Option Query) → IsQueryRead text found → IsReadAs (QuerySays text) (option_map (λ q. of.Query q) found)
query-said text (Some found) says = (query_tree found, refl, says)
query-said text None none = no-query text none

-- a text of a form that has a fault is read as nothing
fault-none : IsOneThing → (form : Form) (text : List ℕ) (fault : ParseFault) (answer : Answer) → IsFaultOf form text fault → is_memory fault ≡ false → length text ≤ MAX_TEXT
    → ¬ ReadsText form text answer
fault-none one form text TooLong answer long is short reads = absurd (omega arith)
fault-none one form text (TooDeep at) answer deep' is short reads =
    let no : read answer ≡ deep at = one form text (read answer) (deep at) reads deep' in
    absurd cc
fault-none one form text (At at) answer wrong' is short reads =
    let no : read answer ≡ wrong at = one form text (read answer) (wrong at) reads wrong' in
    absurd cc
fault-none one form text NoMemory answer any is short reads = absurd cc

-- so it is no query, no condition, and no value
pub query-none : IsOneThing → (text : List ℕ) (fault : ParseFault) → IsFaultOf query_text text fault → is_memory fault ≡ false → IsQueryRead text None
query-none one text fault told is tree (short, reads) = fault-none one query_text text fault (a_query tree) told is short reads

pub cond-none : IsOneThing → (text : List ℕ) (fault : ParseFault) → IsFaultOf cond_text text fault → is_memory fault ≡ false → IsCondRead text None
cond-none one text fault told is cond (short, reads) = fault-none one cond_text text fault (a_cond cond) told is short reads

pub edit-none : IsOneThing → (text : List ℕ) (fault : ParseFault) → IsFaultOf edit_text text fault → is_memory fault ≡ false → IsEditRead text None
edit-none one text fault told is value filter (short, reads) = fault-none one edit_text text fault (an_edit value filter) told is short reads

-- a text that is no condition, or no value, says nothing of a table
pub no-cond : (table : ℕ) (text : List ℕ) → IsCondRead text None → (said : SaidTree) → ¬ CondSays table text said
no-cond table text none said (cond, is, says) = none cond says

pub no-edit : (table : ℕ) (column : Word) (text : List ℕ) → IsEditRead text None → (said : SaidTree) → ¬ EditSays table column text said
no-edit table column text none said (value, filter, is, says) = none value filter says

-- ---- two words and a text

-- what two words and a text say, by those that were found
pub two-at : (head : Word → Word → Option ℕ) (reads : ℕ → Word → Word → List ℕ → SaidTree → Type 0) (text first second behind : List ℕ) (table : ℕ) (said : SaidTree)
    → words text ≡ first ∷ second ∷ words behind → head first second ≡ Some table → TwoThen head reads text said → reads table first second behind said
two-at head reads text first second behind table said is found two =
    let same : two.first ∷ two.second ∷ words two.behind ≡ first ∷ second ∷ words behind = sym two.cut ∙ is in
    let one : two.first ≡ first = ap first_word same in
    let other : two.second ≡ second = ap (λ (w : List Word). first_word (later w)) same in
    let rest : two.behind ≡ behind = words-one two.behind behind (ap (λ (w : List Word). later (later w)) same) in
    let number : two.table ≡ table =
    some-one two.table table (sym two.is ∙ ap (λ (w : Word). head w two.second) one ∙ ap (head first) other ∙ found) in
    subst (λ (t : List ℕ). reads table first second t said) rest
    (subst (λ (w : Word). reads table first w two.behind said) other
    (subst (λ (w : Word). reads table w two.second two.behind said) one
    (subst (λ (n : ℕ). reads n two.first two.second two.behind said) number two.says)))

-- without two words and a text nothing is said
pub no-cut : (head : Word → Word → Option ℕ) (reads : ℕ → Word → Word → List ℕ → SaidTree → Type 0) (text : List ℕ)
    → ((first second behind : List ℕ) → words text ≢ first ∷ second ∷ words behind) → (said : SaidTree) → ¬ TwoThen head reads text said
no-cut head reads text none said two = none two.first two.second two.behind two.cut

-- nor where the words name no table
pub no-head : (head : Word → Word → Option ℕ) (reads : ℕ → Word → Word → List ℕ → SaidTree → Type 0) (text first second behind : List ℕ)
    → words text ≡ first ∷ second ∷ words behind → head first second ≡ None → (said : SaidTree) → ¬ TwoThen head reads text said
no-head head reads text first second behind is none said two =
    let same : two.first ∷ two.second ∷ words two.behind ≡ first ∷ second ∷ words behind = sym two.cut ∙ is in
    let one : two.first ≡ first = ap first_word same in
    let other : two.second ≡ second = ap (λ (w : List Word). first_word (later w)) same in
    let no : Some two.table ≡ None = sym two.is ∙ ap (λ (w : Word). head w two.second) one ∙ ap (head first) other ∙ none in
    absurd cc

-- what was read of the text behind two words is what they say
pub two-said : (head : Word → Word → Option ℕ) (reads : ℕ → Word → Word → List ℕ → SaidTree → Type 0) (text first second behind : List ℕ) (table : ℕ) (said : Option Said)
    → words text ≡ first ∷ second ∷ words behind → head first second ≡ Some table → IsReadAs (reads table first second behind) said → IsReadAs (TwoThen head reads text) said
two-said head reads text first second behind table (Some said) is found says = record {
  first = first;
  second = second;
  behind = behind;
  table = table;
  cut = is;
  is = found;
  says = says;
}
two-said head reads text first second behind table None is found none = λ said two. none said (two-at head reads text first second behind table said is found two)

-- the same of an answer that may be want of memory
pub two-answered : {F : Type 0} (head : Word → Word → Option ℕ) (reads : ℕ → Word → Word → List ℕ → SaidTree → Type 0) (text first second behind : List ℕ) (table : ℕ)
    (answer : Result (Option Said) F) → words text ≡ first ∷ second ∷ words behind → head first second ≡ Some table
    → IfOk answer (IsReadAs (reads table first second behind)) → IfOk answer (IsReadAs (TwoThen head reads text))
two-answered head reads text first second behind table (Ok said) is found says = two-said head reads text first second behind table said is found says
two-answered head reads text first second behind table (Err fault) is found says = tt
