-- What the words of a call spell, and what is read from them.
use Rattle.std.proofs.Common.{◌≡◌, ◌≢◌, ℕ, List, [], ◌∷◌, Bool, true, false, cond, codes, length, refl, ap, ◌∙◌, subst, arith, eq-eqb}
use Rattle.std.proofs.lemmas.Bool.Decides.{nat_tests}
use Rattle.std.proofs.lemmas.Slice.Eq.{bytes_eq-Decides}
use Rattle.std.specs.Prelude.{Option, None, Some, IsTrue, find, option_and_then, ◌&&◌, ◌==◌, if◌then◌else◌}
use Rattle.std.specs.Option.{option_map}
use Rattle.std.specs.Str.{bytes_eq}
use Rattle.smc_schedule.specs.Calls.{index_of, value_of, plain_of, name_of, read_of, write_of, values_of, added_of, add_of, call_of, call_from}
use Rattle.smc_schedule.specs.Grammar.{IsName, SpellsCall}
use Rattle.smc_schedule.specs.Names.{is_name}
use Rattle.smc_schedule.specs.Verbs.{word_of, verbs, verb_of}
use Rattle.smc_schedule.specs.declared.call.StartCall.{StartCall}
use Rattle.smc_schedule.specs.declared.call.StartCall.TheVariants.{Enter, Leave, Advance, Add, Look, Read, Write, Remove, Scan, Next, Begin, Finish, Cancel}
use Rattle.smc_schedule.specs.declared.verb.Verb.{Verb}
use Rattle.smc_schedule.specs.declared.verb.Verb.TheVariants as verb

-- what was found passes
find-passes : (test : Verb → Bool) (list : List Verb) (verb : Verb) → find test list ≡ Some verb → test verb ≡ true
find-passes test [] verb found = absurd cc
find-passes test (first ∷ list) verb found =
    elim (test first) as (λ b. test first ≡ b → cond b (Some first) (find test list) ≡ Some verb → test verb ≡ true) [
      | true ↦ λ is here. let same : verb ≡ first = cc in ap test same ∙ is
      | false ↦ λ is later. find-passes test list verb later
    ] refl found

-- the verb's word
word-read : (word : List ℕ) (verb : Verb) → verb_of word ≡ Some verb → word_of verb ≡ word
word-read word verb found = (bytes_eq-Decides (word_of verb) word).0 (find-passes (λ v. bytes_eq (word_of v) word) verbs verb found)

-- a call without arguments
plain-read : (width : ℕ) (word : List ℕ) (call read : StartCall) (words : List (List ℕ)) → SpellsCall width (word ∷ []) call → plain_of call words ≡ Some read
    → SpellsCall width (word ∷ words) read
plain-read width word call read [] spells is = let same : call ≡ read = cc in subst (λ (c : StartCall). SpellsCall width (word ∷ []) c) same spells
plain-read width word call read (other ∷ words) spells is = absurd cc

-- what came of two steps
pub followed : {A B : Type 0} (f : A → Option B) (o : Option A) (value : B) → option_and_then f o ≡ Some value → (x : A) × (o ≡ Some x) × (f x ≡ Some value)
followed f None value is = absurd cc
followed f (Some x) value is = (x, refl, is)

-- both tests were passed
both : (one other : Bool) → IsTrue (one && other) → IsTrue one × IsTrue other
both true other is = (refl, is)
both false other is = absurd cc

-- a test that was passed
chosen : {A : Type 0} (test : Bool) (some : Option A) (value : A) → (if test then some else None) ≡ Some value → IsTrue test × (some ≡ Some value)
chosen true some value is = (refl, is)
chosen false some value is = absurd cc

-- a value that was changed
pub changed : {A B : Type 0} (f : A → B) (o : Option A) (value : B) → option_map f o ≡ Some value → (x : A) × (o ≡ Some x) × (f x ≡ value)
changed f None value is = absurd cc
changed f (Some x) value is = (x, refl, cc)

-- the only word, which is a name
name-read : (words : List (List ℕ)) (name : List ℕ) → name_of words ≡ Some name → (words ≡ name ∷ []) × IsName name
name-read [] name is = absurd cc
name-read (word ∷ []) name is =
    let (named, here) = chosen (is_name word) (Some word) name is in
    let same : word ≡ name = cc in
    (ap (λ (w : List ℕ). w ∷ []) same, subst (λ (w : List ℕ). IsName w) same named)
name-read (word ∷ other ∷ words) name is = absurd cc

-- the arguments of read
read-read : (width : ℕ) (words : List (List ℕ)) (call : StartCall) → read_of words ≡ Some call → SpellsCall width (codes "read" ∷ words) call
read-read width [] call is = absurd cc
read-read width (name ∷ []) call is = absurd cc
read-read width (name ∷ field ∷ []) call is =
    let (named, rest) = chosen (is_name name) (option_map (λ f. Read name f) (index_of field)) call is in
    let (number, fits, same) = changed (λ f. Read name f) (index_of field) call rest in
    subst (λ (c : StartCall). SpellsCall width (codes "read" ∷ name ∷ field ∷ []) c) same (field, refl, named, fits)
read-read width (name ∷ field ∷ other ∷ words) call is = absurd cc

-- the arguments of write
write-read : (width : ℕ) (words : List (List ℕ)) (call : StartCall) → write_of words ≡ Some call → SpellsCall width (codes "write" ∷ words) call
write-read width [] call is = absurd cc
write-read width (name ∷ []) call is = absurd cc
write-read width (name ∷ field ∷ []) call is = absurd cc
write-read width (name ∷ field ∷ value ∷ []) call is =
    let (named, rest) = chosen (is_name name) (option_and_then (λ f. option_map (λ v. Write name f v) (value_of value)) (index_of field)) call is in
    let (number, fits, more) = followed (λ f. option_map (λ v. Write name f v) (value_of value)) (index_of field) call rest in
    let (amount, small, same) = changed (λ v. Write name number v) (value_of value) call more in
    subst (λ (c : StartCall). SpellsCall width (codes "write" ∷ name ∷ field ∷ value ∷ []) c) same (field, value, refl, named, fits, small)
write-read width (name ∷ field ∷ value ∷ other ∷ words) call is = absurd cc

-- the arguments of add
add-read : (width : ℕ) (words : List (List ℕ)) (call : StartCall) → add_of width words ≡ Some call → SpellsCall width (codes "add" ∷ words) call
add-read width [] call is = absurd cc
add-read width (name ∷ []) call is = absurd cc
add-read width (name ∷ from ∷ words) call is =
    let (number, fits, rest) = followed (λ f. option_and_then (λ values. added_of width name f values) (values_of words)) (index_of from) call is in
    let (values, spelled, more) = followed (λ values. added_of width name number values) (values_of words) call rest in
    let (tests, here) = chosen (is_name name && (length values == width)) (Some (Add name number values)) call more in
    let (named, many) = both (is_name name) (length values == width) tests in
    let same : Add name number values ≡ call = cc in
    let size : length values ≡ width = grind (arith, nat_tests) in
    subst (λ (c : StartCall). SpellsCall width (codes "add" ∷ name ∷ from ∷ words) c) same (from, words, refl, named, fits, spelled, size)

-- the words of a call that is read spell it
arguments-read : (width : ℕ) (v : Verb) (words : List (List ℕ)) (call : StartCall) → call_of width v words ≡ Some call → SpellsCall width (word_of v ∷ words) call
arguments-read width verb.Enter words call is = plain-read width (codes "enter") Enter call words refl is
arguments-read width verb.Leave words call is = plain-read width (codes "leave") Leave call words refl is
arguments-read width verb.Advance words call is = plain-read width (codes "advance") Advance call words refl is
arguments-read width verb.Add words call is = add-read width words call is
arguments-read width verb.Look words call is =
    let (name, has, same) = changed (λ name. Look name) (name_of words) call is in
    let (only, named) = name-read words name has in
    subst (λ (c : StartCall). SpellsCall width (codes "look" ∷ words) c) same (ap (λ (ws : List (List ℕ)). codes "look" ∷ ws) only, named)
arguments-read width verb.Read words call is = read-read width words call is
arguments-read width verb.Write words call is = write-read width words call is
arguments-read width verb.Remove words call is =
    let (name, has, same) = changed (λ name. Remove name) (name_of words) call is in
    let (only, named) = name-read words name has in
    subst (λ (c : StartCall). SpellsCall width (codes "remove" ∷ words) c) same (ap (λ (ws : List (List ℕ)). codes "remove" ∷ ws) only, named)
arguments-read width verb.Scan words call is = plain-read width (codes "scan") Scan call words refl is
arguments-read width verb.Next words call is = plain-read width (codes "next") Next call words refl is
arguments-read width verb.Begin words call is = plain-read width (codes "begin") Begin call words refl is
arguments-read width verb.Finish words call is = plain-read width (codes "finish") Finish call words refl is
arguments-read width verb.Cancel words call is = plain-read width (codes "cancel") Cancel call words refl is

-- a call that is read is spelled
pub call-read : (width : ℕ) (word : List ℕ) (words : List (List ℕ)) (call : StartCall) → call_from width word words ≡ Some call → SpellsCall width (word ∷ words) call
call-read width word words call is =
    let (v, found, rest) = followed (λ v. call_of width v words) (verb_of word) call is in
    subst (λ (w : List ℕ). SpellsCall width (w ∷ words) call) (word-read word v found) (arguments-read width v words call rest)

-- the last of some words
abbrev pub last_word : List (List ℕ) → List ℕ
last_word [] = []
last_word (word ∷ []) = word
last_word (word ∷ next ∷ words) = last_word (next ∷ words)

-- a mark is no number
no_value : (word : List ℕ) (value : ℕ) → value_of word ≡ Some value → word ≢ codes "!"
no_value word value is same = let none : value_of word ≡ None = ap value_of same in absurd cc

no_index : (word : List ℕ) (value : ℕ) → index_of word ≡ Some value → word ≢ codes "!"
no_index word value is same = let none : index_of word ≡ None = ap index_of same in absurd cc

-- a mark is no name
no_name : (word : List ℕ) → IsName word → word ≢ codes "!"
no_name word named same = let not_one : is_name word ≡ false = ap is_name same in absurd cc

-- values do not end in a mark
values-last : (word : List ℕ) (words : List (List ℕ)) (values : List ℕ) → word ≢ codes "!" → values_of words ≡ Some values → last_word (word ∷ words) ≢ codes "!"
values-last word [] values other is = other
values-last word (next ∷ words) values other is =
    let (value, fits, rest) = followed (λ value. option_map (λ values. value ∷ values) (values_of words)) (value_of next) values is in
    let (more, spelled, same) = changed (λ values. value ∷ values) (values_of words) values rest in
    values-last next words more (no_value next value fits) spelled

-- how words that spell a call are read
pub record IsReadCall (width : ℕ) (words : List (List ℕ)) (call : StartCall) : Type 0 where
  pub word : List ℕ
  pub arguments : List (List ℕ)
  pub parts : words ≡ word ∷ arguments
  pub reads : call_from width word arguments ≡ Some call
  pub no_dot : bytes_eq word (codes ".") ≡ false
  pub no_mark : last_word (word ∷ arguments) ≢ codes "!"

pub call-spelled : (width : ℕ) (words : List (List ℕ)) (call : StartCall) → SpellsCall width words call → IsReadCall width words call
call-spelled width words Enter is = record { word = codes "enter"; arguments = []; parts = is; reads = refl; no_dot = refl; no_mark = λ same. cc }
call-spelled width words Leave is = record { word = codes "leave"; arguments = []; parts = is; reads = refl; no_dot = refl; no_mark = λ same. cc }
call-spelled width words Advance is = record { word = codes "advance"; arguments = []; parts = is; reads = refl; no_dot = refl; no_mark = λ same. cc }
call-spelled width words (Add name from values) (f, vs, is, named, fits, spelled, size) =
    let many : (length values == width) ≡ true = eq-eqb (length values) width size in
    record {
      word = codes "add";
      arguments = name ∷ f ∷ vs;
      parts = is;
      reads = rw (fits, spelled, named, many) refl;
      no_dot = refl;
      no_mark = values-last f vs values (no_index f from fits) spelled;
    }
call-spelled width words (Look name) (is, named) =
    record { word = codes "look"; arguments = name ∷ []; parts = is; reads = rw named refl; no_dot = refl; no_mark = no_name name named }
call-spelled width words (Read name field) (f, is, named, fits) =
    record { word = codes "read"; arguments = name ∷ f ∷ []; parts = is; reads = rw (named, fits) refl; no_dot = refl; no_mark = no_index f field fits }
call-spelled width words (Write name field value) (f, v, is, named, fits, small) =
    record { word = codes "write"; arguments = name ∷ f ∷ v ∷ []; parts = is; reads = rw (named, fits, small) refl; no_dot = refl; no_mark = no_value v value small }
call-spelled width words (Remove name) (is, named) =
    record { word = codes "remove"; arguments = name ∷ []; parts = is; reads = rw named refl; no_dot = refl; no_mark = no_name name named }
call-spelled width words Scan is = record { word = codes "scan"; arguments = []; parts = is; reads = refl; no_dot = refl; no_mark = λ same. cc }
call-spelled width words Next is = record { word = codes "next"; arguments = []; parts = is; reads = refl; no_dot = refl; no_mark = λ same. cc }
call-spelled width words Begin is = record { word = codes "begin"; arguments = []; parts = is; reads = refl; no_dot = refl; no_mark = λ same. cc }
call-spelled width words Finish is = record { word = codes "finish"; arguments = []; parts = is; reads = refl; no_dot = refl; no_mark = λ same. cc }
call-spelled width words Cancel is = record { word = codes "cancel"; arguments = []; parts = is; reads = refl; no_dot = refl; no_mark = λ same. cc }
