-- The calls of a command on one object are read off from the front of a trace.
use Rattle.std.proofs.Common.{◌≡◌, ℕ, ◌+◌, ℤ, Bool, true, false, Option, Some, None, List, [], ◌∷◌, ◌++◌, Result, Ok, Err, IsOk, inl, inr, refl, sym, subst, ap, ◌∙◌, append_assoc}
use Rattle.std.specs.Prelude.{⊤, if◌then◌else◌}
use Rattle.smc_words.specs.declared.number.Number.{Number}
use Rattle.smc_model.specs.declared.event.Cause.{Cause}
use Rattle.smc_model.specs.declared.event.Event.TheVariants as event
use Rattle.smc_core.specs.declared.done.Done.TheVariants as done
use Rattle.smc_trace.specs.Named.{enters, leaves, looks}
use Rattle.smc_trace.specs.Trace.{CallEnd}
use Rattle.smc_objects.specs.declared.adding.Full.{Full}
use Rattle.smc_objects.specs.Alone.{AddsRow, AdvancesThrice, InSection, ReadsObject, RemovesObject, SetsField, TriesAdd, TriesTwice, reads_all}
use Rattle.smc_objects.specs.Fulls.{adds}
use Rattle.smc_query.specs.Trees.{Word}
use Rattle.smc_types.specs.declared.column.Column.{Column}
use Rattle.smc_types.specs.declared.column.FieldType.{FieldType}
use Rattle.smc_types.specs.declared.column.FieldType.TheVariants.{Count, Amount, Rate, Day, Text}
use Rattle.smc_types.specs.declared.row.Value.{Value}
use Rattle.smc_types.specs.declared.row.Value.TheVariants.{Number as OfNumber, Day as OfDay, Text as OfText}
use Rattle.smc_types.specs.declared.schema.Schema.{Schema}
use Rattle.smc_types.specs.Days.{SpellsDay}
use Rattle.smc_types.specs.Columns.{value_kinds}
use Rattle.smc_types.specs.Rows.{row_of}
use Rattle.smc_visits.proofs.FrontLaws.{first-done, first-event, later-calls, null-is-not-here, one-value}
use Rattle.smc_tbl.specs.Printed.{PrintsRow, PrintsValue}
use Rattle.smc_tbl.specs.declared.bytes.TheConstants.{BAR}
use Rattle.smc_script.specs.declared.script.Place.{Place}
use Rattle.smc_replies.specs.Books.{Books, KnowsSame, Named, with_name}
use Rattle.smc_replies.specs.Objects.{AddsBy, GetsBy, OnObject, PrintsObject, RemovesNamed, SetsBy, found_line}
use Rattle.smc_replies.proofs.Replied.{IsOneReply}

-- ---- one call and the next

-- two fronts may be given by equal lists
pub given : (s t first other rest behind : List CallEnd) → first ≡ s → other ≡ t → first ++ rest ≡ other ++ behind → s ++ rest ≡ t ++ behind
given s t first other rest behind a b same = sym (ap (λ (x : List CallEnd). x ++ rest) a) ∙ same ∙ ap (λ (x : List CallEnd). x ++ behind) b

-- what stands behind the enter of two sections
pub inner-front : {P Q : List CallEnd → Type 0} (first other rest behind : List CallEnd) (one : InSection P first) (two : InSection Q other) → first ++ rest ≡ other ++ behind
    → one.inner ++ (leaves ++ rest) ≡ two.inner ++ (leaves ++ behind)
inner-front first other rest behind one two same =
    let flat = given (enters one.epoch ++ (one.inner ++ leaves)) (enters two.epoch ++ (two.inner ++ leaves)) first other rest behind one.made two.made same in
    sym (append_assoc one.inner leaves rest) ∙ later-calls _ _ _ _ flat ∙ append_assoc two.inner leaves behind

value-is-not-out : (value : ℕ) → done.Value value ≡ done.Out → ⊥
value-is-not-out value is = cc

made-is-not-full : (slot : ℕ) (cause : Cause) → done.Made slot ≡ done.Full cause → ⊥
made-is-not-full slot cause is = cc

first-is-not-late : done.First ≡ done.Late → ⊥
first-is-not-late is = cc

one-added : (a b : Number) (c d : ℕ) (v w : List ℕ) → Some (event.Add a c v) ≡ Some (event.Add b d w) → a ≡ b
one-added a b c d v w is = cc

-- ---- reads

-- the words of two reads at one front are the same, where each ends with its section
words-front : (n m : Number) (field place : ℕ) (words said : List ℕ) (rest behind : List CallEnd)
    → reads_all n field words ++ (leaves ++ rest) ≡ reads_all m place said ++ (leaves ++ behind) → (words ≡ said) × (rest ≡ behind)
words-front n m field place [] [] rest behind same = (refl, later-calls _ _ _ _ same)
words-front n m field place [] (v ∷ said) rest behind same = absurd (value-is-not-out v (sym (first-done _ _ _ _ same)))
words-front n m field place (w ∷ words) [] rest behind same = absurd (value-is-not-out w (first-done _ _ _ _ same))
words-front n m field place (w ∷ words) (v ∷ said) rest behind same =
    let one : w ≡ v = one-value w v (first-done _ _ _ _ same) in
    let later : (words ≡ said) × (rest ≡ behind) = words-front n m (field + 1) (place + 1) words said rest behind (later-calls _ _ _ _ same) in
    (ap (λ (x : ℕ). x ∷ words) one ∙ ap (λ (x : List ℕ). v ∷ x) later.0, later.1)

-- two readings at one front: whether the object was here, and what it was
abbrev pub IsOneReading : Bool → List ℕ → Bool → List ℕ → Type 0
IsOneReading true words true said = words ≡ said
IsOneReading false words false said = ⊤
IsOneReading _ words _ said = ⊥

reads-front : (n m : Number) (found here : Bool) (words said : List ℕ) (s t rest behind : List CallEnd) → ReadsObject n found words s → ReadsObject m here said t
    → s ++ (leaves ++ rest) ≡ t ++ (leaves ++ behind) → IsOneReading found words here said × (rest ≡ behind)
reads-front n m false false words said s t rest behind a b same =
    let flat = given (looks n None) (looks m None) s t (leaves ++ rest) (leaves ++ behind) a b same in
    (tt, later-calls _ _ _ _ (later-calls _ _ _ _ flat))
reads-front n m false true words said s t rest behind a b same =
    let flat = given (looks n None) (looks m (Some b.0) ++ reads_all m 0 said) s t (leaves ++ rest) (leaves ++ behind) a b.1 same in
    absurd (null-is-not-here b.0 (first-done _ _ _ _ flat))
reads-front n m true false words said s t rest behind a b same =
    let flat = given (looks n (Some a.0) ++ reads_all n 0 words) (looks m None) s t (leaves ++ rest) (leaves ++ behind) a.1 b same in
    absurd (null-is-not-here a.0 (sym (first-done _ _ _ _ flat)))
reads-front n m true true words said s t rest behind a b same =
    let flat = given (looks n (Some a.0) ++ reads_all n 0 words) (looks m (Some b.0) ++ reads_all m 0 said) s t (leaves ++ rest) (leaves ++ behind) a.1 b.1 same in
    words-front n m 0 0 words said rest behind (later-calls _ _ _ _ flat)

-- ---- one text of a row

-- a day is said by one text alone
abbrev pub DayHasOneText : Type 0
DayHasOneText = (a b : List ℕ) (day : ℤ) → SpellsDay a day → SpellsDay b day → a ≡ b

one-printed : DayHasOneText → (kind : FieldType) (value : Value) (a b : List ℕ) → PrintsValue kind value a → PrintsValue kind value b → a ≡ b
one-printed days Count (OfNumber count) a b one two = one ∙ sym two
one-printed days Amount (OfNumber amount) a b one two = one ∙ sym two
one-printed days Rate (OfNumber rate) a b one two = one ∙ sym two
one-printed days Day (OfDay day) a b one two = days a b day one two
one-printed days (Text width) (OfText bytes) a b one two = one ∙ sym two
one-printed days _ _ a b one two = absurd one

one-row : DayHasOneText → (kinds : List FieldType) (row : List Value) (a b : List ℕ) → PrintsRow kinds row a → PrintsRow kinds row b → a ≡ b
one-row days [] [] a b one two = one ∙ sym two
one-row days (kind ∷ kinds) (value ∷ values) a b one two =
    let field = one-printed days kind value one.0 two.0 one.3 two.3 in
    let later = one-row days kinds values one.1 two.1 one.4 two.4 in
    one.2 ∙ ap (λ (x : List ℕ). x ++ BAR ∷ one.1) field ∙ ap (λ (x : List ℕ). two.0 ++ BAR ∷ x) later ∙ sym two.2
one-row days [] (value ∷ values) a b one two = absurd one
one-row days (kind ∷ kinds) [] a b one two = absurd one

one-object : DayHasOneText → (columns : List Column) (found here : Bool) (words said text reply : List ℕ) → IsOneReading found words here said → PrintsObject columns found words text
    → PrintsObject columns here said reply → text ≡ reply
one-object days columns true true words said text reply is one two =
    let line = one-row days (value_kinds columns) (row_of columns said) one.0 two.0 (subst (λ (w : List ℕ). PrintsRow (value_kinds columns) (row_of columns w) one.0) is one.1) two.1 in
    one.2 ∙ ap (λ (x : List ℕ). x ++ _) line ∙ sym two.2
one-object days columns false false words said text reply is one two = one ∙ sym two
one-object days columns true false words said text reply is one two = absurd is
one-object days columns false true words said text reply is one two = absurd is

pub gets-one : DayHasOneText → (schema : Option Schema) (number : Number) (first other rest behind : List CallEnd) (text said : List ℕ) → GetsBy schema number first text → GetsBy schema number other said
    → first ++ rest ≡ other ++ behind → IsOneReply rest behind text said
gets-one days None number first other rest behind text said one two same = absurd one
gets-one days (Some schema) number first other rest behind text said one two same =
    let read = reads-front number number one.found two.found one.words two.words one.reads.inner two.reads.inner rest behind one.reads.holds two.reads.holds
    (inner-front first other rest behind one.reads two.reads same) in
    (read.1, one-object days schema.columns one.found two.found one.words two.words text said read.0 one.reply two.reply)

-- ---- writes

sets-front : (n m : Number) (f g v w : ℕ) (found here : Bool) (s t rest behind : List CallEnd) → SetsField n f v found s → SetsField m g w here t
    → s ++ (leaves ++ rest) ≡ t ++ (leaves ++ behind) → (found ≡ here) × (rest ≡ behind)
sets-front n m f g v w false false s t rest behind a b same =
    let flat = given (looks n None) (looks m None) s t (leaves ++ rest) (leaves ++ behind) a b same in
    (refl, later-calls _ _ _ _ (later-calls _ _ _ _ flat))
sets-front n m f g v w false true s t rest behind a b same =
    let flat = given (looks n None) (looks m (Some b.0) ++ _) s t (leaves ++ rest) (leaves ++ behind) a b.1 same in
    absurd (null-is-not-here b.0 (first-done _ _ _ _ flat))
sets-front n m f g v w true false s t rest behind a b same =
    let flat = given (looks n (Some a.0) ++ _) (looks m None) s t (leaves ++ rest) (leaves ++ behind) a.1 b same in
    absurd (null-is-not-here a.0 (sym (first-done _ _ _ _ flat)))
sets-front n m f g v w true true s t rest behind a b same =
    let flat = given (looks n (Some a.0) ++ _) (looks m (Some b.0) ++ _) s t (leaves ++ rest) (leaves ++ behind) a.1 b.1 same in
    (refl, later-calls _ _ _ _ (later-calls _ _ _ _ (later-calls _ _ _ _ flat)))

pub sets-one : (schema : Option Schema) (name : Word) (value : Value) (number : Number) (first other rest behind : List CallEnd) (text said : List ℕ)
    → SetsBy schema name value number first text → SetsBy schema name value number other said → first ++ rest ≡ other ++ behind → IsOneReply rest behind text said
sets-one None name value number first other rest behind text said one two same = absurd one
sets-one (Some schema) name value number first other rest behind text said one two same =
    let read = sets-front number number _ _ one.word two.word one.found two.found one.sets.inner two.sets.inner rest behind one.sets.holds two.sets.holds
    (inner-front first other rest behind one.sets two.sets same) in
    (read.1, one.reply ∙ ap (λ (found : Bool). found_line found _) read.0 ∙ sym two.reply)

-- ---- removes

one-gone : (gone here : Bool) → (if gone then done.First else done.Late) ≡ (if here then done.First else done.Late) → gone ≡ here
one-gone true true is = refl
one-gone true false is = absurd (first-is-not-late is)
one-gone false true is = absurd (first-is-not-late (sym is))
one-gone false false is = refl

removes-front : (n m : Number) (gone here : Bool) (s t rest behind : List CallEnd) → RemovesObject n gone s → RemovesObject m here t
    → s ++ (leaves ++ rest) ≡ t ++ (leaves ++ behind) → (gone ≡ here) × (rest ≡ behind)
removes-front n m gone here s t rest behind (inl a) (inl b) same =
    let flat = given (looks n None) (looks m None) s t (leaves ++ rest) (leaves ++ behind) a.1 b.1 same in
    (a.0 ∙ sym b.0, later-calls _ _ _ _ (later-calls _ _ _ _ flat))
removes-front n m gone here s t rest behind (inl a) (inr b) same =
    let flat = given (looks n None) (looks m (Some b.0) ++ _) s t (leaves ++ rest) (leaves ++ behind) a.1 b.1 same in
    absurd (null-is-not-here b.0 (first-done _ _ _ _ flat))
removes-front n m gone here s t rest behind (inr a) (inl b) same =
    let flat = given (looks n (Some a.0) ++ _) (looks m None) s t (leaves ++ rest) (leaves ++ behind) a.1 b.1 same in
    absurd (null-is-not-here a.0 (sym (first-done _ _ _ _ flat)))
removes-front n m gone here s t rest behind (inr a) (inr b) same =
    let flat = given (looks n (Some a.0) ++ _) (looks m (Some b.0) ++ _) s t (leaves ++ rest) (leaves ++ behind) a.1 b.1 same in
    let later = later-calls _ _ _ _ flat in
    (one-gone gone here (first-done _ _ _ _ later), later-calls _ _ _ _ (later-calls _ _ _ _ later))

pub removes-one : (number : Number) (first other rest behind : List CallEnd) (text said : List ℕ) → RemovesNamed number first text → RemovesNamed number other said
    → first ++ rest ≡ other ++ behind → IsOneReply rest behind text said
removes-one number first other rest behind text said one two same =
    let read = removes-front number number one.gone two.gone one.removes.inner two.removes.inner rest behind one.removes.holds two.removes.holds
    (inner-front first other rest behind one.removes two.removes same) in
    (read.1, one.reply ∙ ap (λ (gone : Bool). found_line gone _) read.0 ∙ sym two.reply)

-- ---- names

-- a command on a name that has no object makes no call
pub on-object-one : (object : Option Number) (does : Number → List CallEnd → List ℕ → Type 0) (first other rest behind : List CallEnd) (text said : List ℕ)
    → ((number : Number) → does number first text → does number other said → IsOneReply rest behind text said)
    → OnObject object does first text → OnObject object does other said → first ++ rest ≡ other ++ behind → IsOneReply rest behind text said
on-object-one None does first other rest behind text said each one two same = (given [] [] first other rest behind one.0 two.0 same, one.1 ∙ sym two.1)
on-object-one (Some number) does first other rest behind text said each one two same = each number one two

-- ---- adds

-- two answers to a row that was to be added are the same object, or that there is no room
abbrev pub IsOneAnswer : Result Number Full → Result Number Full → Type 0
IsOneAnswer (Ok number) (Ok other) = number ≡ other
IsOneAnswer (Err cause) (Err other) = ⊤
IsOneAnswer _ _ = ⊥

adds-front : (c d : ℕ) (words said : List ℕ) (a b : Result Number Full) (slot place : ℕ) (rest behind : List CallEnd)
    → adds c words a slot ++ (leaves ++ rest) ≡ adds d said b place ++ (leaves ++ behind) → IsOneAnswer a b × (rest ≡ behind)
adds-front c d words said (Ok number) (Ok other) slot place rest behind same =
    (one-added number other _ _ words said (first-event _ _ _ _ same), later-calls _ _ _ _ (later-calls _ _ _ _ same))
adds-front c d words said (Ok number) (Err cause) slot place rest behind same = absurd (made-is-not-full slot _ (first-done _ _ _ _ same))
adds-front c d words said (Err cause) (Ok other) slot place rest behind same = absurd (made-is-not-full place _ (sym (first-done _ _ _ _ same)))
adds-front c d words said (Err cause) (Err other) slot place rest behind same = (tt, later-calls _ _ _ _ (later-calls _ _ _ _ same))

try-front : (c d : ℕ) (words said : List ℕ) (a b : Result Number Full) (first other rest behind : List CallEnd)
    → InSection (TriesAdd c words a) first → InSection (TriesAdd d said b) other → first ++ rest ≡ other ++ behind → IsOneAnswer a b × (rest ≡ behind)
try-front c d words said a b first other rest behind one two same =
    adds-front c d words said a b one.holds.0 two.holds.0 rest behind
    (given (adds c words a one.holds.0) (adds d said b two.holds.0) one.inner two.inner (leaves ++ rest) (leaves ++ behind) one.holds.1 two.holds.1 (inner-front first other rest behind one two same))

wait-front : (first other rest behind : List CallEnd) → AdvancesThrice first → AdvancesThrice other → first ++ rest ≡ other ++ behind → rest ≡ behind
wait-front first other rest behind one two same =
    let flat = given _ _ first other rest behind one.made two.made same in
    later-calls _ _ _ _ (later-calls _ _ _ _ (later-calls _ _ _ _ flat))

-- the parts of two tries, with what is behind them
parts : (once wait again first rest : List CallEnd) → first ≡ once ++ (wait ++ again) → first ++ rest ≡ once ++ (wait ++ (again ++ rest))
parts once wait again first rest made =
    ap (λ (x : List CallEnd). x ++ rest) made ∙ append_assoc once (wait ++ again) rest ∙ ap (λ (x : List CallEnd). once ++ x) (append_assoc wait again rest)

-- one that was refused is no one that was added
not-added : (a : Result Number Full) (cause : Full) → IsOk a → IsOneAnswer a (Err cause) → ⊥
not-added (Ok number) cause ok one = one
not-added (Err other) cause ok one = absurd cc

twice-front : (c d : ℕ) (words said : List ℕ) (a b : Result Number Full) (first other rest behind : List CallEnd)
    → TriesTwice c words a first → TriesTwice d said b other → first ++ rest ≡ other ++ behind → IsOneAnswer a b × (rest ≡ behind)
twice-front c d words said a b first other rest behind one two same =
    let flat = sym (parts one.once one.wait one.again first rest one.made) ∙ same ∙ parts two.once two.wait two.again other behind two.made in
    let once = try-front c d words said (Err one.cause) (Err two.cause) one.once two.once (one.wait ++ (one.again ++ rest)) (two.wait ++ (two.again ++ behind)) one.refused two.refused flat in
    let wait = wait-front one.wait two.wait (one.again ++ rest) (two.again ++ behind) one.waits two.waits once.1 in
    try-front c d words said a b one.again two.again rest behind one.tries two.tries wait

pub rows-front : (c d : ℕ) (words said : List ℕ) (a b : Result Number Full) (first other rest behind : List CallEnd)
    → AddsRow c words a first → AddsRow d said b other → first ++ rest ≡ other ++ behind → IsOneAnswer a b × (rest ≡ behind)
rows-front c d words said a b first other rest behind (inl one) (inl two) same = try-front c d words said a b first other rest behind one.1 two.1 same
rows-front c d words said a b first other rest behind (inr one) (inr two) same = twice-front c d words said a b first other rest behind one two same
rows-front c d words said a b first other rest behind (inl one) (inr two) same =
    let flat = same ∙ parts two.once two.wait two.again other behind two.made in
    absurd (not-added a two.cause one.0 (try-front c d words said a (Err two.cause) first two.once rest (two.wait ++ (two.again ++ behind)) one.1 two.refused flat).0)
rows-front c d words said a b first other rest behind (inr one) (inl two) same =
    let flat = sym same ∙ parts one.once one.wait one.again first rest one.made in
    absurd (not-added b one.cause two.0 (try-front d c said words b (Err one.cause) other one.once behind (one.wait ++ (one.again ++ rest)) two.1 one.refused flat).0)

-- the names with one more are the same where the names are, and what stands under it
same-names : (name : Word) (a b : Option Number) (names others new after : List Named) → names ≡ others → a ≡ b → new ≡ with_name name a names → after ≡ with_name name b others → new ≡ after
same-names name a b names others new after are is one two =
    one ∙ ap (λ (x : Option Number). with_name name x names) is ∙ ap (λ (x : List Named). with_name name b x) are ∙ sym two

pub adds-one : (schema : Option Schema) (place : Place) (name : Word) (row : List Value) (old new before after : Books) (first other rest behind : List CallEnd) (text said : List ℕ)
    → KnowsSame old before → AddsBy schema place name row old new first text → AddsBy schema place name row before after other said → first ++ rest ≡ other ++ behind
    → IsOneReply rest behind text said × KnowsSame new after
adds-one None place name row old new before after first other rest behind text said are one two same = absurd one
adds-one (Some schema) place name row old new before after first other rest behind text said are (inl one) (inl two) same =
    let read = rows-front _ _ _ _ (Ok one.loads.number) (Ok two.loads.number) first other rest behind one.loads.adds two.loads.adds same in (
      (read.1, one.reply ∙ sym two.reply),
      record {
        names = same-names name (Some one.loads.number) (Some two.loads.number) old.names before.names new.names after.names are.names (ap (λ (n : Number). Some n) read.0) one.names two.names;
        folds = one.folds ∙ are.folds ∙ sym two.folds;
      },
    )
adds-one (Some schema) place name row old new before after first other rest behind text said are (inr one) (inr two) same =
    let read = rows-front _ _ _ _ (Err one.refuses.cause) (Err two.refuses.cause) first other rest behind one.refuses.adds two.refuses.adds same in (
      (read.1, one.reply ∙ sym two.reply),
      record { names = same-names name None None old.names before.names new.names after.names are.names refl one.names two.names; folds = one.folds ∙ are.folds ∙ sym two.folds },
    )
adds-one (Some schema) place name row old new before after first other rest behind text said are (inl one) (inr two) same =
    absurd (rows-front _ _ _ _ (Ok one.loads.number) (Err two.refuses.cause) first other rest behind one.loads.adds two.refuses.adds same).0
adds-one (Some schema) place name row old new before after first other rest behind text said are (inr one) (inl two) same =
    absurd (rows-front _ _ _ _ (Err one.refuses.cause) (Ok two.loads.number) first other rest behind one.refuses.adds two.loads.adds same).0
