-- What a worker does is read off from the front of its trace.
use Rattle.std.proofs.Common.{◌≡◌, ℕ, Option, Some, None, List, [], ◌∷◌, ◌++◌, Ok, Err, refl, sym, ap, ◌∙◌, append_assoc}
use Rattle.std.proofs.lemmas.List.{append_cancel_right}
use Rattle.smc_words.specs.declared.number.Number.{Number}
use Rattle.smc_compact.specs.declared.outcome.Outcome.{Outcome}
use Rattle.smc_compact.proofs.OneLaws.{drives-front}
use Rattle.smc_trace.specs.Named.{learns, notes}
use Rattle.smc_trace.specs.Trace.{CallEnd}
use Rattle.smc_query.specs.Trees.{Word}
use Rattle.smc_types.specs.Tables.{the_tables}
use Rattle.smc_types.specs.declared.row.Value.{Value}
use Rattle.smc_types.specs.declared.schema.Schema.{Schema}
use Rattle.smc_script.specs.Tables.{schema_of}
use Rattle.smc_script.specs.Trees.{CommandTree, NumberedTree, add, compact, delete, drop_fold, get, load, query, remove, set, stat, update}
use Rattle.smc_script.specs.declared.script.Place.{Place}
use Rattle.smc_load.specs.Loading.{Entries}
use Rattle.smc_replies.specs.Books.{Books, KnowsSame, Named}
use Rattle.smc_replies.specs.Commands.{RunsCommand, reply_by}
use Rattle.smc_replies.specs.Laws.{TellsLoad, WorkerIsOne}
use Rattle.smc_replies.specs.Loads.{Scene}
use Rattle.smc_replies.specs.Objects.{add_line, words_of}
use Rattle.smc_replies.specs.Workers.{AddsBesideBy, AddsOrNot, DrivesTable, Worked, WorksCommand, WorksCommands, added_as, books_beside, names_given}
use Rattle.smc_replies.specs.declared.added.Added.{Added}
use Rattle.smc_replies.specs.declared.limits.TheConstants.{COMPACT_TURNS}
use Rattle.smc_visits.proofs.FrontLaws.{later-calls}
use Rattle.smc_replies.proofs.ObjectFronts.{DayHasOneText, rows-front}
use Rattle.smc_replies.proofs.PartLaws.{command-one}
use Rattle.smc_replies.proofs.Replied.{IsOneReply}

-- ---- add

objects-one : (schema : Schema) (coll : ℕ) (keys others : Entries) (words : List ℕ) (a b : Option Number) (first other rest behind : List CallEnd)
    → AddsOrNot a schema coll keys words first → AddsOrNot b schema coll others words other → first ++ rest ≡ other ++ behind → (a ≡ b) × (rest ≡ behind)
objects-one schema coll keys others words (Some n) (Some m) first other rest behind one two same =
    let read = rows-front _ _ _ _ (Ok n) (Ok m) first other rest behind one.adds two.adds same in
    (ap (λ (x : Number). Some x) read.0, read.1)
objects-one schema coll keys others words None None first other rest behind one two same =
    let read = rows-front _ _ _ _ (Err one.cause) (Err two.cause) first other rest behind one.adds two.adds same in
    (refl, read.1)
objects-one schema coll keys others words (Some n) None first other rest behind one two same =
    absurd (rows-front _ _ _ _ (Ok n) (Err two.cause) first other rest behind one.adds two.adds same).0
objects-one schema coll keys others words None (Some m) first other rest behind one two same =
    absurd (rows-front _ _ _ _ (Err one.cause) (Ok m) first other rest behind one.adds two.adds same).0

added-one : (by : Option Schema) (keys others : Entries) (place : Place) (name : Word) (row : List Value) (given new before after : List Added) (first other rest behind : List CallEnd) (text said : List ℕ)
    → given ≡ before → AddsBesideBy by keys place name row given new first text → AddsBesideBy by others place name row before after other said → first ++ rest ≡ other ++ behind
    → IsOneReply rest behind text said × (new ≡ after)
added-one None keys others place name row given new before after first other rest behind text said are one two same = absurd one
added-one (Some schema) keys others place name row given new before after first other rest behind text said are one two same =
    let words = words_of schema row in
    let read = objects-one schema place.coll keys others words one.object two.object first other rest behind one.adds two.adds same in (
      (read.1, one.reply ∙ ap (λ (o : Option Number). add_line o name) read.0 ∙ sym two.reply),
      one.kept ∙ ap (λ (g : List Added). g ++ added_as one.object schema place name words ∷ []) are
          ∙ ap (λ (o : Option Number). before ++ added_as o schema place name words ∷ []) read.0 ∙ sym two.kept,
    )

-- ---- commands

driven-one : (place : Place) (first other rest behind : List CallEnd) (text said : List ℕ) → DrivesTable place first text → DrivesTable place other said → first ++ rest ≡ other ++ behind
    → IsOneReply rest behind text said
driven-one place first other rest behind text said one two same =
    let read = drives-front place.coll COMPACT_TURNS one.outcome two.outcome first other rest behind one.drives two.drives same in
    (read.1, one.reply ∙ ap (λ (o : Outcome). reply_by o _) read.0 ∙ sym two.reply)

-- what workers know that have added the same, where the same was known
same-beside : (known others : Books) (given before : List Added) → KnowsSame known others → given ≡ before → KnowsSame (books_beside known given) (books_beside others before)
same-beside known others given before are was = record {
  names = ap (λ (g : List Added). names_given g ++ known.names) was ∙ ap (λ (ns : List Named). names_given before ++ ns) are.names;
  folds = refl;
}

-- a command that adds nothing
steady-one : DayHasOneText → (scene : Scene) (c : CommandTree) (known others : Books) (given new before after : List Added) (first other rest behind : List CallEnd) (text said : List ℕ) → TellsLoad scene c
    → KnowsSame known others → given ≡ before → (new ≡ given) × RunsCommand scene c (books_beside known given) (books_beside known given) first text
    → (after ≡ before) × RunsCommand scene c (books_beside others before) (books_beside others before) other said → first ++ rest ≡ other ++ behind → IsOneReply rest behind text said × (new ≡ after)
steady-one days scene c known others given new before after first other rest behind text said tells are was one two same =
    let mine = books_beside known given in
    let theirs = books_beside others before in
    let read = command-one days scene c mine mine theirs theirs first other rest behind text said tells (same-beside known others given before are was) one.1 two.1 same in
    ((read.later, read.reply), one.0 ∙ was ∙ sym two.0)

work-one : DayHasOneText → (scene : Scene) (c : CommandTree) (known others : Books) (given new before after : List Added) (first other rest behind : List CallEnd) (text said : List ℕ)
    → KnowsSame known others → given ≡ before → WorksCommand scene known c given new first text → WorksCommand scene others c before after other said → first ++ rest ≡ other ++ behind
    → IsOneReply rest behind text said × (new ≡ after)
work-one days scene (load place file) known others given new before after first other rest behind text said are was one two same = absurd one
work-one days scene (drop_fold name) known others given new before after first other rest behind text said are was one two same = absurd one
work-one days scene (add place name row) known others given new before after first other rest behind text said are was one two same =
    added-one (schema_of the_tables place.table) known.keys others.keys place name row given new before after first other rest behind text said was one two same
work-one days scene (compact place) known others given new before after first other rest behind text said are was one two same =
    (driven-one place first other rest behind text said one.1 two.1 same, one.0 ∙ was ∙ sym two.0)
work-one days scene (stat place) known others given new before after first other rest behind text said are was one two same =
    steady-one days scene (stat place) known others given new before after first other rest behind text said tt are was one two same
work-one days scene (query place tree) known others given new before after first other rest behind text said are was one two same =
    steady-one days scene (query place tree) known others given new before after first other rest behind text said tt are was one two same
work-one days scene (get place name) known others given new before after first other rest behind text said are was one two same =
    steady-one days scene (get place name) known others given new before after first other rest behind text said tt are was one two same
work-one days scene (set place name column value) known others given new before after first other rest behind text said are was one two same =
    steady-one days scene (set place name column value) known others given new before after first other rest behind text said tt are was one two same
work-one days scene (remove place name) known others given new before after first other rest behind text said are was one two same =
    steady-one days scene (remove place name) known others given new before after first other rest behind text said tt are was one two same
work-one days scene (delete place filter) known others given new before after first other rest behind text said are was one two same =
    steady-one days scene (delete place filter) known others given new before after first other rest behind text said tt are was one two same
work-one days scene (update place column value filter) known others given new before after first other rest behind text said are was one two same =
    steady-one days scene (update place column value filter) known others given new before after first other rest behind text said tt are was one two same

-- the parts of two fronts, with what is behind them
flat : (whole one two more : List CallEnd) → whole ≡ one ++ two → whole ++ more ≡ one ++ (two ++ more)
flat whole one two more is = ap (λ (x : List CallEnd). x ++ more) is ∙ append_assoc one two more

works-one : DayHasOneText → (scene : Scene) (commands : List NumberedTree) (known others : Books) (given new before after : List Added) (first other rest behind : List CallEnd) (replies said : List (List ℕ))
    → KnowsSame known others → given ≡ before → WorksCommands scene known commands given new first replies → WorksCommands scene others commands before after other said → first ++ rest ≡ other ++ behind
    → (rest ≡ behind) × (replies ≡ said) × (new ≡ after)
works-one days scene [] known others given new before after first other rest behind replies said are was one two same =
    (sym (ap (λ (x : List CallEnd). x ++ rest) one.1) ∙ same ∙ ap (λ (x : List CallEnd). x ++ behind) two.1, one.2 ∙ sym two.2, one.0 ∙ was ∙ sym two.0)
works-one days scene (c ∷ cs) known others given new before after first other rest behind replies said are was one two same =
    let front = sym (flat first one.1 one.2 rest one.7) ∙ same ∙ flat other two.1 two.2 behind two.7 in
    let head = work-one days scene c.command known others given one.0 before two.0 one.1 two.1 (one.2 ++ rest) (two.2 ++ behind) one.3 two.3 are was one.5 two.5 front in
    let tail = works-one days scene cs known others one.0 new two.0 after one.2 two.2 rest behind one.4 two.4 are head.1 one.6 two.6 head.0.0 in
    (tail.0, one.8 ∙ ap (λ (x : List ℕ). x ∷ one.4) head.0.1 ∙ ap (λ (xs : List (List ℕ)). two.3 ∷ xs) tail.1 ∙ sym two.8, tail.2)

-- ---- a worker

same-worked : (a b : Worked) → a.before ≡ b.before → a.calls ≡ b.calls → a.added ≡ b.added → a.replies ≡ b.replies → a ≡ b
same-worked a b before calls added replies =
    ap (λ (x : List CallEnd). let w : Worked = record { before = x; calls = a.calls; added = a.added; replies = a.replies } in w) before
    ∙ ap (λ (x : List CallEnd). let w : Worked = record { before = b.before; calls = x; added = a.added; replies = a.replies } in w) calls
    ∙ ap (λ (x : List Added). let w : Worked = record { before = b.before; calls = b.calls; added = x; replies = a.replies } in w) added
    ∙ ap (λ (x : List (List ℕ)). let w : Worked = record { before = b.before; calls = b.calls; added = b.added; replies = x } in w) replies

pub worker-one : DayHasOneText → WorkerIsOne
worker-one days scene known others told also commands one two rest behind are began a b same =
    let learnt = sym (flat one.calls (learns 0 told) (a.made ++ notes a.note) rest a.are) ∙ same ∙ flat two.calls (learns 0 also) (b.made ++ notes b.note) behind b.are in
    let front = sym (append_assoc a.made (notes a.note) rest) ∙ later-calls _ _ _ _ learnt ∙ append_assoc b.made (notes b.note) behind in
    let read = works-one days scene commands known others [] one.added [] two.added a.made b.made (notes a.note ++ rest) (notes b.note ++ behind) one.replies two.replies are refl a.works b.works front in
    let later : rest ≡ behind = later-calls _ _ _ _ read.0 in
    let calls = append_cancel_right one.calls two.calls rest (same ∙ ap (λ (x : List CallEnd). two.calls ++ x) (sym later)) in
    (same-worked one two began calls read.2 read.1, later)
