-- What a query answers over the rows of a world.
use Rattle.std.proofs.Common.{◌≡◌, ℕ, ◌+◌, List, [], ◌∷◌, ◌++◌, refl, sym, subst, ap, ◌∙◌, Option}
use Rattle.std.specs.Prelude.{⊤, IsPermutation, flat_map, option_to_list, Result}
use Rattle.std.specs.List.{AllByRecursion}
use Rattle.smc_words.specs.declared.number.Number.{Number}
use Rattle.smc_words.specs.Number.{number_cmp}
use Rattle.smc_words.proofs.NumberLaws.{exact_numbers, numbers_total}
use Rattle.smc_shape.specs.Layout.{Layout}
use Rattle.smc_model.specs.declared.event.Event.{Event}
use Rattle.smc_model.specs.declared.event.Event.TheVariants.{Look, Read}
use Rattle.smc_model.specs.World.{World, Replay, IsAllowed, empty_world, world_through}
use Rattle.smc_model.specs.Scans.{ScansOnce}
use Rattle.smc_still.specs.Still.{AreEnded, IsCalm, numbers_in, numbers_visited}
use Rattle.smc_trace.specs.Trace.{CallEnd, events_in}
use Rattle.smc_trace.proofs.TraceSteps.{events_in-append}
use Rattle.smc_objects.specs.Alone.{reads_all}
use Rattle.smc_folds.specs.Kinds.{Kind}
use Rattle.smc_query.specs.Trees.{QueryTree}
use Rattle.smc_types.specs.Tables.{the_tables}
use Rattle.smc_plan.specs.Kinds.{IsPlan}
use Rattle.smc_plan.specs.Planned.{Planned}
use Rattle.smc_plan.specs.declared.fault.PlanFault.{PlanFault}
use Rattle.smc_plan.specs.declared.leaf.Hop.{Hop}
use Rattle.smc_plan.specs.declared.leaf.Leaf.{Leaf}
use Rattle.smc_meaning.specs.Answers.{answer_of}
use Rattle.smc_meaning.specs.Printed.{answer_text}
use Rattle.smc_visits.specs.Rows.{Follows, ReadsLeaf, RowOfVisit, arrives, wrong_width, meets_null, misses, goes_on, comes_to_none, wrong_table, reads_column, has_all, drops, reads_on}
use Rattle.smc_visits.specs.Still.{row_in}
use Rattle.smc_visits.specs.Visits.{IsVisit, Visited, rows_in, visit_calls}
use Rattle.smc_visits.proofs.StillLaws.{row-read}
use Rattle.smc_exec.specs.Plans.{QueriesCanRun}
use Rattle.smc_exec.specs.Queries.{AnswersRows}
use Rattle.smc_script.specs.declared.script.Place.{Place}
use Rattle.smc_replies.specs.Loads.{Scene}
use Rattle.smc_replies.specs.Queries.{AnswersQuery, query_plan}
use Rattle.smc_plain.specs.Plain.{Plain, answer_by, replies}
use Rattle.smc_plain.specs.Rows.{query_text, rows_of}
use Rattle.smc_plain.proofs.ObjectTurns.{same-turn}
use Rattle.smc_plain.proofs.Scanned.{scan-allowed, scan-visits, scan-world}
use Rattle.smc_plain.proofs.Spread.{spread-same}

-- the answer does not tell in which order the rows came
abbrev pub AnswersBag : Type 0
AnswersBag = (plan : Planned) (kinds : List Kind) (rows others : List (List ℕ)) → IsPlan plan.leaves plan → IsPermutation rows others → answer_of plan kinds others ≡ answer_of plan kinds rows

-- ---- reading

-- the event reads, and visits nothing
abbrev IsReading : Event → Type 0
IsReading (Look number here) = ⊤
IsReading (Read number field value) = ⊤
IsReading event = ⊥

abbrev AreReading : List CallEnd → Type 0
AreReading calls = AllByRecursion IsReading (events_in calls)

all-both : (P : Event → Type 0) (xs ys : List Event) → AllByRecursion P xs → AllByRecursion P ys → AllByRecursion P (xs ++ ys)
all-both P [] ys a b = b
all-both P (x ∷ xs) ys a b = (a.0, all-both P xs ys a.1 b)

-- calls behind one another
all-calls : (P : Event → Type 0) (first rest : List CallEnd) → AllByRecursion P (events_in first) → AllByRecursion P (events_in rest) → AllByRecursion P (events_in (first ++ rest))
all-calls P first rest a b = subst (AllByRecursion P) (sym (events_in-append first rest)) (all-both P (events_in first) (events_in rest) a b)

follows-reading : {shape : Layout} {number : Number} {hops : List Hop} {last : Option Number} {calls : List CallEnd} → Follows shape number hops last calls → AreReading calls
follows-reading arrives = tt
follows-reading (wrong_width not) = tt
follows-reading (meets_null width null) = (tt, tt)
follows-reading (misses width refers) = (tt, (tt, tt))
follows-reading (goes_on width refers follows) = (tt, (tt, follows-reading follows))

words-reading : (number : Number) (field : ℕ) (words : List ℕ) → AreReading (reads_all number field words)
words-reading number field [] = tt
words-reading number field (word ∷ later) = (tt, words-reading number (field + 1) later)

leaf-reading : {shape : Layout} {number : Number} {leaf : Leaf} {words : Option (List ℕ)} {calls : List CallEnd} → ReadsLeaf shape number leaf words calls → AreReading calls
leaf-reading (comes_to_none follows) = follows-reading follows
leaf-reading (wrong_table follows not) = follows-reading follows
leaf-reading (reads_column {shape} {number} {last} {leaf} {words} {calls} follows width long) =
    all-calls IsReading calls (reads_all last leaf.at words) (follows-reading follows) (words-reading last leaf.at words)

row-reading : {shape : Layout} {number : Number} {leaves : List Leaf} {row : Option (List ℕ)} {calls : List CallEnd} → RowOfVisit shape number leaves row calls → AreReading calls
row-reading has_all = tt
row-reading (drops reads) = leaf-reading reads
row-reading (reads_on {shape} {number} {leaf} {later} words {row} {calls} {rest} reads more) = all-calls IsReading calls rest (leaf-reading reads) (row-reading more)

-- reading is calm in each scan
one-calm : (scan : ℕ) (event : Event) → IsReading event → IsCalm scan event
one-calm scan (Look number here) reading = tt
one-calm scan (Read number field value) reading = tt
one-calm scan _ reading = absurd reading

reading-calm : (scan : ℕ) (events : List Event) → AllByRecursion IsReading events → AllByRecursion (IsCalm scan) events
reading-calm scan [] reading = tt
reading-calm scan (event ∷ events) reading = (one-calm scan event reading.0, reading-calm scan events reading.1)

-- and visits nothing
reading-visits : (events later : List Event) → AllByRecursion IsReading events → numbers_visited (events ++ later) ≡ numbers_visited later
reading-visits [] later reading = refl
reading-visits (Look number here ∷ events) later reading = reading-visits events later reading.1
reading-visits (Read number field value ∷ events) later reading = reading-visits events later reading.1
reading-visits (_ ∷ events) later reading = absurd reading.0

-- ---- visits

module _ (shape : Layout) (leaves : List Leaf) (scan : ℕ) where
  abbrev visited : List Visited → List CallEnd
  visited visits = flat_map (visit_calls scan) visits

  pub visits-calm : (visits : List Visited) → AllByRecursion (IsVisit shape leaves) visits → AllByRecursion (IsCalm scan) (events_in (visited visits))
  visits-calm [] each = tt
  visits-calm (visit ∷ later) each =
      (refl, all-calls (IsCalm scan) visit.calls (visited later) (reading-calm scan (events_in visit.calls) (row-reading each.0)) (visits-calm later each.1))

  all-front : (P : Event → Type 0) (xs ys : List Event) → AllByRecursion P (xs ++ ys) → AllByRecursion P xs
  all-front P [] ys all = tt
  all-front P (x ∷ xs) ys all = (all.0, all-front P xs ys all.1)

  all-back : (P : Event → Type 0) (xs ys : List Event) → AllByRecursion P (xs ++ ys) → AllByRecursion P ys
  all-back P [] ys all = all
  all-back P (x ∷ xs) ys all = all-back P xs ys all.1

  -- the row that the world has of an object
  abbrev row_of : World → Number → List (List ℕ)
  row_of world number = option_to_list (row_in shape world leaves number)

  -- the rows that are read in a world are those that it has of the numbers that are visited
  pub rows-visited : (world : World) (visits : List Visited) → AllByRecursion (IsVisit shape leaves) visits → AllByRecursion (IsAllowed world) (events_in (visited visits))
      → rows_in visits ≡ flat_map (row_of world) (numbers_visited (events_in (visited visits)))
  rows-visited world [] each allowed = refl
  rows-visited world (visit ∷ later) each allowed =
      let both = subst (AllByRecursion (IsAllowed world)) (events_in-append visit.calls (visited later)) allowed.1 in
      let row : row_in shape world leaves visit.held.number ≡ visit.row = row-read world each.0 (all-front (IsAllowed world) (events_in visit.calls) (events_in (visited later)) both) in
      let rest = rows-visited world later each.1 (all-back (IsAllowed world) (events_in visit.calls) (events_in (visited later)) both) in
      let numbers : numbers_visited (events_in (visit.calls ++ visited later)) ≡ numbers_visited (events_in (visited later)) =
      ap numbers_visited (events_in-append visit.calls (visited later)) ∙ reading-visits (events_in visit.calls) (events_in (visited later)) (row-reading each.0) in
      ap (λ (rows : List (List ℕ)). option_to_list visit.row ++ rows) rest
      ∙ ap (λ (o : Option (List ℕ)). option_to_list o ++ flat_map (row_of world) (numbers_visited (events_in (visited later)))) (sym row)
      ∙ ap (λ (ns : List Number). row_of world visit.held.number ++ flat_map (row_of world) ns) (sym numbers)

-- ---- queries

module _ (scene : Scene) (place : Place) (tree : QueryTree) (kinds : List Kind) (calls : List CallEnd) (text : List ℕ)
    (runs : AnswersQuery scene.shape scene.folds place.coll tree kinds calls text) where
  abbrev plan : Planned
  plan = runs.plan

  abbrev answers : AnswersRows scene.shape place.coll plan kinds text runs.answers.inner
  answers = runs.answers.holds

  abbrev scan : ℕ
  scan = answers.reads.scans.scan

  abbrev visits : List Visited
  visits = answers.reads.visits

  abbrev between : List CallEnd
  between = flat_map (visit_calls scan) visits

  calm : AllByRecursion (IsCalm scan) (events_in between)
  calm = visits-calm scene.shape plan.leaves scan visits answers.reads.scans.each

  query-world : (world : World) → world_through world (events_in calls) ≡ world
  query-world = scan-world place.coll scan calls between runs.answers answers.reads.scans.made calm

  -- the rows are those of the world, in some order
  rows-same : (plain : Plain) (last : World) (before : List Event) → plain.world ≡ world_through empty_world before → AreEnded before → Replay plain.world (events_in calls) last
      → ScansOnce empty_world (before ++ events_in calls) → IsPermutation answers.rows (rows_of scene.shape plain.world place.coll plan.leaves)
  rows-same plain last before at ended replay once =
      let allowed = scan-allowed place.coll scan calls between runs.answers answers.reads.scans.made calm plain.world last replay in
      let read : answers.rows ≡ flat_map (row_of scene.shape plan.leaves scan plain.world) (numbers_visited (events_in between)) =
      answers.reads.rows_are ∙ rows-visited scene.shape plan.leaves scan plain.world visits answers.reads.scans.each allowed in
      let numbers : IsPermutation (numbers_visited (events_in between)) (numbers_in plain.world place.coll) =
      subst (λ (w : World). IsPermutation (numbers_visited (events_in between)) (numbers_in w place.coll)) (sym at)
      (scan-visits place.coll scan calls between runs.answers answers.reads.scans.made calm before ended once) in
      subst (λ (rows : List (List ℕ)). IsPermutation rows (rows_of scene.shape plain.world place.coll plan.leaves)) (sym read)
      (spread-same number_cmp numbers_total exact_numbers (row_of scene.shape plan.leaves scan plain.world) (numbers_visited (events_in between)) (numbers_in plain.world place.coll) numbers)

  pub query-turn : AnswersBag → QueriesCanRun → (plain : Plain) (last : World) (before : List Event) → plain.world ≡ world_through empty_world before → AreEnded before → plain.books.folds ≡ kinds
      → Replay plain.world (events_in calls) last → ScansOnce empty_world (before ++ events_in calls)
      → answer_by scene place (query_plan scene.folds tree) plain ≡ replies (record plain { world = world_through plain.world (events_in calls) }) text
  query-turn bag sound plain last before at ended known replay once =
      let rows = rows_of scene.shape plain.world place.coll plan.leaves in
      let typed : IsPlan plan.leaves plan = (sound plan (record { catalog = the_tables; folds = scene.folds; query = tree; is = runs.planned })).typed in
      let same : answer_of plan plain.books.folds rows ≡ answer_of plan kinds answers.rows =
      ap (λ (ks : List Kind). answer_of plan ks rows) known ∙ bag plan kinds answers.rows rows typed (rows-same plain last before at ended replay once) in
      ap (λ (r : Result Planned PlanFault). answer_by scene place r plain) runs.planned
      ∙ same-turn plain plain.world (world_through plain.world (events_in calls)) (query_text scene.shape plain.world place.coll plan plain.books.folds) text
      (sym (query-world plain.world)) (ap answer_text same ∙ sym answers.text_is)
