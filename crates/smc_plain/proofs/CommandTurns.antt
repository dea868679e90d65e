-- What commands come to on a plain map.
use Rattle.std.proofs.Common.{◌≡◌, ℕ, List, sym, subst, ap, ◌∙◌}
use Rattle.smc_words.specs.declared.number.Number.{Number}
use Rattle.smc_model.specs.World.{World, count_of, world_through}
use Rattle.smc_trace.specs.Trace.{CallEnd, events_in}
use Rattle.smc_query.specs.Trees.{Word}
use Rattle.smc_types.specs.Tables.{the_tables}
use Rattle.smc_folds.specs.Kinds.{Kind, without_first}
use Rattle.smc_exec.specs.Plans.{QueriesCanRun}
use Rattle.smc_script.specs.Tables.{schema_of}
use Rattle.smc_script.specs.Trees.{load, add, compact, delete, drop_fold, get, query, remove, set, stat, update}
use Rattle.smc_replies.specs.Books.{Books, KnowsSame, Named, object_of}
use Rattle.smc_replies.specs.Commands.{objects_line}
use Rattle.smc_replies.specs.Objects.{OnObject, RemovesNamed, SetsBy}
use Rattle.smc_plain.specs.Laws.{ShownArePlain}
use Rattle.smc_plain.proofs.ObjectTurns.{remove-turn, same-turn, set-turn}
use Rattle.smc_plain.proofs.QueryTurns.{AnswersBag, query-turn}
use Rattle.smc_plain.proofs.StatTurns.{stat-count, stat-world}

-- nothing new is known
stays : (mine old new : Books) → KnowsSame mine old → new ≡ old → KnowsSame mine new
stays mine old new known is = subst (λ (b : Books). KnowsSame mine b) (sym is) known

-- the object of a name is the same by both
by-name : (does : Number → List CallEnd → List ℕ → Type 0) (coll : ℕ) (name : Word) (calls : List CallEnd) (text : List ℕ) (mine old : Books) → KnowsSame mine old
    → OnObject (object_of old.names coll name) does calls text → OnObject (object_of mine.names coll name) does calls text
by-name does coll name calls text mine old known runs = subst (λ (names : List Named). OnObject (object_of names coll name) does calls text) (sym known.names) runs

pub shown-plain : AnswersBag → QueriesCanRun → ShownArePlain
shown-plain bag sound reader scene (stat place) plain old new calls text last shown before at ended known runs replay once = record {
  left = plain.books;
  known = stays plain.books old new known runs.0;
  turn = same-turn plain plain.world (world_through plain.world (events_in calls)) (objects_line (count_of plain.world place.coll)) text
      (sym (stat-world place.coll runs.1.count calls runs.1.counts plain.world))
      (ap (λ (w : World). objects_line (count_of w place.coll)) at
      ∙ ap objects_line (sym (stat-count place.coll runs.1.count calls runs.1.counts before ended once)) ∙ sym runs.1.reply);
}
shown-plain bag sound reader scene (query place tree) plain old new calls text last shown before at ended known runs replay once = record {
  left = plain.books;
  known = stays plain.books old new known runs.0;
  turn = query-turn scene place tree old.folds calls text runs.1 bag sound plain last before at ended known.folds replay once;
}
shown-plain bag sound reader scene (set place name column value) plain old new calls text last shown before at ended known runs replay once = record {
  left = plain.books;
  known = stays plain.books old new known runs.0;
  turn = set-turn plain (schema_of the_tables place.table) column value (object_of plain.books.names place.coll name) calls text last
      (by-name (SetsBy (schema_of the_tables place.table) column value) place.coll name calls text plain.books old known runs.1) replay;
}
shown-plain bag sound reader scene (remove place name) plain old new calls text last shown before at ended known runs replay once = record {
  left = plain.books;
  known = stays plain.books old new known runs.0;
  turn = remove-turn plain (object_of plain.books.names place.coll name) calls text last (by-name RemovesNamed place.coll name calls text plain.books old known runs.1) replay;
}
shown-plain bag sound reader scene (drop_fold name) plain old new calls text last shown before at ended known runs replay once =
    let left : Books = record plain.books { folds = without_first plain.books.folds name } in record {
      left = left;
      known = record { names = known.names ∙ sym runs.names; folds = ap (λ (kinds : List Kind). without_first kinds name) known.folds ∙ sym runs.folds };
      turn = same-turn (record plain { books = left }) plain.world (world_through plain.world (events_in calls)) _ text
          (ap (λ (cs : List CallEnd). world_through plain.world (events_in cs)) (sym runs.none)) (sym runs.reply);
    }
shown-plain bag sound reader scene (load place file) plain old new calls text last shown before at ended known runs replay once = absurd shown
shown-plain bag sound reader scene (add place name row) plain old new calls text last shown before at ended known runs replay once = absurd shown
shown-plain bag sound reader scene (get place name) plain old new calls text last shown before at ended known runs replay once = absurd shown
shown-plain bag sound reader scene (compact place) plain old new calls text last shown before at ended known runs replay once = absurd shown
shown-plain bag sound reader scene (delete place filter) plain old new calls text last shown before at ended known runs replay once = absurd shown
shown-plain bag sound reader scene (update place column value filter) plain old new calls text last shown before at ended known runs replay once = absurd shown
