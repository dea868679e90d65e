-- Parts that are run one behind another.
use Rattle.std.proofs.Common.{◌≡◌, ℕ, List, [], ◌∷◌, ◌++◌, refl, sym, subst, ap, ◌∙◌, append_assoc, append-nil}
use Rattle.smc_words.specs.declared.number.Number.{Number}
use Rattle.smc_trace.specs.Trace.{CallEnd}
use Rattle.smc_query.specs.Trees.{Word}
use Rattle.smc_types.specs.Tables.{the_tables}
use Rattle.smc_script.specs.Tables.{schema_of}
use Rattle.smc_script.specs.Sound.{EachCommand}
use Rattle.smc_script.specs.Trees.{PartTree, add, compact, delete, drop_fold, get, load, one, group, query, remove, set, stat, update}
use Rattle.smc_replies.specs.Books.{Books, KnowsSame, Named, object_of}
use Rattle.smc_replies.specs.Laws.{CommandIsOne, IsOnePart, OnePartMore, TellsLoad, TextIsOne}
use Rattle.smc_replies.specs.Objects.{GetsBy, OnObject, RemovesNamed, SetsBy}
use Rattle.smc_replies.specs.Scripts.{RunsPart, RunsParts}
use Rattle.smc_folds.specs.Kinds.{Kind}
use Rattle.smc_replies.specs.Queries.{AnswersQuery}
use Rattle.smc_replies.specs.Loads.{Scene}
use Rattle.smc_replies.specs.Commands.{objects_line, table_name}
use Rattle.smc_replies.proofs.Replied.{IsOneReply, part-of}
use Rattle.smc_replies.proofs.Fronts.{counts-one}
use Rattle.smc_replies.proofs.PackFronts.{packs-one}
use Rattle.smc_replies.proofs.LoadFronts.{loads-one}
use Rattle.smc_replies.proofs.EditFronts.{deletes-one, updates-one}
use Rattle.smc_replies.proofs.QueryFronts.{answers-one}
use Rattle.smc_replies.proofs.FoldFronts.{drops-one}
use Rattle.smc_replies.proofs.ObjectFronts.{DayHasOneText, adds-one, gets-one, on-object-one, removes-one, sets-one}

-- what is known before is known behind, where the command gives no name
known-kept : (old new before after : Books) → KnowsSame old before → new ≡ old → after ≡ before → KnowsSame new after
known-kept old new before after are kept again = record {
  names = ap (λ (b : Books). b.names) kept ∙ are.names ∙ ap (λ (b : Books). b.names) (sym again);
  folds = ap (λ (b : Books). b.folds) kept ∙ are.folds ∙ ap (λ (b : Books). b.folds) (sym again);
}

-- a command on the object of a name, by the same names
on-name-one : (names others : List Named) (coll : ℕ) (name : Word) (does : Number → List CallEnd → List ℕ → Type 0) (first other rest behind : List CallEnd) (text said : List ℕ)
    → ((number : Number) → does number first text → does number other said → IsOneReply rest behind text said) → names ≡ others
    → OnObject (object_of names coll name) does first text → OnObject (object_of others coll name) does other said → first ++ rest ≡ other ++ behind → IsOneReply rest behind text said
on-name-one names others coll name does first other rest behind text said each are runs again same =
    on-object-one (object_of others coll name) does first other rest behind text said each
    (subst (λ (x : List Named). OnObject (object_of x coll name) does first text) are runs) again same

pub command-one : DayHasOneText → CommandIsOne
command-one days scene (load place file) old new before after first other rest behind text said tells are runs again same =
    let read = loads-one scene.files (schema_of the_tables place.table) place file old new before after first other rest behind text said tells are runs again same in
    part-of new after first other rest behind text said same read.0 read.1
command-one days scene (stat place) old new before after first other rest behind text said tells are runs again same =
    part-of new after first other rest behind text said same (counts-one objects_line place.coll first other rest behind text said runs.1 again.1 same) (known-kept old new before after are runs.0 again.0)
command-one days scene (query place tree) old new before after first other rest behind text said tells are runs again same =
    let mine = subst (λ (k : List Kind). AnswersQuery scene.shape scene.folds place.coll tree k first text) are.folds runs.1 in
    part-of new after first other rest behind text said same (answers-one scene.shape scene.folds place.coll tree before.folds first other rest behind text said mine again.1 same) (known-kept old new before after are runs.0 again.0)
command-one days scene (compact place) old new before after first other rest behind text said tells are runs again same =
    part-of new after first other rest behind text said same (packs-one place first other rest behind text said runs.1 again.1 same) (known-kept old new before after are runs.0 again.0)
command-one days scene (add place name row) old new before after first other rest behind text said tells are runs again same =
    let read = adds-one (schema_of the_tables place.table) place name row old new before after first other rest behind text said are runs again same in
    part-of new after first other rest behind text said same read.0 read.1
command-one days scene (get place name) old new before after first other rest behind text said tells are runs again same =
    let schema = schema_of the_tables place.table in
    part-of new after first other rest behind text said same
    (on-name-one old.names before.names place.coll name (GetsBy schema) first other rest behind text said
    (λ number here there. gets-one days schema number first other rest behind text said here there same) are.names runs.1 again.1 same)
    (known-kept old new before after are runs.0 again.0)
command-one days scene (set place name column value) old new before after first other rest behind text said tells are runs again same =
    let schema = schema_of the_tables place.table in
    part-of new after first other rest behind text said same
    (on-name-one old.names before.names place.coll name (SetsBy schema column value) first other rest behind text said
    (λ number here there. sets-one schema column value number first other rest behind text said here there same) are.names runs.1 again.1 same)
    (known-kept old new before after are runs.0 again.0)
command-one days scene (remove place name) old new before after first other rest behind text said tells are runs again same =
    part-of new after first other rest behind text said same
    (on-name-one old.names before.names place.coll name RemovesNamed first other rest behind text said
    (λ number here there. removes-one number first other rest behind text said here there same) are.names runs.1 again.1 same)
    (known-kept old new before after are runs.0 again.0)
command-one days scene (delete place filter) old new before after first other rest behind text said tells are runs again same =
    part-of new after first other rest behind text said same (deletes-one scene.shape (table_name place.table) place.coll filter first other rest behind text said runs.1 again.1 same)
    (known-kept old new before after are runs.0 again.0)
command-one days scene (update place column value filter) old new before after first other rest behind text said tells are runs again same =
    part-of new after first other rest behind text said same
    (updates-one scene.shape (table_name place.table) place.coll column value filter first other rest behind text said runs.1 again.1 same)
    (known-kept old new before after are runs.0 again.0)
command-one days scene (drop_fold name) old new before after first other rest behind text said tells are runs again same =
    let read = drops-one name old new before after first other rest behind text said are runs again same in
    part-of new after first other rest behind text said same read.0 read.1

pub part-one : DayHasOneText → (scene : Scene) (part : PartTree) (old new before after : Books) (first other rest behind : List CallEnd) (text said : List ℕ) → EachCommand (TellsLoad scene) part
    → KnowsSame old before → RunsPart scene part old new first text → RunsPart scene part before after other said → first ++ rest ≡ other ++ behind
    → IsOnePart new after first other rest behind text said
part-one days scene (one numbered) old new before after first other rest behind text said tells are runs again same =
    command-one days scene numbered.command old new before after first other rest behind text said tells are runs again same
part-one days scene (group workers) old new before after first other rest behind text said tells are runs again same = absurd runs

-- nothing was run
pub runs-none : (scene : Scene) (books : Books) → RunsParts scene [] books books [] []
runs-none scene books = (refl, refl, refl)

-- the calls of parts may be given by an equal list
pub runs-same : (scene : Scene) (parts : List PartTree) (old new : Books) (calls others : List CallEnd) (text : List ℕ) → calls ≡ others → RunsParts scene parts old new calls text
    → RunsParts scene parts old new others text
runs-same scene parts old new calls others text is runs = subst (λ (x : List CallEnd). RunsParts scene parts old new x text) is runs

-- a front of two lists, and what is behind it
joined : {A : Type 0} (whole front back more : List A) → whole ≡ front ++ back → whole ++ more ≡ front ++ (back ++ more)
joined whole front back more is = ap (λ x. x ++ more) is ∙ append_assoc front back more

pub one-more : OnePartMore
one-more scene [] part old middle new before calls text said runs more = (
  new,
  calls,
  [],
  said,
  [],
  subst (λ (b : Books). RunsPart scene part b new calls said) runs.0 more,
  (refl, refl, refl),
  ap (λ (x : List CallEnd). x ++ calls) runs.1 ∙ sym (append-nil calls),
  ap (λ (x : List ℕ). x ++ said) runs.2 ∙ sym (append-nil said),
)
one-more scene (p ∷ ps) part old middle new before calls text said runs more = (
  runs.0,
  runs.1,
  runs.2 ++ calls,
  runs.3,
  runs.4 ++ said,
  runs.5,
  one-more scene ps part runs.0 middle new runs.2 calls runs.4 said runs.6 more,
  joined before runs.1 runs.2 calls runs.7,
  joined text runs.3 runs.4 said runs.8,
)

pub text-one : DayHasOneText → TextIsOne
text-one days scene [] old new before after calls text said tells are runs again = runs.2 ∙ sym again.2
text-one days scene (part ∷ later) old new before after calls text said tells are runs again =
    let same = part-one days scene part old runs.0 before again.0 runs.1 again.1 runs.2 again.2 runs.3 again.3 tells.0 are runs.5 again.5 (sym runs.7 ∙ again.7) in
    let moved : RunsParts scene later again.0 after runs.2 again.4 = runs-same scene later again.0 after again.2 runs.2 again.4 (sym same.later) again.6 in
    let behind : runs.4 ≡ again.4 = text-one days scene later runs.0 new again.0 after runs.2 runs.4 again.4 tells.1 same.known runs.6 moved in
    runs.8 ∙ ap (λ (x : List ℕ). x ++ runs.4) same.reply ∙ ap (λ (x : List ℕ). again.3 ++ x) behind ∙ sym again.8
