-- The calls of a load are read off from the front of a trace, where its file is told.
use Rattle.std.proofs.Common.{◌≡◌, ℕ, Option, Some, None, List, [], ◌∷◌, ◌++◌, length, Ok, refl, sym, ap, ◌∙◌, append_assoc, append-nil, arith}
use Rattle.std.specs.Prelude.{IfNone}
use Rattle.std.specs.List.{AllZip}
use Rattle.std.specs.Str.Lines.{strip_carriage_return}
use Rattle.smc_trace.specs.Trace.{CallEnd}
use Rattle.smc_query.specs.Trees.{Word}
use Rattle.smc_types.specs.declared.schema.Schema.{Schema}
use Rattle.smc_tbl.specs.TableText.{lines}
use Rattle.smc_tbl.specs.Words.{SpellsWords}
use Rattle.smc_script.specs.declared.script.Place.{Place}
use Rattle.smc_load.specs.Files.{LoadsFound, Told}
use Rattle.smc_load.specs.Loading.{Entries}
use Rattle.smc_load.specs.Texts.{BeginsWith, LoadsRows}
use Rattle.smc_replies.specs.Books.{Books, KnowsSame}
use Rattle.smc_replies.specs.Loads.{LoadsBy, loaded_line}
use Rattle.smc_replies.proofs.Replied.{IsOneReply}
use Rattle.smc_replies.proofs.ObjectFronts.{given, rows-front}

-- ---- how many rows

-- rows that are spelled by lines are as many as these
as-many : (schema : Schema) (taken rows : List (List ℕ)) → AllZip (λ line words. SpellsWords schema (strip_carriage_return line) words) taken rows → length taken ≡ length rows
as-many schema [] [] spelled = refl
as-many schema (line ∷ taken) (words ∷ rows) spelled = let later = as-many schema taken rows spelled.1 in omega (arith, later)
as-many schema [] (words ∷ rows) spelled = absurd spelled
as-many schema (line ∷ taken) [] spelled = absurd spelled

-- so those of a whole text are as many as its lines
rows-of : (schema : Schema) (rows : List (List ℕ)) (text : List ℕ) → BeginsWith schema rows [] text → length (lines text) ≡ length rows
rows-of schema rows text begins = ap length (begins.parts ∙ append-nil begins.taken) ∙ as-many schema begins.taken rows begins.spelled

-- a file is told once
one-file : (a b : List ℕ) (file : Option (List ℕ)) → file ≡ Some a → file ≡ Some b → a ≡ b
one-file a b file is also = cc

-- ---- the rows

-- as many rows at one front have made the same calls
many-front : (schema : Schema) (table coll : ℕ) (rows others : List (List ℕ)) (a b c d : Entries) (first other rest behind : List CallEnd) → length rows ≡ length others
    → LoadsRows schema table coll a b rows first → LoadsRows schema table coll c d others other → first ++ rest ≡ other ++ behind → rest ≡ behind
many-front schema table coll [] [] a b c d first other rest behind many one two same = given [] [] first other rest behind one.1 two.1 same
many-front schema table coll (words ∷ rows) (said ∷ others) a b c d first other rest behind many one two same =
    let flat = sym (append_assoc one.1 one.2 rest) ∙ given (one.1 ++ one.2) (two.1 ++ two.2) first other rest behind one.5 two.5 same ∙ append_assoc two.1 two.2 behind in
    let row = rows-front coll coll _ _ (Ok one.3.number) (Ok two.3.number) one.1 two.1 (one.2 ++ rest) (two.2 ++ behind) one.3.adds two.3.adds flat in
    many-front schema table coll rows others one.0 b two.0 d one.2 two.2 rest behind (omega (arith, many)) one.4 two.4 row.1
many-front schema table coll [] (said ∷ others) a b c d first other rest behind many one two same = absurd (omega (arith, many))
many-front schema table coll (words ∷ rows) [] a b c d first other rest behind many one two same = absurd (omega (arith, many))

-- two loads of one file at one front: they have counted the same
found-front : (files : List (List ℕ × List ℕ)) (file : Word) (schema : Schema) (table coll count number : ℕ) (a b c d : Entries) (first other rest behind : List CallEnd)
    → LoadsFound (Ok count) (Some files) file schema table coll a b first → LoadsFound (Ok number) (Some files) file schema table coll c d other → first ++ rest ≡ other ++ behind
    → (count ≡ number) × (rest ≡ behind)
found-front files file schema table coll count number a b c d first other rest behind one two same =
    let text : one.0 ≡ two.0 = one-file one.0 two.0 _ one.1 two.1 in
    let rows = one.2.rows in
    let others = two.2.rows in
    let many : length rows ≡ length others = sym (rows-of schema rows one.0 one.2.are.1.0) ∙ ap (λ (x : List ℕ). length (lines x)) text ∙ rows-of schema others two.0 two.2.are.1.0 in
    (one.2.are.0 ∙ many ∙ sym two.2.are.0, many-front schema table coll rows others a b c d first other rest behind many one.2.loads two.2.loads same)

pub loads-one : (told : Told) (by : Option Schema) (place : Place) (file : Word) (old new before after : Books) (first other rest behind : List CallEnd) (text said : List ℕ)
    → IfNone told ⊥ → KnowsSame old before → LoadsBy by told place file old new first text → LoadsBy by told place file before after other said → first ++ rest ≡ other ++ behind
    → IsOneReply rest behind text said × KnowsSame new after
loads-one None by place file old new before after first other rest behind text said tells are one two same = absurd tells
loads-one (Some files) None place file old new before after first other rest behind text said tells are one two same = absurd one
loads-one (Some files) (Some schema) place file old new before after first other rest behind text said tells are one two same =
    let read = found-front files file schema place.table place.coll one.count two.count old.keys new.keys before.keys after.keys first other rest behind one.loads two.loads same in (
      (read.1, one.reply ∙ ap (loaded_line schema.name) read.0 ∙ sym two.reply),
      record { names = one.same.names ∙ are.names ∙ sym two.same.names; folds = one.same.folds ∙ are.folds ∙ sym two.same.folds },
    )
