use Rattle.std.proofs.Common.{◌≡◌, ℕ, List, Some, None, Result, Ok, Err, refl, sym, subst, ap, ◌∙◌}
use Rattle.smc_words.specs.declared.number.Number.{Number}
use Rattle.smc_types.specs.Tables.{the_tables}
use Rattle.smc_types.specs.declared.catalog.Catalog.{Catalog}
use Rattle.smc_types.specs.declared.schema.Schema.{Schema}
use Rattle.smc_load.specs.Loading.{RowEnds}
use Rattle.smc_load.specs.declared.rows.RowFault.{RowFault}
use Rattle.smc_load.specs.declared.rows.RowFault.TheVariants.{Full}
use Rattle.smc_script.specs.Tables.{schema_of}
use Rattle.smc_replies.specs.Books.{Books}
use Rattle.smc_desk.proofs.ObjectLaws.{adds-done, adds-full}
use Rattle.smc_desk.proofs.objects.add.Goals as goal

pub returns-in-Ok-answer-clause-done : goal.returns-in-Ok-answer-clause-done
returns-in-Ok-answer-clause-done c kinds =
    let schema : Schema = c.in-Some.schema.now in
    let keys = c.args.books.now.keys in
    let now : Books = record { names = c.name_object.new.names; keys = c.load_row-pass.new.keys; folds = kinds } in
    let known : Books = record { names = c.args.books.now.names; keys = keys; folds = kinds } in
    let number = c.in-Ok-answer.number in
    let words = c.in-Ok.words.items in
    let last = c.load_row-pass.result.0 in
    let by = subst (λ (k : Catalog). schema_of k c.args.place.table ≡ Some schema) c.requires.tables (sym c.in-Some.ensures.schema) in
    let ends = subst (λ (r : Result Number RowFault). RowEnds r schema c.args.place.table c.args.place.coll keys c.load_row-pass.new.keys words c.args.pass last) c.in-Ok-answer.is c.load_row-pass.ensures in
    adds-done (schema_of the_tables c.args.place.table) schema c.args.place c.args.name.now c.args.row.now words known now c.args.pass last number c.name_object.result
    by c.in-Ok.ensures ends c.name_object.ensures.names refl c.name_object.ensures.reply

pub returns-in-Err-Full-clause-done : goal.returns-in-Err-Full-clause-done
returns-in-Err-Full-clause-done c kinds =
    let schema : Schema = c.in-Some.schema.now in
    let keys = c.args.books.now.keys in
    let now : Books = record { names = c.name_object-in-Err-Full.new.names; keys = c.load_row-pass.new.keys; folds = kinds } in
    let known : Books = record { names = c.args.books.now.names; keys = keys; folds = kinds } in
    let words = c.in-Ok.words.items in
    let last = c.load_row-pass.result.0 in
    let by = subst (λ (k : Catalog). schema_of k c.args.place.table ≡ Some schema) c.requires.tables (sym c.in-Some.ensures.schema) in
    let full : c.in-Err-Full.field-0 ≡ Full = rw c.in-Err-Full.is at c.in-Err-Full.field-0-is in
    let refused = c.in-Err-Full.is ∙ ap (λ (f : RowFault). Err f) full in
    let ends = subst (λ (r : Result Number RowFault). RowEnds r schema c.args.place.table c.args.place.coll keys c.load_row-pass.new.keys words c.args.pass last) refused c.load_row-pass.ensures in
    adds-full (schema_of the_tables c.args.place.table) schema c.args.place c.args.name.now c.args.row.now words known now c.args.pass last c.name_object-in-Err-Full.result
    by c.in-Ok.ensures ends c.name_object-in-Err-Full.ensures.names refl c.name_object-in-Err-Full.ensures.reply
