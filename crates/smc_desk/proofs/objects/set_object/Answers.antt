use Rattle.std.proofs.Common.{◌≡◌, ◌<◌, true, ℕ, List, [], ◌∷◌, Some, sym, subst, ap, ◌∙◌, arith}
use Rattle.std.specs.Prelude.{slice_get}
use Rattle.smc_shape.specs.Layout.{Layout, width_of}
use Rattle.smc_does.specs.Does.{DoesSome}
use Rattle.smc_objects.specs.Alone.{InSection, SetsField}
use Rattle.smc_types.specs.Tables.{the_tables}
use Rattle.smc_types.specs.declared.catalog.Catalog.{Catalog}
use Rattle.smc_types.specs.declared.column.Column.{Column}
use Rattle.smc_types.specs.declared.column.FieldType.{FieldType}
use Rattle.smc_types.specs.declared.schema.Schema.{Schema}
use Rattle.smc_types.specs.Columns.{columns_width}
use Rattle.smc_types.specs.Records.{value_words}
use Rattle.smc_load.specs.Loading.{place_of}
use Rattle.smc_script.specs.Tables.{column_at, is_editable, schema_of}
use Rattle.smc_desk.proofs.ColumnLaws.{column-there, field-within, kind-there, one-schema, one-word}
use Rattle.smc_desk.proofs.ObjectLaws.{sets-done}
use Rattle.smc_desk.proofs.objects.set_object.Goals as goal

pub set_one-pass-requires-clause-field : goal.set_one-pass-requires-clause-field
set_one-pass-requires-clause-field c =
    let schema : Schema = c.in-Some.schema.now in
    let columns = schema.columns in
    let at = c.in-Some-column_at.at in
    let column : Column = c.index-columns-at.result in
    let known = c.as_slice-columns.ensures.columns in
    let by = subst (λ (k : Catalog). schema_of k c.args.place.table ≡ Some schema) c.requires.tables (sym c.in-Some.ensures.schema) in
    let named = sym (c.in-Some-column_at.ensures.place ∙ ap (λ (k : List Column). column_at k c.as_str.result.now) known ∙ ap (λ (k : List ℕ). column_at columns k) c.as_str.ensures) in
    let there = subst (λ (k : List Column). slice_get k at ≡ Some column) known (column-there c.as_slice-columns.result.now at column c.in-Some-column_at.ensures.within c.index-columns-at.is) in
    let is = c.place_of.ensures ∙ ap (λ (k : List Column). place_of k at) known in
    let kind = kind-there (schema_of the_tables c.args.place.table) schema c.args.column.now c.requires.value.kind at column by c.requires.value.is named there in
    let one = one-word column.kind (subst (λ (k : FieldType). is_editable k ≡ true) (sym kind) c.requires.value.writes) in
    let field = field-within columns at column there one in
    let shape = c.args.region.now.about.shape in
    let same = one-schema (schema_of the_tables c.args.place.table) c.requires.table.schema schema c.requires.table.is by in
    let wide = subst (λ (s : Schema). columns_width s.columns ≡ width_of shape c.args.place.coll) same c.requires.table.width in
    let right : columns_width columns ≡ width_of c.args.pass.shape c.args.number.coll =
    wide ∙ ap (λ (k : Layout). width_of k c.args.place.coll) (sym c.requires.here.1) ∙ ap (λ (k : ℕ). width_of c.args.pass.shape k) (sym c.requires.coll) in
    omega (arith, field, right, is)

pub returns-clause-done : goal.returns-clause-done
returns-clause-done c =
    let schema : Schema = c.in-Some.schema.now in
    let columns = schema.columns in
    let at = c.in-Some-column_at.at in
    let column : Column = c.index-columns-at.result in
    let known = c.as_slice-columns.ensures.columns in
    let by = subst (λ (k : Catalog). schema_of k c.args.place.table ≡ Some schema) c.requires.tables (sym c.in-Some.ensures.schema) in
    let named = sym (c.in-Some-column_at.ensures.place ∙ ap (λ (k : List Column). column_at k c.as_str.result.now) known ∙ ap (λ (k : List ℕ). column_at columns k) c.as_str.ensures) in
    let there = subst (λ (k : List Column). slice_get k at ≡ Some column) known (column-there c.as_slice-columns.result.now at column c.in-Some-column_at.ensures.within c.index-columns-at.is) in
    let is = c.place_of.ensures ∙ ap (λ (k : List Column). place_of k at) known in
    let word = c.word_of-word.result in
    let found = c.set_one-pass.result.1 in
    let last = c.set_one-pass.result.0 in
    let done = subst (λ (k : ℕ). DoesSome c.args.pass last (InSection (SetsField c.args.number k word found))) is c.set_one-pass.ensures.done in
    let one = subst (λ (k : Column). value_words k.kind c.args.value.now ≡ word ∷ []) (sym c.index-columns-at.is) c.word_of-word.ensures.word in
    sets-done (schema_of the_tables c.args.place.table) schema c.args.column.now c.args.value.now c.args.number at column word found c.args.pass last c.found_reply.result
    by named there one done c.found_reply.ensures
