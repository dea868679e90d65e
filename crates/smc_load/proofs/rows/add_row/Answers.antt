use Rattle.std.proofs.Common.{◌≡◌, ℕ, List, Result, Ok, Err, length, sym, subst, ap, ◌∙◌}
use Rattle.std.specs.Prelude.{IfOk, IsTrue}
use Rattle.smc_words.specs.Number.{FitsNumber}
use Rattle.smc_words.specs.declared.number.Number.{Number}
use Rattle.smc_shape.specs.Layout.{Layout, width_of}
use Rattle.smc_core.specs.Add.{has_no_blank}
use Rattle.smc_types.specs.declared.column.Column.{Column}
use Rattle.smc_does.specs.Does.{DoesSome}
use Rattle.smc_objects.specs.Alone.{AddsRow}
use Rattle.smc_objects.specs.declared.adding.Full.{Full}
use Rattle.smc_load.specs.Loading.{record_of}
use Rattle.smc_load.proofs.RecordLaws.{record-width}
use Rattle.smc_load.proofs.WordLaws.{are-small}
use Rattle.smc_load.proofs.rows.add_row.Goals as goal

pub add_one-pass-requires-clause-width : goal.add_one-pass-requires-clause-width
add_one-pass-requires-clause-width c =
    let schema = c.args.schema.now in
    let keys = c.args.keys.now in
    let words = c.args.words.now.items in
    let done = subst (λ (k : List Column). c.push_references.new.words.items ≡ record_of k keys words) c.as_slice.ensures.columns c.in-Ok.ensures.done in
    ap length c.deref.ensures.value ∙ ap length done ∙ record-width schema keys words c.requires.row ∙ c.requires.width
    ∙ ap (λ (k : Layout). width_of k c.args.coll) (sym c.requires.here.1)

pub add_one-pass-requires-clause-values : goal.add_one-pass-requires-clause-values
add_one-pass-requires-clause-values c =
    let small = are-small c.args.schema.now c.args.words.now.items c.requires.row in
    subst (λ (k : List ℕ). IsTrue (has_no_blank k)) (sym c.deref.ensures.value) (c.in-Ok.ensures.values small)

-- the object was added
pub returns-in-Ok-answer-clause-ends : goal.returns-in-Ok-answer-clause-ends
returns-in-Ok-answer-clause-ends c =
    let keys = c.args.keys.now in
    let words = c.args.words.now.items in
    let last = c.add_one-pass.result.0 in
    let number = c.in-Ok-answer.number in
    let done = subst (λ (k : List Column). c.push_references.new.words.items ≡ record_of k keys words) c.as_slice.ensures.columns c.in-Ok.ensures.done in
    let adds = subst (λ (k : Result Number Full). DoesSome c.args.pass last (AddsRow c.args.coll c.deref.result.now k)) c.in-Ok-answer.is c.add_one-pass.ensures.done in
    let as_record = subst (λ (k : List ℕ). DoesSome c.args.pass last (AddsRow c.args.coll k (Ok number))) (c.deref.ensures.value ∙ done) adds in
    let known = subst (λ (k : Result Number Full). IfOk k (λ n. FitsNumber n × (n.coll ≡ c.args.coll))) c.in-Ok-answer.is c.add_one-pass.ensures.number in
    (as_record.0, as_record.1, record { row = c.requires.row; home = known.1; adds = as_record.2 })

-- it was refused
pub returns-in-Err-clause-ends : goal.returns-in-Err-clause-ends
returns-in-Err-clause-ends c =
    let keys = c.args.keys.now in
    let words = c.args.words.now.items in
    let last = c.add_one-pass.result.0 in
    let done = subst (λ (k : List Column). c.push_references.new.words.items ≡ record_of k keys words) c.as_slice.ensures.columns c.in-Ok.ensures.done in
    let adds = subst (λ (k : Result Number Full). DoesSome c.args.pass last (AddsRow c.args.coll c.deref.result.now k)) c.in-Err.is c.add_one-pass.ensures.done in
    let as_record = subst (λ (k : List ℕ). DoesSome c.args.pass last (AddsRow c.args.coll k (Err c.in-Err.field-0))) (c.deref.ensures.value ∙ done) adds in
    (as_record.0, as_record.1, record { row = c.requires.row; cause = c.in-Err.field-0; adds = as_record.2 })
